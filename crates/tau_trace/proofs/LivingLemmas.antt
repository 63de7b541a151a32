-- The lists of living transactors, beside the records of all.
use Rattle.std.proofs.Common.{◌≡◌, ◌≢◌, ◌↔◌, ◌⊎◌, ⊎_elim, ℕ, ◌+◌, ◌<◌, ◌≤◌, Bool, true, false, List, [], ◌∷◌, ◌++◌, length, set, get_or, All, Contains, Option, Some, None, refl, sym, ap, ◌∙◌, subst, arith, length-set}
use Rattle.std.specs.Prelude.{slice_get, is_none, is_some, ◌&&◌}
use Rattle.std.proofs.lemmas.List.{get_or-set_same, get_or-set_other, get_or_default}
use Rattle.std.proofs.lemmas.List.Elements.{Contains-append_left, Contains-push, Contains-push_cases}
use Rattle.std.proofs.lemmas.Option.{slice_get_within}
use Rattle.std.proofs.lemmas.Bool.{cases_eq}
use Rattle.tau_history.specs.Timeline.{Move, keep, stabilize, close, fall}
use Rattle.tau_trace.specs.declared.step.Step.{Step}
use Rattle.tau_trace.specs.Histories.{move_of}
use Rattle.tau_trace.specs.Tracking.{transactor_after, end_after, ends_by}
use Rattle.tau_trace.specs.declared.transactor.Transactor.{Transactor}
use Rattle.tau_trace.specs.Ascending.{WithRoom, IsLeastMember}
use Rattle.tau_trace.specs.Living.{ChangesAt, Keeps, Gains, Loses, no_list, Stands, Lives, IsLivingIndex, IsLeastLiving}
use Rattle.tau_trace.proofs.Lists.{same_some, slice_get-set_same, slice_get-set_other, slice_get-front, slice_get-last, slice_get-push_cases}

abbrev list_at : List WithRoom → ℕ → WithRoom
list_at lists n = get_or lists n no_list

-- the changed list, and the others
changed : {R : WithRoom → WithRoom → Type 0} (i : ℕ) (old new : List WithRoom) → i < length old → (c : ChangesAt i R old new) → list_at new i ≡ c.part
changed i old new l c = ap (λ xs. list_at xs i) c.is ∙ get_or-set_same old i c.part no_list l

unchanged : {R : WithRoom → WithRoom → Type 0} (i n : ℕ) (old new : List WithRoom) → n ≢ i → ChangesAt i R old new → list_at new n ≡ list_at old n
unchanged i n old new ne c = ap (λ xs. list_at xs n) c.is ∙ get_or-set_other old i n c.part no_list ne

same_length : {R : WithRoom → WithRoom → Type 0} (i : ℕ) (old new : List WithRoom) → ChangesAt i R old new → length new ≡ length old
same_length i old new c = ap length c.is ∙ length-set old i c.part

along : (xs ys : List ℕ) (t : ℕ) → xs ≡ ys → Contains xs t → Contains ys t
along xs ys t e h = subst (λ zs. Contains zs t) e h

-- the index after room was made at one node
pub index_kept : (ts : List Transactor) (old new : List WithRoom) (full : Option ℕ) (i : ℕ) → i < length old → ChangesAt i Keeps old new → IsLivingIndex ts old full → IsLivingIndex ts new full
index_kept ts old new full i l c x = record {
  members = λ n t. (λ s. (x.members n t).0 (along _ _ t (numbers n) s), λ v. along _ _ t (sym (numbers n)) ((x.members n t).1 v));
  homes = λ t r e. omega (arith, x.homes t r e, same_length i old new c);
  room = λ n h ne. omega (arith, x.room n (omega (arith, h, same_length i old new c)) ne, rooms n);
  full_within = λ n e. omega (arith, x.full_within n e, same_length i old new c);
} where
  numbers : (n : ℕ) → (list_at new n).numbers ≡ (list_at old n).numbers
  numbers n = ⊎_elim
      (λ e. ap (λ k. (list_at new k).numbers) e ∙ ap (λ a. a.numbers) (changed i old new l c) ∙ (c.related no_list).0 ∙ ap (λ k. (list_at old k).numbers) (sym e))
      (λ ne. ap (λ a. a.numbers) (unchanged i n old new ne c))
      (cases_eq n i)

  rooms : (n : ℕ) → (list_at old n).room ≤ (list_at new n).room
  rooms n = ⊎_elim
      (λ e. omega (arith, ap (λ k. (list_at new k).room) e, ap (λ a. a.room) (changed i old new l c), (c.related no_list).1, ap (λ k. (list_at old k).room) e))
      (λ ne. omega (arith, ap (λ a. a.room) (unchanged i n old new ne c)))
      (cases_eq n i)

-- where the full list has room again, all have
pub index_ready : (ts : List Transactor) (lists : List WithRoom) (i : ℕ) → 1 ≤ (list_at lists i).room → IsLivingIndex ts lists (Some i) → IsLivingIndex ts lists None
index_ready ts lists i r x = record {
  members = x.members;
  homes = x.homes;
  room = λ n h ne. ⊎_elim (λ (e : n ≡ i). omega (arith, r, ap (λ k. (list_at lists k).room) e)) (λ other. x.room n h (λ e. other (sym (same_some e)))) (cases_eq n i);
  full_within = λ n e. absurd (cc);
}

-- a transactor in a list has a number below that of the next one
pub below_count : (ts : List Transactor) (lists : List WithRoom) (full : Option ℕ) (n : ℕ) → n < length lists → IsLivingIndex ts lists full → (d : WithRoom) → All (λ t. t < length ts) (get_or lists n d).numbers
below_count ts lists full n l x d k e h =
    let is : get_or lists n d ≡ list_at lists n = get_or_default lists n d no_list l in
    let within : k < length (list_at lists n).numbers = omega (arith, h, ap (λ a. length a.numbers) is) in
    let t = get_or (list_at lists n).numbers k e in
    let lives = (x.members n t).0 (k, within, get_or_default (list_at lists n).numbers k t e within) in
    let below = slice_get_within ts t lives.transactor lives.stands in
    omega (arith, below, ap (λ a. get_or a.numbers k e) is)

-- the index after a transactor was added
pub index_added : (ts : List Transactor) (old new : List WithRoom) (r : Transactor) → r.home < length old → r.end ≡ None → ChangesAt r.home (Gains (length ts)) old new → IsLivingIndex ts old None → IsLivingIndex (ts ++ r ∷ []) new (Some r.home)
index_added ts old new r l living c x = record {
  members = λ n t. (to n t, from n t);
  homes = λ t q e. ⊎_elim (λ f. omega (arith, x.homes t q f, same_length r.home old new c)) (λ f. omega (arith, l, ap (λ a. a.home) f.1, same_length r.home old new c)) (slice_get-push_cases ts r q t e);
  room = λ n h ne. ⊎_elim (λ e. absurd (ne (ap Some (sym e)))) (λ other. omega (arith, x.room n (omega (arith, h, same_length r.home old new c)) (λ e. cc), ap (λ a. a.room) (unchanged r.home n old new other c))) (cases_eq n r.home);
  full_within = λ n e. omega (arith, l, same_some e, same_length r.home old new c);
} where
  here : (list_at new r.home).numbers ≡ (list_at old r.home).numbers ++ length ts ∷ []
  here = ap (λ a. a.numbers) (changed r.home old new l c) ∙ c.related no_list

  lifted : (n t : ℕ) → Lives ts n t → Lives (ts ++ r ∷ []) n t
  lifted n t v = record {
    transactor = v.transactor;
    stands = sym (slice_get-front ts r t (slice_get_within ts t v.transactor v.stands)) ∙ v.stands;
    home_is = v.home_is;
    end_is = v.end_is;
  }

  to : (n t : ℕ) → Stands new n t → Lives (ts ++ r ∷ []) n t
  to n t s = ⊎_elim at other (cases_eq n r.home) where
    other : n ≢ r.home → Lives (ts ++ r ∷ []) n t
    other ne = lifted n t ((x.members n t).0 (along _ _ t (ap (λ a. a.numbers) (unchanged r.home n old new ne c)) s))

    at : n ≡ r.home → Lives (ts ++ r ∷ []) n t
    at e = ⊎_elim
        (λ old_one. lifted n t ((x.members n t).0 (along _ _ t (ap (λ k. (list_at old k).numbers) (sym e)) old_one)))
        (λ (new_one : length ts ≡ t). record { transactor = r; stands = subst (λ k. slice_get (ts ++ r ∷ []) k ≡ Some r) new_one (slice_get-last ts r); home_is = sym e; end_is = living })
        (Contains-push_cases (list_at old r.home).numbers (length ts) t (along _ _ t (ap (λ k. (list_at new k).numbers) e ∙ here) s))

  from : (n t : ℕ) → Lives (ts ++ r ∷ []) n t → Stands new n t
  from n t v = ⊎_elim old_one new_one (slice_get-push_cases ts r v.transactor t v.stands) where
    old_one : slice_get ts t ≡ Some v.transactor → Stands new n t
    old_one e =
        let stood = (x.members n t).1 (record { transactor = v.transactor; stands = e; home_is = v.home_is; end_is = v.end_is }) in
        ⊎_elim
        (λ (f : n ≡ r.home). along _ _ t (sym (ap (λ k. (list_at new k).numbers) f ∙ here)) (Contains-append_left (list_at old r.home).numbers (length ts ∷ []) t (along _ _ t (ap (λ k. (list_at old k).numbers) f) stood)))
        (λ ne. along _ _ t (sym (ap (λ a. a.numbers) (unchanged r.home n old new ne c))) stood)
        (cases_eq n r.home)

    new_one : (t ≡ length ts) × (r ≡ v.transactor) → Stands new n t
    new_one p =
        let f : n ≡ r.home = sym v.home_is ∙ ap (λ a. a.home) (sym p.1) in
        along _ _ t (sym (ap (λ k. (list_at new k).numbers) f ∙ here)) (subst (λ k. Contains ((list_at old r.home).numbers ++ length ts ∷ []) k) (sym p.0) (Contains-push (list_at old r.home).numbers (length ts)))

-- who lives, after a write of one record
lives_other : (ts : List Transactor) (who n t : ℕ) (q : Transactor) → t ≢ who → Lives ts n t ↔ Lives (set ts who q) n t
lives_other ts who n t q ne = (
  λ v. record { transactor = v.transactor; stands = slice_get-set_other ts who t q ne ∙ v.stands; home_is = v.home_is; end_is = v.end_is },
  λ v. record { transactor = v.transactor; stands = sym (slice_get-set_other ts who t q ne) ∙ v.stands; home_is = v.home_is; end_is = v.end_is },
)

homes_set : (ts : List Transactor) (who : ℕ) (r q : Transactor) (m : ℕ) → slice_get ts who ≡ Some r → q.home ≡ r.home → ((t : ℕ) (a : Transactor) → slice_get ts t ≡ Some a → a.home < m) → (t : ℕ) (a : Transactor) → slice_get (set ts who q) t ≡ Some a → a.home < m
homes_set ts who r q m e f h t a g = ⊎_elim
    (λ (i : t ≡ who). let is : q ≡ a = same_some (sym (slice_get-set_same ts who q (slice_get_within ts who r e)) ∙ ap (slice_get (set ts who q)) (sym i) ∙ g) in omega (arith, h who r e, f, ap (λ b. b.home) is))
    (λ ne. h t a (sym (slice_get-set_other ts who t q ne) ∙ g))
    (cases_eq t who)

-- the index after a step that didn't end its transactor
pub index_same : (ts : List Transactor) (lists : List WithRoom) (full : Option ℕ) (who : ℕ) (r q : Transactor) → slice_get ts who ≡ Some r → q.home ≡ r.home → ((r.end ≡ None) ↔ (q.end ≡ None)) → IsLivingIndex ts lists full → IsLivingIndex (set ts who q) lists full
index_same ts lists full who r q e home same x = record {
  members = λ n t. (λ s. (lives n t).0 ((x.members n t).0 s), λ v. (x.members n t).1 ((lives n t).1 v));
  homes = homes_set ts who r q (length lists) e home x.homes;
  room = x.room;
  full_within = x.full_within;
} where
  written : slice_get (set ts who q) who ≡ Some q
  written = slice_get-set_same ts who q (slice_get_within ts who r e)

  at_who : (n : ℕ) → Lives ts n who ↔ Lives (set ts who q) n who
  at_who n = (
    λ v. let is : v.transactor ≡ r = same_some (sym v.stands ∙ e) in record { transactor = q; stands = written; home_is = home ∙ ap (λ a. a.home) (sym is) ∙ v.home_is; end_is = same.0 (ap (λ a. a.end) (sym is) ∙ v.end_is) },
    λ v. let is : v.transactor ≡ q = same_some (sym v.stands ∙ written) in record { transactor = r; stands = e; home_is = sym home ∙ ap (λ a. a.home) (sym is) ∙ v.home_is; end_is = same.1 (ap (λ a. a.end) (sym is) ∙ v.end_is) },
  )

  lives : (n t : ℕ) → Lives ts n t ↔ Lives (set ts who q) n t
  lives n t = ⊎_elim
      (λ (i : t ≡ who). subst (λ k. Lives ts n k ↔ Lives (set ts who q) n k) (sym i) (at_who n))
      (λ ne. lives_other ts who n t q ne)
      (cases_eq t who)

-- the index after a step that ended its transactor
pub index_ended : (ts : List Transactor) (old new : List WithRoom) (full : Option ℕ) (who : ℕ) (r q : Transactor) → slice_get ts who ≡ Some r → q.home ≡ r.home → q.end ≢ None → ChangesAt r.home (Loses who) old new → IsLivingIndex ts old full → IsLivingIndex (set ts who q) new full
index_ended ts old new full who r q e home ended c x = record {
  members = λ n t. (to n t, from n t);
  homes = λ t a g. omega (arith, homes_set ts who r q (length old) e home x.homes t a g, same_length r.home old new c);
  room = λ n h ne. omega (arith, x.room n (omega (arith, h, same_length r.home old new c)) ne, rooms n);
  full_within = λ n g. omega (arith, x.full_within n g, same_length r.home old new c);
} where
  at_home : list_at new r.home ≡ c.part
  at_home = changed r.home old new (x.homes who r e) c

  written : slice_get (set ts who q) who ≡ Some q
  written = slice_get-set_same ts who q (slice_get_within ts who r e)

  rooms : (n : ℕ) → (list_at old n).room ≤ (list_at new n).room
  rooms n = ⊎_elim
      (λ f. omega (arith, ap (λ k. (list_at new k).room) f, ap (λ a. a.room) at_home, (c.related no_list).1, ap (λ k. (list_at old k).room) f))
      (λ ne. omega (arith, ap (λ a. a.room) (unchanged r.home n old new ne c)))
      (cases_eq n r.home)

  gone : (n : ℕ) → ¬ Lives (set ts who q) n who
  gone n v = ended (ap (λ a. a.end) (sym (same_some (sym v.stands ∙ written))) ∙ v.end_is)

  to : (n t : ℕ) → Stands new n t → Lives (set ts who q) n t
  to n t s = ⊎_elim at other (cases_eq n r.home) where
    at : n ≡ r.home → Lives (set ts who q) n t
    at f =
        let stood = ((c.related no_list).0 t).0 (along _ _ t (ap (λ k. (list_at new k).numbers) f ∙ ap (λ a. a.numbers) at_home) s) in
        (lives_other ts who n t q stood.1).0 ((x.members n t).0 (along _ _ t (ap (λ k. (list_at old k).numbers) (sym f)) stood.0))

    other : n ≢ r.home → Lives (set ts who q) n t
    other ne =
        let lived = (x.members n t).0 (along _ _ t (ap (λ a. a.numbers) (unchanged r.home n old new ne c)) s) in
        let not_who : t ≢ who = λ i. ne (sym lived.home_is ∙ ap (λ a. a.home) (same_some (sym lived.stands ∙ ap (slice_get ts) i ∙ e))) in
        (lives_other ts who n t q not_who).0 lived

  from : (n t : ℕ) → Lives (set ts who q) n t → Stands new n t
  from n t v =
      let not_who : t ≢ who = λ i. gone n (subst (λ k. Lives (set ts who q) n k) i v) in
      let stood = (x.members n t).1 ((lives_other ts who n t q not_who).1 v) in
      ⊎_elim
      (λ (f : n ≡ r.home). along _ _ t (sym (ap (λ k. (list_at new k).numbers) f ∙ ap (λ a. a.numbers) at_home)) (((c.related no_list).0 t).1 (along _ _ t (ap (λ k. (list_at old k).numbers) f) stood, not_who)))
      (λ ne. along _ _ t (sym (ap (λ a. a.numbers) (unchanged r.home n old new ne c))) stood)
      (cases_eq n r.home)

-- the least of a node's list is the least that lives there
pub least_living : (ts : List Transactor) (lists : List WithRoom) (full : Option ℕ) (n from : ℕ) (o : Option ℕ) → IsLivingIndex ts lists full → IsLeastMember from (list_at lists n).numbers o → IsLeastLiving ts n from o
least_living ts lists full n from None x m = λ t v. m t ((x.members n t).1 v)
least_living ts lists full n from (Some r) x m = (m.0, (x.members n r).0 m.1, λ t v l. m.2 t ((x.members n t).1 v) l)

end_kept : (m : Move) (k : ℕ) (b : Bool) (e : Option ℕ) → end_after m k b e ≡ None → e ≡ None
end_kept keep k b e h = h
end_kept stabilize k b e h = h
end_kept close k b e h = h
end_kept fall k b None h = refl
end_kept fall k true (Some j) h = h
end_kept fall k false (Some j) h = h

not_ended : (a b : Option ℕ) → is_none a && is_some b ≡ false → a ≡ None → b ≡ None
not_ended None None h e = refl
not_ended None (Some j) h e = absurd (cc)
not_ended (Some i) b h e = absurd (cc)

has_ended : (a b : Option ℕ) → is_none a && is_some b ≡ true → b ≢ None
has_ended None None h e = cc
has_ended None (Some j) h e = cc
has_ended (Some i) b h e = cc

-- the index after a step, that ended its transactor or didn't
pub index_noted : (ts : List Transactor) (lists : List WithRoom) (full : Option ℕ) (who k : ℕ) (s : Step) (r q : Transactor) → slice_get ts who ≡ Some r → q ≡ transactor_after s k r → ends_by r q ≡ false → IsLivingIndex ts lists full → IsLivingIndex (set ts who q) lists full
index_noted ts lists full who k s r q e is no_end x = index_same ts lists full who r q e (ap (λ a. a.home) is) (λ h. not_ended r.end q.end no_end h, λ h. end_kept (move_of r.stable s) k r.at_opening r.end (sym (ap (λ a. a.end) is) ∙ h)) x

pub index_noted_end : (ts : List Transactor) (old new : List WithRoom) (full : Option ℕ) (who k : ℕ) (s : Step) (r q : Transactor) → slice_get ts who ≡ Some r → q ≡ transactor_after s k r → ends_by r q ≡ true → ChangesAt r.home (Loses who) old new → IsLivingIndex ts old full → IsLivingIndex (set ts who q) new full
index_noted_end ts old new full who k s r q e is ended c x = index_ended ts old new full who r q e (ap (λ a. a.home) is) (has_ended r.end q.end ended) c x

-- the same for a list that is read with another default
pub loses_at : (who : ℕ) (a b old new : WithRoom) → a ≡ b → old ≡ b → Loses who old new → Loses who a new
loses_at who a b old new e f h = let F : WithRoom → Type 0 = λ x. Loses who x new in subst F (f ∙ sym e) h

-- the least member of a list that is the same
pub least_at : (from : ℕ) (a b : WithRoom) (o : Option ℕ) → a ≡ b → IsLeastMember from a.numbers o → IsLeastMember from b.numbers o
least_at from a b o e h = let F : WithRoom → Type 0 = λ x. IsLeastMember from x.numbers o in subst F e h

pub no_full : (b : Bool) (o : Option ℕ) → b && is_none o ≡ true → o ≡ None
no_full true None h = refl
no_full true (Some n) h = absurd (cc)
no_full false o h = absurd (cc)

-- what a note leaves, in the words of its contract
pub noted : (ts us : List Transactor) (who k : ℕ) (s : Step) (before after t : Transactor) → ts ≡ us → slice_get ts who ≡ Some before → after ≡ transactor_after s k before → slice_get us who ≡ Some t → set ts who after ≡ set us who (transactor_after s k t)
noted ts us who k s before after t e here is there =
    let same : before ≡ t = same_some (sym here ∙ ap (λ xs. slice_get xs who) e ∙ there) in
    λ i. set (e i) who ((is ∙ ap (transactor_after s k) same) i)
