-- The ranks of transactors, and what a layout says by them.
use Rattle.std.proofs.Common.{◌≡◌, ◌≢◌, ◌⊎◌, inl, inr, ⊎_elim, ℕ, zero, suc, ◌+◌, ◌≤◌, ◌<◌, List, [], ◌∷◌, set, Option, Some, None, length, refl, sym, ap, ◌∙◌, subst, arith}
use Rattle.std.specs.Prelude.{slice_get, option_map}
use Rattle.std.proofs.lemmas.Bool.{cases_eq}
use Rattle.std.proofs.lemmas.List.{length-map, length-set}
use Rattle.std.proofs.lemmas.Option.{slice_get_within, slice_get-map}
use Rattle.tau_trace.proofs.Lists.{same_some, slice_get-set_same, slice_get-set_other}
use Rattle.tau_layout.specs.declared.columns.Column.{Column}
use Rattle.tau_layout.specs.declared.lanes.Lane.{Lane}
use Rattle.tau_layout.specs.Plans.{Plan, lane_x, HasRank, IsRank, HasX, IsX}
use Rattle.tau_layout.specs.Inner.Laying.{lane_of, lanes_of, AreRanks, Ranks}

at_or_before : (j k : ℕ) → j < k + 1 → (j ≡ k) ⊎ (j < k)
at_or_before j k l = grind arith

module _ (lanes : List Lane) (k : ℕ) (l : Lane) (old : List (Option ℕ)) (a : AreRanks lanes k old) (at : slice_get lanes k ≡ Some l) where
  -- a rank is noted
  only_there : (t rank : ℕ) → l.who < length old → (t ≡ l.who) ⊎ (t ≢ l.who) → slice_get (set old l.who (Some k)) t ≡ Some (Some rank) → (rank < k + 1) × ((m : Lane) × (slice_get lanes rank ≡ Some m) × (m.who ≡ t))
  only_there t rank lt (inl e) h =
      let same : rank ≡ k = same_some (same_some (sym h ∙ ap (slice_get (set old l.who (Some k))) e ∙ slice_get-set_same old l.who (Some k) lt)) in
      (omega (arith, same), (l, ap (slice_get lanes) same ∙ at, sym e))
  only_there t rank lt (inr ne) h =
      let p = a.only t rank (sym (slice_get-set_other old l.who t (Some k) ne) ∙ h) in
      (omega (arith, p.0), p.1)

  all_there : (rank : ℕ) (m : Lane) → l.who < length old → (m.who ≡ l.who) ⊎ (m.who ≢ l.who) → (rank ≡ k) ⊎ (rank < k) → slice_get lanes rank ≡ Some m → m.who < length old → (r : ℕ) × (slice_get (set old l.who (Some k)) m.who ≡ Some (Some r))
  all_there rank m lt (inl e) q h w = (k, ap (slice_get (set old l.who (Some k))) e ∙ slice_get-set_same old l.who (Some k) lt)
  all_there rank m lt (inr ne) (inl e) h w = absurd (ne (ap (λ x. x.who) (same_some (sym h ∙ ap (slice_get lanes) e ∙ at))))
  all_there rank m lt (inr ne) (inr b) h w =
      let p = a.all rank m b h w in
      (p.0, slice_get-set_other old l.who m.who (Some k) ne ∙ p.1)

  noted : l.who < length old → AreRanks lanes (k + 1) (set old l.who (Some k))
  noted lt = record {
    only = λ t rank h. only_there t rank lt (cases_eq t l.who) h;
    all = λ rank m b h w. all_there rank m lt (cases_eq m.who l.who) (at_or_before rank k b) h (omega (arith, w, length-set old l.who (Some k)));
  }

  -- or it isn't
  all_same : (rank : ℕ) (m : Lane) → length old ≤ l.who → (rank ≡ k) ⊎ (rank < k) → slice_get lanes rank ≡ Some m → m.who < length old → (r : ℕ) × (slice_get old m.who ≡ Some (Some r))
  all_same rank m out (inl e) h w = absurd (omega (arith, w, out, ap (λ x. x.who) (same_some (sym h ∙ ap (slice_get lanes) e ∙ at))))
  all_same rank m out (inr b) h w = a.all rank m b h w

  passed : length old ≤ l.who → AreRanks lanes (k + 1) old
  passed out = record {
    only = λ t rank h. let p = a.only t rank h in (omega (arith, p.0), p.1);
    all = λ rank m b h w. all_same rank m out (at_or_before rank k b) h w;
  }

none_past : (xs : List (Option ℕ)) (i : ℕ) → slice_get xs i ≡ None → length xs ≤ i
none_past [] i e = omega arith
none_past (x ∷ xs) zero e = absurd (cc)
none_past (x ∷ xs) (suc i) e = omega (arith, none_past xs i e)

cases_lt : (a b : ℕ) → (a < b) ⊎ (b ≤ a)
cases_lt a b = grind arith

pub ranks_next : (lanes : List Lane) (k : ℕ) (l : Lane) (old new : List (Option ℕ)) → AreRanks lanes k old → slice_get lanes k ≡ Some l → Ranks l.who k old new → AreRanks lanes (k + 1) new
ranks_next lanes k l old new a at r = ⊎_elim
    (λ lt. subst (AreRanks lanes (k + 1)) (sym (r.1 lt)) (noted lanes k l old a at lt))
    (λ out. subst (AreRanks lanes (k + 1)) (sym (r.2 out)) (passed lanes k l old a at out))
    (cases_lt l.who (length old))

not_both : (r : ℕ) → None ≡ Some r → ⊥
not_both r x = cc

module _ (plan : Plan) (columns : List Column) (ranks : List (Option ℕ)) (are : plan.lanes ≡ lanes_of columns) (told : AreRanks (lanes_of columns) (length columns) ranks) where
  below : (rank : ℕ) (l : Lane) → slice_get (lanes_of columns) rank ≡ Some l → rank < length columns
  below rank l e = omega (arith, slice_get_within (lanes_of columns) rank l e, length-map columns lane_of)

  -- the rank of a transactor, by what is noted
  pub rank_told : (t : ℕ) (o : Option ℕ) → slice_get ranks t ≡ Some o → IsRank plan t o
  rank_told t None e = λ rank h.
      let at = ap (λ ls. slice_get ls rank) (sym are) ∙ h.at_rank in
      let p = told.all rank h.lane (below rank h.lane at) at (omega (arith, h.of, slice_get_within ranks t None e)) in
      let same = ap (slice_get ranks) h.of in
      let other = p.1 in
      absurd (not_both p.0 (same_some (sym e ∙ sym same ∙ other)))
  rank_told t (Some r) e =
      let p = (told.only t r e).1 in
      record { lane = p.0; at_rank = ap (λ ls. slice_get ls r) are ∙ p.1; of = p.2 }

  pub rank_past : (t : ℕ) → ((rank : ℕ) (l : Lane) → slice_get (lanes_of columns) rank ≡ Some l → l.who < length ranks) → slice_get ranks t ≡ None → IsRank plan t None
  rank_past t known e = λ rank h.
      let lt = known rank h.lane (ap (λ ls. slice_get ls rank) (sym are) ∙ h.at_rank) in
      absurd (omega (arith, lt, h.of, none_past ranks t e))

  -- the middle of its lane
  pub x_told : (t rank x : ℕ) → ((r : ℕ) (c : Column) → slice_get columns r ≡ Some c → c.x ≡ lane_x plan r (lane_of c)) → HasRank plan t rank → option_map (λ (c : Column). c.x) (slice_get columns rank) ≡ Some x → HasX plan t x
  x_told t rank x each h e = x_by t rank x each h (slice_get columns rank) refl e where
    x_by : (t rank x : ℕ) → ((r : ℕ) (c : Column) → slice_get columns r ≡ Some c → c.x ≡ lane_x plan r (lane_of c)) → (h : HasRank plan t rank) → (o : Option Column) → slice_get columns rank ≡ o → option_map (λ (c : Column). c.x) o ≡ Some x → HasX plan t x
    x_by t rank x each h None at e = absurd (cc)
    x_by t rank x each h (Some c) at e =
        let lane : h.lane ≡ lane_of c = same_some (sym h.at_rank ∙ ap (λ ls. slice_get ls rank) are ∙ slice_get-map lane_of columns rank ∙ ap (option_map lane_of) at) in
        record { rank = rank; ranked = h; is = sym (same_some e) ∙ each rank c at ∙ ap (lane_x plan rank) (sym lane) }

  pub x_past : (t rank : ℕ) → HasRank plan t rank → option_map (λ (c : Column). c.x) (slice_get columns rank) ≡ None → ⊥
  x_past t rank h e = x_none (slice_get columns rank) refl e where
    x_none : (o : Option Column) → slice_get columns rank ≡ o → option_map (λ (c : Column). c.x) o ≡ None → ⊥
    x_none None at f =
        let lane = sym h.at_rank ∙ ap (λ ls. slice_get ls rank) are ∙ slice_get-map lane_of columns rank ∙ ap (option_map lane_of) at in
        cc
    x_none (Some c) at f = cc

  pub x_is : (t rank : ℕ) (r : Option ℕ) → ((r : ℕ) (c : Column) → slice_get columns r ≡ Some c → c.x ≡ lane_x plan r (lane_of c)) → HasRank plan t rank → r ≡ option_map (λ (c : Column). c.x) (slice_get columns rank) → IsX plan t r
  x_is t rank None each h e = absurd (x_past t rank h (sym e))
  x_is t rank (Some x) each h e = x_told t rank x each h (sym e)
