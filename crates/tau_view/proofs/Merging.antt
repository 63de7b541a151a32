-- The merge of two ascending lists of histories.
use Rattle.std.proofs.Common.{◌≡◌, ℕ, ◌+◌, ◌<◌, ◌≤◌, ◌⊎◌, ⊎_elim, Option, Some, None, Ordering, Less, Equal, Greater, List, [], ◌∷◌, ◌++◌, length, ◌-◌, get_or, take, drop, length-drop, refl, sym, ap, ◌∙◌, subst, add-one, arith}
use Rattle.std.specs.Ordering.{nat_cmp}
use Rattle.std.specs.Cmp.{ranked}
use Rattle.std.proofs.Math.Seq.{drop-cons}
use Rattle.std.proofs.lemmas.List.{get_or-map, length-map, map-append, append-nil, drop_all, take_all, take_more, drop-map}
use Rattle.std.proofs.lemmas.Bool.{cases_eq}
use Rattle.tau_history.specs.Timeline.{Timeline}
use Rattle.tau_view.specs.declared.entry.Entry.{Entry}
use Rattle.tau_view.specs.Entries.{entry_of, entries_of}
use Rattle.tau_view.specs.Inner.Places.{Between, blank}
use Rattle.tau_history.specs.Order.{AreComparable, later_of}
use Rattle.tau_view.specs.Held.{AllComparable}
use Rattle.tau_view.specs.Rules.{later_history, merged_in}
use Rattle.tau_view.specs.Stored.{AscendsFrom, history_in}
use Rattle.tau_view.proofs.Ascending.{Entries, or_else, with_rest, takes_ours, takes_theirs, takes_later, between_append, ascends_append, history_in-append, history_in-at, history_in-here, history_in-past}

-- what is built so far, and what is left of both lists, have the wanted histories
pub record Merging (wanted : ℕ → Option Timeline) (out rs ss : Entries) : Type 0 where
  pub floor : ℕ
  pub built : Between 0 floor out
  pub ours : AscendsFrom floor rs
  pub theirs : AscendsFrom floor ss
  pub same : (u : ℕ) → with_rest out rs ss u ≡ wanted u

module _ (wanted : ℕ → Option Timeline) (out : Entries) where
  pub take_ours : (e : ℕ × Timeline) (rs ss : Entries) → Merging wanted out (e ∷ rs) ss → AscendsFrom (e.0 + 1) ss → Merging wanted (out ++ e ∷ []) rs ss
  take_ours e rs ss m a = record {
    floor = e.0 + 1;
    built = between_append 0 m.floor (e.0 + 1) out (e ∷ []) m.built (m.ours.0, omega arith);
    ours = m.ours.1;
    theirs = a;
    same = λ u. takes_ours out rs ss e u a ∙ m.same u;
  }

  pub take_theirs : (e : ℕ × Timeline) (rs ss : Entries) → Merging wanted out rs (e ∷ ss) → AscendsFrom (e.0 + 1) rs → Merging wanted (out ++ e ∷ []) rs ss
  take_theirs e rs ss m a = record {
    floor = e.0 + 1;
    built = between_append 0 m.floor (e.0 + 1) out (e ∷ []) m.built (m.theirs.0, omega arith);
    ours = a;
    theirs = m.theirs.1;
    same = λ u. takes_theirs out rs ss e u a ∙ m.same u;
  }

  pub take_later : (w : ℕ) (h k : Timeline) (rs ss : Entries) → Merging wanted out ((w, h) ∷ rs) ((w, k) ∷ ss) → Merging wanted (out ++ (w, later_of h k) ∷ []) rs ss
  take_later w h k rs ss m = record {
    floor = w + 1;
    built = between_append 0 m.floor (w + 1) out ((w, later_of h k) ∷ []) m.built (m.ours.0, omega arith);
    ours = m.ours.1;
    theirs = m.theirs.1;
    same = λ u. takes_later out rs ss w h k u ∙ m.same u;
  }

later_history-right : (o : Option Timeline) → later_history o None ≡ o
later_history-right None = refl
later_history-right (Some h) = refl

-- where one of the lists is through, the rest of the other completes the merge
pub record Merged (wanted : ℕ → Option Timeline) (all : Entries) : Type 0 where
  pub ascends : AscendsFrom 0 all
  pub histories : history_in all ≡ wanted

pub ours_left : (wanted : ℕ → Option Timeline) (out rs : Entries) → Merging wanted out rs [] → Merged wanted (out ++ rs)
ours_left wanted out rs m = record {
  ascends = ascends_append 0 m.floor out rs m.built m.ours;
  histories = λ i u. (history_in-append out rs u ∙ ap (or_else (history_in out u)) (sym (later_history-right (history_in rs u))) ∙ m.same u) i;
}

pub theirs_left : (wanted : ℕ → Option Timeline) (out ss : Entries) → Merging wanted out [] ss → Merged wanted (out ++ ss)
theirs_left wanted out ss m = record {
  ascends = ascends_append 0 m.floor out ss m.built m.theirs;
  histories = λ i u. (history_in-append out ss u ∙ m.same u) i;
}

-- the entry at a place, as a transactor and its history
abbrev pub at : List Entry → ℕ → ℕ × Timeline
at es k = get_or (entries_of es) k blank

pub read_at : (es : List Entry) (k : ℕ) (x : Entry) → k < length es → entry_of (get_or es k x) ≡ at es k
read_at es k x h = sym (get_or-map entry_of es k x blank h)

rest_from : (es : List Entry) (k : ℕ) → k < length es → drop k (entries_of es) ≡ at es k ∷ drop (k + 1) (entries_of es)
rest_from es k h =
    let within : k < length (entries_of es) = omega (arith, length-map es entry_of) in
    rw (add-one) (drop-cons (entries_of es) k blank within)

through : (es : List Entry) (k : ℕ) → length es ≤ k → drop k (entries_of es) ≡ []
through es k h = drop_all k (entries_of es) (omega (arith, length-map es entry_of))

pub pushed : (all more : List Entry) (x : Entry) (a : ℕ × Timeline) → more ≡ all ++ x ∷ [] → x.who ≡ a.0 → x.history.history ≡ a.1 → entries_of more ≡ entries_of all ++ a ∷ []
pushed all more x a e w h = ap entries_of e ∙ map-append entry_of all (x ∷ []) ∙ (λ i. entries_of all ++ (w i, h i) ∷ [])

module _ (ours theirs : List Entry) where
  abbrev pub goal_of : ℕ → Option Timeline
  goal_of = merged_in (history_in (entries_of ours)) (history_in (entries_of theirs))

  abbrev pub State : Entries → ℕ → ℕ → Type 0
  State out i j = Merging goal_of out (drop i (entries_of ours)) (drop j (entries_of theirs))

  opened : (out : Entries) (i j : ℕ) → i < length ours → j < length theirs → State out i j → Merging goal_of out (at ours i ∷ drop (i + 1) (entries_of ours)) (at theirs j ∷ drop (j + 1) (entries_of theirs))
  opened out i j p q m = subst (λ rs. Merging goal_of out rs (at theirs j ∷ drop (j + 1) (entries_of theirs))) (rest_from ours i p) (subst (Merging goal_of out (drop i (entries_of ours))) (rest_from theirs j q) m)

  pub less_step : (out : Entries) (i j : ℕ) → i < length ours → j < length theirs → (at ours i).0 < (at theirs j).0 → State out i j → State (out ++ at ours i ∷ []) (i + 1) j
  less_step out i j p q l m =
      let o = opened out i j p q m in
      subst (Merging goal_of (out ++ at ours i ∷ []) (drop (i + 1) (entries_of ours))) (sym (rest_from theirs j q))
      (take_ours goal_of out (at ours i) (drop (i + 1) (entries_of ours)) (at theirs j ∷ drop (j + 1) (entries_of theirs)) o (omega arith, o.theirs.1))

  pub greater_step : (out : Entries) (i j : ℕ) → i < length ours → j < length theirs → (at theirs j).0 < (at ours i).0 → State out i j → State (out ++ at theirs j ∷ []) i (j + 1)
  greater_step out i j p q l m =
      let o = opened out i j p q m in
      subst (λ rs. Merging goal_of (out ++ at theirs j ∷ []) rs (drop (j + 1) (entries_of theirs))) (sym (rest_from ours i p))
      (take_theirs goal_of out (at theirs j) (at ours i ∷ drop (i + 1) (entries_of ours)) (drop (j + 1) (entries_of theirs)) o (omega arith, o.ours.1))

  pub equal_step : (out : Entries) (i j : ℕ) → i < length ours → j < length theirs → (at ours i).0 ≡ (at theirs j).0 → State out i j → State (out ++ ((at ours i).0, later_of (at ours i).1 (at theirs j).1) ∷ []) (i + 1) (j + 1)
  equal_step out i j p q e m =
      let o = opened out i j p q m in
      let same : Merging goal_of out (at ours i ∷ drop (i + 1) (entries_of ours)) (((at ours i).0, (at theirs j).1) ∷ drop (j + 1) (entries_of theirs)) = subst (λ w. Merging goal_of out (at ours i ∷ drop (i + 1) (entries_of ours)) ((w, (at theirs j).1) ∷ drop (j + 1) (entries_of theirs))) (sym e) o in
      take_later goal_of out (at ours i).0 (at ours i).1 (at theirs j).1 (drop (i + 1) (entries_of ours)) (drop (j + 1) (entries_of theirs)) same

  pub comparable_at : (i j : ℕ) → i < length ours → j < length theirs → AscendsFrom 0 (entries_of ours) → AscendsFrom 0 (entries_of theirs) → (at ours i).0 ≡ (at theirs j).0 → AllComparable (history_in (entries_of ours)) (history_in (entries_of theirs)) → AreComparable (at ours i).1 (at theirs j).1
  comparable_at i j p q a b e c =
      let p' : i < length (entries_of ours) = omega (arith, length-map ours entry_of) in
      let q' : j < length (entries_of theirs) = omega (arith, length-map theirs entry_of) in
      c (at ours i).0 (at ours i).1 (at theirs j).1 (history_in-at blank 0 i (entries_of ours) a p')
      (ap (history_in (entries_of theirs)) e ∙ history_in-at blank 0 j (entries_of theirs) b q')

  pub begins : AscendsFrom 0 (entries_of ours) → AscendsFrom 0 (entries_of theirs) → State [] 0 0
  begins a b = record { floor = 0; built = omega arith; ours = a; theirs = b; same = λ u. refl }

  pub ends_ours : (out : Entries) (i j : ℕ) → length theirs ≤ j → State out i j → Merged goal_of ((out ++ drop i (entries_of ours)) ++ drop j (entries_of theirs))
  ends_ours out i j h m =
      let e = through theirs j h in
      subst (λ ss. Merged goal_of ((out ++ drop i (entries_of ours)) ++ ss)) (sym e)
      (subst (Merged goal_of) (sym (append-nil (out ++ drop i (entries_of ours)))) (ours_left goal_of out (drop i (entries_of ours)) (subst (Merging goal_of out (drop i (entries_of ours))) e m)))

  pub ends_theirs : (out : Entries) (i j : ℕ) → length ours ≤ i → State out i j → Merged goal_of ((out ++ drop i (entries_of ours)) ++ drop j (entries_of theirs))
  ends_theirs out i j h m =
      let e = through ours i h in
      subst (λ rs. Merged goal_of ((out ++ rs) ++ drop j (entries_of theirs))) (sym e)
      (subst (λ xs. Merged goal_of (xs ++ drop j (entries_of theirs))) (sym (append-nil out)) (theirs_left goal_of out (drop j (entries_of theirs)) (subst (λ rs. Merging goal_of out rs (drop j (entries_of theirs))) e m)))

-- what comparing the transactors of two entries tells
module _ (ours theirs : List Entry) (i j : ℕ) (x y : Entry) (p : i < length ours) (q : j < length theirs) where
  abbrev pub compared : Ordering
  compared = nat_cmp (get_or ours i x).who (get_or theirs j y).who

  left : (get_or ours i x).who ≡ (at ours i).0
  left = ap (λ e. e.0) (read_at ours i x p)

  right : (get_or theirs j y).who ≡ (at theirs j).0
  right = ap (λ e. e.0) (read_at theirs j y q)

  pub less_at : Less ≡ compared → (at ours i).0 < (at theirs j).0
  less_at e = let h : (get_or ours i x).who < (get_or theirs j y).who = ranked (get_or ours i x).who (get_or theirs j y).who Less e in omega (arith, left, right)

  pub greater_at : Greater ≡ compared → (at theirs j).0 < (at ours i).0
  greater_at e = let h : (get_or theirs j y).who < (get_or ours i x).who = ranked (get_or ours i x).who (get_or theirs j y).who Greater e in omega (arith, left, right)

  pub equal_at : Equal ≡ compared → (at ours i).0 ≡ (at theirs j).0
  equal_at e = let h : (get_or ours i x).who ≡ (get_or theirs j y).who = ranked (get_or ours i x).who (get_or theirs j y).who Equal e in sym left ∙ h ∙ right

-- an entry that was read
pub read_as : (es : List Entry) (k : ℕ) (x : Entry) → k < length es → x ≡ get_or es k x → entry_of x ≡ at es k
read_as es k x h e = ap entry_of e ∙ read_at es k x h

-- a slice from a place on
pub tail_of : (es : List Entry) (k : ℕ) → take (length es - k) (drop k es) ≡ drop k es
tail_of es k = take_all (length es - k) (drop k es) (omega (arith, length-drop k es))

-- both rests are appended
pub rests : (ours theirs all one two : List Entry) (i j : ℕ) → entries_of one ≡ entries_of all ++ entries_of (take (length ours - i) (drop i ours)) → entries_of two ≡ entries_of one ++ entries_of (take (length theirs - j) (drop j theirs)) → (entries_of all ++ drop i (entries_of ours)) ++ drop j (entries_of theirs) ≡ entries_of two
rests ours theirs all one two i j a b =
    let first = a ∙ ap (λ xs. entries_of all ++ xs) (ap entries_of (tail_of ours i) ∙ sym (drop-map entry_of i ours)) in
    let second = ap entries_of (tail_of theirs j) ∙ sym (drop-map entry_of j theirs) in
    sym (b ∙ (λ k. first k ++ second k))

pub finished : (ours theirs all one two : List Entry) (i j : ℕ) → (length ours ≤ i) ⊎ (length theirs ≤ j) → State ours theirs (entries_of all) i j → entries_of one ≡ entries_of all ++ entries_of (take (length ours - i) (drop i ours)) → entries_of two ≡ entries_of one ++ entries_of (take (length theirs - j) (drop j theirs)) → Merged (goal_of ours theirs) (entries_of two)
finished ours theirs all one two i j over m a b =
    subst (Merged (goal_of ours theirs)) (rests ours theirs all one two i j a b)
    (⊎_elim (λ h. ends_theirs ours theirs (entries_of all) i j h m) (λ h. ends_ours ours theirs (entries_of all) i j h m) over)

-- what of theirs is covered by ours
module _ (ours theirs : List Entry) where
  abbrev pub Covered : ℕ → Type 0
  Covered j = (u : ℕ) → later_history (history_in (entries_of ours) u) (history_in (take j (entries_of theirs)) u) ≡ history_in (entries_of ours) u

  later_here : (o n : Option Timeline) (h k : Timeline) → o ≡ Some h → later_of h k ≡ h → n ≡ Some k → later_history o n ≡ o
  later_here o n h k e l f = rw (e, f) (ap Some l)

  pub covered_more : (i j : ℕ) → i < length ours → j < length theirs → AscendsFrom 0 (entries_of ours) → (at ours i).0 ≡ (at theirs j).0 → later_of (at ours i).1 (at theirs j).1 ≡ (at ours i).1 → Covered j → Covered (j + 1)
  covered_more i j p q a e l covered u =
      let ys = entries_of theirs in
      let p' : i < length (entries_of ours) = omega (arith, length-map ours entry_of) in
      let q' : j < length ys = omega (arith, length-map theirs entry_of) in
      let grown : take (j + 1) ys ≡ take j ys ++ at theirs j ∷ [] = take_more ys j blank q' in
      ap (λ xs. later_history (history_in (entries_of ours) u) (history_in xs u)) grown ∙ go (history_in (take j ys) u) refl p' (history_in-append (take j ys) (at theirs j ∷ []) u) where
        go : (o : Option Timeline) → history_in (take j (entries_of theirs)) u ≡ o → i < length (entries_of ours) → history_in (take j (entries_of theirs) ++ at theirs j ∷ []) u ≡ or_else (history_in (take j (entries_of theirs)) u) (history_in (at theirs j ∷ []) u) → later_history (history_in (entries_of ours) u) (history_in (take j (entries_of theirs) ++ at theirs j ∷ []) u) ≡ history_in (entries_of ours) u
        go (Some k) t p' split = ap (later_history (history_in (entries_of ours) u)) (split ∙ ap (λ o. or_else o (history_in (at theirs j ∷ []) u)) t ∙ sym t) ∙ covered u
        go None t p' split =
            let rest : history_in (take j (entries_of theirs) ++ at theirs j ∷ []) u ≡ history_in (at theirs j ∷ []) u = split ∙ ap (λ o. or_else o (history_in (at theirs j ∷ []) u)) t in
            ap (later_history (history_in (entries_of ours) u)) rest
            ∙ ⊎_elim
            (λ s. later_here (history_in (entries_of ours) u) (history_in (at theirs j ∷ []) u) (at ours i).1 (at theirs j).1
            (ap (history_in (entries_of ours)) (s ∙ sym e) ∙ history_in-at blank 0 i (entries_of ours) a p') l (history_in-here (at theirs j) [] u s))
            (λ n. ap (later_history (history_in (entries_of ours) u)) (history_in-past (at theirs j) [] u n) ∙ later_history-right (history_in (entries_of ours) u))
            (cases_eq u (at theirs j).0)

  pub covered_all : (j : ℕ) → j ≡ length theirs → Covered j → merged_in (history_in (entries_of ours)) (history_in (entries_of theirs)) ≡ history_in (entries_of ours)
  covered_all j e covered =
      let whole : take j (entries_of theirs) ≡ entries_of theirs = take_all j (entries_of theirs) (omega (arith, length-map theirs entry_of)) in
      λ k u. (ap (λ xs. later_history (history_in (entries_of ours) u) (history_in xs u)) (sym whole) ∙ covered u) k
