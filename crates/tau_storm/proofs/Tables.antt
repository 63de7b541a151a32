-- What a table tells of the ends, with an end more, and with what is told of ends behind them.
use Rattle.std.proofs.Common.{◌≡◌, ◌≢◌, ◌⊎◌, inl, inr, ⊎_elim, ℕ, zero, suc, ◌+◌, ◌<◌, ◌≤◌, Bool, true, false, cond, ltb, ◌&&◌, ◌||◌, List, [], ◌∷◌, ◌++◌, length, length-append, map, set, length-set, get_or, All, AllPairs, Some, refl, sym, ap, ◌∙◌, subst, arith, ltb-true, lt-ltb, eqb-true, eq-eqb}
use Rattle.std.specs.Prelude.{Contains, slice_get, ◌==◌, sum, IsTrue, IsFalse}
use Rattle.std.specs.declared.alloc.Global.{Global}
use Rattle.std.specs.declared.vec.Vec.{Vec}
use Rattle.std.proofs.lemmas.Bool.{cases_lt, cases_eq}
use Rattle.std.proofs.lemmas.List.{map_push, map-append, get_or_default, get_or-set_other}
use Rattle.std.proofs.lemmas.List.Elements.{All-nil, All-cons, All-push, All-weaker, All-get_or, All-from_get_or, All-map, All-contains, Contains-get_or, Contains-append_left, Contains-append_right, Contains-append_cases, Contains-push}
use Rattle.std.proofs.lemmas.List.Quantifiers.{all_pairs_push}
use Rattle.std.proofs.lemmas.List.Sums.{sum_by-append}
use Rattle.std.proofs.lemmas.Grind.{get_or-set_at}
use Rattle.indexmap.specs.IndexMap.{set_value_at}
use Rattle.tau_points.proofs.Membership.{Contains-none, Contains-head, Contains-later, Contains-cons_cases}
use Rattle.tau_trace.specs.Run.{len}
use Rattle.tau_trace.proofs.Lists.{same_some}
use Rattle.tau_faults.specs.Ends.{End}
use Rattle.tau_storm.specs.declared.outcomes.Outcome.{Outcome}
use Rattle.tau_storm.specs.declared.totals.Totals.{Totals}
use Rattle.tau_storm.specs.declared.rows.Row.{Row}
use Rattle.tau_storm.specs.Outcomes.{HasLines, CountIs, none, one_more, no_more, IsSimpler, IsOutcome, AreOutcomes, IsCompleteEnd, AreTotals}
use Rattle.tau_storm.specs.Tables.{IsTable}
use Rattle.tau_storm.specs.Inner.Counting.{no_ends, totals_after, totals_with, is_simpler, row_with, first_row, outcome_of, outcomes_of, AddsRow, there, missing}
use Rattle.tau_storm.proofs.Simplest.{count_behind, count_none, count_append, simpler_than_each, none_simpler, simplest_behind, simplest_ahead, simplest_one}

-- the test says what it says
simpler_true : (f n s t : ℕ) → (ltb f n || ((f == n) && ltb s t)) ≡ true → (f < n) ⊎ ((f ≡ n) × (s < t))
simpler_true f n s t is = by (ltb f n) refl where
  second : (b c : Bool) → (b && c) ≡ true → (b ≡ true) × (c ≡ true)
  second true true e = (refl, refl)
  second true false e = absurd (cc)
  second false c e = absurd (cc)

  by : (b : Bool) → ltb f n ≡ b → (f < n) ⊎ ((f ≡ n) × (s < t))
  by true e = inl (ltb-true f n e)
  by false e =
      let rest : ((f == n) && ltb s t) ≡ true = sym (ap (λ b. b || ((f == n) && ltb s t)) e) ∙ is in
      let both = second (f == n) (ltb s t) rest in
      inr (eqb-true f n both.0, ltb-true s t both.1)

simpler_false : (f n s t : ℕ) → (ltb f n || ((f == n) && ltb s t)) ≡ false → ¬ ((f < n) ⊎ ((f ≡ n) × (s < t)))
simpler_false f n s t is (inl l) = let e = lt-ltb f n l in let there = sym (ap (λ b. b || ((f == n) && ltb s t)) e) ∙ is in cc
simpler_false f n s t is (inr p) = at (ltb f n) (f == n) (ltb s t) is (eq-eqb f n p.0) (lt-ltb s t p.1) where
  at : (a b c : Bool) → (a || (b && c)) ≡ false → b ≡ true → c ≡ true → ⊥
  at a b c isnt x y = let e : (a || (true && true)) ≡ false = sym (λ i. a || (x i && y i)) ∙ isnt in all a e
    where
      all : (a : Bool) → (a || (true && true)) ≡ false → ⊥
      all true e = absurd (cc)
      all false e = absurd (cc)

-- outcomes of some ends and of others behind them

abbrev pub Once : Type 0
Once = (e : End) (a b : List ℕ) → HasLines a e → HasLines b e → a ≡ b

module _ (front back : List End) where
  -- none of those behind has the lines
  outcome_ahead : (o : Outcome) → ((d : End) → Contains back d → ¬ HasLines o.lines d) → IsOutcome front o → IsOutcome (front ++ back) o
  outcome_ahead o isnt is = record {
    counted = count_behind (HasLines o.lines) front back o.runs is.counted isnt;
    simplest = is.simplest;
    is_simplest = simplest_ahead (HasLines o.lines) front back is.simplest is.is_simplest (λ d c p. absurd (isnt d c p));
    seed = is.seed;
    faults = is.faults;
    steps = is.steps;
    script = is.script;
  }

  -- none of those in front
  outcome_behind : (o : Outcome) → ((d : End) → Contains front d → ¬ HasLines o.lines d) → IsOutcome back o → IsOutcome (front ++ back) o
  outcome_behind o isnt is = record {
    counted = subst (CountIs (HasLines o.lines) (front ++ back)) (omega arith) (count_append (HasLines o.lines) front back 0 o.runs (count_none (HasLines o.lines) front isnt) is.counted);
    simplest = is.simplest;
    is_simplest = simplest_behind (HasLines o.lines) front back is.simplest is.is_simplest (λ d c p. absurd (isnt d c p));
    seed = is.seed;
    faults = is.faults;
    steps = is.steps;
    script = is.script;
  }

  -- some of both
  outcome_both : (lines : List ℕ) (r q : Row) → IsOutcome front (outcome_of lines r) → IsOutcome back (outcome_of lines q) → IsOutcome (front ++ back) (outcome_of lines (row_with r q))
  outcome_both lines r q a b = by (is_simpler q.faults q.steps r) refl where
    counted : CountIs (HasLines lines) (front ++ back) (r.runs + q.runs)
    counted = count_append (HasLines lines) front back r.runs q.runs a.counted b.counted

    by : (x : Bool) → is_simpler q.faults q.steps r ≡ x → IsOutcome (front ++ back) (outcome_of lines (cond x (record q { runs = r.runs + q.runs }) (record r { runs = r.runs + q.runs })))
    by true t =
        let less : IsSimpler b.simplest a.simplest = ⊎_elim (λ l. inl (omega (arith, l, a.faults, b.faults))) (λ p. inr (omega (arith, p.0, a.faults, b.faults), omega (arith, p.1, a.steps, b.steps))) (simpler_true q.faults r.faults q.steps r.steps t) in
        record {
          counted = counted;
          simplest = b.simplest;
          is_simplest = simplest_behind (HasLines lines) front back b.simplest b.is_simplest (simpler_than_each (HasLines lines) front a.simplest b.simplest a.is_simplest less);
          seed = b.seed;
          faults = b.faults;
          steps = b.steps;
          script = b.script;
        }
    by false f =
        let not_less : ¬ IsSimpler b.simplest a.simplest = λ x. simpler_false q.faults r.faults q.steps r.steps f (⊎_elim (λ l. inl (omega (arith, l, a.faults, b.faults))) (λ p. inr (omega (arith, p.0, a.faults, b.faults), omega (arith, p.1, a.steps, b.steps))) x) in
        record {
          counted = counted;
          simplest = a.simplest;
          is_simplest = simplest_ahead (HasLines lines) front back a.simplest a.is_simplest (none_simpler (HasLines lines) back a.simplest b.simplest b.is_simplest not_less);
          seed = a.seed;
          faults = a.faults;
          steps = a.steps;
          script = a.script;
        }

-- the outcomes of rows

told_length : (rows : List (Vec ℕ Global × Row)) (i : ℕ) (k : Vec ℕ Global) (r : Row) → slice_get rows i ≡ Some (k, r) → i < length (outcomes_of rows)
told_length [] i k r e = absurd (cc)
told_length (p ∷ rows) zero k r e = omega arith
told_length (p ∷ rows) (suc i) k r e = let later = told_length rows i k r e in omega (arith, later)

told_at : (rows : List (Vec ℕ Global × Row)) (i : ℕ) (k : Vec ℕ Global) (r : Row) (d : Outcome) → slice_get rows i ≡ Some (k, r) → get_or (outcomes_of rows) i d ≡ outcome_of k.items r
told_at [] i k r d e = absurd (cc)
told_at (p ∷ rows) zero k r d e = let same : p ≡ (k, r) = same_some e in ap (λ (q : Vec ℕ Global × Row). outcome_of q.0.items q.1) same
told_at (p ∷ rows) (suc i) k r d e = told_at rows i k r d e

told_set : (rows : List (Vec ℕ Global × Row)) (i : ℕ) (k : Vec ℕ Global) (r w : Row) → slice_get rows i ≡ Some (k, r) → outcomes_of (set_value_at rows i w) ≡ set (outcomes_of rows) i (outcome_of k.items w)
told_set [] i k r w e = absurd (cc)
told_set (p ∷ rows) zero k r w e = let same : p ≡ (k, r) = same_some e in ap (λ (q : Vec ℕ Global × Row). outcome_of q.0.items w ∷ outcomes_of rows) same
told_set (p ∷ rows) (suc i) k r w e = ap (λ (l : List Outcome). outcome_of p.0.items p.1 ∷ l) (told_set rows i k r w e)

-- an outcome takes the place of one with the same lines
module _ (os : List Outcome) (i : ℕ) (o : Outcome) (within : i < length os) (same : (get_or os i o).lines ≡ o.lines) where
  lines_kept : (j : ℕ) (d : Outcome) → j < length os → (get_or (set os i o) j d).lines ≡ (get_or os j d).lines
  lines_kept j d lt = ⊎_elim
      (λ (x : j ≡ i).
      let there = get_or-set_at os i j o d x within in
      let was : (get_or os j d).lines ≡ o.lines = ap (λ (n : ℕ). (get_or os n d).lines) x ∙ ap (λ (u : Outcome). u.lines) (get_or_default os i d o within) ∙ same in
      ap (λ (u : Outcome). u.lines) there ∙ sym was)
      (λ ne. ap (λ (u : Outcome). u.lines) (get_or-set_other os i j o d ne))
      (cases_eq j i)

  -- each of them but this one has other lines
  others : AllPairs (λ a b. a.lines ≢ b.lines) os → (j : ℕ) → j < length os → ¬ (j ≡ i) → o.lines ≢ (get_or os j o).lines
  others once j lt ne x = ⊎_elim
      (λ less. once j i o less within (sym x ∙ sym same))
      (λ ge. once i j o (behind ge) lt (same ∙ x))
      (cases_lt j i)
    where
      behind : i ≤ j → i < j
      behind ge = ⊎_elim (λ l. l) (λ le. absurd (ne (omega (arith, ge, le)))) (cases_lt i j)

  once_set : AllPairs (λ a b. a.lines ≢ b.lines) os → AllPairs (λ a b. a.lines ≢ b.lines) (set os i o)
  once_set once j k d less lt x =
      let below : k < length os = omega (arith, lt, length-set os i o) in
      once j k d less below (sym (lines_kept j d (omega (arith, less, below))) ∙ x ∙ lines_kept k d below)

  -- one with the lines of each is still there
  still_there : (u : Outcome) → Contains os u → (w : Outcome) × Contains (set os i o) w × (w.lines ≡ u.lines)
  still_there u c =
      let within_after : c.0 < length (set os i o) = omega (arith, c.1, length-set os i o) in
      (get_or (set os i o) c.0 u, Contains-get_or (set os i o) c.0 u within_after, lines_kept c.0 u c.1 ∙ ap (λ (w : Outcome). w.lines) c.2)

-- an outcome of the ends in front, where none that was added has its lines, and else of all
abbrev pub IsJoined : List End → List End → List Outcome → Outcome → Type 0
IsJoined front back done o = (All (λ d. d.lines ≢ o.lines) done × IsOutcome front o) ⊎ (((d : Outcome) × Contains done d × (d.lines ≡ o.lines)) × IsOutcome (front ++ back) o)

-- the outcomes of the ends in front, to which those of the ends behind are being added
pub record AreJoined (front back : List End) (done now : List Outcome) : Type 0 where
  pub each : All (IsJoined front back done) now
  pub once : AllPairs (λ a b. a.lines ≢ b.lines) now
  pub ahead : (e : End) → Contains front e → (o : Outcome) × Contains now o × HasLines o.lines e
  pub behind : (d : Outcome) → Contains done d → (o : Outcome) × Contains now o × (o.lines ≡ d.lines)

pub joined_none : (front back : List End) (os : List Outcome) → AreOutcomes front os → AreJoined front back [] os
joined_none front back os are = record {
  each = All-weaker (IsOutcome front) (IsJoined front back []) (λ o is. inl (All-nil (λ (d : Outcome). d.lines ≢ o.lines), is)) os are.each;
  once = are.once;
  ahead = are.whole;
  behind = λ d c. absurd (Contains-none d c);
}

-- once all were added, the outcomes are those of all ends
pub joined_all : (front back : List End) (done now : List Outcome) → Once → AreOutcomes back done → AreJoined front back done now → AreOutcomes (front ++ back) now
joined_all front back done now once are is = record {
  each = All-weaker (IsJoined front back done) (IsOutcome (front ++ back)) whole now is.each;
  once = is.once;
  whole = λ e c. ⊎_elim (λ h. is.ahead e h) (λ h. there e h) (Contains-append_cases front back e c);
} where
  whole : (o : Outcome) → IsJoined front back done o → IsOutcome (front ++ back) o
  whole o (inl x) = outcome_ahead front back o
      (λ d c h. let w = are.whole d c in All-contains (λ (u : Outcome). u.lines ≢ o.lines) done w.0 x.0 w.1 (once d w.0.lines o.lines w.2 h))
      x.1
  whole o (inr x) = x.1

  there : (e : End) → Contains back e → (o : Outcome) × Contains now o × HasLines o.lines e
  there e c =
      let w = are.whole e c in
      let b = is.behind w.0 w.1 in
      (b.0, b.1, subst (λ (l : List ℕ). HasLines l e) (sym b.2) w.2)

-- one more is added
module _ (front back : List End) (done os : List Outcome) (p : Outcome) (new : All (λ d. d.lines ≢ p.lines) done) (is_p : IsOutcome back p) (joined : AreJoined front back done os) where
  -- what has other lines stays what it was
  stays : (o : Outcome) → p.lines ≢ o.lines → IsJoined front back done o → IsJoined front back (p ∷ done) o
  stays o ne (inl x) = inl (All-cons (λ (d : Outcome). d.lines ≢ o.lines) p done ne x.0, x.1)
  stays o ne (inr x) = inr ((x.0.0, Contains-later p done x.0.0 x.0.1, x.0.2), x.1)

  -- in the place of the one with its lines
  joined_set : (i : ℕ) (r q : Row) → p ≡ outcome_of p.lines q → i < length os → get_or os i (outcome_of p.lines (row_with r q)) ≡ outcome_of p.lines r → AreJoined front back (p ∷ done) (set os i (outcome_of p.lines (row_with r q)))
  joined_set i r q p_is within told = record {
    each = All-from_get_or (IsJoined front back (p ∷ done)) (set os i w) w each;
    once = once_set os i w within same joined.once;
    ahead = λ e c.
        let a = joined.ahead e c in
        let b = still_there os i w within same a.0 a.1 in
        (b.0, b.1, subst (λ (l : List ℕ). HasLines l e) (sym b.2) a.2);
    behind = λ d c. ⊎_elim
        (λ (x : d ≡ p). (get_or (set os i w) i w, Contains-get_or (set os i w) i w (omega (arith, within, length-set os i w)), ap (λ (u : Outcome). u.lines) here ∙ ap (λ (u : Outcome). u.lines) (sym x)))
        (λ h.
        let a = joined.behind d h in
        let b = still_there os i w within same a.0 a.1 in
        (b.0, b.1, b.2 ∙ a.2))
        (Contains-cons_cases p done d c);
  } where
    w : Outcome
    w = outcome_of p.lines (row_with r q)

    same : (get_or os i w).lines ≡ w.lines
    same = ap (λ (u : Outcome). u.lines) told

    here : get_or (set os i w) i w ≡ w
    here = get_or-set_at os i i w w refl within

    was : IsJoined front back done (outcome_of p.lines r) → IsOutcome (front ++ back) w
    was (inl x) = outcome_both front back p.lines r q x.1 (subst (IsOutcome back) p_is is_p)
    was (inr x) = absurd (All-contains (λ (d : Outcome). d.lines ≢ p.lines) done x.0.0 new x.0.1 x.0.2)

    each : (j : ℕ) → j < length (set os i w) → IsJoined front back (p ∷ done) (get_or (set os i w) j w)
    each j lt =
        let below : j < length os = omega (arith, lt, length-set os i w) in
        ⊎_elim
        (λ (x : j ≡ i). subst (IsJoined front back (p ∷ done)) (sym (get_or-set_at os i j w w x within))
        (inr ((p, Contains-head p done, refl), was (subst (IsJoined front back done) told (All-get_or (IsJoined front back done) os i w within joined.each)))))
        (λ ne. subst (IsJoined front back (p ∷ done)) (sym (get_or-set_other os i j w w ne))
        (stays (get_or os j w) (others os i w within same joined.once j below ne) (All-get_or (IsJoined front back done) os j w below joined.each)))
        (cases_eq j i)

  -- behind the others, where none has its lines
  joined_push : Once → All (λ u. u.lines ≢ p.lines) os → AreJoined front back (p ∷ done) (os ++ p ∷ [])
  joined_push once absent = record {
    each = All-push (IsJoined front back (p ∷ done)) os p
        (All-from_get_or (IsJoined front back (p ∷ done)) os p (λ j lt. stays (get_or os j p) (λ x. All-get_or (λ (u : Outcome). u.lines ≢ p.lines) os j p lt absent (sym x)) (All-get_or (IsJoined front back done) os j p lt joined.each)))
        (inr ((p, Contains-head p done, refl), outcome_behind front back p nowhere is_p));
    once = all_pairs_push (λ a b. a.lines ≢ b.lines) os p joined.once (λ k d lt. All-get_or (λ (u : Outcome). u.lines ≢ p.lines) os k d lt absent);
    ahead = λ e c. let a = joined.ahead e c in (a.0, Contains-append_left os (p ∷ []) a.0 a.1, a.2);
    behind = λ d c. ⊎_elim
        (λ (x : d ≡ p). (p, Contains-push os p, ap (λ (u : Outcome). u.lines) (sym x)))
        (λ h. let a = joined.behind d h in (a.0, Contains-append_left os (p ∷ []) a.0 a.1, a.2))
        (Contains-cons_cases p done d c);
  } where
    nowhere : (d : End) → Contains front d → ¬ HasLines p.lines d
    nowhere d c h = let a = joined.ahead d c in All-contains (λ (u : Outcome). u.lines ≢ p.lines) os a.0 absent a.1 (once d a.0.lines p.lines a.2 h)

-- a row more is added
pub joined_row : (front back : List End) (done : List Outcome) (lines : List ℕ) (q : Row) (old new : List (Vec ℕ Global × Row)) → Once → AddsRow lines q old new → All (λ d. d.lines ≢ lines) done → IsOutcome back (outcome_of lines q)
    → AreJoined front back done (outcomes_of old) → AreJoined front back (outcome_of lines q ∷ done) (outcomes_of new)
joined_row front back done lines q old new once (there i k r at key is) lacks is_q joined =
    let w : Outcome = outcome_of lines (row_with r q) in
    let read : get_or (outcomes_of old) i w ≡ outcome_of lines r = told_at old i k r w at ∙ ap (λ (l : List ℕ). outcome_of l r) key in
    let put : outcomes_of new ≡ set (outcomes_of old) i w = ap outcomes_of is ∙ told_set old i k r (row_with r q) at ∙ ap (λ (l : List ℕ). set (outcomes_of old) i (outcome_of l (row_with r q))) key in
    subst (AreJoined front back (outcome_of lines q ∷ done)) (sym put)
    (joined_set front back done (outcomes_of old) (outcome_of lines q) lacks is_q joined i r q refl (told_length old i k r at) read)
joined_row front back done lines q old new once (missing k absent key is) lacks is_q joined =
    let p : Outcome = outcome_of lines q in
    let put : outcomes_of new ≡ outcomes_of old ++ p ∷ [] = ap outcomes_of is ∙ map_push (λ x. outcome_of x.0.items x.1) old (k, q) ∙ ap (λ (l : List ℕ). outcomes_of old ++ outcome_of l q ∷ []) key in
    let not_there : All (λ (u : Outcome). u.lines ≢ lines) (outcomes_of old) = All-map (λ (u : Outcome). u.lines ≢ lines) (λ x. outcome_of x.0.items x.1) old absent in
    subst (AreJoined front back (p ∷ done)) (sym put) (joined_push front back done (outcomes_of old) p lacks is_q joined once not_there)

-- each of a list that stands behind an element is related to it
apart : {X : Type 0} (R : X → X → Type 0) (xs : List X) (x : X) (ys : List X) → AllPairs R (xs ++ x ∷ ys) → All (R x) ys
apart R [] x ys pairs = λ k d lt. pairs 0 (suc k) d (omega arith) (omega (arith, lt))
apart R (z ∷ xs) x ys pairs = apart R xs x ys (λ i j d less lt. pairs (suc i) (suc j) d (omega (arith, less)) (omega (arith, lt)))

-- one of those that are told is added
pub joined_next : (front back : List End) (all left done : List Outcome) (lines : List ℕ) (q : Row) (old new : List (Vec ℕ Global × Row)) → Once → AddsRow lines q old new → left ++ outcome_of lines q ∷ done ≡ all → AreOutcomes back all
    → AreJoined front back done (outcomes_of old) → AreJoined front back (outcome_of lines q ∷ done) (outcomes_of new)
joined_next front back all left done lines q old new once adds is are joined =
    let p : Outcome = outcome_of lines q in
    let here : AreOutcomes back (left ++ p ∷ done) = subst (AreOutcomes back) (sym is) are in
    let is_p : IsOutcome back p = All-contains (IsOutcome back) (left ++ p ∷ done) p here.each (Contains-append_right left (p ∷ done) p (Contains-head p done)) in
    let lacks : All (λ (d : Outcome). d.lines ≢ lines) done = All-weaker (λ (d : Outcome). lines ≢ d.lines) (λ (d : Outcome). d.lines ≢ lines) (λ d ne x. ne (sym x)) done (apart (λ a b. a.lines ≢ b.lines) left p done here.once) in
    joined_row front back done lines q old new once adds lacks is_p joined

-- the outcome of one end
one_outcome : (e : End) (lines : List ℕ) → HasLines lines e → IsOutcome (e ∷ []) (outcome_of lines (first_row e.seed (length e.faults) (len e.run) e.program.script))
one_outcome e lines h = record {
  counted = one_more {ends = []} none h;
  simplest = e;
  is_simplest = simplest_one (HasLines lines) e h;
  seed = refl;
  faults = refl;
  steps = refl;
  script = refl;
}

-- the rows after an end more
pub rows_after : (ends : List End) (e : End) (lines : List ℕ) (old new : List (Vec ℕ Global × Row)) → Once → HasLines lines e → AddsRow lines (first_row e.seed (length e.faults) (len e.run) e.program.script) old new → AreOutcomes ends (outcomes_of old) → AreOutcomes (ends ++ e ∷ []) (outcomes_of new)
rows_after ends e lines old new once has adds are =
    let q : Row = first_row e.seed (length e.faults) (len e.run) e.program.script in
    let o : Outcome = outcome_of lines q in
    let is_o : IsOutcome (e ∷ []) o = one_outcome e lines has in
    let one : AreOutcomes (e ∷ []) (o ∷ []) = record {
      each = All-cons (IsOutcome (e ∷ [])) o [] is_o (All-nil (IsOutcome (e ∷ [])));
      once = λ i j d less lt. absurd (omega (arith, less, lt));
      whole = λ d c. ⊎_elim (λ (x : d ≡ e). (o, Contains-head o [], subst (HasLines lines) (sym x) has)) (λ h. absurd (Contains-none d h)) (Contains-cons_cases e [] d c);
    } in
    joined_all ends (e ∷ []) (o ∷ []) (outcomes_of new) once one
    (joined_row ends (e ∷ []) [] lines q old new once adds (All-nil (λ (d : Outcome). d.lines ≢ lines)) is_o (joined_none ends (e ∷ []) (outcomes_of old) are))

-- the totals

sum_push : (ends : List End) (e : End) → sum (map (λ (x : End). len x.run) (ends ++ e ∷ [])) ≡ sum (map (λ (x : End). len x.run) ends) + len e.run
sum_push ends e =
    let g : End → ℕ = λ x. len x.run in
    ap (λ (l : List ℕ). sum l) (map_push g ends e) ∙ sum_by-append (λ (x : ℕ). x) (map g ends) (len e.run ∷ []) ∙ ap (λ (n : ℕ). sum (map g ends) + n) (zero_more (len e.run))
  where
    zero_more : (n : ℕ) → 0 + n ≡ n
    zero_more n = omega arith

pub totals_more : (ends : List End) (e : End) (t : Totals) (is_complete : Bool) → (IsTrue is_complete → IsCompleteEnd e) → (IsFalse is_complete → ¬ IsCompleteEnd e) → AreTotals ends t → AreTotals (ends ++ e ∷ []) (totals_after t is_complete (len e.run))
totals_more ends e t true is_so isnt are = record {
  runs = omega (arith, are.runs, length-append ends (e ∷ []));
  complete = subst (CountIs IsCompleteEnd (ends ++ e ∷ [])) (omega arith) (one_more are.complete (is_so refl));
  stopped = omega (arith, are.stopped);
  steps = ap (λ n. n + len e.run) are.steps ∙ sym (sum_push ends e);
}
totals_more ends e t false is_so isnt are = record {
  runs = omega (arith, are.runs, length-append ends (e ∷ []));
  complete = subst (CountIs IsCompleteEnd (ends ++ e ∷ [])) (omega arith) (no_more are.complete (isnt refl));
  stopped = omega (arith, are.stopped);
  steps = ap (λ n. n + len e.run) are.steps ∙ sym (sum_push ends e);
}

sum_append : (front back : List End) → sum (map (λ (x : End). len x.run) (front ++ back)) ≡ sum (map (λ (x : End). len x.run) front) + sum (map (λ (x : End). len x.run) back)
sum_append front back =
    let g : End → ℕ = λ x. len x.run in
    ap (λ (l : List ℕ). sum l) (map-append g front back) ∙ sum_by-append (λ (x : ℕ). x) (map g front) (map g back)

-- those of some ends and of others behind them
pub totals_joined : (front back : List End) (t u : Totals) → AreTotals front t → AreTotals back u → AreTotals (front ++ back) (totals_with t u)
totals_joined front back t u a b = record {
  runs = omega (arith, a.runs, b.runs, length-append front back);
  complete = count_append IsCompleteEnd front back t.complete u.complete a.complete b.complete;
  stopped = omega (arith, a.stopped, b.stopped);
  steps = (λ i. a.steps i + b.steps i) ∙ sym (sum_append front back);
}

-- the table of no ends
pub no_table : (rows : List (Vec ℕ Global × Row)) (t : Totals) → rows ≡ [] → t ≡ no_ends → IsTable [] (record { outcomes = outcomes_of rows; totals = t })
no_table rows t rows_are totals_are = subst (IsTable []) (λ i. record { outcomes = outcomes_of (sym rows_are i); totals = sym totals_are i }) (record {
  outcomes = record { each = All-nil (IsOutcome []); once = λ i j d less lt. absurd (omega (arith, lt)); whole = λ e c. absurd (Contains-none e c) };
  totals = record { runs = refl; complete = none; stopped = omega arith; steps = refl };
})

-- a table after a visit
pub table_after : (ends : List End) (e : End) (lines : List ℕ) (old new : List (Vec ℕ Global × Row)) (t u : Totals) (is_complete : Bool) → Once → HasLines lines e → (IsTrue is_complete → IsCompleteEnd e) → (IsFalse is_complete → ¬ IsCompleteEnd e)
    → AddsRow lines (first_row e.seed (length e.faults) (len e.run) e.program.script) old new → u ≡ totals_after t is_complete (len e.run) → IsTable ends (record { outcomes = outcomes_of old; totals = t }) → IsTable (ends ++ e ∷ []) (record { outcomes = outcomes_of new; totals = u })
table_after ends e lines old new t u is_complete once has is_so isnt notes is table = record {
  outcomes = rows_after ends e lines old new once has notes table.outcomes;
  totals = subst (AreTotals (ends ++ e ∷ [])) (sym is) (totals_more ends e t is_complete is_so isnt table.totals);
}

-- and after what is told of ends behind them
pub table_joined : (front back : List End) (old new later : List Outcome) (t u v : Totals) → (AreOutcomes front old → AreOutcomes back later → AreOutcomes (front ++ back) new) → v ≡ totals_with t u
    → IsTable front (record { outcomes = old; totals = t }) → AreOutcomes back later → AreTotals back u → IsTable (front ++ back) (record { outcomes = new; totals = v })
table_joined front back old new later t u v joins is table are totals = record {
  outcomes = joins table.outcomes are;
  totals = subst (AreTotals (front ++ back)) (sym is) (totals_joined front back t u table.totals totals);
}
