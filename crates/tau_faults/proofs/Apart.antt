-- The listed ends have different faults.
use Rattle.std.proofs.Common.{◌≡◌, ◌≢◌, ℕ, suc, ◌<◌, List, [], ◌∷◌, ◌++◌, length, All, refl, sym, ap, ◌∙◌, subst, arith, length-append, append_assoc}
use Rattle.std.specs.Prelude.{Contains}
use Rattle.std.specs.List.{AllPairs}
use Rattle.std.proofs.lemmas.List.{append-nil, append_cancel_left}
use Rattle.std.proofs.lemmas.List.Elements.{All-append, All-cons, All-nil, All-head, All-tail, All-weaker}
use Rattle.std.proofs.lemmas.List.Kept.{AllPairs-cons}
use Rattle.tau_points.proofs.Membership.{Contains-head, Contains-later}
use Rattle.tau_tree.specs.declared.entries.Entry.{Entry}
use Rattle.tau_tree.specs.declared.entries.Failure.{Failure}
use Rattle.tau_tree.specs.declared.programs.Program.{Program}
use Rattle.tau_trace.specs.Run.{Run, len}
use Rattle.tau_faults.specs.declared.setting.FaultCounts.{FaultCounts}
use Rattle.tau_faults.specs.declared.setting.Setting.{Setting}
use Rattle.tau_faults.specs.Faults.{ComesFirst, fewer}
use Rattle.tau_faults.specs.Ends.{End, EndsFrom, run, EndsBelow, none, early, at, EndsWith, no_fault, more}
use Rattle.tau_faults.proofs.Ordered.{first_before, rest_ordered, comes_once}
use Rattle.tau_faults.proofs.Listed.{then_fault}

-- the end has these faults, and others behind them
pub record HasFaults (faults : List Entry) (e : End) : Type 0 where
  pub others : List Entry
  pub is : e.faults ≡ faults ++ others

-- and the next of them stands below place k
pub record HasNextBelow (faults : List Entry) (k : ℕ) (e : End) : Type 0 where
  pub entry : Entry
  pub others : List Entry
  pub is : e.faults ≡ faults ++ entry ∷ others
  pub below : entry.at < k

-- or is one of these at place k
pub record HasNextOf (faults : List Entry) (k : ℕ) (fs : List Failure) (e : End) : Type 0 where
  pub failure : Failure
  pub others : List Entry
  pub among : Contains fs failure
  pub is : e.faults ≡ faults ++ record { at = k; failure = failure } ∷ others

abbrev pub AreApart : End → End → Type 0
AreApart a b = a.faults ≢ b.faults

next_of : (faults : List Entry) (k : ℕ) (f : Failure) (others : List Failure) (e : End) → HasFaults (then_fault faults k f) e → HasNextOf faults k (f ∷ others) e
next_of faults k f others e h = record {
  failure = f;
  others = h.others;
  among = Contains-head f others;
  is = h.is ∙ append_assoc faults (record { at = k; failure = f } ∷ []) h.others;
}

later_of : (faults : List Entry) (k : ℕ) (f : Failure) (others : List Failure) (e : End) → HasNextOf faults k others e → HasNextOf faults k (f ∷ others) e
later_of faults k f others e h = record { failure = h.failure; others = h.others; among = Contains-later f others h.failure h.among; is = h.is }

below_of : (faults : List Entry) (k : ℕ) (fs : List Failure) (e : End) → HasNextOf faults k fs e → HasNextBelow faults (suc k) e
below_of faults k fs e h = record { entry = record { at = k; failure = h.failure }; others = h.others; is = h.is; below = omega arith }

earlier_of : (faults : List Entry) (k : ℕ) (e : End) → HasNextBelow faults k e → HasNextBelow faults (suc k) e
earlier_of faults k e h = record { entry = h.entry; others = h.others; is = h.is; below = omega (arith, h.below) }

faults_of : (faults : List Entry) (k : ℕ) (e : End) → HasNextBelow faults k e → HasFaults faults e
faults_of faults k e h = record { others = h.entry ∷ h.others; is = h.is }

-- the heads behind the same front
same_next : (faults : List Entry) (x y : Entry) (xs ys : List Entry) → faults ++ x ∷ xs ≡ faults ++ y ∷ ys → x ≡ y
same_next faults x y xs ys e =
    let tails : x ∷ xs ≡ y ∷ ys = append_cancel_left faults (x ∷ xs) (y ∷ ys) e in
    cc

run_apart : (faults : List Entry) (k : ℕ) (a e : End) → a.faults ≡ faults → HasNextBelow faults k e → AreApart a e
run_apart faults k a e is h same =
    let whole : faults ≡ faults ++ h.entry ∷ h.others = sym is ∙ same ∙ h.is in
    omega (arith, ap length whole, length-append faults (h.entry ∷ h.others))

place_apart : (faults : List Entry) (k : ℕ) (fs : List Failure) (a e : End) → HasNextBelow faults k a → HasNextOf faults k fs e → AreApart a e
place_apart faults k fs a e h g same =
    let entry : h.entry ≡ record { at = k; failure = g.failure } = same_next faults h.entry (record { at = k; failure = g.failure }) h.others g.others (sym h.is ∙ same ∙ g.is) in
    omega (arith, h.below, ap (λ (x : Entry). x.at) entry)

fault_apart : (faults : List Entry) (k : ℕ) (f : Failure) (others : List Failure) (a e : End) → AllPairs ComesFirst (f ∷ others) → HasFaults (then_fault faults k f) a → HasNextOf faults k others e → AreApart a e
fault_apart faults k f others a e order h g same =
    let mine : a.faults ≡ faults ++ record { at = k; failure = f } ∷ h.others = h.is ∙ append_assoc faults (record { at = k; failure = f } ∷ []) h.others in
    let entry : record { at = k; failure = f } ≡ record { at = k; failure = g.failure } = same_next faults (record { at = k; failure = f }) (record { at = k; failure = g.failure }) h.others g.others (sym mine ∙ same ∙ g.is) in
    let failure : g.failure ≡ f = sym (ap (λ (x : Entry). x.failure) entry) in
    let first : ComesFirst f g.failure = first_before ComesFirst comes_once f others g.failure order g.among in
    let itself : ComesFirst f f = subst (ComesFirst f) failure first in
    comes_once f f itself itself

apart_append : (xs ys : List End) → AllPairs AreApart xs → AllPairs AreApart ys → All (λ a. All (AreApart a) ys) xs → AllPairs AreApart (xs ++ ys)
apart_append [] ys a b c = b
apart_append (x ∷ xs) ys a b c =
    AllPairs-cons AreApart x (xs ++ ys)
    (All-append (AreApart x) xs ys (λ j d l. a 0 (suc j) d (omega arith) (omega (arith, l))) (All-head (λ z. All (AreApart z) ys) x xs c))
    (apart_append xs ys (λ i j d l m. a (suc i) (suc j) d (omega (arith, l)) (omega (arith, m))) b (All-tail (λ z. All (AreApart z) ys) x xs c))

module _ (S : Setting) (seed : ℕ) where
  mutual
    from_has : (left : FaultCounts) (from : ℕ) (faults : List Entry) (P : Program) (xs : List End) → EndsFrom S seed left from faults P xs → All (HasFaults faults) xs
    from_has left from faults P xs (run {T = T} {later = later} s b) =
        All-cons (HasFaults faults) (record { seed = seed; program = P; faults = faults; run = T }) later (record { others = []; is = sym (append-nil faults) })
        (All-weaker (HasNextBelow faults (len T)) (HasFaults faults) (faults_of faults (len T)) later (below_has left from faults P T (len T) later b))

    below_has : (left : FaultCounts) (from : ℕ) (faults : List Entry) (P : Program) (T : Run) (k : ℕ) (xs : List End) → EndsBelow S seed left from faults P T k xs → All (HasNextBelow faults k) xs
    below_has left from faults P T k xs none = All-nil (HasNextBelow faults 0)
    below_has left from faults P T k xs (early {k = j} l a) = All-weaker (HasNextBelow faults j) (HasNextBelow faults (suc j)) (earlier_of faults j) xs (below_has left from faults P T j xs a)
    below_has left from faults P T k xs (at {k = j} {here = fs} {before = before} {ends = ends} l a h v) =
        All-append (HasNextBelow faults (suc j)) before ends
        (All-weaker (HasNextBelow faults j) (HasNextBelow faults (suc j)) (earlier_of faults j) before (below_has left from faults P T j before a))
        (All-weaker (HasNextOf faults j fs) (HasNextBelow faults (suc j)) (below_of faults j fs) ends (with_has left faults P T j fs ends v))

    with_has : (left : FaultCounts) (faults : List Entry) (P : Program) (T : Run) (k : ℕ) (fs : List Failure) (xs : List End) → EndsWith S seed left faults P T k fs xs → All (HasNextOf faults k fs) xs
    with_has left faults P T k fs xs no_fault = All-nil (HasNextOf faults k [])
    with_has left faults P T k fs xs (more {Q = Q} {f = f} {others = others} {ends = ends} {later = later} q a v) =
        All-append (HasNextOf faults k (f ∷ others)) ends later
        (All-weaker (HasFaults (then_fault faults k f)) (HasNextOf faults k (f ∷ others)) (next_of faults k f others) ends (from_has (fewer left f) (suc k) (then_fault faults k f) Q ends a))
        (All-weaker (HasNextOf faults k others) (HasNextOf faults k (f ∷ others)) (later_of faults k f others) later (with_has left faults P T k others later v))

  mutual
    pub from_apart : (left : FaultCounts) (from : ℕ) (faults : List Entry) (P : Program) (xs : List End) → EndsFrom S seed left from faults P xs → AllPairs AreApart xs
    from_apart left from faults P xs (run {T = T} {later = later} s b) =
        let root : End = record { seed = seed; program = P; faults = faults; run = T } in
        AllPairs-cons AreApart root later
        (All-weaker (HasNextBelow faults (len T)) (AreApart root) (λ e h. run_apart faults (len T) root e refl h) later (below_has left from faults P T (len T) later b))
        (below_apart left from faults P T (len T) later b)

    below_apart : (left : FaultCounts) (from : ℕ) (faults : List Entry) (P : Program) (T : Run) (k : ℕ) (xs : List End) → EndsBelow S seed left from faults P T k xs → AllPairs AreApart xs
    below_apart left from faults P T k xs none = λ i j d l m. absurd (omega (arith, m))
    below_apart left from faults P T k xs (early {k = j} l a) = below_apart left from faults P T j xs a
    below_apart left from faults P T k xs (at {k = j} {here = fs} {before = before} {ends = ends} l a h v) =
        apart_append before ends (below_apart left from faults P T j before a) (with_apart left faults P T j fs ends v h.ordered)
        (All-weaker (HasNextBelow faults j) (λ x. All (AreApart x) ends) (λ x b. All-weaker (HasNextOf faults j fs) (AreApart x) (λ e w. place_apart faults j fs x e b w) ends (with_has left faults P T j fs ends v)) before
        (below_has left from faults P T j before a))

    with_apart : (left : FaultCounts) (faults : List Entry) (P : Program) (T : Run) (k : ℕ) (fs : List Failure) (xs : List End) → EndsWith S seed left faults P T k fs xs → AllPairs ComesFirst fs → AllPairs AreApart xs
    with_apart left faults P T k fs xs no_fault order = λ i j d l m. absurd (omega (arith, m))
    with_apart left faults P T k fs xs (more {Q = Q} {f = f} {others = others} {ends = ends} {later = later} q a v) order =
        apart_append ends later (from_apart (fewer left f) (suc k) (then_fault faults k f) Q ends a) (with_apart left faults P T k others later v (rest_ordered ComesFirst comes_once f others order))
        (All-weaker (HasFaults (then_fault faults k f)) (λ x. All (AreApart x) later) (λ x b. All-weaker (HasNextOf faults k others) (AreApart x) (λ e w. fault_apart faults k f others x e order b w) later (with_has left faults P T k others later v)) ends
        (from_has (fewer left f) (suc k) (then_fault faults k f) Q ends a))
