-- A run has one outcome, and ends have one list of outcomes.
use Rattle.std.proofs.Common.{◌≡◌, ◌⊎◌, inl, inr, ⊎_elim, ℕ, suc, ◌<◌, List, [], ◌∷◌, ◌++◌, length, get_or, AllPairs, refl, sym, ap, ◌∙◌, subst, arith}
use Rattle.std.specs.Prelude.{Contains}
use Rattle.std.specs.List.Sorted.{IsStrictlySortedBy}
use Rattle.std.specs.Ordering.{nat_cmp, ordering_then}
use Rattle.std.specs.declared.cmp.Ordering.{Ordering}
use Rattle.std.specs.declared.cmp.Ordering.TheVariants.{Less, Equal}
use Rattle.std.specs.Cmp.{ranks}
use Rattle.std.specs.Cmp.Lexicographic.{slice_cmp}
use Rattle.std.proofs.lemmas.Cmp.{by_ranked}
use Rattle.std.proofs.lemmas.List.Elements.{All-from_get_or, All-contains, recursion_from_All, Contains-append_right}
use Rattle.tau_sexpr.specs.Tree.{Tree}
use Rattle.tau_sexpr.specs.Printing.{printed}
use Rattle.tau_points.proofs.Membership.{Contains-head, Contains-later}
use Rattle.tau_points.proofs.SortedLists.{sorted_nil, sorted_cons, same_list}
use Rattle.tau_tree.specs.declared.programs.Program.{Program}
use Rattle.tau_trace.specs.Run.{Run, len}
use Rattle.tau_trace.specs.Numbering.{born}
use Rattle.tau_report.proofs.Uniqueness.{saved_forms_once}
use Rattle.tau_cut.specs.declared.cut.Marked.{Marked}
use Rattle.tau_cut.specs.Cuts.{places_in}
use Rattle.tau_cut.specs.KeptStates.{StateForms}
use Rattle.tau_cut.proofs.OneCut.{cut_once, states_once}
use Rattle.tau_faults.specs.Ends.{End}
use Rattle.tau_storm.specs.declared.outcomes.Outcome.{Outcome}
use Rattle.tau_storm.specs.Outcomes.{AreOpenLines, complete, stopped, EndsWithLines, HasLines, CountIs, none, one_more, no_more, IsSimplest, IsOutcome, AreOutcomes}
use Rattle.tau_storm.specs.Order.{AreBytesBefore, ends, lesser, goes_on, ComesBefore, by_faults, by_steps, by_lines, AreOrdered}
use Rattle.tau_storm.specs.Inner.Ordered.{outcome_cmp}
use Rattle.tau_storm.proofs.Sorting.{outcome_total}

-- the lines of a run

open_once : (P : Program) (T : Run) (fs gs : List Tree) → AreOpenLines P T fs → AreOpenLines P T gs → fs ≡ gs
open_once P T fs gs (complete c) (complete d) = refl
open_once P T fs gs (complete c) (stopped isnt) = absurd (isnt c)
open_once P T fs gs (stopped isnt) (complete c) = absurd (isnt c)
open_once P T fs gs (stopped n) (stopped m) = refl

pub lines_once : (P : Program) (T : Run) (lines others : List ℕ) → EndsWithLines P T lines → EndsWithLines P T others → lines ≡ others
lines_once P T lines others a b =
    let marks : a.marks ≡ b.marks = cut_once T a.marks b.marks a.is_cut b.is_cut in
    let there : StateForms P T (places_in a.marks) (born T (len T)) b.kept = subst (λ (ms : List Marked). StateForms P T (places_in ms) (born T (len T)) b.kept) (sym marks) b.kept_are in
    let kept : a.kept ≡ b.kept = states_once P T (places_in a.marks) (born T (len T)) a.kept b.kept a.kept_are there in
    let saved : a.saved ≡ b.saved = saved_forms_once P T (born T (len T)) a.saved b.saved a.saved_are b.saved_are in
    let opened : a.opened ≡ b.opened = open_once P T a.opened b.opened a.opened_are b.opened_are in
    a.is ∙ (λ i. printed (opened i ++ saved i ++ kept i)) ∙ sym b.is

-- counts

abbrev head_of : End → List End → End
head_of e [] = e
head_of e (x ∷ xs) = x

abbrev tail_of : List End → List End
tail_of [] = []
tail_of (x ∷ xs) = xs

pub push_same : (xs ys : List End) (d e : End) → xs ++ d ∷ [] ≡ ys ++ e ∷ [] → (xs ≡ ys) × (d ≡ e)
push_same [] [] d e is = (refl, ap (head_of d) is)
push_same [] (y ∷ ys) d e is = absurd (filled ys e (ap tail_of is)) where
  filled : (ys : List End) (e : End) → [] ≡ ys ++ e ∷ [] → ⊥
  filled [] e f = let n = ap length f in omega (arith, n)
  filled (y ∷ ys) e f = let n = ap length f in omega (arith, n)
push_same (x ∷ xs) [] d e is = absurd (filled xs d (ap tail_of is)) where
  filled : (ys : List End) (e : End) → ys ++ e ∷ [] ≡ [] → ⊥
  filled [] e f = let n = ap length f in omega (arith, n)
  filled (y ∷ ys) e f = let n = ap length f in omega (arith, n)
push_same (x ∷ xs) (y ∷ ys) d e is =
    let first : x ≡ y = ap (head_of x) is in
    let rest = push_same xs ys d e (ap tail_of is) in
    ((λ i. first i ∷ rest.0 i), rest.1)

pub none_pushed : (ys : List End) (e : End) → [] ≡ ys ++ e ∷ [] → ⊥
none_pushed [] e f = let n = ap length f in omega (arith, n)
none_pushed (y ∷ ys) e f = let n = ap length f in omega (arith, n)

pub count_once : (Passes : End → Type 0) (xs ys : List End) (n m : ℕ) → CountIs Passes xs n → CountIs Passes ys m → xs ≡ ys → n ≡ m
count_once Passes xs ys n m none none is = refl
count_once Passes xs ys n m none (one_more {e = e} {ends = back} b q) is = absurd (none_pushed back e is)
count_once Passes xs ys n m none (no_more {e = e} {ends = back} b q) is = absurd (none_pushed back e is)
count_once Passes xs ys n m (one_more {e = e} {ends = back} a p) none is = absurd (none_pushed back e (sym is))
count_once Passes xs ys n m (no_more {e = e} {ends = back} a p) none is = absurd (none_pushed back e (sym is))
count_once Passes xs ys n m (one_more {e = d} {ends = fronts} {n = i} a p) (one_more {e = e} {ends = backs} {n = j} b q) is =
    let same = push_same fronts backs d e is in ap suc (count_once Passes fronts backs i j a b same.0)
count_once Passes xs ys n m (one_more {e = d} {ends = fronts} a p) (no_more {e = e} {ends = backs} b q) is =
    let same = push_same fronts backs d e is in absurd (q (subst Passes same.1 p))
count_once Passes xs ys n m (no_more {e = d} {ends = fronts} a p) (one_more {e = e} {ends = backs} b q) is =
    let same = push_same fronts backs d e is in absurd (p (subst Passes (sym same.1) q))
count_once Passes xs ys n m (no_more {e = d} {ends = fronts} {n = i} a p) (no_more {e = e} {ends = backs} {n = j} b q) is =
    let same = push_same fronts backs d e is in count_once Passes fronts backs i j a b same.0

-- the first of the simplest

pub split_cases : (f g b c : List End) (s t : End) → f ++ s ∷ b ≡ g ++ t ∷ c → (s ≡ t) ⊎ ((Contains g s × Contains b t) ⊎ (Contains f t × Contains c s))
split_cases [] [] b c s t is = inl (ap (head_of s) is)
split_cases [] (y ∷ g) b c s t is =
    let first : s ≡ y = ap (head_of s) is in
    let rest : b ≡ g ++ t ∷ c = ap tail_of is in
    inr (inl (subst (Contains (y ∷ g)) (sym first) (Contains-head y g), subst (λ (l : List End). Contains l t) (sym rest) (Contains-append_right g (t ∷ c) t (Contains-head t c))))
split_cases (x ∷ f) [] b c s t is =
    let first : x ≡ t = ap (head_of x) is in
    let rest : f ++ s ∷ b ≡ c = ap tail_of is in
    inr (inr (subst (Contains (x ∷ f)) first (Contains-head x f), subst (λ (l : List End). Contains l s) rest (Contains-append_right f (s ∷ b) s (Contains-head s b))))
split_cases (x ∷ f) (y ∷ g) b c s t is = ⊎_elim
    (λ same. inl same)
    (λ other. ⊎_elim (λ p. inr (inl (Contains-later y g s p.0, p.1))) (λ p. inr (inr (Contains-later x f t p.0, p.1))) other)
    (split_cases f g b c s t (ap tail_of is))

pub simplest_once : (Passes : End → Type 0) (all : List End) (s t : End) → IsSimplest Passes all s → IsSimplest Passes all t → s ≡ t
simplest_once Passes all s t a b = ⊎_elim
    (λ same. same)
    (λ other. ⊎_elim
    (λ p. absurd (a.simplest t p.1 b.passes (b.first s p.0 a.passes)))
    (λ p. absurd (b.simplest s p.1 a.passes (a.first t p.0 b.passes)))
    other)
    (split_cases a.front b.front a.back b.back s t (sym a.stands ∙ b.stands))

-- outcomes with the same lines

outcome_once : (all : List End) (o p : Outcome) → o.lines ≡ p.lines → IsOutcome all o → IsOutcome all p → o ≡ p
outcome_once all o p same a b =
    let runs : o.runs ≡ p.runs = count_once (HasLines o.lines) all all o.runs p.runs a.counted (subst (λ (l : List ℕ). CountIs (HasLines l) all p.runs) (sym same) b.counted) refl in
    let simplest : a.simplest ≡ b.simplest = simplest_once (HasLines o.lines) all a.simplest b.simplest a.is_simplest (subst (λ (l : List ℕ). IsSimplest (HasLines l) all b.simplest) (sym same) b.is_simplest) in
    let seed : o.seed ≡ p.seed = a.seed ∙ ap (λ (e : End). e.seed) simplest ∙ sym b.seed in
    let faults : o.faults ≡ p.faults = a.faults ∙ ap (λ (e : End). length e.faults) simplest ∙ sym b.faults in
    let steps : o.steps ≡ p.steps = a.steps ∙ ap (λ (e : End). len e.run) simplest ∙ sym b.steps in
    let script : o.script ≡ p.script = a.script ∙ ap (λ (e : End). e.program.script) simplest ∙ sym b.script in
    λ i. record { lines = same i; runs = runs i; seed = seed i; faults = faults i; steps = steps i; script = script i }

-- each outcome of one list is in the other
outcome_there : (all : List End) (os ps : List Outcome) → AreOutcomes all os → AreOutcomes all ps → (o : Outcome) → Contains os o → Contains ps o
outcome_there all os ps a b o c =
    let is : IsOutcome all o = All-contains (IsOutcome all) os o a.each c in
    let simplest = is.is_simplest in
    let within : Contains all is.simplest = subst (λ (l : List End). Contains l is.simplest) (sym simplest.stands) (Contains-append_right simplest.front (is.simplest ∷ simplest.back) is.simplest (Contains-head is.simplest simplest.back)) in
    let w = b.whole is.simplest within in
    let lines : o.lines ≡ w.0.lines = lines_once is.simplest.program is.simplest.run o.lines w.0.lines simplest.passes w.2 in
    let same : o ≡ w.0 = outcome_once all o w.0 lines is (All-contains (IsOutcome all) ps w.0 b.each w.1) in
    subst (Contains ps) (sym same) w.1

-- the order

nat_less : (x y : ℕ) → x < y → nat_cmp x y ≡ Less
nat_less x y lt = by_ranked (x < y) (x ≡ y) (y < x) (nat_cmp x y) (ranks x y) (λ e l. e) (λ e q. absurd (omega (arith, lt, q))) (λ e g. absurd (omega (arith, lt, g)))

nat_equal : (x y : ℕ) → x ≡ y → nat_cmp x y ≡ Equal
nat_equal x y q = by_ranked (x < y) (x ≡ y) (y < x) (nat_cmp x y) (ranks x y) (λ e l. absurd (omega (arith, l, q))) (λ e p. e) (λ e g. absurd (omega (arith, g, q)))

bytes_before : (xs ys : List ℕ) → AreBytesBefore xs ys → slice_cmp nat_cmp xs ys ≡ Less
bytes_before xs ys ends = refl
bytes_before xs ys (lesser {a = a} {b = b} {xs = us} {ys = bs} lt) = ap (λ (o : Ordering). ordering_then o (slice_cmp nat_cmp us bs)) (nat_less a b lt)
bytes_before xs ys (goes_on {b = b} {xs = us} {ys = bs} before) = ap (λ (o : Ordering). ordering_then o (slice_cmp nat_cmp us bs)) (nat_equal b b refl) ∙ bytes_before us bs before

before_less : (a b : Outcome) → ComesBefore a b → outcome_cmp a b ≡ Less
before_less a b (by_faults lt) = ap (λ (o : Ordering). ordering_then (ordering_then o (nat_cmp a.steps b.steps)) (slice_cmp nat_cmp a.lines b.lines)) (nat_less a.faults b.faults lt)
before_less a b (by_steps same lt) = (λ i. ordering_then (ordering_then (nat_equal a.faults b.faults same i) (nat_less a.steps b.steps lt i)) (slice_cmp nat_cmp a.lines b.lines))
before_less a b (by_lines same level lines) = λ i. ordering_then (ordering_then (nat_equal a.faults b.faults same i) (nat_equal a.steps b.steps level i)) (bytes_before a.lines b.lines lines i)

strictly_sorted : (os : List Outcome) → AllPairs ComesBefore os → IsStrictlySortedBy outcome_cmp os
strictly_sorted [] pairs = sorted_nil outcome_cmp
strictly_sorted (o ∷ os) pairs = sorted_cons outcome_cmp o os
    (recursion_from_All (λ y. outcome_cmp o y ≡ Less) os (All-from_get_or (λ y. outcome_cmp o y ≡ Less) os o (λ j lt. before_less o (get_or os j o) (pairs 0 (suc j) o (omega arith) (omega (arith, lt))))))
    (strictly_sorted os (λ i j d less lt. pairs (suc i) (suc j) d (omega (arith, less)) (omega (arith, lt))))

pub outcomes_once : (all : List End) (os ps : List Outcome) → AreOrdered all os → AreOrdered all ps → os ≡ ps
outcomes_once all os ps a b = same_list outcome_total os ps (strictly_sorted os a.ordered) (strictly_sorted ps b.ordered) (λ o. (outcome_there all os ps a.are b.are o, outcome_there all ps os b.are a.are o))
