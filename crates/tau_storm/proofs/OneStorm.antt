-- A storm comes to one list of ends, of which one tells what it tells.
use Rattle.std.proofs.Common.{◌≡◌, ⊎_elim, ℕ, zero, suc, List, [], ◌∷◌, ◌++◌, Some, refl, sym, ◌∙◌, subst, arith}
use Rattle.std.specs.Prelude.{slice_get, Contains}
use Rattle.std.proofs.lemmas.List.Elements.{Contains-append_left, Contains-append_right, Contains-push, Contains-push_cases}
use Rattle.tau_points.proofs.Membership.{Contains-head, Contains-later}
use Rattle.tau_tree.specs.declared.programs.Program.{Program}
use Rattle.tau_trace.proofs.Lists.{same_some}
use Rattle.tau_script.proofs.Existing.{determined}
use Rattle.tau_faults.specs.declared.setting.Setting.{Setting}
use Rattle.tau_faults.specs.Ends.{End}
use Rattle.tau_faults.proofs.Once.{from_once, one_serial_run}
use Rattle.tau_storm.specs.declared.totals.Totals.{Totals}
use Rattle.tau_storm.specs.Seeds.{seed_from, AreEndsOfSeeds, none, more}
use Rattle.tau_storm.specs.Outcomes.{IsSimplest, AreTotals, IsCompleteEnd}
use Rattle.tau_storm.specs.Claims.{Holds, AreBroken, no_end, holds, breaks}
use Rattle.tau_storm.proofs.OneOutcome.{push_same, count_once}

pub contains_at : {X : Type 0} (xs : List X) (k : ℕ) (x : X) → slice_get xs k ≡ Some x → Contains xs x
contains_at [] k x e = absurd (cc)
contains_at {X} (y ∷ ys) zero x e = subst (λ (z : X). Contains (y ∷ ys) z) (same_some e) (Contains-head y ys)
contains_at (y ∷ ys) (suc k) x e = Contains-later y ys x (contains_at ys k x e)

-- a list with one element more has one
pub push_some : {X : Type 0} (xs : List X) (x : X) → xs ++ x ∷ [] ≡ [] → ⊥
push_some [] x e = absurd (cc)
push_some (y ∷ ys) x e = absurd (cc)

-- the ends of the seeds are one list
pub seeds_once : (S : Setting) (O : Program) (seed n : ℕ) (es fs : List End) → AreEndsOfSeeds S O seed n es → AreEndsOfSeeds S O seed n fs → es ≡ fs
seeds_once S O seed n es fs none none = refl
seeds_once S O seed n es fs (more {n = m} {before = bs} {ends = cs} a v) (more {before = ds} {ends = us} b w) =
    let first : bs ≡ ds = seeds_once S O seed m bs ds a b in
    let then : cs ≡ us = from_once one_serial_run determined S (seed_from seed m) S.faults 0 [] O cs us v w in
    λ i. first i ++ then i

pub totals_once : (ends : List End) (t u : Totals) → AreTotals ends t → AreTotals ends u → t ≡ u
totals_once ends t u a b =
    let runs : t.runs ≡ u.runs = a.runs ∙ sym b.runs in
    let complete : t.complete ≡ u.complete = count_once IsCompleteEnd ends ends t.complete u.complete a.complete b.complete refl in
    let stopped : t.stopped ≡ u.stopped = omega (arith, runs, complete, a.stopped, b.stopped) in
    let steps : t.steps ≡ u.steps = a.steps ∙ sym b.steps in
    λ i. record { runs = runs i; complete = complete i; stopped = stopped i; steps = steps i }

-- the ends at which a claim is broken are one list
broken_from : (behaviour : ℕ) (xs ys us vs : List End) → AreBroken behaviour xs us → AreBroken behaviour ys vs → xs ≡ ys → us ≡ vs
broken_from behaviour xs ys us vs no_end no_end e = refl
broken_from behaviour xs ys us vs no_end (holds {e = d} {ends = ds} b q) e = absurd (push_some ds d (sym e))
broken_from behaviour xs ys us vs no_end (breaks {e = d} {ends = ds} b q) e = absurd (push_some ds d (sym e))
broken_from behaviour xs ys us vs (holds {e = c} {ends = cs} a p) no_end e = absurd (push_some cs c e)
broken_from behaviour xs ys us vs (breaks {e = c} {ends = cs} a p) no_end e = absurd (push_some cs c e)
broken_from behaviour xs ys us vs (holds {e = c} {ends = cs} a p) (holds {e = d} {ends = ds} b q) e = broken_from behaviour cs ds us vs a b (push_same cs ds c d e).0
broken_from behaviour xs ys us vs (holds {e = c} {ends = cs} a p) (breaks {e = d} {ends = ds} b q) e = absurd (q (subst (Holds behaviour) (push_same cs ds c d e).1 p))
broken_from behaviour xs ys us vs (breaks {e = c} {ends = cs} a p) (holds {e = d} {ends = ds} b q) e = absurd (p (subst (Holds behaviour) (sym (push_same cs ds c d e).1) q))
broken_from behaviour xs ys us vs (breaks {e = c} {ends = cs} {broken = ps} a p) (breaks {e = d} {ends = ds} {broken = qs} b q) e =
    let both = push_same cs ds c d e in
    let rest : ps ≡ qs = broken_from behaviour cs ds ps qs a b both.0 in
    λ i. rest i ++ both.1 i ∷ []

pub broken_once : (behaviour : ℕ) (ends us vs : List End) → AreBroken behaviour ends us → AreBroken behaviour ends vs → us ≡ vs
broken_once behaviour ends us vs a b = broken_from behaviour ends ends us vs a b refl

-- each of them is one of the ends, and the claim is broken at it
pub broken_each : (behaviour : ℕ) (ends broken : List End) (e : End) → AreBroken behaviour ends broken → Contains broken e → Contains ends e × (¬ Holds behaviour e)
broken_each behaviour ends broken e no_end c = absurd (omega (arith, c.1))
broken_each behaviour ends broken e (holds {e = d} {ends = ds} a p) c =
    let h = broken_each behaviour ds broken e a c in
    (Contains-append_left ds (d ∷ []) e h.0, h.1)
broken_each behaviour ends broken e (breaks {e = d} {ends = ds} {broken = bs} a p) c =
    ⊎_elim
    (λ old. let h = broken_each behaviour ds bs e a old in (Contains-append_left ds (d ∷ []) e h.0, h.1))
    (λ same. (subst (λ (x : End). Contains (ds ++ d ∷ []) x) same (Contains-push ds d), subst (λ (x : End). ¬ Holds behaviour x) same p))
    (Contains-push_cases bs d e c)

-- and so is the simplest of them that pass a test
pub broken_among : (behaviour : ℕ) (ends broken : List End) (e : End) {Passes : End → Type 0} → AreBroken behaviour ends broken → IsSimplest Passes broken e → Contains ends e × (¬ Holds behaviour e)
broken_among behaviour ends broken e are is =
    broken_each behaviour ends broken e are (subst (λ (l : List End). Contains l e) (sym is.stands) (Contains-append_right is.front (e ∷ is.back) e (Contains-head e is.back)))
