-- Of which steps the cause may be asked.
use Rattle.std.proofs.Common.{◌≡◌, ⊎_elim, inl, inr, ℕ, ◌≤◌, List, Option, Some, None, subst, arith, ◌<◌, refl, sym}
use Rattle.std.specs.Prelude.{Contains}
use Rattle.std.proofs.lemmas.Option.{slice_get_within}
use Rattle.tau_explain.specs.declared.chains.chained.Chained.{Chained}
use Rattle.tau_trace.specs.declared.step.Step.TheVariants.{Checkpoint}
use Rattle.tau_trace.specs.Run.{Run, len}
use Rattle.tau_explain.specs.Decisions.{IsDecision}
use Rattle.tau_cut.specs.declared.cut.Marked.{Marked}
use Rattle.tau_cut.specs.declared.cut.Marked.TheVariants.{In, Out}
use Rattle.tau_cut.specs.Cuts.{place_of, places_in, IsCut}
use Rattle.tau_cut.proofs.MarkLemmas.{in_place, mark_at, place_at}
use Rattle.tau_scene.specs.Causes.Causes.{IsCauseAt}
use Rattle.tau_picture.specs.Asking.{IsLost, IsAskable}
use Rattle.tau_picture.specs.declared.asking.Asked.{Asked}
use Rattle.tau_picture.specs.Inner.Asked.{Tells, IsAsked, IsAskedWithout}

-- a Checkpoint that is Out may be asked for
out_asked : (T : Run) (cut : List Marked) (k : ℕ) (chain : List Chained) → IsCut T cut → Contains cut (Out k chain) → IsAskable T k
out_asked T cut k chain is h =
    let checks = (is.all k).0 (place_at cut (Out k chain) h) in
    inr (record { point = checks.0; checks = checks.1; lost = λ steps c. is.exact k chain h steps c })

-- a step that has a cause may be
pub cause_asked_for : (T : Run) (cut : List Marked) (k : ℕ) (chain : List Chained) → IsCut T cut → IsCauseAt T cut k (Some chain) → IsAskable T k
cause_asked_for T cut k chain is c = ⊎_elim (λ w. inl (w.0, w.1)) (λ h. out_asked T cut k chain is h) c

-- a Checkpoint that no consistent set holds is Out
not_lost : (T : Run) (cut : List Marked) (k : ℕ) → IsCut T cut → IsCauseAt T cut k None → IsLost T k → (m : Marked) → Contains cut m → place_of m ≡ k → ⊥
not_lost T cut k is none l (In j) h e = l.lost (places_in cut) is.consistent (subst (Contains (places_in cut)) e (in_place cut j h))
not_lost T cut k is none l (Out j chain) h e = none chain (inr (subst (λ i. Contains cut (Out i chain)) e h))

-- one that has none and is no decision may not
pub none_asked : (T : Run) (cut : List Marked) (k : ℕ) → IsCut T cut → IsCauseAt T cut k None → ¬ IsDecision T k → ¬ IsAskable T k
none_asked T cut k is none other m = ⊎_elim other (λ l. let marked = mark_at cut k ((is.all k).1 (l.point, l.checks)) in not_lost T cut k is none l marked.0 marked.1 marked.2) m

-- what is answered of a step without a cause
pub asked_without : (T : Run) (cut : List Marked) (k : ℕ) (o : Option Asked) → IsCut T cut → k < len T → IsCauseAt T cut k None → IsAskedWithout T k o → IsAsked T cut (Some k) o
asked_without T cut k None is lt none w = none_asked T cut k is none w
asked_without T cut k (Some a) is lt none w = subst (Tells T cut (Some k)) (sym w.1) (record { allowed = inl w.0; place = refl; within = lt; cause = none })
