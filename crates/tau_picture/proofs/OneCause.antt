-- The cause of a step is told once.
use Rattle.std.proofs.Common.{◌≡◌, ⊎_elim, ℕ, true, false, List, Option, Some, None, refl, sym, ap, ◌∙◌}
use Rattle.std.specs.Prelude.{Contains}
use Rattle.tau_explain.specs.declared.chains.chained.Chained.{Chained}
use Rattle.tau_trace.specs.declared.step.Step.TheVariants.{Checkpoint}
use Rattle.tau_trace.specs.Run.{Run}
use Rattle.tau_trace.proofs.Lists.{same_some}
use Rattle.tau_past.specs.Pasts.{Link, Is, Everywhere}
use Rattle.tau_explain.specs.Links.Links.{points_of}
use Rattle.tau_explain.specs.declared.answers.Why.TheVariants as answers
use Rattle.tau_explain.specs.Decisions.{is_decision, IsWhy}
use Rattle.tau_explain.proofs.OneAnswer.{first_same, told_same, one_answer}
use Rattle.tau_cut.specs.declared.cut.Marked.{Marked}
use Rattle.tau_cut.specs.declared.cut.Marked.TheVariants.{Out}
use Rattle.tau_cut.specs.Consistent.{KeptAble}
use Rattle.tau_cut.specs.Cuts.{IsCut}
use Rattle.tau_cut.proofs.MarkLemmas.{place_at}
use Rattle.tau_scene.specs.Causes.Causes.{IsCause, IsCauseAt}

chain_same : (c d : List Chained) → answers.Chain c ≡ answers.Chain d → c ≡ d
chain_same c d e = cc

module _ (T : Run) (cut : List Marked) (is : IsCut T cut) where
  out_once : (k : ℕ) (c d : List Chained) → Contains cut (Out k c) → Contains cut (Out k d) → c ≡ d
  out_once k c d h i =
      let checks = (is.all k).0 (place_at cut (Out k c) h) in
      let f = is.out k checks.0 c h checks.1 in
      let g = is.out k checks.0 d i checks.1 in
      told_same T Everywhere c d f.told g.told (first_same (Link T Everywhere) (Is checks.0) (λ q. ¬ KeptAble T q) (points_of c) (points_of d) f.first g.first)

  -- a Checkpoint is no decision
  not_both : (k : ℕ) (c d : List Chained) → IsWhy T k (answers.Chain c) → ¬ Contains cut (Out k d)
  not_both k c d w h =
      let checks = ((is.all k).0 (place_at cut (Out k d) h)).1 in
      let same : w.0 ≡ Checkpoint checks.by = same_some (sym w.1.stands ∙ checks.closes) in
      let one : is_decision w.0 ≡ true = w.1.decides in
      let other : is_decision w.0 ≡ false = ap is_decision same in
      absurd (cc)

  cause_once : (k : ℕ) (c d : List Chained) → IsCause T cut k c → IsCause T cut k d → c ≡ d
  cause_once k c d a b = ⊎_elim
      (λ w. ⊎_elim (λ v. chain_same c d (one_answer T k (answers.Chain c) (answers.Chain d) w v)) (λ h. absurd (not_both k c d w h)) b)
      (λ h. ⊎_elim (λ v. absurd (not_both k d c v h)) (λ i. out_once k c d h i) b)
      a

  pub cause_at_once : (k : ℕ) (o q : Option (List Chained)) → IsCauseAt T cut k o → IsCauseAt T cut k q → o ≡ q
  cause_at_once k None None a b = refl
  cause_at_once k None (Some d) a b = absurd (a d b)
  cause_at_once k (Some c) None a b = absurd (b c a)
  cause_at_once k (Some c) (Some d) a b = ap Some (cause_once k c d a b)
