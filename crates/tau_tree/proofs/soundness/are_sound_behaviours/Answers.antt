use Rattle.std.proofs.Common.{◌≡◌, ◌<◌, [], ◌∷◌, ◌++◌, length, sym, ap, ◌∙◌, subst, arith}
use Rattle.std.specs.List.{Contains}
use Rattle.std.proofs.lemmas.Bool.{false≢true}
use Rattle.tau_tree.specs.Checks.{IsSoundBehaviour}
use Rattle.tau_tree.proofs.DistinctLemmas.{sound_so_far_more, fresh}
use Rattle.tau_tree.proofs.soundness.are_sound_behaviours.Goals as goal

pub returns-then-not-branch-2 : goal.returns-then-not-branch-2
returns-then-not-branch-2 c = (
  λ h. absurd (false≢true h),
  λ h. let P = IsSoundBehaviour c.args.counts.starts c.args.counts.behaviours in
      let lt : c.loop-behaviour.behaviour-index < length c.args.behaviours.now = omega arith in
      let name : c.behaviour.inside.name ≡ c.behaviour-item.result.name = ap (λ b. b.name) c.behaviour.view_is in
      sym c.if-not-branch-2.true ∙ c.in_ok-is_new.ensures.value.1 (λ k. fresh P (λ x. x.name) c.args.behaviours.now c.loop-behaviour.behaviour-index c.behaviour-item.result c.loop-behaviour.names lt c.behaviour-item.is c.loop-behaviour.invariant.names_are h.1 (subst (λ w. Contains c.loop-behaviour.names w) name k)),
)

pub loop-behaviour-preserved : goal.loop-behaviour-preserved
loop-behaviour-preserved c =
    let P = IsSoundBehaviour c.args.counts.starts c.args.counts.behaviours in
    let name : c.behaviour.inside.name ≡ c.behaviour-item.result.name = ap (λ b. b.name) c.behaviour.view_is in
    sound_so_far_more P (λ x. x.name) c.args.behaviours.now c.loop-behaviour.behaviour-index c.behaviour-item.result c.loop-behaviour.names c.is_new.new.names (omega arith) c.behaviour-item.is c.loop-behaviour.invariant (c.in_ok-is_sound_behaviour.ensures.0 c.if-not-branch.false) (λ k. c.in_ok-is_new.ensures.value.0 c.if-not-branch-2.false (subst (λ w. Contains c.loop-behaviour.names w) (sym name) k)) (c.in_ok-is_new.ensures.names ∙ ap (λ w. c.loop-behaviour.names ++ w ∷ []) name)
