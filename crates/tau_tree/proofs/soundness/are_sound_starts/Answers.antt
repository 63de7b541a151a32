use Rattle.std.proofs.Common.{◌<◌, length, sym, ◌∙◌, subst, arith}
use Rattle.std.proofs.lemmas.Bool.{false≢true}
use Rattle.tau_tree.specs.Checks.{IsSoundStart}
use Rattle.tau_tree.proofs.DistinctLemmas.{sound_so_far_more, fresh}
use Rattle.tau_tree.proofs.soundness.are_sound_starts.Goals as goal

pub returns-then-not-is_sound_start : goal.returns-then-not-is_sound_start
returns-then-not-is_sound_start c = (
  λ h. absurd (false≢true h),
  λ h. let P = IsSoundStart c.args.counts.nodes c.args.counts.behaviours c.args.counts.starts in
      let lt : c.loop-start.start-index < length c.args.starts.now = omega arith in
      sym c.if-not-is_sound_start.true ∙ c.is_sound_start.ensures.1 (subst P (sym c.start-item.is) (h.0 c.loop-start.start-index c.start-item.result lt)),
)

pub returns-then-not-branch : goal.returns-then-not-branch
returns-then-not-branch c = (
  λ h. absurd (false≢true h),
  λ h. let P = IsSoundStart c.args.counts.nodes c.args.counts.behaviours c.args.counts.starts in
      let lt : c.loop-start.start-index < length c.args.starts.now = omega arith in
      sym c.if-not-branch.true ∙ c.in_ok-is_new.ensures.value.1 (fresh P (λ x. x.name) c.args.starts.now c.loop-start.start-index c.start-item.result c.loop-start.names lt c.start-item.is c.loop-start.invariant.names_are h.1),
)

pub loop-start-preserved : goal.loop-start-preserved
loop-start-preserved c =
    let P = IsSoundStart c.args.counts.nodes c.args.counts.behaviours c.args.counts.starts in
    sound_so_far_more P (λ x. x.name) c.args.starts.now c.loop-start.start-index c.start-item.result c.loop-start.names c.is_new.new.names (omega arith) c.start-item.is c.loop-start.invariant (c.is_sound_start.ensures.0 c.if-not-is_sound_start.false) (c.in_ok-is_new.ensures.value.0 c.if-not-branch.false) c.in_ok-is_new.ensures.names
