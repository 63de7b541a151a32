use Rattle.std.proofs.Common.{length, length-append, ap, arith, List, Option, [], ◌∷◌, None}
use Rattle.tau_scene.specs.declared.notes.keeping.Kept.{Kept}
use Rattle.tau_scene.proofs.KeptLemmas.{none_more}
use Rattle.tau_scene.proofs.notes.keeping.none_kept.Goals as goal

pub loop-rank-preserved : goal.loop-rank-preserved
loop-rank-preserved c = record {
  count = omega (arith, ap (λ (l : List (Option Kept)). length l) c.in_ok-push.ensures.items, length-append c.loop-rank.kept.items (None ∷ []), c.loop-rank.invariant.count);
  none = none_more c.loop-rank.kept.items c.push.new.self.items c.in_ok-push.ensures.items c.loop-rank.invariant.none;
}
