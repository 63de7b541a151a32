use Rattle.std.proofs.Common.{ap, ◌∙◌, length}
use Rattle.std.specs.HashMap.{get}
use Rattle.std.specs.Map.{lookup}
use Rattle.tau_past.specs.Tables.{TellsCarried, TellsMade, TellsEarlier, TellsTaker, same_point}
use Rattle.tau_past.proofs.NextTables.{lists_none, born_zero, latest_zero}
use Rattle.tau_past.proofs.index.Index.of.Goals as goal

pub loop-place-init : goal.loop-place-init
loop-place-init c =
    let T = c.args.trace.now.run in
    record {
      histories = c.in_ok-histories.ensures;
      turns = c.in_ok-turns.ensures;
      born = born_zero T _ (c.len-born.ensures ∙ ap (λ o. length o.names) c.opening.ensures.value);
      carried = lists_none (TellsCarried T) _ c.new-carried.ensures.items;
      made = lists_none (TellsMade T) _ c.new-made.ensures.items;
      latest = latest_zero T (get same_point c.new-latest.result) (λ p. ap (lookup (same_point p)) c.new-latest.ensures.empty);
      earlier = lists_none (TellsEarlier T) _ c.new-earlier.ensures.items;
      takers = lists_none (TellsTaker T) _ c.new-takers.ensures.items;
      births = c.in_ok-births.ensures;
    }
