use Rattle.std.proofs.Common.{◌≡◌, ◌≤◌, ◌-◌, List, drop, length}
use Rattle.tau_value.specs.Val.{Val, inside}
use Rattle.tau_value.specs.Value.{val_of}
use Rattle.tau_eval.specs.Meaning.{for_each}
use Rattle.tau_eval.specs.Frames.{round_of}
use Rattle.tau_eval.specs.Settings.{setting_of}
use Rattle.tau_eval.proofs.rounds.rounds_at.Given as goal

abbrev pub invariant-items : goal.invariant-items
invariant-items l = record {
  grows : l.fn.from.count ≤ l.count;
  goes : (rs : List Val) → for_each (inside (drop l.fn.from.next l.list)) (val_of l.fn.from.sum) (round_of l.round (setting_of l.setting) l.scope) l.fn.from.count rs ≡ for_each (inside (drop l.next l.list)) (val_of l.sum) (round_of l.round (setting_of l.setting) l.scope) l.count rs;
}

abbrev pub decreases-items : goal.decreases-items
decreases-items l = length l.list - l.next
