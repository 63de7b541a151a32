use Rattle.std.proofs.Common.{◌≡◌, ◌+◌, ◌≤◌, ℤ, w64, to_z, of_z, Some, drop, slice_get, sym, ap, ◌∙◌, arith}
use Rattle.std.proofs.lemmas.Int.{ints, to_z-of_z}
use Rattle.tau_value.specs.Val.{int, inside}
use Rattle.tau_value.specs.Value.{val_of}
use Rattle.tau_eval.specs.Frames.{round_of}
use Rattle.tau_eval.specs.Meaning.{for_each}
use Rattle.tau_eval.specs.Settings.{setting_of}
use Rattle.tau_eval.proofs.ImmediateLemmas.{round_given}
use Rattle.tau_eval.proofs.rounds.rounds_at.Goals as goal

pub items-preserved : goal.items-preserved
items-preserved c =
    let item : slice_get c.args.list.now c.items.next ≡ Some (val_of c.in-Some.item.now) = sym c.in-Some.ensures in
    let within : c.items.count + c.in-Some-number_in_round.given.spent ≤ 100000 = omega arith in
    let same : to_z w64 (of_z w64 c.in-Some-number_in_round.given.number) ≡ c.in-Some-number_in_round.given.number = grind (arith, ints, to_z-of_z) in
    record {
      grows = omega arith;
      goes = λ rs. c.items.invariant.goes rs ∙ round_given c.args.list.now c.items.next (val_of c.items.sum) (val_of c.in-Some.item.now) (int c.in-Some-number_in_round.given.number) c.args.round (setting_of c.args.setting) c.args.scope.now c.items.count c.in-Some-number_in_round.given.spent rs item c.in-Some-number_in_round.ensures within ∙ ap (λ (z : ℤ). for_each (inside (drop (c.items.next + 1) c.args.list.now)) (int z) (round_of c.args.round (setting_of c.args.setting) c.args.scope.now) (c.items.count + c.in-Some-number_in_round.given.spent) rs) (sym same);
    }
