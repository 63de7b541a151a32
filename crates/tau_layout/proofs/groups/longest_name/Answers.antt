use Rattle.std.proofs.Common.{◌≡◌, ◌∷◌, ◌++◌, [], get_or, take, sym, ap, ◌∙◌, arith}
use Rattle.std.proofs.lemmas.List.{take_more}
use Rattle.tau_layout.specs.declared.lanes.Lane.{Lane}
use Rattle.tau_layout.specs.Lanes.{longest_name}
use Rattle.tau_layout.proofs.GroupLemmas.{longest_push}
use Rattle.tau_layout.proofs.groups.longest_name.Goals as goal

pub loop-lane-preserved : goal.loop-lane-preserved
loop-lane-preserved c =
    let names = c.args.names.now in
    let xs = c.args.lanes.now in
    let k = c.loop-lane.lane-index in
    let d : Lane = record { node = 0; who = 0 } in
    let more = longest_push names (take k xs) (get_or xs k d) in
    let longest = c.loop-lane.invariant.0 in
    let named = c.name_length.ensures.length in
    let all = c.max-longest.ensures in
    let is : c.max-longest.result ≡ longest_name names (take k xs ++ get_or xs k d ∷ []) = cc in
    (is ∙ ap (longest_name names) (sym (take_more xs k d (omega (arith, c.loop-lane-test.true)))), omega (arith, all, c.name_length.ensures.most, c.loop-lane.invariant.1))
