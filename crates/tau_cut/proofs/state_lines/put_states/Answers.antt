use Rattle.std.proofs.Common.{◌≡◌, ◌<◌, ◌∙◌, length, refl, ap, sym, arith, add-one, Some, Option, List}
use Rattle.std.specs.Prelude.{slice_get}
use Rattle.std.proofs.lemmas.Option.{slice_get_read}
use Rattle.tau_cut.specs.declared.states.Kept.{Kept}
use Rattle.tau_cut.proofs.LineLemmas.{puts_none, puts_more}
use Rattle.tau_cut.proofs.state_lines.put_states.Goals as goal

pub loop-who-init : goal.loop-who-init
loop-who-init c = puts_none c.args.trace.now.run c.args.states.now c.args.out.now.items

pub loop-who-preserved : goal.loop-who-preserved
loop-who-preserved c =
    let rows = c.states-rows.result.now in
    let who = c.loop-who.who in
    let row = c.index-rows-who.result in
    let long = ap (λ (l : List (Option Kept)). length l) c.states-rows.ensures in
    let within : who < length rows = omega (arith, c.loop-who-test.true, c.born-who-end.ensures, c.requires, long) in
    let read : slice_get rows who ≡ Some row = slice_get_read rows (length rows) who row refl within c.index-rows-who.is in
    let here : slice_get c.args.states.now who ≡ Some row = sym (ap (λ (l : List (Option Kept)). slice_get l who) c.states-rows.ensures) ∙ read in
    rw add-one
    (puts_more c.args.trace.now.run c.opening-opening.result.now c.args.states.now who row c.args.out.now.items c.loop-who.out.items c.put_row.new.out.items c.opening-opening.ensures.value here c.in_ok-put_row.ensures c.loop-who.invariant)
