use Rattle.std.proofs.Common.{◌≡◌, sym, refl, length, Some, arith, add-one}
use Rattle.std.specs.Prelude.{slice_get}
use Rattle.std.proofs.lemmas.Option.{slice_get_read}
use Rattle.tau_report.proofs.RowTexts.{puts_none, puts_more}
use Rattle.tau_report.proofs.saved.put_rows.Goals as goal

pub loop-who-init : goal.loop-who-init
loop-who-init c = puts_none c.args.opening.now c.args.records.now c.args.out.now.items

pub loop-who-preserved : goal.loop-who-preserved
loop-who-preserved c =
    let rs = c.args.records.now in
    let who = c.loop-who.who in
    let r = c.index-records-who.result in
    let here : slice_get rs who ≡ Some r = slice_get_read rs (length rs) who r refl (omega (arith, c.loop-who-test.true)) c.index-records-who.is in
    let row = c.in_ok-put_row.ensures in
    rw add-one
    (puts_more c.args.opening.now rs who r c.args.out.now.items c.loop-who.out.items c.put_row.new.out.items (sym here) row.text row.bytes row.written c.loop-who.invariant)
