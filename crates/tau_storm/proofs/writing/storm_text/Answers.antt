use Rattle.std.proofs.Common.{◌≡◌, ◌∷◌, ◌∙◌, [], List, length, refl, sym, ap, arith, Some}
use Rattle.std.specs.Prelude.{slice_get}
use Rattle.std.proofs.lemmas.Option.{slice_get_read}
use Rattle.tau_sexpr.specs.Printing.{printed}
use Rattle.tau_storm.specs.declared.outcomes.Outcome.{Outcome}
use Rattle.tau_storm.specs.Lines.{totals_form}
use Rattle.tau_storm.proofs.LineLemmas.{lines_more}
use Rattle.tau_storm.proofs.writing.storm_text.Goals as goal

pub loop-number-preserved : goal.loop-number-preserved
loop-number-preserved c =
    let os = c.items-items.result.now in
    let k = c.loop-number.number in
    let o = c.index-items-number.result in
    let read : slice_get os k ≡ Some o = slice_get_read os (length os) k o refl (omega (arith, c.loop-number-test.true)) c.index-items-number.is in
    let here : slice_get c.args.outcomes.now k ≡ Some o = sym (ap (λ (l : List Outcome). slice_get l k) c.items-items.ensures) ∙ read in
    lines_more c.args.outcomes.now k o (printed (totals_form c.args.seeds c.args.totals (length c.args.outcomes.now) ∷ [])) c.loop-number.text.items c.put_outcome.new.out.items here c.loop-number.invariant c.in_ok-put_outcome.ensures
