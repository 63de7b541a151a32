use Rattle.std.proofs.Common.{Err, Ok, ap, refl, subst}
use Rattle.tau_output.specs.Writing.{WritesSerially}
use Rattle.tau_cli.specs.Effects.{effect_on}
use Rattle.tau_cli.proofs.TextLemmas.{Finds, makes, refuses, unread}
use Rattle.tau_cli.proofs.texts.serial_text.Goals as goal

pub returns-in_err-bytes : goal.returns-in_err-bytes
returns-in_err-bytes g c =
    let source = effect_on g.I.Source.left g.I.Source.faults c.args.input.now c.input_of.new.input in
    let e = c.in_err-bytes.field-0.0 in
    unread WritesSerially c.args.command source c.from_residual.result e c.from_residual.ensures.1 (c.in_err-bytes.ensures.reads refl) c.in_err-bytes.ensures.untouched
    (λ is. c.in_err-bytes.ensures.fault (ap Err is)) (λ is. c.in_err-bytes.ensures.too_long (ap Err is))

pub returns-in_err-output_of : goal.returns-in_err-output_of
returns-in_err-output_of g c =
    let source = effect_on g.I.Source.left g.I.Source.faults c.args.input.now c.input_of.new.input in
    let e = c.in_err-output_of.field-0.0 in
    let found = c.in_err-output_of.ensures in
    refuses WritesSerially c.args.command source c.in_ok-bytes.bytes.items c.in_ok-bytes.ensures.all c.in_ok-bytes.ensures.untouched c.from_residual-in_err-output_of.result e c.from_residual-in_err-output_of.ensures.1
    (subst (λ bytes. Finds WritesSerially c.args.command bytes (Err e)) c.deref.ensures.value
    (record { output = found.output; fault = found.fault; faulty = found.faulty; lacking = found.lacking; in_vain = found.in_vain }))

pub returns : goal.returns
returns g c =
    let source = effect_on g.I.Source.left g.I.Source.faults c.args.input.now c.input_of.new.input in
    let o = c.in_ok-output_of.field-0 in
    let found = c.in_ok-output_of.ensures in
    makes WritesSerially c.args.command source c.in_ok-bytes.bytes.items c.in_ok-bytes.ensures.all c.in_ok-bytes.ensures.untouched o
    (subst (λ bytes. Finds WritesSerially c.args.command bytes (Ok o)) c.deref.ensures.value
    (record { output = found.output; fault = found.fault; faulty = found.faulty; lacking = found.lacking; in_vain = found.in_vain }))
