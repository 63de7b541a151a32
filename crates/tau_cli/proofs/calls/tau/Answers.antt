use Rattle.std.proofs.Common.{◌∙◌, Some, Ok, Err, ap, refl}
use Rattle.tau_command.specs.declared.commands.Command.TheVariants.{Keep, Resume, Text}
use Rattle.tau_output.specs.Writing.{Writes}
use Rattle.tau_cli.specs.Effects.{effect_on, disk_effect}
use Rattle.tau_cli.proofs.WriteLemmas.{writes_end}
use Rattle.tau_cli.proofs.TextLemmas.{text_finished}
use Rattle.tau_cli.proofs.KeepLemmas.{blank_still, held_still}
use Rattle.tau_cli.proofs.ResumeLemmas.{standing_still, unwritten_still}
use Rattle.tau_cli.proofs.EndLemmas.{by_command, keep_finished, named_by, none_begun, resume_finished}
use Rattle.tau_cli.proofs.calls.tau.Goals as goal

pub returns-in-Ok-Keep : goal.returns-in-Ok-Keep
returns-in-Ok-Keep g c =
    let jobs = c.in-Ok-Keep.jobs in
    let seed = c.in-Ok-Keep.seed in
    let steps = c.in-Ok-Keep.steps in
    let source = effect_on g.I.Source.left g.I.Source.faults c.args.input.now c.kept_text.new.input in
    let sink = effect_on g.O.Sink.held g.O.Sink.faults c.args.output.now c.finish.new.output in
    let disk = disk_effect g.D.Disk.bytes g.D.Disk.images g.D.Disk.moment g.D.Disk.left_since g.D.Disk.faults c.args.disk.now c.kept_text.new.disk in
    by_command Writes c.args.words.now source sink disk c.finish.result (Some (Keep jobs seed steps))
    (named_by c.args.words.now _ (Keep jobs seed steps) c.read_words.result (c.in-Ok-Keep.is ∙ ap Ok c.in-Ok-Keep.field-0-is) c.read_words.ensures.command)
    (keep_finished jobs seed steps source sink disk c.kept_text.result c.finish.result c.kept_text.ensures c.finish.ensures)

pub returns-in-Ok-Resume : goal.returns-in-Ok-Resume
returns-in-Ok-Resume g c =
    let jobs = c.in-Ok-Resume.jobs in
    let seed = c.in-Ok-Resume.seed in
    let steps = c.in-Ok-Resume.steps in
    let source = effect_on g.I.Source.left g.I.Source.faults c.args.input.now c.args.input.now in
    let sink = effect_on g.O.Sink.held g.O.Sink.faults c.args.output.now c.finish-in-Ok-Resume.new.output in
    let disk = disk_effect g.D.Disk.bytes g.D.Disk.images g.D.Disk.moment g.D.Disk.left_since g.D.Disk.faults c.args.disk.now c.resumed_text.new.disk in
    by_command Writes c.args.words.now source sink disk c.finish-in-Ok-Resume.result (Some (Resume jobs seed steps))
    (named_by c.args.words.now _ (Resume jobs seed steps) c.read_words.result (c.in-Ok-Resume.is ∙ ap Ok c.in-Ok-Resume.field-0-is) c.read_words.ensures.command)
    (refl, resume_finished jobs seed steps sink disk c.resumed_text.result c.finish-in-Ok-Resume.result c.resumed_text.ensures c.finish-in-Ok-Resume.ensures)

pub returns-in-Ok-Text : goal.returns-in-Ok-Text
returns-in-Ok-Text g c =
    let command = c.in-Ok-Text.command in
    let source = effect_on g.I.Source.left g.I.Source.faults c.args.input.now c.text_by_workers.new.input in
    let sink = effect_on g.O.Sink.held g.O.Sink.faults c.args.output.now c.finish-in-Ok-Text.new.output in
    let disk = disk_effect g.D.Disk.bytes g.D.Disk.images g.D.Disk.moment g.D.Disk.left_since g.D.Disk.faults c.args.disk.now c.args.disk.now in
    by_command Writes c.args.words.now source sink disk c.finish-in-Ok-Text.result (Some (Text command))
    (named_by c.args.words.now _ (Text command) c.read_words.result (c.in-Ok-Text.is ∙ ap Ok c.in-Ok-Text.field-0-is) c.read_words.ensures.command)
    (text_finished Writes command source sink c.text_by_workers.result c.finish-in-Ok-Text.result (writes_end command) c.text_by_workers.ensures c.finish-in-Ok-Text.ensures, refl)

pub returns-in-Err : goal.returns-in-Err
returns-in-Err g c =
    let source = effect_on g.I.Source.left g.I.Source.faults c.args.input.now c.args.input.now in
    let sink = effect_on g.O.Sink.held g.O.Sink.faults c.args.output.now c.args.output.now in
    let still = c.args.disk.now in
    let disk = disk_effect g.D.Disk.bytes g.D.Disk.images g.D.Disk.moment g.D.Disk.left_since g.D.Disk.faults still still in
    none_begun Writes source sink disk refl refl refl
    (blank_still g.D.Disk.images g.D.Disk.moment g.D.Disk.left_since g.met.D.Disk.only_now still source.before (g.D.Disk.bytes still))
    (held_still g.D.Disk.images g.D.Disk.moment g.D.Disk.left_since g.met.D.Disk.only_now still (g.D.Disk.bytes still))
    (unwritten_still g.D.Disk.images g.D.Disk.moment g.D.Disk.left_since g.met.D.Disk.only_now still (g.D.Disk.bytes still))
    (standing_still g.D.Disk.images g.D.Disk.moment g.D.Disk.left_since g.met.D.Disk.only_now still (g.D.Disk.bytes still))
    c.args.words.now c.in-Err.error c.from.result c.from.ensures (λ is. c.read_words.ensures.words (c.in-Err.is ∙ ap Err is))
