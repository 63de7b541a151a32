use Rattle.std.proofs.Common.{[], Ok, sym, append-nil}
use Rattle.tau_sexpr.proofs.LawLemmas.{answer_depth, spelled_read}
use Rattle.tau_text.specs.Faults.{ProgramFault, IsProgramFault}
use Rattle.tau_text.specs.Inner.Surveyed.{joined}
use Rattle.tau_text.proofs.AnswerLemmas.{from_forms, from_program, kept_error}
use Rattle.tau_text.proofs.SurveyLemmas.{left_behind}
use Rattle.tau_text.proofs.programs.program_built.Goals as goal

pub returns-in_err-builder-clause-fault : goal.returns-in_err-builder-clause-fault
returns-in_err-builder-clause-fault c =
    let r = c.requires.outline in
    from_forms ProgramFault c.from_residual.result c.args.bytes.now r.forms r.spelled
    (from_program c.from_residual.result r.forms c.in_err-builder.field-0.0 c.from_residual.ensures.1 (c.in_err-builder.ensures.fault r.forms r.outline))

pub add_pieces-requires : goal.add_pieces-requires
add_pieces-requires c =
    let r = c.requires.outline in
    let f = c.args.front in
    let left = left_behind c.args.bytes.now f.end (joined f.pieces.items) r.forms c.requires.front.read r.spelled in
    record { ts = r.forms; before = []; after = left.0; is = left.1; taken = c.in_ok-builder.ensures.builder r.forms r.outline }

pub returns-in_err-add_pieces-clause-fault : goal.returns-in_err-add_pieces-clause-fault
returns-in_err-add_pieces-clause-fault c =
    let r = c.requires.outline in
    let f = c.args.front in
    let left = left_behind c.args.bytes.now f.end (joined f.pieces.items) r.forms c.requires.front.read r.spelled in
    let told = c.in_err-add_pieces.ensures.fault r.forms [] left.0 left.1 (c.in_ok-builder.ensures.builder r.forms r.outline) in
    from_forms ProgramFault c.from_residual-in_err-add_pieces.result c.args.bytes.now r.forms r.spelled
    (from_program c.from_residual-in_err-add_pieces.result r.forms c.in_err-add_pieces.field-0.0 c.from_residual-in_err-add_pieces.ensures.1 told)

pub add_rest-requires : goal.add_rest-requires
add_rest-requires c =
    let r = c.requires.outline in
    let f = c.args.front in
    let left = left_behind c.args.bytes.now f.end (joined f.pieces.items) r.forms c.requires.front.read r.spelled in
    record {
      forms = r.forms;
      spelled = r.spelled;
      front = joined f.pieces.items;
      within = c.requires.front.within;
      read = c.requires.front.read;
      taken = c.in_ok-add_pieces.ensures.taken r.forms [] left.0 left.1 (c.in_ok-builder.ensures.builder r.forms r.outline);
    }

pub returns-in_err-add_rest-clause-fault : goal.returns-in_err-add_rest-clause-fault
returns-in_err-add_rest-clause-fault c =
    kept_error (IsProgramFault c.args.bytes.now) (IsProgramFault c.args.bytes.now) c.from_residual-in_err-add_rest.result c.in_err-add_rest.field-0.0 c.from_residual-in_err-add_rest.ensures.1 (λ a b h. h) c.in_err-add_rest.ensures.fault

pub finish-requires : goal.finish-requires
finish-requires c =
    let r = c.requires.outline in
    let f = c.args.front in
    let front = joined f.pieces.items in
    let left = left_behind c.args.bytes.now f.end front r.forms c.requires.front.read r.spelled in
    let kept = c.in_ok-add_pieces.ensures.taken r.forms [] left.0 left.1 (c.in_ok-builder.ensures.builder r.forms r.outline) in
    let taken = c.in_ok-add_rest.ensures.taken r.forms front r.spelled c.requires.front.read kept in
    record { ts = r.forms; before = r.forms; after = []; is = sym (append-nil r.forms); taken = taken }

pub returns-in_err-finish-clause-fault : goal.returns-in_err-finish-clause-fault
returns-in_err-finish-clause-fault c =
    let r = c.requires.outline in
    let f = c.args.front in
    let front = joined f.pieces.items in
    let left = left_behind c.args.bytes.now f.end front r.forms c.requires.front.read r.spelled in
    let kept = c.in_ok-add_pieces.ensures.taken r.forms [] left.0 left.1 (c.in_ok-builder.ensures.builder r.forms r.outline) in
    let taken = c.in_ok-add_rest.ensures.taken r.forms front r.spelled c.requires.front.read kept in
    from_forms ProgramFault c.from_residual-in_err-finish.result c.args.bytes.now r.forms r.spelled
    (from_program c.from_residual-in_err-finish.result r.forms c.in_err-finish.field-0.0 c.from_residual-in_err-finish.ensures.1 (c.in_err-finish.ensures.fault r.forms taken))

pub returns-clause-program : goal.returns-clause-program
returns-clause-program c =
    let r = c.requires.outline in
    let f = c.args.front in
    let front = joined f.pieces.items in
    let left = left_behind c.args.bytes.now f.end front r.forms c.requires.front.read r.spelled in
    let kept = c.in_ok-add_pieces.ensures.taken r.forms [] left.0 left.1 (c.in_ok-builder.ensures.builder r.forms r.outline) in
    let taken = c.in_ok-add_rest.ensures.taken r.forms front r.spelled c.requires.front.read kept in
    record { forms = r.forms; spelled = r.spelled; means = c.in_ok-finish.ensures.program r.forms taken }

pub returns-clause-sound : goal.returns-clause-sound
returns-clause-sound c =
    let r = c.requires.outline in
    let f = c.args.front in
    let front = joined f.pieces.items in
    let left = left_behind c.args.bytes.now f.end front r.forms c.requires.front.read r.spelled in
    let kept = c.in_ok-add_pieces.ensures.taken r.forms [] left.0 left.1 (c.in_ok-builder.ensures.builder r.forms r.outline) in
    let taken = c.in_ok-add_rest.ensures.taken r.forms front r.spelled c.requires.front.read kept in
    c.in_ok-finish.ensures.sound r.forms taken (answer_depth (Ok r.forms) c.args.bytes.now (spelled_read c.args.bytes.now r.forms r.spelled))
