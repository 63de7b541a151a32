use Rattle.std.proofs.Common.{[], map, sym, append-nil}
use Rattle.std.proofs.lemmas.Result.{err_from_is_err_and}
use Rattle.tau_sexpr.specs.Form.{tree_of}
use Rattle.tau_forms.proofs.ProgramLemmas.{none_faulty}
use Rattle.tau_forms.proofs.reading.program_of.Goals as goal

pub returns-in_err-builder-clause-fault : goal.returns-in_err-builder-clause-fault
returns-in_err-builder-clause-fault c =
    let ts = map tree_of c.args.forms.now in
    let p = err_from_is_err_and c.from_residual-in_err-builder.result c.from_residual-in_err-builder.ensures.1 in
    rw (p.1, p.2) (c.in_err-builder.ensures.fault ts (c.in_ok-add.ensures [] c.new-outline.ensures))

pub returns-in_err-builder-clause-read : goal.returns-in_err-builder-clause-read
returns-in_err-builder-clause-read c m means = none_faulty (map tree_of c.args.forms.now) m c.from_residual-in_err-builder.result means (returns-in_err-builder-clause-fault c)

pub add-requires-2 : goal.add-requires-2
add-requires-2 c =
    let ts = map tree_of c.args.forms.now in
    record { ts = ts; before = []; after = []; is = sym (append-nil ts); taken = c.in_ok-builder.ensures.builder ts (c.in_ok-add.ensures [] c.new-outline.ensures) }

pub returns-in_err-add-2-clause-fault : goal.returns-in_err-add-2-clause-fault
returns-in_err-add-2-clause-fault c =
    let ts = map tree_of c.args.forms.now in
    let taken = c.in_ok-builder.ensures.builder ts (c.in_ok-add.ensures [] c.new-outline.ensures) in
    let p = err_from_is_err_and c.from_residual-in_err-add-2.result c.from_residual-in_err-add-2.ensures.1 in
    rw (p.1, p.2) (c.in_err-add-2.ensures.fault ts [] [] (sym (append-nil ts)) taken)

pub returns-in_err-add-2-clause-read : goal.returns-in_err-add-2-clause-read
returns-in_err-add-2-clause-read c m means = none_faulty (map tree_of c.args.forms.now) m c.from_residual-in_err-add-2.result means (returns-in_err-add-2-clause-fault c)

pub finish-requires : goal.finish-requires
finish-requires c =
    let ts = map tree_of c.args.forms.now in
    let taken = c.in_ok-builder.ensures.builder ts (c.in_ok-add.ensures [] c.new-outline.ensures) in
    record { ts = ts; before = ts; after = []; is = sym (append-nil ts); taken = c.in_ok-add-2.ensures.taken ts [] [] (sym (append-nil ts)) taken }

pub returns-clause-program : goal.returns-clause-program
unfolding finish-requires
returns-clause-program c = c.finish.ensures.program (map tree_of c.args.forms.now) (finish-requires c.before).taken

pub returns-clause-sound : goal.returns-clause-sound
unfolding finish-requires
returns-clause-sound c = c.finish.ensures.sound (map tree_of c.args.forms.now) (finish-requires c.before).taken c.requires

pub returns-clause-fault : goal.returns-clause-fault
unfolding finish-requires
returns-clause-fault c = c.finish.ensures.fault (map tree_of c.args.forms.now) (finish-requires c.before).taken

pub returns-clause-read : goal.returns-clause-read
returns-clause-read c m means = none_faulty (map tree_of c.args.forms.now) m c.finish.result means (returns-clause-fault c)
