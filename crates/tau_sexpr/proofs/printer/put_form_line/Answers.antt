use Rattle.std.proofs.Common.{[], ◌∷◌, take, ap, ◌∙◌}
use Rattle.tau_sexpr.specs.Form.{tree_of}
use Rattle.tau_sexpr.proofs.PrintLemmas.{begins_kept, line_spells, read_back}
use Rattle.tau_sexpr.proofs.printer.put_form_line.Goals as goal

pub returns-in-Ok-clause-spells : goal.returns-in-Ok-clause-spells
returns-in-Ok-clause-spells c = line_spells (tree_of c.args.form.now) c.requires.depth c.requires.words c.in-Ok.ensures.bytes

pub returns-in-Ok-clause-read_back : goal.returns-in-Ok-clause-read_back
returns-in-Ok-clause-read_back c = read_back (tree_of c.args.form.now ∷ []) (line_spells (tree_of c.args.form.now) c.requires.depth c.requires.words c.in-Ok.ensures.bytes)

pub returns-in-Err-clause-err : goal.returns-in-Err-clause-err
returns-in-Err-clause-err c =
    c.truncate.ensures.items ∙ ap (λ n. take n c.put_line.new.out.items) (c.len-before.ensures ∙ c.args.out.now.ok.0)
    ∙ begins_kept c.args.out.now.items c.put_line.new.out.items c.in-Err.ensures.begins
