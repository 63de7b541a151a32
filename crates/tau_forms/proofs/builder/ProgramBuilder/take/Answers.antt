use Rattle.std.proofs.Common.{◌∷◌, [], arith}
use Rattle.std.proofs.lemmas.Result.{err_from_is_err_and}
use Rattle.tau_sexpr.specs.Form.{tree_of}
use Rattle.tau_sexpr.specs.Tree.{sizes-append}
use Rattle.tau_forms.proofs.ReadingLemmas.{next_range, next_few, next_fault, next_clean}
use Rattle.tau_forms.proofs.builder.ProgramBuilder.take.Goals as goal

pub check_top-requires-clause-few : goal.check_top-requires-clause-few
check_top-requires-clause-few c = next_few c.requires.ts c.requires.before c.args.self.now c.requires.taken

pub check_top-requires-clause-range : goal.check_top-requires-clause-range
check_top-requires-clause-range c = next_range c.requires.ts c.requires.before c.requires.after (tree_of c.args.form.now) c.args.self.now c.requires.is c.requires.taken

pub returns-in_err-check_top-clause-fault : goal.returns-in_err-check_top-clause-fault
returns-in_err-check_top-clause-fault c =
    let p = err_from_is_err_and c.from_residual.result c.from_residual.ensures.1 in
    rw (p.1, p.2) (λ ts before after is h. next_fault ts before after (tree_of c.args.form.now) c.args.self.now _ is h (c.in_err-check_top.ensures before h.earlier))

pub add-requires : goal.add-requires
add-requires c = record { few = next_few c.requires.ts c.requires.before c.args.self.now c.requires.taken }

pub returns-clause-taken : goal.returns-clause-taken
returns-clause-taken c ts before after is h =
    let t = tree_of c.args.form.now in
    let passed = c.in_ok-check_top.ensures before h.earlier in
    record {
      limits = h.limits;
      range = h.range;
      tables = h.tables;
      earlier = c.in_ok-note.ensures before h.earlier;
      node = omega (arith, passed.1, h.node, sizes-append before (t ∷ []));
      clean = next_clean ts before t c.args.self.now h passed.0;
      built = c.in_ok-add.ensures before h.built;
    }
