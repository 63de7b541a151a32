use Rattle.std.proofs.Common.{[], ◌∷◌, arith}
use Rattle.std.proofs.lemmas.Result.{on_ok_weaker}
use Rattle.tau_sexpr.specs.Form.{tree_of}
use Rattle.tau_sexpr.specs.Tree.{sizes-append}
use Rattle.tau_forms.proofs.outline.Outline.note.Goals as goal

pub returns : goal.returns
returns c =
    let t = tree_of c.args.form.now in
    on_ok_weaker c.note-2.result
    (λ h before o. record {
      counts = c.note.ensures before t o.counts c.sort_of_form.ensures;
      nodes = omega (arith, c.saturating_add-self.ensures, c.size.ensures, o.nodes, sizes-append before (t ∷ []));
      defined = h before o.defined;
    })
    c.note-2.ensures
