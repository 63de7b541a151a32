use Rattle.std.proofs.Common.{◌++◌, map, take, ap, subst, arith}
use Rattle.tau_sexpr.specs.Form.{tree_of}
use Rattle.tau_forms.specs.Readings.{IsOutline}
use Rattle.tau_forms.proofs.ReadingLemmas.{all_taken, push_taken}
use Rattle.tau_forms.proofs.outline.Outline.add.Goals as goal

pub loop-form-preserved : goal.loop-form-preserved
loop-form-preserved c before o =
    let fs = c.args.forms.now in
    let k = c.loop-form.form-index in
    subst (λ ts. IsOutline ts c.note.new.self) (push_taken before fs k c.form-item.result (omega arith) c.form-item.is) (c.in_ok-note.ensures (before ++ map tree_of (take k fs)) (c.loop-form.invariant before o))

pub returns : goal.returns
returns c before o =
    let fs = c.args.forms.now in
    subst (λ ts. IsOutline ts c.loop-form.self) (ap (λ ts. before ++ ts) (all_taken fs c.loop-form.form-index (omega arith))) (c.loop-form.invariant before o)
