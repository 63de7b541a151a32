use Rattle.std.proofs.Common.{◌++◌, ◌+◌, ◌<◌, ◌∙◌, length, map, take, drop, ap, subst, arith}
use Rattle.std.proofs.lemmas.Result.{err_from_is_err_and}
use Rattle.tau_sexpr.specs.Form.{tree_of}
use Rattle.tau_forms.specs.Readings.{HasTaken}
use Rattle.tau_forms.proofs.ReadingLemmas.{all_taken, push_taken, parted}
use Rattle.tau_forms.proofs.builder.ProgramBuilder.add.Goals as goal

pub take-requires : goal.take-requires
take-requires c =
    let fs = c.args.forms.now in
    let k = c.loop-form.form-index in
    let r = c.requires in
    record {
      ts = r.ts;
      before = r.before ++ map tree_of (take k fs);
      after = map tree_of (drop (k + 1) fs) ++ r.after;
      is = r.is ∙ parted r.before r.after fs k c.form-item.result (omega arith) c.form-item.is;
      taken = c.loop-form.invariant r.ts r.before r.after r.is r.taken;
    }

pub returns-in_err-take-clause-fault : goal.returns-in_err-take-clause-fault
returns-in_err-take-clause-fault c =
    let fs = c.args.forms.now in
    let k = c.loop-form.form-index in
    let lt : k < length fs = omega arith in
    let p = err_from_is_err_and c.from_residual.result c.from_residual.ensures.1 in
    rw (p.1, p.2)
    (λ ts before after is h.
    c.in_err-take.ensures.fault ts (before ++ map tree_of (take k fs)) (map tree_of (drop (k + 1) fs) ++ after) (is ∙ parted before after fs k c.form-item.result lt c.form-item.is)
    (c.loop-form.invariant ts before after is h))

pub loop-form-preserved : goal.loop-form-preserved
loop-form-preserved c ts before after is h =
    let fs = c.args.forms.now in
    let k = c.loop-form.form-index in
    let lt : k < length fs = omega arith in
    subst (λ us. HasTaken ts us c.take.new.self) (push_taken before fs k c.form-item.result lt c.form-item.is)
    (c.in_ok-take.ensures.taken ts (before ++ map tree_of (take k fs)) (map tree_of (drop (k + 1) fs) ++ after) (is ∙ parted before after fs k c.form-item.result lt c.form-item.is)
    (c.loop-form.invariant ts before after is h))

pub returns-clause-taken : goal.returns-clause-taken
returns-clause-taken c ts before after is h =
    subst (λ us. HasTaken ts us c.loop-form.self) (ap (λ us. before ++ us) (all_taken c.args.forms.now c.loop-form.form-index (omega arith))) (c.loop-form.invariant ts before after is h)
