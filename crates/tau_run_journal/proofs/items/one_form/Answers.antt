use Rattle.std.proofs.Common.{[], ◌∷◌, sym, subst}
use Rattle.tau_run_journal.specs.Inner.Items.{TellsForm}
use Rattle.tau_run_journal.proofs.Answered.{if_ok_then}
use Rattle.tau_run_journal.proofs.ItemSteps.{not_one, only_one, none_read}
use Rattle.tau_run_journal.proofs.items.one_form.Goals as goal

pub returns-then-len-ne1 : goal.returns-then-len-ne1
returns-then-len-ne1 c = λ f other. not_one c.args.bytes.now c.in-Ok.forms c.len.result c.in-Ok.ensures.spelled c.len.ensures c.if-len-ne1.true f other

pub returns-else-len-ne1 : goal.returns-else-len-ne1
returns-else-len-ne1 c = only_one c.args.bytes.now c.in-Ok.forms c.len.result c.in-Ok.ensures.spelled c.len.ensures c.if-len-ne1.false

pub returns-in-Err : goal.returns-in-Err
returns-in-Err c =
    if_ok_then _ _ c.no_form.result
    (λ o told. subst (TellsForm c.args.bytes.now) (sym told.0) (λ f other. none_read c.read_forms.result c.in-Err.error (f ∷ []) c.in-Err.is told.1 (c.read_forms.ensures.read (f ∷ []) other)))
    c.no_form.ensures
