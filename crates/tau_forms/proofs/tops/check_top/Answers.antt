use Rattle.tau_forms.proofs.TopLemmas.{top_other_tells}
use Rattle.tau_forms.proofs.tops.check_top.Goals as goal

pub returns-in_default : goal.returns-in_default
returns-in_default c = λ before h. top_other_tells c.args.tables.now before c.args.form.now c.args.node.now c.in_default.not-List
