use Rattle.std.proofs.Common.{refl}
use Rattle.tau_forms.specs.Inner.Scopes.{names_of}
use Rattle.tau_forms.proofs.RowLemmas.{row_of_name, row_of_new, row_of_let, row_of_fold, row_of_plain}
use Rattle.tau_forms.proofs.rows.expression_row.Goals as goal

pub returns-in-Name : goal.returns-in-Name
returns-in-Name c = λ t ts h e. row_of_name c.args.tables.now (names_of c.args.scope.now) c.args.keyword _ ts c.in-Name.is refl

pub returns-in-New : goal.returns-in-New
returns-in-New c = λ t ts h e. row_of_new c.args.tables.now (names_of c.args.scope.now) c.args.keyword _ _ ts c.in-New.is refl refl h

pub returns-in-Let : goal.returns-in-Let
returns-in-Let c = λ t ts h e. row_of_let c.args.tables.now (names_of c.args.scope.now) (names_of c.args.inner.now) c.args.keyword _ _ _ ts c.in-Let.is refl refl refl e h

pub returns-in-Fold : goal.returns-in-Fold
returns-in-Fold c = λ t ts h e. row_of_fold c.args.tables.now (names_of c.args.scope.now) (names_of c.args.inner.now) c.args.keyword _ _ _ ts c.in-Fold.is refl refl refl e h

pub returns-in_default : goal.returns-in_default
returns-in_default c = λ t ts h e. row_of_plain c.args.tables.now (names_of c.args.scope.now) c.args.keyword _ ts c.in_default.not-Name c.in_default.not-New c.in_default.not-Let c.in_default.not-Fold refl
