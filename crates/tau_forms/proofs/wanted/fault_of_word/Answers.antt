use Rattle.std.proofs.Common.{ap, ◌∙◌, sym}
use Rattle.tau_forms.specs.Faults.{word_fault}
use Rattle.tau_forms.specs.Inner.Scopes.{names_of}
use Rattle.tau_forms.specs.Inner.Wanted.{role_of}
use Rattle.tau_forms.proofs.WordLemmas.{fault_of_known, fault_of_fresh, fault_of_variable}
use Rattle.tau_forms.proofs.wanted.fault_of_word.Goals as goal

pub returns-in-Known : goal.returns-in-Known
returns-in-Known c = fault_of_known c.in-Known.names.now c.args.word.now c.find.result c.is_some.result c.fault_of_name.result c.find.ensures c.is_some.ensures c.fault_of_name.ensures ∙ sym (ap (λ r. word_fault (role_of r) c.args.word.now) c.in-Known.is)

pub returns-in-Fresh : goal.returns-in-Fresh
returns-in-Fresh c = fault_of_fresh c.in-Fresh.names.now c.args.word.now c.find-in-Fresh.result c.is_none.result c.fault_of_name-in-Fresh.result c.find-in-Fresh.ensures c.is_none.ensures c.fault_of_name-in-Fresh.ensures ∙ sym (ap (λ r. word_fault (role_of r) c.args.word.now) c.in-Fresh.is)

pub returns-else-is_constant : goal.returns-else-is_constant
returns-else-is_constant c = fault_of_variable (names_of c.in-Expression.scope.now) c.args.word.now c.has.result c.is_constant.result c.fault_of_name-in-Expression.result c.has.ensures c.is_constant.ensures c.if-is_constant.false c.fault_of_name-in-Expression.ensures ∙ sym (ap (λ r. word_fault (role_of r) c.args.word.now) c.in-Expression.is)
