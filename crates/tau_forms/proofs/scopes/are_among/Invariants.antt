use Rattle.std.proofs.Common.{◌≡◌}
use Rattle.tau_forms.proofs.ListLemmas.{left}
use Rattle.tau_forms.specs.Roles.{words_of}
use Rattle.tau_forms.specs.Tops.{has}
use Rattle.tau_forms.proofs.scopes.are_among.Given as goal

abbrev pub invariant-loop-form : goal.invariant-loop-form
invariant-loop-form l = has (words_of (left l.forms 0)) l.word ≡ has (words_of (left l.forms l.form-index)) l.word
