-- What the checks take for the roles and the faults of the definitions.
use Rattle.std.specs.Prelude.{map}
use Rattle.tau_sexpr.specs.Form.{tree_of}
use Rattle.tau_sexpr.specs.Tree.{inside}
use Rattle.tau_forms.specs.declared.wanted.Wanted.{Wanted}
use Rattle.tau_forms.specs.declared.wanted.Wanted.TheVariants as wanted
use Rattle.tau_forms.specs.declared.wanted.FaultKind.{FaultKind}
use Rattle.tau_forms.specs.declared.wanted.FaultKind.TheVariants as kinds
use Rattle.tau_forms.specs.Faults.{Fault, shape, unknown, twice}
use Rattle.tau_forms.specs.Roles.{Role, first, mark, known, fresh, count, failure, value, expression, two_names, words_of}
use Rattle.tau_forms.specs.Inner.Scopes.{names_of}

-- the role of a form of which this is wanted
abbrev pub role_of : Wanted → Role
role_of wanted.First = first
role_of (wanted.Mark again) = mark again
role_of (wanted.Known names) = known names.now
role_of (wanted.Fresh names) = fresh names.now
role_of (wanted.OtherThan forms) = fresh (words_of (inside (map tree_of forms.now)))
role_of (wanted.Count low end) = count low end
role_of wanted.Failure = failure
role_of wanted.Value = value
role_of (wanted.Expression scope) = expression (names_of scope.now)
role_of wanted.TwoNames = two_names

-- the fault of this kind
abbrev pub fault_in : FaultKind → Fault
fault_in kinds.Shape = shape
fault_in kinds.Unknown = unknown
fault_in kinds.Twice = twice
