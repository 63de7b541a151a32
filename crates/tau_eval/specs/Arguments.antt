-- The arguments of an operation.
use Rattle.std.specs.Prelude.{◌≡◌}
use Rattle.tau_tree.specs.Code.{Codes, none, more}
use Rattle.tau_tree.specs.Expr.{code_of}
use Rattle.tau_eval.specs.declared.arguments.Arguments.{Arguments}
use Rattle.tau_eval.specs.declared.arguments.Arguments.TheVariants.{One, Two, Other}

-- neither one expression nor two
abbrev pub IsOtherNumber : Codes → Type 0
IsOtherNumber none = Unit {0}
IsOtherNumber (more c none) = ⊥
IsOtherNumber (more c (more d none)) = ⊥
IsOtherNumber cs = Unit {0}

-- the expressions, where there are one or two
abbrev pub AreArguments : Arguments → Codes → Type 0
AreArguments (One c) cs = cs ≡ more (code_of c.now) none
AreArguments (Two c d) cs = cs ≡ more (code_of c.now) (more (code_of d.now) none)
AreArguments Other cs = IsOtherNumber cs
