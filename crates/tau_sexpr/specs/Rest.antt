-- What bytes give from a place on: by a law, what the bytes behind it give, with the place of a fault counted from the start.
use Rattle.std.specs.Prelude.{ℕ, ◌+◌, List, [], ◌++◌, Result, Ok, Err}
use Rattle.tau_sexpr.specs.Tree.{Tree}
use Rattle.tau_sexpr.specs.Spelling.{IsSpelling}
use Rattle.tau_sexpr.specs.Faults.{IsFirstFault}
use Rattle.tau_sexpr.specs.Inner.Reader.{stack, outside, reading}
use Rattle.tau_sexpr.specs.declared.faults.FormError.{FormError}
use Rattle.tau_sexpr.specs.declared.faults.FormError.TheVariants.{BadByte, Unopened, Unclosed, BadText, TooDeep, NoMemory}

-- what bytes give: the forms that they spell, or their first fault
abbrev pub IsReading : List ℕ → Result (List Tree) FormError → Type 0
IsReading bs (Ok ts) = IsSpelling bs ts
IsReading bs (Err e) = IsFirstFault bs e

-- what they give from a place on where no list is open
unfoldable pub forms_from : List ℕ → ℕ → Result (List Tree) FormError
forms_from bs at = reading bs at outside (stack [] [])

-- what is given behind forms
abbrev pub behind : List Tree → Result (List Tree) FormError → Result (List Tree) FormError
behind fs (Ok ts) = Ok (fs ++ ts)
behind fs (Err e) = Err e

-- the same fault, so many bytes further on
abbrev pub further : ℕ → FormError → FormError
further n (BadByte p) = BadByte (n + p)
further n (Unopened p) = Unopened (n + p)
further n (Unclosed p) = Unclosed (n + p)
further n (BadText p) = BadText (n + p)
further n (TooDeep p) = TooDeep (n + p)
further n NoMemory = NoMemory

-- what is given by bytes that stand so many bytes further on
abbrev pub given_further : ℕ → Result (List Tree) FormError → Result (List Tree) FormError
given_further n (Ok ts) = Ok ts
given_further n (Err e) = Err (further n e)
