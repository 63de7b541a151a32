-- What holds of all bytes: they spell at most one list of forms, and none exactly where they have a fault.
use Rattle.std.specs.Prelude.{◌≡◌, ◌⊎◌, ℕ, List, [], length, drop, Result, Ok}
use Rattle.tau_sexpr.specs.Tree.{Tree}
use Rattle.tau_sexpr.specs.Spelling.{IsSpelling}
use Rattle.tau_sexpr.specs.Faults.{IsFault, IsFirstFault}
use Rattle.tau_sexpr.specs.Rest.{IsReading, forms_from, given_further}
use Rattle.tau_sexpr.specs.declared.faults.FormError.{FormError}

-- no other forms are spelled by the same bytes
abbrev pub SpellsOnce : List ℕ → Type 0
SpellsOnce bs = (ts us : List Tree) → IsSpelling bs ts → IsSpelling bs us → ts ≡ us

-- bytes with forms have no fault
abbrev pub SpellsWithoutFault : List ℕ → Type 0
SpellsWithoutFault bs = (ts : List Tree) (e : FormError) → IsSpelling bs ts → ¬ IsFault bs e

-- bytes have forms, or a first fault
abbrev pub HasFormsOrFault : List ℕ → Type 0
HasFormsOrFault bs = ((ts : List Tree) × IsSpelling bs ts) ⊎ ((e : FormError) × IsFirstFault bs e)

-- bytes have one first fault
abbrev pub FailsOnce : List ℕ → Type 0
FailsOnce bs = (e f : FormError) → IsFirstFault bs e → IsFirstFault bs f → e ≡ f

-- from a place on bytes give what those behind it give: all their forms, or their first fault, at its place in all bytes
abbrev pub ReadsFromPlace : List ℕ → Type 0
ReadsFromPlace bs = (at : ℕ) → (r : Result (List Tree) FormError) × IsReading (drop at bs) r × (forms_from bs at ≡ given_further at r)

-- from the start on bytes give all their forms, or their first fault
abbrev pub ReadsFromStart : List ℕ → Type 0
ReadsFromStart bs = IsReading bs (forms_from bs 0)

-- from the end on they give no forms
abbrev pub ReadsNothingBehind : List ℕ → Type 0
ReadsNothingBehind bs = forms_from bs (length bs) ≡ Ok []
