-- What is said of an answer that is Ok.
use Rattle.std.specs.Prelude.{Result, Ok, Err, IfOk}

-- more said of it
pub if_ok_then : {X E : Type 0} (A B : X → Type 0) (r : Result X E) → ((x : X) → A x → B x) → IfOk r A → IfOk r B
if_ok_then A B (Ok x) more is = more x is
if_ok_then A B (Err e) more is = tt

-- the same of two things that are said
pub if_ok_both : {X E : Type 0} (A B C : X → Type 0) (r : Result X E) → ((x : X) → A x → B x → C x) → IfOk r A → IfOk r B → IfOk r C
if_ok_both A B C (Ok x) more one two = more x one two
if_ok_both A B C (Err e) more one two = tt
