-- What an answer tells of bytes, from what it tells of their forms.
use Rattle.std.proofs.Common.{◌≡◌, ◌≢◌, ◌⊎◌, inl, inr, ℕ, List, Result, Ok, Err, IfOk, IfErr, refl, sym, subst}
use Rattle.std.specs.Result.{IsErrAnd}
use Rattle.tau_sexpr.specs.Tree.{Tree}
use Rattle.tau_sexpr.specs.Spelling.{IsSpelling}
use Rattle.tau_sexpr.specs.Faults.{IsFirstFault}
use Rattle.tau_sexpr.specs.declared.faults.FormError.{FormError}
use Rattle.tau_sexpr.specs.declared.faults.FormError.TheVariants as forms
use Rattle.tau_forms.specs.Faults as programs
use Rattle.tau_forms.specs.declared.faults.ProgramError.{ProgramError}
use Rattle.tau_forms.specs.declared.faults.ProgramError.TheVariants as program_errors
use Rattle.tau_trace.specs.declared.opening.Opening.{Opening}
use Rattle.tau_steps.specs.Faults as steps
use Rattle.tau_steps.specs.declared.errors.StepError.{StepError}
use Rattle.tau_steps.specs.declared.errors.StepError.TheVariants as step_errors
use Rattle.tau_text.specs.declared.errors.InputError.{InputError}
use Rattle.tau_text.specs.declared.errors.InputError.TheVariants.{Fault, NoMemory}
use Rattle.tau_text.specs.Errors.{of_form_error, of_program_error, of_step_error, TellsInputFault}
use Rattle.tau_text.specs.Faults.{HasFault, of_bytes, of_forms, ProgramFault, of_program, StepsFault, of_step}
use Rattle.tau_text.specs.InputLaws.{IsUnique}

-- an error that tells a fault tells each that follows from it
pub tells_more : (F G : ℕ → ℕ → Type 0) (e : InputError) → ((a b : ℕ) → F a b → G a b) → TellsInputFault F e → TellsInputFault G e
tells_more F G (Fault a b) f t = f a b t
tells_more F G NoMemory f t = tt

-- an error that is handed on
pub kept_error : {A : Type 0} (F G : ℕ → ℕ → Type 0) (r : Result A InputError) (e : InputError) → IsErrAnd r (λ x. x ≡ e) → ((a b : ℕ) → F a b → G a b) → TellsInputFault F e → IfErr r (TellsInputFault G)
kept_error F G (Ok x) e h f t = tt
kept_error F G (Err x) e h f t = subst (TellsInputFault G) (sym h) (tells_more F G e f t)

pub same_more : {A : Type 0} (F G : ℕ → ℕ → Type 0) (r : Result A InputError) → ((a b : ℕ) → F a b → G a b) → IfErr r (TellsInputFault F) → IfErr r (TellsInputFault G)
same_more F G (Ok x) f t = tt
same_more F G (Err e) f t = tells_more F G e f t

-- the error of a reader of forms
tells_bytes : (F : List Tree → ℕ → ℕ → Type 0) (bytes : List ℕ) (e : FormError) → (e ≢ forms.NoMemory → IsFirstFault bytes e) → TellsInputFault (HasFault F bytes) (of_form_error e)
tells_bytes F bytes (forms.BadByte p) h = of_bytes (forms.BadByte p) refl (h (λ n. cc))
tells_bytes F bytes (forms.Unopened p) h = of_bytes (forms.Unopened p) refl (h (λ n. cc))
tells_bytes F bytes (forms.Unclosed p) h = of_bytes (forms.Unclosed p) refl (h (λ n. cc))
tells_bytes F bytes (forms.BadText p) h = of_bytes (forms.BadText p) refl (h (λ n. cc))
tells_bytes F bytes (forms.TooDeep p) h = of_bytes (forms.TooDeep p) refl (h (λ n. cc))
tells_bytes F bytes forms.NoMemory h = tt

pub from_bytes : {A : Type 0} (F : List Tree → ℕ → ℕ → Type 0) (r : Result A InputError) (bytes : List ℕ) (e : FormError) → IsErrAnd r (λ x. x ≡ of_form_error e) → (e ≢ forms.NoMemory → IsFirstFault bytes e)
    → IfErr r (TellsInputFault (HasFault F bytes))
from_bytes F (Ok a) bytes e h f = tt
from_bytes F (Err x) bytes e h f = subst (TellsInputFault (HasFault F bytes)) (sym h) (tells_bytes F bytes e f)

-- that of a reader of programs
tells_program : (ts : List Tree) (e : ProgramError) → programs.IsFault ts e → TellsInputFault (ProgramFault ts) (of_program_error e)
tells_program ts (program_errors.Shape n) h = of_program (program_errors.Shape n) refl h
tells_program ts (program_errors.Unknown n) h = of_program (program_errors.Unknown n) refl h
tells_program ts (program_errors.Twice n) h = of_program (program_errors.Twice n) refl h
tells_program ts (program_errors.Limit k) h = of_program (program_errors.Limit k) refl h
tells_program ts program_errors.NoMemory h = tt

pub from_program : {A : Type 0} (r : Result A InputError) (ts : List Tree) (e : ProgramError) → IsErrAnd r (λ x. x ≡ of_program_error e) → programs.IsFault ts e → IfErr r (TellsInputFault (ProgramFault ts))
from_program (Ok a) ts e h f = tt
from_program (Err x) ts e h f = subst (TellsInputFault (ProgramFault ts)) (sym h) (tells_program ts e f)

-- and that of a reader of steps
tells_steps : (o : Opening) (ts : List Tree) (e : StepError) → steps.IsFault o ts e → TellsInputFault (StepsFault o ts) (of_step_error e)
tells_steps o ts (step_errors.Shape k) h = of_step (step_errors.Shape k) refl h
tells_steps o ts (step_errors.Unknown k) h = of_step (step_errors.Unknown k) refl h
tells_steps o ts step_errors.NoMemory h = tt

pub from_steps : {A : Type 0} (r : Result A InputError) (o : Opening) (ts : List Tree) (e : StepError) → IsErrAnd r (λ x. x ≡ of_step_error e) → steps.IsFault o ts e → IfErr r (TellsInputFault (StepsFault o ts))
from_steps (Ok a) o ts e h f = tt
from_steps (Err x) o ts e h f = subst (TellsInputFault (StepsFault o ts)) (sym h) (tells_steps o ts e f)

-- the fault of forms is one of the bytes that spell them
pub from_forms : {A : Type 0} (F : List Tree → ℕ → ℕ → Type 0) (r : Result A InputError) (bytes : List ℕ) (ts : List Tree) → IsSpelling bytes ts → IfErr r (TellsInputFault (F ts)) → IfErr r (TellsInputFault (HasFault F bytes))
from_forms F r bytes ts s t = same_more (F ts) (HasFault F bytes) r (λ a b h. of_forms ts s h) t

-- where there is a meaning, an answer without it is want of memory
pub none_answered : {A B : Type 0} (M : B → Type 0) (F : ℕ → ℕ → Type 0) (r : Result A InputError) → IsUnique M F → IfErr r (TellsInputFault F) → (x : B) → M x → IfErr r (λ e. e ≡ NoMemory)
none_answered M F (Ok a) u t x m = tt
none_answered M F (Err (Fault a b)) u t x m = absurd (u.not_both x a b m t)
none_answered M F (Err NoMemory) u t x m = refl

-- where there is a fault, an answer is this fault or want of memory
pub fault_answered : {A B : Type 0} (M : B → Type 0) (F : ℕ → ℕ → Type 0) (view : A → B) (r : Result A InputError) → IsUnique M F → IfOk r (λ a. M (view a)) → IfErr r (TellsInputFault F) → (a b : ℕ) → F a b
    → (r ≡ Err (Fault a b)) ⊎ (r ≡ Err NoMemory)
fault_answered M F view (Ok x) u m t a b f = absurd (u.not_both (view x) a b m f)
fault_answered M F view (Err (Fault c d)) u m t a b f = let e = u.one_fault c d a b t f in inl (cc (e.0, e.1))
fault_answered M F view (Err NoMemory) u m t a b f = inr refl

-- an error is no answer
pub no_answer : {A B : Type 0} (P : A → Type 0) (e : B) (r : Result A B) → IsErrAnd r (λ x. x ≡ e) → IfOk r P
no_answer P e (Ok x) h = absurd h
no_answer P e (Err y) h = tt
