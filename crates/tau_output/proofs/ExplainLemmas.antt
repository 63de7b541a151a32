-- What `why` writes for a place of a run.
use Rattle.std.proofs.Common.{◌≡◌, ℕ, false, Result, Ok, Err, IfErr, sym, subst}
use Rattle.std.specs.Result.{IsErrAnd}
use Rattle.tau_trace.specs.Run.{Run}
use Rattle.tau_explain.specs.Decisions.{IsDecision, IsWhy}
use Rattle.tau_explain.specs.declared.answers.Why.{Why}
use Rattle.tau_explain.specs.declared.answers.Why.TheVariants as answers
use Rattle.tau_text.specs.declared.errors.InputError.{InputError}
use Rattle.tau_text.specs.declared.errors.InputError.TheVariants as inputs
use Rattle.tau_text.specs.Errors.{TellsInputFault}
use Rattle.tau_output.specs.declared.refusals.Refusal.{Refusal}
use Rattle.tau_output.specs.declared.refusals.Wanted.{Wanted}
use Rattle.tau_output.specs.declared.refusals.Refusal.TheVariants.{NoMemory}
use Rattle.tau_output.specs.Refusals.{of_input_error, TellsFault, TellsLacking}
use Rattle.tau_output.specs.Inner.Ends.{is_not_asked}
use Rattle.tau_output.proofs.LawLemmas.{tells_no_lack}

-- a decision stands at the place where an answer says no other
pub is_asked : (T : Run) (k : ℕ) (answer : Why) → IsWhy T k answer → is_not_asked answer ≡ false → IsDecision T k
is_asked T k (answers.Chain chain) h e = (h.0, h.1)
is_asked T k answers.NoChain h e = (h.0, h.1)
is_asked T k answers.NotAsked h e = absurd (cc)

-- what the refusal for an error tells
tells_fault : (F : ℕ → ℕ → Type 0) (e : InputError) → TellsInputFault F e → TellsFault F (of_input_error e)
tells_fault F (inputs.Fault a b) t = t
tells_fault F inputs.NoMemory t = tt

pub from_input : {A : Type 0} (F : ℕ → ℕ → Type 0) (r : Result A Refusal) (e : InputError) → IsErrAnd r (λ x. x ≡ of_input_error e) → TellsInputFault F e → IfErr r (TellsFault F)
from_input F (Ok a) e h t = tt
from_input F (Err x) e h t = subst (TellsFault F) (sym h) (tells_fault F e t)

pub from_input_no_lack : {A : Type 0} (U : Wanted → Type 0) (r : Result A Refusal) (e : InputError) → IsErrAnd r (λ x. x ≡ of_input_error e) → IfErr r (TellsLacking U)
from_input_no_lack U (Ok a) e h = tt
from_input_no_lack U (Err x) e h = subst (TellsLacking U) (sym h) (tells_no_lack U e)

-- want of memory tells nothing
pub from_memory : {A : Type 0} (F : ℕ → ℕ → Type 0) (r : Result A Refusal) → IsErrAnd r (λ x. x ≡ NoMemory) → IfErr r (TellsFault F)
from_memory F (Ok a) h = tt
from_memory F (Err x) h = subst (TellsFault F) (sym h) tt

pub from_memory_no_lack : {A : Type 0} (U : Wanted → Type 0) (r : Result A Refusal) → IsErrAnd r (λ x. x ≡ NoMemory) → IfErr r (TellsLacking U)
from_memory_no_lack U (Ok a) h = tt
from_memory_no_lack U (Err x) h = subst (TellsLacking U) (sym h) tt
