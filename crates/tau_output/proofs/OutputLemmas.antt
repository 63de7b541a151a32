-- Outputs that are answered behind what they were made of.
use Rattle.std.proofs.Common.{◌≡◌, ℕ, Result, Ok, Err, sym, subst}
use Rattle.std.specs.Result.{IfOk, IfErr}
use Rattle.tau_text.specs.declared.errors.InputError.{InputError}
use Rattle.tau_text.specs.declared.errors.InputError.TheVariants.{NoMemory}
use Rattle.tau_text.specs.Errors.{TellsInputFault}
use Rattle.tau_output.specs.declared.outputs.End.TheVariants.{Done}
use Rattle.tau_output.specs.declared.outputs.Output.{Output}

-- what holds of an output that was made holds of the one that is answered
pub made_output : {E : Type 0} {P Q : Output → Type 0} (made : Result Output E) (r : Result Output InputError) → ((o : Output) → P o → Q o) → IfOk made P → IfOk r (λ o. made ≡ Ok o) → IfOk r Q
made_output {P = P} made (Ok o) f p e = f o (subst (λ x. IfOk x P) e p)
made_output made (Err x) f p e = tt

-- what holds of a text that was made holds of the output with it
pub made_text : {V E : Type 0} {Q : Output → Type 0} (P : V → Type 0) (text : Output → V) (made : Result V E) (r : Result Output InputError) → ((o : Output) → P (text o) → o.end ≡ Done → Q o) → IfOk made P → IfOk r (λ o. (made ≡ Ok (text o)) × (o.end ≡ Done)) → IfOk r Q
made_text P text made (Ok o) f p e = f o (subst (λ x. IfOk x P) e.0 p) e.1
made_text P text made (Err x) f p e = tt

-- want of memory tells nothing
pub no_memory : {A : Type 0} (F : ℕ → ℕ → Type 0) (r : Result A InputError) → IfErr r (λ e. e ≡ NoMemory) → IfErr r (TellsInputFault F)
no_memory F (Ok a) h = tt
no_memory F (Err e) h = subst (TellsInputFault F) (sym h) tt
