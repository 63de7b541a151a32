-- A front of a legal run is legal.
use Rattle.std.proofs.Common.{◌≡◌, ℕ, zero, suc, ◌<◌, List, [], ◌∷◌, ◌++◌, length, Some, refl, sym, ap, ◌∙◌, arith}
use Rattle.std.specs.Prelude.{slice_get}
use Rattle.std.proofs.lemmas.Option.{slice_get_within}
use Rattle.tau_tree.specs.declared.programs.Program.{Program}
use Rattle.tau_trace.specs.declared.step.Step.{Step}
use Rattle.tau_trace.specs.Run.{Run, Agree, len, step_at}
use Rattle.tau_trace.specs.Known.{WellFormed}
use Rattle.tau_script.specs.Openings.{program_opening}
use Rattle.tau_legal.specs.Traces.{Legal}
use Rattle.tau_legal.specs.Laws.{LegalityIsLocal}
use Rattle.tau_book.specs.Onward.{BeginsWith}
use Rattle.tau_run_journal.specs.Standing.{opened}

pub begins_opened : (P : Program) (T : Run) → BeginsWith (opened P) T
begins_opened P T = (T.steps, refl)

slice_get-front_of : {A : Type 0} (xs ys : List A) (k : ℕ) → k < length xs → slice_get (xs ++ ys) k ≡ slice_get xs k
slice_get-front_of [] ys k l = absurd (omega arith)
slice_get-front_of (x ∷ xs) ys zero l = refl
slice_get-front_of (x ∷ xs) ys (suc k) l = slice_get-front_of xs ys k (omega arith)

-- a run without steps
pub legal_opened : (P : Program) → Legal P (opened P)
legal_opened P = record { opening = refl; steps = λ k s stands. absurd (omega (arith, slice_get_within (opened P).steps k s stands)) }

pub legal_front : LegalityIsLocal → (P : Program) (T U : Run) → BeginsWith T U → WellFormed T → WellFormed U → T.opening ≡ program_opening P → Legal P U → Legal P T
legal_front local P T U begins well longer opens legal = record {
  opening = opens;
  steps = λ k s stands.
      let within : k < len T = slice_get_within T.steps k s stands in
      let there : step_at U k ≡ Some s = same k within ∙ stands in
      let agree : Agree U T k = record { opening = legal.opening ∙ sym opens; steps = λ j l. same j (omega (arith, l, within)) } in
      local P U T k s longer well agree (longer.known k s there) (legal.steps k s there);
} where
  same : (j : ℕ) → j < len T → step_at U j ≡ step_at T j
  same j l = ap (λ (ss : List Step). slice_get ss j) begins.1 ∙ slice_get-front_of T.steps begins.0 j l
