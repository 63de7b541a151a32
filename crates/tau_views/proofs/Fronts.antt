-- The first steps of a run of a system, one more, and all of them.
use Rattle.std.proofs.Common.{◌≡◌, ◌∙◌, ℕ, suc, ◌≤◌, Some, None, ⊎_elim, ap, sym, subst, arith}
use Rattle.std.proofs.Math.Seq.{take-length}
use Rattle.std.proofs.lemmas.Option.{slice_get_within, slice_get_cases}
use Rattle.tau_tree.specs.declared.programs.Program.{Program}
use Rattle.tau_trace.specs.declared.step.Step.{Step}
use Rattle.tau_trace.specs.Run.{Run, step_at, len, appended}
use Rattle.tau_trace.specs.Known.{MayFollow, WellFormed}
use Rattle.tau_trace.proofs.Prefix.{run_of, prefix, agree_prefix, len-prefix, may_follow_prefix}
use Rattle.tau_legal.specs.Fits.{Fits}
use Rattle.tau_legal.specs.Traces.{Fitting}
use Rattle.tau_legal.proofs.StateLemmas.{prefix_next, well_formed_prefix}
use Rattle.tau_legal.proofs.LocalLemmas.{fits_same}
use Rattle.tau_knowledge.specs.Knowing.{IsReady}
use Rattle.tau_rules.proofs.ReadinessLemmas.{is_ready}

-- a step may follow those before it, and what is known can follow it
pub next_of : (P : Program) (T U : Run) (k : ℕ) (s : Step) → WellFormed T → Fitting P T → step_at T k ≡ Some s → U ≡ prefix T k → MayFollow U s × IsReady U s
next_of P T U k s w f e is = subst (λ V. MayFollow V s × IsReady V s) (sym is) (may, is_ready P (prefix T k) s front may fits) where
  below : k ≤ len T
  below = omega (arith, slice_get_within T.steps k s e)

  may : MayFollow (prefix T k) s
  may = may_follow_prefix T k s w e

  front : WellFormed (prefix T k)
  front = well_formed_prefix T k w below

  fits : Fits P (prefix T k) (len (prefix T k)) s
  fits = subst (λ n. Fits P (prefix T k) n s) (sym (len-prefix T k below)) (fits_same P T (prefix T k) k s w front (agree_prefix T k) (w.known k s e) (f.steps k s e))

pub grown : (T U V : Run) (k : ℕ) (s : Step) → step_at T k ≡ Some s → U ≡ prefix T k → V ≡ appended U s → V ≡ prefix T (suc k)
grown T U V k s e is new = new ∙ ap (λ R. appended R s) is ∙ prefix_next T k s e

pub whole : (T U : Run) (k : ℕ) → k ≡ len T → U ≡ prefix T k → U ≡ T
whole T U k e is = is ∙ ap (prefix T) e ∙ ap (run_of T.opening) (take-length T.steps)

-- a place without a step is past the last
pub past_last : (T : Run) (k : ℕ) → None ≡ step_at T k → len T ≤ k
past_last T k e = ⊎_elim (λ p. absurd (let both = e ∙ p.2 in cc)) (λ p. p.0) (slice_get_cases T.steps k).1
