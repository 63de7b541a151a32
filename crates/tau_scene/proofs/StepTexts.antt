-- The printed forms of steps stand in brackets.
use Rattle.std.proofs.Common.{◌≡◌, ℕ, [], ◌∷◌, ◌++◌, Option, Some, None, ap}
use Rattle.std.specs.Prelude.{option_map}
use Rattle.std.specs.Option.{option_map_or}
use Rattle.tau_sexpr.specs.Tree.{Tree}
use Rattle.tau_sexpr.specs.Printing.{print_of}
use Rattle.tau_trace.specs.declared.step.Step.{Step}
use Rattle.tau_trace.specs.Run.{Run, step_at}
use Rattle.tau_trace.specs.Numbering.{born, sent, number_made}
use Rattle.tau_steps.specs.StepForms.{step_form, step_form_at}
use Rattle.tau_scene.specs.Words.Texts.{bare_of, step_text, bare_text}

pub step_whole : (T : Run) (k : ℕ) (t : Tree) → Some t ≡ step_form_at T k → print_of t ≡ step_text T k
step_whole T k t is = ap (λ o. option_map_or print_of o []) is

pub step_bracketed : (T : Run) (k : ℕ) (t : Tree) → Some t ≡ step_form_at T k → print_of t ≡ 40 ∷ (bare_text T k ++ 41 ∷ [])
step_bracketed T k t is = by (step_at T k) is
  where
    by : (o : Option Step) → Some t ≡ option_map (λ s. step_form T.opening (number_made s (born T k) (sent T k)) s) o
        → print_of t ≡ 40 ∷ (option_map_or bare_of (option_map (λ s. step_form T.opening (number_made s (born T k) (sent T k)) s) o) [] ++ 41 ∷ [])
    by None e = absurd (cc)
    by (Some s) e = ap (λ o. option_map_or print_of o []) e
