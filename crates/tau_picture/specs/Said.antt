-- The line that tells the cause of the step that was asked for (docs/formats.md, "Pictures").
use Rattle.std.specs.Prelude.{ℕ, List, [], ◌∷◌, ◌++◌, Option, Some, None, codes}
use Rattle.std.specs.List.{flat_map}
use Rattle.std.specs.Option.{option_map_or}
use Rattle.std.specs.Fmt.{decimal}
use Rattle.tau_svg.specs.Markup.Lines.{said, Line}
use Rattle.tau_svg.specs.Markup.Texts.{cut}
use Rattle.tau_svg.specs.Shapes.Shapes.{text_at}
use Rattle.tau_explain.specs.declared.chains.chained.Chained.{Chained}
use Rattle.tau_trace.specs.declared.step.Step.{Step}
use Rattle.tau_trace.specs.declared.step.Step.TheVariants.{Hold, Checkpoint}
use Rattle.tau_trace.specs.Run.{Run, step_at}
use Rattle.tau_scene.specs.Words.Texts.{point_text, step_text}

-- by which step a point of a chain is rested on; nothing for the first
abbrev pub by_text : Option ℕ → List ℕ
by_text None = []
by_text (Some j) = codes ", by " ++ (decimal j ++ codes " on ")

abbrev pub chained_text : List (List ℕ) → Chained → List ℕ
chained_text names c = by_text c.by ++ point_text names c.point

abbrev pub chain_text : List (List ℕ) → List Chained → List ℕ
chain_text names chain = flat_map (chained_text names) chain

-- what is wrong with the last point of the chain
abbrev pub wrong_text : Step → List ℕ
wrong_text (Hold t) = codes ", which isn't firm"
wrong_text (Checkpoint t) = codes ", which isn't saved"
wrong_text s = codes ", which fell"

-- the place and the step
abbrev pub asked_text : Run → ℕ → List ℕ
asked_text T k = decimal k ++ 32 ∷ step_text T k

-- why the step at place k was made, by the chain to its cause; or that it has none
abbrev pub reason_text : Run → ℕ → List Chained → List ℕ
reason_text T k chain =
    codes "Why " ++ (asked_text T k ++ (codes ": it rests on " ++ (chain_text T.opening.names chain ++ option_map_or wrong_text (step_at T k) [])))

abbrev pub no_reason_text : Run → ℕ → List ℕ
no_reason_text T k = asked_text T k ++ codes ": no cause"

-- what is said of the step at place k and its cause, if it has one
abbrev pub said_text : Run → ℕ → Option (List Chained) → List ℕ
said_text T k None = no_reason_text T k
said_text T k (Some chain) = reason_text T k chain

abbrev pub said_line : Run → ℕ → Option (List Chained) → Line
said_line T k cause = text_at (codes "said") 16 68 (said (cut (said_text T k cause) 110) ∷ [])
