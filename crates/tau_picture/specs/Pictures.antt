-- Pictures of runs (docs/formats.md, "Pictures").
use Rattle.std.specs.Prelude.{◌≡◌, ℕ, List, [], ◌∷◌, ◌++◌, Option, Some, None}
use Rattle.tau_svg.specs.Markup.Lines.{Line, text_of}
use Rattle.tau_svg.specs.Shapes.Windows.{window_of}
use Rattle.tau_svg.specs.Shapes.Shapes.{begin_line, title_line, paper_line, legend_line, end_lines}
use Rattle.tau_svg.specs.Shapes.Fixed.{style_lines, symbol_lines, legend_lines}
use Rattle.tau_explain.specs.declared.chains.chained.Chained.{Chained}
use Rattle.tau_tree.specs.declared.programs.Program.{Program}
use Rattle.tau_trace.specs.Run.{Run, len}
use Rattle.tau_layout.specs.Plans.{Plan, IsPlan, grid}
use Rattle.tau_cut.specs.declared.cut.Marked.{Marked}
use Rattle.tau_cut.specs.Cuts.{IsCut}
use Rattle.tau_scene.specs.declared.looks.looks.Looks.{Looks}
use Rattle.tau_scene.specs.Notes.Looks.{IsLooks}
use Rattle.tau_layout.specs.Paths.Guides.{AreGuides}
use Rattle.tau_drawing.specs.Messages.Messages.{AreMessageLines}
use Rattle.tau_drawing.specs.Marks.Marks.{AreMarks}
use Rattle.tau_drawing.specs.Marks.Rows.{AreRows}
use Rattle.tau_drawing.specs.States.StripLines.{AreStripLines}
use Rattle.tau_drawing.specs.Lanes.Bands.{AreNodeBands}
use Rattle.tau_drawing.specs.Lanes.LaneLines.{AreLaneLines}
use Rattle.tau_drawing.specs.Lanes.NameLines.{AreNameLines}
use Rattle.tau_drawing.specs.States.StateLines.{AreStateLines}
use Rattle.tau_drawing.specs.States.EndLines.{AreEndLines}
use Rattle.tau_picture.specs.declared.drawing.Drawn.{Drawn}
use Rattle.tau_picture.specs.declared.drawing.Drawn.TheVariants as drawn
use Rattle.tau_picture.specs.Headings.{heading_lines}
use Rattle.tau_picture.specs.Asking.{Allows, IsCauseOf}
use Rattle.tau_picture.specs.Said.{said_line}
use Rattle.tau_picture.specs.Chains.{AreChainLines}

-- the begin of a picture: its sizes, the number of steps, the style sheet, the symbols and the paper
abbrev pub begin_lines : Run → Plan → List Line
begin_lines T plan =
    begin_line (grid plan).width (grid plan).height ∷ title_line (len T) ∷ (style_lines ++ (symbol_lines ++ paper_line (grid plan).width (grid plan).height ∷ []))

-- the end: the legend
abbrev pub key_lines : Plan → List Line
key_lines plan = legend_line (grid plan).key ∷ (legend_lines ++ end_lines)

-- what is said of the step that is asked for, if one is
abbrev pub said_lines : Run → Option ℕ → Option (List Chained) → List Line
said_lines T None cause = []
said_lines T (Some k) cause = said_line T k cause ∷ []

-- the lines of its chain, if it has one
abbrev pub AreCauseLines : Run → Plan → Looks → Option ℕ → Option (List Chained) → List Line → Type 0
AreCauseLines T plan looks (Some k) (Some chain) lines = AreChainLines T plan looks k chain lines
AreCauseLines T plan looks ask cause lines = lines ≡ []

-- the lines of the picture of a program and a run, for the places from one up to another, with the cause of the step that is
-- asked for, if one is
pub record IsPicture (P : Program) (T : Run) (from to : ℕ) (ask : Option ℕ) (lines : List Line) : Type 0 where
  -- where things stand, which checkpoints may be kept, what is seen, and the cause
  pub plan : Plan
  pub is_plan : IsPlan T (window_of (len T) from to) plan
  pub cut : List Marked
  pub is_cut : IsCut T cut
  pub looks : Looks
  pub are_looks : IsLooks P T plan cut looks
  pub cause : Option (List Chained)
  pub is_cause : IsCauseOf T cut ask cause
  -- the parts, in their order
  pub strip : List Line
  pub strip_is : AreStripLines T plan looks strip
  pub nodes : List Line
  pub nodes_are : AreNodeBands T plan nodes
  pub lanes : List Line
  pub lanes_are : AreLaneLines T plan lanes
  pub guides : List Line
  pub guides_are : AreGuides T plan guides
  pub states : List Line
  pub states_are : AreStateLines T plan looks states
  pub messages : List Line
  pub messages_are : AreMessageLines P T plan messages
  pub marks : List Line
  pub marks_are : AreMarks T plan looks.steps.items marks
  pub names : List Line
  pub names_are : AreNameLines T plan names
  pub chain : List Line
  pub chain_is : AreCauseLines T plan looks ask cause chain
  pub rows : List Line
  pub rows_are : AreRows T plan looks.steps.items rows
  pub ends : List Line
  pub ends_are : AreEndLines T plan looks ends
  pub is : lines ≡ begin_lines T plan ++ (heading_lines T plan.window cut ++ (said_lines T ask cause ++ (strip ++ (nodes ++ (lanes ++ (guides ++ (states ++ (messages ++ (marks ++ (names ++ (chain ++ (rows ++ (ends ++ key_lines plan)))))))))))))

-- the bytes are those of the lines of the picture
pub record IsPictureText (P : Program) (T : Run) (from to : ℕ) (ask : Option ℕ) (bytes : List ℕ) : Type 0 where
  pub lines : List Line
  pub picture : IsPicture P T from to ask lines
  pub text : bytes ≡ text_of lines

-- the picture; or none, exactly where the step that is asked for may not be
abbrev pub IsDrawn : Program → Run → ℕ → ℕ → Option ℕ → Drawn → Type 0
IsDrawn P T from to ask (drawn.Picture bytes) = Allows T ask × IsPictureText P T from to ask bytes.items
IsDrawn P T from to ask drawn.NotAsked = ¬ Allows T ask
