-- The groups of parts of a picture.
use Rattle.std.specs.Prelude.{◌≡◌, List, ◌++◌}
use Rattle.tau_svg.specs.Markup.Lines.{Line}
use Rattle.tau_tree.specs.declared.programs.Program.{Program}
use Rattle.tau_trace.specs.Run.{Run}
use Rattle.tau_layout.specs.Plans.{Plan}
use Rattle.tau_cut.specs.declared.cut.Marked.{Marked}
use Rattle.tau_scene.specs.declared.looks.looks.Looks.{Looks}
use Rattle.tau_layout.specs.Paths.Guides.{AreGuides}
use Rattle.tau_drawing.specs.Messages.Messages.{AreMessageLines}
use Rattle.tau_drawing.specs.Marks.Marks.{AreMarks}
use Rattle.tau_drawing.specs.Marks.Rows.{AreRows}
use Rattle.tau_drawing.specs.States.StripLines.{AreStripLines}
use Rattle.tau_drawing.specs.Lanes.Bands.{AreNodeBands}
use Rattle.tau_drawing.specs.Lanes.LaneLines.{AreLaneLines}
use Rattle.tau_drawing.specs.Lanes.NameLines.{AreNameLines}
use Rattle.tau_drawing.specs.States.StateLines.{AreStateLines}
use Rattle.tau_drawing.specs.States.EndLines.{AreEndLines}
use Rattle.tau_picture.specs.declared.asking.Asked.{Asked}
use Rattle.tau_picture.specs.Inner.Asked.{place_asked, cause_asked}
use Rattle.tau_picture.specs.Headings.{heading_lines}
use Rattle.tau_picture.specs.Pictures.{begin_lines, key_lines, said_lines, AreCauseLines}

-- the lines above the rows
abbrev pub top_lines : Run → Plan → List Marked → Asked → List Line
top_lines T plan cut a = begin_lines T plan ++ (heading_lines T plan.window cut ++ said_lines T (place_asked a) (cause_asked a))

-- the lines from the strip to the names of lanes between the rows
pub record AreMiddle (P : Program) (T : Run) (plan : Plan) (looks : Looks) (lines : List Line) : Type 0 where
  pub strip : List Line
  pub strip_is : AreStripLines T plan looks strip
  pub nodes : List Line
  pub nodes_are : AreNodeBands T plan nodes
  pub lanes : List Line
  pub lanes_are : AreLaneLines T plan lanes
  pub guides : List Line
  pub guides_are : AreGuides T plan guides
  pub states : List Line
  pub states_are : AreStateLines T plan looks states
  pub messages : List Line
  pub messages_are : AreMessageLines P T plan messages
  pub marks : List Line
  pub marks_are : AreMarks T plan looks.steps.items marks
  pub names : List Line
  pub names_are : AreNameLines T plan names
  pub is : lines ≡ strip ++ (nodes ++ (lanes ++ (guides ++ (states ++ (messages ++ (marks ++ names))))))

-- the lines behind these
pub record AreRest (T : Run) (plan : Plan) (looks : Looks) (a : Asked) (lines : List Line) : Type 0 where
  pub chain : List Line
  pub chain_is : AreCauseLines T plan looks (place_asked a) (cause_asked a) chain
  pub rows : List Line
  pub rows_are : AreRows T plan looks.steps.items rows
  pub ends : List Line
  pub ends_are : AreEndLines T plan looks ends
  pub is : lines ≡ chain ++ (rows ++ (ends ++ key_lines plan))
