-- A program, a run, a window and the step that is asked for have one picture.
use Rattle.std.proofs.Common.{◌≡◌, ℕ, ◌≤◌, List, ◌++◌, Option, Some, None, sym, ap, ◌∙◌, subst}
use Rattle.tau_svg.specs.Markup.Lines.{Line, text_of}
use Rattle.tau_svg.specs.Shapes.Windows.{window_of}
use Rattle.tau_explain.specs.declared.chains.chained.Chained.{Chained}
use Rattle.tau_tree.specs.declared.programs.Program.{Program}
use Rattle.tau_script.specs.Openings.{program_opening}
use Rattle.tau_trace.specs.Run.{Run, len}
use Rattle.tau_trace.specs.Known.{WellFormed}
use Rattle.tau_layout.specs.Lanes.{AreLanes}
use Rattle.tau_layout.specs.Plans.{Plan}
use Rattle.tau_cut.specs.declared.cut.Marked.{Marked}
use Rattle.tau_cut.specs.Cuts.{IsCut}
use Rattle.tau_cut.proofs.OneCut.{cut_once}
use Rattle.tau_scene.specs.Notes.Looks.{IsLooks}
use Rattle.tau_layout.specs.Paths.Guides.{AreGuides}
use Rattle.tau_layout.proofs.Once.{guides_once}
use Rattle.tau_drawing.specs.Messages.Messages.{AreMessageLines}
use Rattle.tau_drawing.proofs.MessagesOnce.{messages_once}
use Rattle.tau_drawing.specs.Marks.Marks.{AreMarks}
use Rattle.tau_drawing.specs.Marks.Rows.{AreRows}
use Rattle.tau_drawing.proofs.MarksOnce.{marks_once, rows_once}
use Rattle.tau_drawing.specs.States.StripLines.{AreStripLines}
use Rattle.tau_drawing.specs.States.StateLines.{AreStateLines}
use Rattle.tau_drawing.specs.States.EndLines.{AreEndLines}
use Rattle.tau_drawing.specs.Lanes.Bands.{AreNodeBands}
use Rattle.tau_drawing.specs.Lanes.LaneLines.{AreLaneLines}
use Rattle.tau_drawing.specs.Lanes.NameLines.{AreNameLines}
use Rattle.tau_picture.specs.Headings.{heading_lines}
use Rattle.tau_picture.specs.Asking.{IsCauseOf}
use Rattle.tau_picture.specs.Pictures.{begin_lines, key_lines, said_lines, AreCauseLines, IsPicture, IsPictureText}
use Rattle.tau_picture.specs.Laws.{PicturesAreUnique}
use Rattle.tau_picture.proofs.OnePlan.{plan_once}
use Rattle.tau_picture.proofs.OneState.{lanes_seen_once}
use Rattle.tau_picture.proofs.OneCause.{cause_at_once}
use Rattle.tau_picture.proofs.OneNote.{steps_alike, ends_alike}
use Rattle.tau_picture.proofs.AsShown.{ShowsSame, strip_as, states_as, marks_as, rows_as, ends_as}
use Rattle.tau_picture.proofs.OneBand.{lane_lines_once, name_lines_once, state_lines_once, end_lines_once, strip_once}
use Rattle.tau_picture.proofs.OneChain.{cause_lines_as, cause_lines_once}
use Rattle.tau_picture.proofs.Whole.{own_plan, window_within, step_there}

cause_of_once : (T : Run) (cut : List Marked) → IsCut T cut → (ask : Option ℕ) (o q : Option (List Chained)) → IsCauseOf T cut ask o → IsCauseOf T cut ask q → o ≡ q
cause_of_once T cut is None o q a b = a ∙ sym b
cause_of_once T cut is (Some k) o q a b = cause_at_once T cut is k o q a b

module _ (P : Program) (T : Run) (w : WellFormed T) (opening : T.opening ≡ program_opening P) (from to : ℕ) (ask : Option ℕ) (lines others : List Line) (a : IsPicture P T from to ask lines) (b : IsPicture P T from to ask others) where
  plans : a.plan ≡ b.plan
  plans = plan_once T (window_of (len T) from to) a.plan b.plan a.is_plan b.is_plan

  cuts : a.cut ≡ b.cut
  cuts = cut_once T a.cut b.cut a.is_cut b.is_cut

  causes : a.cause ≡ b.cause
  causes = cause_of_once T b.cut b.is_cut ask a.cause b.cause (subst (λ (c : List Marked). IsCauseOf T c ask a.cause) cuts a.is_cause) b.is_cause

  lanes_are : AreLanes T b.plan.window b.plan.lanes
  lanes_are = (own_plan T (window_of (len T) from to) b.plan b.is_plan).lanes_are

  within : b.plan.window.to ≤ len T
  within = window_within T from to b.plan b.is_plan

  looks_there : IsLooks P T b.plan b.cut a.looks
  looks_there = subst (λ (p : Plan). IsLooks P T p b.cut a.looks) plans (subst (λ (c : List Marked). IsLooks P T a.plan c a.looks) cuts a.are_looks)

  shows_same : ShowsSame a.looks b.looks
  shows_same = record {
    states_are = lanes_seen_once T b.plan b.cut a.looks.states.items b.looks.states.items looks_there.states_are b.are_looks.states_are;
    steps_are = steps_alike P T b.cut b.is_cut b.plan.window within (step_there T) a.looks.steps.items b.looks.steps.items looks_there.steps_are b.are_looks.steps_are;
    ends_are = ends_alike P T b.cut opening b.plan.lanes a.looks.ends.items b.looks.ends.items looks_there.ends_are b.are_looks.ends_are;
  }

  -- the parts

  strips : a.strip ≡ b.strip
  strips = strip_once T b.plan b.looks w.opening lanes_are a.strip b.strip
      (strip_as T b.plan a.looks b.looks shows_same a.strip (subst (λ (p : Plan). AreStripLines T p a.looks a.strip) plans a.strip_is)) b.strip_is

  nodes : a.nodes ≡ b.nodes
  nodes = subst (λ (p : Plan). AreNodeBands T p a.nodes) plans a.nodes_are ∙ sym b.nodes_are

  lanes : a.lanes ≡ b.lanes
  lanes = lane_lines_once T b.plan a.lanes b.lanes (subst (λ (p : Plan). AreLaneLines T p a.lanes) plans a.lanes_are) b.lanes_are

  names : a.names ≡ b.names
  names = name_lines_once T b.plan a.names b.names (subst (λ (p : Plan). AreNameLines T p a.names) plans a.names_are) b.names_are

  guides : a.guides ≡ b.guides
  guides = guides_once T w.opening b.plan lanes_are within (step_there T) a.guides b.guides (subst (λ (p : Plan). AreGuides T p a.guides) plans a.guides_are) b.guides_are

  states : a.states ≡ b.states
  states = state_lines_once T b.plan b.looks a.states b.states
      (states_as T b.plan a.looks b.looks shows_same a.states (subst (λ (p : Plan). AreStateLines T p a.looks a.states) plans a.states_are)) b.states_are

  messages : a.messages ≡ b.messages
  messages = messages_once P T opening w.opening b.plan lanes_are within (step_there T) a.messages b.messages (subst (λ (p : Plan). AreMessageLines P T p a.messages) plans a.messages_are) b.messages_are

  marks : a.marks ≡ b.marks
  marks = marks_once T w.opening b.plan lanes_are b.looks.steps.items within (step_there T) a.marks b.marks
      (marks_as T b.plan a.looks b.looks shows_same a.marks (subst (λ (p : Plan). AreMarks T p a.looks.steps.items a.marks) plans a.marks_are)) b.marks_are

  rows : a.rows ≡ b.rows
  rows = rows_once T w.opening b.plan lanes_are b.looks.steps.items within (step_there T) a.rows b.rows
      (rows_as T b.plan a.looks b.looks shows_same a.rows (subst (λ (p : Plan). AreRows T p a.looks.steps.items a.rows) plans a.rows_are)) b.rows_are

  ends : a.ends ≡ b.ends
  ends = end_lines_once T b.plan b.looks a.ends b.ends (ends_as T b.plan a.looks b.looks shows_same a.ends (subst (λ (p : Plan). AreEndLines T p a.looks a.ends) plans a.ends_are)) b.ends_are

  chain_there : AreCauseLines T b.plan b.looks ask b.cause a.chain
  chain_there = cause_lines_as T b.plan a.looks b.looks shows_same.states_are ask b.cause a.chain
      (subst (λ (p : Plan). AreCauseLines T p a.looks ask b.cause a.chain) plans (subst (λ (c : Option (List Chained)). AreCauseLines T a.plan a.looks ask c a.chain) causes a.chain_is))

  chains : a.chain ≡ b.chain
  chains = cause_lines_once T w b.plan lanes_are within (step_there T) b.cut b.looks b.are_looks.states_are ask b.cause a.chain b.chain chain_there b.chain_is

  pub picture_once : lines ≡ others
  picture_once = a.is ∙ (λ i. begin_lines T (plans i) ++ (heading_lines T (plans i).window (cuts i) ++ (said_lines T ask (causes i) ++ (strips i ++ (nodes i ++ (lanes i ++ (guides i ++ (states i ++ (messages i ++ (marks i ++ (names i ++ (chains i ++ (rows i ++ (ends i ++ key_lines (plans i))))))))))))))) ∙ sym b.is

-- and one text
pub picture_text_once : (P : Program) (T : Run) → WellFormed T → T.opening ≡ program_opening P → (from to : ℕ) (ask : Option ℕ) (b c : List ℕ) → IsPictureText P T from to ask b → IsPictureText P T from to ask c → b ≡ c
picture_text_once P T w opening from to ask b c x y = x.text ∙ ap text_of (picture_once P T w opening from to ask x.lines y.lines x.picture y.picture) ∙ sym y.text

pub pictures_are_unique : PicturesAreUnique
pictures_are_unique = record { one_picture = picture_once; one_text = picture_text_once }
