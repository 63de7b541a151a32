-- The whole picture, from its parts.
use Rattle.std.proofs.Common.{◌≡◌, ⊎_elim, ℕ, ◌<◌, ◌≤◌, List, [], ◌++◌, Some, refl, sym, ap, ◌∙◌, subst, append_assoc, arith}
use Rattle.std.proofs.lemmas.Option.{slice_get_cases}
use Rattle.tau_svg.specs.Markup.Lines.{Line, with_lines}
use Rattle.tau_svg.proofs.LineLemmas.{lines_appended, lines_joined}
use Rattle.tau_svg.specs.declared.shapes.window.Window.{Window}
use Rattle.tau_svg.specs.Shapes.Windows.{window_of}
use Rattle.tau_svg.specs.Shapes.Each.{Writes}
use Rattle.tau_tree.specs.declared.programs.Program.{Program}
use Rattle.tau_trace.specs.declared.step.Step.{Step}
use Rattle.tau_trace.specs.Run.{Run, len, step_at}
use Rattle.tau_layout.specs.Lanes.{AreLanes}
use Rattle.tau_layout.specs.Plans.{Plan, IsPlan}
use Rattle.tau_cut.specs.declared.cut.Marked.{Marked}
use Rattle.tau_cut.specs.Cuts.{IsCut}
use Rattle.tau_scene.specs.declared.looks.looks.Looks.{Looks}
use Rattle.tau_scene.specs.Notes.Looks.{IsLooks}
use Rattle.tau_picture.specs.declared.asking.Asked.{Asked}
use Rattle.tau_picture.specs.declared.asking.Asked.TheVariants as asked
use Rattle.tau_picture.specs.Headings.{heading_lines}
use Rattle.tau_picture.specs.Asking.{IsCauseOf}
use Rattle.tau_picture.specs.Pictures.{begin_lines, said_lines, IsPicture, IsPictureText}
use Rattle.tau_picture.specs.Inner.Asked.{place_asked, cause_asked, TellsCause}
use Rattle.tau_picture.specs.Inner.Drawing.{top_lines, AreMiddle, AreRest}

-- a plan is one for its own window
pub own_plan : (T : Run) (v : Window) (plan : Plan) → IsPlan T v plan → IsPlan T plan.window plan
own_plan T v plan is = record {
  window_is = refl;
  lanes_are = subst (λ (w : Window). AreLanes T w plan.lanes) (sym is.window_is) is.lanes_are;
  nodes_is = is.nodes_is;
  longest_is = is.longest_is;
}

-- no window ends behind the last step
pub ends_within : (n from to : ℕ) → (window_of n from to).to ≤ n
ends_within n from to = omega arith

pub window_within : (T : Run) (from to : ℕ) (plan : Plan) → IsPlan T (window_of (len T) from to) plan → plan.window.to ≤ len T
window_within T from to plan is = subst (λ (w : Window). w.to ≤ len T) (sym is.window_is) (ends_within (len T) from to)

-- a step stands at each place of a run
pub step_there : (T : Run) (k : ℕ) → k < len T → (s : Step) × (step_at T k ≡ Some s)
step_there T k lt = ⊎_elim (λ p. (p.0, p.2)) (λ p. absurd (omega (arith, lt, p.0))) (slice_get_cases T.steps k).1

cause_is : (T : Run) (cut : List Marked) (a : Asked) → TellsCause T cut a → IsCauseOf T cut (place_asked a) (cause_asked a)
cause_is T cut asked.Nothing told = refl
cause_is T cut (asked.Step k cause) told = told

nested : (a b c m : List Line) → (a ++ (b ++ c)) ++ m ≡ a ++ (b ++ (c ++ m))
nested a b c m = append_assoc a (b ++ c) m ∙ ap (λ x. a ++ x) (append_assoc b c m)

joined : (a b c d e f g h m : List Line) → (a ++ (b ++ (c ++ (d ++ (e ++ (f ++ (g ++ h))))))) ++ m ≡ a ++ (b ++ (c ++ (d ++ (e ++ (f ++ (g ++ (h ++ m)))))))
joined a b c d e f g h m =
    append_assoc a (b ++ (c ++ (d ++ (e ++ (f ++ (g ++ h)))))) m
    ∙ ap (λ x. a ++ x) (append_assoc b (c ++ (d ++ (e ++ (f ++ (g ++ h))))) m
    ∙ ap (λ x. b ++ x) (append_assoc c (d ++ (e ++ (f ++ (g ++ h)))) m
    ∙ ap (λ x. c ++ x) (append_assoc d (e ++ (f ++ (g ++ h))) m
    ∙ ap (λ x. d ++ x) (append_assoc e (f ++ (g ++ h)) m
    ∙ ap (λ x. e ++ x) (append_assoc f (g ++ h) m
    ∙ ap (λ x. f ++ x) (append_assoc g h m))))))

module _ (P : Program) (T : Run) (from to : ℕ) (plan : Plan) (cut : List Marked) (looks : Looks) (a : Asked) where
  -- the parts are those of a picture
  picture_of : IsPlan T (window_of (len T) from to) plan → IsCut T cut → IsLooks P T plan cut looks → TellsCause T cut a → (ms rs : List Line) → AreMiddle P T plan looks ms → AreRest T plan looks a rs
      → IsPicture P T from to (place_asked a) (top_lines T plan cut a ++ (ms ++ rs))
  picture_of is_plan is_cut are_looks told ms rs m r = record {
    plan = plan;
    is_plan = is_plan;
    cut = cut;
    is_cut = is_cut;
    looks = looks;
    are_looks = are_looks;
    cause = cause_asked a;
    is_cause = cause_is T cut a told;
    strip = m.strip;
    strip_is = m.strip_is;
    nodes = m.nodes;
    nodes_are = m.nodes_are;
    lanes = m.lanes;
    lanes_are = m.lanes_are;
    guides = m.guides;
    guides_are = m.guides_are;
    states = m.states;
    states_are = m.states_are;
    messages = m.messages;
    messages_are = m.messages_are;
    marks = m.marks;
    marks_are = m.marks_are;
    names = m.names;
    names_are = m.names_are;
    chain = r.chain;
    chain_is = r.chain_is;
    rows = r.rows;
    rows_are = r.rows_are;
    ends = r.ends;
    ends_are = r.ends_are;
    is = nested (begin_lines T plan) (heading_lines T plan.window cut) (said_lines T (place_asked a) (cause_asked a)) (ms ++ rs)
        ∙ ap (λ x. begin_lines T plan ++ (heading_lines T plan.window cut ++ (said_lines T (place_asked a) (cause_asked a) ++ x)))
        (ap (λ x. x ++ rs) m.is ∙ joined m.strip m.nodes m.lanes m.guides m.states m.messages m.marks m.names rs
        ∙ ap (λ x. m.strip ++ (m.nodes ++ (m.lanes ++ (m.guides ++ (m.states ++ (m.messages ++ (m.marks ++ (m.names ++ x)))))))) r.is);
  }

  -- what is written is its text
  pub text_of_picture : IsPlan T (window_of (len T) from to) plan → IsCut T cut → IsLooks P T plan cut looks → TellsCause T cut a → (o1 o2 o3 : List ℕ) → o1 ≡ with_lines [] (top_lines T plan cut a) → Writes (AreMiddle P T plan looks) o1 o2 → Writes (AreRest T plan looks a) o2 o3
      → IsPictureText P T from to (place_asked a) o3
  text_of_picture is_plan is_cut are_looks told o1 o2 o3 top m r =
      let before = top_lines T plan cut a in
      record {
        lines = before ++ (m.lines ++ r.lines);
        picture = picture_of is_plan is_cut are_looks told m.lines r.lines m.told r.told;
        text = r.are ∙ ap (λ x. with_lines x r.lines) (m.are ∙ ap (λ x. with_lines x m.lines) top)
            ∙ sym (lines_joined (with_lines [] before) m.lines r.lines)
            ∙ sym (lines_joined [] before (m.lines ++ r.lines))
            ∙ lines_appended [] (before ++ (m.lines ++ r.lines));
      }
