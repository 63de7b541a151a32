-- Marks and rows are told once.
use Rattle.std.proofs.Common.{◌≡◌, ℕ, ◌<◌, ◌≤◌, List, [], ◌∷◌, Some, sym, ◌∙◌, arith}
use Rattle.tau_svg.specs.Markup.Lines.{Line}
use Rattle.tau_trace.specs.declared.step.Step.{Step}
use Rattle.tau_trace.specs.Run.{Run, len, step_at}
use Rattle.tau_trace.specs.Known.{IsSound}
use Rattle.tau_trace.proofs.Lists.{same_some}
use Rattle.tau_layout.specs.Lanes.{AreLanes}
use Rattle.tau_layout.specs.Plans.{Plan}
use Rattle.tau_layout.proofs.Once.{each_once, spot_once}
use Rattle.tau_scene.specs.declared.looks.looks.StepLook.{StepLook}
use Rattle.tau_drawing.specs.Marks.Marks.{mark_line, IsMark, AreMarks}
use Rattle.tau_drawing.specs.Marks.Rows.{place_line, row_line, IsRow, AreRows}

module _ (T : Run) (sound : IsSound T.opening) (plan : Plan) (is : AreLanes T plan.window plan.lanes) (looks : List StepLook) where
  mark_once : (k : ℕ) (s : Step) (ls ks : List Line) → step_at T k ≡ Some s → IsMark T plan looks k ls → IsMark T plan looks k ks → ls ≡ ks
  mark_once k s ls ks e a b =
      let look : a.0 ≡ b.0 = same_some (sym a.2 ∙ b.2) in
      let at : a.1 ≡ b.1 = spot_once T sound plan is k s a.1 b.1 e a.3 b.3 in
      a.4 ∙ (λ n. mark_line T k (look n) (at n) ∷ []) ∙ sym b.4

  row_once : (k : ℕ) (s : Step) (ls ks : List Line) → step_at T k ≡ Some s → IsRow T plan looks k ls → IsRow T plan looks k ks → ls ≡ ks
  row_once k s ls ks e a b =
      let look : a.0 ≡ b.0 = same_some (sym a.2 ∙ b.2) in
      let at : a.1 ≡ b.1 = spot_once T sound plan is k s a.1 b.1 e a.3 b.3 in
      a.4 ∙ (λ n. place_line k (at n) ∷ row_line T k (look n) (at n) ∷ []) ∙ sym b.4

  pub marks_once : plan.window.to ≤ len T → ((k : ℕ) → k < len T → (s : Step) × (step_at T k ≡ Some s)) → (ls ks : List Line) → AreMarks T plan looks ls → AreMarks T plan looks ks → ls ≡ ks
  marks_once within there ls ks x y = each_once (IsMark T plan looks) plan.window.from plan.window.to (λ k g lt l m p q.
      let s = there k (omega (arith, lt, within)) in
      mark_once k s.0 l m s.1 p q) ls ks x y

  pub rows_once : plan.window.to ≤ len T → ((k : ℕ) → k < len T → (s : Step) × (step_at T k ≡ Some s)) → (ls ks : List Line) → AreRows T plan looks ls → AreRows T plan looks ks → ls ≡ ks
  rows_once within there ls ks x y = each_once (IsRow T plan looks) plan.window.from plan.window.to (λ k g lt l m p q.
      let s = there k (omega (arith, lt, within)) in
      row_once k s.0 l m s.1 p q) ls ks x y
