-- The messages that drawn steps receive or lose, step by step.
use Rattle.std.proofs.Common.{◌≡◌, ◌⊎◌, ◌↔◌, inl, inr, ⊎_elim, ℕ, ◌+◌, ◌<◌, ◌≤◌, Bool, false, List, Option, Some, None, sym, ap, ◌∙◌, subst, arith}
use Rattle.std.specs.Prelude.{IsTrue, slice_get, option_and_then}
use Rattle.tau_trace.specs.Run.{Run, step_at}
use Rattle.tau_trace.proofs.Lists.{same_some}
use Rattle.tau_svg.specs.declared.shapes.window.Window.{Window}
use Rattle.tau_svg.specs.Shapes.Windows.{IsDrawn}
use Rattle.tau_layout.specs.Inner.Marking.{IsMarked, Marks, AreMarks}
use Rattle.tau_layout.proofs.LaneLemmas.{marks_as}
use Rattle.tau_layout.specs.Paths.Senders.{met_by}
use Rattle.tau_drawing.specs.Messages.Messages.{Meets, IsMet}
use Rattle.tau_drawing.specs.Messages.Inner.Meetings.{IsMetBefore}

pub at_or_before : (j k : ℕ) → j < k + 1 → (j ≡ k) ⊎ (j < k)
at_or_before j k l = grind arith

-- the mark by an answer on the step's message
pub marks_met : (T : Run) (k : ℕ) (r : Option ℕ) (old new : List Bool) → r ≡ option_and_then met_by (step_at T k) → Marks (λ m. r ≡ Some m) old new → Marks (Meets T k) old new
marks_met T k r old new e m = marks_as (λ n. r ≡ Some n) (Meets T k) old new (λ n h. sym e ∙ h) (λ n h. e ∙ h) m

pub meetings_next : (T : Run) (v : Window) (k n : ℕ) (old new : List Bool) → IsDrawn v k → AreMarks (IsMetBefore T v k) n old → Marks (Meets T k) old new → AreMarks (IsMetBefore T v (k + 1)) n new
meetings_next T v k n old new d a m = record {
  count_is = m.count ∙ a.count_is;
  marked = λ t. (to t, from t);
} where
  to : (t : ℕ) → IsMarked new t → IsMetBefore T v (k + 1) t × (t < n)
  to t h = ⊎_elim
      (λ o. let p = (a.marked t).0 o in (record { is = p.0.is; before = omega (arith, p.0.before) }, p.1))
      (λ s. (record { is = record { place = k; drawn = d; meets = s.0 }; before = omega arith }, omega (arith, s.1, a.count_is)))
      ((m.marked t).0 h)

  from : (t : ℕ) → IsMetBefore T v (k + 1) t × (t < n) → IsMarked new t
  from t p = (m.marked t).1 (⊎_elim
      (λ e. inr (subst (λ j. Meets T j t) e p.0.is.meets, omega (arith, p.1, a.count_is)))
      (λ l. inl ((a.marked t).1 (record { is = p.0.is; before = l }, p.1)))
      (at_or_before p.0.is.place k p.0.before))

pub meetings_end : (T : Run) (v : Window) (k n : ℕ) (marks : List Bool) → v.to ≤ k → AreMarks (IsMetBefore T v k) n marks → AreMarks (IsMet T v) n marks
meetings_end T v k n marks l a = record {
  count_is = a.count_is;
  marked = λ t. (
    λ h. let p = (a.marked t).0 h in (p.0.is, p.1),
    λ p. (a.marked t).1 (record { is = p.0; before = omega (arith, p.0.drawn.1) }, p.1),
  );
}

-- the truth of a mark
pub mark_told : (marks : List Bool) (m : ℕ) (b : Bool) → slice_get marks m ≡ Some b → IsTrue b ↔ IsMarked marks m
mark_told marks m b e = (λ h. e ∙ ap Some h, λ h. same_some (sym e ∙ h))
