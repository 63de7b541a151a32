-- One mark for each drawn step, by place.
use Rattle.std.proofs.Common.{◌≡◌, ⊎_elim, ℕ, ◌+◌, ◌-◌, ◌<◌, ◌≤◌, List, [], ◌∷◌, ◌++◌, length, Some, length-append, sym, ap, ◌∙◌, subst, arith}
use Rattle.std.specs.Prelude.{slice_get}
use Rattle.tau_svg.specs.Markup.Lines.{Line}
use Rattle.tau_trace.specs.Run.{Run}
use Rattle.tau_trace.proofs.Lists.{slice_get-front, slice_get-last}
use Rattle.tau_svg.specs.Shapes.Each.{EachPlace, no_place, next_place}
use Rattle.tau_layout.specs.Plans.{Plan}
use Rattle.tau_scene.proofs.Beginnings.{cases_lt}
use Rattle.tau_scene.specs.declared.looks.looks.StepLook.{StepLook}
use Rattle.tau_layout.specs.declared.paths.spots.Spot.{Spot}
use Rattle.tau_layout.specs.Paths.Spots.{IsSpot}
use Rattle.tau_drawing.specs.Marks.Marks.{HasLook, mark_line, IsMark, AreMarks}
use Rattle.tau_picture.specs.Laws.{AreMarksOfSteps, MarksAreTheSteps}

module _ (T : Run) (plan : Plan) (looks : List StepLook) where
  counted : (a b : ℕ) (ls : List Line) → EachPlace (IsMark T plan looks) a b ls → length ls + a ≡ b
  counted a b ls no_place = omega arith
  counted a b ls (next_place {b = c} {ls = l} {ks = m} x p) = omega (arith, counted a c l x, length-append l m, ap length p.4)

  -- the mark of the step at place k is one of the marks of the steps from place a on
  abbrev Marked : ℕ → List Line → ℕ → Type 0
  Marked a ls k = (look : StepLook) × (p : Spot) × HasLook plan looks k look × IsSpot T plan k p × (slice_get ls (k - a) ≡ Some (mark_line T k look p))

  marked_before : (a c k : ℕ) (l m : List Line) → length l + a ≡ c → a ≤ k → k < c → IsMark T plan looks c m → Marked a l k → Marked a (l ++ m) k
  marked_before a c k l m size le lt p r =
      let line = mark_line T c p.0 p.1 in
      (r.0, r.1, r.2, r.3, ap (λ z. slice_get (l ++ z) (k - a)) p.4 ∙ sym (slice_get-front l line (k - a) (omega (arith, size, le, lt))) ∙ r.4)

  marked_last : (a c : ℕ) (l m : List Line) → length l + a ≡ c → IsMark T plan looks c m → Marked a (l ++ m) c
  marked_last a c l m size p =
      let line = mark_line T c p.0 p.1 in
      let at : c - a ≡ length l = omega (arith, size) in
      (p.0, p.1, p.2, p.3, ap (λ z. slice_get (l ++ z) (c - a)) p.4 ∙ ap (slice_get (l ++ line ∷ [])) at ∙ slice_get-last l line)

  marked_each : (a b : ℕ) (ls : List Line) → EachPlace (IsMark T plan looks) a b ls → (k : ℕ) → a ≤ k → k < b → Marked a ls k
  marked_each a b ls no_place k le lt = absurd (omega (arith, le, lt))
  marked_each a b ls (next_place {b = c} {ls = l} {ks = m} x p) k le lt = ⊎_elim
      (λ under. marked_before a c k l m (counted a c l x) le under p (marked_each a c l x k le under))
      (λ over. let same : c ≡ k = omega (arith, over, lt) in subst (Marked a (l ++ m)) same (marked_last a c l m (counted a c l x) p))
      (cases_lt k c)

  marks_of_steps : (ls : List Line) → AreMarks T plan looks ls → AreMarksOfSteps T plan looks ls
  marks_of_steps ls x = record {
    count_is = omega (arith, counted plan.window.from plan.window.to ls x);
    each = λ k d. marked_each plan.window.from plan.window.to ls x k d.0 d.1;
  }

pub marks_are_the_steps : MarksAreTheSteps
marks_are_the_steps P T from to ask lines picture = marks_of_steps T picture.plan picture.looks.steps.items picture.marks picture.marks_are
