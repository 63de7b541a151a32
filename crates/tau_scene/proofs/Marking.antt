-- The looks of the marks and rows of steps.
use Rattle.std.proofs.Common.{◌≡◌, ◌↔◌, ⊎_elim, ℕ, ◌+◌, ◌-◌, ◌≤◌, Bool, true, false, IsTrue, List, [], ◌∷◌, ◌++◌, length, Option, Some, None, refl, sym, ap, ◌∙◌, subst, arith}
use Rattle.std.specs.Prelude.{Contains, slice_get, IsFalse, option_and_then}
use Rattle.std.specs.Option.{option_map_or}
use Rattle.std.proofs.lemmas.Option.{slice_get_within}
use Rattle.tau_history.specs.Timeline.{Move, keep, stabilize, close, fall}
use Rattle.tau_points.specs.declared.point.Point.{Point}
use Rattle.tau_trace.specs.declared.step.Step.{Step}
use Rattle.tau_trace.specs.declared.step.Step.TheVariants.{Checkpoint}
use Rattle.tau_trace.specs.Steps.{actor}
use Rattle.tau_trace.specs.Run.{Run, step_at}
use Rattle.tau_trace.specs.Histories.{Falls, move_at, is_fall}
use Rattle.tau_trace.specs.Points.{point_at}
use Rattle.tau_trace.proofs.Lists.{same_some}
use Rattle.tau_trace.proofs.Quiet.{acts}
use Rattle.tau_past.specs.declared.made.Made.{Made}
use Rattle.tau_past.specs.Audits.{ChecksAt}
use Rattle.tau_past.specs.Safety.{RolledBack}
use Rattle.tau_past.specs.Tables.{TellsMade}
use Rattle.tau_explain.specs.Links.Marks.{IsMarked}
use Rattle.tau_scene.proofs.Collecting.{longer}
use Rattle.tau_trace.proofs.Lists.{slice_get-push_cases}
use Rattle.tau_cut.specs.declared.cut.Marked.{Marked}
use Rattle.tau_svg.specs.declared.shapes.window.Window.{Window}
use Rattle.tau_scene.specs.Looks.Kinds.{mark_look, row_look}
use Rattle.tau_scene.specs.declared.causes.marks.StepMark.{StepMark}
use Rattle.tau_scene.specs.Causes.Looks.{RestsOnFallen, falls_at, IsSavedMark, IsUndone, IsStepMark, AreStepMarks}
use Rattle.tau_scene.specs.Causes.Inner.Resting.{AreGrounds, ChecksBetween}
use Rattle.tau_scene.specs.Causes.Inner.Showing.{saved_mark, made_falls, IsLeftIn, IsMadeIn, IsMarkedStep, AreMarkedSteps}

-- whether a step falls
bool_same : (a b : Bool) → (IsTrue a ↔ IsTrue b) → a ≡ b
bool_same true true f = refl
bool_same true false f = sym (f.0 refl)
bool_same false true f = f.1 refl
bool_same false false f = refl

is_fall_of : (m : Move) → IsTrue (is_fall m) ↔ (m ≡ fall)
is_fall_of fall = (λ e. refl, λ e. refl)
is_fall_of keep = (λ e. absurd (cc), λ e. absurd (cc))
is_fall_of stabilize = (λ e. absurd (cc), λ e. absurd (cc))
is_fall_of close = (λ e. absurd (cc), λ e. absurd (cc))

falls_none : (T : Run) (k : ℕ) (o : Option ℕ) → option_and_then actor (step_at T k) ≡ o → ((t : ℕ) → ¬ (o ≡ Some t)) → option_map_or (λ t. is_fall (move_at T t k)) o false ≡ false
falls_none T k None e none = refl
falls_none T k (Some t) e none = absurd (none t refl)

pub falls_told : (T : Run) (k : ℕ) (made : Option Made) → TellsMade T k made → falls_at T k ≡ made_falls made
falls_told T k None told = falls_none T k (option_and_then actor (step_at T k)) refl told
falls_told T k (Some m) told =
    let here : falls_at T k ≡ is_fall (move_at T m.point.who k) = ap (λ o. option_map_or (λ t. is_fall (move_at T t k)) o false) told.0 in
    let f = is_fall_of (move_at T m.point.who k) in
    here ∙ bool_same (is_fall (move_at T m.point.who k)) m.falls (λ e. told.2.1 (f.0 e), λ e. f.1 (told.2.0 e))

not_true : (b : Bool) → IsFalse b → ¬ IsTrue b
not_true true f t = absurd (cc)
not_true false f t = absurd (cc)

is_false : (b : Bool) → ¬ IsTrue b → IsFalse b
is_false true never = absurd (never refl)
is_false false never = refl

module _ (T : Run) (cut : List Marked) (points : List Point) (fallen : List Point) (kept : List Bool) (resting : List Point) (g : AreGrounds T cut points fallen kept resting) (k : ℕ) where
  -- whether it is undone
  undone_told : (made : Option Made) → TellsMade T k made → IsLeftIn fallen made ↔ IsUndone T k
  undone_told None none = (λ f. absurd f, λ u. absurd (none u.by u.acts))
  undone_told (Some m) told = (
    λ h. record {
      by = m.point.who;
      acts = told.0;
      stays = λ f. not_true m.falls h.0 (told.2.1 f);
      rolled_back = subst (RolledBack T) told.1 ((g.fallen_are m.point).0 h.1);
    },
    λ u.
        let who : m.point.who ≡ u.by = same_some (sym told.0 ∙ u.acts) in
        let at : m.point ≡ point_at T u.by k = told.1 ∙ ap (λ t. point_at T t k) who in (
          is_false m.falls (λ f. u.stays (subst (λ t. Falls T t k) who (told.2.0 f))),
          (g.fallen_are m.point).1 (subst (RolledBack T) (sym at) u.rolled_back),
        ),
  )

  -- the mark of a Checkpoint
  saved_told : (p : Point) (b r : Bool) → (IsTrue b ↔ IsMarked kept k) → (IsTrue r ↔ RestsOnFallen T p) → IsSavedMark T cut k p (saved_mark b r)
  saved_told p true r keeps rests = (g.kept_are k).1 (keeps.0 refl)
  saved_told p false true keeps rests = ((λ h. let f = keeps.1 ((g.kept_are k).0 h) in cc), rests.0 refl)
  saved_told p false false keeps rests = ((λ h. let f = keeps.1 ((g.kept_are k).0 h) in cc), (λ x. let f = rests.1 x in cc))

  rests_told : (t : ℕ) (made : Option Made) (r : Bool) → step_at T k ≡ Some (Checkpoint t) → TellsMade T k made → ((p : Point) → ChecksAt T k p → Contains points p) → (IsTrue r ↔ IsMadeIn resting made) → IsTrue r ↔ RestsOnFallen T (point_at T t k)
  rests_told t None r e none asked has = absurd (none t (acts T t k (Checkpoint t) e refl))
  rests_told t (Some m) r e told asked has =
      let who : m.point.who ≡ t = same_some (sym told.0 ∙ acts T t k (Checkpoint t) e refl) in
      let at : m.point ≡ point_at T t k = told.1 ∙ ap (λ u. point_at T u k) who in
      let rests = g.resting_are m.point (asked m.point (record { by = t; closes = e; at_point = at })) in (
        λ f. subst (RestsOnFallen T) at (rests.0 (has.0 f)),
        λ x. has.1 (rests.1 (subst (RestsOnFallen T) (sym at) x)),
      )

  pub step_marked : (s : Step) (made : Option Made) (b r left : Bool) (x : StepMark) → step_at T k ≡ Some s → TellsMade T k made → ((p : Point) → ChecksAt T k p → Contains points p)
      → (IsTrue b ↔ IsMarked kept k) → (IsTrue r ↔ IsMadeIn resting made) → (IsTrue left ↔ IsLeftIn fallen made)
      → x.mark ≡ mark_look s (made_falls made) (saved_mark b r) → x.row ≡ row_look s x.mark (made_falls made) left → x.undone ≡ left → x.falls ≡ made_falls made → IsStepMark T cut k s x
  step_marked s made b r left x e told asked keeps rests undone mark_is row_is undone_is falls_is =
      let falls : falls_at T k ≡ made_falls made = falls_told T k made told in
      let both = undone_told made told in
      record {
        falls_is = falls_is ∙ sym falls;
        mark_is = record {
          saved = saved_mark b r;
          saved_is = λ t (f : s ≡ Checkpoint t). let at = e ∙ ap (λ (z : Step). Some z) f in saved_told (point_at T t k) b r keeps (rests_told t made r at told asked rests);
          is = mark_is ∙ ap (λ c. mark_look s c (saved_mark b r)) (sym falls);
        };
        undone_is = (
          λ f. both.0 (undone.0 (sym undone_is ∙ f)),
          λ u. undone_is ∙ undone.1 (both.1 u),
        );
        row_is = row_is ∙ ap (λ c. row_look s x.mark c left) (sym falls) ∙ ap (row_look s x.mark (falls_at T k)) (sym undone_is);
      }

-- all drawn steps
pub steps_marked : (T : Run) (v : Window) (cut : List Marked) (points : List Point) (fallen : List Point) (kept : List Bool) (resting : List Point) (marks : List StepMark) → AreGrounds T cut points fallen kept resting → AreMarkedSteps T fallen kept resting v.from (v.to - v.from) marks → ((p : Point) → ChecksBetween T v.from v.to p → Contains points p) → AreStepMarks T v cut marks
steps_marked T v cut points fallen kept resting marks g are asked = record {
  count_is = are.count_is;
  each = λ row s x e f.
      let lt = slice_get_within marks row x f in
      are.each row s x e f cut points g (λ p c. asked p (record { place = v.from + row; least = omega arith; most = omega (arith, lt, are.count_is); checks = c }));
}

-- steps, one by one
pub marked_next : (T : Run) (fallen : List Point) (kept : List Bool) (resting : List Point) (from k : ℕ) (s : Step) (x : StepMark) (old new : List StepMark) → from ≤ k → AreMarkedSteps T fallen kept resting from (k - from) old → new ≡ old ++ x ∷ [] → step_at T k ≡ Some s → IsMarkedStep T fallen kept resting k s x → AreMarkedSteps T fallen kept resting from ((k + 1) - from) new
marked_next T fallen kept resting from k s x old new le h is at here = record {
  count_is = omega (arith, longer old new x (k - from) h.count_is is, le);
  each = λ row t y e f. ⊎_elim
      (λ older. h.each row t y e older)
      (λ newer.
      let place : from + row ≡ k = omega (arith, newer.0, h.count_is, le) in
      let same : s ≡ t = same_some (sym at ∙ ap (step_at T) (sym place) ∙ e) in
      subst (λ n. IsMarkedStep T fallen kept resting n t y) (sym place) (subst (λ z. IsMarkedStep T fallen kept resting k z y) same (subst (IsMarkedStep T fallen kept resting k s) newer.1 here)))
      (slice_get-push_cases old x y row (sym (ap (λ (l : List StepMark). slice_get l row) is) ∙ f));
}

pub marked_none : (T : Run) (fallen : List Point) (kept : List Bool) (resting : List Point) (from : ℕ) (marks : List StepMark) → marks ≡ [] → AreMarkedSteps T fallen kept resting from (from - from) marks
marked_none T fallen kept resting from marks is = record {
  count_is = omega (arith, ap (λ (l : List StepMark). length l) is);
  each = λ row s x e f. let g = ap (λ (l : List StepMark). slice_get l row) (sym is) ∙ f in absurd (cc);
}
