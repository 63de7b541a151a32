-- What is shown of a step, and what may be kept of a transactor, is told once.
use Rattle.std.proofs.Common.{◌≡◌, ℕ, zero, suc, ◌+◌, ◌<◌, ◌≤◌, List, ◌++◌, length, Option, Some, None, refl, sym, ap, ◌∙◌, subst, arith}
use Rattle.std.specs.Prelude.{slice_get}
use Rattle.std.proofs.lemmas.List.{length-map}
use Rattle.std.proofs.lemmas.Option.{slice_get_within}
use Rattle.tau_value.specs.declared.shared.Value.{Value}
use Rattle.tau_value.specs.Value.{val_of}
use Rattle.tau_points.specs.declared.point.Point.{Point}
use Rattle.tau_explain.specs.declared.chains.chained.Chained.{Chained}
use Rattle.tau_tree.specs.declared.programs.Program.{Program}
use Rattle.tau_script.specs.Openings.{program_opening}
use Rattle.tau_trace.specs.declared.step.Step.{Step}
use Rattle.tau_trace.specs.declared.step.Step.TheVariants.{Checkpoint}
use Rattle.tau_trace.specs.Run.{Run, len, starts, step_at}
use Rattle.tau_trace.specs.Histories.{Falls}
use Rattle.tau_trace.specs.Points.{point_at}
use Rattle.tau_trace.proofs.Lists.{same_some}
use Rattle.tau_past.specs.States.{SavedWith}
use Rattle.tau_states.specs.Opening.{opening_states}
use Rattle.tau_states.proofs.Uniqueness.{saved_once}
use Rattle.tau_svg.specs.declared.shapes.window.Window.{Window}
use Rattle.tau_layout.specs.declared.lanes.Lane.{Lane}
use Rattle.tau_scene.proofs.Beginnings.{falls_acts}
use Rattle.tau_cut.specs.declared.cut.Marked.{Marked}
use Rattle.tau_cut.specs.Cuts.{IsCut}
use Rattle.tau_scene.specs.Words.Texts.{saves_text, back_text, kept_text, opened_text}
use Rattle.tau_scene.specs.declared.looks.kinds.MarkLook.{MarkLook}
use Rattle.tau_scene.specs.declared.looks.kinds.MarkLook.TheVariants as marks
use Rattle.tau_scene.specs.declared.looks.kinds.EndLook.{EndLook}
use Rattle.tau_scene.specs.declared.looks.kinds.EndLook.TheVariants as ends
use Rattle.tau_scene.specs.declared.looks.looks.StepLook.{StepLook}
use Rattle.tau_scene.specs.declared.looks.looks.Ending.{Ending}
use Rattle.tau_scene.specs.Looks.Kinds.{row_look}
use Rattle.tau_layout.proofs.Once.{same_bool}
use Rattle.tau_scene.specs.Causes.Looks.{IsSavedMark, IsMarkLook, IsUndone, falls_at}
use Rattle.tau_scene.specs.Notes.Notes.{IsSavesText, cause_text, IsCauseText, too_many_steps, no_cause, one_cause, IsBackText, IsFallText, falls, stays, IsNote}
use Rattle.tau_scene.specs.Notes.Endings.{IsEnding}
use Rattle.tau_scene.specs.Notes.Looks.{IsStepLook, AreStepLooks, AreEndings}
use Rattle.tau_picture.proofs.OneCause.{cause_at_once}
use Rattle.tau_picture.proofs.AsShown.{IsAlike, AreAlike, EndAlike}
use Rattle.tau_picture.proofs.OneState.{none_beside}
use Rattle.tau_picture.proofs.EachOnce.{last_same}

-- one transactor falls at a place
faller_once : (T : Run) (t u k : ℕ) → Falls T t k → Falls T u k → t ≡ u
faller_once T t u k a b = same_some (sym (falls_acts T t k a) ∙ falls_acts T u k b)

-- the mark of a Checkpoint

pub kept_mark : (T : Run) (cut : List Marked) (k : ℕ) (p : Point) (b : MarkLook) → IsSavedMark T cut k p marks.Kept → IsSavedMark T cut k p b → marks.Kept ≡ b
kept_mark T cut k p marks.Kept x y = refl
kept_mark T cut k p marks.Broken x y = absurd (y.0 x)
kept_mark T cut k p marks.Unkept x y = absurd (y.0 x)
kept_mark T cut k p b x y = absurd y

broken_mark : (T : Run) (cut : List Marked) (k : ℕ) (p : Point) (b : MarkLook) → IsSavedMark T cut k p marks.Broken → IsSavedMark T cut k p b → marks.Broken ≡ b
broken_mark T cut k p marks.Kept x y = absurd (x.0 y)
broken_mark T cut k p marks.Broken x y = refl
broken_mark T cut k p marks.Unkept x y = absurd (y.1 x.1)
broken_mark T cut k p b x y = absurd y

unkept_mark : (T : Run) (cut : List Marked) (k : ℕ) (p : Point) (b : MarkLook) → IsSavedMark T cut k p marks.Unkept → IsSavedMark T cut k p b → marks.Unkept ≡ b
unkept_mark T cut k p marks.Kept x y = absurd (x.0 y)
unkept_mark T cut k p marks.Broken x y = absurd (x.1 y.1)
unkept_mark T cut k p marks.Unkept x y = refl
unkept_mark T cut k p b x y = absurd y

saved_mark_once : (T : Run) (cut : List Marked) (k : ℕ) (p : Point) (a b : MarkLook) → IsSavedMark T cut k p a → IsSavedMark T cut k p b → a ≡ b
saved_mark_once T cut k p marks.Kept b x y = kept_mark T cut k p b x y
saved_mark_once T cut k p marks.Broken b x y = broken_mark T cut k p b x y
saved_mark_once T cut k p marks.Unkept b x y = unkept_mark T cut k p b x y
saved_mark_once T cut k p a b x y = absurd x

mark_look_once : (T : Run) (cut : List Marked) (k : ℕ) (s : Step) (a b : MarkLook) → IsMarkLook T cut k s a → IsMarkLook T cut k s b → a ≡ b
mark_look_once T cut k (Checkpoint t) a b x y = x.is ∙ saved_mark_once T cut k (point_at T t k) x.saved y.saved (x.saved_is t refl) (y.saved_is t refl) ∙ sym y.is
mark_look_once T cut k s a b x y = x.is ∙ sym y.is

module _ (P : Program) (T : Run) (cut : List Marked) where
  saves_once : (k : ℕ) (s : Step) (a b : List ℕ) → IsSavesText P T k s a → IsSavesText P T k s b → a ≡ b
  saves_once k (Checkpoint t) a b x y = x.2 ∙ ap (λ v. saves_text T.opening.names (val_of v)) (saved_once T (opening_states P.starts) t (point_at T t k).interval x.0 y.0 x.1 y.1) ∙ sym y.2
  saves_once k s a b x y = x ∙ sym y

  cause_text_once : IsCut T cut → (k : ℕ) (s : Step) (a b : List ℕ) → IsCauseText T cut k s a → IsCauseText T cut k s b → a ≡ b
  cause_text_once is k s a b (too_many_steps many e) (too_many_steps more f) = e ∙ sym f
  cause_text_once is k s a b (too_many_steps many e) (no_cause few none f) = e ∙ sym f
  cause_text_once is k s a b (too_many_steps many e) (one_cause chain front last few c g f) = absurd (omega (arith, many, few))
  cause_text_once is k s a b (no_cause few none e) (too_many_steps many f) = e ∙ sym f
  cause_text_once is k s a b (no_cause few none e) (no_cause less other f) = e ∙ sym f
  cause_text_once is k s a b (no_cause few none e) (one_cause chain front last less c g f) = absurd (none chain c)
  cause_text_once is k s a b (one_cause chain front last few c g e) (too_many_steps many f) = absurd (omega (arith, many, few))
  cause_text_once is k s a b (one_cause chain front last few c g e) (no_cause less none f) = absurd (none chain c)
  cause_text_once is k s a b (one_cause chain front last few c g e) (one_cause other begin end less d h f) =
      let same : chain ≡ other = same_some (cause_at_once T cut is k (Some chain) (Some other) c d) in
      let point : last ≡ end = last_same front begin last end (sym g ∙ same ∙ h) in
      e ∙ ap (λ (l : Chained). cause_text T.opening.names s l.point) point ∙ sym f

  back_once : (t i : ℕ) (a b : List ℕ) → IsBackText P T t i a → IsBackText P T t i b → a ≡ b
  back_once t zero a b x y = x ∙ sym y
  back_once t (suc i) a b x y = x.2 ∙ ap (λ v. back_text T.opening.names (val_of v)) (saved_once T (opening_states P.starts) t i x.0 y.0 x.1 y.1) ∙ sym y.2

  fall_once : (k : ℕ) (a b : List ℕ) → IsFallText P T k a → IsFallText P T k b → a ≡ b
  fall_once k a b (falls t f x) (falls u g y) = back_once u (point_at T u k).interval a b (subst (λ (w : ℕ). IsBackText P T w (point_at T w k).interval a) (faller_once T t u k f g) x) y
  fall_once k a b (falls t f x) (stays none e) = absurd (none t f)
  fall_once k a b (stays none e) (falls t f x) = absurd (none t f)
  fall_once k a b (stays none e) (stays other f) = e ∙ sym f

  note_once : IsCut T cut → (k : ℕ) (s : Step) (a b : List ℕ) → IsNote P T cut k s a → IsNote P T cut k s b → a ≡ b
  note_once is k s a b x y =
      let saves : x.saves ≡ y.saves = saves_once k s x.saves y.saves x.saves_is y.saves_is in
      let cause : x.cause ≡ y.cause = cause_text_once is k s x.cause y.cause x.cause_is y.cause_is in
      let back : x.back ≡ y.back = fall_once k x.back y.back x.back_is y.back_is in
      x.is ∙ (λ i. saves i ++ (cause i ++ back i)) ∙ sym y.is

  step_look_once : IsCut T cut → (k : ℕ) (s : Step) (a b : StepLook) → IsStepLook P T cut k s a → IsStepLook P T cut k s b → IsAlike a b
  step_look_once is k s a b x y =
      let mark : a.mark ≡ b.mark = mark_look_once T cut k s a.mark b.mark x.mark_is y.mark_is in
      let undone : a.undone ≡ b.undone = same_bool a.undone b.undone (IsUndone T k) x.undone_is y.undone_is in
      record {
        mark_is = mark;
        row_is = x.row_is ∙ (λ i. row_look s (mark i) (falls_at T k) (undone i)) ∙ sym y.row_is;
        undone_is = undone;
        note_is = note_once is k s a.note.items b.note.items x.note_is y.note_is;
      }

  alike_at : IsCut T cut → (v : Window) → v.to ≤ len T → ((k : ℕ) → k < len T → (s : Step) × (step_at T k ≡ Some s)) → (xs ys : List StepLook) → AreStepLooks P T v cut xs → AreStepLooks P T v cut ys
      → (row : ℕ) (o q : Option StepLook) → slice_get xs row ≡ o → slice_get ys row ≡ q → AreAlike o q
  alike_at is v within there xs ys x y row None None e f = tt
  alike_at is v within there xs ys x y row None (Some b) e f = absurd (none_beside ys xs row b (y.count_is ∙ sym x.count_is) f e)
  alike_at is v within there xs ys x y row (Some a) None e f = absurd (none_beside xs ys row a (x.count_is ∙ sym y.count_is) e f)
  alike_at is v within there xs ys x y row (Some a) (Some b) e f =
      let lt : row < length xs = slice_get_within xs row a e in
      let s = there (v.from + row) (omega (arith, lt, x.count_is, within)) in
      step_look_once is (v.from + row) s.0 a b (x.each row s.0 a s.1 e) (y.each row s.0 b s.1 f)

  pub steps_alike : IsCut T cut → (v : Window) → v.to ≤ len T → ((k : ℕ) → k < len T → (s : Step) × (step_at T k ≡ Some s)) → (xs ys : List StepLook) → AreStepLooks P T v cut xs → AreStepLooks P T v cut ys
      → (row : ℕ) → AreAlike (slice_get xs row) (slice_get ys row)
  steps_alike is v within there xs ys x y row = alike_at is v within there xs ys x y row (slice_get xs row) (slice_get ys row) refl refl

  -- what may be kept

  no_start : T.opening ≡ program_opening P → (t : ℕ) (v : Value) → slice_get (opening_states P.starts) t ≡ Some v → ¬ (starts T ≤ t)
  no_start o t v e le =
      let some : t < length (opening_states P.starts) = slice_get_within (opening_states P.starts) t v e in
      omega (arith, some, le, length-map P.starts (λ s. s.state), length-map P.starts (λ s. s.name), ap (λ x. length x.names) o)

  ending_once : T.opening ≡ program_opening P → (t : ℕ) (a b : EndLook) (v w : List ℕ) → IsEnding P T cut t a v → IsEnding P T cut t b w → (a ≡ b) × (v ≡ w)
  ending_once o t ends.Kept ends.Kept v w x y =
      let same : x.0 ≡ y.0 = omega (arith, x.2.last y.0 y.2.keeps, y.2.last x.0 x.2.keeps) in
      let value : x.1 ≡ y.1 = saved_once T (opening_states P.starts) t (point_at T t y.0).interval x.1 y.1 (subst (λ (k : ℕ). SavedWith T (opening_states P.starts) t (point_at T t k).interval x.1) same x.3) y.3 in
      (refl, x.4 ∙ (λ i. kept_text T.opening.names (val_of (value i)) (same i)) ∙ sym y.4)
  ending_once o t ends.Kept ends.First v w x y = absurd (y.0 x.0 x.2.keeps)
  ending_once o t ends.Kept ends.None v w x y = absurd (y.0 x.0 x.2.keeps)
  ending_once o t ends.First ends.Kept v w x y = absurd (x.0 y.0 y.2.keeps)
  ending_once o t ends.First ends.First v w x y = (refl, x.3 ∙ ap (λ z. opened_text T.opening.names (val_of z)) (same_some (sym x.2 ∙ y.2)) ∙ sym y.3)
  ending_once o t ends.First ends.None v w x y = absurd (no_start o t x.1 x.2 y.1)
  ending_once o t ends.None ends.Kept v w x y = absurd (x.0 y.0 y.2.keeps)
  ending_once o t ends.None ends.First v w x y = absurd (no_start o t y.1 y.2 x.1)
  ending_once o t ends.None ends.None v w x y = (refl, x.2 ∙ sym y.2)

  ends_at : T.opening ≡ program_opening P → (lanes : List Lane) (xs ys : List Ending) → AreEndings P T lanes cut xs → AreEndings P T lanes cut ys
      → (rank : ℕ) (l : Option Lane) (o q : Option Ending) → slice_get lanes rank ≡ l → slice_get xs rank ≡ o → slice_get ys rank ≡ q → EndAlike o q
  ends_at p lanes xs ys x y rank l None None d e f = tt
  ends_at p lanes xs ys x y rank l None (Some b) d e f = absurd (none_beside ys xs rank b (y.count_is ∙ sym x.count_is) f e)
  ends_at p lanes xs ys x y rank l (Some a) None d e f = absurd (none_beside xs ys rank a (x.count_is ∙ sym y.count_is) e f)
  ends_at p lanes xs ys x y rank None (Some a) (Some b) d e f = absurd (none_beside xs lanes rank a x.count_is e d)
  ends_at p lanes xs ys x y rank (Some l) (Some a) (Some b) d e f = ending_once p l.who a.look b.look a.text.items b.text.items (x.each rank l a d e) (y.each rank l b d f)

  pub ends_alike : T.opening ≡ program_opening P → (lanes : List Lane) (xs ys : List Ending) → AreEndings P T lanes cut xs → AreEndings P T lanes cut ys → (rank : ℕ) → EndAlike (slice_get xs rank) (slice_get ys rank)
  ends_alike p lanes xs ys x y rank = ends_at p lanes xs ys x y rank (slice_get lanes rank) (slice_get xs rank) (slice_get ys rank) refl refl refl
