-- The notes of steps.
use Rattle.std.proofs.Common.{◌≡◌, ◌↔◌, inl, inr, ⊎_elim, ℕ, zero, suc, ◌+◌, ◌-◌, ◌<◌, ◌≤◌, Bool, true, false, IsTrue, List, [], ◌∷◌, ◌++◌, length, length-append, take, Option, Some, None, refl, sym, ap, ◌∙◌, subst, arith}
use Rattle.std.specs.Prelude.{slice_get, option_and_then}
use Rattle.std.specs.Option.{option_map_or}
use Rattle.std.proofs.lemmas.Bool.{cases_lt}
use Rattle.std.proofs.lemmas.List.{take_more, take_all}
use Rattle.std.proofs.lemmas.Option.{slice_get_within, slice_get_cases, get_or_from_slice_get}
use Rattle.tau_value.specs.declared.shared.Value.{Value}
use Rattle.tau_history.specs.Timeline.{interval, Move, keep, stabilize, close, fall}
use Rattle.tau_explain.specs.declared.chains.chained.Chained.{Chained}
use Rattle.tau_tree.specs.declared.programs.Program.{Program}
use Rattle.tau_trace.specs.declared.step.Step.{Step}
use Rattle.tau_trace.specs.declared.step.Step.TheVariants.{Checkpoint}
use Rattle.tau_trace.specs.Steps.{actor}
use Rattle.tau_trace.specs.Run.{Run, len, step_at, ActsAt}
use Rattle.tau_trace.specs.Histories.{history, Falls, move_at, is_fall}
use Rattle.tau_trace.specs.Known.{WellFormed}
use Rattle.tau_trace.proofs.Lists.{same_some, slice_get-push_cases}
use Rattle.tau_trace.proofs.Quiet.{acts}
use Rattle.tau_past.specs.States.{SavedWith}
use Rattle.tau_past.proofs.Endings.{falls_within}
use Rattle.tau_states.specs.declared.state_record.StateRecord.{StateRecord}
use Rattle.tau_states.specs.Opening.{opening_states}
use Rattle.tau_states.specs.Table.{Holds}
use Rattle.tau_explain.specs.Links.Links.{IsTold}
use Rattle.tau_cut.specs.declared.cut.Marked.{Marked}
use Rattle.tau_cut.specs.declared.cut.Marked.TheVariants.{Out}
use Rattle.tau_cut.specs.Cuts.{IsCut}
use Rattle.tau_cut.proofs.MarkLemmas.{place_at}
use Rattle.tau_scene.specs.Causes.Causes.{IsCause, IsCauseAt}
use Rattle.tau_svg.specs.declared.shapes.window.Window.{Window}
use Rattle.tau_scene.specs.declared.looks.looks.StepLook.{StepLook}
use Rattle.tau_scene.specs.Looks.Kinds.{row_look}
use Rattle.tau_scene.specs.declared.causes.marks.StepMark.{StepMark}
use Rattle.tau_scene.specs.Causes.Looks.{falls_at, IsMarkLook, IsUndone, IsStepMark, AreStepMarks}
use Rattle.tau_scene.specs.Notes.Looks.{IsStepLook, AreStepLooks}
use Rattle.tau_scene.specs.Notes.Notes.{IsSavesText, cause_text, IsCauseText, too_many_steps, no_cause, one_cause, IsBackText, IsFallText, falls, stays, IsNote}
use Rattle.tau_scene.specs.Notes.Inner.Noting.{first_steps, IsCauseOf, saved_part, cause_part, fall_text, fall_part, note_text, IsSavedBy, IsNoteBy, IsLookBy, AreLooksTo}
use Rattle.tau_scene.proofs.Saving.{TellsSaved, told_behind, closes_more, falls_same}

-- the last of a list
ends_with : {A : Type 0} (xs : List A) (x : A) → slice_get xs (length xs - 1) ≡ Some x → xs ≡ take (length xs - 1) xs ++ x ∷ []
ends_with xs x e =
    let lt = slice_get_within xs (length xs - 1) x e in
    let n : length xs - 1 + 1 ≡ length xs = omega (arith, lt) in
    sym (take_all (length xs) xs (omega arith)) ∙ ap (λ m. take m xs) (sym n) ∙ take_more xs (length xs - 1) x lt ∙ ap (λ z. take (length xs - 1) xs ++ z ∷ []) (get_or_from_slice_get xs (length xs - 1) x x e)

has_last : {A : Type 0} (xs : List A) → ¬ (xs ≡ []) → (x : A) × (slice_get xs (length xs - 1) ≡ Some x)
has_last [] none = absurd (none refl)
has_last (y ∷ ys) none = ⊎_elim (λ x. (x.0, x.2)) (λ x. absurd (omega (arith, x.0))) (slice_get_cases (y ∷ ys) (length (y ∷ ys) - 1)).1

-- a move that is a fall
fall_of : (m : Move) → is_fall m ≡ true → m ≡ fall
fall_of fall e = refl
fall_of keep e = absurd (cc)
fall_of stabilize e = absurd (cc)
fall_of close e = absurd (cc)

-- a chain that is told has a point
told_filled : (T : Run) (H : ℕ → Type 0) (chain : List Chained) → IsTold T H chain → ¬ (chain ≡ [])
told_filled T H [] told e = told
told_filled T H (c ∷ cs) told e = absurd (cc)

module _ (T : Run) (cut : List Marked) (is : IsCut T cut) (k : ℕ) where
  cause_filled : (chain : List Chained) → IsCause T cut k chain → ¬ (chain ≡ [])
  cause_filled chain (inl w) e = told_filled T _ chain w.2.told e
  cause_filled chain (inr o) e =
      let checks = (is.all k).0 (place_at cut (Out k chain) o) in
      told_filled T _ chain (is.out k checks.0 chain o checks.1).told e

  -- the cause
  chain_said : (s : Step) (chain : List Chained) → len T ≤ 4000 → IsCause T cut k chain → IsCauseText T cut k s (cause_part T.opening.names s (Some chain))
  chain_said s chain few c =
      let last = has_last chain (cause_filled chain c) in
      one_cause chain (take (length chain - 1) chain) last.0 few c (ends_with chain last.0 last.1)
      (ap (λ o. option_map_or (λ (x : Chained). cause_text T.opening.names s x.point) o []) last.1)

  few_said : (s : Step) (o : Option (List Chained)) → len T ≤ 4000 → IsCauseAt T cut k o → IsCauseText T cut k s (cause_part T.opening.names s o)
  few_said s None few none = no_cause few none refl
  few_said s (Some chain) few c = chain_said s chain few c

  cause_said : (s : Step) (o : Option (List Chained)) → IsCauseOf T cut k o → IsCauseText T cut k s (cause_part T.opening.names s o)
  cause_said s o c = ⊎_elim
      (λ many. too_many_steps many (ap (cause_part T.opening.names s) (c.many many)))
      (λ few. few_said s o few (c.few few))
      (cases_lt 4000 (len T))

module _ (P : Program) (T : Run) (w : WellFormed T) (k : ℕ) (lt : k < len T) where
  -- what a Checkpoint saves
  checkpoint_said : (t : ℕ) (o : Option Value) → step_at T k ≡ Some (Checkpoint t) → TellsSaved T (opening_states P.starts) t (suc k) o → IsSavesText P T k (Checkpoint t) (saved_part T.opening.names (Checkpoint t) o)
  checkpoint_said t None e none = absurd (omega (arith, none, closes_more T t k e))
  checkpoint_said t (Some v) e told =
      let same : told.0 ≡ interval (history T t k) = omega (arith, told.1, closes_more T t k e) in
      (v, subst (λ i. SavedWith T (opening_states P.starts) t i v) same told.2, refl)

  saves_said : (s : Step) (o : Option Value) → step_at T k ≡ Some s → ((t : ℕ) → actor s ≡ Some t → TellsSaved T (opening_states P.starts) t (suc k) o) → IsSavesText P T k s (saved_part T.opening.names s o)
  saves_said (Checkpoint t) o e told = checkpoint_said t o e (told t refl)
  saves_said s o e told = refl

  -- to what a falling step leads back
  back_said : (t i : ℕ) (o : Option Value) → interval (history T t (suc k)) ≡ i → TellsSaved T (opening_states P.starts) t (suc k) o → IsBackText P T t i (fall_text T.opening.names o)
  back_said t zero None e none = refl
  back_said t (suc i) None e none = absurd (omega (arith, e, none))
  back_said t zero (Some v) e told = absurd (omega (arith, e, told.1))
  back_said t (suc i) (Some v) e told = (v, subst (λ n. SavedWith T (opening_states P.starts) t n v) (omega (arith, e, told.1)) told.2, refl)

  by_actor : (t : ℕ) (b : Bool) (o : Option Value) → ActsAt T t k → b ≡ is_fall (move_at T t k) → TellsSaved T (opening_states P.starts) t (suc k) o → IsFallText P T k (fall_part T.opening.names b o)
  by_actor t true o a e told =
      let f : Falls T t k = fall_of (move_at T t k) (sym e) in
      falls t f (back_said t (interval (history T t k)) o (falls_same T t k f) told)
  by_actor t false o a e told = stays (λ u f.
      let who : u ≡ t = same_some (sym (falls_within T u k f).1 ∙ a) in
      let g = e ∙ ap is_fall (subst (λ x. Falls T x k) who f) in cc) refl

  falls_said : (actor_at : Option ℕ) (b : Bool) (o : Option Value) → option_and_then actor (step_at T k) ≡ actor_at → b ≡ option_map_or (λ t. is_fall (move_at T t k)) actor_at false → ((t : ℕ) → ActsAt T t k → TellsSaved T (opening_states P.starts) t (suc k) o) → IsFallText P T k (fall_part T.opening.names b o)
  falls_said None true o e is told = absurd (cc)
  falls_said None false o e is told = stays (λ t f. let g = sym e ∙ (falls_within T t k f).1 in cc) refl
  falls_said (Some t) b o e is told = by_actor t b o e is (told t e)

  pub note_said : (cut : List Marked) (s : Step) (b : Bool) (o : Option Value) (cause : Option (List Chained)) (records : List StateRecord) (note : List ℕ) → IsCut T cut → step_at T k ≡ Some s → IsCauseOf T cut k cause
      → ((opening : List Value) → Holds (first_steps T (k + 1)) opening records → IsSavedBy (first_steps T (k + 1)) opening s o) → note ≡ note_text T.opening.names s b o cause
      → b ≡ falls_at T k → Holds (first_steps T (k + 1)) (opening_states P.starts) records → IsNote P T cut k s note
  note_said cut s b o cause records note is e caused saved text told_falls h =
      let values = opening_states P.starts in
      let told : (t : ℕ) → actor s ≡ Some t → TellsSaved T values t (suc k) o = λ t by. told_behind T w values k t o (acts T t k s e by) lt (saved values h t by) in
      record {
        saves = saved_part T.opening.names s o;
        saves_is = saves_said s o e told;
        cause = cause_part T.opening.names s cause;
        cause_is = cause_said T cut is k s cause caused;
        back = fall_part T.opening.names b o;
        back_is = falls_said (option_and_then actor (step_at T k)) b o refl told_falls (λ t a. told t (acted t a));
        is = text;
      }
    where
      acted : (t : ℕ) → ActsAt T t k → actor s ≡ Some t
      acted t a = sym (ap (option_and_then actor) e) ∙ a

-- what is shown of the steps, one by one
pub looks_none : (P : Program) (T : Run) (from : ℕ) (cut : List Marked) (looks : List StepLook) → looks ≡ [] → AreLooksTo P T from from cut looks
looks_none P T from cut looks is = record {
  count_is = omega (arith, ap (λ (l : List StepLook). length l) is);
  each = λ row s x e f. let g = ap (λ (l : List StepLook). slice_get l row) (sym is) ∙ f in absurd (cc);
}

pub looks_next : (P : Program) (T : Run) (v : Window) (cut : List Marked) (k : ℕ) (marks : List StepMark) (mark : StepMark) (look : StepLook) (records : List StateRecord) (old new : List StepLook) → v.from ≤ k → k < v.to → AreStepMarks T v cut marks → slice_get marks (k - v.from) ≡ Some mark
    → Holds (first_steps T (k + 1)) (opening_states P.starts) records → IsLookBy T cut k mark records look → new ≡ old ++ look ∷ [] → AreLooksTo P T v.from k cut old → AreLooksTo P T v.from (k + 1) cut new
looks_next P T v cut k marks mark look records old new le lt are at h by is before = record {
  count_is = omega (arith, ap (λ (l : List StepLook). length l) is, length-append old (look ∷ []), before.count_is, le);
  each = λ row s x e f. ⊎_elim
      (λ older. before.each row s x e older)
      (λ newer.
      let place : k ≡ v.from + row = omega (arith, newer.0, before.count_is, le) in
      let here : row ≡ k - v.from = omega (arith, place) in
      let stands : step_at T k ≡ Some s = ap (step_at T) place ∙ e in
      let marked : IsStepMark T cut k s mark = subst (λ n. IsStepMark T cut n s mark) (sym place) (are.each row s mark e (ap (slice_get marks) here ∙ at)) in
      subst (λ n. IsStepLook P T cut n s x) place (subst (IsStepLook P T cut k s) newer.1 (by P s stands h marked)))
      (slice_get-push_cases old look x row (sym (ap (λ (l : List StepLook). slice_get l row) is) ∙ f));
}

pub looks_all : (P : Program) (T : Run) (v : Window) (cut : List Marked) (looks : List StepLook) → AreLooksTo P T v.from v.to cut looks → AreStepLooks P T v cut looks
looks_all P T v cut looks h = record { count_is = h.count_is; each = h.each }

-- what is shown of one step
pub look_said : (T : Run) (cut : List Marked) (k : ℕ) (s : Step) (mark : StepMark) (records : List StateRecord) (look : StepLook) → step_at T k ≡ Some s → IsNoteBy T cut k s mark.falls records look.note.items → look.mark ≡ mark.mark → look.row ≡ mark.row → look.undone ≡ mark.undone → IsLookBy T cut k mark records look
look_said T cut k s mark records look stands note mark_is row_is undone_is P t e h marked =
    let same : s ≡ t = same_some (sym stands ∙ e) in
    let noted : IsNote P T cut k t look.note.items = subst (λ (z : Step). IsNote P T cut k z look.note.items) same (note P marked.falls_is h) in
    record {
      mark_is = subst (IsMarkLook T cut k t) (sym mark_is) marked.mark_is;
      undone_is = subst (λ (b : Bool). IsTrue b ↔ IsUndone T k) (sym undone_is) marked.undone_is;
      row_is = row_is ∙ marked.row_is ∙ (λ i. row_look t (sym mark_is i) (falls_at T k) (sym undone_is i));
      note_is = noted;
    }
