-- What looks kept, and what looks broken.
use Rattle.std.proofs.Common.{◌≡◌, ◌≢◌, ◌↔◌, ℕ, ◌+◌, ◌-◌, ◌≤◌, Bool, true, false, List, Some, refl, sym, ap, ◌∙◌, subst, arith}
use Rattle.std.specs.Prelude.{Contains}
use Rattle.tau_points.specs.declared.point.Point.{Point}
use Rattle.tau_points.specs.Reach.{start}
use Rattle.tau_tree.specs.declared.programs.Program.{Program}
use Rattle.tau_trace.specs.declared.step.Step.{Step}
use Rattle.tau_trace.specs.declared.step.Step.TheVariants.{Checkpoint, Trap, Fail}
use Rattle.tau_trace.specs.Run.{Run, len, step_at}
use Rattle.tau_trace.specs.Histories.{Closes}
use Rattle.tau_trace.specs.Points.{point_at}
use Rattle.tau_past.specs.Pasts.{Past}
use Rattle.tau_past.specs.Audits.{ChecksAt}
use Rattle.tau_past.specs.Safety.{Safe}
use Rattle.tau_svg.specs.Shapes.Windows.{IsDrawn}
use Rattle.tau_layout.specs.Plans.{Plan}
use Rattle.tau_legal.proofs.SafetyLemmas.{fitting_safe}
use Rattle.tau_cut.specs.declared.cut.Marked.{Marked}
use Rattle.tau_cut.specs.Cuts.{places_in, IsCut}
use Rattle.tau_scene.specs.declared.looks.kinds.StateLook.{StateLook}
use Rattle.tau_scene.specs.declared.looks.kinds.StateLook.TheVariants as states
use Rattle.tau_scene.specs.declared.looks.kinds.MarkLook.{MarkLook}
use Rattle.tau_scene.specs.declared.looks.kinds.MarkLook.TheVariants as marks
use Rattle.tau_scene.specs.declared.looks.looks.Seen.{Seen}
use Rattle.tau_scene.specs.declared.looks.looks.StepLook.{StepLook}
use Rattle.tau_scene.specs.declared.looks.looks.Looks.{Looks}
use Rattle.tau_scene.specs.Looks.Kinds.{mark_look}
use Rattle.tau_scene.specs.Causes.Looks.{IsStateLook, IsSavedMark, IsMarkLook, falls_at}
use Rattle.tau_scene.specs.Notes.Looks.{IsLooks}
use Rattle.tau_drawing.specs.Marks.Marks.{HasLook}
use Rattle.tau_drawing.specs.States.Names.{seen_at}
use Rattle.tau_picture.specs.Laws.{SafeRunsShowNoneBroken, MayBeKept, BlueMayBeKept, LegalRunsDrawSafe}
use Rattle.tau_picture.proofs.Whole.{window_within, step_there}
use Rattle.tau_picture.proofs.OneState.{look_once, looked}
use Rattle.tau_picture.proofs.OneNote.{kept_mark}

module _ (P : Program) (T : Run) (plan : Plan) (cut : List Marked) (looks : Looks) (are : IsLooks P T plan cut looks) where
  -- the look of the mark of a drawn step
  marked : (k : ℕ) (s : Step) (look : StepLook) → step_at T k ≡ Some s → IsDrawn plan.window k → HasLook plan looks.steps.items k look → IsMarkLook T cut k s look.mark
  marked k s look e d h =
      let row = k - plan.window.from in
      let same : plan.window.from + row ≡ k = omega (arith, d.0) in
      subst (λ (n : ℕ). IsMarkLook T cut n s look.mark) same (are.steps_are.each row s look (ap (step_at T) same ∙ e) h).mark_is

  module _ (is : IsCut T cut) where
    held : (k : ℕ) → MayBeKept T k → Contains (places_in cut) k
    held k m = is.greatest m.steps m.consistent k m.holds

    may : (k : ℕ) → Contains (places_in cut) k → MayBeKept T k
    may k c = record { steps = places_in cut; consistent = is.consistent; holds = c }

    kept_state : (s : Seen) → IsStateLook T cut s.state s.look → s.look ≡ states.Kept → (k : ℕ) × ChecksAt T k s.state.point × MayBeKept T k
    kept_state s look e =
        let kept = (subst (λ (l : StateLook). IsStateLook T cut s.state l) e look).1 in
        (kept.place, kept.checks, may kept.place kept.held)

    pub blue_states : (rank : ℕ) (s : Seen) → Contains (seen_at looks rank) s → (s.look ≡ states.Kept) ↔ ((k : ℕ) × ChecksAt T k s.state.point × MayBeKept T k)
    blue_states rank s c =
        let l = looked T plan cut looks.states.items are.states_are rank s c in
        let p = s.state.point in (
          kept_state s l.look_is,
          λ m. let there = held m.0 m.2 in
              look_once T cut s.state l.state_is s.look states.Kept l.look_is ((λ r. is.kept m.0 p p there m.1 (start refl) r), record { place = m.0; held = there; checks = m.1 }),
        )

    pub blue_marks : (t k : ℕ) (look : StepLook) → Closes T t k → IsDrawn plan.window k → HasLook plan looks.steps.items k look → (look.mark ≡ marks.Kept) ↔ MayBeKept T k
    blue_marks t k look closes d h =
        let mark = marked k (Checkpoint t) look closes d h in
        let saved : IsSavedMark T cut k (point_at T t k) mark.saved = mark.saved_is t refl in (
          λ e. may k (subst (λ (m : MarkLook). IsSavedMark T cut k (point_at T t k) m) (sym mark.is ∙ e) saved),
          λ m. mark.is ∙ sym (kept_mark T cut k (point_at T t k) mark.saved (held k m) saved),
        )

  -- nothing looks broken in a safe run

  unbroken : Safe T → (k : ℕ) (s : Step) (falls : Bool) (saved : MarkLook) → step_at T k ≡ Some s → ((t : ℕ) → s ≡ Checkpoint t → IsSavedMark T cut k (point_at T t k) saved) → mark_look s falls saved ≢ marks.Broken
  unbroken safe k (Checkpoint t) falls saved stands is e =
      let rests = (subst (λ (m : MarkLook). IsSavedMark T cut k (point_at T t k) m) e (is t refl)).1 in
      safe t k rests.root stands rests.in_past rests.rolled_back
  unbroken safe k (Trap t c) true saved stands is e = cc
  unbroken safe k (Trap t c) false saved stands is e = cc
  unbroken safe k (Fail t) true saved stands is e = cc
  unbroken safe k (Fail t) false saved stands is e = cc
  unbroken safe k s falls saved stands is e = cc

  broken : Safe T → (s : Seen) (look : StateLook) → IsStateLook T cut s.state look → look ≢ states.Broken
  broken safe s states.Broken is e =
      let saved = is.1 in
      let rests = is.3 in
      safe saved.1.by saved.0 rests.root saved.1.closes (subst (λ (p : Point). Past T p rests.root) saved.1.at_point rests.in_past) rests.rolled_back
  broken safe s states.Fallen is e = cc
  broken safe s states.Kept is e = cc
  broken safe s states.Unkept is e = cc
  broken safe s states.Doomed is e = cc
  broken safe s states.Open is e = cc

  pub unbroken_state : Safe T → (rank : ℕ) (s : Seen) → Contains (seen_at looks rank) s → s.look ≢ states.Broken
  unbroken_state safe rank s c = broken safe s s.look (looked T plan cut looks.states.items are.states_are rank s c).look_is

  pub unbroken_mark : Safe T → plan.window.to ≤ len T → (k : ℕ) (look : StepLook) → IsDrawn plan.window k → HasLook plan looks.steps.items k look → look.mark ≢ marks.Broken
  unbroken_mark safe within k look d h e =
      let at = step_there T k (omega (arith, d.1, within)) in
      let mark = marked k at.0 look at.1 d h in
      unbroken safe k at.0 (falls_at T k) mark.saved at.1 mark.saved_is (sym mark.is ∙ e)

pub blue_may_be_kept : BlueMayBeKept
blue_may_be_kept P T from to ask lines picture = record {
  states_are = blue_states P T picture.plan picture.cut picture.looks picture.are_looks picture.is_cut;
  marks_are = blue_marks P T picture.plan picture.cut picture.looks picture.are_looks picture.is_cut;
  none_fell = λ k p q m checks past. picture.is_cut.kept k p q (held P T picture.plan picture.cut picture.looks picture.are_looks picture.is_cut k m) checks past;
}

pub safe_runs_show_none_broken : SafeRunsShowNoneBroken
safe_runs_show_none_broken P T from to ask lines picture rank s safe c = unbroken_state P T picture.plan picture.cut picture.looks picture.are_looks safe rank s c

pub legal_runs_draw_safe : LegalRunsDrawSafe
legal_runs_draw_safe P T from to ask lines picture w fitting =
    let safe = fitting_safe P T w fitting in
    record {
      states_are = unbroken_state P T picture.plan picture.cut picture.looks picture.are_looks safe;
      marks_are = unbroken_mark P T picture.plan picture.cut picture.looks picture.are_looks safe (window_within T from to picture.plan picture.is_plan);
    }
