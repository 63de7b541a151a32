-- What may be kept of transactors, place by place.
use Rattle.std.proofs.Common.{◌≡◌, ◌⊎◌, ◌↔◌, inl, inr, ⊎_elim, ℕ, suc, ◌+◌, ◌<◌, ◌≤◌, Bool, List, [], ◌∷◌, ◌++◌, length, length-append, set, Option, Some, None, refl, sym, ap, ◌∙◌, subst, arith}
use Rattle.std.specs.Prelude.{Contains, slice_get, option_map, option_and_then}
use Rattle.std.proofs.lemmas.Bool.{cases_lt, cases_eq}
use Rattle.std.proofs.lemmas.Option.{slice_get_within, slice_get_cases, slice_get-map}
use Rattle.tau_value.specs.declared.shared.Value.{Value}
use Rattle.tau_history.specs.Timeline.{interval}
use Rattle.tau_tree.specs.declared.programs.Program.{Program}
use Rattle.tau_tree.specs.declared.starts.Start.{Start}
use Rattle.tau_trace.specs.declared.step.Step.{Step}
use Rattle.tau_trace.specs.declared.step.Step.TheVariants.{Checkpoint}
use Rattle.tau_trace.specs.Run.{Run, len, step_at, starts}
use Rattle.tau_trace.specs.Histories.{history, Closes}
use Rattle.tau_trace.specs.Known.{WellFormed}
use Rattle.tau_trace.proofs.Lists.{same_some, slice_get-set_same, slice_get-set_other, slice_get-push_cases}
use Rattle.tau_trace.proofs.Quiet.{acts}
use Rattle.tau_past.specs.States.{SavedWith}
use Rattle.tau_states.specs.declared.state_record.StateRecord.{StateRecord}
use Rattle.tau_states.specs.Opening.{opening_states}
use Rattle.tau_states.specs.Table.{Holds}
use Rattle.tau_states.specs.Answers.{IsSavedAfter}
use Rattle.tau_layout.specs.declared.columns.Column.{Column}
use Rattle.tau_layout.specs.declared.lanes.Lane.{Lane}
use Rattle.tau_layout.specs.Inner.Laying.{lane_of, lanes_of}
use Rattle.tau_layout.specs.Lanes.{AreLanes}
use Rattle.tau_layout.specs.Plans.{Plan, IsRank}
use Rattle.tau_explain.specs.Links.Marks.{IsMarked}
use Rattle.tau_cut.specs.declared.cut.Marked.{Marked}
use Rattle.tau_cut.specs.Cuts.{places_in}
use Rattle.tau_scene.specs.declared.looks.kinds.EndLook.{EndLook}
use Rattle.tau_scene.specs.declared.looks.looks.Ending.{Ending}
use Rattle.tau_scene.specs.declared.notes.keeping.Kept.{Kept}
use Rattle.tau_scene.specs.Notes.Endings.{Keeps, IsEnding}
use Rattle.tau_scene.specs.Notes.Looks.{AreEndings}
use Rattle.tau_scene.specs.Notes.Inner.Noting.{first_steps}
use Rattle.tau_scene.specs.Notes.Inner.Keeping.{KeepsAt, IsKeptBelow, AreKept, PutsAt, KeepsStep, IsEndingOf, AreEndingsOf, closer}
use Rattle.tau_scene.proofs.Saving.{TellsSaved, told_behind, closes_more}
use Rattle.tau_scene.proofs.Ranks.{rank_is, rank_who}

-- nothing is kept of one more
pub none_more : (old new : List (Option Kept)) → new ≡ old ++ None ∷ [] → ((rank : ℕ) (o : Option Kept) → slice_get old rank ≡ Some o → o ≡ None) → (rank : ℕ) (o : Option Kept) → slice_get new rank ≡ Some o → o ≡ None
none_more old new is none rank o e = ⊎_elim
    (λ h. none rank o h)
    (λ h. sym h.1)
    (slice_get-push_cases old None o rank (sym (ap (λ (l : List (Option Kept)). slice_get l rank) is) ∙ e))

-- who makes the Checkpoint at a place
closes_by : (s : Step) (t : ℕ) → closer s ≡ Some t → s ≡ Checkpoint t
closes_by (Checkpoint u) t e = ap Checkpoint (same_some e)
closes_by s t e = absurd (cc)

closer_step : (T : Run) (k t : ℕ) (o : Option Step) → step_at T k ≡ o → option_and_then closer o ≡ Some t → Closes T t k
closer_step T k t None e f = absurd (cc)
closer_step T k t (Some s) e f = e ∙ ap (λ (x : Step). Some x) (closes_by s t f)

pub closes_told : (T : Run) (k t : ℕ) → option_and_then closer (step_at T k) ≡ Some t → Closes T t k
closes_told T k t e = closer_step T k t (step_at T k) refl e

pub no_closer : (T : Run) (k : ℕ) → option_and_then closer (step_at T k) ≡ None → (t : ℕ) → ¬ Closes T t k
no_closer T k e t c = let f = sym e ∙ ap (option_and_then closer) c in cc

-- before any step
pub kept_first : (T : Run) (values : List Value) (lanes : List Lane) (marks : List Bool) (kept : List (Option Kept)) → length kept ≡ length lanes → ((rank : ℕ) (o : Option Kept) → slice_get kept rank ≡ Some o → o ≡ None) → AreKept T values lanes marks 0 kept
kept_first T values lanes marks kept count none = record {
  count_is = count;
  each = λ rank l o e f. subst (IsKeptBelow T values marks 0 l.who) (sym (none rank o f)) (λ j lt x. absurd (omega (arith, lt)));
}

module _ (T : Run) (w : WellFormed T) (values : List Value) (marks : List Bool) where
  at_or_below : (j k : ℕ) → j < k + 1 → (j < k) ⊎ (j ≡ k)
  at_or_below j k lt = ⊎_elim (λ l. inl l) (λ ge. inr (omega (arith, ge, lt))) (cases_lt j k)

  -- no marked Checkpoint of t stands at k
  passed : (k t : ℕ) (o : Option Kept) → ¬ KeepsAt T marks t k → IsKeptBelow T values marks k t o → IsKeptBelow T values marks (k + 1) t o
  passed k t None none h = λ j lt x. ⊎_elim (λ l. h j l x) (λ e. none (subst (KeepsAt T marks t) e x)) (at_or_below j k lt)
  passed k t (Some kept) none h = (omega (arith, h.0), h.1, (λ j lt x. ⊎_elim (λ l. h.2 j l x) (λ e. absurd (none (subst (KeepsAt T marks t) e x))) (at_or_below j k lt)), h.3)

  pub kept_passed : (lanes : List Lane) (k : ℕ) (kept : List (Option Kept)) → ((t : ℕ) → ¬ KeepsAt T marks t k) → AreKept T values lanes marks k kept → AreKept T values lanes marks (k + 1) kept
  kept_passed lanes k kept none h = record { count_is = h.count_is; each = λ rank l o e f. passed k l.who o (none l.who) (h.each rank l o e f) }

  -- one stands there
  here : (k t : ℕ) (one : Kept) → KeepsAt T marks t k → one.place ≡ k → TellsSaved T values t (suc k) (Some one.value) → IsKeptBelow T values marks (k + 1) t (Some one)
  here k t one keeps at told =
      let same : told.0 ≡ interval (history T t k) = omega (arith, told.1, closes_more T t k keeps.0) in (
        omega (arith, at),
        subst (KeepsAt T marks t) (sym at) keeps,
        (λ j lt x. omega (arith, lt, at)),
        subst (λ n. SavedWith T values t (interval (history T t n)) one.value) (sym at) (subst (λ i. SavedWith T values t i one.value) same told.2),
      )

  one_checkpoint : (t u k : ℕ) → Closes T t k → Closes T u k → t ≡ u
  one_checkpoint t u k c d = let same : Checkpoint t ≡ Checkpoint u = same_some (sym c ∙ d) in cc

  module _ (plan : Plan) (are : AreLanes T plan.window plan.lanes) (k t : ℕ) (keeps : KeepsAt T marks t k) (one : Kept) (at : one.place ≡ k) (told : TellsSaved T values t (suc k) (Some one.value)) where
    others : (l : Lane) (o : Option Kept) → ¬ (l.who ≡ t) → IsKeptBelow T values marks k l.who o → IsKeptBelow T values marks (k + 1) l.who o
    others l o ne h = passed k l.who o (λ x. ne (one_checkpoint l.who t k x.0 keeps.0)) h

    kept_put : (o : Option ℕ) (old new : List (Option Kept)) → IsRank plan t o → PutsAt o one old new → AreKept T values plan.lanes marks k old → AreKept T values plan.lanes marks (k + 1) new
    kept_put None old new rank puts h = record {
      count_is = ap (λ (l : List (Option Kept)). length l) puts ∙ h.count_is;
      each = λ r l o e f. others l o (λ who. let g = rank_is T w plan are t r l None rank e who in cc) (h.each r l o e (sym (ap (λ (x : List (Option Kept)). slice_get x r) puts) ∙ f));
    }
    kept_put (Some rank) old new has puts h = record {
      count_is = puts.0 ∙ h.count_is;
      each = λ r l o e f. ⊎_elim (λ same. own r l o same e (read r o f)) (λ ne. another r l o ne e (read r o f)) (cases_eq r rank);
    } where
      within : rank < length old
      within = omega (arith, h.count_is, slice_get_within plan.lanes rank has.lane has.at_rank)

      is : new ≡ set old rank (Some one)
      is = puts.1 within

      read : (r : ℕ) (o : Option Kept) → slice_get new r ≡ Some o → slice_get (set old rank (Some one)) r ≡ Some o
      read r o f = sym (ap (λ (x : List (Option Kept)). slice_get x r) is) ∙ f

      own : (r : ℕ) (l : Lane) (o : Option Kept) → r ≡ rank → slice_get plan.lanes r ≡ Some l → slice_get (set old rank (Some one)) r ≡ Some o → IsKeptBelow T values marks (k + 1) l.who o
      own r l o same e f =
          let o_is : Some one ≡ o = same_some (sym (slice_get-set_same old rank (Some one) within) ∙ ap (slice_get (set old rank (Some one))) (sym same) ∙ f) in
          let who : l.who ≡ t = rank_who plan t rank l has (ap (slice_get plan.lanes) (sym same) ∙ e) in
          subst (λ n. IsKeptBelow T values marks (k + 1) n o) (sym who) (subst (IsKeptBelow T values marks (k + 1) t) o_is (here k t one keeps at told))

      another : (r : ℕ) (l : Lane) (o : Option Kept) → ¬ (r ≡ rank) → slice_get plan.lanes r ≡ Some l → slice_get (set old rank (Some one)) r ≡ Some o → IsKeptBelow T values marks (k + 1) l.who o
      another r l o ne e f = others l o (λ who. let g : Some rank ≡ Some r = rank_is T w plan are t r l (Some rank) has e who in ne (sym (same_some g))) (h.each r l o e (sym (slice_get-set_other old rank r (Some one) ne) ∙ f))

-- as the calls have them
module _ (T : Run) (w : WellFormed T) (plan : Plan) (are : AreLanes T plan.window plan.lanes) (marks : List Bool) (k : ℕ) (records : List StateRecord) where
  pub keeps_unmarked : (kept : List (Option Kept)) → ¬ IsMarked marks k → KeepsStep T plan marks k records kept kept
  keeps_unmarked kept never values h before = kept_passed T w values marks plan.lanes k kept (λ t x. never x.1) before

  pub keeps_other : (kept : List (Option Kept)) → ((t : ℕ) → ¬ Closes T t k) → KeepsStep T plan marks k records kept kept
  keeps_other kept other values h before = kept_passed T w values marks plan.lanes k kept (λ t x. other t x.0) before

  pub keeps_nothing : (kept : List (Option Kept)) (t : ℕ) → k < len T → Closes T t k → ((U : Run) (values : List Value) → Holds U values records → IsSavedAfter U values t None) → KeepsStep T plan marks k records kept kept
  keeps_nothing kept t lt c none values h before =
      let z = told_behind T w values k t None (acts T t k (Checkpoint t) c refl) lt (none (first_steps T (k + 1)) values h) in
      absurd (omega (arith, z, closes_more T t k c))

  pub keeps_one : (old new : List (Option Kept)) (t : ℕ) (o : Option ℕ) (one : Kept) → k < len T → Closes T t k → IsMarked marks k → ((U : Run) (values : List Value) → Holds U values records → IsSavedAfter U values t (Some one.value)) → one.place ≡ k → IsRank plan t o → PutsAt o one old new → KeepsStep T plan marks k records old new
  keeps_one old new t o one lt c m some at rank puts values h before =
      let told = told_behind T w values k t (Some one.value) (acts T t k (Checkpoint t) c refl) lt (some (first_steps T (k + 1)) values h) in
      kept_put T w values marks plan are k t (c, m) one at told o old new rank puts before

-- what may be kept in the end
module _ (P : Program) (T : Run) (cut : List Marked) (marks : List Bool) (are : (k : ℕ) → Contains (places_in cut) k ↔ IsMarked marks k) (count : length T.opening.names ≡ length P.starts) where
  none_keeps : (t : ℕ) → ((j : ℕ) → j < len T → ¬ KeepsAt T marks t j) → (k : ℕ) → ¬ Keeps T cut t k
  none_keeps t none k x = none k (slice_get_within T.steps k (Checkpoint t) x.0) (x.0, (are k).0 x.1)

  ending_told : (t : ℕ) (o : Option Kept) (start : Option Start) (look : EndLook) (text : List ℕ) (e : Ending) → e.look ≡ look → e.text.items ≡ text → slice_get P.starts t ≡ start → IsKeptBelow T (opening_states P.starts) marks (len T) t o → IsEndingOf T.opening.names o start e → IsEnding P T cut t look text
  ending_told t (Some kept) start look text e look_is text_is at h told = subst (λ (x : EndLook). IsEnding P T cut t x text) (sym told.0 ∙ look_is) (
    kept.place,
    kept.value,
    record { keeps = (h.1.0, (are kept.place).1 h.1.1); last = λ j x. h.2 j (slice_get_within T.steps j (Checkpoint t) x.0) (x.0, (are j).0 x.1) },
    h.3,
    sym text_is ∙ told.1,
  )
  ending_told t None (Some start) look text e look_is text_is at h told = subst (λ (x : EndLook). IsEnding P T cut t x text) (sym told.0 ∙ look_is) (
    none_keeps t h,
    start.state,
    slice_get-map (λ (x : Start). x.state) P.starts t ∙ ap (option_map (λ (x : Start). x.state)) at,
    sym text_is ∙ told.1,
  )
  ending_told t None None look text e look_is text_is at h told = subst (λ (x : EndLook). IsEnding P T cut t x text) (sym told.0 ∙ look_is) (
    none_keeps t h,
    past,
    sym text_is ∙ told.1,
  ) where
    past : starts T ≤ t
    past = ⊎_elim (λ x. absurd (let f = sym at ∙ x.2 in cc)) (λ x. omega (arith, x.0, count)) (slice_get_cases P.starts t).1

  pub endings_told : (lanes : List Lane) (kept : List (Option Kept)) (endings : List Ending) → AreKept T (opening_states P.starts) lanes marks (len T) kept → AreEndingsOf T.opening.names P.starts lanes kept (length lanes) endings → AreEndings P T lanes cut endings
  endings_told lanes kept endings h told = record {
    count_is = told.count_is;
    each = λ rank l e f g. ⊎_elim
        (λ o. ending_told l.who o.0 (slice_get P.starts l.who) e.look e.text.items e refl refl refl (h.each rank l o.0 f o.2) (told.each rank l o.0 e f o.2 g))
        (λ o. let lt = slice_get_within lanes rank l f in absurd (omega (arith, o.0, lt, h.count_is)))
        (slice_get_cases kept rank).1;
  }

-- endings, one by one
pub endings_next : (names : List (List ℕ)) (starts : List Start) (lanes : List Lane) (kept : List (Option Kept)) (k : ℕ) (l : Lane) (o : Option Kept) (e : Ending) (old new : List Ending) → AreEndingsOf names starts lanes kept k old → new ≡ old ++ e ∷ [] → slice_get lanes k ≡ Some l → slice_get kept k ≡ Some o → IsEndingOf names o (slice_get starts l.who) e → AreEndingsOf names starts lanes kept (k + 1) new
endings_next names starts lanes kept k l o e old new h is lane at told = record {
  count_is = omega (arith, ap (λ (x : List Ending). length x) is, length-append old (e ∷ []), h.count_is);
  each = λ r m p f a b d. ⊎_elim
      (λ older. h.each r m p f a b older)
      (λ newer.
      let here : r ≡ k = newer.0 ∙ h.count_is in
      let lane_is : l ≡ m = same_some (sym lane ∙ ap (slice_get lanes) (sym here) ∙ a) in
      let kept_is : o ≡ p = same_some (sym at ∙ ap (slice_get kept) (sym here) ∙ b) in
      subst (λ (x : Lane). IsEndingOf names p (slice_get starts x.who) f) lane_is (subst (λ (x : Option Kept). IsEndingOf names x (slice_get starts l.who) f) kept_is (subst (IsEndingOf names o (slice_get starts l.who)) newer.1 told)))
      (slice_get-push_cases old e f r (sym (ap (λ (x : List Ending). slice_get x r) is) ∙ d));
}

pub lane_at : (columns : List Column) (k : ℕ) (column : Column) → slice_get columns k ≡ Some column → slice_get (lanes_of columns) k ≡ Some (lane_of column)
lane_at columns k column e = slice_get-map lane_of columns k ∙ ap (option_map lane_of) e
