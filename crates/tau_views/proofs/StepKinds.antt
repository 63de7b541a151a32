-- What the rules of views ask of a step, by its kind.
use Rattle.std.proofs.Common.{◌≡◌, ℕ, Bool, IsTrue, Some, None, refl, sym, ap, ◌∙◌}
use Rattle.std.specs.Prelude.{option_and_then}
use Rattle.tau_history.specs.Timeline.{keep}
use Rattle.tau_trace.specs.declared.step.Step.{Step}
use Rattle.tau_trace.specs.declared.step.Step.TheVariants.{Drop, Fall, Send, Echo, Heed, Repeat, Get, Set, Skip, Ask, Checkpoint, Hold, Rollback, Stay, Done, Trap, Fail}
use Rattle.tau_trace.specs.Steps.{actor, ends_turn, makes_message}
use Rattle.tau_trace.specs.Run.{Run, step_at, Does}
use Rattle.tau_trace.specs.Histories.{history, move_at, move_of, Falls, IsFallingStep, by_fall, by_rollback, by_trap, by_fail}
use Rattle.tau_trace.proofs.Counted.{move_at-own, falls_falling}
use Rattle.tau_past.specs.Carried.{touches, is_set}
use Rattle.tau_past.specs.Heard.{heard_by}
use Rattle.tau_past.specs.KnownLaws.{keeps_pending, HearsOfNone}
use Rattle.tau_views.specs.Laws.{only_touches, only_hears}
use Rattle.tau_views.proofs.OwnSteps.{is_plain}

-- a step that stands at a place and passes a test
pub does_of : (T : Run) (t k : ℕ) (test : Step → Bool) (s : Step) → step_at T k ≡ Some s → actor s ≡ Some t → IsTrue (test s) → Does test T t k
does_of T t k test s e by h = record { step = s; stands = e; by = by; passes = h }

-- what passes one test passes another
pub does_as : (T : Run) (t k : ℕ) (test other : Step → Bool) → ((s : Step) → IsTrue (test s) → IsTrue (other s)) → Does test T t k → Does other T t k
does_as T t k test other f d = record { step = d.step; stands = d.stands; by = d.by; passes = f d.step d.passes }

-- what passes a test of kinds that hear of no message
pub hears_none : (T : Run) (t k : ℕ) (test : Step → Bool) → ((s : Step) → IsTrue (test s) → heard_by s ≡ None) → Does test T t k → HearsOfNone T k
hears_none T t k test f d = ap (option_and_then heard_by) d.stands ∙ f d.step d.passes

-- and of kinds that make no history move
pub keeps_history : (T : Run) (t k : ℕ) (test : Step → Bool) → ((b : Bool) (s : Step) → IsTrue (test s) → move_of b s ≡ keep) → Does test T t k → move_at T t k ≡ keep
keeps_history T t k test f d = move_at-own T t k d.step d.stands d.by ∙ f (history T t k).stable d.step d.passes

-- the kinds that touch and do nothing else touch
pub touching_touches : (s : Step) → IsTrue (only_touches s) → IsTrue (touches s)
touching_touches (Get t) h = refl
touching_touches (Skip t) h = refl
touching_touches (Ask t a) h = refl
touching_touches s h = absurd (cc)

-- no point takes another by them
pub touching_plain : (s : Step) → IsTrue (only_touches s) → IsTrue (is_plain s)
touching_plain (Get t) h = refl
touching_plain (Skip t) h = refl
touching_plain (Ask t a) h = refl
touching_plain s h = absurd (cc)

-- they hear of no message
pub touching_hears_none : (s : Step) → IsTrue (only_touches s) → heard_by s ≡ None
touching_hears_none (Get t) h = refl
touching_hears_none (Skip t) h = refl
touching_hears_none (Ask t a) h = refl
touching_hears_none s h = absurd (cc)

-- and keep the history
pub touching_keeps : (b : Bool) (s : Step) → IsTrue (only_touches s) → move_of b s ≡ keep
touching_keeps b (Get t) h = refl
touching_keeps b (Skip t) h = refl
touching_keeps b (Ask t a) h = refl
touching_keeps b s h = absurd (cc)

-- the kinds that make a message are plain
pub making_plain : (s : Step) → IsTrue (makes_message s) → IsTrue (is_plain s)
making_plain (Send t u v) h = refl
making_plain (Echo t m) h = refl
making_plain (Repeat m) h = refl
making_plain s h = absurd (cc)

-- they keep what is pending
pub making_keeps_pending : (s : Step) → IsTrue (makes_message s) → IsTrue (keeps_pending s)
making_keeps_pending (Send t u v) h = refl
making_keeps_pending (Echo t m) h = refl
making_keeps_pending (Repeat m) h = refl
making_keeps_pending s h = absurd (cc)

-- they hear of no message
pub making_hears_none : (s : Step) → IsTrue (makes_message s) → heard_by s ≡ None
making_hears_none (Send t u v) h = refl
making_hears_none (Echo t m) h = refl
making_hears_none (Repeat m) h = refl
making_hears_none s h = absurd (cc)

-- and keep the history
pub making_keeps : (b : Bool) (s : Step) → IsTrue (makes_message s) → move_of b s ≡ keep
making_keeps b (Send t u v) h = refl
making_keeps b (Echo t m) h = refl
making_keeps b (Repeat m) h = refl
making_keeps b s h = absurd (cc)

-- the kinds that hear of a message and do nothing else are plain
pub hearing_plain : (s : Step) → IsTrue (only_hears s) → IsTrue (is_plain s)
hearing_plain (Drop t m) h = refl
hearing_plain (Heed t m) h = refl
hearing_plain s h = absurd (cc)

-- they keep what is pending
pub hearing_keeps_pending : (s : Step) → IsTrue (only_hears s) → IsTrue (keeps_pending s)
hearing_keeps_pending (Drop t m) h = refl
hearing_keeps_pending (Heed t m) h = refl
hearing_keeps_pending s h = absurd (cc)

-- and keep the history
pub hearing_keeps : (b : Bool) (s : Step) → IsTrue (only_hears s) → move_of b s ≡ keep
hearing_keeps b (Drop t m) h = refl
hearing_keeps b (Heed t m) h = refl
hearing_keeps b s h = absurd (cc)

-- a Set touches
pub set_touches : (s : Step) → IsTrue (is_set s) → IsTrue (touches s)
set_touches (Set t v) h = refl
set_touches s h = absurd (cc)

-- a Set hears of no message
pub set_hears_none : (s : Step) → IsTrue (is_set s) → heard_by s ≡ None
set_hears_none (Set t v) h = refl
set_hears_none s h = absurd (cc)

-- and keeps the history
pub set_keeps : (b : Bool) (s : Step) → IsTrue (is_set s) → move_of b s ≡ keep
set_keeps b (Set t v) h = refl
set_keeps b s h = absurd (cc)

-- the ending kinds are plain
pub ending_plain : (s : Step) → IsTrue (ends_turn s) → IsTrue (is_plain s)
ending_plain (Fall t m) h = refl
ending_plain (Done t) h = refl
ending_plain (Checkpoint t) h = refl
ending_plain (Hold t) h = refl
ending_plain (Rollback t) h = refl
ending_plain (Stay t) h = refl
ending_plain (Trap t c) h = refl
ending_plain (Fail t) h = refl
ending_plain s h = absurd (cc)

-- of the ending kinds a Fall alone hears of a message, and it makes its history move
ending_quiet : (b : Bool) (s : Step) → IsTrue (ends_turn s) → move_of b s ≡ keep → heard_by s ≡ None
ending_quiet b (Fall t m) h e = absurd (cc)
ending_quiet b (Done t) h e = refl
ending_quiet b (Checkpoint t) h e = refl
ending_quiet b (Hold t) h e = refl
ending_quiet b (Rollback t) h e = refl
ending_quiet b (Stay t) h e = refl
ending_quiet b (Trap t c) h e = refl
ending_quiet b (Fail t) h e = refl
ending_quiet b s h e = absurd (cc)

-- an ending step that keeps the history hears of no message
pub ending_hears_none : (T : Run) (t k : ℕ) → Does ends_turn T t k → move_at T t k ≡ keep → HearsOfNone T k
ending_hears_none T t k d e = ap (option_and_then heard_by) d.stands ∙ ending_quiet (history T t k).stable d.step d.passes (sym (move_at-own T t k d.step d.stands d.by) ∙ e)

-- a falling step ends its turn
pub falling_ends : (T : Run) (t k : ℕ) → Falls T t k → Does ends_turn T t k
falling_ends T t k f = by (falls_falling T t k f) where
  by : IsFallingStep T t k → Does ends_turn T t k
  by (by_fall {m = m} e) = does_of T t k ends_turn (Fall t m) e refl refl
  by (by_rollback e) = does_of T t k ends_turn (Rollback t) e refl refl
  by (by_trap {c = c} e b) = does_of T t k ends_turn (Trap t c) e refl refl
  by (by_fail e b) = does_of T t k ends_turn (Fail t) e refl refl
