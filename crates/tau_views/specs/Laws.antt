-- How the view of what was heard changes step by step, each the contract of a function of the crate.
use Rattle.std.specs.Prelude.{◌≡◌, ℕ, suc, ◌<◌, Bool, true, false, Some, None, length}
use Rattle.tau_history.specs.Timeline.{opening, newborn, moved, keep, stabilize, close, fall}
use Rattle.tau_view.specs.Held.{Held, AllPrecede, AllComparable}
use Rattle.tau_view.specs.Rules.{nothing, noted, touched, depended, merged, with_roots, with_no_roots}
use Rattle.tau_trace.specs.declared.step.Step.{Step}
use Rattle.tau_trace.specs.declared.step.Step.TheVariants.{Take, Drop, Fall, Void, Get, Skip, Ask, Heed}
use Rattle.tau_trace.specs.Steps.{ends_turn, makes_message}
use Rattle.tau_trace.specs.Run.{Run, Agree, starts, step_at, ActsAt, Does}
use Rattle.tau_trace.specs.Numbering.{born, sent, IsNew, IsSent, IsEchoed, IsRepeated}
use Rattle.tau_trace.specs.Histories.{history, move_at, Closes, Falls}
use Rattle.tau_trace.specs.Points.{point_at, Stabilizes}
use Rattle.tau_trace.specs.Known.{WellFormed}
use Rattle.tau_trace.specs.Turns.{HasOpenTurn}
use Rattle.tau_past.specs.Carried.{is_set, first_point}
use Rattle.tau_past.specs.KnownLaws.{HearsOf, HearsOfNone}
use Rattle.tau_views.specs.Views.{IsViewOf, IsMessageView}

-- the kinds that touch and do nothing else
abbrev pub only_touches : Step → Bool
only_touches (Get t) = true
only_touches (Skip t) = true
only_touches (Ask t a) = true
only_touches s = false

-- the kinds that hear of a message and do nothing else
abbrev pub only_hears : Step → Bool
only_hears (Drop t m) = true
only_hears (Heed t m) = true
only_hears s = false

-- the view after a New of transactor u
abbrev pub with_newborn : ℕ → Held → Held
with_newborn u x = noted u newborn (depended (first_point u) x)

-- what becomes of the view x of t by the step at place k: after a step of another one it stays; a step of t does what the
-- rules say of its kind. A message that t sends has t's view; a notice that t makes, and a transactor, has t's view without
-- the roots
pub record ViewAfterStep (T : Run) (t k : ℕ) (x : Held) : Type 0 where
  pub other : ¬ ActsAt T t k → IsViewOf T t (suc k) x
  pub touching : Does only_touches T t k → HasOpenTurn T t k → IsViewOf T t (suc k) (touched (point_at T t k) x)
  pub set : Does is_set T t k → HasOpenTurn T t k → IsViewOf T t (suc k) (touched (point_at T t k) (depended (point_at T t k) x))
  pub stabilize : Stabilizes T t k → HasOpenTurn T t k → IsViewOf T t (suc k) (touched (point_at T t k) (noted t (moved stabilize (history T t k)) x))
  pub making : Does makes_message T t k → IsViewOf T t (suc k) x
  pub message : (m : ℕ) → IsSent T k t m → IsMessageView T m x
  pub notice : (n m : ℕ) → IsEchoed T k t n m → IsMessageView T m (with_no_roots x)
  pub new : (u : ℕ) → IsNew T k t u → IsViewOf T t (suc k) (with_newborn u x)
  pub newborn : (u : ℕ) → IsNew T k t u → IsViewOf T u (suc k) (with_no_roots (with_newborn u x))
  pub take : (m : ℕ) (y : Held) → step_at T k ≡ Some (Take t m) → IsMessageView T m y → IsViewOf T t (suc k) (with_roots y.root (merged x y))
  pub hearing : (m : ℕ) (y : Held) → Does only_hears T t k → HearsOf T k m → IsMessageView T m y → IsViewOf T t (suc k) (merged x y)
  pub fall_by : (m : ℕ) (y : Held) → step_at T k ≡ Some (Fall t m) → IsMessageView T m y → IsViewOf T t (suc k) (with_no_roots (noted t (moved fall (history T t k)) (merged x y)))
  pub void : (m : ℕ) → step_at T k ≡ Some (Void t m) → IsViewOf T t (suc k) x
  pub closing : Closes T t k → IsViewOf T t (suc k) (with_no_roots (noted t (moved close (history T t k)) x))
  pub falling : Falls T t k → HearsOfNone T k → IsViewOf T t (suc k) (with_no_roots (noted t (moved fall (history T t k)) x))
  pub ending : Does ends_turn T t k → move_at T t k ≡ keep → IsViewOf T t (suc k) (with_no_roots x)

abbrev pub ViewsStepByStep : Type 0
ViewsStepByStep = (T : Run) (t k : ℕ) (x : Held) → WellFormed T → t < born T k → IsViewOf T t k x → ViewAfterStep T t k x

-- at the opening a start has heard of itself alone, and a post of nothing
abbrev pub StartsOpenAlone : Type 0
StartsOpenAlone = (T : Run) (t : ℕ) → WellFormed T → t < starts T → IsViewOf T t 0 (noted t opening nothing)

abbrev pub PostsHaveHeardNothing : Type 0
PostsHaveHeardNothing = (T : Run) (m : ℕ) → m < length T.opening.targets → IsMessageView T m nothing

-- a copy has heard and carries what the message that it repeats does
abbrev pub CopiesHaveTheirView : Type 0
CopiesHaveTheirView = (T : Run) (k n m : ℕ) (x : Held) → IsRepeated T k n m → IsMessageView T n x → IsMessageView T m x

-- the view of t has t's own history
abbrev pub ViewsHaveTheOwnHistory : Type 0
ViewsHaveTheOwnHistory = (T : Run) (t k : ℕ) (x : Held) → WellFormed T → t < born T k → IsViewOf T t k x → x.history t ≡ Some (history T t k)

-- and none of a transactor that doesn't exist yet
abbrev pub ViewsLackTheUnborn : Type 0
ViewsLackTheUnborn = (T : Run) (t k : ℕ) (x : Held) → WellFormed T → t < born T k → IsViewOf T t k x → x.history (born T k) ≡ None

-- of the two histories that two views have of one transactor, one precedes the other
abbrev pub ViewsAreComparable : Type 0
ViewsAreComparable = (T : Run) (t k m : ℕ) (x y : Held) → WellFormed T → t < born T k → m < sent T k → IsViewOf T t k x → IsMessageView T m y → AllComparable x.history y.history

-- and it precedes the one that the merged view has
abbrev pub MergedViewsAreLater : Type 0
MergedViewsAreLater = (T : Run) (t k m : ℕ) (x y : Held) → WellFormed T → t < born T k → m < sent T k → IsViewOf T t k x → IsMessageView T m y → AllPrecede y.history (merged x y).history

-- the view at place k reads the opening and the steps before k alone
pub record SameViewsAt (T U : Run) (k : ℕ) : Type 0 where
  pub transactor : (t : ℕ) (x : Held) → t < born T k → IsViewOf T t k x → IsViewOf U t k x
  pub message : (m : ℕ) (x : Held) → m < sent T k → IsMessageView T m x → IsMessageView U m x

abbrev pub ViewsAreLocal : Type 0
ViewsAreLocal = (T U : Run) (k : ℕ) → WellFormed T → WellFormed U → Agree T U k → SameViewsAt T U k
