-- What a place needs stands before it, and so does all that was heard there.
use Rattle.std.proofs.Common.{◌≡◌, ℕ, ◌<◌, Option, Some, None, arith, refl, subst, option_and_then}
use Rattle.tau_points.specs.Reach.{next, IsClosedUnder}
use Rattle.tau_points.proofs.Reach.{least}
use Rattle.tau_trace.specs.declared.step.Step.{Step}
use Rattle.tau_trace.specs.declared.step.Step.TheVariants.{Take, Drop, Fall, Heed}
use Rattle.tau_trace.specs.Run.{Run, step_at, ActsAt}
use Rattle.tau_trace.specs.Numbering.{born, sent}
use Rattle.tau_trace.specs.Known.{WellFormed, IsKnownAt}
use Rattle.tau_trace.proofs.Agreement.{origin_before, new_before}
use Rattle.tau_trace.proofs.Quiet.{acts_born}
use Rattle.tau_past.specs.Heard.{heard_by, Needs, earlier, message, birth, Own, own_step, own_birth, OriginOf, Heard, HeardBy}
use Rattle.tau_past.specs.Heard as heard

-- the message that a step hears of exists at its place
known_message : (T : Run) (k m : ℕ) (s : Step) → heard_by s ≡ Some m → IsKnownAt T k s → m < sent T k
known_message T k m (Take u n) e h = let same : n ≡ m = cc in subst (λ n. n < sent T k) same h.1
known_message T k m (Drop u n) e h = let same : n ≡ m = cc in subst (λ n. n < sent T k) same h.1
known_message T k m (Fall u n) e h = let same : n ≡ m = cc in subst (λ n. n < sent T k) same h.1
known_message T k m (Heed u n) e h = let same : n ≡ m = cc in subst (λ n. n < sent T k) same h.1
known_message T k m s e h = absurd (cc)

-- a step that stands at a place, where a function of it has a value
record Stands (f : Step → Option ℕ) (o : Option Step) (n : ℕ) : Type 0 where
  step : Step
  is : o ≡ Some step
  has : f step ≡ Some n

stands : (f : Step → Option ℕ) (o : Option Step) (n : ℕ) → option_and_then f o ≡ Some n → Stands f o n
stands f (Some s) n e = record { step = s; is = refl; has = e }
stands f None n e = absurd (cc)

pub acts_known : (T : Run) (t k : ℕ) → WellFormed T → ActsAt T t k → t < born T k
acts_known T t k w a = acts_born T t k (w.known k) a

pub hears_known : (T : Run) (m k : ℕ) → WellFormed T → option_and_then heard_by (step_at T k) ≡ Some m → m < sent T k
hears_known T m k w e = let s = stands heard_by (step_at T k) m e in known_message T k m s.step s.has (w.known k s.step s.is)

-- what a place needs stands before it
pub needs_before : (T : Run) (k j : ℕ) → WellFormed T → Needs T k j → j < k
needs_before T k j w (earlier a b lt) = lt
needs_before T k j w (message {m = m} {by = by} e o) = origin_before T j by m k o (hears_known T m k w e)
needs_before T k j w (birth {u = u} {by = by} a n) = new_before T j by u k n (acts_known T u k w a)

below_closed : (T : Run) (P : ℕ → Type 0) (k : ℕ) → WellFormed T → ((j : ℕ) → P j → j < k) → IsClosedUnder (Needs T) P (λ j. j < k)
below_closed T P k w f = record { starts = f; follows = λ x y lt n. omega (arith, needs_before T x y w n) }

-- what a transactor that exists has heard of stands before the place
pub heard_before : (T : Run) (t k j : ℕ) → WellFormed T → t < born T k → Heard T t k j → j < k
heard_before T t k j w lt = least (Needs T) (Own T t k) (λ i. i < k) (below_closed T (Own T t k) k w own) j where
  own : (i : ℕ) → Own T t k i → i < k
  own i (own_step a b) = b
  own i (own_birth {by = by} n) = new_before T i by t k n lt

-- and so does what a message that exists there has heard of
pub heard_by_before : (T : Run) (m k j : ℕ) → WellFormed T → m < sent T k → HeardBy T m j → j < k
heard_by_before T m k j w lt = least (Needs T) (OriginOf T m) (λ i. i < k) (below_closed T (OriginOf T m) k w own) j where
  own : (i : ℕ) → OriginOf T m i → i < k
  own i o = origin_before T i o.by m k o.origin lt

-- what a transactor has heard is closed
pub heard_closed : (T : Run) (t k : ℕ) → heard.IsCausallyClosed T (Heard T t k)
heard_closed T t k = record { closed = λ i j h n. next h n }
