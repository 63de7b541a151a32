-- What transactors and messages have heard (docs/definitions.md, "Heard").
use Rattle.std.specs.Prelude.{◌≡◌, ◌⊎◌, ◌↔◌, ℕ, suc, ◌<◌, Option, Some, None, option_and_then}
use Rattle.tau_points.specs.Reach.{Reach}
use Rattle.tau_trace.specs.declared.step.Step.{Step}
use Rattle.tau_trace.specs.declared.step.Step.TheVariants.{Take, Drop, Fall, Heed}
use Rattle.tau_trace.specs.Run.{Run, step_at, ActsAt}
use Rattle.tau_trace.specs.Numbering.{IsNew, IsOrigin}

-- the message whose origin is heard by the step; a Void and an Echo hear nothing of their message
abbrev pub heard_by : Step → Option ℕ
heard_by (Take t m) = Some m
heard_by (Drop t m) = Some m
heard_by (Fall t m) = Some m
heard_by (Heed t m) = Some m
heard_by s = None

-- a set of places is closed where it holds, with place k, each place j that k needs
pub data Needs (T : Run) (k j : ℕ) : Type 0 where
  earlier : {t : ℕ} → ActsAt T t k → ActsAt T t j → j < k → Needs T k j
  message : {m by : ℕ} → option_and_then heard_by (step_at T k) ≡ Some m → IsOrigin T j by m → Needs T k j
  birth : {u by : ℕ} → ActsAt T u k → IsNew T j by u → Needs T k j

-- a set of places that holds, with a place, each place that it needs
pub record IsCausallyClosed (T : Run) (H : ℕ → Type 0) : Type 0 where
  pub closed : (k j : ℕ) → H k → Needs T k j → H j

-- the steps of t before place k and, for a created t, its New
pub data Own (T : Run) (t k : ℕ) (j : ℕ) : Type 0 where
  own_step : ActsAt T t j → j < k → Own T t k j
  own_birth : {by : ℕ} → IsNew T j by t → Own T t k j

-- the origin of message m
pub record OriginOf (T : Run) (m : ℕ) (j : ℕ) : Type 0 where
  pub by : ℕ
  pub origin : IsOrigin T j by m

-- the places that transactor t has heard of at place k: the least closed set that holds its own
abbrev pub Heard : Run → ℕ → ℕ → ℕ → Type 0
Heard T t k = Reach (Needs T) (Own T t k)

-- the places that message m has heard of: the least closed set that holds its origin
abbrev pub HeardBy : Run → ℕ → ℕ → Type 0
HeardBy T m = Reach (Needs T) (OriginOf T m)

-- what t has heard at place k and what message m has heard, together
abbrev pub HeardTogether : Run → ℕ → ℕ → ℕ → ℕ → Type 0
HeardTogether T t k m j = Heard T t k j ⊎ HeardBy T m j

-- the steps of u in H are those before place a
abbrev pub HoldsStepsBefore : Run → (ℕ → Type 0) → ℕ → ℕ → Type 0
HoldsStepsBefore T H u a = (j : ℕ) → ActsAt T u j → H j ↔ (j < a)

-- a is the bound of H at u: the steps of u in H are those before a, and a is 0 or follows the last of them
pub record Bound (T : Run) (H : ℕ → Type 0) (u a : ℕ) : Type 0 where
  pub steps : HoldsStepsBefore T H u a
  pub last : (a ≡ 0) ⊎ ((j : ℕ) × (a ≡ suc j) × ActsAt T u j × H j)
