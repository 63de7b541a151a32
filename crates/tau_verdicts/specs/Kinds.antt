-- Kinds of steps by which a point takes others, or is left.
use Rattle.std.specs.Prelude.{ℕ, false, Option, Some, None}
use Rattle.tau_trace.specs.declared.step.Step.{Step}
use Rattle.tau_trace.specs.declared.step.Step.TheVariants.{Fall, Set, New, Ask, Checkpoint, Rollback, Trap, Fail}

-- the transactor by whose step a point takes others
abbrev pub taker : Step → Option ℕ
taker (Set t v) = Some t
taker (New t b n v) = Some t
taker s = None

-- the transactor whose step may be a falling one
abbrev pub faller : Step → Option ℕ
faller (Fall t m) = Some t
faller (Rollback t) = Some t
faller (Trap t c) = Some t
faller (Fail t) = Some t
faller s = None

-- the transactor that closes its point
abbrev pub closer : Step → Option ℕ
closer (Checkpoint t) = Some t
closer s = None

-- the transactor that asks whether it depends on anything that isn't firm, and is told that it doesn't
abbrev pub free_asker : Step → Option ℕ
free_asker (Ask t false) = Some t
free_asker s = None
