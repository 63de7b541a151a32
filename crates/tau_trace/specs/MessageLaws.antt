-- Laws of messages, each the contract of a function of the crate.
use Rattle.std.specs.Prelude.{◌≡◌, ◌↔◌, ℕ}
use Rattle.tau_trace.specs.Run.{Run}
use Rattle.tau_trace.specs.Numbering.{IsRepeated, IsOrigin}

-- a message has one origin: one step, by one transactor
abbrev pub EachMessageHasOneOrigin : Type 0
EachMessageHasOneOrigin = (T : Run) (i j by other m : ℕ) → IsOrigin T i by m → IsOrigin T j other m → (i ≡ j) × (by ≡ other)

-- a copy has the origin of the message that it repeats
abbrev pub CopiesHaveTheirOrigin : Type 0
CopiesHaveTheirOrigin = (T : Run) (k n m j by : ℕ) → IsRepeated T k n m → IsOrigin T j by m ↔ IsOrigin T j by n
