-- The transactors of a node that have not ended.
use Rattle.std.specs.Prelude.{◌≡◌, ℕ, ◌<◌, ◌≤◌, Option, Some, None}
use Rattle.tau_trace.specs.Run.{Run}
use Rattle.tau_trace.specs.Numbering.{born, IsHome}
use Rattle.tau_trace.specs.Histories.{IsLiving}

-- transactor t exists at place k, stands at node n, and has not ended
pub record LivesAt (T : Run) (n t k : ℕ) : Type 0 where
  pub exists : t < born T k
  pub home : IsHome T t n
  pub living : IsLiving T t k

-- the least transactor that lives at node n at place k and has at least the number `from`; None where there is none
abbrev pub IsNextLiving : Run → ℕ → ℕ → ℕ → Option ℕ → Type 0
IsNextLiving T n k from None = (t : ℕ) → LivesAt T n t k → t < from
IsNextLiving T n k from (Some r) = (from ≤ r) × LivesAt T n r k × ((t : ℕ) → LivesAt T n t k → from ≤ t → r ≤ t)
