-- What the functions of the walk keep and tell one another.
use Rattle.std.specs.Prelude.{ℕ, ◌+◌, ◌*◌, ◌≤◌, List, take}
use Rattle.tau_tree.specs.declared.entries.Failure.{Failure}
use Rattle.tau_tree.specs.declared.programs.Program.{Program}
use Rattle.tau_trace.specs.Run.{Run}
use Rattle.tau_faults.specs.declared.setting.FaultCounts.{FaultCounts}
use Rattle.tau_faults.specs.Faults.{IsFaulted, with_entry}
use Rattle.tau_faults.specs.Ends.{End}
use Rattle.tau_faults.specs.Visits.{Visited, most_faults}

-- how many faults are left in all
abbrev pub sum_of : FaultCounts → ℕ
sum_of left = left.fails + left.losses + left.repeats

-- so many faults were placed, and those that are left can be counted too
abbrev pub AreFew : ℕ → FaultCounts → Type 0
AreFew placed left = placed + sum_of left ≤ 3 * most_faults

-- the fault can come at place k, with its entry before entry number c
abbrev pub IsFaultAt : ℕ → Program → Run → ℕ → ℕ → Failure → Type 0
IsFaultAt every P T k c f = IsFaulted every P T k f (with_entry P c (record { at = k; failure = f }))

-- the visitor was shown ends that are told by A
pub record HasSeen {V : Type 0} (visits : V → End → V → Type 0) (A : List End → Type 0) (old new : V) : Type 0 where
  pub ends : List End
  pub are : A ends
  pub visited : Visited visits old ends new

-- the first steps of a run, as a run
abbrev pub first_steps : Run → ℕ → Run
first_steps T k = record { opening = T.opening; steps = take k T.steps }
