-- How totals and rows change with more ends.
use Rattle.std.specs.Prelude.{◌≡◌, ◌≢◌, ℕ, ◌+◌, ◌++◌, ◌∷◌, Bool, ◌||◌, ◌&&◌, ◌==◌, nat_lt, if◌then◌else◌, List, [], Some, All, slice_get, map}
use Rattle.std.specs.declared.alloc.Global.{Global}
use Rattle.std.specs.declared.vec.Vec.{Vec}
use Rattle.indexmap.specs.IndexMap.{set_value_at}
use Rattle.tau_tree.specs.declared.entries.Entry.{Entry}
use Rattle.tau_storm.specs.declared.outcomes.Outcome.{Outcome}
use Rattle.tau_storm.specs.declared.totals.Totals.{Totals}
use Rattle.tau_storm.specs.declared.rows.Row.{Row}

abbrev pub no_ends : Totals
no_ends = record { runs = 0; complete = 0; stopped = 0; steps = 0 }

-- the totals with an end more
abbrev pub totals_after : Totals → Bool → ℕ → Totals
totals_after t is_complete steps = record {
  runs = t.runs + 1;
  complete = t.complete + (if is_complete then 1 else 0);
  stopped = t.stopped + (if is_complete then 0 else 1);
  steps = t.steps + steps;
}

-- the totals of some ends and of others
abbrev pub totals_with : Totals → Totals → Totals
totals_with t u = record { runs = t.runs + u.runs; complete = t.complete + u.complete; stopped = t.stopped + u.stopped; steps = t.steps + u.steps }

-- fewer faults, or as many and fewer steps
abbrev pub is_simpler : ℕ → ℕ → Row → Bool
is_simpler faults steps r = nat_lt faults r.faults || ((faults == r.faults) && nat_lt steps r.steps)

-- the row of a first end
abbrev pub first_row : ℕ → ℕ → ℕ → List Entry → Row
first_row seed faults steps script = record { runs = 1; seed = seed; faults = faults; steps = steps; script = script }

-- the row with the ends of another that came behind
abbrev pub row_with : Row → Row → Row
row_with r q = if is_simpler q.faults q.steps r then record q { runs = r.runs + q.runs } else record r { runs = r.runs + q.runs }

-- the outcome that a row tells
abbrev pub outcome_of : List ℕ → Row → Outcome
outcome_of lines r = record { lines = lines; runs = r.runs; seed = r.seed; faults = r.faults; steps = r.steps; script = r.script }

abbrev pub outcomes_of : List (Vec ℕ Global × Row) → List Outcome
outcomes_of rows = map (λ p. outcome_of p.0.items p.1) rows

-- a row is added to the one with its lines, or behind the others where none has them
pub data AddsRow (lines : List ℕ) (q : Row) (old new : List (Vec ℕ Global × Row)) : Type 0 where
  there : (place : ℕ) (k : Vec ℕ Global) (r : Row) → slice_get old place ≡ Some (k, r) → k.items ≡ lines → new ≡ set_value_at old place (row_with r q) → AddsRow lines q old new
  missing : (k : Vec ℕ Global) → All (λ p. p.0.items ≢ lines) old → k.items ≡ lines → new ≡ old ++ (k, q) ∷ [] → AddsRow lines q old new

-- so it is added to the row at a place
abbrev pub AddsAt : ℕ → Row → List (Vec ℕ Global × Row) → List (Vec ℕ Global × Row) → Type 0
AddsAt place q old new = (k : Vec ℕ Global) (r : Row) → slice_get old place ≡ Some (k, r) → new ≡ set_value_at old place (row_with r q)
