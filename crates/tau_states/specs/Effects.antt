-- The record of a transactor after a step, and what a step changes.
use Rattle.std.specs.Prelude.{ℕ, ◌+◌, ◌-◌, ◌^◌, min, true, false, ◌||◌, ◌==◌, List, [], ◌∷◌, ◌++◌, Option, Some, None, slice_get, slice_set}
use Rattle.tau_value.specs.declared.shared.Value.{Value}
use Rattle.tau_history.specs.Timeline.{Move, keep, stabilize, close, fall}
use Rattle.tau_trace.specs.declared.step.Step.{Step}
use Rattle.tau_trace.specs.declared.step.Step.TheVariants.{Set, New}
use Rattle.tau_trace.specs.Steps.{actor}
use Rattle.tau_trace.specs.Histories.{move_of}
use Rattle.tau_states.specs.declared.state_record.StateRecord.{StateRecord}
use Rattle.tau_states.specs.declared.change.Change.{Change}
use Rattle.tau_states.specs.declared.change.Change.TheVariants as changes
use Rattle.tau_states.specs.declared.change.Effect.{Effect}
use Rattle.tau_states.specs.declared.change.Effect.TheVariants as effects

-- a start transactor at the opening, and a transactor right after its New
abbrev pub started : Value → StateRecord
started v = record { interval = 1; stable = false; ended = false; state = v; base = v }

abbrev pub created : Value → Value → StateRecord
created state base = record { interval = 0; stable = false; ended = false; state = state; base = base }

-- one interval more, in 32 bits
abbrev pub next_interval : ℕ → ℕ
next_interval i = min (i + 1) (2 ^ 32 - 1)

-- the record of a transactor after a Checkpoint that saves a value, and after a falling step back to a value
abbrev pub record_closed : Value → StateRecord → StateRecord
record_closed base r = record { interval = next_interval r.interval; stable = false; ended = r.ended; state = r.state; base = base }

abbrev pub record_fallen : Value → StateRecord → StateRecord
record_fallen state r = record { interval = r.interval; stable = false; ended = r.ended || (r.interval == 0); state = state; base = r.base }

-- the record after a move of its transactor's history
abbrev pub record_moved : Move → StateRecord → StateRecord
record_moved keep r = r
record_moved stabilize r = record r { stable = true }
record_moved close r = record_closed r.state r
record_moved fall r = record_fallen r.base r

-- the record of a transactor after a step of its own: a Set gives the state, and other steps make their move
abbrev pub record_after : Step → StateRecord → StateRecord
record_after (Set t v) r = record r { state = v }
record_after s r = record_moved (move_of r.stable s) r

-- the record with an effect
abbrev pub effected : Effect → StateRecord → StateRecord
effected effects.Nothing r = r
effected (effects.Set v) r = record r { state = v }
effected effects.Stabilize r = record r { stable = true }
effected (effects.Checkpoint v) r = record_closed v r
effected (effects.Fall v) r = record_fallen v r

-- the records after transactor t's own step, by its record
abbrev pub noted_at : Step → List StateRecord → ℕ → Option StateRecord → List StateRecord
noted_at s rs t None = rs
noted_at s rs t (Some r) = slice_set rs t (record_after s r)

-- the records after the own step of a transactor
abbrev pub noted_of : Step → List StateRecord → Option ℕ → List StateRecord
noted_of s rs None = rs
noted_of s rs (Some t) = noted_at s rs t (slice_get rs t)

-- the records after a step
abbrev pub records_after : Step → List StateRecord → List StateRecord
records_after (New t b n v) rs = rs ++ created v v ∷ []
records_after s rs = noted_of s rs (actor s)

-- the records with an effect on transactor t's, by its record
abbrev pub effected_at : Effect → List StateRecord → ℕ → Option StateRecord → List StateRecord
effected_at e rs t None = rs
effected_at e rs t (Some r) = slice_set rs t (effected e r)

-- the records with a change
abbrev pub changed : Change → List StateRecord → List StateRecord
changed changes.Nothing rs = rs
changed (changes.Own t e) rs = effected_at e rs t (slice_get rs t)
changed (changes.New state base) rs = rs ++ created state base ∷ []
