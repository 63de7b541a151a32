-- What a seat knows of jobs: that they were records of open turns (docs/rules.md, "Seats").
use Rattle.tau_eval.specs.Turn.{TurnSoFar}
use Rattle.tau_rules.specs.KnownJobs.{WasOpenJob}
use Rattle.tau_seat.specs.Seated.{Seated, seen_run}

-- at some moment of the run that the seat has seen the job was the record of a turn that was open then
abbrev pub IsSeenOpen : Seated → TurnSoFar → Type 0
IsSeenOpen s job = WasOpenJob s.program (seen_run s) job
