-- What was heard, with what is noted of present points, is right.
use Rattle.std.specs.Prelude.{false, [], ℕ, Option}
use Rattle.tau_trace.specs.Run.{Run, len}
use Rattle.tau_heard.specs.Hears.{Knows}
use Rattle.tau_heard.specs.After.{Leads}
use Rattle.tau_verdicts.specs.declared.change.MarkedChange.{MarkedChange}
use Rattle.tau_verdicts.specs.declared.marked.MarkedHearing.{MarkedHearing}
use Rattle.tau_verdicts.specs.Doomed.{flag_of, takers_of, AreDoomed, cleared}
use Rattle.tau_verdicts.specs.Freedom.{AreFree}

-- what was heard is right for the whole run, and so is what is noted of present points
abbrev pub KnowsMarked : MarkedHearing → Run → Type 0
KnowsMarked h T = Knows h.hearing T × AreDoomed T (len T) (flag_of h.doomed.items) (takers_of h.takers.items) × AreFree T (len T) (flag_of h.free.items)

-- what is noted is right for the run, where this transactor has left its point, or none has
abbrev pub LeadsNoted : MarkedHearing → Option ℕ → Run → Type 0
LeadsNoted h leaves T = AreDoomed T (len T) (cleared leaves false (flag_of h.doomed.items)) (cleared leaves [] (takers_of h.takers.items))

-- with this change both are right for the run
pub record LeadsMarked (h : MarkedHearing) (c : MarkedChange) (T : Run) : Type 0 where
  pub hearing : Leads h.hearing c.change T
  pub noted : LeadsNoted h c.leaves T
  pub free : AreFree T (len T) (cleared c.leaves false (flag_of h.free.items))
