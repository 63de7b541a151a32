-- What an entry says.
use Rattle.std.specs.Prelude.{ℕ, List, map}
use Rattle.tau_history.specs.Timeline.{Timeline}
use Rattle.tau_view.specs.declared.entry.Entry.{Entry}

-- the transactor and its history
abbrev pub entry_of : Entry → ℕ × Timeline
entry_of e = (e.who, e.history.history)

abbrev pub entries_of : List Entry → List (ℕ × Timeline)
entries_of es = map entry_of es
