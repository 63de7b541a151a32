-- What a contract sees of a journal.
use Rattle.std.specs.Prelude.{ℕ}
use Rattle.tau_journal.specs.declared.journal.Journal.{Journal}

-- the place of the closed gate behind its records
abbrev pub gate_of : Journal → ℕ
gate_of j = j.gate
