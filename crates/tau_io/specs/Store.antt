-- What a sink in memory is.
use Rattle.std.specs.Prelude.{ℕ, List, ◌++◌, take}
use Rattle.tau_io.specs.declared.sinks.Put.{Put}
use Rattle.tau_io.specs.declared.sinks.Put.TheVariants.{Bytes, Failed, NoMemory}
use Rattle.tau_io.specs.Faults.{one_more}

-- the bytes held, the most bytes that a call takes, the numbers of the calls that fail, and the
-- calls and the faults so far
pub record Store : Type 0 where
  pub held : List ℕ
  pub piece : ℕ
  pub fails : List ℕ
  pub calls : ℕ
  pub faults : ℕ

-- the store after a call with this answer, which was offered `from`; want of memory counts no call
abbrev pub after_write : Store → Put → List ℕ → Store
after_write s (Bytes n) from = record s { held = s.held ++ take n from; calls = one_more s.calls }
after_write s Failed from = record s { calls = one_more s.calls; faults = one_more s.faults }
after_write s NoMemory from = s
