-- What a source in memory is.
use Rattle.std.specs.Prelude.{ℕ, List, ◌++◌, take, drop}
use Rattle.tau_io.specs.declared.sources.Got.{Got}
use Rattle.tau_io.specs.declared.sources.Got.TheVariants.{Bytes, End, Failed}
use Rattle.tau_io.specs.Faults.{one_more}

-- the bytes left, the most bytes that a call gives, the numbers of the calls that fail, and the
-- calls and the faults so far
pub record Feed : Type 0 where
  pub left : List ℕ
  pub piece : ℕ
  pub fails : List ℕ
  pub calls : ℕ
  pub faults : ℕ

-- the feed after a call with this answer
abbrev pub after_read : Feed → Got → Feed
after_read f (Bytes n) = record f { left = drop n f.left; calls = one_more f.calls }
after_read f End = record f { calls = one_more f.calls }
after_read f Failed = record f { calls = one_more f.calls; faults = one_more f.faults }

-- a buffer after a read with this answer, of a source that had `left`
abbrev pub filled_by : Got → List ℕ → List ℕ → List ℕ
filled_by (Bytes n) left into = take n left ++ drop n into
filled_by End left into = into
filled_by Failed left into = into
