-- What is known of a program's numbers and values where it is printed.
use Rattle.std.specs.Prelude.{◌≡◌, ◌^◌, ◌<◌, Some, All}
use Rattle.tau_value.specs.Numbers.{in_i64}
use Rattle.tau_value.specs.Value.{val_of}
use Rattle.tau_value.specs.Written.{IsWritten}
use Rattle.tau_tree.specs.Code.{Code, int}
use Rattle.tau_tree.specs.Parts.{Throughout}
use Rattle.tau_tree.specs.Sound.{start_names, bodies}
use Rattle.tau_tree.specs.declared.entries.Entry.{Entry}
use Rattle.tau_tree.specs.declared.entries.Failure.{Failure}
use Rattle.tau_tree.specs.declared.entries.Failure.TheVariants.{Fail, Lose, Repeat}
use Rattle.tau_tree.specs.declared.programs.Program.{Program}

-- an integer fits i64
abbrev pub HasFittingInteger : Code → Type 0
HasFittingInteger (int z) = in_i64 z ≡ Some z
HasFittingInteger c = Unit {0}

-- a message fits u32
abbrev pub HasFittingMessage : Failure → Type 0
HasFittingMessage (Fail node) = Unit {0}
HasFittingMessage (Lose message) = message < 2 ^ 32
HasFittingMessage (Repeat message) = message < 2 ^ 32

pub record HasFittingNumbers (e : Entry) : Type 0 where
  pub place : e.at < 2 ^ 32
  pub message : HasFittingMessage e.failure

-- a program's numbers fit their types, and the forms of its values are read back
pub record IsFitting (p : Program) : Type 0 where
  pub integers : All (Throughout HasFittingInteger) (bodies p)
  pub states : All (λ s. IsWritten (start_names p) (val_of s.state)) p.starts
  pub posts : All (λ q. IsWritten (start_names p) (val_of q.value)) p.posts
  pub entries : All HasFittingNumbers p.script
