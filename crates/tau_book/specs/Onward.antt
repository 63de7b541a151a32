-- What is made of a book that has steps (docs/rules.md, "Workers").
use Rattle.std.specs.Prelude.{◌≡◌, List, ◌++◌}
use Rattle.tau_trace.specs.declared.step.Step.{Step}
use Rattle.tau_trace.specs.Run.{Run}
use Rattle.tau_book.specs.Books.{Booked}

-- the steps of the first run begin those of the second
abbrev pub BeginsWith : Run → Run → Type 0
BeginsWith old new = (more : List Step) × (new.steps ≡ old.steps ++ more)

-- the book is of the same program and limit, and the old steps begin its steps
pub record GoesOnFrom (old new : Booked) : Type 0 where
  pub program : new.system.program ≡ old.system.program
  pub limit : new.limit ≡ old.limit
  pub begins : BeginsWith old.system.run new.system.run
