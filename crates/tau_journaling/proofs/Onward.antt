-- How a book goes on, and what is kept of it meanwhile.
use Rattle.std.proofs.Common.{◌≡◌, ◌≤◌, inl, inr, arith, ℕ, [], ◌∷◌, ap, ◌∙◌}
use Rattle.tau_io.specs.Faults.{HasRisen}
use Rattle.tau_trace.specs.declared.step.Step.{Step}
use Rattle.tau_trace.specs.Run.{Run, appended}
use Rattle.tau_rules.specs.System.{Core, with_step}
use Rattle.tau_book.specs.Books.{Booked}
use Rattle.tau_book.specs.Onward.{BeginsWith}
pub use Rattle.tau_book.proofs.Onward.{begins_itself, begins_further, goes_nowhere, goes_further}

-- a book with one step more
pub one_step_more : (b c : Booked) (s : Step) → c.system ≡ with_step b.system s → BeginsWith b.system.run c.system.run
one_step_more b c s made = (s ∷ [], ap (λ (k : Core). k.run.steps) made)

pub last_is : (b c : Booked) (s : Step) → c.system ≡ with_step b.system s → (U : Run) → U ≡ c.system.run → U ≡ appended b.system.run s
last_is b c s made U is = is ∙ ap (λ (k : Core). k.run) made

-- a count that rose after it didn't fall
pub risen_later : (a b c : ℕ) → a ≤ b → HasRisen b c → HasRisen a c
risen_later a b c le (inl more) = inl (omega (arith, le, more))
risen_later a b c le (inr last) = inr last
