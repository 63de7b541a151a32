-- Books that go on.
use Rattle.std.proofs.Common.{◌≡◌, List, [], ◌∷◌, ◌++◌, refl, sym, ap, ◌∙◌, append-nil, append_assoc}
use Rattle.tau_trace.specs.declared.step.Step.{Step}
use Rattle.tau_trace.specs.Run.{Run}
use Rattle.tau_rules.specs.System.{Core, with_step}
use Rattle.tau_book.specs.Books.{Booked}
use Rattle.tau_book.specs.Onward.{BeginsWith, GoesOnFrom}

pub begins_itself : (T : Run) → BeginsWith T T
begins_itself T = ([], sym (append-nil T.steps))

pub begins_further : (S T U : Run) → BeginsWith S T → BeginsWith T U → BeginsWith S U
begins_further S T U x y = (x.0 ++ y.0, y.1 ∙ ap (λ (ss : List Step). ss ++ y.0) x.1 ∙ append_assoc S.steps x.0 y.0)

pub goes_nowhere : (b : Booked) → GoesOnFrom b b
goes_nowhere b = record { program = refl; limit = refl; begins = begins_itself b.system.run }

pub goes_further : (a b c : Booked) → GoesOnFrom a b → GoesOnFrom b c → GoesOnFrom a c
goes_further a b c x y = record { program = y.program ∙ x.program; limit = y.limit ∙ x.limit; begins = begins_further a.system.run b.system.run c.system.run x.begins y.begins }

-- with one step more, and with none
pub one_step : (b c : Booked) (s : Step) → c.system ≡ with_step b.system s → c.limit ≡ b.limit → GoesOnFrom b c
one_step b c s e limit = record { program = ap (λ (k : Core). k.program) e; limit = limit; begins = (s ∷ [], ap (λ (k : Core). k.run.steps) e) }

pub no_step : (b c : Booked) → c.system ≡ b.system → c.limit ≡ b.limit → GoesOnFrom b c
no_step b c e limit = record { program = ap (λ (k : Core). k.program) e; limit = limit; begins = ([], ap (λ (k : Core). k.run.steps) e ∙ sym (append-nil b.system.run.steps)) }
