-- Calls of the book in a seat's turn.
use Rattle.std.proofs.Common.{◌≡◌, ◌⊎◌, inl, inr, ⊎_elim, ℕ, ◌<◌, Bool, true, false, List, [], ◌∷◌, ◌++◌, length, Option, Some, refl, sym, ap, ◌∙◌, subst}
use Rattle.std.specs.Prelude.{Result, Ok, Err, IfOk, OnErr}
use Rattle.tau_tree.specs.declared.programs.Program.{Program}
use Rattle.tau_trace.specs.declared.step.Step.{Step}
use Rattle.tau_trace.specs.Run.{Run}
use Rattle.tau_trace.specs.declared.step.Step.TheVariants.{Take, Drop, Fall, Void, Echo, Heed}
use Rattle.tau_rules.specs.System.{Core, with_step}
use Rattle.tau_rules.specs.Answers.{IsDelivered}
use Rattle.tau_rules.specs.declared.answers.Delivered.{Delivered}
use Rattle.tau_rules.specs.declared.answers.Delivered.TheVariants.{Began, Dropped, Fell, Voided, Echoed, Heeded}
use Rattle.tau_book.specs.declared.answers.Next.{Next}
use Rattle.tau_book.specs.declared.answers.Next.TheVariants as nexts
use Rattle.tau_book.specs.declared.answers.Told.{Told}
use Rattle.tau_book.specs.declared.answers.Told.TheVariants as tolds
use Rattle.tau_book.specs.Hands.{Held}
use Rattle.tau_book.specs.Books.{Booked, IsBook}
use Rattle.tau_book.specs.Nexts.{IsNext}
use Rattle.tau_book.specs.Tolds.{IsTold, IsTurnStep, goes_on, is_over}
use Rattle.tau_eval.specs.Turn.{TurnSoFar}
use Rattle.tau_seat.specs.Keys.{Key, key_of, steps_of, run_of, IsSound}
use Rattle.tau_seat.specs.Answers.{appends, has_stepped, tells_step, has_made}

-- one step was appended to the book, or none
abbrev pub Appends : Bool → Booked → Booked → Type 0
Appends true b c = (s : Step) × (c.system ≡ with_step b.system s) × (c.limit ≡ b.limit)
Appends false b c = (c.system ≡ b.system) × (c.limit ≡ b.limit)

delivered_step : (o n : Core) (m : ℕ) (a : Delivered) → IsDelivered o n m a → (s : Step) × (n ≡ with_step o s)
delivered_step o n m (Began job) d = (Take job.who m, d.appended)
delivered_step o n m Dropped d = (Drop d.0 m, d.1)
delivered_step o n m Fell d = (Fall d.0 m, d.1)
delivered_step o n m Voided d = (Void d.0 m, d.1)
delivered_step o n m Echoed d = (Echo d.0 m, d.1)
delivered_step o n m Heeded d = (Heed d.0 m, d.1)

next_appends : (b c : Booked) (h k : Held) (a : Next) → IsNext b c h k a → Appends (appends a) b c
next_appends b c h k nexts.Complete n = (ap (λ x. x.system) n.1, ap (λ x. x.limit) n.1)
next_appends b c h k nexts.Stopped n = (ap (λ x. x.system) n.2, ap (λ x. x.limit) n.2)
next_appends b c h k (nexts.Idle out) n = (ap (λ x. x.system) n.book_is, ap (λ x. x.limit) n.book_is)
next_appends b c h k (nexts.Work job) n = (ap (λ x. x.system) n.book_is, ap (λ x. x.limit) n.book_is)
next_appends b c h k nexts.Stepped n =
    ⊎_elim (λ d. (d.step, d.appended.system_is, d.appended.limit_is)) (λ r. let d = delivered_step b.system c.system r.message r.answer r.delivered in (d.0, d.1, r.limit_is)) n

pub next_made : {E : Type 0} (b c : Booked) (h k : Held) (r : Result Next E) → IfOk r (IsNext b c h k) → OnErr r (c ≡ b) → Appends (has_stepped r) b c
next_made b c h k (Ok a) ok err = next_appends b c h k a ok
next_made b c h k (Err e) ok err = (ap (λ x. x.system) err, ap (λ x. x.limit) err)

told_appends : (b c : Booked) (h k : Held) (p : TurnSoFar) (a : Told) → IsTold b c h k p a → Appends (tells_step a) b c
told_appends b c h k p tolds.Stopped n = (ap (λ x. x.system) n.1, ap (λ x. x.limit) n.1)
told_appends b c h k p (tolds.Later back) n = let d = n.0 in (d.step, d.appended.system_is, d.appended.limit_is)
told_appends b c h k p (tolds.Stale ended_by) n = (ap (λ x. x.system) n.book_is, ap (λ x. x.limit) n.book_is)
told_appends b c h k p tolds.Redone n = (ap (λ x. x.system) n.book_is, ap (λ x. x.limit) n.book_is)
told_appends b c h k p tolds.Stepped (goes_on tried hand) = let a = tried.acted in (a.0, a.1.appended, tried.limit_is)
told_appends b c h k p tolds.Stepped (is_over tried hand) = let a = tried.acted in (a.0, a.1.appended, tried.limit_is)

pub told_made : {E : Type 0} (b c : Booked) (h k : Held) (p : TurnSoFar) (r : Result Told E) → IfOk r (IsTold b c h k p) → OnErr r (c ≡ b) → Appends (has_made r) b c
told_made b c h k p (Ok a) ok err = told_appends b c h k p a ok
told_made b c h k p (Err e) ok err = (ap (λ x. x.system) err, ap (λ x. x.limit) err)

-- a book's steps are sound for what it is of
pub book_sound : (b : Booked) → IsBook b → IsSound (key_of b) (steps_of b)
book_sound b h =
    let opening : b.system.run ≡ run_of b.system.program b.system.run.steps = λ i. record { opening = h.legal.opening i; steps = b.system.run.steps } in
    record {
      well_formed = subst Rattle.tau_trace.specs.Known.WellFormed opening h.well_formed;
      legal = subst (Rattle.tau_legal.specs.Traces.Legal b.system.program) opening h.legal;
      limited = h.limited;
    }

pub same_key : (g : Bool) (b c : Booked) → Appends g b c → key_of c ≡ key_of b
same_key true b c a = λ i. record { program = (a.1 i).program; limit = a.2 i }
same_key false b c a = λ i. record { program = (a.0 i).program; limit = a.1 i }

pub one_step : (g : Bool) (b c : Booked) → Appends g b c → g ≡ true → (s : Step) × (steps_of c ≡ steps_of b ++ s ∷ [])
one_step true b c a e = (a.0, ap (λ x. x.run.steps) a.1)
one_step false b c a e = absurd (Rattle.std.proofs.Common.true≢false (sym e))

pub no_step : (g : Bool) (b c : Booked) → Appends g b c → g ≡ false → steps_of c ≡ steps_of b
no_step true b c a e = absurd (Rattle.std.proofs.Common.true≢false e)
no_step false b c a e = ap (λ x. x.run.steps) a.0
