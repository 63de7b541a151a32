-- Turns that a seat has seen over.
use Rattle.std.proofs.Common.{◌≡◌, ℕ, ◌<◌, ◌≤◌, List, ◌++◌, length, refl, sym, ap, ◌∙◌, subst, arith, length-append}
use Rattle.std.specs.Prelude.{Result, Ok, Err, OnErr}
use Rattle.tau_tree.specs.declared.programs.Program.{Program}
use Rattle.tau_trace.specs.declared.step.Step.{Step}
use Rattle.tau_trace.specs.Run.{Run, Agree, len}
use Rattle.tau_trace.specs.Turns.{Turn}
use Rattle.tau_trace.proofs.Agreement.{agree_below, same_at}
use Rattle.tau_eval.specs.Turn.{TurnSoFar}
use Rattle.tau_book.specs.Working.{IsOpenFrom}
use Rattle.tau_book.specs.Hands.{Held}
use Rattle.tau_book.specs.Lefts.{IsLeftOf}
use Rattle.tau_book.proofs.HandsLeft.{left_longer}
use Rattle.tau_seat.specs.Lists.{bare, Begins}
use Rattle.tau_seat.specs.Keys.{run_of}
use Rattle.tau_seat.specs.Beginnings.{get_front}
use Rattle.tau_seat.specs.Seated.{Seated, seen_run}
use Rattle.tau_seat.specs.SeatPlaces.{IsSeenOver}
use Rattle.tau_seat.proofs.Sums.{bare_append, length_bare}

-- a turn that is open after a longer front is open after each shorter one that has its Take
open_in_front : (T : Run) (who k n place m : ℕ) → place < k → k ≤ n → Turn T who n place m → Turn T who k place m
open_in_front T who k n place m begun within u = record { before = begun; takes = u.takes; goes_on = λ j l b. u.goes_on j l (omega (arith, b, within)) }

run_agrees : (P : Program) (xs ys : List Step) → Agree (run_of P (xs ++ ys)) (run_of P xs) (length xs)
run_agrees P xs ys = record { opening = refl; steps = λ j l. get_front xs ys j l }

module _ (o n : Seated) (p : n.program ≡ o.program) (b : Begins o.seen n.seen) where
  seen_agrees : Agree (seen_run n) (seen_run o) (len (seen_run o))
  seen_agrees =
      let steps_are : bare n.seen ≡ bare o.seen ++ bare b.0 = ap bare b.1 ∙ bare_append o.seen b.0 in
      let run_is : seen_run n ≡ run_of o.program (bare o.seen ++ bare b.0) = λ i. run_of (p i) (steps_are i) in
      subst (λ (T : Run). Agree T (seen_run o) (len (seen_run o))) (sym run_is) (run_agrees o.program (bare o.seen) (bare b.0))

seen_longer : (o n : Seated) → Begins o.seen n.seen → len (seen_run o) ≤ len (seen_run n)
seen_longer o n b = omega (arith, length_bare o.seen, length_bare n.seen, ap length b.1, length-append o.seen b.0)

-- what was seen over stays so
pub over_longer : (first o n : Seated) → n.program ≡ o.program → Begins o.seen n.seen → (job : TurnSoFar) → IsSeenOver first o job → IsSeenOver first n job
over_longer first o n p b job h =
    let over : (who m : ℕ) → ¬ Turn (seen_run n) who h.moment job.place m = λ who m u. h.over who m (((same_at (seen_run n) (seen_run o) h.moment (agree_below h.moment h.until (seen_agrees o n p b))).turn who job.place m).0 u) in
    let until : h.moment ≤ len (seen_run n) = omega (arith, h.until, seen_longer o n b) in
    record {
      moment = h.moment;
      since = h.since;
      until = until;
      over = over;
      stays = λ begun f. over f.who f.message (open_in_front (seen_run n) f.who h.moment (len (seen_run n)) job.place f.message begun until f.turn);
    }

-- a turn that isn't open now is seen over
pub over_now : (first n : Seated) (T : Run) → T ≡ seen_run n → Begins first.seen n.seen → (job : TurnSoFar) → ¬ IsOpenFrom T job.place → IsSeenOver first n job
over_now first n T is b job closed =
    let now : ¬ IsOpenFrom (seen_run n) job.place = subst (λ (U : Run). ¬ IsOpenFrom U job.place) is closed in
    record {
      moment = len (seen_run n);
      since = seen_longer first n b;
      until = omega arith;
      over = λ who m u. now (record { who = who; message = m; turn = u });
      stays = λ _. now;
    }

-- what is left stays so while more is seen
pub seen_left : (first o n : Seated) (h k : Held) → n.program ≡ o.program → Begins o.seen n.seen → IsLeftOf (IsSeenOver first o) h k → IsLeftOf (IsSeenOver first n) h k
seen_left first o n h k p b left = left_longer (IsSeenOver first o) (IsSeenOver first n) h k (over_longer first o n p b) left

-- what holds where the answer is an error
pub on_err : {A E X : Type 0} (r : Result A E) → X → OnErr r X
on_err (Ok a) x = tt
on_err (Err e) x = x
