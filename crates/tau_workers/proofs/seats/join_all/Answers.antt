use Rattle.std.proofs.Common.{◌≡◌, ◌+◌, ◌∷◌, [], length, ap, sym, subst, ◌∙◌, arith}
use Rattle.std.proofs.lemmas.List.{length-append}
use Rattle.tau_workers.specs.Inner.Seats.{IsSeatOf, HasOne}
use Rattle.tau_workers.proofs.Joins.{with_last}
use Rattle.tau_workers.proofs.seats.join_all.Goals as goal

pub loop-worker-preserved : goal.loop-worker-preserved
loop-worker-preserved c =
    let t = c.args.table.now in
    let was = c.loop-worker.invariant in
    let w = c.in-Some.worker in
    let left = c.pop-in-loop-worker.new.self.items in
    let items = c.in-Some.ensures.items in
    let parts = with_last t c.loop-worker.workers.items left w items was.ones in
    let front : HasOne t (record { seat = c.seat_of-front.result; is_complete = w.place.is_complete; knows = w.place.knows }) = subst (λ s. IsSeatOf t s × (length s.numbers ≡ 1)) (sym c.seat_of-front.ensures) parts.1 in
    let names = c.join.ensures.names in
    record {
      ones = parts.0;
      seat = (names.0 ∙ front.0.0, names.1 ∙ front.0.1, names.2 ∙ front.0.2);
      numbers = omega (arith, ap length c.join.ensures.numbers, length-append c.seat_of-front.result.numbers c.loop-worker.seat.numbers, front.1, was.numbers, ap length items, length-append left (w ∷ []));
    }
