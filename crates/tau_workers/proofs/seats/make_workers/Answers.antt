use Rattle.std.proofs.Common.{◌≡◌, ◌+◌, ◌-◌, ◌<◌, ◌++◌, ◌∷◌, [], zero, suc, length, drop, All, slice_index_or, rules, refl, ap, sym, subst, ◌∙◌, arith}
use Rattle.std.proofs.lemmas.List.{length-append, length-drop, length-take-le}
use Rattle.std.proofs.lemmas.List.Elements.{All-append}
use Rattle.tau_workers.specs.Inner.Seats.{IsSeatOf, HasOne}
use Rattle.tau_workers.proofs.Joins.{hands_end, one_more}
use Rattle.tau_workers.proofs.seats.make_workers.Goals as goal

pub loop-number-preserved : goal.loop-number-preserved
loop-number-preserved c =
    let t = c.args.table.now in
    let was = c.loop-number.invariant in
    let w = c.in_ok-make_worker.field-0 in
    let rest = c.loop-number.rest in
    let items : c.push.new.self.items ≡ c.loop-number.workers.items ++ w ∷ [] = c.in_ok-push.ensures.items in
    let back = ap (λ s. length s.numbers) c.split-one.ensures.second in
    record {
      hands = hands_end c.args.settings.seed c.args.settings.jobs (c.loop-number.number + 1) c.loop-number.number c.loop-number.number c.loop-number.workers.items c.push.new.self.items w items was.hands refl c.in_ok-make_worker.ensures.hand (omega arith);
      many = omega (arith, ap length items, length-append c.loop-number.workers.items (w ∷ []), was.many);
      ones = one_more t c.loop-number.workers.items c.push.new.self.items w items was.ones (subst (λ s. IsSeatOf t s × (length s.numbers ≡ 1)) (sym (c.in_ok-make_worker.ensures.seat ∙ c.split-one.ensures.first)) (was.seat, length-take-le 1 rest.numbers (omega (arith, was.left, c.loop-number-test.true))));
      seat = subst (IsSeatOf t) (sym c.split-one.ensures.second) was.seat;
      left = omega (arith, back, length-drop 1 rest.numbers, was.left, c.loop-number-test.true);
    }

pub returns-clause-hands : goal.returns-clause-hands
returns-clause-hands c = hands_end c.args.settings.seed c.args.settings.jobs c.args.settings.workers c.loop-number.number (c.args.settings.workers - 1) c.loop-number.workers.items c.push-2.new.self.items c.in_ok-make_worker-2.field-0 c.in_ok-push-2.ensures.items c.loop-number.invariant.hands (search rules) c.in_ok-make_worker-2.ensures.hand (search rules)
