use Rattle.std.proofs.Common.{◌≡◌, ◌∙◌, List, ℕ, suc, take, arith}
use Rattle.tau_trace.specs.Run.{len}
use Rattle.tau_queue.specs.ScriptedRun.{ScriptedRun}
use Rattle.tau_queue.proofs.Homes.{at_place}
use Rattle.tau_book.specs.Hands.{Held}
use Rattle.tau_book.proofs.Choices.{is_received, delivered_one}
use Rattle.tau_book.proofs.choosing.receive.Goals as goal

pub returns-clause-ok : goal.returns-clause-ok
returns-clause-ok g c = λ limit below.
    let s : ScriptedRun = c.args.scripted.now in
    let h : Held = c.args.hand.now in
    let turns : List ℕ = take c.open_turns-turns.result c.turns.result.now in
    let same : turns ≡ s.turns = (λ i. take (c.open_turns-turns.ensures i) (c.turns.ensures.value i)) ∙ c.in_ok-delivered.ensures.turns in
    is_received s limit c.args.store.now.items h c.requires.can.turns_are c.requires.can.messages_are c.requires.can.none_due below c.deliver.new.self turns c.reserve.new.self.items c.tidy.new.store.items c.tidy.new.hand
    c.take_in.new.self c.args.number c.args.generator c.in_ok-delivered.delivered same c.in_ok-reserve.ensures.items c.requires.number c.requires.drawn c.requires.generator c.in_ok-delivered.ensures.ok
    c.tidy.ensures.store c.tidy.ensures.hand c.take_in.ensures

pub returns-clause-one : goal.returns-clause-one
returns-clause-one g c =
    let s : ScriptedRun = c.args.scripted.now in
    let m = at_place s.messages c.args.number c.requires.number in
    let one : len c.deliver.new.self.system.run ≡ suc (len s.system.run) = delivered_one s.system c.deliver.new.self.system m.0 c.in_ok-delivered.delivered (c.in_ok-delivered.ensures.ok m.0 m.1) in
    omega (arith, one)
