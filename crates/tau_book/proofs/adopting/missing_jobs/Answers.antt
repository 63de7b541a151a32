use Rattle.std.proofs.Common.{◌<◌, ◌∙◌, ℕ, List, length, get_or, take, sym, subst, arith}
use Rattle.std.proofs.lemmas.List.{take_more, take_all}
use Rattle.std.proofs.lemmas.List.Elements.{Contains-get_or}
use Rattle.tau_tree.specs.declared.programs.Program.{Program}
use Rattle.tau_trace.specs.Run.{Run}
use Rattle.tau_book.specs.Adopted.{AreMissing}
use Rattle.tau_book.proofs.AdoptLemmas.{none_missing}
use Rattle.tau_book.proofs.adopting.missing_jobs.Goals as goal

pub loop-turn-init : goal.loop-turn-init
loop-turn-init g c = none_missing c.args.scripted.now.system.program c.args.scripted.now.system.run c.args.jobs.now c.new-made.result.items c.new-made.ensures.items

pub add_missing-requires : goal.add_missing-requires
add_missing-requires g c =
    let turns : List ℕ = c.turns-turns.result.now in
    let k : ℕ = c.loop-turn.turn-index in
    let lt : k < length turns = omega (arith, c.loop-turn-test.true) in
    (c.turns-turns.ensures.turns.each (get_or turns k 0)).0 (Contains-get_or turns k 0 lt)

pub loop-turn-preserved : goal.loop-turn-preserved
loop-turn-preserved g c =
    let P : Program = c.args.scripted.now.system.program in
    let T : Run = c.args.scripted.now.system.run in
    let turns : List ℕ = c.turns-turns.result.now in
    let k : ℕ = c.loop-turn.turn-index in
    let lt : k < length turns = omega (arith, c.loop-turn-test.true) in
    subst (λ (ts : List ℕ). AreMissing P T c.args.jobs.now ts c.add_missing.new.made.items) (sym (take_more turns k 0 lt)) (c.in_ok-add_missing.ensures (take k turns) c.loop-turn.invariant)

pub returns : goal.returns
returns g c =
    let P : Program = c.args.scripted.now.system.program in
    let T : Run = c.args.scripted.now.system.run in
    let turns : List ℕ = c.turns-turns.result.now in
    subst (λ (ts : List ℕ). AreMissing P T c.args.jobs.now ts c.loop-turn.made.items) (take_all c.loop-turn.turn-index turns (omega (arith, c.loop-turn-test.false)) ∙ c.turns-turns.ensures.value) c.loop-turn.invariant
