use Rattle.std.proofs.Common.{arith, refl, sym, ap, length, ◌∙◌}
use Rattle.tau_trace.specs.Run.{len}
use Rattle.tau_past.specs.Tables.{TellsHistory, all_born}
use Rattle.tau_past.proofs.NextTables.{acts_told, lists_read, turns_own, turns_other, nobody}
use Rattle.tau_past.proofs.noting.note_turn.Goals as goal

pub returns-in_default-actor : goal.returns-in_default-actor
returns-in_default-actor c =
    let T = c.args.trace.now.run in
    let k = c.args.place in
    turns_other T k _ (nobody T k c.in-Some.step.now (sym c.in-Some.ensures) (sym c.in_default-actor.ensures)) c.requires.turns

pub bounds-histories-who : goal.bounds-histories-who
bounds-histories-who c =
    omega (arith, acts_told c.args.trace.now.run c.in-Some-actor.who c.args.place c.in-Some.step.now c.requires.well_formed c.requires.place (sym c.in-Some.ensures) (sym c.in-Some-actor.ensures), c.requires.histories.count)

pub index-turn-requires : goal.index-turn-requires
index-turn-requires c =
    omega (arith, acts_told c.args.trace.now.run c.in-Some-actor.who c.args.place c.in-Some.step.now c.requires.well_formed c.requires.place (sym c.in-Some.ensures) (sym c.in-Some-actor.ensures), c.requires.turns.count, c.args.turns.now.ok.0)

pub index_mut-requires : goal.index_mut-requires
index_mut-requires c =
    omega (arith, acts_told c.args.trace.now.run c.in-Some-actor.who c.args.place c.in-Some.step.now c.requires.well_formed c.requires.place (sym c.in-Some.ensures) (sym c.in-Some-actor.ensures), c.requires.turns.count, c.args.turns.now.ok.0)

pub returns : goal.returns
returns c =
    let T = c.args.trace.now.run in
    let k = c.args.place in
    let t = c.in-Some-actor.who in
    let lt = acts_told T t k c.in-Some.step.now c.requires.well_formed c.requires.place (sym c.in-Some.ensures) (sym c.in-Some-actor.ensures) in
    let at = lists_read (all_born T) (TellsHistory T k) _ t _ lt c.index-histories-who.is c.requires.histories in
    turns_own T k t c.in-Some.step.now c.args.turns.now.items _ c.point_of-own.result c.index-histories-who.result.history c.index-turn.result.now c.turn_after.result c.carrier_of-origin.result c.requires.well_formed c.requires.place (sym c.in-Some.ensures) (sym c.in-Some-actor.ensures)
    at c.point_of-own.ensures c.carrier_of-origin.ensures c.turn_after.ensures c.index-turn.ensures refl c.requires.turns
