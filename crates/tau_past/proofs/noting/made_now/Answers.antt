use Rattle.std.proofs.Common.{arith, sym}
use Rattle.tau_past.specs.Tables.{TellsHistory, all_born}
use Rattle.tau_past.proofs.NextTables.{acts_told, lists_read, made_told}
use Rattle.tau_past.proofs.noting.made_now.Goals as goal

pub bounds-histories-who : goal.bounds-histories-who
bounds-histories-who c =
    omega (arith, acts_told c.args.trace.now.run c.in_ok-who.who c.args.place c.in_ok-step.step.now c.requires.well_formed c.requires.place (sym c.in_ok-step.ensures) (sym c.in_ok-who.ensures), c.requires.histories.count)

pub returns : goal.returns
returns c =
    let T = c.args.trace.now.run in
    let k = c.args.place in
    let t = c.in_ok-who.who in
    let lt = acts_told T t k c.in_ok-step.step.now c.requires.well_formed c.requires.place (sym c.in_ok-step.ensures) (sym c.in_ok-who.ensures) in
    let at = lists_read (all_born T) (TellsHistory T k) _ t _ lt c.index-histories-who.is c.requires.histories in
    made_told T k t c.in_ok-step.step.now c.index-histories-who.result.history c.point_of.result c.is_stable.result c.falls.result (sym c.in_ok-step.ensures) (sym c.in_ok-who.ensures) at c.point_of.ensures c.is_stable.ensures c.falls.ensures
