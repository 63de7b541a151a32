use Rattle.std.proofs.Common.{arith, sym, ◌∙◌, ap, subst, ◌≡◌, Some, ◌↔◌, Option}
use Rattle.tau_points.specs.declared.point.Point.{Point}
use Rattle.tau_past.specs.Tables.{TellsHistory, TakesAt, all_born}
use Rattle.tau_past.specs.TableSteps.{point_of}
use Rattle.tau_past.proofs.NextTables.{acts_told, lists_read, taker_told, takes_nobody, nobody}
use Rattle.tau_past.proofs.noting.taker_at.Goals as goal

pub bounds-histories-who : goal.bounds-histories-who
bounds-histories-who c =
    omega (arith, acts_told c.args.trace.now.run c.in-Some-actor.who c.args.place c.in-Some.step.now c.requires.well_formed c.requires.place (sym c.in-Some.ensures) (sym c.in-Some-actor.ensures), c.requires.histories.count)

pub returns-in_default-actor : goal.returns-in_default-actor
returns-in_default-actor c =
    let T = c.args.trace.now.run in
    takes_nobody T c.args.place (nobody T c.args.place c.in-Some.step.now (sym c.in-Some.ensures) (sym c.in_default-actor.ensures))

pub returns : goal.returns
returns c = λ p.
    let T = c.args.trace.now.run in
    let k = c.args.place in
    let t = c.in-Some-actor.who in
    let lt = acts_told T t k c.in-Some.step.now c.requires.well_formed c.requires.place (sym c.in-Some.ensures) (sym c.in-Some-actor.ensures) in
    let at = lists_read (all_born T) (TellsHistory T k) _ t _ lt c.index-histories-who.is c.requires.histories in
    let told = taker_told T k t c.args.born c.in-Some.step.now c.point_of-own.result (sym c.in-Some.ensures) (sym c.in-Some-actor.ensures) (c.point_of-own.ensures ∙ ap (point_of t) at) c.requires.born p in
    subst (λ (o : Option Point). TakesAt T p k ↔ (o ≡ Some p)) (sym c.taker.ensures) told
