use Rattle.std.proofs.Common.{arith, refl, sym}
use Rattle.std.proofs.lemmas.Result.{IfOk-weaker}
use Rattle.tau_past.specs.Tables.{TellsHistory, all_born}
use Rattle.tau_past.proofs.NextTables.{acts_told, lists_read, last_small, interval_small, histories_own, histories_other, nobody}
use Rattle.tau_past.proofs.noting.note_history.Goals as goal

pub returns-in_default-actor : goal.returns-in_default-actor
returns-in_default-actor c =
    let T = c.args.trace.now.run in
    let k = c.args.place in
    histories_other T k _ (nobody T k c.in-Some.step.now (sym c.in-Some.ensures) (sym c.in_default-actor.ensures)) c.requires.told

pub index_mut-requires : goal.index_mut-requires
index_mut-requires c =
    omega (arith, acts_told c.args.trace.now.run c.in-Some-actor.who c.args.place c.in-Some.step.now c.requires.well_formed c.requires.place (sym c.in-Some.ensures) (sym c.in-Some-actor.ensures), c.requires.told.count, c.args.histories.now.ok.0)

pub make_move-requires-clause-incarnation : goal.make_move-requires-clause-incarnation
make_move-requires-clause-incarnation c =
    let T = c.args.trace.now.run in
    let k = c.args.place in
    let t = c.in-Some-actor.who in
    let lt = acts_told T t k c.in-Some.step.now c.requires.well_formed c.requires.place (sym c.in-Some.ensures) (sym c.in-Some-actor.ensures) in
    last_small T t k _ c.requires.well_formed c.requires.place (lists_read (all_born T) (TellsHistory T k) _ t _ lt c.index_mut.ensures.value c.requires.told)

pub make_move-requires-clause-interval : goal.make_move-requires-clause-interval
make_move-requires-clause-interval c =
    let T = c.args.trace.now.run in
    let k = c.args.place in
    let t = c.in-Some-actor.who in
    let lt = acts_told T t k c.in-Some.step.now c.requires.well_formed c.requires.place (sym c.in-Some.ensures) (sym c.in-Some-actor.ensures) in
    interval_small T t k _ c.requires.well_formed c.requires.place (lists_read (all_born T) (TellsHistory T k) _ t _ lt c.index_mut.ensures.value c.requires.told)

pub returns : goal.returns
returns c =
    let T = c.args.trace.now.run in
    let k = c.args.place in
    let t = c.in-Some-actor.who in
    let lt = acts_told T t k c.in-Some.step.now c.requires.well_formed c.requires.place (sym c.in-Some.ensures) (sym c.in-Some-actor.ensures) in
    let at = lists_read (all_born T) (TellsHistory T k) _ t _ lt c.index_mut.ensures.value c.requires.told in
    IfOk-weaker c.make_move.result _ _
    (λ _ made. histories_own T k t c.in-Some.step.now c.args.histories.now.items _ c.index_mut.result.now c.make_move.new.history (sym c.in-Some.ensures) (sym c.in-Some-actor.ensures) lt refl at made c.requires.told) c.make_move.ensures
