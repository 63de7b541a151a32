use Rattle.std.proofs.Common.{◌≡◌, None, arith}
use Rattle.tau_trace.specs.Run.{step_at}
use Rattle.tau_report.proofs.Prefixes.{past_last}
use Rattle.std.proofs.Common.{sym}
use Rattle.tau_scene.proofs.Saving.{states_next}
use Rattle.tau_scene.proofs.notes.keeping.note.Goals as goal

pub unreachable-requires : goal.unreachable-requires
unreachable-requires c =
    let none : None ≡ step_at c.args.trace.now.run c.args.place = c.in_default.ensures in
    omega (arith, past_last c.args.trace.now.run c.args.place none, c.requires.place)

pub returns-clause-states : goal.returns-clause-states
returns-clause-states c opening h = states_next c.args.trace.now.run c.requires.well_formed opening c.args.place c.in-Some.step.now c.args.states.now.records c.note.new.self.records (sym c.in-Some.ensures) c.in_ok-note.ensures.ok h
