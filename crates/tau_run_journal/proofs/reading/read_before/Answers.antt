use Rattle.std.proofs.Common.{Some, subst}
use Rattle.tau_run_journal.specs.declared.faults.RecordFault.TheVariants.{Item}
use Rattle.tau_run_journal.specs.Inner.Items.{TellsProgram}
use Rattle.tau_run_journal.proofs.Once.{no_program}
use Rattle.tau_run_journal.proofs.Standings.{no_text, some_text, faulty_behind, faulty_within, passed_again}
use Rattle.tau_run_journal.proofs.reading.read_before.Goals as goal

pub pass-requires-clause-some : goal.pass-requires-clause-some
pass-requires-clause-some c = faulty_behind c.args.records.now c.args.place c.requires.faulty

pub pass-requires-clause-within : goal.pass-requires-clause-within
pass-requires-clause-within c = faulty_within c.args.records.now c.args.place c.requires.faulty

pub pass-requires-clause-first : goal.pass-requires-clause-first
pass-requires-clause-first c = some_text c.args.records.now c.in-Some.program c.in_ok-first.first c.in-Some.is c.in_ok-first.ensures

pub returns-clause-read : goal.returns-clause-read
returns-clause-read c =
    let s = c.in_ok-before-in-Some.before in
    (passed_again c.args.records.now c.args.place c.requires.faulty s.program s.trace.run s.cursor s.fault c.in_ok-before-in-Some.ensures).0

pub returns-clause-cursor : goal.returns-clause-cursor
returns-clause-cursor c =
    let s = c.in_ok-before-in-Some.before in
    (passed_again c.args.records.now c.args.place c.requires.faulty s.program s.trace.run s.cursor s.fault c.in_ok-before-in-Some.ensures).1

pub unreachable-requires : goal.unreachable-requires
unreachable-requires c =
    no_program c.args.records.now c.requires.faulty.0 c.requires.faulty.1 (Some (Item c.args.place)) c.requires.faulty.2
    (no_text c.args.records.now c.requires.some (λ r first. subst (TellsProgram r) c.in-None.is (c.in_ok-first.ensures r first)))
