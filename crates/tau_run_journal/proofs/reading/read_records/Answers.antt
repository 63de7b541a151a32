use Rattle.std.proofs.Common.{◌≡◌, subst}
use Rattle.tau_run_journal.specs.Inner.Items.{TellsProgram}
use Rattle.tau_run_journal.proofs.Standings.{no_text, some_text, run_read}
use Rattle.tau_run_journal.proofs.reading.read_records.Goals as goal

pub read_later-requires-clause-first : goal.read_later-requires-clause-first
read_later-requires-clause-first c = some_text c.args.records.now c.in-Some.program c.in_ok-first.first c.in-Some.is c.in_ok-first.ensures

pub returns-in_ok-read_later-in-Some-clause-run : goal.returns-in_ok-read_later-in-Some-clause-run
returns-in_ok-read_later-in-Some-clause-run c =
    let s = c.in_ok-read_later-in-Some.field-0 in
    run_read c.args.records.now s.program s.trace.run s.fault c.in_ok-read_later-in-Some.ensures.read

pub returns-in-None-clause-fault : goal.returns-in-None-clause-fault
returns-in-None-clause-fault c = λ fault at is. (
  let three : fault ≡ 3 = cc in three,
  let zero : at ≡ 0 = cc in zero,
  no_text c.args.records.now c.requires (λ r first. subst (TellsProgram r) c.in-None.is (c.in_ok-first.ensures r first)),
)
