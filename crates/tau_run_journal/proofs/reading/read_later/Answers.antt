use Rattle.std.proofs.Common.{arith}
use Rattle.tau_run_journal.proofs.Standings.{all_stand, all_full, all_faulty}
use Rattle.tau_run_journal.proofs.reading.read_later.Goals as goal

pub read_before-requires-clause-faulty : goal.read_before-requires-clause-faulty
read_before-requires-clause-faulty c =
    let s = c.in_ok-passed.passed in
    all_faulty c.args.records.now c.len.result (omega arith) s.program s.trace.run s.cursor s.fault c.in_ok-passed.ensures c.in-Some.fault c.in-Item.place c.in-Some.is c.in-Item.is

pub returns-in-ScriptFull-clause-read : goal.returns-in-ScriptFull-clause-read
returns-in-ScriptFull-clause-read c =
    let s = c.in_ok-passed.passed in
    (all_full c.args.records.now c.len.result (omega arith) s.program s.trace.run s.cursor s.fault c.in_ok-passed.ensures c.in-Some.fault _ c.in-Some.is c.in-ScriptFull.is).0

pub returns-in-ScriptFull-clause-cursor : goal.returns-in-ScriptFull-clause-cursor
returns-in-ScriptFull-clause-cursor c =
    let s = c.in_ok-passed.passed in
    (all_full c.args.records.now c.len.result (omega arith) s.program s.trace.run s.cursor s.fault c.in_ok-passed.ensures c.in-Some.fault _ c.in-Some.is c.in-ScriptFull.is).1

pub returns-in-None-clause-read : goal.returns-in-None-clause-read
returns-in-None-clause-read c =
    let s = c.in_ok-passed.passed in
    (all_stand c.args.records.now c.len.result (omega arith) s.program s.trace.run s.cursor s.fault c.in_ok-passed.ensures c.in-None.is).0

pub returns-in-None-clause-cursor : goal.returns-in-None-clause-cursor
returns-in-None-clause-cursor c =
    let s = c.in_ok-passed.passed in
    (all_stand c.args.records.now c.len.result (omega arith) s.program s.trace.run s.cursor s.fault c.in_ok-passed.ensures c.in-None.is).1
