use Rattle.std.proofs.Common.{◌+◌, ℕ, List, Option, length, sym, subst, rules}
use Rattle.tau_journal.specs.Disk.Moments.{IsUntouched}
use Rattle.tau_journal.proofs.Moments.{untouched_then}
use Rattle.tau_journal.specs.Records.{going_on}
use Rattle.tau_journal.specs.Gates.{gate_of}
use Rattle.tau_run_journal.proofs.Answered.{if_ok_then, if_ok_both}
use Rattle.tau_journaling.specs.Found.Faults.{IsResumeFault}
use Rattle.tau_journaling.specs.Found.Reviving.{IsReviveFault}
use Rattle.tau_journaling.specs.Resumed.{IsGoneOnFault}
use Rattle.tau_journaling.proofs.Faulted.{faulty_failed, faulty_never}
use Rattle.tau_journaling.proofs.ResumedRuns.{leaves_found, leaves_resumed, leaves_whole, leaves_resumed_fronts, stands_still, kept_then, told_there, stays_complete, going_fault, going_unrevived, complete_unrevived, finding_fault, finding_unrevived, not_complete, resumed_whole, resumed_further, if_ok_all, kept_whole, never_faulty, whatever_faulty, whatever_unrevived, whatever_complete, stays_unrevived, resume_number}
use Rattle.tau_journaling.proofs.resuming.resume_run.Goals as goal

pub returns-in_err-found-clause-any_moment : goal.returns-in_err-found-clause-any_moment
returns-in_err-found-clause-any_moment g c =
    leaves_found g.D.Disk.images g.D.Disk.moment g.D.Disk.left_since c.args.disk.now c.find_legal.new.disk c.find_legal.ensures.untouched (g.D.Disk.bytes c.args.disk.now)

pub returns-in_err-found-clause-fault : goal.returns-in_err-found-clause-fault
returns-in_err-found-clause-fault g c fault at is =
    finding_fault c.args.jobs c.args.seed c.args.steps (g.D.Disk.bytes c.args.disk.now) (g.D.Disk.bytes c.find_legal.new.disk) fault at (c.in_err-found.ensures.fault fault at (search rules))

pub returns-in_err-found-clause-faulty : goal.returns-in_err-found-clause-faulty
returns-in_err-found-clause-faulty g c =
    faulty_failed IsResumeFault c.from_residual.result _ c.in_err-found.field-0.0 (search rules) (g.D.Disk.bytes c.args.disk.now) c.in_err-found.ensures.faulty

pub returns-in_err-found-clause-unrevived : goal.returns-in_err-found-clause-unrevived
returns-in_err-found-clause-unrevived g c =
    finding_unrevived c.from_residual.result c.in_err-found.field-0.0 (search rules) (g.D.Disk.bytes c.args.disk.now) c.in_err-found.ensures.found

pub returns-then-found-clause-resumed : goal.returns-then-found-clause-resumed
returns-then-found-clause-resumed g c =
    let found = c.in_ok-found.found in
    let told = g.D.Disk.bytes c.args.disk.now in
    resumed_whole found.program found.trace.run told c.args.jobs c.args.seed c.args.steps c.in_ok-found.ensures.run c.in_ok-found.ensures.legal
    (told_there found.program found.trace.run (gate_of found.journal) told c.in_ok-found.ensures.stands) (c.in_ok-found.ensures.complete.0 (search rules))

pub returns-then-found-clause-any_moment : goal.returns-then-found-clause-any_moment
returns-then-found-clause-any_moment g c =
    leaves_found g.D.Disk.images g.D.Disk.moment g.D.Disk.left_since c.args.disk.now c.find_legal.new.disk c.find_legal.ensures.untouched (g.D.Disk.bytes c.args.disk.now)

pub returns-then-found-clause-front : goal.returns-then-found-clause-front
returns-then-found-clause-front g c =
    let found = c.in_ok-found.found in
    leaves_whole g.D.Disk.images g.D.Disk.moment g.D.Disk.left_since c.args.disk.now c.find_legal.new.disk c.find_legal.ensures.untouched
    found.program found.trace.run (gate_of found.journal) (g.D.Disk.bytes c.args.disk.now) c.in_ok-found.ensures.stands

pub returns-then-found-clause-faulty : goal.returns-then-found-clause-faulty
returns-then-found-clause-faulty g c = faulty_never IsResumeFault _ c.in_ok-found.found (g.D.Disk.bytes c.args.disk.now) c.in_ok-found.ensures.faulty

pub returns-then-found-clause-unrevived : goal.returns-then-found-clause-unrevived
returns-then-found-clause-unrevived g c =
    let found = c.in_ok-found.found in
    complete_unrevived found.program found.trace.run (gate_of found.journal) c.bytes_stand_for_one_run.ensures (c.in_ok-found.ensures.complete.0 (search rules)) _ (g.D.Disk.bytes c.args.disk.now) c.in_ok-found.ensures.stands

pub returns-clause-resumed : goal.returns-clause-resumed
returns-clause-resumed g c =
    let found = c.in_ok-found.found in
    let told = g.D.Disk.bytes c.args.disk.now in
    let gone = c.run_on_revived.ensures in
    if_ok_all _ _ _ _ _ _ c.run_on_revived.result
    (λ r revival sound begins after ends. resumed_further found.program r.program found.trace.run r.ran.trace.run told c.args.jobs c.args.seed c.args.steps r.ran.is_complete c.in_ok-found.ensures.run c.in_ok-found.ensures.legal
    (told_there found.program found.trace.run (gate_of found.journal) told c.in_ok-found.ensures.stands) (not_complete _ found.complete c.if-found.false c.in_ok-found.ensures.complete) revival sound begins after ends)
    gone.revival gone.sound gone.begins gone.after gone.ends

pub returns-clause-kept : goal.returns-clause-kept
returns-clause-kept g c =
    let found = c.in_ok-found.found in
    let gate = gate_of found.journal in
    let told = g.D.Disk.bytes c.args.disk.now in
    let new = c.run_on_revived.new.disk in
    if_ok_then _ _ c.run_on_revived.result
    (λ r kept. kept_then found.program found.trace.run gate told (g.D.Disk.bytes new) (g.D.Disk.images new) r.program r.ran.trace.run c.in_ok-found.ensures.stands
    (λ at. kept (stands_still found.program found.trace.run gate told (g.D.Disk.bytes c.find_legal.new.disk) c.find_legal.ensures.same at)))
    c.run_on_revived.ensures.kept

pub returns-clause-stays : goal.returns-clause-stays
returns-clause-stays g c =
    let found = c.in_ok-found.found in
    stays_complete found.program found.trace.run (gate_of found.journal) c.bytes_stand_for_one_run.ensures (not_complete _ found.complete c.if-found.false c.in_ok-found.ensures.complete) _ (g.D.Disk.bytes c.args.disk.now) c.in_ok-found.ensures.stands

pub returns-clause-any_moment : goal.returns-clause-any_moment
returns-clause-any_moment g c =
    let found = c.in_ok-found.found in
    leaves_resumed g.D.Disk.images g.D.Disk.moment g.D.Disk.left_since c.args.disk.now c.find_legal.new.disk c.find_legal.ensures.untouched
    found.program found.trace.run (gate_of found.journal) c.bytes_stand_for_one_run.ensures c.run_on_revived.new.disk (g.D.Disk.bytes c.args.disk.now) c.in_ok-found.ensures.stands
    (λ at. c.run_on_revived.ensures.any_moment (stands_still found.program found.trace.run (gate_of found.journal) (g.D.Disk.bytes c.args.disk.now) (g.D.Disk.bytes c.find_legal.new.disk) c.find_legal.ensures.same at))

pub returns-clause-front : goal.returns-clause-front
returns-clause-front g c =
    let found = c.in_ok-found.found in
    if_ok_both _ _ _ c.run_on_revived.result
    (λ r begins front. leaves_resumed_fronts g.D.Disk.images g.D.Disk.moment g.D.Disk.left_since c.args.disk.now c.find_legal.new.disk c.find_legal.ensures.untouched
    found.program found.trace.run (gate_of found.journal) r.ran.trace.run begins c.run_on_revived.new.disk (g.D.Disk.bytes c.args.disk.now) c.in_ok-found.ensures.stands
    (λ at. front (stands_still found.program found.trace.run (gate_of found.journal) (g.D.Disk.bytes c.args.disk.now) (g.D.Disk.bytes c.find_legal.new.disk) c.find_legal.ensures.same at)))
    c.run_on_revived.ensures.begins c.run_on_revived.ensures.front

pub returns-clause-fault : goal.returns-clause-fault
returns-clause-fault g c fault at is =
    let found = c.in_ok-found.found in
    let told = g.D.Disk.bytes c.args.disk.now in
    let after = g.D.Disk.bytes c.run_on_revived.new.disk in
    going_fault found.program found.trace.run (gate_of found.journal) c.args.jobs c.args.seed c.args.steps c.in_ok-found.ensures.legal (not_complete _ found.complete c.if-found.false c.in_ok-found.ensures.complete) told after fault at c.in_ok-found.ensures.stands
    (λ there. subst (λ (o : Option (List ℕ)). IsGoneOnFault found.program found.trace.run c.args.jobs c.args.seed c.args.steps (gate_of found.journal) o after fault at) c.find_legal.ensures.same
    (c.run_on_revived.ensures.fault fault at is (stands_still found.program found.trace.run (gate_of found.journal) told (g.D.Disk.bytes c.find_legal.new.disk) c.find_legal.ensures.same there)))

pub returns-clause-faulty : goal.returns-clause-faulty
returns-clause-faulty g c = faulty_never IsResumeFault c.run_on_revived.result c.in_ok-found.found (g.D.Disk.bytes c.args.disk.now) c.in_ok-found.ensures.faulty

pub returns-clause-unrevived : goal.returns-clause-unrevived
returns-clause-unrevived g c =
    let found = c.in_ok-found.found in
    let told = g.D.Disk.bytes c.args.disk.now in
    let need = gate_of found.journal + 5 + length going_on + 1 in
    going_unrevived found.program found.trace.run (gate_of found.journal) c.bytes_stand_for_one_run.ensures c.records_are_unique.ensures c.run_on_revived.result told c.in_ok-found.ensures.stands
    (λ fault at there unrevived. c.run_on_revived.ensures.faulty fault at
    (stands_still found.program found.trace.run (gate_of found.journal) told (g.D.Disk.bytes c.find_legal.new.disk) c.find_legal.ensures.same there)
    (subst (λ (o : Option (List ℕ)). IsReviveFault found.program o need fault at) (sym c.find_legal.ensures.same) unrevived))

pub returns-in_err-found-clause-stays : goal.returns-in_err-found-clause-stays
returns-in_err-found-clause-stays g c =
    whatever_complete (IsUntouched g.D.Disk.bytes g.D.Disk.images g.D.Disk.moment g.D.Disk.left_since c.args.disk.now c.find_legal.new.disk) (record { same = c.find_legal.ensures.same; leaves = c.find_legal.ensures.untouched }) (g.D.Disk.bytes c.args.disk.now)

pub returns-in_err-found-clause-stays_faulty : goal.returns-in_err-found-clause-stays_faulty
returns-in_err-found-clause-stays_faulty g c =
    whatever_faulty (IsUntouched g.D.Disk.bytes g.D.Disk.images g.D.Disk.moment g.D.Disk.left_since c.args.disk.now c.find_legal.new.disk) (record { same = c.find_legal.ensures.same; leaves = c.find_legal.ensures.untouched }) (g.D.Disk.bytes c.args.disk.now)

pub returns-in_err-found-clause-stays_unrevived : goal.returns-in_err-found-clause-stays_unrevived
returns-in_err-found-clause-stays_unrevived g c =
    whatever_unrevived (IsUntouched g.D.Disk.bytes g.D.Disk.images g.D.Disk.moment g.D.Disk.left_since c.args.disk.now c.find_legal.new.disk) (record { same = c.find_legal.ensures.same; leaves = c.find_legal.ensures.untouched }) (g.D.Disk.bytes c.args.disk.now)

pub returns-then-found-clause-kept : goal.returns-then-found-clause-kept
returns-then-found-clause-kept g c =
    let found = c.in_ok-found.found in
    let now = c.find_legal.new.disk in
    kept_whole found (g.D.Disk.bytes c.args.disk.now) (g.D.Disk.bytes now) (g.D.Disk.images now) (gate_of found.journal) found.program found.trace.run c.find_legal.ensures.same c.in_ok-found.ensures.faulty c.in_ok-found.ensures.rest c.in_ok-found.ensures.stands

pub returns-then-found-clause-stays : goal.returns-then-found-clause-stays
returns-then-found-clause-stays g c =
    whatever_complete (IsUntouched g.D.Disk.bytes g.D.Disk.images g.D.Disk.moment g.D.Disk.left_since c.args.disk.now c.find_legal.new.disk) (record { same = c.find_legal.ensures.same; leaves = c.find_legal.ensures.untouched }) (g.D.Disk.bytes c.args.disk.now)

pub returns-then-found-clause-stays_faulty : goal.returns-then-found-clause-stays_faulty
returns-then-found-clause-stays_faulty g c =
    whatever_faulty (IsUntouched g.D.Disk.bytes g.D.Disk.images g.D.Disk.moment g.D.Disk.left_since c.args.disk.now c.find_legal.new.disk) (record { same = c.find_legal.ensures.same; leaves = c.find_legal.ensures.untouched }) (g.D.Disk.bytes c.args.disk.now)

pub returns-then-found-clause-stays_unrevived : goal.returns-then-found-clause-stays_unrevived
returns-then-found-clause-stays_unrevived g c =
    whatever_unrevived (IsUntouched g.D.Disk.bytes g.D.Disk.images g.D.Disk.moment g.D.Disk.left_since c.args.disk.now c.find_legal.new.disk) (record { same = c.find_legal.ensures.same; leaves = c.find_legal.ensures.untouched }) (g.D.Disk.bytes c.args.disk.now)

pub returns-clause-among : goal.returns-clause-among
returns-clause-among g c fault at is = resume_number fault (c.run_on_revived.ensures.among fault at is)

pub returns-clause-unwritten : goal.returns-clause-unwritten
returns-clause-unwritten g c fault at other is =
    untouched_then g.D.Disk.bytes g.D.Disk.images g.D.Disk.moment g.D.Disk.left_since g.met.D.Disk.only_now g.met.D.Disk.counts_now c.args.disk.now c.find_legal.new.disk c.run_on_revived.new.disk
    (record { same = c.find_legal.ensures.same; leaves = c.find_legal.ensures.untouched }) (c.run_on_revived.ensures.unwritten fault at other is)

pub returns-clause-stays_faulty : goal.returns-clause-stays_faulty
returns-clause-stays_faulty g c = never_faulty c.in_ok-found.found _ (g.D.Disk.bytes c.args.disk.now) c.in_ok-found.ensures.faulty

pub returns-clause-stays_unrevived : goal.returns-clause-stays_unrevived
returns-clause-stays_unrevived g c =
    let found = c.in_ok-found.found in
    let told = g.D.Disk.bytes c.args.disk.now in
    let need = gate_of found.journal + 5 + length going_on + 1 in
    stays_unrevived found.program found.trace.run (gate_of found.journal) c.bytes_stand_for_one_run.ensures c.records_are_unique.ensures _ told c.in_ok-found.ensures.stands
    (λ fault at there unrevived. untouched_then g.D.Disk.bytes g.D.Disk.images g.D.Disk.moment g.D.Disk.left_since g.met.D.Disk.only_now g.met.D.Disk.counts_now c.args.disk.now c.find_legal.new.disk c.run_on_revived.new.disk
    (record { same = c.find_legal.ensures.same; leaves = c.find_legal.ensures.untouched })
    (c.run_on_revived.ensures.stays fault at
    (stands_still found.program found.trace.run (gate_of found.journal) told (g.D.Disk.bytes c.find_legal.new.disk) c.find_legal.ensures.same there)
    (subst (λ (o : Option (List ℕ)). IsReviveFault found.program o need fault at) (sym c.find_legal.ensures.same) unrevived)))
