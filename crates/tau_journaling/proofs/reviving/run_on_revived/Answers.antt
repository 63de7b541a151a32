use Rattle.std.proofs.Common.{◌≡◌, inl, inr, ℕ, ◌+◌, max, length, subst, rules}
use Rattle.tau_trace.specs.Run.{len}
use Rattle.tau_journal.specs.Records.{going_on}
use Rattle.tau_journal.specs.Gates.{gate_of}
use Rattle.tau_run_journal.proofs.Finds.{no_failure}
use Rattle.tau_book.specs.Alone.{IsRunAfter}
use Rattle.tau_journaling.specs.Kept.{HasNoRoomAfter}
use Rattle.tau_journaling.proofs.Faulted.{failed_told, unrevived_told, unrevived_stays, revive_number}
use Rattle.tau_journaling.proofs.ResumedRuns.{leaves_marked, leaves_gone_on, leaves_fronts}
use Rattle.tau_journaling.proofs.reviving.run_on_revived.Goals as goal

pub returns-in_err-revived-clause-any_moment : goal.returns-in_err-revived-clause-any_moment
returns-in_err-revived-clause-any_moment g c at =
    let P = c.args.found.program in
    let T = c.args.found.trace.run in
    leaves_marked g.D.Disk.images g.D.Disk.moment g.D.Disk.left_since P T c.revival_keeps_legality.ensures c.requires.sound c.requires.legal c.args.disk.now c.revive.new.disk (c.revive.ensures.any_moment at)

pub returns-in_err-revived-clause-fault : goal.returns-in_err-revived-clause-fault
returns-in_err-revived-clause-fault g c fault at is stands = inl (c.in_err-revived.ensures.fault fault at (search rules))

pub returns-in_err-revived-clause-faulty : goal.returns-in_err-revived-clause-faulty
returns-in_err-revived-clause-faulty g c fault at stands found =
    let told = g.D.Disk.bytes c.args.disk.now in
    let need = gate_of c.args.found.journal + 5 + length going_on + 1 in
    failed_told _ c.from_residual.result c.in_err-revived.field-0.0 (search rules) fault at
    (unrevived_told _ c.args.found.program told stands.told.file need stands.told.told c.in_err-revived.ensures.full c.in_err-revived.ensures.faulty fault at found)

pub returns-in_err-revived-clause-among : goal.returns-in_err-revived-clause-among
returns-in_err-revived-clause-among g c fault at is =
    revive_number c.args.found.program (g.D.Disk.bytes c.args.disk.now) (gate_of c.args.found.journal + 5 + length going_on + 1) fault at (c.in_err-revived.ensures.fault fault at (search rules))

pub returns-in_err-revived-clause-unwritten : goal.returns-in_err-revived-clause-unwritten
returns-in_err-revived-clause-unwritten g c fault at other is = c.in_err-revived.ensures.unwritten fault at (search rules)

pub returns-in_err-revived-clause-stays : goal.returns-in_err-revived-clause-stays
returns-in_err-revived-clause-stays g c fault at stands found =
    let told = g.D.Disk.bytes c.args.disk.now in
    let need = gate_of c.args.found.journal + 5 + length going_on + 1 in
    unrevived_stays _ _ _ c.args.found.program told stands.told.file need stands.told.told c.in_err-revived.ensures.full c.in_err-revived.ensures.unwritten c.in_err-revived.ensures.no_room fault at found

pub returns-in_err-ran-clause-any_moment : goal.returns-in_err-ran-clause-any_moment
returns-in_err-ran-clause-any_moment g c at =
    let P = c.args.found.program in
    let T = c.args.found.trace.run in
    leaves_gone_on g.D.Disk.images g.D.Disk.moment g.D.Disk.left_since P T c.revival_keeps_legality.ensures c.requires.sound c.requires.legal c.in_ok-revived.revived.program c.in_ok-revived.ensures.revival
    c.args.disk.now c.revive.new.disk c.run_on_trace.new.disk (c.revive.ensures.any_moment at) (c.run_on_trace.ensures.any_moment (c.in_ok-revived.ensures.stands at))

pub returns-in_err-ran-clause-fault : goal.returns-in_err-ran-clause-fault
returns-in_err-ran-clause-fault g c fault at is stands =
    let Q = c.in_ok-revived.revived.program in
    let T = c.args.found.trace.run in
    let limit : c.max-limit.result ≡ max c.args.steps (len T) = search rules in
    inr (
      c.in_err-ran.ensures.fault fault at (search rules),
      Q,
      c.in_ok-revived.ensures.revival,
      subst (λ (n : ℕ). HasNoRoomAfter Q c.args.jobs c.args.seed n T (g.D.Disk.bytes c.run_on_trace.new.disk) at) limit (c.in_err-ran.ensures.full fault at (search rules) (c.in_ok-revived.ensures.stands stands)),
    )

pub returns-in_err-ran-clause-among : goal.returns-in_err-ran-clause-among
returns-in_err-ran-clause-among g c fault at is = inr (c.in_err-ran.ensures.fault fault at (search rules))

pub returns-in_err-ran-clause-stays : goal.returns-in_err-ran-clause-stays
returns-in_err-ran-clause-stays g c fault at stands found =
    let told = g.D.Disk.bytes c.args.disk.now in
    let need = gate_of c.args.found.journal + 5 + length going_on + 1 in
    absurd (no_failure _ fault at (unrevived_told _ c.args.found.program told stands.told.file need stands.told.told c.in_ok-revived.ensures.full c.in_ok-revived.ensures.faulty fault at found))

pub returns-clause-any_moment : goal.returns-clause-any_moment
returns-clause-any_moment g c at =
    let P = c.args.found.program in
    let T = c.args.found.trace.run in
    leaves_gone_on g.D.Disk.images g.D.Disk.moment g.D.Disk.left_since P T c.revival_keeps_legality.ensures c.requires.sound c.requires.legal c.in_ok-revived.revived.program c.in_ok-revived.ensures.revival
    c.args.disk.now c.revive.new.disk c.run_on_trace.new.disk (c.revive.ensures.any_moment at) (c.run_on_trace.ensures.any_moment (c.in_ok-revived.ensures.stands at))

pub returns-clause-front : goal.returns-clause-front
returns-clause-front g c at =
    let P = c.args.found.program in
    let T = c.args.found.trace.run in
    leaves_fronts g.D.Disk.images g.D.Disk.moment g.D.Disk.left_since P T c.in_ok-ran.ran.trace.run c.in_ok-ran.ensures.begins c.in_ok-revived.revived.program
    c.args.disk.now c.revive.new.disk c.run_on_trace.new.disk (c.revive.ensures.any_moment at) (c.in_ok-ran.ensures.front (c.in_ok-revived.ensures.stands at))

pub returns-clause-after : goal.returns-clause-after
returns-clause-after g c =
    let limit : c.max-limit.result ≡ max c.args.steps (len c.args.found.trace.run) = search rules in
    subst (λ (n : ℕ). IsRunAfter c.in_ok-revived.revived.program c.args.jobs c.args.seed n c.args.found.trace.run c.in_ok-ran.ran.trace.run) limit c.in_ok-ran.ensures.after

pub returns-clause-faulty : goal.returns-clause-faulty
returns-clause-faulty g c fault at stands found =
    let told = g.D.Disk.bytes c.args.disk.now in
    let need = gate_of c.args.found.journal + 5 + length going_on + 1 in
    absurd (no_failure _ fault at (unrevived_told _ c.args.found.program told stands.told.file need stands.told.told c.in_ok-revived.ensures.full c.in_ok-revived.ensures.faulty fault at found))

pub returns-clause-stays : goal.returns-clause-stays
returns-clause-stays g c fault at stands found =
    let told = g.D.Disk.bytes c.args.disk.now in
    let need = gate_of c.args.found.journal + 5 + length going_on + 1 in
    absurd (no_failure _ fault at (unrevived_told _ c.args.found.program told stands.told.file need stands.told.told c.in_ok-revived.ensures.full c.in_ok-revived.ensures.faulty fault at found))

pub returns-clause-kept : goal.returns-clause-kept
returns-clause-kept g c at = c.in_ok-ran.ensures.kept (c.in_ok-revived.ensures.stands at) c.in_ok-revived.ensures.within
