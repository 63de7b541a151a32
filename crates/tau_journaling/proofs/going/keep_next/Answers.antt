use Rattle.std.proofs.Common.{◌≡◌, ap, ◌∙◌, rules}
use Rattle.tau_rules.specs.System.{Core}
use Rattle.tau_journal.specs.Gates.{gate_of}
use Rattle.tau_journaling.proofs.Onward.{last_is}
use Rattle.tau_journaling.proofs.Between.{leaves_step, is_fault_8, no_room}
use Rattle.tau_journaling.proofs.going.keep_next.Goals as goal

pub returns-in_err-kept-clause-any_moment : goal.returns-in_err-kept-clause-any_moment
returns-in_err-kept-clause-any_moment g c at =
    let was = c.args.book.now in
    let now = c.next_step.new.book in
    let step = c.in_ok-made.ensures.stepped (search rules) in
    let run : c.trace.result.now.run ≡ now.system.run = c.trace.ensures.run ∙ ap (λ (k : Core). k.run) c.system.ensures.system in
    leaves_step g.D.Disk.images g.D.Disk.moment g.D.Disk.left_since was.system.program was now step.0 step.1 c.trace.result.now.run run c.args.disk.now c.keep_step.new.disk
    (c.in_err-kept.ensures.any_moment was.system.program was.system.run step.0 (last_is was now step.0 step.1 c.trace.result.now.run run) at)

pub returns-in_err-kept-clause-fault : goal.returns-in_err-kept-clause-fault
returns-in_err-kept-clause-fault g c fault at is =
    let was = c.args.book.now in
    let now = c.next_step.new.book in
    let step = c.in_ok-made.ensures.stepped (search rules) in
    let last = last_is was now step.0 step.1 c.trace.result.now.run (c.trace.ensures.run ∙ ap (λ (k : Core). k.run) c.system.ensures.system) in
    let text = c.in_err-kept.ensures.text fault at (search rules) was.system.run step.0 last in
    is_fault_8 (g.D.Disk.bytes c.args.disk.now) _ fault at (c.in_err-kept.ensures.fault fault at (search rules) was.system.run step.0 text.0 last text.1)

pub returns-in_err-kept-clause-full : goal.returns-in_err-kept-clause-full
returns-in_err-kept-clause-full g c fault at is stands =
    let was = c.args.book.now in
    let now = c.next_step.new.book in
    let step = c.in_ok-made.ensures.stepped (search rules) in
    let last = last_is was now step.0 step.1 c.trace.result.now.run (c.trace.ensures.run ∙ ap (λ (k : Core). k.run) c.system.ensures.system) in
    let text = c.in_err-kept.ensures.text fault at (search rules) was.system.run step.0 last in
    no_room was.system.program was.system.run now.system.run step.0 (ap (λ (k : Core). k.run) step.1) (g.D.Disk.bytes c.args.disk.now) (g.D.Disk.bytes c.keep_step.new.disk) (gate_of c.args.journal) fault at text
    (c.in_err-kept.ensures.fault fault at (search rules) was.system.run step.0 text.0 last text.1) (c.in_err-kept.ensures.unwritten fault at (search rules)).same stands

pub returns-clause-any_moment : goal.returns-clause-any_moment
returns-clause-any_moment g c at =
    let was = c.args.book.now in
    let now = c.next_step.new.book in
    let step = c.in_ok-made.ensures.stepped (search rules) in
    let run : c.trace.result.now.run ≡ now.system.run = c.trace.ensures.run ∙ ap (λ (k : Core). k.run) c.system.ensures.system in
    leaves_step g.D.Disk.images g.D.Disk.moment g.D.Disk.left_since was.system.program was now step.0 step.1 c.trace.result.now.run run c.args.disk.now c.keep_step.new.disk
    (c.in_ok-kept.ensures.any_moment was.system.program was.system.run step.0 (last_is was now step.0 step.1 c.trace.result.now.run run) at)

pub returns-in_err-kept-clause-unkept : goal.returns-in_err-kept-clause-unkept
returns-in_err-kept-clause-unkept g c fault at is = c.in_ok-made.ensures.works
