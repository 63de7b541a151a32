use Rattle.std.proofs.Common.{refl, sym, subst}
use Rattle.tau_trace.specs.Run.{len}
use Rattle.tau_script.specs.Scripts.{NoneDue}
use Rattle.tau_rules.specs.System.{Core}
use Rattle.tau_rules.specs.Answers.{acted_by}
use Rattle.tau_failures.specs.LegalRun.{LegalRun}
use Rattle.tau_failures.proofs.Steps.{after_acted}
use Rattle.tau_failures.proofs.systems.LegalSystem.act_open.Goals as goal

pub invariant_of-self-2 : goal.invariant_of-self-2
invariant_of-self-2 g c =
    let s = c.self.inside in
    let old : Core = s.system in
    let new : Core = c.act_open.new.self in
    let none : NoneDue old.program.script old.run (len old.run) = subst (λ (r : LegalRun). NoneDue r.system.program.script r.system.run (len r.system.run)) (sym c.self.view_is) c.requires.none_due in
    after_acted old new s.cursor s.cursor c.due_by-due.new.cursor c.self.invariant c.due_by-due.ensures.well_formed c.due_by-due.ensures.fitting c.due_by-due.ensures.current none refl c.args.pending.now (acted_by c.in_ok-reply.reply) c.in_ok-reply.ensures.ok

pub returns-clause-legal : goal.returns-clause-legal
returns-clause-legal g c =
    let s = c.self.inside in
    let old : Core = s.system in
    let new : Core = c.act_open.new.self in
    let none : NoneDue old.program.script old.run (len old.run) = subst (λ (r : LegalRun). NoneDue r.system.program.script r.system.run (len r.system.run)) (sym c.self.view_is) c.requires.none_due in
    (after_acted old new s.cursor s.cursor c.due_by-due.new.cursor c.self.invariant c.due_by-due.ensures.well_formed c.due_by-due.ensures.fitting c.due_by-due.ensures.current none refl c.args.pending.now (acted_by c.in_ok-reply.reply) c.in_ok-reply.ensures.ok).legal
