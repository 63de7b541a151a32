use Rattle.std.proofs.Common.{ℕ, [], false, Option, sym, ◌∙◌, subst}
use Rattle.tau_trace.specs.Run.{len, appended}
use Rattle.tau_verdicts.specs.Doomed.{flag_of, takers_of, AreDoomed, cleared}
use Rattle.tau_verdicts.specs.Freedom.{LeavesAtMost}
use Rattle.tau_verdicts.proofs.Steps.{quiet_leads, closer_leaves}
use Rattle.tau_verdicts.proofs.marked.MarkedHearing.note_step.Goals as goal

pub returns-clause-ok : goal.returns-clause-ok
returns-clause-ok c =
    let T = c.args.trace.now.run in
    let s = c.args.step.now in
    let h = c.args.self.now in
    let D = flag_of h.doomed.items in
    let K = takers_of h.takers.items in
    let F : Option ℕ → Type 0 = λ o. AreDoomed (appended T s) (len (appended T s)) (cleared o false D) (cleared o [] K) in
    subst F (sym c.closer.ensures) (quiet_leads T s D K c.requires.knows.1 (sym c.in_default.is ∙ c.taker.ensures) (sym c.in_default-faller.is ∙ c.faller.ensures))

pub returns-clause-leaves : goal.returns-clause-leaves
returns-clause-leaves c =
    let T = c.args.trace.now.run in
    let s = c.args.step.now in
    subst (LeavesAtMost T s) (sym c.closer.ensures) (closer_leaves T s (sym c.in_default-faller.is ∙ c.faller.ensures))
