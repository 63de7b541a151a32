use Rattle.std.proofs.Common.{◌≡◌, ◌<◌, ℕ, length, sym, subst, Some, arith}
use Rattle.std.proofs.lemmas.Option.{slice_get_within}
use Rattle.tau_trace.specs.declared.step.Step.TheVariants as steps
use Rattle.tau_trace.specs.Run.{len}
use Rattle.tau_script.specs.Cursors.{IsDueAs}
use Rattle.tau_script.proofs.Passing.{due_ripe, object_as, object_fits, if_some}
use Rattle.tau_script.proofs.search.due_at.Goals as goal

pub returns-clause-due : goal.returns-clause-due
returns-clause-due c =
    due_ripe c.args.script.now c.args.trace.now.run (len c.args.trace.now.run) c.args.cursor c.in_ok-entry.entry.now c.due_as.result c.requires
    (record { stands = sym c.in_ok-entry.ensures; ripe = omega arith })
    c.due_as.ensures

pub returns-clause-entry : goal.returns-clause-entry
returns-clause-entry c =
    if_some (λ s. c.args.cursor.entry < length c.args.script.now) c.due_as.result
    (λ s e. slice_get_within c.args.script.now c.args.cursor.entry c.in_ok-entry.entry.now (sym c.in_ok-entry.ensures))

pub returns-clause-who : goal.returns-clause-who
returns-clause-who c =
    let T = c.args.trace.now.run in
    let f = c.in_ok-entry.entry.now.failure in
    if_some (λ s. (t : ℕ) → s ≡ steps.Fail t → t < 4294967295) c.due_as.result
    (λ s e. object_fits T s c.len.ensures.well_formed (object_as T (len T) c.args.cursor.who f s (subst (IsDueAs T (len T) c.args.cursor.who f) e c.due_as.ensures)))
