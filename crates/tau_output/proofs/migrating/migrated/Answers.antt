use Rattle.std.proofs.Common.{◌≡◌, ◌∙◌, ap, sym, subst, IfOk}
use Rattle.tau_tree.specs.declared.programs.Program.{Program}
use Rattle.tau_tree.specs.Sound.{Sound}
use Rattle.tau_trace.specs.declared.opening.Opening.{Opening}
use Rattle.tau_trace.specs.Run.{Run, second}
use Rattle.tau_script.specs.Openings.{program_opening}
use Rattle.tau_output.specs.Migrating.{second_program, IsRewritten}
use Rattle.tau_output.proofs.MigrationLemmas.{second_sound}
use Rattle.tau_output.proofs.migrating.migrated.Goals as goal

pub rewritten-requires-clause-sound : goal.rewritten-requires-clause-sound
rewritten-requires-clause-sound c = subst Sound (sym c.in_version_2-program.ensures) (second_sound c.args.program c.requires.sound)

pub rewritten-requires-clause-opening : goal.rewritten-requires-clause-opening
rewritten-requires-clause-opening c =
    let P : Program = c.args.program in
    let opens : (second c.args.trace.now.run).opening ≡ program_opening (second_program P) = ap (λ (o : Opening). record o { version = 2 }) c.requires.opening in
    ap (λ (T : Run). T.opening) c.in_ok-trace.ensures ∙ opens ∙ sym (ap program_opening c.in_version_2-program.ensures)

pub returns : goal.returns
returns c =
    let T : Run = c.args.trace.now.run in
    subst (λ (P : Program). IfOk c.rewritten.result (λ o. IsRewritten P (second T) o.end o.text.items)) c.in_version_2-program.ensures
    (subst (λ (R : Run). IfOk c.rewritten.result (λ o. IsRewritten c.in_version_2-program.result R o.end o.text.items)) c.in_ok-trace.ensures c.rewritten.ensures)
