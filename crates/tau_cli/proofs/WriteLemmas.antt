-- How a command ends that writes its whole text.
use Rattle.std.proofs.Common.{◌≡◌, ◌⊎◌, ℕ, List, inl, inr, refl, ap}
use Rattle.tau_points.specs.declared.point.Point.{Point}
use Rattle.tau_tree.specs.declared.programs.Program.{Program}
use Rattle.tau_trace.specs.Run.{Run, second}
use Rattle.tau_command.specs.declared.commands.TextCommand.{TextCommand}
use Rattle.tau_command.specs.declared.commands.TextCommand.TheVariants as commands
use Rattle.tau_command.specs.declared.storms.StormNumbers.{StormNumbers}
use Rattle.tau_command.specs.declared.storms.Question.TheVariants as questions
use Rattle.tau_output.specs.Storming.{TriesClaim}
use Rattle.tau_output.specs.declared.outputs.End.{End}
use Rattle.tau_output.specs.declared.outputs.End.TheVariants as ends
use Rattle.tau_gen.specs.Generated.{generated}
use Rattle.tau_output.specs.Runs.{EndsAs}
use Rattle.tau_output.specs.Checks.{IsChecked}
use Rattle.tau_output.specs.Audits.{IsAudited}
use Rattle.tau_output.specs.Migrating.{second_program, IsRewritten}
use Rattle.tau_output.specs.Writing.{Writes, WritesSerially, by_one_worker}
use Rattle.tau_cli.specs.declared.statuses.Status.TheVariants.{Done, Stopped, Bad, Broken, Claim, NoClaim}
use Rattle.tau_cli.specs.Status.{of_end}
use Rattle.tau_cli.specs.Output.{IsEndOf}

-- a run is complete, or has as many steps as its limit
run_end : (limit : ℕ) (P : Program) (T : Run) (end : End) → EndsAs limit P T end → (of_end end ≡ Done) ⊎ (of_end end ≡ Stopped)
run_end limit P T ends.Done h = inl refl
run_end limit P T ends.Stopped h = inr refl
run_end limit P T (ends.Bad place) h = absurd h
run_end limit P T (ends.Broken checkpoint point fall) h = absurd h
run_end limit P T ends.Claimed h = absurd h

check_end : (P : Program) (T : Run) (end : End) (text : List ℕ) → IsChecked P T end text → (of_end end ≡ Done) ⊎ ((place : ℕ) × (of_end end ≡ Bad place))
check_end P T ends.Done text h = inl refl
check_end P T ends.Stopped text h = absurd h
check_end P T (ends.Bad place) text h = inr (place, refl)
check_end P T (ends.Broken checkpoint point fall) text h = absurd h
check_end P T ends.Claimed text h = absurd h

audit_end : (T : Run) (end : End) (text : List ℕ) → IsAudited T end text → (of_end end ≡ Done) ⊎ ((checkpoint : ℕ) × (point : Point) × (fall : ℕ) × (of_end end ≡ Broken checkpoint point fall))
audit_end T ends.Done text h = inl refl
audit_end T ends.Stopped text h = absurd h
audit_end T (ends.Bad place) text h = absurd h
audit_end T (ends.Broken checkpoint point fall) text h = inr (checkpoint, point, fall, refl)
audit_end T ends.Claimed text h = absurd h

migrate_end : (P : Program) (T : Run) (end : End) (text : List ℕ) → IsRewritten P T end text → (of_end end ≡ Done) ⊎ ((place : ℕ) × (of_end end ≡ Bad place))
migrate_end P T ends.Done text h = inl refl
migrate_end P T ends.Stopped text h = absurd h
migrate_end P T (ends.Bad place) text h = inr (place, refl)
migrate_end P T (ends.Broken checkpoint point fall) text h = absurd h
migrate_end P T ends.Claimed text h = absurd h

claim_end : (numbers : StormNumbers) (name bytes : List ℕ) (end : End) (text : List ℕ) → TriesClaim numbers name bytes end text → (of_end end ≡ Done) ⊎ ((of_end end ≡ Claim) ⊎ (of_end end ≡ NoClaim))
claim_end numbers name bytes ends.Done text h = inl refl
claim_end numbers name bytes ends.Stopped text h = absurd h.tried
claim_end numbers name bytes (ends.Bad place) text h = absurd h.tried
claim_end numbers name bytes (ends.Broken checkpoint point fall) text h = absurd h.tried
claim_end numbers name bytes ends.Claimed text h = inr (inl refl)

-- each command, by any number of workers
pub writes_end : (command : TextCommand) (bytes : List ℕ) (end : End) (text : List ℕ) → Writes command bytes end text → IsEndOf command (of_end end)
writes_end (commands.Run workers jobs seed steps) bytes end text w = run_end steps w.answers.runs.program w.answers.runs.run end w.answers.runs.ends
writes_end commands.Check bytes end text w = check_end w.answers.program w.answers.run end text w.answers.checked
writes_end commands.Audit bytes end text w = audit_end w.answers.run end text w.answers.audited
writes_end commands.Report bytes end text w = ap of_end w.answers.1
writes_end commands.Print bytes end text w = ap of_end w.answers.1
writes_end (commands.Gen number) bytes end text w = ap of_end w.answers.1
writes_end (commands.Drill number) bytes end text w = run_end 200000 (generated number) w.answers.run end w.answers.ends
writes_end commands.Migrate bytes end text w = migrate_end (second_program w.answers.program) (second w.answers.run) end text w.answers.migrated
writes_end (commands.Why place) bytes end text w = inl (ap of_end w.answers.1)
writes_end commands.Cut bytes end text w = ap of_end w.answers.1
writes_end (commands.Draw from to ask) bytes end text w = inl (ap of_end w.answers.1)
writes_end (commands.Storm workers numbers questions.Outcomes) bytes end text w = ap of_end w.answers.ends
writes_end (commands.Storm workers numbers (questions.Claim name)) bytes end text w = claim_end numbers name bytes end text w.answers
writes_end (commands.Storm workers numbers (questions.Show outcome)) bytes end text w = inl (ap of_end w.answers.ends)

-- and on one thread
same_end : (command : TextCommand) (end : End) → IsEndOf (by_one_worker command) (of_end end) → IsEndOf command (of_end end)
same_end (commands.Run workers jobs seed steps) end h = h
same_end commands.Check end h = h
same_end commands.Audit end h = h
same_end commands.Report end h = h
same_end commands.Print end h = h
same_end (commands.Gen number) end h = h
same_end (commands.Drill number) end h = h
same_end commands.Migrate end h = h
same_end (commands.Why place) end h = h
same_end commands.Cut end h = h
same_end (commands.Draw from to ask) end h = h
same_end (commands.Storm workers numbers question) end e = e

pub serial_end : (command : TextCommand) (bytes : List ℕ) (end : End) (text : List ℕ) → WritesSerially command bytes end text → IsEndOf command (of_end end)
serial_end command bytes end text w = same_end command end (writes_end (by_one_worker command) bytes end text w)
