use Rattle.std.proofs.Common.{◌≡◌, ◌∙◌, [], ap}
use Rattle.std.proofs.lemmas.Result.{IfOk-weaker}
use Rattle.tau_trace.specs.Run.{Run, len}
use Rattle.tau_script.specs.Openings.{program_opening}
use Rattle.tau_rules.specs.System.{Core}
use Rattle.tau_queue.specs.OpenTurns.{AreOpenTurns}
use Rattle.tau_queue.specs.ScriptedRun.{ScriptedRun}
use Rattle.tau_queue.proofs.ScanLemmas.{no_turns_first}
use Rattle.tau_queue.proofs.scripted.Scripted.open.Goals as goal

pub returns-clause-program : goal.returns-clause-program
returns-clause-program g c =
    let core : Core = c.in_ok-legal.legal.system in
    IfOk-weaker c.over.result (λ (s : ScriptedRun). s.system ≡ core) (λ (s : ScriptedRun). s.system.program ≡ c.args.program.now) (λ s e. ap (λ (k : Core). k.program) e ∙ c.in_ok-legal.ensures.program) c.over.ensures.system

pub returns-clause-run : goal.returns-clause-run
returns-clause-run g c =
    let core : Core = c.in_ok-legal.legal.system in
    let first : Run = record { opening = program_opening c.args.program.now; steps = [] } in
    IfOk-weaker c.over.result (λ (s : ScriptedRun). s.system ≡ core) (λ (s : ScriptedRun). s.system.run ≡ first) (λ s e. ap (λ (k : Core). k.run) e ∙ c.in_ok-legal.ensures.run) c.over.ensures.system

pub returns-clause-turns : goal.returns-clause-turns
returns-clause-turns g c =
    let T : Run = c.in_ok-legal.legal.system.run in
    IfOk-weaker c.over.result (λ (s : ScriptedRun). AreOpenTurns T s.turns) (λ (s : ScriptedRun). s.turns ≡ []) (λ s are. no_turns_first T s.turns (ap len c.in_ok-legal.ensures.run) are) c.over.ensures.turns
