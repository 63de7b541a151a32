use Rattle.std.proofs.Common.{◌≡◌, ◌∙◌, Option, Some, ap, sym, subst}
use Rattle.tau_trace.specs.Run.{Run, len}
use Rattle.tau_trace.specs.Turns.{IsOpenTurn}
use Rattle.tau_eval.specs.Turn.{TurnSoFar}
use Rattle.tau_rules.specs.System.{Core}
use Rattle.tau_rules.specs.Answers.{IsOpenJob, IsJobOf}
use Rattle.tau_queue.specs.OpenTurns.{IsOpenFrom}
use Rattle.tau_book.proofs.AdoptLemmas.{job_there, job_place}
use Rattle.tau_book.proofs.adopting.job_from.Goals as goal

pub actor_of-who-requires : goal.actor_of-who-requires
actor_of-who-requires g c =
    let same : c.trace.result.now.run ≡ c.args.scripted.now.system.run = c.trace.ensures.run ∙ ap (λ (k : Core). k.run) c.system-system.ensures.system in
    subst (λ (T : Run). IsOpenFrom T c.args.turn) (sym same) c.requires

pub returns-clause-place : goal.returns-clause-place
returns-clause-place g c =
    let k : Core = c.system-system.result.now in
    let is_open : IsOpenTurn k.run c.actor_of-who.result (len k.run) (Some c.args.turn) =
    subst (λ (T : Run). IsOpenTurn T c.actor_of-who.result (len T) (Some c.args.turn)) c.trace.ensures.run c.actor_of-who.ensures in
    job_place k c.actor_of-who.result c.args.turn c.in-Some.job is_open (subst (λ (o : Option TurnSoFar). IsJobOf k c.actor_of-who.result o) c.in-Some.is c.in_ok-found.ensures)

pub returns-clause-job : goal.returns-clause-job
returns-clause-job g c =
    let k : Core = c.system-system.result.now in
    let job = subst (λ (o : Option TurnSoFar). IsJobOf k c.actor_of-who.result o) c.in-Some.is c.in_ok-found.ensures in
    subst (λ (k : Core). IsOpenJob k.program k.run c.in-Some.job) c.system-system.ensures.system job.1

pub unreachable-requires : goal.unreachable-requires
unreachable-requires g c =
    let k : Core = c.system-system.result.now in
    let is_open : IsOpenTurn k.run c.actor_of-who.result (len k.run) (Some c.args.turn) =
    subst (λ (T : Run). IsOpenTurn T c.actor_of-who.result (len T) (Some c.args.turn)) c.trace.ensures.run c.actor_of-who.ensures in
    job_there k c.actor_of-who.result c.args.turn is_open (subst (λ (o : Option TurnSoFar). IsJobOf k c.actor_of-who.result o) c.in-None.is c.in_ok-found.ensures)
