use Rattle.std.proofs.Common.{ℕ, Some, None, arith, subst}
use Rattle.tau_value.specs.Value.{val_of}
use Rattle.tau_tree.specs.declared.programs.Program.{Program}
use Rattle.tau_trace.specs.Run.{Run}
use Rattle.tau_eval.specs.Turn.{TurnSoFar, IsTurnOf}
use Rattle.tau_rules.specs.declared.records.Record.{Record}
use Rattle.tau_rules.specs.Records.{IsRecord}
use Rattle.tau_rules.specs.System.{Core}
use Rattle.tau_rules.specs.Answers.{IsJobOf}
use Rattle.tau_rules.specs.Inner.Acting.{IsTaker}
use Rattle.tau_rules.proofs.DeliverLemmas.{behaviour_exists}
use Rattle.tau_rules.proofs.ActLemmasOfJobs.{open_taker, taker_within_records, taker_record, record_open}
use Rattle.tau_rules.proofs.system.System.job_of.Goals as goal

pub returns-in_default : goal.returns-in_default
returns-in_default g c = subst (λ (k : Core). IsJobOf k c.args.who None) c.self.view_is c.in_default.ensures

pub index-own-requires : goal.index-own-requires
index-own-requires g c =
    let T : Run = c.self.inside.trace.run in
    let taker : IsTaker T c.in-Some.turn (Some c.args.who) = open_taker T c.args.who c.in-Some.turn c.in-Some.ensures in
    let within = taker_within_records c.self.inside.program.now T c.self.inside.records.items c.self.invariant.0.well_formed c.self.invariant.0.records_are c.args.who c.in-Some.turn taker in
    omega (arith, within, c.self.inside.records.ok)

pub job_of-requires : goal.job_of-requires
job_of-requires g c =
    let P : Program = c.self.inside.program.now in
    let T : Run = c.self.inside.trace.run in
    let taker : IsTaker T c.in-Some.turn (Some c.args.who) = open_taker T c.args.who c.in-Some.turn c.in-Some.ensures in
    let own = taker_record P T c.self.inside.records.items c.self.invariant.0.well_formed c.self.invariant.0.records_are c.args.who c.in-Some.turn taker c.index-own.result.now c.index-own.ensures in
    behaviour_exists P T c.self.invariant.0.sound c.self.invariant.0.well_formed c.self.invariant.0.fitting.opening c.args.who c.index-own.result.now.behaviour own.behaviour

pub returns : goal.returns
returns g c =
    let P : Program = c.self.inside.program.now in
    let T : Run = c.self.inside.trace.run in
    let t : ℕ = c.args.who in
    let r : Record = c.index-own.result.now in
    let job : TurnSoFar = c.in_ok-job.job in
    let taker : IsTaker T c.in-Some.turn (Some t) = open_taker T t c.in-Some.turn c.in-Some.ensures in
    let own : IsRecord P T t r = taker_record P T c.self.inside.records.items c.self.invariant.0.well_formed c.self.invariant.0.records_are t c.in-Some.turn taker r c.index-own.ensures in
    let is : IsTurnOf P t r.behaviour c.in-Some.turn (val_of r.message) r.replies job = c.in_ok-job.ensures in
    subst (λ (k : Core). IsJobOf k t (Some job)) c.self.view_is (is.who, record_open P T t c.in-Some.turn r job own c.in-Some.ensures is)
