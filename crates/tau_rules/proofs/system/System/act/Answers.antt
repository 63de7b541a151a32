use Rattle.std.proofs.Common.{ℕ, Some, None, refl, subst, arith}
use Rattle.tau_value.specs.Value.{val_of}
use Rattle.tau_tree.specs.declared.programs.Program.{Program}
use Rattle.tau_trace.specs.Run.{Run, len}
use Rattle.tau_trace.specs.Turns.{IsOpenTurn}
use Rattle.tau_eval.specs.Turn.{TurnSoFar, IsTurnOf}
use Rattle.tau_rules.specs.declared.records.Record.{Record}
use Rattle.tau_rules.specs.Records.{IsRecord}
use Rattle.tau_rules.specs.System.{Core}
use Rattle.tau_rules.specs.Answers.{IsOpenJob, NoTurnFrom, IsTurnEnd, no_take}
use Rattle.tau_rules.specs.Inner.Acting.{IsTaker}
use Rattle.tau_rules.proofs.DeliverLemmas.{behaviour_exists}
use Rattle.tau_rules.proofs.ActLemmas.{none_without_take}
use Rattle.tau_rules.proofs.ActLemmasOfJobs.{taker_within_records, taker_record, record_open}
use Rattle.tau_rules.proofs.system.System.act.Goals as goal

pub returns-in_default-clause-err : goal.returns-in_default-clause-err
returns-in_default-clause-err g c =
    let T : Run = c.self.inside.trace.run in
    let none : IsTaker T c.turn-turn.result None = c.in_default.ensures in
    let stale : NoTurnFrom T c.turn-turn.result × IsTurnEnd T c.turn-turn.result c.len.result = (none_without_take T c.turn-turn.result none, no_take none c.len.ensures.len) in
    let at_place : NoTurnFrom T c.args.pending.now.place × IsTurnEnd T c.args.pending.now.place c.len.result = subst (λ p. NoTurnFrom T p × IsTurnEnd T p c.len.result) c.turn-turn.ensures stale in
    subst (λ (k : Core). NoTurnFrom k.run c.args.pending.now.place × IsTurnEnd k.run c.args.pending.now.place c.len.result) c.self.view_is at_place

pub index-own-requires : goal.index-own-requires
index-own-requires g c =
    let T : Run = c.self.inside.trace.run in
    let taker : IsTaker T c.turn-turn.result (Some c.in-Some.who) = c.in-Some.ensures in
    let within = taker_within_records c.self.inside.program.now T c.self.inside.records.items c.self.invariant.0.well_formed c.self.invariant.0.records_are c.in-Some.who c.turn-turn.result taker in
    omega (arith, within, c.self.inside.records.ok)

pub is_record-requires : goal.is_record-requires
is_record-requires g c =
    let P : Program = c.self.inside.program.now in
    let T : Run = c.self.inside.trace.run in
    let taker : IsTaker T c.turn-turn.result (Some c.in-Some.who) = c.in-Some.ensures in
    let own = taker_record P T c.self.inside.records.items c.self.invariant.0.well_formed c.self.invariant.0.records_are c.in-Some.who c.turn-turn.result taker c.index-own.result.now c.index-own.ensures in
    behaviour_exists P T c.self.invariant.0.sound c.self.invariant.0.well_formed c.self.invariant.0.fitting.opening c.in-Some.who c.index-own.result.now.behaviour own.behaviour

pub job_of-requires : goal.job_of-requires
job_of-requires g c =
    let P : Program = c.self.inside.program.now in
    let T : Run = c.self.inside.trace.run in
    let taker : IsTaker T c.turn-turn.result (Some c.in-Some.who) = c.in-Some.ensures in
    let own = taker_record P T c.self.inside.records.items c.self.invariant.0.well_formed c.self.invariant.0.records_are c.in-Some.who c.turn-turn.result taker c.index-own.result.now c.index-own.ensures in
    behaviour_exists P T c.self.invariant.0.sound c.self.invariant.0.well_formed c.self.invariant.0.fitting.opening c.in-Some.who c.index-own.result.now.behaviour own.behaviour

pub returns-then-not-is_record-clause-ok : goal.returns-then-not-is_record-clause-ok
returns-then-not-is_record-clause-ok g c =
    let P : Program = c.self.inside.program.now in
    let T : Run = c.self.inside.trace.run in
    let t : ℕ = c.in-Some.who in
    let r : Record = c.index-own.result.now in
    let job : TurnSoFar = c.in_ok-job_of.field-0 in
    let taker : IsTaker T c.turn-turn.result (Some t) = c.in-Some.ensures in
    let own : IsRecord P T t r = taker_record P T c.self.inside.records.items c.self.invariant.0.well_formed c.self.invariant.0.records_are t c.turn-turn.result taker r c.index-own.ensures in
    let opened : IsOpenTurn T t (len T) (Some c.turn-turn.result) = c.is_open.ensures.0 c.if-not-is_open.false in
    let is : IsTurnOf P t r.behaviour c.turn-turn.result (val_of r.message) r.replies job = c.in_ok-job_of.ensures in
    let at_place : IsTurnOf P t r.behaviour c.args.pending.now.place (val_of r.message) r.replies job = subst (λ p. IsTurnOf P t r.behaviour p (val_of r.message) r.replies job) c.turn-turn.ensures is in
    record {
      unchanged = refl;
      place = at_place.place;
      is_open = subst (λ (k : Core). IsOpenJob k.program k.run job) c.self.view_is (record_open P T t c.turn-turn.result r job own opened is);
      differs = λ e.
          let told = c.is_record.ensures.1 (subst (IsTurnOf P t r.behaviour c.args.pending.now.place (val_of r.message) r.replies) e at_place) in
          let untold = c.if-not-is_record.true in
          cc;
    }

pub act_open-requires-clause-is_open : goal.act_open-requires-clause-is_open
act_open-requires-clause-is_open g c =
    let P : Program = c.self.inside.program.now in
    let T : Run = c.self.inside.trace.run in
    let t : ℕ = c.in-Some.who in
    let r : Record = c.index-own.result.now in
    let job : TurnSoFar = c.args.pending.now in
    let taker : IsTaker T c.turn-turn.result (Some t) = c.in-Some.ensures in
    let own : IsRecord P T t r = taker_record P T c.self.inside.records.items c.self.invariant.0.well_formed c.self.invariant.0.records_are t c.turn-turn.result taker r c.index-own.ensures in
    let opened : IsOpenTurn T t (len T) (Some job.place) = subst (λ p. IsOpenTurn T t (len T) (Some p)) c.turn-turn.ensures (c.is_open.ensures.0 c.if-not-is_open.false) in
    let is : IsTurnOf P t r.behaviour job.place (val_of r.message) r.replies job = c.is_record.ensures.0 c.if-not-is_record.false in
    subst (λ (k : Core). IsOpenJob k.program k.run job) c.self.view_is (record_open P T t job.place r job own opened is)
