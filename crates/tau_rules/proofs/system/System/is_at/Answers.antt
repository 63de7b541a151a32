use Rattle.std.proofs.Common.{ℕ, Some, eq-eqb, eqb-true, sym, ◌∙◌, subst, arith}
use Rattle.tau_tree.specs.declared.programs.Program.{Program}
use Rattle.tau_trace.specs.Run.{Run, len}
use Rattle.tau_trace.specs.Turns.{IsOpenTurn}
use Rattle.tau_eval.specs.Turn.{TurnSoFar}
use Rattle.tau_rules.specs.declared.records.Record.{Record}
use Rattle.tau_rules.specs.Records.{IsRecord}
use Rattle.tau_rules.specs.System.{Core}
use Rattle.tau_rules.specs.KnownJobs.{IsAt}
use Rattle.tau_rules.specs.Inner.Acting.{IsTaker}
use Rattle.tau_rules.proofs.ActLemmasOfJobs.{open_taker, taker_within_records, taker_record}
use Rattle.tau_rules.proofs.KnownJobs.{counted}
use Rattle.tau_rules.proofs.system.System.is_at.Goals as goal

pub index-own-requires : goal.index-own-requires
index-own-requires g c =
    let T : Run = c.self.inside.trace.run in
    let opened : IsOpenTurn T c.who-who.result (len T) (Some c.turn-turn.result) = c.has_open_turn.ensures.0 c.if-not-has_open_turn.false in
    let taker : IsTaker T c.turn-turn.result (Some c.who-who.result) = open_taker T c.who-who.result c.turn-turn.result opened in
    let within = taker_within_records c.self.inside.program.now T c.self.inside.records.items c.self.invariant.0.well_formed c.self.invariant.0.records_are c.who-who.result c.turn-turn.result taker in
    omega (arith, within, c.self.inside.records.ok)

pub returns : goal.returns
returns g c =
    let P : Program = c.self.inside.program.now in
    let T : Run = c.self.inside.trace.run in
    let t : ℕ = c.who-who.result in
    let place : ℕ = c.turn-turn.result in
    let r : Record = c.index-own.result.now in
    let job : TurnSoFar = c.args.pending.now in
    let opened : IsOpenTurn T t (len T) (Some place) = c.has_open_turn.ensures.0 c.if-not-has_open_turn.false in
    let taker : IsTaker T place (Some t) = open_taker T t place opened in
    let own : IsRecord P T t r = taker_record P T c.self.inside.records.items c.self.invariant.0.well_formed c.self.invariant.0.records_are t place taker r c.index-own.ensures in
    let both = counted P T job t place r c.who-who.ensures c.turn-turn.ensures own opened in (
      λ e. subst (λ (k : Core). IsAt k.program k.run job) c.self.view_is (both.0 (sym c.len.ensures ∙ eqb-true c.len.result c.replies_len.result e ∙ c.replies_len.ensures)),
      λ at. eq-eqb c.len.result c.replies_len.result (c.len.ensures ∙ both.1 (subst (λ (k : Core). IsAt k.program k.run job) (sym c.self.view_is) at) ∙ sym c.replies_len.ensures),
    )
