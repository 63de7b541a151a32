use Rattle.std.proofs.Common.{◌≡◌, ◌∙◌, ℕ, Option, List, ap, sym, subst}
use Rattle.tau_tree.specs.declared.programs.Program.{Program}
use Rattle.tau_trace.specs.declared.step.Step.{Step}
use Rattle.tau_trace.specs.Steps.{actor}
use Rattle.tau_trace.specs.Run.{Run, len, appended}
use Rattle.tau_trace.specs.Known.{MayFollow}
use Rattle.tau_states.specs.declared.state_record.StateRecord.{StateRecord}
use Rattle.tau_states.specs.Effects.{changed}
use Rattle.tau_states.specs.Table.{Advances}
use Rattle.tau_legal.specs.Fits.{Fits as FitsAt}
use Rattle.tau_rules.specs.declared.records.Record.{Record}
use Rattle.tau_rules.specs.Records.{Changes, HasChanged, sent_value, with_sent}
use Rattle.tau_rules.specs.System.{Core}
use Rattle.tau_rules.proofs.ReadinessLemmas.{is_ready}
use Rattle.tau_rules.proofs.SystemLemmas.{made}
use Rattle.tau_rules.proofs.system.System.append.Goals as goal

pub prepare-requires-2-clause-ready : goal.prepare-requires-2-clause-ready
prepare-requires-2-clause-ready g c =
    let P : Program = c.self.inside.program.now in
    let T : Run = c.self.inside.trace.run in
    let s : Step = c.args.step in
    let seen = sym c.self.view_is in
    let may : MayFollow T s = subst (λ (k : Core). MayFollow k.run s) seen c.requires.known in
    let fits : FitsAt P T (len T) s = subst (λ (k : Core). FitsAt k.program k.run (len k.run) s) seen c.requires.fits in
    is_ready P T s c.self.invariant.0.well_formed may fits

pub invariant_of-self-2 : goal.invariant_of-self-2
invariant_of-self-2 g c =
    let P : Program = c.self.inside.program.now in
    let T : Run = c.self.inside.trace.run in
    let s : Step = c.args.step in
    let old : List StateRecord = c.self.inside.states.records in
    let seen = sym c.self.view_is in
    let may : MayFollow T s = subst (λ (k : Core). MayFollow k.run s) seen c.requires.known in
    let fits : FitsAt P T (len T) s = subst (λ (k : Core). FitsAt k.program k.run (len k.run) s) seen c.requires.fits in
    let changes : Changes P T s c.args.change = subst (λ (k : Core). Changes k.program k.run s c.args.change) seen c.requires.change in
    let run : c.push_spare.new.self.run ≡ appended T s = c.push_spare.ensures ∙ ap (λ (R : Run). appended R s) c.in_ok-reserve.ensures.run in
    let states : c.apply.new.self.records ≡ changed c.in_ok-states.states old = c.apply.ensures ∙ ap (changed c.in_ok-states.states) c.in_ok-reserve-2.ensures.records in
    let advances : Advances s old c.apply.new.self.records = subst (λ (rs : List StateRecord). Advances s old rs) (sym states) c.in_ok-states.ensures in
    let by : HasChanged c.args.change (actor s) c.reserve-4.new.self.items c.change_record.new.records.items = subst (λ (o : Option ℕ). HasChanged c.args.change o c.reserve-4.new.self.items c.change_record.new.records.items) c.actor.ensures c.in_ok-change_record.ensures.ok in
    let has_changed : HasChanged c.args.change (actor s) c.self.inside.records.items c.change_record.new.records.items = subst (λ (rs : List Record). HasChanged c.args.change (actor s) rs c.change_record.new.records.items) c.in_ok-reserve-4.ensures.items by in
    let sent : c.keep_sent.new.values.items ≡ with_sent c.self.inside.values.items (sent_value c.self.inside.values.items s) = c.keep_sent.ensures ∙ (λ i. with_sent (c.in_ok-reserve-3.ensures.items i) (c.in_ok-sent.ensures i)) in
    let knows = subst (λ (R : Run). g.K.Knowledge.knows c.apply-2.new.self R) (sym run) (c.apply-2.ensures (appended T s) c.in_ok-heard.ensures.ok) in (
      made P T c.push_spare.new.self.run s c.args.change old c.apply.new.self.records c.self.inside.records.items c.change_record.new.records.items c.keep_newborn.new.records.items c.newborn_of-newborn.result c.self.inside.values.items c.keep_sent.new.values.items
          may fits changes c.self.invariant.0 run advances has_changed c.newborn_of-newborn.ensures c.keep_newborn.ensures sent,
      knows,
    )
