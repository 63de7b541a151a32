use Rattle.std.proofs.Common.{◌<◌, ℕ, [], arith, refl, sym, subst}
use Rattle.std.specs.Prelude.{length}
use Rattle.tau_value.specs.declared.shared.Value.{Value}
use Rattle.tau_value.specs.Value.{val_of}
use Rattle.tau_tree.specs.declared.programs.Program.{Program}
use Rattle.tau_trace.specs.declared.step.Step.TheVariants.{Take}
use Rattle.tau_trace.specs.Run.{Run, len}
use Rattle.tau_trace.specs.Numbering.{born, sent}
use Rattle.tau_trace.specs.Known.{MayFollow}
use Rattle.tau_eval.specs.Turn.{IsTurnOf}
use Rattle.tau_legal.specs.Turns.{HasBehaviour, HasValue}
use Rattle.tau_legal.specs.Fits.{Arrives}
use Rattle.tau_rules.specs.System.{Core}
use Rattle.tau_rules.proofs.DeliverLemmas.{receiver_exists, known_pair, behaviour_exists, index_get, has_begun}
use Rattle.tau_rules.proofs.system.System.begin_turn.Goals as goal

pub index-requires : goal.index-requires
index-requires g c =
    let T : Run = c.self.inside.trace.run in
    let arrives : Arrives T c.args.who c.args.message (len T) = subst (λ (k : Core). Arrives k.run c.args.who c.args.message (len k.run)) (sym c.self.view_is) c.requires.arrives in
    omega (arith, receiver_exists T c.self.invariant.0.well_formed c.args.message c.args.who arrives.in_flight.exists arrives.receiver, c.self.invariant.0.records_are.count, c.self.inside.records.ok)

pub begin-requires : goal.begin-requires
begin-requires g c =
    let T : Run = c.self.inside.trace.run in
    let system = c.self.invariant.0 in
    let arrives : Arrives T c.args.who c.args.message (len T) = subst (λ (k : Core). Arrives k.run c.args.who c.args.message (len k.run)) (sym c.self.view_is) c.requires.arrives in
    let exists : c.args.who < born T (len T) = receiver_exists T system.well_formed c.args.message c.args.who arrives.in_flight.exists arrives.receiver in
    let below : c.args.who < length c.self.inside.records.items = omega (arith, exists, system.records_are.count) in
    let stands = index_get c.self.inside.records.items c.args.who c.index.result.now below c.index.ensures in
    behaviour_exists c.self.inside.program.now T system.sound system.well_formed system.fitting.opening c.args.who c.index.result.now.behaviour (system.records_are.each c.args.who c.index.result.now stands).behaviour

pub append-requires-clause-known : goal.append-requires-clause-known
append-requires-clause-known g c =
    let T : Run = c.self.inside.trace.run in
    let few : len T < 1000000 = subst (λ (k : Core). len k.run < 1000000) (sym c.self.view_is) c.requires.few in
    let arrives : Arrives T c.args.who c.args.message (len T) = subst (λ (k : Core). Arrives k.run c.args.who c.args.message (len k.run)) (sym c.self.view_is) c.requires.arrives in
    subst (λ (k : Core). MayFollow k.run (Take c.args.who c.args.message)) c.self.view_is
    (record { known = known_pair T c.self.invariant.0.well_formed c.args.message c.args.who arrives.in_flight.exists arrives.receiver; version = tt; few_steps = few })

pub append-requires-clause-change : goal.append-requires-clause-change
append-requires-clause-change g c =
    let T : Run = c.self.inside.trace.run in
    let P : Program = c.self.inside.program.now in
    let arrives : Arrives T c.args.who c.args.message (len T) = subst (λ (k : Core). Arrives k.run c.args.who c.args.message (len k.run)) (sym c.self.view_is) c.requires.arrives in
    let below : c.args.message < length c.self.inside.values.items = omega (arith, arrives.in_flight.exists, c.self.invariant.0.values_are.count) in
    let stands = index_get c.self.inside.values.items c.args.message c.index-value.result.now below c.index-value.ensures in
    let has : HasValue P T c.args.message (val_of c.index-value.result.now) = c.self.invariant.0.values_are.each c.args.message c.index-value.result.now stands in
    let value : HasValue P T c.args.message (val_of c.in_ok-copy-2.field-0) = subst (λ (v : Value). HasValue P T c.args.message (val_of v)) (sym c.in_ok-copy-2.ensures) has in
    (c.args.who, c.args.message, refl, subst (λ (k : Core). HasValue k.program k.run c.args.message (val_of c.in_ok-copy-2.field-0)) c.self.view_is value)

pub returns-clause-ok : goal.returns-clause-ok
returns-clause-ok g c =
    let T : Run = c.self.inside.trace.run in
    let P : Program = c.self.inside.program.now in
    let system = c.self.invariant.0 in
    let who : ℕ = c.args.who in
    let m : ℕ = c.args.message in
    let b : ℕ = c.index.result.now.behaviour in
    let arrives : Arrives T who m (len T) = subst (λ (k : Core). Arrives k.run who m (len k.run)) (sym c.self.view_is) c.requires.arrives in
    let exists : who < born T (len T) = receiver_exists T system.well_formed m who arrives.in_flight.exists arrives.receiver in
    let record_at = index_get c.self.inside.records.items who c.index.result.now (omega (arith, exists, system.records_are.count)) c.index.ensures in
    let behaviour : HasBehaviour P T who b = (system.records_are.each who c.index.result.now record_at).behaviour in
    let value_at = index_get c.self.inside.values.items m c.index-value.result.now (omega (arith, arrives.in_flight.exists, system.values_are.count)) c.index-value.ensures in
    let has : HasValue P T m (val_of c.index-value.result.now) = system.values_are.each m c.index-value.result.now value_at in
    let value : HasValue P T m (val_of c.in_ok-copy.field-0) = subst (λ (v : Value). HasValue P T m (val_of v)) (sym c.in_ok-copy.ensures) has in
    let job : IsTurnOf P who b (len T) (val_of c.in_ok-copy.field-0) [] c.in_ok-job.job = subst (λ (n : ℕ). IsTurnOf P who b n (val_of c.in_ok-copy.field-0) [] c.in_ok-job.job) c.len-turn.ensures.len c.in_ok-job.ensures in
    let parts = subst (λ (k : Core). (who < born k.run (len k.run)) × (m < sent k.run (len k.run)) × HasBehaviour k.program k.run who b × HasValue k.program k.run m (val_of c.in_ok-copy.field-0) × IsTurnOf k.program who b (len k.run) (val_of c.in_ok-copy.field-0) [] c.in_ok-job.job) c.self.view_is
    (exists, arrives.in_flight.exists, behaviour, value, job) in
    has_begun c.args.self.now c.append.new.self who b m (val_of c.in_ok-copy.field-0) c.in_ok-job.job parts.0 parts.1 parts.2 parts.3 parts.4 c.in_ok-append.ensures.ok
