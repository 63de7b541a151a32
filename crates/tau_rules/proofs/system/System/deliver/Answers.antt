use Rattle.std.proofs.Common.{◌<◌, ℕ, Some, sym, subst}
use Rattle.tau_trace.specs.declared.step.Step.TheVariants.{Drop, Fall}
use Rattle.tau_trace.specs.Run.{Run, len}
use Rattle.tau_trace.specs.Numbering.{sent, Receives, InFlight}
use Rattle.tau_trace.specs.Known.{MayFollow}
use Rattle.tau_trace.specs.Turns.{IsOpenTurn}
use Rattle.tau_past.specs.Decisions.{drops, falls, Verdict}
use Rattle.tau_knowledge.specs.declared.receipt.Receipt.{Receipt}
use Rattle.tau_knowledge.specs.Knowing.{judged}
use Rattle.tau_legal.specs.Fits.{Arrives, ArrivesLate}
use Rattle.tau_legal.proofs.SafetyLemmas.{keeps_rules}
use Rattle.tau_legal.proofs.ReceiverLemmas.{receivers_of_fitting}
use Rattle.tau_rules.specs.System.{Core}
use Rattle.tau_rules.proofs.DeliverLemmas.{arrives, arrives_late, receiver_exists, known_pair}
use Rattle.tau_rules.proofs.system.System.deliver.Goals as goal

pub unreachable-requires : goal.unreachable-requires
unreachable-requires g c =
    let T : Run = c.self.inside.trace.run in
    let there : c.args.message < sent T (len T) = subst (λ (k : Core). c.args.message < sent k.run (len k.run)) (sym c.self.view_is) c.requires.exists in
    let received = receivers_of_fitting c.self.inside.program.now T c.args.message c.self.invariant.0.fitting there in
    absurd (c.in_default-target.ensures received.0 received.1)

pub returns-in-Some-open_turn-clause-err : goal.returns-in-Some-open_turn-clause-err
returns-in-Some-open_turn-clause-err g c =
    let T : Run = c.self.inside.trace.run in
    let there : c.args.message < sent T (len T) = subst (λ (k : Core). c.args.message < sent k.run (len k.run)) (sym c.self.view_is) c.requires.exists in
    let in_flight : InFlight T c.args.message (len T) = record { exists = there; not_removed = c.in_default.ensures } in
    subst (λ (k : Core). (x : ℕ) × Receives k.run c.args.message x × IsOpenTurn k.run x (len k.run) (Some c.in-Some-open_turn.turn) × InFlight k.run c.args.message (len k.run)) c.self.view_is
    (c.in-Some-target.who, c.in-Some-target.ensures, c.in-Some-open_turn.ensures, in_flight)

pub receive_late-requires-clause-late : goal.receive_late-requires-clause-late
receive_late-requires-clause-late g c =
    let T : Run = c.self.inside.trace.run in
    let there : c.args.message < sent T (len T) = subst (λ (k : Core). c.args.message < sent k.run (len k.run)) (sym c.self.view_is) c.requires.exists in
    subst (λ (k : Core). ArrivesLate k.run c.in-Some-target.who c.args.message (len k.run)) c.self.view_is
    (arrives_late T c.in-Some-target.who c.args.message c.end_of.result there c.in_default.ensures c.in-Some-target.ensures c.if-is_some.ensures c.end_of.ensures)

pub verdict-requires-clause-rules : goal.verdict-requires-clause-rules
verdict-requires-clause-rules g c = keeps_rules c.self.inside.program.now c.self.inside.trace.run c.self.invariant.0.fitting

pub verdict-requires-clause-exists : goal.verdict-requires-clause-exists
verdict-requires-clause-exists g c =
    let T : Run = c.self.inside.trace.run in
    let there : c.args.message < sent T (len T) = subst (λ (k : Core). c.args.message < sent k.run (len k.run)) (sym c.self.view_is) c.requires.exists in
    receiver_exists T c.self.invariant.0.well_formed c.args.message c.in-Some-target.who there c.in-Some-target.ensures

pub receive_take-requires-clause-arrives : goal.receive_take-requires-clause-arrives
receive_take-requires-clause-arrives g c =
    let T : Run = c.self.inside.trace.run in
    let there : c.args.message < sent T (len T) = subst (λ (k : Core). c.args.message < sent k.run (len k.run)) (sym c.self.view_is) c.requires.exists in
    subst (λ (k : Core). Arrives k.run c.in-Some-target.who c.args.message (len k.run)) c.self.view_is
    (arrives T c.in-Some-target.who c.args.message c.end_of.result there c.in_default.ensures c.in-Some-target.ensures c.if-is_some.ensures c.end_of.ensures c.in_default-open_turn.ensures)

pub append-requires-clause-known : goal.append-requires-clause-known
append-requires-clause-known g c =
    let T : Run = c.self.inside.trace.run in
    let there : c.args.message < sent T (len T) = subst (λ (k : Core). c.args.message < sent k.run (len k.run)) (sym c.self.view_is) c.requires.exists in
    let few : len T < 1000000 = subst (λ (k : Core). len k.run < 1000000) (sym c.self.view_is) c.requires.few in
    subst (λ (k : Core). MayFollow k.run (Drop c.in-Some-target.who c.args.message)) c.self.view_is
    (record { known = known_pair T c.self.invariant.0.well_formed c.args.message c.in-Some-target.who there c.in-Some-target.ensures; version = tt; few_steps = few })

pub append-requires-clause-fits : goal.append-requires-clause-fits
append-requires-clause-fits g c =
    let T : Run = c.self.inside.trace.run in
    let who : ℕ = c.in-Some-target.who in
    let m : ℕ = c.args.message in
    let there : m < sent T (len T) = subst (λ (k : Core). m < sent k.run (len k.run)) (sym c.self.view_is) c.requires.exists in
    let verdict : Verdict T who (len T) m drops = subst (λ (r : Receipt). Verdict T who (len T) m (judged r)) c.in-Drop.is c.in_ok-verdict.ensures in
    subst (λ (k : Core). Arrives k.run who m (len k.run) × Verdict k.run who (len k.run) m drops) c.self.view_is
    (arrives T who m c.end_of.result there c.in_default.ensures c.in-Some-target.ensures c.if-is_some.ensures c.end_of.ensures c.in_default-open_turn.ensures, verdict)

pub append-requires-in-Fall-clause-known : goal.append-requires-in-Fall-clause-known
append-requires-in-Fall-clause-known g c =
    let T : Run = c.self.inside.trace.run in
    let there : c.args.message < sent T (len T) = subst (λ (k : Core). c.args.message < sent k.run (len k.run)) (sym c.self.view_is) c.requires.exists in
    let few : len T < 1000000 = subst (λ (k : Core). len k.run < 1000000) (sym c.self.view_is) c.requires.few in
    subst (λ (k : Core). MayFollow k.run (Fall c.in-Some-target.who c.args.message)) c.self.view_is
    (record { known = known_pair T c.self.invariant.0.well_formed c.args.message c.in-Some-target.who there c.in-Some-target.ensures; version = tt; few_steps = few })

pub append-requires-in-Fall-clause-fits : goal.append-requires-in-Fall-clause-fits
append-requires-in-Fall-clause-fits g c =
    let T : Run = c.self.inside.trace.run in
    let who : ℕ = c.in-Some-target.who in
    let m : ℕ = c.args.message in
    let there : m < sent T (len T) = subst (λ (k : Core). m < sent k.run (len k.run)) (sym c.self.view_is) c.requires.exists in
    let verdict : Verdict T who (len T) m falls = subst (λ (r : Receipt). Verdict T who (len T) m (judged r)) c.in-Fall.is c.in_ok-verdict.ensures in
    subst (λ (k : Core). Arrives k.run who m (len k.run) × Verdict k.run who (len k.run) m falls) c.self.view_is
    (arrives T who m c.end_of.result there c.in_default.ensures c.in-Some-target.ensures c.if-is_some.ensures c.end_of.ensures c.in_default-open_turn.ensures, verdict)
