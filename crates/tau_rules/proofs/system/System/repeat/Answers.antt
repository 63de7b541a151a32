use Rattle.std.proofs.Common.{◌≡◌, ◌<◌, ◌∙◌, ap, sym, subst}
use Rattle.tau_tree.specs.declared.programs.Program.{Program}
use Rattle.tau_trace.specs.declared.step.Step.TheVariants.{Repeat}
use Rattle.tau_trace.specs.Run.{Run, len}
use Rattle.tau_trace.specs.Numbering.{sent, InFlight}
use Rattle.tau_trace.specs.Known.{MayFollow}
use Rattle.tau_rules.specs.System.{Core}
use Rattle.tau_rules.proofs.system.System.repeat.Goals as goal

pub append-requires-clause-known : goal.append-requires-clause-known
append-requires-clause-known g c =
    let T : Run = c.self.inside.trace.run in
    let there : c.args.message < sent T (len T) = subst (λ (k : Core). c.args.message < sent k.run (len k.run)) (sym c.self.view_is) c.requires.exists in
    let few : len T < 1000000 = subst (λ (k : Core). len k.run < 1000000) (sym c.self.view_is) c.requires.few in
    let two : T.opening.version ≡ 2 = subst (λ (k : Core). k.run.opening.version ≡ 2) (sym c.self.view_is) c.requires.version in
    subst (λ (k : Core). MayFollow k.run (Repeat c.args.message)) c.self.view_is (record { known = there; version = two; few_steps = few })

pub append-requires-clause-fits : goal.append-requires-clause-fits
append-requires-clause-fits g c =
    let P : Program = c.self.inside.program.now in
    let T : Run = c.self.inside.trace.run in
    let there : c.args.message < sent T (len T) = subst (λ (k : Core). c.args.message < sent k.run (len k.run)) (sym c.self.view_is) c.requires.exists in
    let two : T.opening.version ≡ 2 = subst (λ (k : Core). k.run.opening.version ≡ 2) (sym c.self.view_is) c.requires.version in
    let of_program : P.version ≡ 2 = sym (ap (λ o. o.version) c.self.invariant.0.fitting.opening) ∙ two in
    let in_flight : InFlight T c.args.message (len T) = record { exists = there; not_removed = c.in_default.ensures } in
    subst (λ (k : Core). InFlight k.run c.args.message (len k.run) × (k.program.version ≡ 2)) c.self.view_is (in_flight, of_program)
