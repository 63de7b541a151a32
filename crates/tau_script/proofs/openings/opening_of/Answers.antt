use Rattle.std.proofs.Common.{◌≡◌, ◌∙◌, ap, map, sym, subst}
use Rattle.tau_trace.specs.Known.{IsSound}
use Rattle.tau_script.specs.Openings.{program_opening}
use Rattle.tau_script.proofs.SoundOpenings.{sound_opening}
use Rattle.tau_script.proofs.openings.opening_of.Goals as goal

pub returns-clause-sound : goal.returns-clause-sound
returns-clause-sound c = λ s.
    let p = c.args.program.now in
    let names = ap (map (λ s. s.name)) (sym c.items.ensures) ∙ sym c.in_ok-start_names.ensures in
    let behaviours = ap (map (λ b. b.name)) (sym c.items-2.ensures) ∙ sym c.in_ok-behaviour_names.ensures in
    let homes = ap (map (λ s. s.node)) (sym c.items-3.ensures) ∙ sym c.in_ok-homes.ensures in
    let targets = ap (map (λ q. q.to)) (sym c.items-4.ensures) ∙ sym c.in_ok-targets.ensures in
    subst IsSound (λ i. record { names = names i; behaviours = behaviours i; nodes = p.nodes; homes = homes i; targets = targets i; version = p.version }) (sound_opening p s)
