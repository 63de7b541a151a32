use Rattle.std.proofs.Common.{refl, sym, subst, ◌≡◌, ◌∙◌, ℕ, ap, arith}
use Rattle.tau_faults.specs.Inner.Walking.{HasSeen}
use Rattle.tau_faults.proofs.SeenLemmas.{seen_none}
use Rattle.tau_tree.specs.Sound.{Sound}
use Rattle.tau_storm.specs.Seeds.{seed_from, AreEndsOfSeeds, none}
use Rattle.tau_storm.proofs.StormLemmas.{seen_next}
use Rattle.tau_storm.proofs.storms.visit_seeds.Goals as goal

pub loop-number-init : goal.loop-number-init
loop-number-init g c = (refl, seen_none g.V.Visit.visits (AreEndsOfSeeds c.args.setting.now c.args.program.now c.args.seed 0) c.args.visitor.now none)

pub visit_ends-requires-clause-sound : goal.visit_ends-requires-clause-sound
visit_ends-requires-clause-sound g c = subst Sound (sym c.loop-number.invariant.0) c.requires.sound

pub loop-number-preserved : goal.loop-number-preserved
loop-number-preserved g c = (
  c.in_ok-visit_ends.ensures.program ∙ c.loop-number.invariant.0,
  seen_next g.V.Visit.visits c.args.setting.now c.args.program.now c.loop-number.program c.args.seed c.loop-number.number _ c.args.visitor.now c.loop-number.visitor c.visit_ends.new.visitor c.loop-number.invariant.0
      (ap (λ k. seed_from c.args.seed k) c.from.ensures) c.loop-number.invariant.1 c.in_ok-visit_ends.ensures.ends,
)

pub returns-clause-ends : goal.returns-clause-ends
returns-clause-ends g c =
    let all : c.loop-number.number ≡ c.args.seeds = omega (arith, c.loop-number-test.false, c.loop-number.auto.number-end) in
    subst (λ (n : ℕ). HasSeen g.V.Visit.visits (AreEndsOfSeeds c.args.setting.now c.args.program.now c.args.seed n) c.args.visitor.now c.loop-number.visitor) all c.loop-number.invariant.1
