use Rattle.std.proofs.Common.{[], ◌∷◌, arith}
use Rattle.std.proofs.lemmas.List.{map-append}
use Rattle.tau_value.specs.Sizes.{parts-push, levels-push, names_end-push}
use Rattle.tau_value.specs.Value.{val_of}
use Rattle.tau_value.proofs.shared.ValuesAndSizes.push.Goals as goal

pub invariant_of-self : goal.invariant_of-self
invariant_of-self c =
    rw (c.in-Ok.ensures.items, map-append val_of c.self.inside.items.items (c.args.item ∷ [])) (record {
      of_parts = rw parts-push (omega (arith, c.self.invariant.of_parts));
      of_levels = rw levels-push (omega (arith, c.self.invariant.of_levels));
      of_names = rw names_end-push (omega (arith, c.self.invariant.of_names));
    })
