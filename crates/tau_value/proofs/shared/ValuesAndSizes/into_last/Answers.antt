use Rattle.std.proofs.Common.{◌<◌, None, vec_len, arith, ap, ◌∙◌}
use Rattle.std.specs.List.{last_or}
use Rattle.tau_value.proofs.ValueLemmas.{last_popped}
use Rattle.tau_value.proofs.shared.ValuesAndSizes.into_last.Goals as goal

pub returns : goal.returns
returns c =
    let some : 0 < vec_len c.self.inside.items = omega (arith, c.in_default.len_at_least, c.as_slice.ensures.len) in
    last_popped c.self.inside.items.items c.pop.new.self.items (vec_len c.self.inside.items) (vec_len c.pop.new.self) c.pop.result some c.pop.ensures.cases c.pop.ensures.items ∙ ap (last_or None) c.self.view_is
