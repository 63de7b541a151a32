use Rattle.std.proofs.Common.{sym, subst, arith, get_or, Option, ℕ, None}
use Rattle.std.specs.HashMap.{get}
use Rattle.std.proofs.lemmas.Option.{slice_get-get_or}
use Rattle.tau_explain.specs.Chains.Inner.Distances.{IsNearestOf}
use Rattle.tau_past.specs.Tables.{CarriedFrom, same_point}
use Rattle.tau_explain.proofs.links.nearest.nearest_from.Goals as goal

pub returns : goal.returns
returns c =
    let far = get same_point c.args.far.now in
    let i = c.in_ok-rest.field-0 in
    let lt = c.requires.below i c.in_ok-rest.was in
    subst (λ (o : Option ℕ). IsNearestOf (CarriedFrom c.args.index.now o) far (get_or c.args.nearest.now i None)) (sym c.in_ok-rest.was)
    (c.requires.told.each i (get_or c.args.nearest.now i None) (slice_get-get_or c.args.nearest.now i None (omega (arith, lt, c.requires.told.count))))
