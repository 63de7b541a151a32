use Rattle.std.proofs.Common.{◌≡◌, ◌<◌, ◌∙◌, [], length, get_or, Some, refl, sym, ap, subst, arith, below_more}
use Rattle.std.proofs.lemmas.List.{get_or_default}
use Rattle.tau_value.specs.Names.{IsName, place_of}
use Rattle.tau_value.proofs.NameLemmas.{place_of-at}
use Rattle.tau_trace.proofs.NamePlaces.{names_from_places}
use Rattle.tau_trace.proofs.opening.are_names.Goals as goal

pub returns-then-not-is_found_at : goal.returns-then-not-is_found_at
returns-then-not-is_found_at c =
    let xs = c.args.names.now in
    let k = c.loop-place.place in
    let within : k < length xs = omega (arith, c.loop-place-test.true, ap length c.items-word-items.ensures) in
    let here : get_or xs k c.word-item.result ≡ c.word-item.result = sym (c.word-item.is ∙ ap (λ ys. get_or ys k c.word-item.result) c.items-word-items.ensures) in
    (λ t. absurd (cc), λ are. c.if-not-is_found_at.ensures.1 (place_of-at xs k c.word-item.result are.distinct within here))

pub loop-place-preserved : goal.loop-place-preserved
loop-place-preserved c =
    let xs = c.args.names.now in
    let k = c.loop-place.place in
    let w = c.word-item.result in
    let within : k < length xs = omega (arith, c.loop-place-test.true, ap length c.items-word-items.ensures) in
    let here : get_or xs k [] ≡ w = get_or_default xs k [] w within ∙ sym (c.word-item.is ∙ ap (λ ys. get_or ys k w) c.items-word-items.ensures) in
    let named : IsName (get_or xs k []) = subst IsName (sym here) (sym c.if-not-is_name.ensures) in
    let found : place_of xs (get_or xs k []) ≡ Some k = ap (place_of xs) here ∙ c.if-not-is_found_at.ensures.0 refl in
    below_more (λ j. IsName (get_or xs j []) × (place_of xs (get_or xs j []) ≡ Some j)) k c.loop-place.invariant (named, found)

pub returns : goal.returns
returns c = (λ t. names_from_places c.args.names.now (λ k l. c.loop-place.invariant k (omega (arith, l, c.loop-place-test.false, ap length c.items-word-items.ensures))), λ h. refl)
