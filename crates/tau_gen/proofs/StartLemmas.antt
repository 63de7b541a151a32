-- The names of the starts.
use Rattle.std.proofs.Common.{◌≡◌, ◌≢◌, ℕ, ◌<◌, true, List, get_or, drop, map, refl, sym, ap, ◌∙◌, arith}
use Rattle.std.specs.Fmt.{decimal, digits}
use Rattle.std.specs.List.{All, AllPairs, list_all, range_with_len}
use Rattle.std.proofs.lemmas.Fmt.{decimal_injective}
use Rattle.std.proofs.lemmas.List.FromFn.{get_or-map-range_with_len, length-map-range_with_len}
use Rattle.std.proofs.lemmas.List.Sums.{AllPass-from_list_all}
use Rattle.tau_value.specs.Names.{is_name, IsName}
use Rattle.tau_gen.specs.Generated.{start_name, starts}

-- the names in order
abbrev pub names : List (List ℕ)
names = map start_name (range_with_len 0 16)

-- they are the names of the starts
pub starts_names : map (λ s. s.name) starts ≡ names
unfolding starts
starts_names = refl

-- the test for a name passes at each
all_named : list_all is_name names ≡ true
unfolding digits
all_named = refl

-- each is a name
pub names_named : All IsName names
names_named = AllPass-from_list_all is_name names all_named

-- no two are equal, since their digits aren't
pub names_distinct : AllPairs (λ v w. v ≢ w) names
names_distinct i j d below lt e =
    let few : j < 16 = omega (arith, length-map-range_with_len start_name 0 16) in
    let one : get_or names i d ≡ start_name i = get_or-map-range_with_len start_name 0 16 i i d (omega arith) (omega arith) in
    let two : get_or names j d ≡ start_name j = get_or-map-range_with_len start_name 0 16 j j d few (omega arith) in
    let same : decimal i ≡ decimal j = ap (drop 1) (sym one ∙ e ∙ two) in
    let equal : i ≡ j = decimal_injective i j (omega arith) (omega arith) same in
    omega arith
