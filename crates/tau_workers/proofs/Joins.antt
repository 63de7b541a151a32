-- Workers with a seat each, before they work and after.
use Rattle.std.proofs.Common.{◌≡◌, ◌<◌, ◌≤◌, ℕ, zero, suc, List, [], ◌∷◌, ◌++◌, map, length, take, drop, slice_index_or, All, arith, append-nil, refl, ap, sym, ◌∙◌, subst}
use Rattle.std.proofs.lemmas.List.{map-append, drop_all, take_all, take_at, drop_at}
use Rattle.std.proofs.lemmas.List.Elements.{All-append, All-take, All-drop}
use Rattle.tau_book.specs.Hands.{Held}
use Rattle.tau_seat.specs.Seated.{Tabled}
use Rattle.tau_seat.specs.SeatPlaces.{Placed, PlaceKey, key_of_place}
use Rattle.tau_workers.specs.declared.workers.Worker.{Worker}
use Rattle.tau_workers.specs.Inner.Hands.{opening_hand, opening_hands}
use Rattle.tau_workers.specs.Inner.Seats.{HasOne}

abbrev part_of : Worker Placed → ℕ × PlaceKey
part_of w = (w.number, key_of_place w.place)

pub hands_end : (seed jobs count n last : ℕ) (xs ys : List (Worker Placed)) (w : Worker Placed) → ys ≡ xs ++ w ∷ [] → map (λ (v : Worker Placed). v.hand) xs ≡ opening_hands seed jobs n → n ≡ last → w.hand ≡ opening_hand seed jobs last → count ≡ suc last → map (λ (v : Worker Placed). v.hand) ys ≡ opening_hands seed jobs count
hands_end seed jobs count n last xs ys w items hands at hand more =
    ap (map (λ (v : Worker Placed). v.hand)) items ∙ map-append (λ (v : Worker Placed). v.hand) xs (w ∷ []) ∙ ap (λ hs. hs ++ w.hand ∷ []) (hands ∙ ap (opening_hands seed jobs) at)
    ∙ ap (λ h. opening_hands seed jobs last ++ h ∷ []) hand ∙ sym (ap (opening_hands seed jobs) more)

-- a list that was lent as a slice and came back is what came back
pub whole : {W : Type 0} (old new : List W) (n : ℕ) → n ≡ length old → length new ≡ length old → take n (new ++ drop (length new) old) ≡ new
whole old new n at same =
    let none : drop (length new) old ≡ [] = drop_all (length new) old (omega (arith, same)) in
    ap (λ xs. take n (new ++ xs)) none ∙ ap (take n) (append-nil new) ∙ take_all n new (omega (arith, at, same))

-- workers that keep their number and their place's key have one number each, as before
ones_stay : (t : Tabled) (old new : List (Worker Placed)) → length new ≡ length old → ((i : ℕ) (d : Worker Placed) → i < length old → part_of (slice_index_or new i d) ≡ part_of (slice_index_or old i d)) → All (λ w. HasOne t w.place) old → All (λ w. HasOne t w.place) new
ones_stay t old new same parts all = λ k d l. let l' : k < length old = omega (arith, same, l) in subst (λ (p : ℕ × PlaceKey). ((p.1.table ≡ t.table) × (p.1.program ≡ t.program) × (p.1.limit ≡ t.limit)) × (length p.1.numbers ≡ 1)) (sym (parts k d l')) (all k d l')

-- so have those that were lent as a slice and came back
pub ones_back : (t : Tabled) (old lent new : List (Worker Placed)) (n : ℕ) → n ≡ length old → lent ≡ old → length new ≡ length lent → ((i : ℕ) (d : Worker Placed) → i < length lent → part_of (slice_index_or new i d) ≡ part_of (slice_index_or lent i d)) → All (λ w. HasOne t w.place) old → All (λ w. HasOne t w.place) (take n (new ++ drop (length new) old))
ones_back t old lent new n at is same parts all =
    subst (All (λ (w : Worker Placed). HasOne t w.place)) (sym (whole old new n at (same ∙ ap length is)))
    (ones_stay t lent new same parts (subst (All (λ (w : Worker Placed). HasOne t w.place)) (sym is) all))

-- with a worker more that has one, each has one
pub one_more : (t : Tabled) (xs ys : List (Worker Placed)) (w : Worker Placed) → ys ≡ xs ++ w ∷ [] → All (λ w. HasOne t w.place) xs → HasOne t w.place → All (λ w. HasOne t w.place) ys
one_more t xs ys w items all one =
    subst (All (λ (v : Worker Placed). HasOne t v.place)) (sym items) (All-append (λ (v : Worker Placed). HasOne t v.place) xs (w ∷ []) all (only one)) where
      only : HasOne t w.place → All (λ (v : Worker Placed). HasOne t v.place) (w ∷ [])
      only h zero d l = h
      only h (suc k) d l = absurd (omega (arith, l))

-- of a list of those that have one, with a last one, the others have one, and so has the last
pub with_last : (t : Tabled) (xs ys : List (Worker Placed)) (w : Worker Placed) → xs ≡ ys ++ w ∷ [] → All (λ w. HasOne t w.place) xs → All (λ w. HasOne t w.place) ys × HasOne t w.place
with_last t xs ys w items all =
    let both : All (λ (v : Worker Placed). HasOne t v.place) (ys ++ w ∷ []) = subst (All (λ (v : Worker Placed). HasOne t v.place)) items all in (
      subst (All (λ (v : Worker Placed). HasOne t v.place)) (take_at ys (w ∷ []) (length ys) refl) (All-take (λ (v : Worker Placed). HasOne t v.place) (length ys) (ys ++ w ∷ []) both),
      (subst (All (λ (v : Worker Placed). HasOne t v.place)) (drop_at ys (w ∷ []) (length ys) refl) (All-drop (λ (v : Worker Placed). HasOne t v.place) (length ys) (ys ++ w ∷ []) both)) zero w (omega arith),
    )
