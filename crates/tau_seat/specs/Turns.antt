-- What a whole turn does to a seat.
use Rattle.std.specs.Prelude.{◌≡◌, ℕ, ◌<◌, List, [], ◌∷◌, ◌++◌, length}
use Rattle.tau_seat.specs.declared.view.SeatView.{SeatView}
use Rattle.tau_seat.specs.Lists.{times, places}

module _ {G E : Type 0} where
  -- the places that the seat has made
  abbrev pub mine : SeatView G E → List ℕ
  mine v = places v.numbers 0 v.seen

  abbrev pub SameName : SeatView G E → SeatView G E → Type 0
  SameName v w = (w.names ≡ v.names) × (w.numbers ≡ v.numbers)

  -- it has seen more of others, and made nothing
  abbrev pub Watches : SeatView G E → SeatView G E → Type 0
  Watches v w = SameName v w × ((others : List (E × ℕ)) × (w.seen ≡ v.seen ++ others) × (mine w ≡ mine v))

  -- it has seen more of others, and last its own new entry, which is its new place
  abbrev pub Makes : SeatView G E → SeatView G E → E → Type 0
  Makes v w e = SameName v w × ((others : List (E × ℕ)) × (owner : ℕ) × (w.seen ≡ (v.seen ++ others) ++ (e, owner) ∷ []) × (0 < times owner v.numbers)
      × (mine w ≡ mine v ++ length (v.seen ++ others) ∷ []))
