-- What each step tells.
use Rattle.std.specs.Prelude.{◌≤◌, ◌≡◌, ◌≢◌, ℕ, ◌%◌, List, [], ◌∷◌, ◌++◌, length, take, drop, nat_le, if◌then◌else◌, true, false, Option, Some, None, slice_index}
use Rattle.atomic_table.specs.Table.{Me, Step, rest}
use Rattle.tau_seat.specs.declared.view.SeatView.{SeatView}
use Rattle.tau_seat.specs.Lists.{bare, times, Behind}
use Rattle.tau_seat.specs.Rule.{turn_of_word}

abbrev pub longer : {E : Type 0} → List (E × ℕ) → List (E × ℕ) → List (E × ℕ)
longer xs ys = if nat_le (length ys) (length xs) then xs else ys

-- the numbers of who has seen less
abbrev pub teller_of : {E : Type 0} → List ℕ → List ℕ → List (E × ℕ) → List (E × ℕ) → List ℕ
teller_of ns ms xs ys = if nat_le (length ys) (length xs) then ms else ns

abbrev pub shorter : {E : Type 0} → List (E × ℕ) → List (E × ℕ) → List (E × ℕ)
shorter xs ys = if nat_le (length ys) (length xs) then ys else xs

module _ {G E : Type 0} where
  abbrev pub waiting : SeatView G E → ℕ → SeatView G E
  waiting v t = record { names = v.names; numbers = v.numbers; seen = v.seen; told = []; teller = []; tickets = 1; ticket = t; turn = false }

  abbrev pub serving : SeatView G E → List (E × ℕ) → SeatView G E
  serving v log = record { names = v.names; numbers = v.numbers; seen = log; told = []; teller = []; tickets = v.tickets; ticket = v.ticket; turn = true }

  abbrev pub cleared : SeatView G E → SeatView G E
  cleared v = record { names = v.names; numbers = v.numbers; seen = v.seen; told = []; teller = []; tickets = v.tickets; ticket = v.ticket; turn = v.turn }

  -- a view is cut after the first k numbers
  abbrev pub front_of : ℕ → SeatView G E → SeatView G E
  front_of k v = record { names = v.names; numbers = take k v.numbers; seen = v.seen; told = []; teller = []; tickets = v.tickets; ticket = v.ticket; turn = v.turn }

  abbrev pub back_of : ℕ → SeatView G E → SeatView G E
  back_of k v = record { names = v.names; numbers = drop k v.numbers; seen = v.seen; told = []; teller = []; tickets = 0; ticket = 0; turn = false }

  abbrev pub both_of : SeatView G E → SeatView G E → SeatView G E
  both_of v w = record { names = v.names; numbers = v.numbers ++ w.numbers; seen = longer v.seen w.seen; told = shorter v.seen w.seen; teller = teller_of v.numbers w.numbers v.seen w.seen; tickets = v.tickets; ticket = v.ticket; turn = v.turn }

  abbrev pub spent : SeatView G E
  spent = record { names = None; numbers = []; seen = []; told = []; teller = []; tickets = 0; ticket = 0; turn = false }

  -- it has made an entry
  abbrev pub grown : SeatView G E → E → SeatView G E
  grown v e = record { names = v.names; numbers = v.numbers; seen = v.seen ++ (e, slice_index v.numbers 0) ∷ []; told = []; teller = []; tickets = v.tickets; ticket = v.ticket; turn = v.turn }

  abbrev pub resting : SeatView G E → SeatView G E
  resting v = record { names = v.names; numbers = v.numbers; seen = v.seen; told = []; teller = []; tickets = 0; ticket = v.ticket; turn = false }

module _ {B G E : Type 0} where
  abbrev pub served : Step (Option B) → Me (Option B) (SeatView G E) → ℕ → Me (Option B) (SeatView G E) → Type 0
  served st m r n = n ≡ (resting m.0, rest m.1)

  -- it holds no ticket and no slot
  abbrev pub IsIdle : Me (Option B) (SeatView G E) → Type 0
  IsIdle m = (m.0.tickets ≡ 0) × (m.0.turn ≡ false) × (m.1 ≡ [])

  abbrev pub drawn : Step (Option B) → Me (Option B) (SeatView G E) → ℕ → Me (Option B) (SeatView G E) → Type 0
  drawn st m r n = (t : ℕ) × (n ≡ (waiting m.0 t, m.1)) × (r ≡ t % turn_of_word)

module _ {B G E : Type 0} (key_of : B → G) (entries : B → List E) (is_sound : G → List E → Type 0) where
  -- it has the turn, and with it the kept value, whose entries it has seen
  abbrev pub Begun : Me (Option B) (SeatView G E) → Me (Option B) (SeatView G E) → Type 0
  Begun m n = (b : B) × (log : List (E × ℕ)) × (n ≡ (serving m.0 log, (0, Some b) ∷ m.1)) × Behind m.0.numbers m.0.seen log
      × (m.0.names ≡ Some (key_of b)) × (entries b ≡ bare log) × is_sound (key_of b) (bare log)

  abbrev pub looked : Step (Option B) → Me (Option B) (SeatView G E) → ℕ → Me (Option B) (SeatView G E) → Type 0
  looked st m r n = (r ≡ m.0.ticket % turn_of_word → Begun m n) × (r ≢ m.0.ticket % turn_of_word → n ≡ m)

  -- what the seat has seen is sound for the key that it names
  abbrev pub HasSeenSound : SeatView G E → Type 0
  HasSeenSound v = (k : G) × (v.names ≡ Some k) × is_sound k (bare v.seen)

  -- it has seen what it was told, and then only entries of others than the teller; it has each number once; what it has seen is sound
  abbrev pub learned : Step (Option B) → Me (Option B) (SeatView G E) → ℕ → Me (Option B) (SeatView G E) → Type 0
  learned st m r n = (n ≡ (cleared m.0, m.1)) × Behind m.0.teller m.0.told m.0.seen × ((x : ℕ) → times x m.0.numbers ≤ 1) × HasSeenSound m.0

  -- the kept value that is in the slot: what the seat has seen, and one entry more
  abbrev pub Holds : Me (Option B) (SeatView G E) → List E → Type 0
  Holds m xs = (b : B) × (m.1 ≡ (0, Some b) ∷ []) × (m.0.names ≡ Some (key_of b)) × (entries b ≡ xs) × is_sound (key_of b) xs

  abbrev pub HoldsMore : Me (Option B) (SeatView G E) → Type 0
  HoldsMore m = (e : E) × Holds m (bare m.0.seen ++ e ∷ [])

  abbrev pub counted : Step (Option B) → Me (Option B) (SeatView G E) → ℕ → Me (Option B) (SeatView G E) → Type 0
  counted st m r n = (e : E) × Holds m (bare m.0.seen ++ e ∷ []) × (n ≡ (grown m.0 e, m.1))

  -- the kept value b is out, and the seat has seen its entries: those that it had seen before, and then others' entries
  abbrev pub Takes : SeatView G E → B → Me (Option B) (SeatView G E) → Type 0
  Takes v b n = (t : ℕ) × (log : List (E × ℕ)) × (n ≡ (serving (waiting v t) log, (0, None) ∷ [])) × Behind v.numbers v.seen log
      × (v.names ≡ Some (key_of b)) × (entries b ≡ bare log) × is_sound (key_of b) (bare log)
