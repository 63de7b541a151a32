-- The rule of the table of seats.
use Rattle.std.specs.Prelude.{◌≡◌, ℕ, ◌+◌, ◌%◌, ◌<◌, ◌≤◌, ◌⊎◌, List, [], ◌∷◌, length, true, false, Option, Some, nat_lt, nat_le}
use mathlib.Core.Option.{some}
use lib.ListN.{get_elem?}
use Rattle.atomic_table.specs.Table.{State}
use Rattle.tau_seat.specs.declared.view.SeatView.{SeatView}
use Rattle.tau_seat.specs.declared.view.Named.{Named}
use Rattle.tau_seat.specs.Lists.{total, times, upto, bit, bare, Behind}

abbrev pub turn_of_word : ℕ
turn_of_word = 18446744073709551616

module _ {G E : Type 0} where
  abbrev pub first_view : Named G → SeatView G E
  first_view n = record { names = Some n.key; numbers = upto 0 n.count; seen = []; told = []; teller = []; tickets = 0; ticket = 0; turn = false }

  -- what holds of each view
  pub record Fits (key : G) (serving out : ℕ) (log : List (E × ℕ)) (v : SeatView G E) : Type 0 where
    pub named : 0 < length v.numbers → v.names ≡ Some key
    pub behind : Behind v.numbers v.seen log
    pub hears : Behind v.teller v.told log
    pub tells : (x : ℕ) → times x v.teller ≤ times x v.numbers
    pub few : v.tickets ≤ length v.numbers
    pub one : v.tickets ≤ 1
    pub between : 0 < v.tickets → (serving ≤ v.ticket) × (v.ticket < out)
    pub at_turn : v.turn ≡ true → (0 < v.tickets) × (v.ticket ≡ serving) × (v.seen ≡ log)

  -- no two hold one ticket
  abbrev pub Apart : List (SeatView G E) → Type 0
  Apart views = (j k : ℕ) (v w : SeatView G E) → get_elem? views j ≡ some v → get_elem? views k ≡ some w → 0 < v.tickets → 0 < w.tickets → v.ticket ≡ w.ticket → j ≡ k

  -- some seat has the turn
  abbrev pub Out : List (SeatView G E) → Type 0
  Out views = (j : ℕ) × (v : SeatView G E) × (get_elem? views j ≡ some v) × (v.turn ≡ true)

  -- each number below n is with one view, once
  abbrev pub Shared : ℕ → List (SeatView G E) → Type 0
  Shared n views = (x : ℕ) → total (λ v. times x v.numbers) views ≡ bit (nat_lt x n)

module _ {B G E : Type 0} (key_of : B → G) (entries : B → List E) (is_sound : G → List E → Type 0) where
  abbrev pub AtHome : G → List (E × ℕ) → List (mathlib.Core.Option.Option (Option B)) → Type 0
  AtHome key log homes = (b : B) × (get_elem? homes 0 ≡ some (some (Some b))) × (key_of b ≡ key) × (entries b ≡ bare log)

  pub record Orderly (key : Named G) (s : State (Option B) (SeatView G E)) : Type 0 where
    pub serving : ℕ
    pub out : ℕ
    pub log : List (E × ℕ)
    pub words : s.words ≡ out % turn_of_word ∷ serving % turn_of_word ∷ length log % turn_of_word ∷ []
    pub small : key.count < 4294967296
    pub sizes : total (λ v. length v.numbers) s.views ≡ key.count
    pub held : total (λ v. v.tickets) s.views + serving ≡ out
    pub shared : Shared key.count s.views
    pub owners : total (λ (x : E × ℕ). bit (nat_le key.count x.1)) log ≡ 0
    pub sound : is_sound key.key (bare log)
    pub home : AtHome key.key log s.homes ⊎ Out s.views
    pub fits : (j : ℕ) (v : SeatView G E) → get_elem? s.views j ≡ some v → Fits key.key serving out log v
    pub apart : Apart s.views
