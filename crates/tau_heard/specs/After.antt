-- What is kept after a change is applied.
use Rattle.std.specs.Prelude.{◌≡◌, ◌≢◌, ℕ, ◌+◌, ◌<◌, ◌^◌, Bool, true, false, List, [], ◌∷◌, ◌++◌, length, Option, Some, None, slice_get, slice_set, vec_len}
use Rattle.std.specs.Option.{option_map}
use Rattle.std.specs.Vec.{vec_capacity}
use Rattle.tau_trace.specs.Run.{Run}
use Rattle.tau_versions.specs.Logs.Told.{Told}
use Rattle.tau_heard.specs.declared.own.Own.{Own}
use Rattle.tau_heard.specs.declared.letter.Letter.{Letter}
use Rattle.tau_heard.specs.declared.hearing.Hearing.{Hearing}
use Rattle.tau_heard.specs.declared.change.ActorChange.{ActorChange}
use Rattle.tau_heard.specs.declared.change.HearingChange.{HearingChange}
use Rattle.tau_heard.specs.Changed.{HasLogRoom, IsLogAfter, HasRoomToHear, IsOwnAfter}
use Rattle.tau_heard.specs.Hears.{Knows}

-- the list with one item more, where there is one, and without the item of a number
abbrev pub with_last : {A : Type 0} → Option A → List A → List A
with_last None xs = xs
with_last (Some x) xs = xs ++ x ∷ []

abbrev pub without : {A : Type 0} → Option ℕ → List (Option A) → List (Option A)
without None xs = xs
without (Some k) xs = slice_set xs k None

-- logs and what is kept of transactors after the change of the one that makes the step: those of others stay
pub record ActorAfter (a : ActorChange) (letters : List (Option Letter)) (old_logs new_logs : List Told) (old_own new_own : List Own) : Type 0 where
  pub log : (log : Told) → slice_get old_logs a.who ≡ Some log → (next : Told) × (slice_get new_logs a.who ≡ Some next) × IsLogAfter a.log log next
  pub other_logs : (u : ℕ) → u ≢ a.who → slice_get new_logs u ≡ slice_get old_logs u
  pub log_count : length new_logs ≡ length old_logs
  pub own : (x : Own) → slice_get old_own a.who ≡ Some x → (y : Own) × (slice_get new_own a.who ≡ Some y) × IsOwnAfter a.hears letters a.turn x y
  pub other_own : (t : ℕ) → t ≢ a.who → slice_get new_own t ≡ slice_get old_own t
  pub own_count : length new_own ≡ length old_own

abbrev pub IsActorAfter : Option ActorChange → List (Option Letter) → List Told → List Told → List Own → List Own → Type 0
IsActorAfter None letters old_logs new_logs old_own new_own = (new_logs ≡ old_logs) × (new_own ≡ old_own)
IsActorAfter (Some a) letters old_logs new_logs old_own new_own = ActorAfter a letters old_logs new_logs old_own new_own

abbrev pub one_if : Bool → ℕ
one_if true = 1
one_if false = 0

-- what is kept after the change, whichever room it has
pub record IsAfter (h : Hearing) (c : HearingChange) (g : Hearing) : Type 0 where
  pub mid_logs : List Told
  pub mid_own : List Own
  pub actor : IsActorAfter c.actor h.letters.items h.logs.items mid_logs h.own.items mid_own
  pub logs : g.logs.items ≡ with_last (option_map (λ b. b.log) c.newborn) mid_logs
  pub own : g.own.items ≡ with_last (option_map (λ b. b.own) c.newborn) mid_own
  pub letters : g.letters.items ≡ with_last (option_map Some c.letter) (without c.gone h.letters.items)
  pub falls : g.falls ≡ h.falls + one_if c.falls

-- the transactor that makes the step exists, and what is kept of it has room
pub record HasRoomFor (a : ActorChange) (letters : List (Option Letter)) (logs : List Told) (own : List Own) : Type 0 where
  pub log_exists : a.who < length logs
  pub own_exists : a.who < length own
  pub log_fits : (log : Told) → slice_get logs a.who ≡ Some log → HasLogRoom a.log log
  pub own_fits : (x : Own) → slice_get own a.who ≡ Some x → HasRoomToHear a.hears letters x.numbers

abbrev pub HasActorRoom : Option ActorChange → List (Option Letter) → List Told → List Own → Type 0
HasActorRoom None letters logs own = Unit {0}
HasActorRoom (Some a) letters logs own = HasRoomFor a letters logs own

-- the change can be applied without memory
pub record HasRoom (h : Hearing) (c : HearingChange) : Type 0 where
  pub actor : HasActorRoom c.actor h.letters.items h.logs.items h.own.items
  pub logs : vec_len h.logs < vec_capacity h.logs
  pub own : vec_len h.own < vec_capacity h.own
  pub letters : vec_len h.letters < vec_capacity h.letters
  pub falls : h.falls + 1 < 2 ^ 32

-- with this change it is right for the run
pub record Leads (h : Hearing) (c : HearingChange) (T : Run) : Type 0 where
  pub room : HasRoom h c
  pub after : (g : Hearing) → IsAfter h c g → Knows g T
