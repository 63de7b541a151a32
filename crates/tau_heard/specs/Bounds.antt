-- Numbers of versions that tell what is known in a set of places.
use Rattle.std.specs.Prelude.{◌≡◌, ◌≢◌, ℕ, ◌<◌, ◌≤◌, ◌-◌, ◌+◌, max, List, Option, Some, None, length, slice_get, get_or}
use Rattle.std.specs.Option.{option_map_or}
use Rattle.tau_trace.specs.Run.{Run}
use Rattle.tau_trace.specs.Numbering.{HasSender}
use Rattle.tau_past.specs.Heard.{HeardBy}
use Rattle.tau_versions.specs.Logs.Told.{Told}
use Rattle.tau_versions.specs.Search.Logs.{TellsBound}
use Rattle.tau_heard.specs.declared.letter.Sender.{Sender}

-- there is a log of u, and the number is that of its latest version that is known in H
pub record TellsNumber (T : Run) (H : ℕ → Type 0) (n : ℕ) (logs : List Told) (u number : ℕ) : Type 0 where
  pub log : Told
  pub stands : slice_get logs u ≡ Some log
  pub tells : TellsBound T H n u log number

-- a version of `who`, and for each other transactor the number in a list, 0 where none stands, tell what is known in H; what
-- the list has for `who` isn't later than that version
pub record TellsBounds (T : Run) (H : ℕ → Type 0) (n : ℕ) (logs : List Told) (who version : ℕ) (numbers : List ℕ) : Type 0 where
  pub own : TellsNumber T H n logs who version
  pub others : (u : ℕ) → u < length logs → u ≢ who → TellsNumber T H n logs u (get_or numbers u 0)
  pub not_later : get_or numbers who 0 ≤ version
  pub few : length numbers ≤ length logs

-- the number of the last version of u
abbrev pub last_number : List Told → ℕ → ℕ
last_number logs u = option_map_or (λ log. length log.versions - 1) (slice_get logs u) 0

-- what a message has heard is what its sender had heard, with its origin; a post and its copies have heard nothing
abbrev pub TellsHeardBy : Run → ℕ → ℕ → List Told → Option Sender → Type 0
TellsHeardBy T m n logs None = (u : ℕ) → u < length logs → TellsNumber T (HeardBy T m) n logs u 0
TellsHeardBy T m n logs (Some s) = HasSender T m s.who × TellsBounds T (HeardBy T m) n logs s.who s.version s.numbers.value.items

-- numbers raised by others and by a version of `who`: each is the greater one
pub record AreRaised (numbers : List ℕ) (who version : ℕ) (others raised : List ℕ) : Type 0 where
  pub at_who : get_or raised who 0 ≡ max (max (get_or numbers who 0) (get_or others who 0)) version
  pub elsewhere : (u : ℕ) → u ≢ who → get_or raised u 0 ≡ max (get_or numbers u 0) (get_or others u 0)
  pub length_is : length raised ≡ max (max (length numbers) (length others)) (who + 1)
