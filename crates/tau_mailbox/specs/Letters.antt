-- Lists of letters.
use Rattle.std.specs.Prelude.{◌≡◌, ◌<◌, ◌≤◌, ◌==◌, nat_le, ℕ, Bool, not, List, All, length, slice_index_or, find, filter, remove, Some, None}
use Rattle.std.specs.List.{AllPairs}
use Rattle.tau_mailbox.specs.declared.letter.Letter.{Letter}

-- the letter of this message
abbrev pub is_message : ℕ → Letter → Bool
is_message m l = l.message == m

-- a letter of another message
abbrev pub is_other : ℕ → Letter → Bool
is_other m l = not (l.message == m)

-- a letter whose message is at most m
abbrev pub is_to : ℕ → Letter → Bool
is_to m l = nat_le l.message m

-- a letter for this receiver
abbrev pub is_for : ℕ → Letter → Bool
is_for q l = l.who == q

-- a letter at this node
abbrev pub is_at : ℕ → Letter → Bool
is_at n l = l.node == n

-- each message is above all earlier ones
abbrev pub IsAscending : List Letter → Type 0
IsAscending ls = AllPairs (λ a b. a.message < b.message) ls

-- each message is below m
abbrev pub AllBelow : ℕ → List Letter → Type 0
AllBelow m ls = All (λ l. l.message < m) ls

-- letters, and how many more fit without memory
pub record WithRoom : Type 0 where
  pub letters : List Letter
  pub room : ℕ

-- the messages before place k are below m, and those from it on aren't
pub record IsLowerBound (m : ℕ) (ls : List Letter) (k : ℕ) : Type 0 where
  pub within : k ≤ length ls
  pub below : (j : ℕ) (d : Letter) → j < k → (slice_index_or ls j d).message < m
  pub above : (j : ℕ) (d : Letter) → k ≤ j → j < length ls → m ≤ (slice_index_or ls j d).message

-- no letter has the message m
pub record IsAbsent (m : ℕ) (ls : List Letter) : Type 0 where
  pub not_found : find (is_message m) ls ≡ None
  pub all_others : filter (is_other m) ls ≡ ls

-- just the letter at place k has the message m
pub record IsPlaceOf (m : ℕ) (ls : List Letter) (k : ℕ) : Type 0 where
  pub within : k < length ls
  pub found : (d : Letter) → find (is_message m) ls ≡ Some (slice_index_or ls k d)
  pub others : filter (is_other m) ls ≡ remove ls k
