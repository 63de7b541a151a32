-- What the letters of each receiver are.
use Rattle.std.specs.Prelude.{◌≡◌, ◌<◌, ℕ, List, All, length, filter, slice_index_or}
use Rattle.tau_mailbox.specs.declared.letter.Letter.{Letter}
use Rattle.tau_mailbox.specs.Letters.{WithRoom, IsAscending, is_for}

-- each part has its receiver's letters of the list, and each letter is at one of so many nodes
pub record IsConsistent (nodes : ℕ) (parts : List WithRoom) (ls : List Letter) : Type 0 where
  pub ascending : IsAscending ls
  pub homes : All (λ l. l.who < length parts) ls
  pub at_nodes : All (λ l. l.node < nodes) ls
  pub by_receiver : (q : ℕ) (d : WithRoom) → q < length parts → (slice_index_or parts q d).letters ≡ filter (is_for q) ls

-- the number of nodes, the letters, and for each receiver how many more fit without memory
pub record WithRooms : Type 0 where
  pub nodes : ℕ
  pub letters : List Letter
  pub rooms : List ℕ
