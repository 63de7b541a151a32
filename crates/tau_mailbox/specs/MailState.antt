-- The messages in flight and the receivers that are in a turn.
use Rattle.std.specs.Prelude.{◌≢◌, ◌≤◌, ◌+◌, ◌==◌, ℕ, Bool, not, List, filter, slice_index}
use Rattle.std.specs.List.{AllPairs, list_any}
use Rattle.tau_mailbox.specs.declared.letter.Letter.{Letter}

-- the number of nodes; the letters by ascending message; the receivers in a turn, in the order in which their turns opened; for each
-- receiver how many more letters fit without memory; and how many more turns open without memory
pub record MailState : Type 0 where
  pub nodes : ℕ
  pub letters : List Letter
  pub busy : List ℕ
  pub rooms : List ℕ
  pub turn_room : ℕ

-- the receiver q is one of those in a turn
abbrev pub is_busy : List ℕ → ℕ → Bool
is_busy busy q = list_any (λ b. b == q) busy

-- another receiver than q
abbrev pub is_not : ℕ → ℕ → Bool
is_not q b = not (b == q)

-- no receiver stands twice
abbrev pub AllDiffer : List ℕ → Type 0
AllDiffer busy = AllPairs (λ a b. a ≢ b) busy

-- a letter whose receiver is in a turn
abbrev pub is_blocked : List ℕ → Letter → Bool
is_blocked busy l = is_busy busy l.who

-- a letter whose receiver is in no turn
abbrev pub is_deliverable : List ℕ → Letter → Bool
is_deliverable busy l = not (is_busy busy l.who)

-- the letters whose receivers are in no turn, by ascending message
abbrev pub deliverable : MailState → List Letter
deliverable s = filter (is_deliverable s.busy) s.letters

-- how many more letters for the receiver q fit without memory
abbrev pub room : List ℕ → ℕ → ℕ
room rooms q = slice_index rooms q

-- no receiver has less room than before
abbrev pub KeepsRoom : List ℕ → List ℕ → Type 0
KeepsRoom old new = (q : ℕ) → room old q ≤ room new q

-- each receiver has at most one place less than before
abbrev pub TakesPlace : List ℕ → List ℕ → Type 0
TakesPlace old new = (q : ℕ) → room old q ≤ room new q + 1
