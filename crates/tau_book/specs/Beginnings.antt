-- Hands with which a run begins or goes on (docs/rules.md, "Workers").
use Rattle.std.specs.Prelude.{◌≡◌, ◌≤◌, ℕ, []}
use Rattle.rand_core.specs.Pcg32Seed.{pcg32_seed}
use Rattle.rand_pcg.specs.Pcg.{pcg32_of_seed}
use Rattle.tau_script.specs.Openings.{program_opening}
use Rattle.tau_book.specs.Hands.{Held}
use Rattle.tau_book.specs.Books.{Booked}
use Rattle.tau_book.specs.Adopted.{IsAdopted}
use Rattle.tau_book.specs.Working.{HasAllJobs, IsAtWork}

-- the book has no steps and no returned jobs
pub record IsOpened (b : Booked) : Type 0 where
  pub run : b.system.run ≡ record { opening = program_opening b.system.program; steps = [] }
  pub store : b.store ≡ []

-- the hand has room and no jobs
pub record IsEmptyHand (h : Held) : Type 0 where
  pub some : 1 ≤ h.size
  pub none : h.jobs ≡ []

-- the hand's words are those of this seed, and none is drawn
abbrev pub IsSeeded : ℕ → Held → Type 0
IsSeeded seed h = h.generator ≡ pcg32_of_seed (pcg32_seed 16 seed)

-- over an opened book, an empty hand of a seed is at work behind its run, which has no steps
abbrev pub OpenedIsAtWork : Type 0
OpenedIsAtWork = (seed : ℕ) (b : Booked) (h : Held) → IsOpened b → IsEmptyHand h → IsSeeded seed h → IsAtWork seed b.system.run b h

-- and has all jobs
abbrev pub OpenedHasAllJobs : Type 0
OpenedHasAllJobs = (b : Booked) (h : Held) → IsOpened b → IsEmptyHand h → HasAllJobs b h

-- over a book that had no returned jobs and has adopted, an empty hand of a seed is at work behind its run
abbrev pub AdoptedIsAtWork : Type 0
AdoptedIsAtWork = (seed : ℕ) (before b : Booked) (h : Held) (count : ℕ) → before.store ≡ [] → IsAdopted before b count → IsEmptyHand h → IsSeeded seed h
    → IsAtWork seed b.system.run b h

-- and has all jobs
abbrev pub AdoptedHasAllJobs : Type 0
AdoptedHasAllJobs = (before b : Booked) (h : Held) (count : ℕ) → before.store ≡ [] → IsAdopted before b count → IsEmptyHand h → HasAllJobs b h
