-- The generated program of a number (docs/formats.md, "Generated programs").
use Rattle.std.specs.Prelude.{ℕ, zero, suc, ◌+◌, ◌*◌, ◌%◌, pos, List, [], ◌∷◌, ◌++◌, map, codes}
use Rattle.std.specs.Fmt.{decimal}
use Rattle.std.specs.List.{range_with_len}
use Rattle.rand_core.specs.Pcg32Seed.{pcg32_seed}
use Rattle.rand_pcg.specs.Lcg.{Lcg}
use Rattle.rand_pcg.specs.Pcg.{pcg32, pcg32_of_seed}
use Rattle.tau_value.specs.declared.shared.Value.TheVariants.{Int}
use Rattle.tau_tree.specs.Behaviour.{NamedCode}
use Rattle.tau_tree.specs.declared.starts.Start.{Start}
use Rattle.tau_tree.specs.declared.posts.Post.{Post}
use Rattle.tau_tree.specs.declared.entries.Entry.{Entry}
use Rattle.tau_tree.specs.declared.entries.Failure.TheVariants.{Fail, Lose}
use Rattle.tau_tree.specs.declared.programs.Program.{Program}
use Rattle.tau_gen.specs.Hop.{hop_body}

-- the generator that is seeded with a number, after so many words
unfoldable pub after : ℕ → ℕ → Lcg
after number zero = pcg32_of_seed (pcg32_seed 16 number)
after number (suc k) = (pcg32 (after number k)).1

-- its word with the number k, counted from 0
unfoldable pub word : ℕ → ℕ → ℕ
word number k = (pcg32 (after number k)).0

-- t0, t1 and so on
abbrev pub start_name : ℕ → List ℕ
start_name i = codes "t" ++ decimal i

-- start i
abbrev pub start_at : ℕ → Start
start_at i = record { name = start_name i; behaviour = 0; node = i % 4; state = Int (pos 0) }

-- post i, of the words 2 i and 2 i + 1
abbrev pub post_at : ℕ → ℕ → Post
post_at number i = record { to = word number (2 * i) % 16; value = Int (pos (word number (2 * i + 1) % 48)) }

-- a message is lost, and two nodes fail, of the words after those of the posts
abbrev pub script_of : ℕ → List Entry
script_of number =
    record { at = 50; failure = Lose 32 }
    ∷ record { at = 200; failure = Fail (word number 64 % 4) }
    ∷ record { at = 400; failure = Fail (word number 65 % 4) }
    ∷ []

abbrev pub behaviours : List NamedCode
behaviours = record { name = codes "hop"; body = hop_body } ∷ []

unfoldable pub starts : List Start
starts = map start_at (range_with_len 0 16)

unfoldable pub posts_of : ℕ → List Post
posts_of number = map (post_at number) (range_with_len 0 32)

-- version 1, 4 nodes, the behaviour `hop`, 16 starts, 32 posts and 3 script entries
abbrev pub generated : ℕ → Program
generated number = record {
  version = 1;
  nodes = 4;
  behaviours = behaviours;
  starts = starts;
  posts = posts_of number;
  script = script_of number;
}
