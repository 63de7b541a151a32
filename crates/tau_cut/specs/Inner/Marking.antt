-- Marks of places, by chains.
use Rattle.std.specs.Prelude.{◌≡◌, ℕ, ◌≤◌, Bool, true, List, Option, Some, None, Contains, slice_get, set, length, take}
use Rattle.tau_explain.specs.declared.chains.chained.Chained.{Chained}
use Rattle.tau_cut.specs.declared.cut.Marked.{Marked}
use Rattle.tau_cut.specs.declared.cut.Marked.TheVariants.{In, Out}
use Rattle.tau_cut.specs.Cuts.{place_of, places_of}

-- the chain of a mark; None where it is In
abbrev pub chain_of : Marked → Option (List Chained)
chain_of (In k) = None
chain_of (Out k chain) = Some chain

-- the mark for a place and a chain, if there is one
abbrev pub mark_of : ℕ → Option (List Chained) → Marked
mark_of k None = In k
mark_of k (Some chain) = Out k chain

-- the mark is that of the i-th place and the i-th chain
pub record IsMarkAt (places : List ℕ) (chains : List (Option (List Chained))) (i : ℕ) (m : Marked) : Type 0 where
  pub place_is : slice_get places i ≡ Some (place_of m)
  pub chain_is : slice_get chains i ≡ Some (chain_of m)

-- the marks of the first n places; the chains from there on are left
pub record AreMarks (places : List ℕ) (chains : List (Option (List Chained))) (n : ℕ) (marks : List Marked) (left : List (Option (List Chained))) : Type 0 where
  pub within : n ≤ length places
  pub places_are : places_of marks ≡ take n places
  pub marks_are : (m : Marked) → Contains marks m → (i : ℕ) × IsMarkAt places chains i m
  pub count : length left ≡ length chains
  pub left_are : (i : ℕ) → n ≤ i → slice_get left i ≡ slice_get chains i

-- the place of a mark that is In is marked
abbrev pub MarksIn : Marked → List Bool → List Bool → Type 0
MarksIn (In k) marks0 marks = marks ≡ set marks0 k true
MarksIn (Out k chain) marks0 marks = marks ≡ marks0
