-- Lines for each of some places or things, in order.
use Rattle.std.specs.Prelude.{◌≡◌, ℕ, suc, List, [], ◌∷◌, ◌++◌}
use Rattle.tau_svg.specs.Markup.Lines.{Line, with_lines}

-- for each place from a on and below b, by place, the lines that P tells of it
pub data EachPlace (P : ℕ → List Line → Type 0) (a : ℕ) : ℕ → List Line → Type 0 where
  no_place : EachPlace P a a []
  next_place : {b : ℕ} {ls ks : List Line} → EachPlace P a b ls → P b ks → EachPlace P a (suc b) (ls ++ ks)

-- for each item of a list, in its order, the lines that P tells of it
pub data EachItem {A : Type 0} (P : A → List Line → Type 0) : List A → List Line → Type 0 where
  no_item : EachItem P [] []
  next_item : {xs : List A} {x : A} {ls ks : List Line} → EachItem P xs ls → P x ks → EachItem P (xs ++ x ∷ []) (ls ++ ks)

-- what was written stands in front, and behind it lines that P tells
pub record Writes (P : List Line → Type 0) (old new : List ℕ) : Type 0 where
  pub lines : List Line
  pub told : P lines
  pub are : new ≡ with_lines old lines
