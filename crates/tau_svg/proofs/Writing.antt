-- Lines that are written one behind the other tell of places and of items, in order.
use Rattle.std.proofs.Common.{◌≡◌, ℕ, ◌+◌, List, [], ◌∷◌, ◌++◌, refl, sym, ap, ◌∙◌, add-one}
use Rattle.tau_svg.specs.Markup.Lines.{Line, with_lines}
use Rattle.tau_svg.proofs.LineLemmas.{lines_joined}
use Rattle.tau_svg.specs.Shapes.Each.{EachPlace, no_place, next_place, EachItem, no_item, next_item, Writes}

-- nothing is written
pub nothing : (P : List Line → Type 0) (out : List ℕ) → P [] → Writes P out out
nothing P out told = record { lines = []; told = told; are = refl }

-- these lines are written
pub these : (P : List Line → Type 0) (out new : List ℕ) (lines : List Line) → P lines → new ≡ with_lines out lines → Writes P out new
these P out new lines told e = record { lines = lines; told = told; are = e }

-- place by place
pub places_first : (P : ℕ → List Line → Type 0) (a : ℕ) (out : List ℕ) → Writes (EachPlace P a a) out out
places_first P a out = nothing (EachPlace P a a) out no_place

pub places_next : (P : ℕ → List Line → Type 0) (a b : ℕ) (out old new : List ℕ) → Writes (EachPlace P a b) out old → Writes (P b) old new → Writes (EachPlace P a (b + 1)) out new
places_next P a b out old new w one = rw add-one (record {
  lines = w.lines ++ one.lines;
  told = next_place w.told one.told;
  are = one.are ∙ ap (λ x. with_lines x one.lines) w.are ∙ sym (lines_joined out w.lines one.lines);
})

-- item by item
pub items_first : {A : Type 0} (P : A → List Line → Type 0) (out : List ℕ) → Writes (EachItem P []) out out
items_first P out = nothing (EachItem P []) out no_item

pub items_next : {A : Type 0} (P : A → List Line → Type 0) (xs : List A) (x : A) (out old new : List ℕ) → Writes (EachItem P xs) out old → Writes (P x) old new → Writes (EachItem P (xs ++ x ∷ [])) out new
items_next P xs x out old new w one = record {
  lines = w.lines ++ one.lines;
  told = next_item w.told one.told;
  are = one.are ∙ ap (λ x. with_lines x one.lines) w.are ∙ sym (lines_joined out w.lines one.lines);
}

-- two parts, one behind the other
pub both : (P Q R : List Line → Type 0) (out middle new : List ℕ) → Writes P out middle → Writes Q middle new → ((ls ks : List Line) → P ls → Q ks → R (ls ++ ks)) → Writes R out new
both P Q R out middle new a b together = record {
  lines = a.lines ++ b.lines;
  told = together a.lines b.lines a.told b.told;
  are = b.are ∙ ap (λ x. with_lines x b.lines) a.are ∙ sym (lines_joined out a.lines b.lines);
}

-- another thing is told of the same lines
pub told_as : (P Q : List Line → Type 0) (out new : List ℕ) → ((ls : List Line) → P ls → Q ls) → Writes P out new → Writes Q out new
told_as P Q out new to w = record { lines = w.lines; told = to w.lines w.told; are = w.are }
