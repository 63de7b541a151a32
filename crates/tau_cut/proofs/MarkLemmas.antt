-- Marks of places, by chains, and the places of marks.
use Rattle.std.proofs.Common.{◌≡◌, ⊎_elim, ℕ, ◌+◌, ◌<◌, List, [], ◌∷◌, ◌++◌, length, get_or, set, Option, Some, None, refl, sym, ap, ◌∙◌, subst, arith}
use Rattle.std.specs.Prelude.{Contains, slice_get}
use Rattle.std.proofs.Math.ListN.{length-set}
use Rattle.std.proofs.lemmas.List.{take_more, map_push}
use Rattle.std.proofs.lemmas.List.Elements.{Contains-push_cases}
use Rattle.std.proofs.lemmas.Option.{slice_get-get_or}
use Rattle.tau_points.proofs.Membership.{Contains-none, Contains-head, Contains-later, Contains-cons_cases}
use Rattle.tau_explain.specs.declared.chains.chained.Chained.{Chained}
use Rattle.tau_trace.proofs.Lists.{slice_get-set_other}
use Rattle.tau_cut.specs.declared.cut.Marked.{Marked}
use Rattle.tau_cut.specs.declared.cut.Marked.TheVariants.{In, Out}
use Rattle.tau_cut.specs.Cuts.{place_of, places_of, places_in}
use Rattle.tau_cut.specs.Inner.Marking.{chain_of, mark_of, IsMarkAt, AreMarks}

pub place_of_mark : (k : ℕ) (o : Option (List Chained)) → place_of (mark_of k o) ≡ k
place_of_mark k None = refl
place_of_mark k (Some chain) = refl

pub chain_of_mark : (k : ℕ) (o : Option (List Chained)) → chain_of (mark_of k o) ≡ o
chain_of_mark k None = refl
chain_of_mark k (Some chain) = refl

-- one mark after the other

pub marks_none : (places : List ℕ) (chains : List (Option (List Chained))) (marks : List Marked) → marks ≡ [] → AreMarks places chains 0 marks chains
marks_none places chains marks is = subst (λ (l : List Marked). AreMarks places chains 0 l chains) (sym is) (record {
  within = omega arith;
  places_are = refl;
  marks_are = λ m h. absurd (Contains-none m h);
  count = refl;
  left_are = λ i le. refl;
})

pub marks_more : (places : List ℕ) (chains : List (Option (List Chained))) (n d : ℕ) (o : Option (List Chained)) (m : Marked) (marks0 marks : List Marked) (left0 left : List (Option (List Chained))) → n < length places → slice_get left0 n ≡ Some o → m ≡ mark_of (get_or places n d) o
    → marks ≡ marks0 ++ m ∷ [] → left ≡ set left0 n None → AreMarks places chains n marks0 left0 → AreMarks places chains (n + 1) marks left
marks_more places chains n d o m marks0 marks left0 left lt read is e taken a = record {
  within = omega (arith, lt);
  places_are = ap places_of e ∙ map_push place_of marks0 m ∙ (λ i. a.places_are i ++ place_is i ∷ []) ∙ sym (take_more places n d lt);
  marks_are = λ x h. ⊎_elim
      (λ old. a.marks_are x old)
      (λ (f : m ≡ x). (
        n,
        subst (IsMarkAt places chains n) f (record {
          place_is = slice_get-get_or places n d lt ∙ ap (λ k. Some k) (sym place_is);
          chain_is = sym (a.left_are n (omega arith)) ∙ read ∙ ap (λ (y : Option (List Chained)). Some y) (sym chain_is);
        }),
      ))
      (Contains-push_cases marks0 m x (subst (λ (l : List Marked). Contains l x) e h));
  count = ap (λ (l : List (Option (List Chained))). length l) taken ∙ length-set left0 n None ∙ a.count;
  left_are = λ i le. ap (λ (l : List (Option (List Chained))). slice_get l i) taken ∙ slice_get-set_other left0 n i None (λ f. omega (arith, f, le)) ∙ a.left_are i (omega (arith, le));
} where
  place_is : place_of m ≡ get_or places n d
  place_is = ap place_of is ∙ place_of_mark (get_or places n d) o

  chain_is : chain_of m ≡ o
  chain_is = ap chain_of is ∙ chain_of_mark (get_or places n d) o

pub left_within : (places : List ℕ) (chains : List (Option (List Chained))) (n : ℕ) (marks : List Marked) (left : List (Option (List Chained))) → length chains ≡ length places → n < length places → AreMarks places chains n marks left → n < length left
left_within places chains n marks left same lt a = omega (arith, lt, same, a.count)

-- the places of marks

pub in_place : (marks : List Marked) (k : ℕ) → Contains marks (In k) → Contains (places_in marks) k
in_place [] k h = absurd (Contains-none (In k) h)
in_place (In j ∷ marks) k h = ⊎_elim
    (λ (e : In k ≡ In j). let same : k ≡ j = cc in subst (Contains (j ∷ places_in marks)) (sym same) (Contains-head j (places_in marks)))
    (λ c. Contains-later j (places_in marks) k (in_place marks k c))
    (Contains-cons_cases (In j) marks (In k) h)
in_place (Out j chain ∷ marks) k h = ⊎_elim (λ (e : In k ≡ Out j chain). absurd (cc)) (λ c. in_place marks k c) (Contains-cons_cases (Out j chain) marks (In k) h)

pub in_mark : (marks : List Marked) (k : ℕ) → Contains (places_in marks) k → Contains marks (In k)
in_mark [] k h = absurd (Contains-none k h)
in_mark (In j ∷ marks) k h = ⊎_elim
    (λ (e : k ≡ j). subst (λ i. Contains (In j ∷ marks) (In i)) (sym e) (Contains-head (In j) marks))
    (λ c. Contains-later (In j) marks (In k) (in_mark marks k c))
    (Contains-cons_cases j (places_in marks) k h)
in_mark (Out j chain ∷ marks) k h = Contains-later (Out j chain) marks (In k) (in_mark marks k h)

-- a place of a mark has one
pub mark_at : (marks : List Marked) (k : ℕ) → Contains (places_of marks) k → (m : Marked) × Contains marks m × (place_of m ≡ k)
mark_at [] k h = absurd (Contains-none k h)
mark_at (m ∷ marks) k h = ⊎_elim
    (λ (e : k ≡ place_of m). (m, Contains-head m marks, sym e))
    (λ c. let rest = mark_at marks k c in (rest.0, Contains-later m marks rest.0 rest.1, rest.2))
    (Contains-cons_cases (place_of m) (places_of marks) k h)

pub place_at : (marks : List Marked) (m : Marked) → Contains marks m → Contains (places_of marks) (place_of m)
place_at [] m h = absurd (Contains-none m h)
place_at (x ∷ marks) m h = ⊎_elim
    (λ (e : m ≡ x). subst (λ (y : Marked). Contains (place_of x ∷ places_of marks) (place_of y)) (sym e) (Contains-head (place_of x) (places_of marks)))
    (λ c. Contains-later (place_of x) (places_of marks) (place_of m) (place_at marks m c))
    (Contains-cons_cases x marks m h)
