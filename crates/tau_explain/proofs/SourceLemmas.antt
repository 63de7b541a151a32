-- Chains from many points, by one search and one table.
use Rattle.std.proofs.Common.{◌≡◌, ◌↔◌, inl, inr, ⊎_elim, ℕ, suc, ◌+◌, ◌<◌, Bool, true, false, List, [], ◌∷◌, ◌++◌, length, get_or, All, Option, Some, None, refl, sym, ap, ◌∙◌, subst, arith, length-append, replicate}
use Rattle.std.specs.Prelude.{Contains, slice_get, if◌then◌else◌}
use Rattle.std.proofs.lemmas.List.{get_or-replicate, length-replicate}
use Rattle.std.proofs.lemmas.List.Elements.{All-contains}
use Rattle.std.proofs.lemmas.Option.{slice_get_within, slice_get-get_or}
use Rattle.tau_points.specs.declared.point.Point.{Point}
use Rattle.tau_points.proofs.Membership.{Contains-none, Contains-head, Contains-cons_cases}
use Rattle.tau_points.proofs.PointOrder.{point_eq-Decides}
use Rattle.tau_explain.specs.declared.chains.chained.Chained.{Chained}
use Rattle.tau_explain.specs.Chains.Inner.Distances.{IsFar, IsNearest}
use Rattle.tau_trace.specs.Run.{Run, len}
use Rattle.tau_trace.specs.Points.{IsOpeningPoint}
use Rattle.tau_trace.proofs.Lists.{same_some, slice_get-push_cases}
use Rattle.tau_past.specs.Heard.{IsCausallyClosed}
use Rattle.tau_past.specs.Pasts.{Is, Everywhere}
use Rattle.tau_past.specs.Tables.{same_point}
use Rattle.tau_explain.specs.Links.Links.{IsMade, IsChainFrom, AreChainsFrom}
use Rattle.tau_explain.specs.Links.Marks.{IsMarked}
use Rattle.tau_explain.specs.Links.Inner.Dependents.{CameTo, IsLinked}
use Rattle.tau_explain.specs.Links.Inner.Linking.{GoesOnTo, AreNexts, IsDownFrom, AreDown, IsFirstChain, AreFirstChains}
use Rattle.tau_explain.proofs.PushLemmas.{came_at, acts_within}
use Rattle.tau_explain.proofs.LinkLemmas.{first_by_marks, no_first}
use Rattle.tau_explain.proofs.ChainLemmas.{first_told, none_told}

-- the table of what points go on to

module _ (T : Run) (marks : List Bool) (far : Point → Option ℕ) where
  pub nexts_none : (nexts : Point → Option Chained) → ((p : Point) → nexts p ≡ None) → AreNexts T marks far nexts
  nexts_none nexts none p c e = absurd (let f = sym (none p) ∙ e in cc)

  -- what the table has for a point is what it goes on to
  pub next_known : (nexts : Point → Option Chained) (p : Point) (c : Chained) (distance : ℕ) → AreNexts T marks far nexts → far p ≡ Some (suc distance) → nexts p ≡ Some c → GoesOnTo T marks far p c distance
  next_known nexts p c distance told from at =
      let t = told p c at in
      let one : suc t.0 ≡ suc distance = same_some (sym t.1.next.from ∙ from) in
      let same : t.0 ≡ distance = omega (arith, one) in
      subst (λ n. GoesOnTo T marks far p c n) same t.1

  -- one more entry
  pub nexts_put : (nexts0 nexts : Point → Option Chained) (x : Point) (c : Chained) (n : ℕ) → AreNexts T marks far nexts0 → GoesOnTo T marks far x c n → ((q : Point) → nexts q ≡ (if same_point x q then Some c else nexts0 q)) → AreNexts T marks far nexts
  nexts_put nexts0 nexts x c n told goes puts p d e = by (same_point x p) refl where
    by : (b : Bool) → same_point x p ≡ b → (m : ℕ) × GoesOnTo T marks far p d m
    by true f =
        let same : x ≡ p = (point_eq-Decides x p).0 f in
        let is : c ≡ d = same_some (sym (puts p ∙ ap (λ (b : Bool). if b then Some c else nexts0 p) f) ∙ e) in
        (n, subst (λ (z : Point). GoesOnTo T marks far z d n) same (subst (λ (z : Chained). GoesOnTo T marks far x z n) is goes))
    by false f = told p d (sym (puts p ∙ ap (λ (b : Bool). if b then Some c else nexts0 p) f) ∙ e)

  -- what goes down, point by point

  pub down_start : (from : List Point) (chains : List (Option (List Chained))) → chains ≡ [] → AreDown T marks far from 0 chains
  down_start from chains is = record {
    count = ap (λ (l : List (Option (List Chained))). length l) is;
    within = omega arith;
    each = λ k p o at here. absurd (let f = sym (ap (λ (l : List (Option (List Chained))). slice_get l k) is) ∙ here in cc);
  }

  pub down_more : (from : List Point) (k : ℕ) (d : Point) (o : Option (List Chained)) (chains0 chains : List (Option (List Chained))) → k < length from → IsDownFrom T marks far (get_or from k d) o → chains ≡ chains0 ++ o ∷ [] → AreDown T marks far from k chains0 → AreDown T marks far from (k + 1) chains
  down_more from k d o chains0 chains lt down e a = record {
    count = omega (arith, ap (λ (l : List (Option (List Chained))). length l) e, length-append chains0 (o ∷ []), a.count);
    within = omega (arith, lt);
    each = λ j p x at here. ⊎_elim
        (λ old. a.each j p x at old)
        (λ new.
        let place : j ≡ k = new.0 ∙ a.count in
        let item : get_or from k d ≡ p = same_some (sym (slice_get-get_or from k d lt) ∙ ap (slice_get from) (sym place) ∙ at) in
        subst (λ (y : Option (List Chained)). IsDownFrom T marks far p y) new.1 (subst (λ (z : Point). IsDownFrom T marks far z o) item down))
        (slice_get-push_cases chains0 o x j (subst (λ (l : List (Option (List Chained))). slice_get l j ≡ Some x) e here));
  }

-- a list of one point
only : (p q : Point) → Contains (p ∷ []) q → q ≡ p
only p q c = ⊎_elim (λ e. e) (λ n. absurd (Contains-none q n)) (Contains-cons_cases p [] q c)

alone : (p q : Point) → Contains (p ∷ []) q ↔ Is p q
alone p q = (only p q, λ (e : q ≡ p). subst (Contains (p ∷ [])) (sym e) (Contains-head p []))

-- what goes down from a point is the first of the shortest chains from it

module _ (T : Run) (marks : List Bool) (far : Point → Option ℕ) (C : Point → Type 0) (f : IsFar (IsLinked T marks) C far) where
  near_alone : (p : Point) (n : ℕ) → far p ≡ Some n → IsNearest (Contains (p ∷ [])) far p n
  near_alone p n e = record {
    begins = Contains-head p [];
    at = e;
    best = λ q m c h. let same : q ≡ p = only p q c in inr (same_some (sym e ∙ ap far (sym same) ∙ h), inl (sym same));
  }

  first_down : (p : Point) (o : Option (List Chained)) → IsDownFrom T marks far p o → IsFirstChain T marks (Contains (p ∷ [])) C o
  first_down p None none = no_first T marks far (Contains (p ∷ [])) C f (λ q c. ap far (only p q c) ∙ none)
  first_down p (Some chain) down = first_by_marks T marks far (Contains (p ∷ [])) C p down.0.0 chain f (near_alone p down.0.0 down.0.1) down.1

  pub first_chains : (from : List Point) (chains : List (Option (List Chained))) → AreDown T marks far from (length from) chains → AreFirstChains T marks from C chains
  first_chains from chains down = record { count = down.count; each = λ k p o at here. first_down p o (down.each k p o at here) }

-- where each place is marked, they are told by the whole trace

module _ (T : Run) (marks : List Bool) (to : List Point) (marked : (j : ℕ) → j < len T → IsMarked marks j) (no_opening : All (λ q. ¬ IsOpeningPoint T q) to) where
  everywhere_closed : IsCausallyClosed T Everywhere
  everywhere_closed = record { closed = λ k j h n. tt }

  came_made : (p : Point) → IsMade T p → (q : Point) → Is p q → CameTo T q
  came_made p m q e = subst (CameTo T) (sym e) (came_at T p m.place m.at_point (let lt = acts_within T m.place p.who m.acts in omega (arith, lt)))

  not_opening : (q : Point) → IsOpeningPoint T q → ¬ Contains to q
  not_opening q o c = All-contains (λ z. ¬ IsOpeningPoint T z) to q no_opening c o

  chain_told : (p : Point) (o : Option (List Chained)) → IsMade T p → IsFirstChain T marks (Contains (p ∷ [])) (Contains to) o → IsChainFrom T (Contains to) p o
  chain_told p None m none = none_told T Everywhere marks (λ j h. tt) (λ j lt h. marked j lt) everywhere_closed (Is p) (Contains to) (p ∷ []) to (alone p) (came_made p m) (λ q c. c) (λ q c s. c) not_opening none
  chain_told p (Some chain) m first = first_told T Everywhere marks (λ j h. tt) (λ j lt h. marked j lt) everywhere_closed (Is p) (Contains to) (p ∷ []) to (alone p) (came_made p m) (λ q c. c) (λ q c s. c) not_opening chain first

  pub chains_told : (from : List Point) (chains : List (Option (List Chained))) → All (IsMade T) from → AreFirstChains T marks from (Contains to) chains → AreChainsFrom T from (Contains to) chains
  chains_told from chains made first = record {
    count = first.count;
    each = λ k p o at here.
        let lt = slice_get_within from k p at in
        let is : get_or from k p ≡ p = same_some (sym (slice_get-get_or from k p lt) ∙ at) in
        chain_told p o (subst (IsMade T) is (made k p lt)) (first.each k p o at here);
  }

-- each place is marked
pub all_marked : (n : ℕ) (xs : List Bool) → xs ≡ replicate n true → (k : ℕ) → k < n → IsMarked xs k
all_marked n xs is k lt =
    let count = ap (λ (l : List Bool). length l) is ∙ length-replicate n true in
    let read : get_or xs k false ≡ true = ap (λ (l : List Bool). get_or l k false) is ∙ get_or-replicate n k true false lt in
    slice_get-get_or xs k false (omega (arith, lt, count)) ∙ ap (λ (b : Bool). Some b) read
