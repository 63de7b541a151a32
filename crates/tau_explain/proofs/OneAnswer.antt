-- A decision has one answer.
use Rattle.std.proofs.Common.{◌≡◌, ⊎_elim, ℕ, List, [], ◌∷◌, length, Some, refl, sym, ap, ◌∙◌, subst, arith}
use Rattle.std.specs.declared.cmp.Ordering.TheVariants.{Less}
use Rattle.std.specs.Ordering.{ordering_reverse}
use Rattle.tau_points.specs.declared.point.Point.{Point}
use Rattle.tau_points.specs.Order.{point_cmp}
use Rattle.tau_points.proofs.PointOrder.{point_cmp-total}
use Rattle.tau_explain.specs.declared.chains.chained.Chained.{Chained}
use Rattle.tau_explain.specs.Chains.Chains.{ComesUpTo, IsFirstShortest}
use Rattle.tau_trace.specs.declared.step.Step.{Step}
use Rattle.tau_trace.specs.Run.{Run}
use Rattle.tau_trace.proofs.Lists.{same_some}
use Rattle.tau_explain.specs.Links.Links.{IsLeastMaker, HaveMakers, IsTold, IsFirstTold, points_of}
use Rattle.tau_explain.specs.declared.answers.Why.{Why}
use Rattle.tau_explain.specs.declared.answers.Why.TheVariants as answers
use Rattle.tau_explain.specs.Decisions.{HeardAt, Source, Cause, IsAsked, IsWhy}

not_less_self : (p : Point) → point_cmp p p ≡ Less → ⊥
not_less_self p e = let f = sym e ∙ point_cmp-total.antisymm p p ∙ ap ordering_reverse e in cc

-- lists of points that come up to each other are one
up_to_both : (xs ys : List Point) → length xs ≡ length ys → ComesUpTo xs ys → ComesUpTo ys xs → xs ≡ ys
up_to_both [] [] e a b = refl
up_to_both [] (y ∷ ys) e a b = absurd (omega (arith, e))
up_to_both (x ∷ xs) [] e a b = absurd a
up_to_both (x ∷ xs) (y ∷ ys) e a b = ⊎_elim
    (λ less. absurd (⊎_elim
    (λ l. not_less_self x (point_cmp-total.trans x y x less l))
    (λ s. not_less_self x (subst (λ p. point_cmp x p ≡ Less) s.0 less)) b))
    (λ same. ⊎_elim
    (λ l. absurd (not_less_self x (subst (λ p. point_cmp p x ≡ Less) (sym same.0) l)))
    (λ s. λ i. same.0 i ∷ up_to_both xs ys (omega (arith, e)) same.1 s.1 i) b)
    a

-- two first ones of the shortest chains are one
pub first_same : (L : Point → Point → Type 0) (S C : Point → Type 0) (xs ys : List Point) → IsFirstShortest L S C xs → IsFirstShortest L S C ys → xs ≡ ys
first_same L S C xs ys a b =
    let up = a.shortest ys b.chain in
    let down = b.shortest xs a.chain in
    let e : length xs ≡ length ys = omega (arith, up, down) in
    up_to_both xs ys e (a.first ys b.chain (sym e)) (b.first xs a.chain e)

least_same : (T : Run) (H : ℕ → Type 0) (p q : Point) (j k : ℕ) → IsLeastMaker T H p q j → IsLeastMaker T H p q k → j ≡ k
least_same T H p q j k a b = omega (arith, a.least k b.held b.makes, b.least j a.held a.makes)

abbrev head_of : Point → List Point → Point
head_of p [] = p
head_of p (q ∷ qs) = q

abbrev tail_of : List Point → List Point
tail_of [] = []
tail_of (q ∷ qs) = qs

same_chained : (c d : Chained) → c.point ≡ d.point → c.by ≡ d.by → c ≡ d
same_chained c d a b = λ i. record { point = a i; by = b i }

-- and so are the places of their links
makers_same : (T : Run) (H : ℕ → Type 0) (p : Point) (cs ds : List Chained) → HaveMakers T H p cs → HaveMakers T H p ds → points_of cs ≡ points_of ds → cs ≡ ds
makers_same T H p [] [] a b e = refl
makers_same T H p [] (d ∷ ds) a b e = absurd (let f = ap length e in omega (arith, f))
makers_same T H p (c ∷ cs) [] a b e = absurd (let f = ap length e in omega (arith, f))
makers_same T H p (c ∷ cs) (d ∷ ds) a b e =
    let point : c.point ≡ d.point = ap (head_of p) e in
    let k : a.0.0 ≡ b.0.0 = least_same T H p d.point a.0.0 b.0.0 (subst (λ q. IsLeastMaker T H p q a.0.0) point a.0.2) b.0.2 in
    let one : c ≡ d = same_chained c d point (a.0.1 ∙ ap (λ n. Some n) k ∙ sym b.0.1) in
    let rest : cs ≡ ds = makers_same T H d.point cs ds (subst (λ q. HaveMakers T H q cs) point a.1) b.1 (ap tail_of e) in
    λ i. one i ∷ rest i

pub told_same : (T : Run) (H : ℕ → Type 0) (cs ds : List Chained) → IsTold T H cs → IsTold T H ds → points_of cs ≡ points_of ds → cs ≡ ds
told_same T H [] ds a b e = absurd a
told_same T H (c ∷ cs) [] a b e = absurd b
told_same T H (c ∷ cs) (d ∷ ds) a b e =
    let point : c.point ≡ d.point = ap (head_of c.point) e in
    let one : c ≡ d = same_chained c d point (a.0 ∙ sym b.0) in
    let rest : cs ≡ ds = makers_same T H d.point cs ds (subst (λ q. HaveMakers T H q cs) point a.1) b.1 (ap tail_of e) in
    λ i. one i ∷ rest i

asked_same : (T : Run) (k : ℕ) (s t : Step) → IsAsked T k s → IsAsked T k t → s ≡ t
asked_same T k s t a b = same_some (sym a.stands ∙ b.stands)

chain_at : (T : Run) (k : ℕ) (cs : List Chained) (s t : Step) → s ≡ t → IsFirstTold T (HeardAt T k s) (Source T k s) (Cause T k s) cs → IsFirstTold T (HeardAt T k t) (Source T k t) (Cause T k t) cs
chain_at T k cs s t e f = subst (λ u. IsFirstTold T (HeardAt T k u) (Source T k u) (Cause T k u) cs) e f

no_other : (T : Run) (k : ℕ) (cs : List Chained) → IsWhy T k (answers.Chain cs) → IsWhy T k answers.NoChain → ⊥
no_other T k cs a b = b.2 (points_of cs) (chain_at T k cs a.0 b.0 (asked_same T k a.0 b.0 a.1 b.1) a.2).first.chain

-- why a decision was made has one answer
pub one_answer : (T : Run) (k : ℕ) (v w : Why) → IsWhy T k v → IsWhy T k w → v ≡ w
one_answer T k (answers.Chain cs) (answers.Chain ds) a b =
    let f = chain_at T k cs a.0 b.0 (asked_same T k a.0 b.0 a.1 b.1) a.2 in
    let s = b.0 in
    ap answers.Chain (told_same T (HeardAt T k s) cs ds f.told b.2.told (first_same _ (Source T k s) (Cause T k s) (points_of cs) (points_of ds) f.first b.2.first))
one_answer T k (answers.Chain cs) answers.NoChain a b = absurd (no_other T k cs a b)
one_answer T k (answers.Chain cs) answers.NotAsked a b = absurd (b (a.0, a.1))
one_answer T k answers.NoChain (answers.Chain ds) a b = absurd (no_other T k ds b a)
one_answer T k answers.NoChain answers.NoChain a b = refl
one_answer T k answers.NoChain answers.NotAsked a b = absurd (b (a.0, a.1))
one_answer T k answers.NotAsked (answers.Chain ds) a b = absurd (a (b.0, b.1))
one_answer T k answers.NotAsked answers.NoChain a b = absurd (a (b.0, b.1))
one_answer T k answers.NotAsked answers.NotAsked a b = refl
