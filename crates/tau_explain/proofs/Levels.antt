-- What the search by levels keeps, and what stands at its end.
use Rattle.std.proofs.Common.{◌≡◌, ◌↔◌, ◌≤◌, ◌<◌, ◌+◌, ℕ, suc, List, [], length, get_or, Option, Some, None, sym, ap, ◌∙◌, subst, ⊎_elim, arith}
use Rattle.std.specs.Prelude.{Contains}
use Rattle.std.proofs.lemmas.Bool.{cases_lt}
use Rattle.std.proofs.lemmas.List.{get_or_default}
use Rattle.tau_points.specs.declared.point.Point.{Point}
use Rattle.tau_points.proofs.Membership.{Contains-none}
use Rattle.tau_explain.specs.Chains.Inner.Distances.{IsFar}
use Rattle.tau_explain.specs.Chains.Inner.Incoming.{PushesIncoming}
use Rattle.tau_explain.specs.Chains.Inner.Searching.{HasDistance, Notes, Searches}

same_some : {a b : ℕ} → Some a ≡ Some b → a ≡ b
same_some e = cc

not_both : {A : Type 0} (o : Option ℕ) (m : ℕ) → o ≡ None → o ≡ Some m → A
not_both o m e f = let x = sym e ∙ f in absurd (cc)

-- the points of C alone are noted
pub searches_start : (L : Point → Point → Type 0) (passed : Point → Type 0) (points : List Point) (far0 far : Point → Option ℕ) (queue0 queue : List Point)
    → ((p : Point) → passed p → ⊥) → ((p : Point) → far0 p ≡ None) → queue0 ≡ [] → Notes 0 points [] far0 far queue0 queue → Searches L passed (Contains points) 0 queue far
searches_start L passed points far0 far queue0 queue none nothing empty s = record {
  stands = λ p m e. (new p m e).2;
  told = λ i d lt. (0, at i d lt, omega arith);
  ordered = λ i j m n d le lt e f. omega (arith, zero_of i m d (omega (arith, le, lt)) e);
  spread = λ j m n d lt high e f. omega (arith, zero_of j n d high f);
  here = λ p c. ⊎_elim (λ h. let z : h.0 ≡ 0 = (new p h.0 h.1).0 in subst (λ k. far p ≡ Some k) z h.1) (λ h. absurd (Contains-none p h)) (s.noted p c);
  ends = λ p e. (new p 0 e).1;
  on = λ p n e. let z : suc n ≡ 0 = (new p (suc n) e).0 in absurd (omega (arith, z));
  near = λ i n p d lt l e. absurd (omega (arith, lt));
  was_passed = λ p h. absurd (none p h);
  within = omega arith;
} where
  new : (p : Point) (m : ℕ) → far p ≡ Some m → (m ≡ 0) × Contains points p × Contains queue p
  new p m e = ⊎_elim (λ o. not_both (far0 p) m (nothing p) o) (λ h. h) (s.fresh p m e)

  at : (i : ℕ) (d : Point) → i < length queue → far (get_or queue i d) ≡ Some 0
  at i d lt = s.back i d (omega (arith, ap length empty)) lt

  zero_of : (i m : ℕ) (d : Point) → i < length queue → far (get_or queue i d) ≡ Some m → m ≡ 0
  zero_of i m d lt e = same_some (sym e ∙ at i d lt)

module _ (L M : Point → Point → Type 0) (before after C : Point → Type 0) (at m : ℕ) (x : Point) (into : List Point) (far0 far : Point → Option ℕ) (queue0 queue : List Point)
    (lt : at < length queue0) (is : x ≡ get_or queue0 at x) (there : far0 x ≡ Some m)
    (pushed : PushesIncoming L M before after x [] into) (s : Searches L before C at queue0 far0) (noted : Notes (suc m) into [] far0 far queue0 queue) where
  -- what was in the queue has the distance that it had
  old : (i n : ℕ) (d : Point) → i < length queue0 → far (get_or queue i d) ≡ Some n → far0 (get_or queue0 i d) ≡ Some n
  old i n d low e =
      let t = s.told i d low in
      let f : far (get_or queue0 i d) ≡ Some t.0 = noted.kept _ t.0 t.1 in
      let g : far (get_or queue0 i d) ≡ Some n = subst (λ z. far z ≡ Some n) (noted.front i d low) e in
      t.1 ∙ sym f ∙ g

  new : (i n : ℕ) (d : Point) → length queue0 ≤ i → i < length queue → far (get_or queue i d) ≡ Some n → n ≡ suc m
  new i n d low high e = same_some (sym e ∙ noted.back i d low high)

  x_at : (d : Point) → far0 (get_or queue0 at d) ≡ Some m
  x_at d = subst (λ z. far0 z ≡ Some m) (is ∙ any at x d lt) there where
    any : (i : ℕ) (a b : Point) → i < length queue0 → get_or queue0 i a ≡ get_or queue0 i b
    any i a b low = get_or_default queue0 i a b low

  -- no old point is more than one link farther than x
  old_le : (i n : ℕ) (d : Point) → i < length queue0 → far0 (get_or queue0 i d) ≡ Some n → n ≤ suc m
  old_le i n d low e = s.spread i m n d lt low (x_at d) e

  any_le : (i n : ℕ) (d : Point) → i < length queue → far (get_or queue i d) ≡ Some n → n ≤ suc m
  any_le i n d high e = ⊎_elim (λ low. old_le i n d low (old i n d low e)) (λ le. omega (arith, new i n d le high e)) (cases_lt i (length queue0))

  -- a point whose place isn't below x's is at least as far
  at_least : (i n : ℕ) (d : Point) → at ≤ i → i < length queue → far (get_or queue i d) ≡ Some n → m ≤ n
  at_least i n d le high e = ⊎_elim (λ low. s.ordered at i m n d le low (x_at d) (old i n d low e)) (λ le2. omega (arith, new i n d le2 high e)) (cases_lt i (length queue0))

  has : (p : Point) → L p x → HasDistance far p
  has p l = ⊎_elim
      (λ c. ⊎_elim (λ h. h) (λ c2. absurd (Contains-none p c2)) (noted.noted p c))
      (λ b. let h = s.was_passed p b in (h.0, noted.kept p h.0 h.1))
      (pushed.found p l)

  near_x : (p : Point) → L p x → (n : ℕ) × (far p ≡ Some n) × (n ≤ suc m)
  near_x p l =
      let h = has p l in
      (h.0, h.1, ⊎_elim (λ o. bound p h.0 o) (λ f. omega (arith, f.0)) (noted.fresh p h.0 h.1)) where
        bound : (p : Point) (n : ℕ) → far0 p ≡ Some n → n ≤ suc m
        bound p n e =
            let c = s.stands p n e in
            old_le c.0 n p c.1 (subst (λ z. far0 z ≡ Some n) (sym c.2) e)

  pub searches_on : Searches M after C (at + 1) queue far
  searches_on = record {
    stands = λ p n e. ⊎_elim (λ o. more p (s.stands p n o)) (λ f. f.2) (noted.fresh p n e);
    told = λ i d high. ⊎_elim
        (λ low. let t = s.told i d low in (t.0, subst (λ z. far z ≡ Some t.0) (sym (noted.front i d low)) (noted.kept _ t.0 t.1), t.2))
        (λ le. (suc m, noted.back i d le high, omega (arith, le, lt, m_le)))
        (cases_lt i (length queue0));
    ordered = λ i j a b d le high e f. ⊎_elim
        (λ low. ⊎_elim
        (λ low2. s.ordered i j a b d le low2 (old i a d low e) (old j b d low2 f))
        (λ le2. omega (arith, any_le i a d (omega (arith, le, high)) e, new j b d le2 high f))
        (cases_lt j (length queue0)))
        (λ le2. omega (arith, new i a d le2 (omega (arith, le, high)) e, new j b d (omega (arith, le, le2)) high f))
        (cases_lt i (length queue0));
    spread = λ j a b d high high2 e f. omega (arith, any_le j b d high2 f, at_least (at + 1) a d (omega arith) high e);
    here = λ p c. noted.kept p 0 (s.here p c);
    ends = λ p e. ⊎_elim (λ o. s.ends p o) (λ f. absurd (omega (arith, f.0))) (noted.fresh p 0 e);
    on = λ p n e. ⊎_elim
        (λ o. let q = s.on p n o in (q.0, (pushed.same p q.0).1 q.1, noted.kept q.0 n q.2))
        (λ f. step p n e f)
        (noted.fresh p (suc n) e);
    near = λ i n p d low l e. go p i n d low l e;
    was_passed = λ p h. ⊎_elim
        (λ c. ⊎_elim (λ g. g) (λ c2. absurd (Contains-none p c2)) (noted.noted p c))
        (λ b. let g = s.was_passed p b in (g.0, noted.kept p g.0 g.1))
        (pushed.passed p h);
    within = omega (arith, lt, noted.longer);
  } where
    m_le : m ≤ at
    m_le = let t = s.told at x lt in let e : m ≡ t.0 = same_some (sym (x_at x) ∙ t.1) in omega (arith, e, t.2)

    more : (p : Point) → Contains queue0 p → Contains queue p
    more p c = (c.0, omega (arith, c.1, noted.longer), noted.front c.0 p c.1 ∙ c.2)

    step : (p : Point) (n : ℕ) → far p ≡ Some (suc n) → (suc n ≡ suc m) × Contains into p × Contains queue p → (q : Point) × M p q × (far q ≡ Some n)
    step p n e f = ⊎_elim
        (λ c. absurd (Contains-none p c))
        (λ r. ⊎_elim
        (λ (same : p ≡ x). let g : far x ≡ Some (suc n) = subst (λ z. far z ≡ Some (suc n)) same e in
        let h : far x ≡ Some m = noted.kept x m there in
        let k : suc n ≡ m = same_some (sym g ∙ h) in absurd (omega (arith, k, f.0)))
        (λ l. let k : m ≡ n = omega (arith, f.0) in (x, (pushed.same p x).1 l, subst (λ z. far x ≡ Some z) k (noted.kept x m there)))
        r)
        (pushed.allowed p f.1)

    go : (p : Point) (i n : ℕ) (d : Point) → i < at + 1 → M p (get_or queue i d) → far (get_or queue i d) ≡ Some n → (k : ℕ) × (far p ≡ Some k) × (k ≤ suc n)
    go p i n d low l e =
        let small : i < length queue0 = omega (arith, low, lt) in
        let front = noted.front i d small in
        let link : L p (get_or queue0 i d) = (pushed.same p _).0 (subst (M p) front l) in
        let was : far0 (get_or queue0 i d) ≡ Some n = old i n d small e in
        ⊎_elim
        (λ less. let r = s.near i n p d less link was in (r.0, noted.kept p r.0 r.1, r.2))
        (λ le.
        let same : i ≡ at = omega (arith, low, le) in
        let here2 : get_or queue0 i d ≡ x = ap (λ k. get_or queue0 k d) same ∙ get_or_default queue0 at d x lt ∙ sym is in
        let r = near_x p (subst (L p) here2 link) in
        let k : m ≡ n = same_some (sym there ∙ subst (λ z. far0 z ≡ Some n) here2 was) in
        (r.0, r.1, omega (arith, r.2, k)))
        (cases_lt i at)

pub searches_end : (L : Point → Point → Type 0) (passed C : Point → Type 0) (at : ℕ) (queue : List Point) (far : Point → Option ℕ) → length queue ≤ at → Searches L passed C at queue far → IsFar L C far
searches_end L passed C at queue far le s = record {
  here = s.here;
  ends = s.ends;
  on = s.on;
  near = λ p q n l e.
      let c = s.stands q n e in
      s.near c.0 n p q (omega (arith, c.1, le)) (subst (L p) (sym c.2) l) (subst (λ z. far z ≡ Some n) (sym c.2) e);
}

pub far_same : (L M : Point → Point → Type 0) (C : Point → Type 0) (far : Point → Option ℕ) → ((p r : Point) → M p r ↔ L p r) → IsFar M C far → IsFar L C far
far_same L M C far same f = record {
  here = f.here;
  ends = f.ends;
  on = λ p n e. let q = f.on p n e in (q.0, (same p q.0).0 q.1, q.2);
  near = λ p q n l e. f.near p q n ((same p q).1 l) e;
}

pub iff_trans : (L M N : Point → Point → Type 0) → ((p r : Point) → M p r ↔ L p r) → ((p r : Point) → N p r ↔ M p r) → (p r : Point) → N p r ↔ L p r
iff_trans L M N a b p r = (λ n. (a p r).0 ((b p r).0 n), λ l. (b p r).1 ((a p r).1 l))

-- the distance of the point at the place is not above the place
pub small_distance : (L : Point → Point → Type 0) (passed C : Point → Type 0) (at m : ℕ) (x : Point) (queue : List Point) (far : Point → Option ℕ) → at < length queue → x ≡ get_or queue at x → far x ≡ Some m → Searches L passed C at queue far → m ≤ at
small_distance L passed C at m x queue far lt is e s =
    let t = s.told at x lt in
    let f : far (get_or queue at x) ≡ Some m = subst (λ z. far z ≡ Some m) is e in
    let k : m ≡ t.0 = same_some (sym f ∙ t.1) in
    omega (arith, k, t.2)

pub told_at : (L : Point → Point → Type 0) (passed C : Point → Type 0) (at : ℕ) (x : Point) (queue : List Point) (far : Point → Option ℕ) → at < length queue → x ≡ get_or queue at x → Searches L passed C at queue far → HasDistance far x
told_at L passed C at x queue far lt is s = let t = s.told at x lt in (t.0, subst (λ z. far z ≡ Some t.0) (sym is) t.1)

pub searches_next : (L M : Point → Point → Type 0) (before after C : Point → Type 0) (at m : ℕ) (x : Point) (into0 into : List Point) (far0 far : Point → Option ℕ) (queue0 queue : List Point)
    → at < length queue0 → x ≡ get_or queue0 at x → far0 x ≡ Some m → into0 ≡ [] → PushesIncoming L M before after x into0 into → Searches L before C at queue0 far0 → Notes (m + 1) into [] far0 far queue0 queue → Searches M after C (at + 1) queue far
searches_next L M before after C at m x into0 into far0 far queue0 queue lt is there empty pushed s noted =
    let e : m + 1 ≡ suc m = omega arith in
    searches_on L M before after C at m x into far0 far queue0 queue lt is there
    (subst (λ (ps : List Point). PushesIncoming L M before after x ps into) empty pushed) s
    (subst (λ k. Notes k into [] far0 far queue0 queue) e noted)
