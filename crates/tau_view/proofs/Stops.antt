-- On settled facts a search that stops at Closed points finds all that decides.
use Rattle.std.proofs.Common.{◌≡◌, ◌≢◌, ◌⊎◌, inl, inr, ⊎_elim, ◌↔◌, Bool, true, false, IsTrue, Option, Some, None, List, refl, sym, subst}
use Rattle.std.specs.Prelude.{Contains, IsFalse}
use Rattle.tau_history.specs.declared.fate.Fate.{Fate}
use Rattle.tau_history.specs.declared.fate.Fate.TheVariants.{Ahead, Open, Stable, Closed, Fallen}
use Rattle.tau_points.specs.declared.point.Point.{Point}
use Rattle.tau_points.specs.Reach.{start, next}
use Rattle.tau_points.proofs.Reach.{monotone, nested}
use Rattle.tau_view.specs.Held.{Held, Points, fate_in, is_firm, only}
use Rattle.tau_view.specs.Past.{Link, OpenLink, KnownPast, PastUpToClosed, FallenIn, NotFirmIn, SomeFallen, Settled}
use Rattle.tau_view.proofs.Sets.{same_self}
use Rattle.tau_view.specs.Fate.Least.{IsLeast, IsLeastIfAny}
use Rattle.tau_view.specs.Fate.Inner.Found.{IsFound, FallenAmong, NotFirmAmong}

-- a fate is Closed or isn't
closed_or_not : (f : Fate) → (f ≡ Closed) ⊎ (f ≢ Closed)
closed_or_not Ahead = inr (λ e. cc)
closed_or_not Open = inr (λ e. cc)
closed_or_not Stable = inr (λ e. cc)
closed_or_not Closed = inl refl
closed_or_not Fallen = inr (λ e. cc)

-- found before a Closed point, or behind one
data Position (v : Held) (from : Points) (q : Point) : Type 0 where
  found : PastUpToClosed v from q → Position v from q
  behind : (c : Point) → fate_in v.history c ≡ Closed → KnownPast v (only c) q → Position v from q

position : (v : Held) (from : Points) (q : Point) → KnownPast v from q → Position v from q
position v from q (start h) = found (start h)
position v from q (next {x = x} r l) = go (position v from x r) where
  go : Position v from x → Position v from q
  go (found p) = ⊎_elim (λ c. behind x c (next (start (same_self x)) l)) (λ n. found (next p (record { link = l; open_source = n }))) (closed_or_not (fate_in v.history x))
  go (behind c is p) = behind c is (next p l)

-- a point that isn't firm is found
not_firm_found : (v : Held) (from : Points) (q : Point) → Settled v → KnownPast v from q → IsFalse (is_firm (fate_in v.history q)) → PastUpToClosed v from q
not_firm_found v from q settled r n = go (position v from q r) where
  go : Position v from q → PastUpToClosed v from q
  go (found p) = p
  go (behind c is p) = absurd (let firm = settled c q is p in cc)

-- what is found is in the known past
found_known : (v : Held) (from : Points) (q : Point) → PastUpToClosed v from q → KnownPast v from q
found_known v from q p = monotone (OpenLink v) (Link v) (λ x. IsTrue (from x)) (λ x. IsTrue (from x)) (λ x y l. l.link) (λ x h. h) q p

fallen_not_firm : (f : Fate) → f ≡ Fallen → IsFalse (is_firm f)
fallen_not_firm f e = subst (λ x. IsFalse (is_firm x)) (sym e) refl

module _ (v : Held) (from : Points) (past : List Point) (settled : Settled v) (is : (q : Point) → Contains past q ↔ PastUpToClosed v from q) where
  to_fallen : (q : Point) → FallenAmong v.history past q → FallenIn v from q
  to_fallen q a = record { in_past = found_known v from q ((is q).0 a.among); is_fallen = a.is_fallen }

  of_fallen : (q : Point) → FallenIn v from q → FallenAmong v.history past q
  of_fallen q f = record { among = (is q).1 (not_firm_found v from q settled f.in_past (fallen_not_firm _ f.is_fallen)); is_fallen = f.is_fallen }

  to_not_firm : (q : Point) → NotFirmAmong v.history past q → NotFirmIn v from q
  to_not_firm q a = record { in_past = found_known v from q ((is q).0 a.among); not_firm = a.not_firm }

  of_not_firm : (q : Point) → NotFirmIn v from q → NotFirmAmong v.history past q
  of_not_firm q f = record { among = (is q).1 (not_firm_found v from q settled f.in_past f.not_firm); not_firm = f.not_firm }

  pub fallen_of_found : (r : Option Point) → IsLeastIfAny (FallenAmong v.history past) r → IsLeastIfAny (FallenIn v from) r
  fallen_of_found None none = λ q f. none q (of_fallen q f)
  fallen_of_found (Some p) l = record { holds = to_fallen p l.holds; least = λ q f. l.least q (of_fallen q f) }

  pub not_firm_of_found : (r : Option Point) → IsLeastIfAny (NotFirmAmong v.history past) r → IsLeastIfAny (NotFirmIn v from) r
  not_firm_of_found None none = λ q f. none q (of_not_firm q f)
  not_firm_of_found (Some p) l = record { holds = to_not_firm p l.holds; least = λ q f. l.least q (of_not_firm q f) }

-- where a set's known past has no Fallen point, that of points that were found from it has none
pub none_beyond : (v : Held) (from roots : Points) (past : List Point) → IsFound v from past → ¬ SomeFallen v from → ((q : Point) → IsTrue (roots q) → Contains past q) → (q : Point) → ¬ FallenIn v roots q
none_beyond v from roots past is none has q f =
    none (q, record { in_past = nested (Link v) (λ x. IsTrue (from x)) (λ x. IsTrue (roots x)) (λ x r. found_known v from x ((is x).0 (has x r))) q f.in_past; is_fallen = f.is_fallen })
