-- What is kept of transactors, read from lists.
use Rattle.std.proofs.Common.{◌≡◌, ◌≢◌, ◌⊎◌, inl, inr, ⊎_elim, ℕ, zero, suc, ◌+◌, ◌<◌, Bool, true, false, List, [], ◌∷◌, ◌++◌, length, take, get_or, replicate, refl, sym, subst}
use Rattle.std.specs.Prelude.{Contains}
use Rattle.std.proofs.lemmas.Bool.{cases_eq}
use Rattle.std.proofs.lemmas.List.{take_more}
use Rattle.std.proofs.lemmas.List.Elements.{Contains-push_cases}
use Rattle.std.specs.Bool.{OnTrue}
use Rattle.std.specs.declared.alloc.Global.{Global}
use Rattle.std.specs.declared.vec.Vec.{Vec}
use Rattle.tau_points.specs.declared.point.Point.{Point}
use Rattle.tau_points.proofs.Membership.{Contains-none, Contains-cons_cases}
use Rattle.tau_versions.specs.Logs.Told.{Told}
use Rattle.tau_verdicts.specs.Noting.{IsListed, AreAdded}
use Rattle.tau_verdicts.specs.Doomed.{flag_of, takers_of}

-- a clause for the answer true, made weaker
pub on_true : (b : Bool) (P Q : Type 0) → (P → Q) → OnTrue b P → OnTrue b Q
on_true true P Q f h = f h
on_true false P Q f h = tt

pub when_true : (b : Bool) (P : Type 0) → b ≡ true → OnTrue b P → P
when_true true P e h = h
when_true false P e h = absurd (cc)

-- places that are added at the end are those of who isn't doomed
pub doomed_filled : (xs : List Bool) (k u : ℕ) → flag_of (xs ++ replicate k false) u ≡ flag_of xs u
doomed_filled [] zero u = refl
doomed_filled [] (suc k) zero = refl
doomed_filled [] (suc k) (suc u) = doomed_filled [] k u
doomed_filled (x ∷ xs) k zero = refl
doomed_filled (x ∷ xs) k (suc u) = doomed_filled xs k u

-- a list without takers that is added at the end
pub takers_pushed : (xs : List (Vec Point Global)) (v : Vec Point Global) (u : ℕ) → v.items ≡ [] → takers_of (xs ++ v ∷ []) u ≡ takers_of xs u
takers_pushed [] v zero e = e
takers_pushed [] v (suc u) e = refl
takers_pushed (x ∷ xs) v zero e = refl
takers_pushed (x ∷ xs) v (suc u) e = takers_pushed xs v u e

-- Takers that are added.

pub none_added : (D : ℕ → Bool) (p : Point) (K : ℕ → List Point) → AreAdded D p K K
none_added D p K = record { kept = λ u q c. c; only = λ u q c. inl c }

pub added_then : (D : ℕ → Bool) (p : Point) (K M N : ℕ → List Point) → AreAdded D p K M → AreAdded D p M N → AreAdded D p K N
added_then D p K M N a b = record {
  kept = λ u q c. b.kept u q (a.kept u q c);
  only = λ u q c. ⊎_elim (λ m. a.only u q m) (λ y. inr y) (b.only u q c);
}

-- the one that is added to the takers of a transactor whose point isn't doomed
pub one_added : (D : ℕ → Bool) (p : Point) (K M : ℕ → List Point) (w : ℕ) → D w ≡ false → ((u : ℕ) → u ≢ w → M u ≡ K u) → ((q : Point) → Contains (K w) q → Contains (M w) q) → ((q : Point) → Contains (M w) q → Contains (K w) q ⊎ (q ≡ p)) → AreAdded D p K M
one_added D p K M w fine others kept only = record {
  kept = λ u q c. ⊎_elim (λ e. let F : ℕ → Type 0 = λ v. Contains (K v) q → Contains (M v) q in subst F (sym e) (kept q) c)
      (λ ne. let G : List Point → Type 0 = λ ps. Contains ps q in subst G (sym (others u ne)) c) (cases_eq u w);
  only = λ u q c. ⊎_elim (λ e. let F : ℕ → Type 0 = λ v. Contains (M v) q → Contains (K v) q ⊎ (q ≡ p) × (D v ≡ false) in
      subst F (sym e) (λ d. ⊎_elim (λ l. inl l) (λ r. inr (r, fine)) (only q d)) c)
      (λ ne. inl (let G : List Point → Type 0 = λ ps. Contains ps q in subst G (others u ne) c)) (cases_eq u w);
}

-- a list whose points all pass, with one more
pub next_all : (P : Point → Type 0) (points : List Point) (k : ℕ) (d : Point) → k < length points → P (get_or points k d) → ((q : Point) → Contains (take k points) q → P q) → (q : Point) → Contains (take (k + 1) points) q → P q
next_all P points k d within here all q c =
    ⊎_elim (λ h. all q h) (λ (e : get_or points k d ≡ q). subst P e here)
    (Contains-push_cases (take k points) (get_or points k d) q (subst (λ (ys : List Point). Contains ys q) (take_more points k d within) c))

pub listed_later : (logs : List Told) (p q : Point) (K M : ℕ → List Point) → ((u : ℕ) (r : Point) → Contains (K u) r → Contains (M u) r) → IsListed logs K p q → IsListed logs M p q
listed_later logs p q K M kept l = ⊎_elim (λ e. inl e) (λ y. inr (y.0, kept q.who p y.1)) l

-- the list of one point
pub only_one : (p q : Point) → Contains (p ∷ []) q → q ≡ p
only_one p q c = ⊎_elim (λ e. e) (λ h. absurd (Contains-none q h)) (Contains-cons_cases p [] q c)

pub nothing_in : (P : Point → Type 0) (q : Point) → Contains [] q → P q
nothing_in P q c = absurd (Contains-none q c)
