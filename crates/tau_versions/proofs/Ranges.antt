-- Takes added at the end of a log.
use Rattle.std.proofs.Common.{◌≡◌, ◌≢◌, ◌⊎◌, inl, inr, ⊎_elim, ℕ, zero, suc, ◌+◌, ◌*◌, ◌-◌, ◌<◌, ◌≤◌, Bool, filter, List, [], ◌∷◌, ◌++◌, length, take, drop, Some, refl, sym, ap, ap₂, ◌∙◌, subst, arith, length-append, length-drop}
use Rattle.std.specs.Prelude.{slice_get, Contains}
use Rattle.std.specs.List.{count_by}
use Rattle.std.proofs.lemmas.List.Sums.{length-filter, count_by-le-length}
use Rattle.std.proofs.lemmas.List.{take_all, take_more, drop-append-le}
use Rattle.std.proofs.lemmas.List.Elements.{Contains-append_left, Contains-push, Contains-push_cases}
use Rattle.std.proofs.lemmas.Option.{slice_get_within, get_or_from_slice_get}
use Rattle.tau_history.specs.Timeline.{Timeline}
use Rattle.tau_points.specs.declared.point.Point.{Point}
use Rattle.tau_points.proofs.Membership.{Contains-none}
use Rattle.tau_versions.specs.declared.logs.version.Version.{Version}
use Rattle.tau_versions.specs.Logs.Versions.{IsVersionOf}
use Rattle.tau_versions.specs.Logs.Told.{Told}
use Rattle.tau_versions.specs.Logs.Takes.{taken}
use Rattle.tau_versions.specs.Roots.Adding.{AreFresh, IsAdding}

drop_all : (xs : List Point) → drop (length xs) xs ≡ []
drop_all [] = refl
drop_all (x ∷ xs) = drop_all xs

-- what stands from place a on, with more at the end
from_on : (xs ys : List Point) (a k : ℕ) → a ≤ length xs → k ≡ length xs + length ys - a → take k (drop a (xs ++ ys)) ≡ drop a xs ++ ys
from_on xs ys a k le e = ap (take k) (drop-append-le a xs ys le) ∙ take_all k (drop a xs ++ ys) (omega (arith, e, length-append (drop a xs) ys, length-drop a xs))

-- the fresh points alone
pub added_alone : (unclosed : Point → Bool) (l : Told) (v w : Version) (fresh points : List Point) → length (taken l.takes v) ≤ 2 * count_by unclosed (taken l.takes v) + 8 → v.first ≤ v.last → v.last ≡ length l.takes → points ≡ fresh → w.first ≡ v.first → w.last ≡ length l.takes + length points
    → ((g : Timeline) → IsVersionOf v g → IsVersionOf w g) → IsAdding unclosed l v fresh points w
added_alone unclosed l v w fresh points few ordered at is first last tells = record {
  kept = taken l.takes v;
  is_kept = record { cases = inl refl; few_closed = few };
  taken_is = taken_is;
  ordered = omega (arith, first, last, ordered, at);
  within = omega (arith, last, length-append l.takes points);
  few = omega (arith, ap length is);
  tells = tells;
} where
  old : taken l.takes v ≡ drop v.first l.takes
  old = take_all (v.last - v.first) (drop v.first l.takes) (omega (arith, length-drop v.first l.takes, at))

  taken_is : taken (l.takes ++ points) w ≡ taken l.takes v ++ fresh
  taken_is = ap (λ a. take (w.last - a) (drop a (l.takes ++ points))) first ∙ from_on l.takes points v.first (w.last - v.first) (omega (arith, ordered, at)) (omega (arith, last)) ∙ ap₂ (λ xs ys. xs ++ ys) (sym old) is

-- all that the point has taken and isn't closed, again
pub added_again : (unclosed : Point → Bool) (l : Told) (v w : Version) (fresh points : List Point) → points ≡ filter unclosed (taken l.takes v) ++ fresh → w.first ≡ length l.takes → w.last ≡ length l.takes + length points
    → ((g : Timeline) → IsVersionOf v g → IsVersionOf w g) → IsAdding unclosed l v fresh points w
added_again unclosed l v w fresh points is first last tells = record {
  kept = filter unclosed (taken l.takes v);
  is_kept = record { cases = inr refl; few_closed = omega (arith, length-filter unclosed (taken l.takes v)) };
  taken_is = ap (λ a. take (w.last - a) (drop a (l.takes ++ points))) first ∙ from_on l.takes points (length l.takes) (w.last - length l.takes) (omega arith) (omega (arith, last)) ∙ ap (λ xs. xs ++ points) (drop_all l.takes) ∙ is;
  ordered = omega (arith, first, last);
  within = omega (arith, last, length-append l.takes points);
  few = omega (arith, ap length is, length-append (filter unclosed (taken l.takes v)) fresh, length-filter unclosed (taken l.takes v), count_by-le-length unclosed (taken l.takes v));
  tells = tells;
}

-- no root seen
pub none_fresh : (me : Point) (before : List Point) → AreFresh [] me before []
none_fresh me before = record { among = λ q c. absurd (Contains-none q c); all = λ q c. absurd (Contains-none q c); few = omega arith }

-- one root more, which is fresh
pub one_fresh : (roots : List Point) (me r : Point) (before fresh : List Point) → r ≢ me → AreFresh roots me before fresh → AreFresh (roots ++ r ∷ []) me before (fresh ++ r ∷ [])
one_fresh roots me r before fresh ne x = record {
  among = λ q c. ⊎_elim
      (λ f. let y = x.among q f in (Contains-append_left roots (r ∷ []) q y.0, y.1))
      (λ e. (let F : Point → Type 0 = Contains (roots ++ r ∷ []) in subst F e (Contains-push roots r), λ f. ne (e ∙ f)))
      (Contains-push_cases fresh r q c);
  all = λ q c d. ⊎_elim
      (λ f. ⊎_elim (λ b. inl b) (λ g. inr (Contains-append_left fresh (r ∷ []) q g)) (x.all q f d))
      (λ e. inr (let F : Point → Type 0 = Contains (fresh ++ r ∷ []) in subst F e (Contains-push fresh r)))
      (Contains-push_cases roots r q c);
  few = omega (arith, x.few, length-append roots (r ∷ []), length-append fresh (r ∷ []));
}

-- one root more, which is the own point or was taken
pub one_passed : (roots : List Point) (me r : Point) (before fresh : List Point) → (r ≡ me) ⊎ Contains before r → AreFresh roots me before fresh → AreFresh (roots ++ r ∷ []) me before fresh
one_passed roots me r before fresh passed x = record {
  among = λ q c. let y = x.among q c in (Contains-append_left roots (r ∷ []) q y.0, y.1);
  all = λ q c d. ⊎_elim
      (λ f. x.all q f d)
      (λ e. ⊎_elim (λ m. absurd (d (sym e ∙ m))) (λ b. inl (let F : Point → Type 0 = Contains before in subst F e b)) passed)
      (Contains-push_cases roots r q c);
  few = omega (arith, x.few, length-append roots (r ∷ []));
}

-- the roots so far and the next one
pub next_root : (roots : List Point) (k : ℕ) (r : Point) → slice_get roots k ≡ Some r → take (k + 1) roots ≡ take k roots ++ r ∷ []
next_root roots k r e = take_more roots k r (slice_get_within roots k r e) ∙ ap (λ x. take k roots ++ x ∷ []) (get_or_from_slice_get roots k r r e)

pub next_fresh : (roots : List Point) (k : ℕ) (me r : Point) (before fresh more : List Point) → slice_get roots k ≡ Some r → r ≢ me → more ≡ fresh ++ r ∷ [] → AreFresh (take k roots) me before fresh → AreFresh (take (k + 1) roots) me before more
next_fresh roots k me r before fresh more e ne is x =
    let F : List Point → Type 0 = λ ps. AreFresh ps me before more in
    let G : List Point → Type 0 = λ ps. AreFresh (take k roots ++ r ∷ []) me before ps in
    subst F (sym (next_root roots k r e)) (subst G (sym is) (one_fresh (take k roots) me r before fresh ne x))

pub next_passed : (roots : List Point) (k : ℕ) (me r : Point) (before fresh : List Point) → slice_get roots k ≡ Some r → (r ≡ me) ⊎ Contains before r → AreFresh (take k roots) me before fresh → AreFresh (take (k + 1) roots) me before fresh
next_passed roots k me r before fresh e passed x = let F : List Point → Type 0 = λ ps. AreFresh ps me before fresh in subst F (sym (next_root roots k r e)) (one_passed (take k roots) me r before fresh passed x)

pub root_there : (roots : List Point) (k : ℕ) → k < length roots → (r : Point) × (slice_get roots k ≡ Some r)
root_there [] k l = absurd (omega arith)
root_there (r ∷ roots) zero l = (r, refl)
root_there (r ∷ roots) (suc k) l = root_there roots k (omega arith)
