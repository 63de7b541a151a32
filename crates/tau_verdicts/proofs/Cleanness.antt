-- What is closed is clean, and what is covered by clean points is clean.
use Rattle.std.proofs.Common.{◌≡◌, ⊎_elim, ℕ, ◌<◌, List, Some, refl, sym, ap, ◌∙◌, subst}
use Rattle.std.specs.Prelude.{Contains}
use Rattle.tau_trace.specs.declared.step.Step.TheVariants.{Checkpoint}
use Rattle.tau_points.specs.declared.point.Point.{Point}
use Rattle.tau_points.specs.Reach.{start, next}
use Rattle.tau_points.proofs.Reach.{least, monotone, nested}
use Rattle.tau_trace.specs.Run.{Run}
use Rattle.tau_trace.specs.Known.{WellFormed}
use Rattle.tau_trace.specs.Points.{point_at, IsOpeningPoint}
use Rattle.tau_past.specs.Decisions.{HasFallen}
use Rattle.tau_past.specs.Pasts.{ClosesAt, checkpoint, opening, Link, takes, closing, PastIn, Past, Is, FellIn}
use Rattle.tau_past.specs.Safety.{KeepsRules}
use Rattle.tau_past.proofs.Expected.{stands_alone}
use Rattle.tau_past.proofs.FixedLemmas.{fixes_past}
use Rattle.tau_past.proofs.Safety.{nothing_at_opening, known_in_past}
use Rattle.tau_versions.specs.Logs.Takes.{ClosedIn, Covered, is_listed, is_closed, through}
use Rattle.tau_heard.proofs.LeavingOut.{closed_on}
use Rattle.tau_verdicts.specs.Clean.{Before, IsClean}

-- In greater sets.

pub link_on : (T : Run) (H G : ℕ → Type 0) → ((j : ℕ) → H j → G j) → (p q : Point) → Link T H p q → Link T G p q
link_on T H G grows p q (takes {j = j} h t) = takes (grows j h) t
link_on T H G grows p q (closing {i = i} e k) = closing e (closed_on T H G p.who i q grows k)

fell_on : (T : Run) (H G : ℕ → Type 0) → ((j : ℕ) → H j → G j) → (q : Point) → FellIn T H q → FellIn T G q
fell_on T H G grows q f = record { place = f.place; held = grows f.place f.held; falls = f.falls; at_point = f.at_point }

-- a point of a known past is in that of one of the points from which it begins
pub from_one : (T : Run) (H : ℕ → Type 0) (P : Point → Type 0) (x : Point) → PastIn T H P x → (q : Point) × P q × PastIn T H (Is q) x
from_one T H P = least (Link T H) P (λ x. (q : Point) × P q × PastIn T H (Is q) x) (record {
  starts = λ x p. (x, p, start refl);
  follows = λ x y h l. (h.0, h.1, next h.2 l);
})

-- where the points from which a known past begins are clean, it holds nothing fallen
pub none_fallen : (T : Run) (H : ℕ → Type 0) (n : ℕ) (P : Point → Type 0) → ((j : ℕ) → H j → j < n) → ((q : Point) → P q → IsClean T n q) → ¬ HasFallen T H P
none_fallen T H n P below clean f =
    let one = from_one T H P f.cause f.in_past in
    clean one.0 one.1 (record {
      cause = f.cause;
      in_past = monotone (Link T H) (Link T (Before n)) (Is one.0) (Is one.0) (λ x y l. link_on T H (Before n) below x y l) (λ x e. e) f.cause one.2;
      fallen = fell_on T H (Before n) below f.cause f.fallen;
    })

-- What lies behind closed points.

pub closing_is_closed : (T : Run) (H : ℕ → Type 0) (t i : ℕ) (q : Point) → ClosesAt T H t i q → ClosedIn T H q
closing_is_closed T H t i q (checkpoint {j = j} h c e f) =
    let who : t ≡ q.who = sym (ap (λ x. x.who) e) in checkpoint h (c ∙ ap (λ u. Some (Checkpoint u)) who) (e ∙ ap (λ u. point_at T u j) who) refl
closing_is_closed T H t i q (opening a b o) = opening refl o.interval_is o

-- it hasn't fallen
pub behind_closed : (T : Run) (H : ℕ → Type 0) (c x : Point) → WellFormed T → KeepsRules T → ClosedIn T H c → PastIn T H (Is c) x → ¬ FellIn T H x
behind_closed T H c x w rules (opening a b o) r f =
    let same = stands_alone T c x o (known_in_past T H c x r) in
    let here = subst (IsOpeningPoint T) (sym same) o in nothing_at_opening T x f.place here f.at_point
behind_closed T H c x w rules (checkpoint {j = j} h k e i) r f =
    let fixes = fixes_past T c.who j w rules k in
    let F : Point → Type 0 = λ p. Past T p x in
    fixes.kept x (subst F e (known_in_past T H c x r)) (record { place = f.place; held = tt; falls = f.falls; at_point = f.at_point })

pub closed_clean : (T : Run) (n : ℕ) (c : Point) → WellFormed T → KeepsRules T → ClosedIn T (Before n) c → IsClean T n c
closed_clean T n c w rules d f = behind_closed T (Before n) c f.cause w rules d f.in_past f.fallen

-- What is covered.

-- what a clean point leads to is clean
pub clean_along : (T : Run) (n : ℕ) (r q : Point) → Link T (Before n) r q → IsClean T n r → IsClean T n q
clean_along T n r q l clean f = clean (record {
  cause = f.cause;
  in_past = nested (Link T (Before n)) (Is r) (Is q) (λ z e. subst (PastIn T (Before n) (Is r)) (sym e) (next (start refl) l)) f.cause f.in_past;
  fallen = f.fallen;
})

-- what clean points cover is clean
pub covered_clean : (T : Run) (n : ℕ) (H : ℕ → Type 0) (listed : List Point) (j : ℕ) (q : Point) → WellFormed T → KeepsRules T → ((i : ℕ) → H i → i < n) → ((r : Point) → Contains listed r → IsClean T n r)
    → Covered T H listed j q → IsClean T n q
covered_clean T n H listed j q w rules below clean (is_listed l) = clean q l
covered_clean T n H listed j q w rules below clean (is_closed d) = closed_clean T n q w rules (closed_on T H (Before n) q.who q.interval q below d)
covered_clean T n H listed j q w rules below clean (through {r = r} {i = i} l lt h t) =
    clean_along T n r q (takes (below i h) t) (⊎_elim (clean r) (λ d. closed_clean T n r w rules (closed_on T H (Before n) r.who r.interval r below d)) l)
