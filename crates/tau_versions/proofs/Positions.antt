-- Where the points of a known past stand for a search that passes over closed points and ends at fallen ones.
use Rattle.std.proofs.Common.{◌≡◌, ⊎_elim, ℕ, zero, suc, ◌<◌, List, Some, IsTrue, refl, sym, ap, ◌∙◌, arith}
use Rattle.std.specs.Prelude.{Contains}
use Rattle.tau_points.specs.declared.point.Point.{Point}
use Rattle.tau_points.specs.Reach.{start, next}
use Rattle.tau_trace.specs.declared.step.Step.TheVariants.{Checkpoint}
use Rattle.tau_trace.specs.Run.{Run}
use Rattle.tau_trace.specs.Points.{point_at}
use Rattle.tau_past.specs.Carried.{TakesBy}
use Rattle.tau_past.specs.Pasts.{ClosesAt, checkpoint, opening, Link, takes, closing, PastIn, Is, FellIn}
use Rattle.tau_versions.specs.Logs.Told.{Told}
use Rattle.tau_versions.specs.Logs.Takes.{ClosedIn, Covered, is_listed, is_closed, through}
use Rattle.tau_versions.specs.Search.Searching.{fate_of, takes_of, goes_on, Found}

-- what a search makes of a found point: it is closed, or has fallen, or the search goes on to what covers all that it takes
pub data Kind (T : Run) (H : ℕ → Type 0) (logs : List Told) (numbers : ℕ → ℕ) (p : Point) : Type 0 where
  closed_point : ClosedIn T H p → Kind T H logs numbers p
  fallen_point : FellIn T H p → Kind T H logs numbers p
  open_point : IsTrue (goes_on (fate_of logs numbers p)) → ((j : ℕ) (q : Point) → H j → TakesBy T j p q → Covered T H (takes_of logs numbers p.who) j q) → Kind T H logs numbers p

-- a point of the past was found, or lies behind a closed point, or a fallen point was found
pub data Position (T : Run) (H : ℕ → Type 0) (F : Point → Type 0) (q : Point) : Type 0 where
  found : F q → Position T H F q
  behind : (c : Point) → ClosedIn T H c → PastIn T H (Is c) q → Position T H F q
  cut : (f : Point) → F f → FellIn T H f → Position T H F q

-- the closing point of an interval is closed
closing_is_closed : (T : Run) (H : ℕ → Type 0) (t i : ℕ) (q : Point) → ClosesAt T H t i q → ClosedIn T H q
closing_is_closed T H t i q (checkpoint {j = j} h c e f) =
    let who : t ≡ q.who = sym (ap (λ x. x.who) e) in checkpoint h (c ∙ ap (λ u. Some (Checkpoint u)) who) (e ∙ ap (λ u. point_at T u j) who) refl
closing_is_closed T H t i q (opening a b o) = opening refl o.interval_is o

module _ (T : Run) (H : ℕ → Type 0) (n : ℕ) (logs : List Told) (numbers : ℕ → ℕ) (P : Point → Type 0) (roots : List Point) where
  abbrev F : Point → Type 0
  F = Found logs numbers (Contains roots)

  abbrev Pos : Point → Type 0
  Pos = Position T H (Found logs numbers (Contains roots))

  -- what a found point takes at places below m has a position
  abbrev Tells : ℕ → Type 0
  Tells m = (p q : Point) (j : ℕ) → j < m → F p → H j → TakesBy T j p q → Pos q

  module _ (kind : (p : Point) → F p → Kind T H logs numbers p) (below : (j : ℕ) → H j → j < n) (carried : (q : Point) → P q → Covered T H roots n q) where
    by_cover : (m : ℕ) → Tells m → (p q : Point) (j : ℕ) → j < suc m → F p → IsTrue (goes_on (fate_of logs numbers p)) → Covered T H (takes_of logs numbers p.who) j q → Pos q
    by_cover m tells p q j lt f g (is_listed l) = found (next f (record { goes = g; taken = l }))
    by_cover m tells p q j lt f g (is_closed d) = behind q d (start refl)
    by_cover m tells p q j lt f g (through {r = r} {i = i} l less h u) =
        ⊎_elim (λ a. tells r q i (omega (arith, less, lt)) (next f (record { goes = g; taken = a })) h u) (λ d. behind r d (next (start refl) (takes h u))) l

    by_kind : (m : ℕ) → Tells m → (p q : Point) (j : ℕ) → j < suc m → F p → H j → TakesBy T j p q → Kind T H logs numbers p → Pos q
    by_kind m tells p q j lt f h t (closed_point d) = behind p d (next (start refl) (takes h t))
    by_kind m tells p q j lt f h t (fallen_point d) = cut p f d
    by_kind m tells p q j lt f h t (open_point g cover) = by_cover m tells p q j lt f g (cover j q h t)

    told : (m : ℕ) → Tells m
    told zero p q j lt f h t = absurd (omega (arith, lt))
    told (suc m) p q j lt f h t = by_kind m (told m) p q j lt f h t (kind p f)

    taken : (p q : Point) (j : ℕ) → F p → H j → TakesBy T j p q → Pos q
    taken p q j f h t = told n p q j (below j h) f h t

    begun : (q : Point) → Covered T H roots n q → Pos q
    begun q (is_listed l) = found (start l)
    begun q (is_closed d) = behind q d (start refl)
    begun q (through {r = r} {i = i} l less h u) = ⊎_elim (λ a. taken r q i (start a) h u) (λ d. behind r d (next (start refl) (takes h u))) l

    led : (p q : Point) → F p → Link T H p q → Pos q
    led p q f (takes {j = j} h t) = taken p q j f h t
    led p q f (closing {i = i} e k) = behind q (closing_is_closed T H p.who i q k) (start refl)

    onto : (p q : Point) → Link T H p q → Pos p → Pos q
    onto p q l (found f) = led p q f l
    onto p q l (behind b d r) = behind b d (next r l)
    onto p q l (cut x f d) = cut x f d

    pub position : (q : Point) → PastIn T H P q → Pos q
    position q (start s) = begun q (carried q s)
    position q (next {x = p} r l) = onto p q l (position p r)
