-- The known past (docs/rules.md, "Known past").
use Rattle.std.specs.Prelude.{◌≡◌, ◌≢◌, ℕ, IsTrue, IsFalse, Option, Some, None, option_and_then, slice_get}
use Rattle.std.proofs.Common.{suc}
use Rattle.tau_history.specs.Timeline.{Timeline, numbers}
use Rattle.tau_history.specs.declared.fate.Fate.{Fate}
use Rattle.tau_history.specs.declared.fate.Fate.TheVariants.{Closed, Fallen}
use Rattle.tau_points.specs.declared.point.Point.{Point}
use Rattle.tau_points.specs.Reach.{Reach}
use Rattle.tau_view.specs.Held.{Held, Histories, Points, fate_in, is_firm, only}

-- the number of an interval in a history
abbrev pub number_in : Option Timeline → ℕ → Option ℕ
number_in None i = None
number_in (Some h) i = slice_get (numbers h) i

-- a point leads to another by an edge, or to the point of the interval before that its transactor's history has
pub data Link (v : Held) (p q : Point) : Type 0 where
  edge : IsTrue (v.edge p q) → Link v p q
  before : {i n : ℕ} → p.interval ≡ suc i → number_in (v.history p.who) i ≡ Some n → q ≡ record { who = p.who; interval = i; incarnation = n } → Link v p q

-- the least set that holds these points and is closed under links
abbrev pub KnownPast : Held → Points → Point → Type 0
KnownPast v from = Reach (Link v) (λ q. IsTrue (from q))

-- a link that leads on from a point that isn't Closed
pub record OpenLink (v : Held) (p q : Point) : Type 0 where
  pub link : Link v p q
  pub open_source : fate_in v.history p ≢ Closed

-- the part of the known past that is reached without going on from a Closed point
abbrev pub PastUpToClosed : Held → Points → Point → Type 0
PastUpToClosed v from = Reach (OpenLink v) (λ q. IsTrue (from q))

-- the point is in the known past and is Fallen
pub record FallenIn (v : Held) (from : Points) (q : Point) : Type 0 where
  pub in_past : KnownPast v from q
  pub is_fallen : fate_in v.history q ≡ Fallen

-- the point is in the known past and isn't firm
pub record NotFirmIn (v : Held) (from : Points) (q : Point) : Type 0 where
  pub in_past : KnownPast v from q
  pub not_firm : IsFalse (is_firm (fate_in v.history q))

-- some point of the known past is Fallen
abbrev pub SomeFallen : Held → Points → Type 0
SomeFallen v from = (q : Point) × FallenIn v from q

-- some point of the known past isn't firm
abbrev pub SomeNotFirm : Held → Points → Type 0
SomeNotFirm v from = (q : Point) × NotFirmIn v from q

-- each point of the known past of a Closed point is firm
abbrev pub Settled : Held → Type 0
Settled v = (p q : Point) → fate_in v.history p ≡ Closed → KnownPast v (only p) q → IsTrue (is_firm (fate_in v.history q))
