-- No turn is open, or no message in flight, of those with numbers below a bound.
use Rattle.std.proofs.Common.{◌≡◌, ◌⊎◌, ⊎_elim, ℕ, ◌+◌, ◌<◌, Bool, true, false, not, Option, Some, None, subst, arith}
use Rattle.std.specs.Option.{is_some}
use Rattle.tau_trace.specs.Run.{Run, len}
use Rattle.tau_trace.specs.Numbering.{born, sent, Removes, InFlight}
use Rattle.tau_trace.specs.Places.{IsFirst}
use Rattle.tau_trace.specs.Known.{WellFormed}
use Rattle.tau_trace.specs.Turns.{Turn, IsOpenTurn}
use Rattle.tau_rules.proofs.ActLemmasOfJobs.{taker_exists}

-- no turn of the first n transactors is open
abbrev pub NoneOpenBelow : Run → ℕ → Type 0
NoneOpenBelow T n = (t place m : ℕ) → t < n → ¬ Turn T t (len T) place m

-- none of the first n messages is in flight
abbrev pub NoneInFlightBelow : Run → ℕ → Type 0
NoneInFlightBelow T n = (m : ℕ) → m < n → ¬ InFlight T m (len T)

below_or_last : (j k : ℕ) → j < k + 1 → (j < k) ⊎ (j ≡ k)
below_or_last j k l = grind arith

-- one transactor more
pub one_more_idle : (T : Run) (n : ℕ) (r : Option ℕ) → IsOpenTurn T n (len T) r → is_some r ≡ false → NoneOpenBelow T n → NoneOpenBelow T (n + 1)
one_more_idle T n None idle some below t place m lt u = ⊎_elim
    (λ b. below t place m b u)
    (λ (e : t ≡ n). idle place m (subst (λ x. Turn T x (len T) place m) e u))
    (below_or_last t n lt)
one_more_idle T n (Some p) h some below t place m lt u = absurd (cc)

-- each open turn is of a transactor that exists
pub all_idle : (T : Run) → WellFormed T → NoneOpenBelow T (born T (len T)) → (t place m : ℕ) → ¬ Turn T t (len T) place m
all_idle T w below t place m u = below t place m (taker_exists T w t place (m, u.takes)) u

-- one message more
pub one_more_gone : (T : Run) (n : ℕ) (r : Option ℕ) (b : Bool) → IsFirst (Removes T n) (len T) r → is_some r ≡ not b → b ≡ false → NoneInFlightBelow T n → NoneInFlightBelow T (n + 1)
one_more_gone T n None b first says is below m lt f = absurd (cc)
one_more_gone T n (Some place) b first says is below m lt f = ⊎_elim
    (λ l. below m l f)
    (λ (e : m ≡ n). (subst (λ x. InFlight T x (len T)) e f).not_removed place first.0 first.1)
    (below_or_last m n lt)

-- a message in flight
pub some_in_flight : (T : Run) (n : ℕ) (r : Option ℕ) (b : Bool) → n < sent T (len T) → IsFirst (Removes T n) (len T) r → is_some r ≡ not b → b ≡ true → ¬ ((m : ℕ) → ¬ InFlight T m (len T))
some_in_flight T n None b lt first says is all = all n (record { exists = lt; not_removed = first })
some_in_flight T n (Some place) b lt first says is all = absurd (cc)

-- each message in flight exists
pub all_gone : (T : Run) → NoneInFlightBelow T (sent T (len T)) → (m : ℕ) → ¬ InFlight T m (len T)
all_gone T below m f = below m f.exists f

-- no turn of a transactor is open, or one is
pub not_in_turn : (T : Run) (who : ℕ) (r : Option ℕ) (b : Bool) → IsOpenTurn T who (len T) r → is_some r ≡ not b → b ≡ true → IsOpenTurn T who (len T) None
not_in_turn T who None b h says is = h
not_in_turn T who (Some p) b h says is = absurd (cc)

pub in_turn : (T : Run) (who : ℕ) (r : Option ℕ) (b : Bool) → IsOpenTurn T who (len T) r → is_some r ≡ not b → b ≡ false → (place : ℕ) × (m : ℕ) × Turn T who (len T) place m
in_turn T who None b h says is = absurd (cc)
in_turn T who (Some p) b h says is = (p, h.0, h.1)
