-- What a Checkpoint fixes.
use Rattle.std.proofs.Common.{ℕ, refl, ⊎_elim}
use Rattle.tau_points.specs.Reach.{start}
use Rattle.tau_points.specs.declared.point.Point.{Point}
use Rattle.tau_trace.specs.Run.{Run}
use Rattle.tau_trace.specs.Histories.{Closes}
use Rattle.tau_trace.specs.Points.{point_at}
use Rattle.tau_trace.specs.Known.{WellFormed}
use Rattle.tau_past.specs.Heard.{Heard}
use Rattle.tau_past.specs.Pasts.{Past, PastIn, Is, StabilizedIn}
use Rattle.tau_past.specs.Decisions.{Free}
use Rattle.tau_past.specs.Safety.{KeepsRules}
use Rattle.tau_past.specs.KnownLaws.{FixesPast}
use Rattle.tau_past.proofs.Known.{heard_closed}
use Rattle.tau_past.proofs.Safety.{nothing_at_opening, known_in_past, whole_past, safety}

pub fixes_past : (T : Run) (t c : ℕ) → WellFormed T → KeepsRules T → Closes T t c → FixesPast T t c
fixes_past T t c w rules closes = record {
  known = λ q. (known q, known_in_past T (Heard T t c) p q);
  settled = λ q past. (free q (known q past)).settled;
  kept = λ q past. safety T w rules t c q closes past;
} where
  p : Point
  p = point_at T t c

  free : Free T t c
  free = rules.checkpoint t c closes

  known : (q : Point) → Past T p q → PastIn T (Heard T t c) (Is p) q
  known = whole_past T rules (Heard T t c) (heard_closed T t c) p free

pub was_stabilized : (T : Run) (t c : ℕ) → WellFormed T → KeepsRules T → Closes T t c → StabilizedIn T (Heard T t c) (point_at T t c)
was_stabilized T t c w rules closes = ⊎_elim
    (λ s. s)
    (λ o. absurd (nothing_at_opening T (point_at T t c) c o refl))
    ((fixes_past T t c w rules closes).settled (point_at T t c) (start refl))
