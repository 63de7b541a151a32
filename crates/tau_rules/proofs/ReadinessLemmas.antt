-- A step that fits at the end of a run is one that its views can follow.
use Rattle.std.proofs.Common.{◌≡◌, ⊎_elim, ℕ, ◌<◌, IsTrue, Some, refl, subst}
use Rattle.tau_points.specs.Reach.{start}
use Rattle.tau_tree.specs.declared.programs.Program.{Program}
use Rattle.tau_trace.specs.declared.step.Step.{Step}
use Rattle.tau_trace.specs.declared.step.Step.TheVariants.{Take, Drop, Fall, Heed, Repeat, Get, Set, Skip, Stabilize, Ask, Checkpoint}
use Rattle.tau_trace.specs.Steps.{actor}
use Rattle.tau_trace.specs.Run.{Run, len}
use Rattle.tau_trace.specs.Numbering.{born, InFlight}
use Rattle.tau_trace.specs.Histories.{history}
use Rattle.tau_trace.specs.Points.{point_at}
use Rattle.tau_trace.specs.Known.{WellFormed, MayFollow, IsKnownAt}
use Rattle.tau_trace.proofs.Lists.{same_some}
use Rattle.tau_trace.proofs.PointLemmas.{stable_at}
use Rattle.tau_trace.specs.Turns.{HasOpenTurn}
use Rattle.tau_past.specs.Carried.{touches}
use Rattle.tau_past.specs.Heard.{heard_by, Heard}
use Rattle.tau_past.specs.Pasts.{StabilizedIn}
use Rattle.tau_past.specs.Decisions.{Free}
use Rattle.tau_past.proofs.Known.{heard_before}
use Rattle.tau_past.proofs.Safety.{nothing_at_opening}
use Rattle.tau_eval.specs.Eff.{Eff}
use Rattle.tau_legal.specs.Turns.{TurnHas}
use Rattle.tau_legal.specs.Fits.{Fits}
use Rattle.tau_knowledge.specs.Knowing.{IsReady}

-- where a turn has an effect, a turn is open
open_turn : (P : Program) (T : Run) (t u k : ℕ) (e : Eff) → t ≡ u → TurnHas P T t k e → HasOpenTurn T u k
open_turn P T t u k e same h = subst (λ x. HasOpenTurn T x k) same (h.place, (h.message, h.turn))

-- a step that touches is made in an open turn
touching : (P : Program) (T : Run) (k u : ℕ) (s : Step) → Fits P T k s → actor s ≡ Some u → IsTrue (touches s) → HasOpenTurn T u k
touching P T k u (Get t) f by h = open_turn P T t u k _ (same_some by) f
touching P T k u (Set t v) f by h = open_turn P T t u k _ (same_some by) f.0
touching P T k u (Skip t) f by h = open_turn P T t u k _ (same_some by) f.1
touching P T k u (Stabilize t) f by h = open_turn P T t u k _ (same_some by) f
touching P T k u (Ask t a) f by h = open_turn P T t u k _ (same_some by) f.0
touching P T k u s f by h = absurd (cc)

-- a free transactor is stable: its own point, which is known firm, is no opening point
pub free_stable : (T : Run) (t k : ℕ) → WellFormed T → t < born T k → Free T t k → IsTrue (history T t k).stable
free_stable T t k w lt free = ⊎_elim stabilized (λ o. absurd (nothing_at_opening T (point_at T t k) k o refl)) (free (point_at T t k) (start refl)).settled where
  stabilized : StabilizedIn T (Heard T t k) (point_at T t k) → IsTrue (history T t k).stable
  stabilized z = (stable_at T t k).1 (record { place = z.place; before = heard_before T t k z.place w lt z.held; holds = z.stabilizes; at_point = z.at_point })

-- a Checkpoint closes a stable history
closing : (P : Program) (T : Run) (k : ℕ) (s : Step) → WellFormed T → IsKnownAt T k s → Fits P T k s → (t : ℕ) → s ≡ Checkpoint t → IsTrue (history T t k).stable
closing P T k s w known fits t is =
    let exists : t < born T k = subst (IsKnownAt T k) is known in
    let checkpoint : Fits P T k (Checkpoint t) = subst (Fits P T k) is fits in
    free_stable T t k w exists checkpoint.1

-- a step hears only of a message in flight
hearing : (P : Program) (T : Run) (k m : ℕ) (s : Step) → Fits P T k s → heard_by s ≡ Some m → InFlight T m k
hearing P T k m (Take t n) f e = subst (λ x. InFlight T x k) (same_some e) f.0.in_flight
hearing P T k m (Drop t n) f e = subst (λ x. InFlight T x k) (same_some e) f.0.in_flight
hearing P T k m (Fall t n) f e = subst (λ x. InFlight T x k) (same_some e) f.0.in_flight
hearing P T k m (Heed t n) f e = subst (λ x. InFlight T x k) (same_some e) f.0.in_flight
hearing P T k m s f e = absurd (cc)

pub is_ready : (P : Program) (T : Run) (s : Step) → WellFormed T → MayFollow T s → Fits P T (len T) s → IsReady T s
is_ready P T s w may fits = record {
  touching = λ t by h. touching P T (len T) t s fits by h;
  closing = closing P T (len T) s w may.known fits;
  hearing = λ m e. hearing P T (len T) m s fits e;
  repeating = λ m e. let repeat : Fits P T (len T) (Repeat m) = subst (Fits P T (len T)) e fits in repeat.0;
}
