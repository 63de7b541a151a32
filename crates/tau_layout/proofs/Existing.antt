-- Lanes are those of transactors that exist, and stand at nodes that are there.
use Rattle.std.proofs.Common.{◌≡◌, ℕ, zero, suc, ◌<◌, List, [], ◌∷◌, Option, Some, None, All, length, refl, subst, arith}
use Rattle.std.specs.Prelude.{slice_get, option_and_then}
use Rattle.std.proofs.lemmas.List.Elements.{All-head, All-tail}
use Rattle.std.proofs.lemmas.Option.{slice_get_within}
use Rattle.tau_trace.specs.declared.step.Step.{Step}
use Rattle.tau_trace.specs.declared.step.Step.TheVariants.{Lose, Repeat, Send, New}
use Rattle.tau_trace.specs.Steps.{actor}
use Rattle.tau_trace.specs.Run.{Run, len, step_at, ActsAt}
use Rattle.tau_trace.specs.Numbering.{born, sent, HasSender, Receives, post, message, notice, copy, IsHome, start, created}
use Rattle.tau_trace.specs.Known.{WellFormed}
use Rattle.tau_trace.proofs.Agreement.{born-grows}
use Rattle.tau_trace.proofs.Lists.{same_some}
use Rattle.tau_trace.proofs.Quiet.{known_actor, acts_born}
use Rattle.tau_trace.proofs.Once.{origin_acts}
use Rattle.tau_svg.specs.declared.shapes.window.Window.{Window}
use Rattle.tau_layout.specs.Lanes.{StepStandsIn, HasLane}

all_at : {A : Type 0} (P : A → Type 0) (xs : List A) (k : ℕ) (x : A) → All P xs → slice_get xs k ≡ Some x → P x
all_at P [] k x h e = absurd (cc)
all_at P (y ∷ ys) zero x h e = subst P (same_some e) (All-head P y ys h)
all_at P (y ∷ ys) (suc k) x h e = all_at P ys k x (All-tail P y ys h) e

acted_by : (T : Run) (t k : ℕ) (o : Option Step) → step_at T k ≡ o → option_and_then actor o ≡ Some t → (s : Step) × (step_at T k ≡ Some s)
acted_by T t k None e a = absurd (cc)
acted_by T t k (Some s) e a = (s, e)

acting : (T : Run) (t k : ℕ) → ActsAt T t k → (s : Step) × (step_at T k ≡ Some s)
acting T t k a = acted_by T t k (step_at T k) refl a

module _ (T : Run) (w : WellFormed T) where
  -- the node of a transactor is there
  pub home_below : (t n : ℕ) → IsHome T t n → n < T.opening.nodes
  home_below t n (start e) = all_at (λ m. m < T.opening.nodes) T.opening.homes t n w.opening.homes e
  home_below t n (created {j = j} {by = by} b is) = omega (arith, is, (w.known j (New by b.behaviour b.node b.state) b.stands).2)

  -- the sender of a message exists
  sender_known : (m t : ℕ) → HasSender T m t → t < born T (len T)
  sender_known m t s =
      let acts = origin_acts T s.place t m s.origin in
      let step = acting T t s.place acts in
      omega (arith, acts_born T t s.place (w.known s.place) acts, born-grows T s.place (len T) (omega (arith, slice_get_within T.steps s.place step.0 step.1)))

  -- the receiver of a message exists
  receiver_known : (m t : ℕ) → Receives T m t → t < born T (len T)
  receiver_known m t (post e) = omega (arith, all_at (λ u. u < length T.opening.names) T.opening.targets m t w.opening.targets e)
  receiver_known m t (notice {n = n} o s) = sender_known n t s
  receiver_known m t (copy {n = n} o r) = receiver_known n t r
  receiver_known m t (message {j = j} {by = by} o is) =
      let within = slice_get_within T.steps j (Send by o.to o.value) o.stands in
      omega (arith, is, (w.known j (Send by o.to o.value) o.stands).1, born-grows T j (len T) (omega (arith, within)))

  step_known : (k t : ℕ) (s : Step) → step_at T k ≡ Some s → StepStandsIn T s t → t < born T (len T)
  step_known k t (Lose m) e h = receiver_known m t h
  step_known k t (Repeat m) e h = receiver_known m t h
  step_known k t s e h = omega (arith, known_actor T.opening (born T k) (sent T k) t s (w.known k s e) h, born-grows T k (len T) (omega (arith, slice_get_within T.steps k s e)))

  pub lane_known : (v : Window) (t : ℕ) → HasLane T v t → t < born T (len T)
  lane_known v t h = step_known h.place t h.stands.step h.stands.stands h.stands.lane
