-- What holds of a message that is delivered, and of the turn that it opens.
use Rattle.std.proofs.Common.{◌≡◌, ℕ, zero, suc, ◌<◌, true, false, not, Option, Some, None, List, [], ◌∷◌, length, refl, sym, ap, ◌∙◌, subst, arith}
use Rattle.std.specs.Prelude.{◌↔◌, ◌≢◌, slice_get, slice_index_or, map, is_some, Bool, IsTrue}
use Rattle.tau_trace.proofs.Once.{origin_is_one}
use Rattle.tau_value.specs.Val.{Val}
use Rattle.tau_tree.specs.Behaviour.{NamedCode}
use Rattle.tau_tree.specs.declared.programs.Program.{Program}
use Rattle.tau_tree.specs.Sound.{Sound}
use Rattle.tau_trace.specs.declared.step.Step.TheVariants.{Take, New, Void, Echo, Heed}
use Rattle.tau_trace.specs.Run.{Run, len, appended}
use Rattle.tau_trace.specs.Places.{IsFirst}
use Rattle.tau_trace.specs.Numbering.{born, sent, Receives, Removes, HasSender, IsSender, IsNotice}
use Rattle.tau_trace.specs.Histories.{EndsAt, IsLiving}
use Rattle.tau_trace.specs.Turns.{Turn, IsOpenTurn}
use Rattle.tau_trace.specs.Known.{WellFormed, MayFollow}
use Rattle.tau_trace.proofs.Agreement.{agree_appended, step_at-appended}
use Rattle.tau_trace.proofs.Indexing.{len-appended}
use Rattle.tau_past.proofs.PendingLemmas.{turns_after_step}
use Rattle.tau_script.specs.Openings.{program_opening}
use Rattle.tau_states.specs.Opening.{opening_states}
use Rattle.tau_eval.specs.Turn.{IsTurnOf}
use Rattle.tau_eval.specs.Turn as jobs
use Rattle.tau_legal.specs.Turns.{HasBehaviour, start, created, HasBody, HasValue, RepliesOf, before}
use Rattle.tau_legal.specs.Fits.{Arrives, ArrivesLate, Echoes}
use Rattle.tau_legal.specs.Traces.{Fitting}
use Rattle.tau_legal.proofs.VersionLemmas.{notice_version}
use Rattle.tau_legal.proofs.ValueLemmas.{at_all}
use Rattle.tau_legal.proofs.TurnLemmas.{receiver_known}
use Rattle.tau_legal.proofs.LocalLemmas.{body-same, value-same}
use Rattle.tau_rules.specs.System.{Core, with_step}
use Rattle.tau_rules.specs.Answers.{IsOpenJob, IsBegun}
use Rattle.tau_rules.proofs.OpeningLemmas.{length-map}

-- a message in flight to a living, idle receiver arrives
pub arrives : (T : Run) (t m : ℕ) (end : Option ℕ) → m < sent T (len T) → IsFirst (Removes T m) (len T) None → Receives T m t → false ≡ is_some end → IsFirst (EndsAt T t) (len T) end → IsOpenTurn T t (len T) None → Arrives T t m (len T)
arrives T t m None lt stays receives none living idle = record { in_flight = record { exists = lt; not_removed = stays }; receiver = receives; living = living; idle = idle }
arrives T t m (Some place) lt stays receives none living idle = absurd (cc)

-- and to one that has ended it arrives late
pub arrives_late : (T : Run) (t m : ℕ) (end : Option ℕ) → m < sent T (len T) → IsFirst (Removes T m) (len T) None → Receives T m t → true ≡ is_some end → IsFirst (EndsAt T t) (len T) end → ArrivesLate T t m (len T)
arrives_late T t m None lt stays receives some ends = absurd (cc)
arrives_late T t m (Some place) lt stays receives some ends = record { in_flight = record { exists = lt; not_removed = stays }; receiver = receives; ended = record { place = place; before = ends.0; ends = ends.1 } }

-- the receiver of a message that exists, exists
pub receiver_exists : (T : Run) → WellFormed T → (m t : ℕ) → m < sent T (len T) → Receives T m t → t < born T (len T)
receiver_exists T w m t lt r = receiver_known T w m t (len T) lt r

-- a message that exists and its receiver are known
pub known_pair : (T : Run) → WellFormed T → (m t : ℕ) → m < sent T (len T) → Receives T m t → (t < born T (len T)) × (m < sent T (len T))
known_pair T w m t lt receives = (receiver_exists T w m t lt receives, lt)

-- a Void, an Echo and a Heed may follow
module _ (P : Program) (T : Run) (w : WellFormed T) (f : Fitting P T) (few : len T < 1000000) (t m : ℕ) where
  pub void_follows : ArrivesLate T t m (len T) → MayFollow T (Void t m)
  void_follows late = record { known = known_pair T w m t late.in_flight.exists late.receiver; version = tt; few_steps = few }

  pub echo_follows : ArrivesLate T t m (len T) → Echoes P T m (len T) → MayFollow T (Echo t m)
  echo_follows late e = record { known = known_pair T w m t late.in_flight.exists late.receiver; version = ap (λ o. o.version) f.opening ∙ e.version; few_steps = few }

  pub heed_follows : Arrives T t m (len T) → IsNotice T m → MayFollow T (Heed t m)
  heed_follows arrives n = record { known = known_pair T w m t arrives.in_flight.exists arrives.receiver; version = notice_version T m w n; few_steps = few }

-- whether a receipt makes a notice, by the sender and its end
pub not_by_version : (P : Program) (T : Run) (m k : ℕ) (b : Bool) → b ≡ false → P.version ≢ 2 → IsTrue b ↔ Echoes P T m k
not_by_version P T m k b is other = (λ h. let clash : false ≡ true = sym is ∙ h in absurd (cc), λ e. absurd (other e.version))

pub not_by_notice : (P : Program) (T : Run) (m k : ℕ) (b : Bool) → b ≡ false → IsNotice T m → IsTrue b ↔ Echoes P T m k
not_by_notice P T m k b is n = (λ h. let clash : false ≡ true = sym is ∙ h in absurd (cc), λ e. absurd (e.not_notice n))

pub not_by_sender : (P : Program) (T : Run) (m k : ℕ) (b : Bool) → b ≡ false → IsSender T m None → IsTrue b ↔ Echoes P T m k
not_by_sender P T m k b is none = (λ h. let clash : false ≡ true = sym is ∙ h in absurd (cc), λ e. absurd (none e.sender e.has))

pub by_sender : (P : Program) (T : Run) (m u : ℕ) (end : Option ℕ) (b : Bool) → P.version ≡ 2 → ¬ IsNotice T m → HasSender T m u → IsFirst (EndsAt T u) (len T) end → is_some end ≡ not b → IsTrue b ↔ Echoes P T m (len T)
by_sender P T m u None true two plain has none is = (λ h. record { version = two; not_notice = plain; sender = u; has = has; living = none }, λ e. refl)
by_sender P T m u None false two plain has none is = absurd (cc)
by_sender P T m u (Some place) true two plain has ends is = absurd (cc)
by_sender P T m u (Some place) false two plain has ends is = (λ h. absurd (cc), λ e. absurd (not_living e)) where
  not_living : Echoes P T m (len T) → ⊥
  not_living e =
      let same : e.sender ≡ u = (origin_is_one T e.has.place has.place e.sender u m e.has.origin has.origin).1 in
      let living : IsLiving T u (len T) = subst (λ x. IsLiving T x (len T)) same e.living in
      living place ends.0 ends.1

-- the behaviour of a transactor exists
pub behaviour_exists : (P : Program) (T : Run) → Sound P → WellFormed T → T.opening ≡ program_opening P → (t b : ℕ) → HasBehaviour P T t b → b < length P.behaviours
behaviour_exists P T sound w opens t b (start {s = s} e is) = omega (arith, is, at_all (λ x. x.behaviour < length P.behaviours) P.starts t s sound.start_behaviours e)
behaviour_exists P T sound w opens t b (created {j = j} {by = by} n is) =
    let known = (w.known j (New by n.behaviour n.node n.state) n.stands).1 in
    omega (arith, known, is, ap (λ o. length o.behaviours) opens, length-map (λ x. x.name) P.behaviours)

-- what is read by an index that is within a list stands there
pub index_get : {A : Type 0} (xs : List A) (k : ℕ) (x : A) → k < length xs → x ≡ slice_index_or xs k x → slice_get xs k ≡ Some x
index_get [] k x lt e = absurd (omega arith)
index_get (y ∷ ys) zero x lt e = ap Some (sym e)
index_get (y ∷ ys) (suc k) x lt e = index_get ys k x (omega arith) e

-- what stands in a list of images is the image of what stands there
image_of : {A B : Type 0} (f : A → B) (xs : List A) (k : ℕ) (y : B) → slice_get (map f xs) k ≡ Some y → (x : A) × (slice_get xs k ≡ Some x) × (f x ≡ y)
image_of f [] k y e = absurd (cc)
image_of f (x ∷ xs) zero y e = let same : f x ≡ y = cc in (x, refl, same)
image_of f (x ∷ xs) (suc k) y e = image_of f xs k y e

module _ (P : Program) (T : Run) (t b m : ℕ) (v : Val) (job : jobs.TurnSoFar) where
  -- what the transactor evaluates
  body_of : HasBehaviour P T t b → IsTurnOf P t b (len T) v [] job → HasBody P T t job.body
  body_of h is =
      let behaviour = image_of (λ (x : NamedCode). x.body) P.behaviours b job.body is.body in
      record { number = b; behaviour = behaviour.0; has = h; stands = behaviour.1; is = behaviour.2 }

  -- the turn that the Take opens
  turn_of : IsTurnOf P t b (len T) v [] job → Turn (appended T (Take t m)) job.who (len (appended T (Take t m))) job.place m
  turn_of is =
      let turn : Turn (appended T (Take t m)) t (suc (len T)) (len T) m = ((turns_after_step (appended T (Take t m)) t (len T)).take m (step_at-appended T (Take t m)) (len T) m).1 (refl, refl) in
      let later : Turn (appended T (Take t m)) t (len (appended T (Take t m))) (len T) m = subst (λ k. Turn (appended T (Take t m)) t k (len T) m) (sym (len-appended T (Take t m))) turn in
      subst (λ u. Turn (appended T (Take t m)) u (len (appended T (Take t m))) job.place m) (sym is.who)
      (subst (λ k. Turn (appended T (Take t m)) t (len (appended T (Take t m))) k m) (sym is.place) later)

  -- no replies yet
  replies_of : IsTurnOf P t b (len T) v [] job → RepliesOf (appended T (Take t m)) (opening_states P.starts) job.who (suc job.place) (len (appended T (Take t m))) job.replies
  replies_of is = subst (λ rs. RepliesOf (appended T (Take t m)) (opening_states P.starts) job.who (suc job.place) (len (appended T (Take t m))) rs) (sym is.replies) (before (omega (arith, is.place, len-appended T (Take t m))))

  pub opened_job : t < born T (len T) → m < sent T (len T) → HasBehaviour P T t b → HasValue P T m v → IsTurnOf P t b (len T) v [] job → IsOpenJob P (appended T (Take t m)) job
  opened_job exists there behaviour value is = record {
    message = m;
    turn = turn_of is;
    body = subst (λ u. HasBody P (appended T (Take t m)) u job.body) (sym is.who) (body-same P t (len T) job.body (agree_appended T (Take t m)) exists (body_of behaviour is));
    nodes = is.nodes;
    value = subst (λ x. HasValue P (appended T (Take t m)) m x) (sym is.message) (value-same P m (len T) v (agree_appended T (Take t m)) there value);
    replies = replies_of is;
  }

-- the turn of the Take begins
pub has_begun : (old new : Core) (t b m : ℕ) (v : Val) (job : jobs.TurnSoFar) → t < born old.run (len old.run) → m < sent old.run (len old.run) → HasBehaviour old.program old.run t b → HasValue old.program old.run m v
    → IsTurnOf old.program t b (len old.run) v [] job → new ≡ with_step old (Take t m) → IsBegun old new m job
has_begun old new t b m v job exists there behaviour value is made = record {
  appended = made ∙ ap (λ u. with_step old (Take u m)) (sym is.who);
  place = is.place;
  opened = subst (λ (k : Core). IsOpenJob k.program k.run job) (sym made) (opened_job old.program old.run t b m v job exists there behaviour value is);
}
