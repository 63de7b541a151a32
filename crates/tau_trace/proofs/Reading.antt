-- What the readers of a trace find in its records.
use Rattle.std.proofs.Common.{◌≡◌, ℕ, zero, suc, ◌<◌, ◌≤◌, List, [], ◌∷◌, length, Option, Some, None, refl, subst, arith}
use Rattle.std.specs.Prelude.{slice_get}
use Rattle.std.proofs.lemmas.Option.{slice_get_within}
use Rattle.tau_trace.specs.declared.transactor.Transactor.{Transactor}
use Rattle.tau_trace.specs.declared.message.Message.{Message}
use Rattle.tau_trace.specs.Run.{Run, len}
use Rattle.tau_trace.specs.Places.{IsFirst}
use Rattle.tau_trace.specs.Numbering.{born, sent, IsOrigin, HasSender, IsPlaceOf, IsSender, IsReceiver, IsHome, Removes}
use Rattle.tau_trace.specs.Histories.{EndsAt}
use Rattle.tau_trace.specs.Turns.{IsOpenTurn}
use Rattle.tau_trace.specs.Tracking.{Tracks}
use Rattle.tau_trace.specs.Living.{Tracked, Lives, IsLeastLiving}
use Rattle.tau_trace.specs.Nodes.{LivesAt, IsNextLiving}
use Rattle.tau_trace.specs.Stored.{IsIndexed, TracksMessage}
use Rattle.tau_trace.proofs.Quiet.{quiet_turn, quiet_end, unborn_quiet, unsent_kept}
use Rattle.tau_trace.proofs.Once.{home_once, origin_is_one, origin_exists, received_exists}

pub past_end : {A : Type 0} (xs : List A) (i : ℕ) → slice_get xs i ≡ None → length xs ≤ i
past_end [] i e = omega arith
past_end (x ∷ xs) zero e = absurd (cc)
past_end (x ∷ xs) (suc i) e = omega (arith, past_end xs i e)

pub element : {A : Type 0} (xs : List A) (i : ℕ) → i < length xs → (x : A) × (slice_get xs i ≡ Some x)
element [] i l = absurd (omega arith)
element (x ∷ xs) zero l = (x, refl)
element (x ∷ xs) (suc i) l = element xs i (omega arith)

module _ (T : Run) (made : List ℕ) (tracked : Tracked) (records : List Message) (x : IsIndexed T made tracked records) where
  pub tracks : (t : ℕ) (r : Transactor) → slice_get tracked.transactors t ≡ Some r → Tracks T (len T) t r
  tracks = x.transactors.each

  pub exists : (t : ℕ) (r : Transactor) → slice_get tracked.transactors t ≡ Some r → t < born T (len T)
  exists t r e = omega (arith, slice_get_within tracked.transactors t r e, x.transactors.count)

  pub absent : (t : ℕ) → slice_get tracked.transactors t ≡ None → born T (len T) ≤ t
  absent t e = omega (arith, past_end tracked.transactors t e, x.transactors.count)

  pub no_turn : (t : ℕ) → slice_get tracked.transactors t ≡ None → IsOpenTurn T t (len T) None
  no_turn t e = quiet_turn T t (len T) (unborn_quiet T t (len T) x.well_formed.known (absent t e))

  pub no_end : (t : ℕ) → slice_get tracked.transactors t ≡ None → IsFirst (EndsAt T t) (len T) None
  no_end t e = quiet_end T t (len T) (unborn_quiet T t (len T) x.well_formed.known (absent t e))

  pub tracks_message : (m : ℕ) (r : Message) → slice_get records m ≡ Some r → TracksMessage T (len T) m r
  tracks_message = x.messages.each

  pub message_absent : (m : ℕ) → slice_get records m ≡ None → sent T (len T) ≤ m
  message_absent m e = omega (arith, past_end records m e, x.messages.count)

  pub not_removed : (m : ℕ) → slice_get records m ≡ None → IsFirst (Removes T m) (len T) None
  not_removed m e = unsent_kept T m (len T) x.well_formed.known (message_absent m e)

  pub no_receiver : (m : ℕ) → slice_get records m ≡ None → IsReceiver T m None
  no_receiver m e = λ u r. omega (arith, message_absent m e, received_exists T m u r)

  pub no_origin : (m : ℕ) → slice_get records m ≡ None → IsPlaceOf T m None
  no_origin m e = λ j by o. omega (arith, message_absent m e, origin_exists T j by m o)

  -- who lives by the records lives by the steps
  lives_at : (n t : ℕ) → Lives tracked.transactors n t → LivesAt T n t (len T)
  lives_at n t v =
      let h = tracks t v.transactor v.stands in
      record {
        exists = exists t v.transactor v.stands;
        home = subst (IsHome T t) v.home_is h.home;
        living = subst (IsFirst (EndsAt T t) (len T)) v.end_is h.end;
      }

  not_some : (t : ℕ) (o : Option ℕ) → ((j : ℕ) → j < len T → ¬ EndsAt T t j) → IsFirst (EndsAt T t) (len T) o → o ≡ None
  not_some t None living f = refl
  not_some t (Some k) living f = absurd (living k f.0 f.1)

  lives : (n t : ℕ) → LivesAt T n t (len T) → Lives tracked.transactors n t
  lives n t v =
      let r = element tracked.transactors t (omega (arith, v.exists, x.transactors.count)) in
      let h = tracks t r.0 r.1 in
      record {
        transactor = r.0;
        stands = r.1;
        home_is = home_once T t r.0.home n x.well_formed.opening h.home v.home;
        end_is = not_some t r.0.end v.living h.end;
      }

  pub next_living : (n from : ℕ) (o : Option ℕ) → IsLeastLiving tracked.transactors n from o → IsNextLiving T n (len T) from o
  next_living n from None f = λ t v. f t (lives n t v)
  next_living n from (Some r) f = (f.0, lives_at n r f.1, λ t v l. f.2 t (lives n t v) l)
