-- A revived program lets the same steps fit, and the same steps of the run be legal.
use Rattle.std.proofs.Common.{◌≡◌, inl, inr, ◌↔◌, ℕ, ◌<◌, List, Option, Some, None, refl, sym, subst, arith}
use Rattle.std.proofs.lemmas.Option.{slice_get_within}
use Rattle.tau_value.specs.Val.{Val}
use Rattle.tau_tree.specs.declared.entries.Entry.{Entry}
use Rattle.tau_tree.specs.declared.programs.Program.{Program}
use Rattle.tau_tree.specs.Code.{Code}
use Rattle.tau_tree.specs.Sound.{Sound}
use Rattle.tau_trace.specs.declared.step.Step.{Step}
use Rattle.tau_trace.specs.declared.step.Step.TheVariants.{Take, Drop, Fall, Void, Get, Set, Skip, Send, New, Stabilize, Ask, Checkpoint, Hold, Rollback, Stay, Done, Trap, Fail, Lose, Echo, Heed, Repeat}
use Rattle.tau_trace.specs.Run.{Run, Agree, len}
use Rattle.tau_trace.proofs.Agreement.{agree_below}
use Rattle.tau_script.specs.Openings.{program_opening}
use Rattle.tau_script.specs.Scripts.{IsDue, Allows}
use Rattle.tau_script.specs.Laws.{ScriptsAreLocal}
use Rattle.tau_eval.specs.Eff.{Eff}
use Rattle.tau_legal.specs.Turns.{HasBehaviour, start, created, HasBody, HasValue, post, message, notice, copy, TurnHas}
use Rattle.tau_legal.specs.Fits.{Fits, Echoes, LacksNumber}
use Rattle.tau_legal.specs.Traces.{IsLegal, Legal}
use Rattle.tau_revival.specs.Revival.{IsRevival, revived}
use Rattle.tau_revival.specs.Laws.{RevivalKeepsDue}

-- the script is read by no turn
module _ (P : Program) (S : List Entry) (T : Run) where
  behaviour_other : (t b : ℕ) → HasBehaviour P T t b → HasBehaviour (record P { script = S }) T t b
  behaviour_other t b (start stands is) = start stands is
  behaviour_other t b (created birth is) = created birth is

  value_other : (m : ℕ) (v : Val) → HasValue P T m v → HasValue (record P { script = S }) T m v
  value_other m v (post stands is) = post stands is
  value_other m v (message origin is) = message origin is
  value_other m v (notice echoed is) = notice echoed is
  value_other m v (copy repeated is) = copy repeated (value_other _ v is)

  body_other : (t : ℕ) (body : Code) → HasBody P T t body → HasBody (record P { script = S }) T t body
  body_other t body h = record { number = h.number; behaviour = h.behaviour; has = behaviour_other t h.number h.has; stands = h.stands; is = h.is }

  turn_other : (t k : ℕ) (e : Eff) → TurnHas P T t k e → TurnHas (record P { script = S }) T t k e
  turn_other t k e h = record {
    place = h.place;
    message = h.message;
    body = h.body;
    value = h.value;
    replies = h.replies;
    turn = h.turn;
    body_is = body_other t h.body h.body_is;
    value_is = value_other h.message h.value h.value_is;
    replies_are = h.replies_are;
    effect_is = h.effect_is;
  }

  lacks_other : (t k : ℕ) → LacksNumber P T t k → LacksNumber (record P { script = S }) T t k
  lacks_other t k h = record { behaviour = h.behaviour; node = h.node; state = h.state; effect = turn_other t k _ h.effect; full = h.full }

  echoes_other : (m k : ℕ) → Echoes P T m k → Echoes (record P { script = S }) T m k
  echoes_other m k h = record { version = h.version; not_notice = h.not_notice; sender = h.sender; has = h.has; living = h.living }

  echoes_back : (m k : ℕ) → Echoes (record P { script = S }) T m k → Echoes P T m k
  echoes_back m k h = record { version = h.version; not_notice = h.not_notice; sender = h.sender; has = h.has; living = h.living }

  pub fits_other : (k : ℕ) (s : Step) → Fits P T k s → Fits (record P { script = S }) T k s
  fits_other k (Take t m) h = h
  fits_other k (Drop t m) h = h
  fits_other k (Fall t m) h = h
  fits_other k (Void t m) h = (h.0, λ e. h.1 (echoes_back m k e))
  fits_other k (Get t) h = turn_other t k _ h
  fits_other k (Set t v) h = (turn_other t k _ h.0, h.1)
  fits_other k (Skip t) h = (h.0, turn_other t k _ h.1, h.2)
  fits_other k (Send t u v) h = turn_other t k _ h
  fits_other k (New t b n v) h = (turn_other t k _ h.0, h.1)
  fits_other k (Stabilize t) h = turn_other t k _ h
  fits_other k (Ask t answer) h = (turn_other t k _ h.0, h.1)
  fits_other k (Checkpoint t) h = (turn_other t k _ h.0, h.1)
  fits_other k (Hold t) h = (turn_other t k _ h.0, h.1)
  fits_other k (Rollback t) h = (turn_other t k _ h.0, h.1)
  fits_other k (Stay t) h = (turn_other t k _ h.0, h.1)
  fits_other k (Done t) h = turn_other t k _ h
  fits_other k (Trap t code) (inl h) = inl (turn_other t k _ h)
  fits_other k (Trap t code) (inr h) = inr (h.0, lacks_other t k h.1)
  fits_other k (Fail t) h = h
  fits_other k (Lose m) h = h
  fits_other k (Echo t m) h = (h.0, echoes_other m k h.1)
  fits_other k (Heed t m) h = h
  fits_other k (Repeat m) h = h

allows_same : (S R : List Entry) (T : Run) (k : ℕ) (s : Step) → ((r : Option Step) → IsDue S T k r → IsDue R T k r) → Allows S T k s → Allows R T k s
allows_same S R T k s same (inl due) = inl (same (Some s) due)
allows_same S R T k s same (inr none) = inr (same None none.0, none.1)

-- what is due in a run that agrees with the one that was revived
module _ (law : RevivalKeepsDue) (local : ScriptsAreLocal) (P Q : Program) (T U : Run) (sound : Sound P) (is : IsRevival P T Q) (agree : Agree T U (len T)) where
  there : (k : ℕ) → k < len T → (r : Option Step) → IsDue P.script U k r ↔ IsDue (revived P.script P.nodes (len T) is.cursor.entry) U k r
  there k lt r =
      let below : Agree T U k = agree_below k (omega (arith, lt)) agree in
      let old = (local P.script T U k below).step r in
      let new = (local (revived P.script P.nodes (len T) is.cursor.entry) T U k below).step r in
      let same = (law P.script T P.nodes is.cursor sound.some_nodes is.stands).due k r lt in
      (λ due. new.0 (same.0 (old.1 due)), λ due. old.0 (same.1 (new.1 due)))

  -- for the revived program, and back
  pub legal_there : (k : ℕ) (s : Step) → k < len T → IsLegal P U k s → IsLegal Q U k s
  legal_there k s lt l =
      subst (λ (X : Program). IsLegal X U k s) (sym is.is) (record {
        fits = fits_other P (revived P.script P.nodes (len T) is.cursor.entry) U k s l.fits;
        allowed = allows_same P.script (revived P.script P.nodes (len T) is.cursor.entry) U k s (λ r. (there k lt r).0) l.allowed;
      })

  pub legal_back : (k : ℕ) (s : Step) → k < len T → IsLegal Q U k s → IsLegal P U k s
  legal_back k s lt l =
      let there_is : IsLegal (record P { script = revived P.script P.nodes (len T) is.cursor.entry }) U k s = subst (λ (X : Program). IsLegal X U k s) is.is l in
      record {
        fits = fits_other (record P { script = revived P.script P.nodes (len T) is.cursor.entry }) P.script U k s there_is.fits;
        allowed = allows_same (revived P.script P.nodes (len T) is.cursor.entry) P.script U k s (λ r. (there k lt r).1) there_is.allowed;
      }

-- the run itself
module _ (law : RevivalKeepsDue) (local : ScriptsAreLocal) (P Q : Program) (T : Run) (sound : Sound P) (is : IsRevival P T Q) where
  itself : Agree T T (len T)
  itself = record { opening = refl; steps = λ j l. refl }

  pub legal_in : Legal P T → Legal Q T
  legal_in l = record {
    opening = subst (λ (X : Program). T.opening ≡ program_opening X) (sym is.is) l.opening;
    steps = λ k s stands. legal_there law local P Q T T sound is itself k s (slice_get_within T.steps k s stands) (l.steps k s stands);
  }

  pub legal_out : Legal Q T → Legal P T
  legal_out l = record {
    opening = subst (λ (X : Program). T.opening ≡ program_opening X) is.is l.opening;
    steps = λ k s stands. legal_back law local P Q T T sound is itself k s (slice_get_within T.steps k s stands) (l.steps k s stands);
  }
