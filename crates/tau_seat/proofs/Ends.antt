-- What a seat has seen that was told an end stays as it was.
use Rattle.std.proofs.Common.{◌≡◌, ⊎_elim, ℕ, Bool, true, false, IsFalse, List, [], ◌∷◌, ◌++◌, length, append-nil, length-append, Option, Some, None, arith, refl, sym, ap, ◌∙◌, subst}
use Rattle.std.specs.Prelude.{slice_get}
use Rattle.tau_tree.specs.declared.programs.Program.{Program}
use Rattle.tau_trace.specs.declared.step.Step.{Step}
use Rattle.tau_trace.specs.declared.step.Step.TheVariants.{Take, Drop, Fall, Void, Get, Set, Skip, Send, New, Stabilize, Ask, Checkpoint, Hold, Rollback, Stay, Done, Trap, Fail, Lose, Echo, Heed, Repeat}
use Rattle.tau_trace.specs.Run.{Run, len, step_at}
use Rattle.tau_script.specs.Scripts.{is_failure}
use Rattle.tau_script.proofs.Determined.{no_failure}
use Rattle.tau_eval.specs.Eff.{Eff}
use Rattle.tau_legal.specs.Turns.{TurnHas}
use Rattle.tau_legal.specs.Fits.{Fits}
use Rattle.tau_legal.specs.Traces.{IsLegal, Complete}
use Rattle.tau_legal.proofs.TraceLemmas.{legal_same}
use Rattle.tau_seat.specs.Lists.{bare, Begins}
use Rattle.tau_seat.specs.Keys.{Key, run_of, IsSound}
use Rattle.tau_seat.specs.Beginnings.{get_front, beginnings_sound}
use Rattle.tau_seat.specs.Seated.{Seated, key_at}
use Rattle.tau_seat.specs.SeatPlaces.{HasEnded}
use Rattle.tau_seat.proofs.Sums.{bare_append, length_bare}

-- after a complete run no step is legal
nothing_legal : (P : Program) (T : Run) → Complete P T → (s : Step) → ¬ IsLegal P T (len T) s
nothing_legal P T c s l = other s l.fits (no_failure P.script T s c l.allowed) where
  turn : (t : ℕ) (e : Eff) → TurnHas P T t (len T) e → ⊥
  turn t e h = c.no_turn t h.place h.message h.turn

  other : (s : Step) → Fits P T (len T) s → IsFalse (is_failure s) → ⊥
  other (Take t m) f n = c.none_in_flight m f.0.in_flight
  other (Drop t m) f n = c.none_in_flight m f.0.in_flight
  other (Fall t m) f n = c.none_in_flight m f.0.in_flight
  other (Void t m) f n = c.none_in_flight m f.0.in_flight
  other (Get t) f n = turn t _ f
  other (Set t v) f n = turn t _ f.0
  other (Skip t) f n = turn t _ f.1
  other (Send t u v) f n = turn t _ f
  other (New t b i v) f n = turn t _ f.0
  other (Stabilize t) f n = turn t _ f
  other (Ask t a) f n = turn t _ f.0
  other (Checkpoint t) f n = turn t _ f.0
  other (Hold t) f n = turn t _ f.0
  other (Rollback t) f n = turn t _ f.0
  other (Stay t) f n = turn t _ f.0
  other (Done t) f n = turn t _ f
  other (Trap t code) f n = ⊎_elim (λ h. turn t _ h) (λ h. turn t _ h.1.effect) f
  other (Fail t) f n = absurd (cc)
  other (Lose m) f n = absurd (cc)
  other (Echo t m) f n = c.none_in_flight m f.0.in_flight
  other (Heed t m) f n = c.none_in_flight m f.0.in_flight
  other (Repeat m) f n = absurd (cc)

get_behind : (xs : List Step) (y : Step) (ys : List Step) → slice_get (xs ++ y ∷ ys) (length xs) ≡ Some y
get_behind [] y ys = refl
get_behind (x ∷ xs) y ys = get_behind xs y ys

-- no step stands behind a complete beginning of a legal run
nothing_after : (k : Key) (xs ys : List Step) → IsSound k (xs ++ ys) → Complete k.program (run_of k.program xs) → ys ≡ []
nothing_after k xs [] h c = refl
nothing_after k xs (y ∷ ys) h c =
    let whole : Run = run_of k.program (xs ++ y ∷ ys) in
    let front : Run = run_of k.program xs in
    let at : step_at whole (length xs) ≡ Some y = get_behind xs y ys in
    absurd (nothing_legal k.program front c y (legal_same k.program whole front (length xs) y h.well_formed (beginnings_sound k xs (y ∷ ys) h).well_formed (record { opening = refl; steps = get_front xs (y ∷ ys) }) (h.well_formed.known (length xs) y at) (h.legal.steps (length xs) y at)))

no_items : (xs : List Step) → length xs ≡ 0 → xs ≡ []
no_items [] e = refl
no_items (x ∷ xs) e = absurd (omega (arith, e))

module _ (o n : Seated) (p : n.program ≡ o.program) (l : n.limit ≡ o.limit) (b : Begins o.seen n.seen) (sound : IsSound (key_at n) (bare n.seen)) where
  both : bare n.seen ≡ bare o.seen ++ bare b.0
  both = ap bare b.1 ∙ bare_append o.seen b.0

  there : IsSound (key_at n) (bare o.seen ++ bare b.0)
  there = subst (IsSound (key_at n)) both sound

  same_where : bare b.0 ≡ [] → bare n.seen ≡ bare o.seen
  same_where e = both ∙ ap (λ (ss : List Step). bare o.seen ++ ss) e ∙ append-nil (bare o.seen)

  none_at_limit : length o.seen ≡ o.limit → bare b.0 ≡ []
  none_at_limit full =
      let limited = there.limited in
      no_items (bare b.0) (omega (arith, limited, length-append (bare o.seen) (bare b.0), length_bare o.seen, full, l))

  pub ended_grows : (e : Option Bool) → HasEnded o e → HasEnded n e
  ended_grows None h = tt
  ended_grows (Some true) h =
      let complete : Complete n.program (run_of n.program (bare o.seen)) = subst (λ (P : Program). Complete P (run_of P (bare o.seen))) (sym p) h in
      subst (λ (ss : List Step). Complete n.program (run_of n.program ss)) (sym (same_where (nothing_after (key_at n) (bare o.seen) (bare b.0) there complete))) complete
  ended_grows (Some false) h =
      let same = same_where (none_at_limit h.1) in
      let not_yet : ¬ Complete n.program (run_of n.program (bare o.seen)) = subst (λ (P : Program). ¬ Complete P (run_of P (bare o.seen))) (sym p) h.0 in
      (subst (λ (ss : List Step). ¬ Complete n.program (run_of n.program ss)) (sym same) not_yet, omega (arith, ap length same, length_bare n.seen, length_bare o.seen, h.1, l))
