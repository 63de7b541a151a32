-- Each beginning of the steps of a legal run is that of one.
use Rattle.std.proofs.Common.{◌≡◌, ℕ, zero, suc, ◌<◌, ◌≤◌, List, [], ◌∷◌, ◌++◌, length, Some, refl, sym, ◌∙◌, arith, length-append}
use Rattle.std.specs.Prelude.{slice_get}
use Rattle.tau_trace.specs.declared.step.Step.{Step}
use Rattle.tau_trace.specs.Run.{Run, Agree, step_at, len}
use Rattle.tau_trace.specs.Numbering.{born, sent}
use Rattle.tau_trace.specs.Known.{WellFormed, IsKnownAt}
use Rattle.tau_trace.proofs.Agreement.{agree_below, born-same, sent-same}
use Rattle.tau_trace.proofs.Indexing.{known_same}
use Rattle.tau_legal.specs.Traces.{IsLegal}
use Rattle.tau_legal.proofs.TraceLemmas.{below_length, legal_same}
use Rattle.tau_seat.specs.Keys.{Key, run_of, IsSound}

pub get_front : (xs ys : List Step) (j : ℕ) → j < length xs → slice_get (xs ++ ys) j ≡ slice_get xs j
get_front [] ys j lt = absurd (omega (arith, lt))
get_front (x ∷ xs) ys zero lt = refl
get_front (x ∷ xs) ys (suc j) lt = get_front xs ys j (omega (arith, lt))

module _ (k : Key) (xs ys : List Step) (h : IsSound k (xs ++ ys)) where
  abbrev whole : Run
  whole = run_of k.program (xs ++ ys)

  abbrev front : Run
  front = run_of k.program xs

  agree : Agree whole front (length xs)
  agree = record { opening = refl; steps = get_front xs ys }

  agree_at : (j : ℕ) (s : Step) → step_at front j ≡ Some s → Agree whole front j
  agree_at j s e = let lt = below_length xs j s e in agree_below j (omega (arith, lt)) agree

  there : (j : ℕ) (s : Step) → step_at front j ≡ Some s → step_at whole j ≡ Some s
  there j s e = get_front xs ys j (below_length xs j s e) ∙ e

  known : (j : ℕ) (s : Step) → step_at front j ≡ Some s → IsKnownAt front j s
  known j s e =
      let a = agree_at j s e in
      known_same whole.opening (born whole j) (born front j) (sent whole j) (sent front j) s (born-same j a) (sent-same j a) (h.well_formed.known j s (there j s e))

  shorter : length xs ≤ length (xs ++ ys)
  shorter = omega (arith, length-append xs ys)

  well_formed : WellFormed front
  well_formed = record { opening = h.well_formed.opening; known = known; versions = λ j s e. h.well_formed.versions j s (there j s e); few_steps = (let a = shorter in let b = h.well_formed.few_steps in omega (arith, a, b)) }

  legal : (j : ℕ) (s : Step) → step_at front j ≡ Some s → IsLegal k.program front j s
  legal j s e = let t = there j s e in legal_same k.program whole front j s h.well_formed well_formed (agree_at j s e) (h.well_formed.known j s t) (h.legal.steps j s t)

  pub beginnings_sound : IsSound k xs
  beginnings_sound = record { well_formed = well_formed; legal = record { opening = refl; steps = legal }; limited = (let a = shorter in let b = h.limited in omega (arith, a, b)) }
