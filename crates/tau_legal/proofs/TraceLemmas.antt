-- Fitting and legal traces grow by a step that fits or is legal; a trace without steps.
use Rattle.std.proofs.Common.{◌≡◌, ◌⊎◌, inl, inr, ⊎_elim, ℕ, zero, suc, ◌<◌, Some, None, List, [], ◌∷◌, length, sym, ap, subst, arith}
use Rattle.std.specs.Prelude.{slice_get, map}
use Rattle.tau_tree.specs.declared.entries.Entry.{Entry}
use Rattle.tau_tree.specs.declared.programs.Program.{Program}
use Rattle.tau_trace.specs.declared.step.Step.{Step}
use Rattle.tau_trace.specs.Run.{Run, Agree, step_at, len, appended}
use Rattle.tau_trace.specs.Numbering.{born, sent}
use Rattle.tau_trace.specs.Places.{count_below}
use Rattle.tau_trace.specs.Known.{WellFormed, IsKnown, IsKnownAt}
use Rattle.tau_trace.proofs.Lists.{slice_get-push_cases}
use Rattle.tau_trace.proofs.Agreement.{agree_below, agree_appended, step_at-appended, born-same, sent-same}
use Rattle.tau_script.specs.Openings.{program_opening}
use Rattle.tau_script.specs.Cursors.{first_cursor, rests, IsPassedOver, IsRipe}
use Rattle.tau_script.specs.Scripts.{NoneDue, Allows}
use Rattle.tau_script.proofs.Same.{same_script}
use Rattle.tau_legal.specs.Fits.{Fits}
use Rattle.tau_legal.specs.Traces.{Fitting, IsLegal, Legal}
use Rattle.tau_legal.specs.Laws.{FittingTracesGrow, LegalTracesGrow, LegalityIsLocal, LegalTracesAreSafe, EmptyTracesAreComplete}
use Rattle.tau_legal.proofs.LocalLemmas.{fits_same}
use Rattle.tau_legal.proofs.SafetyLemmas.{fitting_safe}

pub legal_fitting : (P : Program) (T : Run) → Legal P T → Fitting P T
legal_fitting P T l = record { opening = l.opening; steps = λ k s e. (l.steps k s e).fits }

pub legal_safe : LegalTracesAreSafe
legal_safe P T w l = fitting_safe P T w (legal_fitting P T l)

-- there are items at places below the length alone
pub below_length : {A : Type 0} (xs : List A) (j : ℕ) (x : A) → slice_get xs j ≡ Some x → j < length xs
below_length [] j x e = absurd (cc)
below_length (y ∷ ys) zero x e = omega arith
below_length (y ∷ ys) (suc j) x e = omega (arith, below_length ys j x e)

-- what a step that stands at the end names exists there
pub known_at_end : (T : Run) (s : Step) → WellFormed (appended T s) → IsKnownAt T (len T) s
known_at_end T s w =
    let a = agree_appended T s in
    let known = w.known (len T) s (step_at-appended T s) in
    subst (λ b. IsKnown T.opening b (sent T (len T)) s) (sym (born-same (len T) a)) (subst (λ m. IsKnown T.opening (born (appended T s) (len T)) m s) (sym (sent-same (len T) a)) known)

allows_same : (S : List Entry) (T U : Run) (k : ℕ) (s : Step) → Agree T U k → Allows S T k s → Allows S U k s
allows_same S T U k s a =
    let same = same_script S T U k a in
    ⊎_elim (λ due. inl ((same.step (Some s)).0 due)) (λ none. inr ((same.step None).0 none.0, none.1))

pub legal_same : LegalityIsLocal
legal_same P T U k s v w a known l = record { fits = fits_same P T U k s v w a known l.fits; allowed = allows_same P.script T U k s a l.allowed }

-- what holds at each place of a run, by the steps before it, and at the end for one more step, holds at each place of the
-- longer run
grows : (R : Run → ℕ → Step → Type 0) → ((T U : Run) (k : ℕ) (s : Step) → WellFormed T → WellFormed U → Agree T U k → IsKnownAt T k s → R T k s → R U k s)
    → (T : Run) (s : Step) → WellFormed T → WellFormed (appended T s) → ((k : ℕ) (r : Step) → step_at T k ≡ Some r → R T k r) → R T (len T) s
    → (k : ℕ) (r : Step) → step_at (appended T s) k ≡ Some r → R (appended T s) k r
grows R same T s v w old new k r e = by (slice_get-push_cases T.steps s r k e) where
  by : (step_at T k ≡ Some r) ⊎ ((k ≡ len T) × (s ≡ r)) → R (appended T s) k r
  by (inl e) =
      let lt = below_length T.steps k r e in
      same T (appended T s) k r v w (agree_below k (omega arith) (agree_appended T s)) (v.known k r e) (old k r e)
  by (inr e) =
      subst (λ j. R (appended T s) j r) (sym e.0) (subst (R (appended T s) (len T)) e.1 (same T (appended T s) (len T) s v w (agree_appended T s) (known_at_end T s w) new))

pub fitting_grows : FittingTracesGrow
fitting_grows P T s v w f fits = record { opening = f.opening; steps = grows (Fits P) (fits_same P) T s v w f.steps fits }

pub legal_grows : LegalTracesGrow
legal_grows P T s v w l legal = record { opening = l.opening; steps = grows (IsLegal P) (legal_same P) T s v w l.steps legal }

-- a script without entries makes no step due
no_entry : (S : List Entry) (k : ℕ) (e : Entry) → S ≡ [] → ¬ IsRipe S k first_cursor e
no_entry S k e none r = absurd (cc)

nothing_passed : (S : List Entry) (T : Run) → S ≡ [] → ¬ IsPassedOver S T 0 first_cursor
nothing_passed S T none p = no_entry S 0 p.entry none p.ripe

pub none_due_at_first : (S : List Entry) (T : Run) → S ≡ [] → NoneDue S T 0
none_due_at_first S T none = record { cursor = first_cursor; stands = rests (nothing_passed S T none); due = λ e. no_entry S 0 e none }

no_message : (P : Program) (m : ℕ) → P.posts ≡ [] → m < sent (record { opening = program_opening P; steps = [] }) 0 → ⊥
unfolding count_below
no_message P m none lt = omega (arith, lt, ap (λ ps. length (map (λ q. q.to) ps)) none)

pub empty_complete : EmptyTracesAreComplete
empty_complete P no_posts no_script =
    record {
      none_due = none_due_at_first P.script _ no_script;
      no_turn = λ t place m u. omega (arith, u.before);
      none_in_flight = λ m f. no_message P m no_posts f.exists;
    }
