-- A run and one more step: what exists then, and which messages are in flight.
use Rattle.std.proofs.Common.{◌≡◌, ⊎_elim, ℕ, suc, ◌+◌, ◌<◌, ◌≤◌, IsTrue, Bool, cond, Some, sym, ap, ◌∙◌, subst, arith}
use Rattle.std.specs.Prelude.{option_and_then}
use Rattle.tau_trace.specs.declared.step.Step.{Step}
use Rattle.tau_trace.specs.Steps.{actor, removed_by, is_new, makes_message}
use Rattle.tau_trace.specs.Run.{Run, len, step_at, appended, ActsAt, Does}
use Rattle.tau_trace.specs.Numbering.{born, sent, InFlight, Removes}
use Rattle.tau_trace.specs.Known.{MayFollow, WellFormed}
use Rattle.tau_trace.proofs.Agreement.{agree_appended, step_at-appended, born-same, sent-same, sent-grows, same_at}
use Rattle.tau_trace.proofs.Indexing.{born-next, sent-next, well_formed_appended}
use Rattle.tau_trace.proofs.Sequences.{cases_last}
use Rattle.tau_trace.proofs.Quiet.{removes_sent}

abbrev pub one_if : Bool → ℕ
one_if b = cond b 1 0

module _ (T : Run) (s : Step) where
  pub here : step_at (appended T s) (len T) ≡ Some s
  here = step_at-appended T s

  pub born_here : born (appended T s) (len T) ≡ born T (len T)
  born_here = sym (born-same (len T) (agree_appended T s))

  pub sent_here : sent (appended T s) (len T) ≡ sent T (len T)
  sent_here = sym (sent-same (len T) (agree_appended T s))

  pub born_then : born (appended T s) (suc (len T)) ≡ born T (len T) + one_if (is_new s)
  born_then = omega (arith, born-next (appended T s) (len T) s (step_at-appended T s), born_here)

  pub sent_then : sent (appended T s) (suc (len T)) ≡ sent T (len T) + one_if (makes_message s)
  sent_then = omega (arith, sent-next (appended T s) (len T) s (step_at-appended T s), sent_here)

  pub acts_here : (t : ℕ) → ActsAt (appended T s) t (len T) → actor s ≡ Some t
  acts_here t a = sym (ap (option_and_then actor) (step_at-appended T s)) ∙ a

  pub does_here : (test : Step → Bool) (t : ℕ) → actor s ≡ Some t → IsTrue (test s) → Does test (appended T s) t (len T)
  does_here test t by passes = record { step = s; stands = step_at-appended T s; by = by; passes = passes }

  removes_here : (m : ℕ) → Removes (appended T s) m (len T) → removed_by s ≡ Some m
  removes_here m r = sym (ap (option_and_then removed_by) (step_at-appended T s)) ∙ r

  -- messages in flight before and after the step
  pub flew : (m : ℕ) → m < sent T (len T) → InFlight (appended T s) m (suc (len T)) → InFlight T m (len T)
  flew m l f = ((same_at T (appended T s) (len T) (agree_appended T s)).in_flight m).1 (record {
    exists = omega (arith, l, sent_here);
    not_removed = λ j b. f.not_removed j (omega arith);
  })

  pub flies_on : (m : ℕ) → ¬ (removed_by s ≡ Some m) → InFlight T m (len T) → InFlight (appended T s) m (suc (len T))
  flies_on m not f =
      let g = ((same_at T (appended T s) (len T) (agree_appended T s)).in_flight m).0 f in
      record {
        exists = omega (arith, g.exists, sent-grows (appended T s) (len T) (suc (len T)) (omega arith));
        not_removed = λ j b r. ⊎_elim
            (λ (e : j ≡ len T). not (removes_here m (let P : ℕ → Type 0 = λ i. Removes (appended T s) m i in subst P e r)))
            (λ l. g.not_removed j l r)
            (cases_last j (len T) b);
      }

  pub not_removed : (m : ℕ) → InFlight (appended T s) m (suc (len T)) → ¬ (removed_by s ≡ Some m)
  not_removed m f e = f.not_removed (len T) (omega arith) (ap (option_and_then removed_by) (step_at-appended T s) ∙ e)

  module _ (w : WellFormed T) (may : MayFollow T s) where
    pub well_formed_then : WellFormed (appended T s)
    well_formed_then = well_formed_appended T s w may

    -- a message that the step makes is in flight
    pub new_flies : (m : ℕ) → sent T (len T) ≤ m → m < sent (appended T s) (suc (len T)) → InFlight (appended T s) m (suc (len T))
    new_flies m g l = record {
      exists = l;
      not_removed = λ j b r. omega (
        arith,
        removes_sent (appended T s) m j (well_formed_then.known j) r,
        sent-grows (appended T s) j (len T) (omega arith),
        sent_here,
      );
    }
