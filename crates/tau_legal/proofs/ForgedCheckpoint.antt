-- The forged checkpoint is broken by the source's rollback.
use Rattle.std.proofs.Common.{◌≡◌, ◌⊎◌, ⊎_elim, inl, ℕ, ◌<◌, ◌≤◌, true, [], ◌∷◌, refl, sym, ◌∙◌, ap, arith}
use Rattle.std.proofs.lemmas.Option.{slice_get_within}
use Rattle.tau_points.specs.declared.point.Point.{Point}
use Rattle.tau_trace.specs.declared.step.Step.TheVariants.{Take, Checkpoint, Rollback}
use Rattle.tau_trace.specs.Steps.{actor, is_checkpoint}
use Rattle.tau_trace.specs.Run.{step_at}
use Rattle.tau_trace.specs.Places.{count_below}
use Rattle.tau_trace.specs.Histories.{history, Falls}
use Rattle.tau_trace.specs.Points.{point_at}
use Rattle.tau_trace.proofs.Lists.{same_some}
use Rattle.tau_past.specs.Pasts.{Past, Everywhere}
use Rattle.tau_past.specs.Safety.{RolledBack, Safe}
use Rattle.tau_past.specs.Audits.{Breaks, IsBrokenAt, IsBroken, RollsBackAt}
use Rattle.tau_legal.specs.VolatileSource.{source_point}
use Rattle.tau_legal.specs.ForgedCheckpoint.{forged_run}
use Rattle.tau_legal.proofs.Absence.{clash, no_step, FallsAs, falls_as, none_falls}
use Rattle.tau_legal.proofs.Dependence.{depends}

in_past : Past forged_run (point_at forged_run 1 8) source_point
unfolding count_below history
in_past = depends forged_run.opening 2 (Checkpoint 1 ∷ Take 0 1 ∷ Rollback 0 ∷ []) Everywhere refl refl refl tt

rolled_back : RollsBackAt forged_run source_point 10
unfolding history
rolled_back = (refl, refl)

is_rolled_back : RolledBack forged_run source_point
is_rolled_back = record { place = 10; held = tt; falls = rolled_back.0; at_point = rolled_back.1 }

breaks : Breaks forged_run 8 source_point
breaks = record {
  point = point_at forged_run 1 8;
  checks = record { by = 1; closes = refl; at_point = refl };
  in_past = in_past;
  rolled_back = is_rolled_back;
}

none_before : (t k : ℕ) → k < 10 → ¬ Falls forged_run t k
unfolding count_below
none_before = none_falls forged_run 10 refl

-- the one falling step is the source's, at place 10
falls_there : (t k : ℕ) → Falls forged_run t k → (k ≡ 10) × (t ≡ 0)
falls_there t k f = (at, who) where
  found : FallsAs forged_run t k
  found = falls_as forged_run t k f

  at : k ≡ 10
  at = place (slice_get_within forged_run.steps k found.step found.stands) (cases k) where
    cases : (k : ℕ) → (k < 10) ⊎ (10 ≤ k)
    cases k = grind arith

    place : k < 11 → (k < 10) ⊎ (10 ≤ k) → k ≡ 10
    place lt c = ⊎_elim (λ l. absurd (none_before t k l f)) (λ g. omega arith) c

  who : t ≡ 0
  who =
      let same : found.step ≡ Rollback 0 = same_some (sym found.stands ∙ ap (step_at forged_run) at) in
      sym (same_some (sym (ap actor same) ∙ found.by))

-- so only the source's point is rolled back
rolled_back_once : (q : Point) → RolledBack forged_run q → q ≡ source_point
unfolding history
rolled_back_once q b =
    let there = falls_there q.who b.place b.falls in
    b.at_point ∙ ap (λ k. point_at forged_run q.who k) there.0 ∙ ap (λ t. point_at forged_run t 10) there.1

none_earlier : (j : ℕ) → j < 8 → ¬ IsBrokenAt forged_run j
unfolding count_below
none_earlier j lt b =
    clash true refl (no_step is_checkpoint forged_run 8 refl j (Checkpoint b.breaks.checks.by) lt b.breaks.checks.closes)

pub forged_broken : IsBroken forged_run 8 source_point 10
forged_broken = record {
  checkpoint = (omega arith, record { root = source_point; breaks = breaks }, none_earlier);
  point = record { breaks = breaks; least = λ r b. inl (sym (rolled_back_once r b.rolled_back)) };
  fall = (omega arith, rolled_back, λ j lt b. none_before 0 j lt b.0);
}

pub forged_unsafe : ¬ Safe forged_run
forged_unsafe safe = safe 1 8 source_point refl in_past is_rolled_back
