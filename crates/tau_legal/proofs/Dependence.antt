-- What the sink of the two examples depends on.
use Rattle.std.proofs.Common.{◌≡◌, ◌≢◌, ◌⊎◌, ⊎_elim, ℕ, ◌+◌, ◌<◌, ◌||◌, List, ◌∷◌, refl, ap, subst, arith}
use Rattle.tau_points.specs.Reach as reach
use Rattle.tau_trace.specs.declared.opening.Opening.{Opening}
use Rattle.tau_trace.specs.declared.step.Step.{Step}
use Rattle.tau_trace.specs.declared.step.Step.TheVariants.{Take, Get, Set, Send, Stabilize, Done}
use Rattle.tau_trace.specs.Steps.{ends_turn, is_take}
use Rattle.tau_trace.specs.Run.{Run, Does}
use Rattle.tau_trace.specs.Numbering.{sent, IsOrigin, direct}
use Rattle.tau_trace.specs.Points.{point_at}
use Rattle.tau_trace.specs.Turns.{Turn}
use Rattle.tau_past.specs.Carried.{touches, is_set, touched, came, Carried, by_set}
use Rattle.tau_past.specs.Pasts.{PastIn, Is, takes}
use Rattle.tau_legal.specs.VolatileSource.{seven, source_point}
use Rattle.tau_legal.proofs.Absence.{not_does}

-- a run whose first eight steps are those of the two examples; the source sends message m
abbrev pub run_with : Opening → ℕ → List Step → Run
run_with o m rest = record {
  opening = o;
  steps = Take 0 0 ∷ Set 0 seven ∷ Get 0 ∷ Send 0 1 seven ∷ Done 0 ∷ Take 1 m ∷ Set 1 seven ∷ Stabilize 1 ∷ rest;
}

-- the two places between others
two : (j k : ℕ) → k < j → j < k + 3 → (j ≡ k + 1) ⊎ (j ≡ k + 2)
two j k a b = grind arith

pub sink_turn : (o : Opening) (m : ℕ) (rest : List Step) → Turn (run_with o m rest) 1 8 5 m
sink_turn o m rest = record { before = omega arith; takes = refl; goes_on = λ j a b d. goes j (two j 5 a b) d } where
  T : Run
  T = run_with o m rest

  goes : (j : ℕ) → (j ≡ 6) ⊎ (j ≡ 7) → ¬ Does (λ s. ends_turn s || is_take s) T 1 j
  goes j c d = ⊎_elim
      (λ e. not_does (λ s. ends_turn s || is_take s) T 1 6 (Set 1 seven) refl refl (subst (Does (λ s. ends_turn s || is_take s) T 1) e d))
      (λ e. not_does (λ s. ends_turn s || is_take s) T 1 7 (Stabilize 1) refl refl (subst (Does (λ s. ends_turn s || is_take s) T 1) e d))
      c

source_turn : (o : Opening) (m : ℕ) (rest : List Step) → Turn (run_with o m rest) 0 3 0 0
source_turn o m rest = record { before = omega arith; takes = refl; goes_on = λ j a b d. goes j (two j 0 a b) d } where
  T : Run
  T = run_with o m rest

  goes : (j : ℕ) → (j ≡ 1) ⊎ (j ≡ 2) → ¬ Does (λ s. ends_turn s || is_take s) T 0 j
  goes j c d = ⊎_elim
      (λ e. not_does (λ s. ends_turn s || is_take s) T 0 1 (Set 0 seven) refl refl (subst (Does (λ s. ends_turn s || is_take s) T 0) e d))
      (λ e. not_does (λ s. ends_turn s || is_take s) T 0 2 (Get 0) refl refl (subst (Does (λ s. ends_turn s || is_take s) T 0) e d))
      c

-- where the source's Send makes message m, the sink's Set carries the source's point
carries : (o : Opening) (m : ℕ) (rest : List Step) → m ≡ sent (run_with o m rest) 3 → source_point ≡ point_at (run_with o m rest) 0 1 → Carried (run_with o m rest) 6 source_point
carries o m rest made at_source = record { by = 1; acts = refl; pending = came short sends refl (touched (source_turn o m rest) (omega arith) (omega arith) sets at_source) } where
  T : Run
  T = run_with o m rest

  short : Turn T 1 6 5 m
  short = record { before = omega arith; takes = refl; goes_on = λ j a b d. absurd (omega arith) }

  sends : IsOrigin T 3 0 m
  sends = direct (record { to = 1; value = seven; stands = refl; made = made })

  sets : Does touches T 0 1
  sets = record { step = Set 0 seven; stands = refl; by = refl; passes = refl }

-- and by it the sink's point takes the source's
pub depends : (o : Opening) (m : ℕ) (rest : List Step) (H : ℕ → Type 0) → m ≡ sent (run_with o m rest) 3 → source_point ≡ point_at (run_with o m rest) 0 1 → point_at (run_with o m rest) 1 8 ≡ point_at (run_with o m rest) 1 6 → H 6
    → PastIn (run_with o m rest) H (Is (point_at (run_with o m rest) 1 8)) source_point
depends o m rest H made at_source at_sink held =
    reach.next (reach.start refl) (takes {j = 6} held (by_set {t = 1} sets at_sink (carries o m rest made at_source) other)) where
      T : Run
      T = run_with o m rest

      sets : Does is_set T 1 6
      sets = record { step = Set 1 seven; stands = refl; by = refl; passes = refl }

      other : source_point ≢ point_at T 1 8
      other e = absurd (omega (arith, ap (λ p. p.who) e))
