-- The first steps of a run, as a run, and a run in another version.
use Rattle.std.proofs.Common.{◌≡◌, ◌⊎◌, ⊎_elim, ℕ, suc, ◌+◌, ◌<◌, ◌≤◌, List, [], ◌∷◌, ◌++◌, length, take, Option, Some, refl, sym, ap, ◌∙◌, subst, arith, length-take}
use Rattle.std.specs.Prelude.{slice_get}
use Rattle.std.proofs.lemmas.Option.{slice_get_within}
use Rattle.tau_trace.specs.declared.opening.Opening.{Opening}
use Rattle.tau_trace.specs.declared.step.Step.{Step}
use Rattle.tau_trace.specs.declared.step.Step.TheVariants.{New, Echo, Heed, Repeat}
use Rattle.tau_trace.specs.Run.{Run, Agree, step_at, len, versioned}
use Rattle.tau_trace.specs.Numbering.{born, sent}
use Rattle.tau_trace.specs.Known.{IsSound, IsKnown, IsKnownAt, IsInVersion, MayFollow, WellFormed}
use Rattle.tau_trace.proofs.Lists.{slice_get-take}
use Rattle.tau_trace.proofs.Agreement.{born-same, sent-same}
use Rattle.tau_trace.proofs.Indexing.{known_same}

abbrev pub run_of : Opening → List Step → Run
run_of o steps = record { opening = o; steps = steps }

abbrev pub prefix : Run → ℕ → Run
prefix T k = record { opening = T.opening; steps = take k T.steps }

pub agree_prefix : (T : Run) (k : ℕ) → Agree T (prefix T k) k
agree_prefix T k = record { opening = refl; steps = λ j l. sym (slice_get-take k T.steps j l) }

pub len-prefix : (T : Run) (k : ℕ) → k ≤ len T → len (prefix T k) ≡ k
len-prefix T k l = grind (arith, length-take)

-- each step may follow those before it
pub may_follow_prefix : (T : Run) (k : ℕ) (s : Step) → WellFormed T → step_at T k ≡ Some s → MayFollow (prefix T k) s
may_follow_prefix T k s w e =
    let below = slice_get_within T.steps k s e in
    let long = len-prefix T k (omega (arith, below)) in
    let agree = agree_prefix T k in
    let P : ℕ → Type 0 = λ n. IsKnownAt (prefix T k) n s in
    record {
      known = subst P (sym long) (known_same T.opening (born T k) (born (prefix T k) k) (sent T k) (sent (prefix T k) k) s (born-same k agree) (sent-same k agree) (w.known k s e));
      version = w.versions k s e;
      few_steps = omega (arith, long, below, w.few_steps);
    }

-- a version that a run can be told in: its own, or 2
abbrev pub IsRaised : ℕ → ℕ → Type 0
IsRaised old new = (new ≡ old) ⊎ (new ≡ 2)

known_versioned : (o : Opening) (v b m : ℕ) (s : Step) → IsKnown o b m s → IsKnown (record o { version = v }) b m s
known_versioned o v b m (New t c n x) h = h
known_versioned o v b m s h = h

raised_two : (v w : ℕ) → IsRaised v w → v ≡ 2 → w ≡ 2
raised_two v w r e = ⊎_elim (λ f. f ∙ e) (λ f. f) r

in_version_raised : (v w : ℕ) (s : Step) → IsRaised v w → IsInVersion v s → IsInVersion w s
in_version_raised v w (Echo t m) r h = raised_two v w r h
in_version_raised v w (Heed t m) r h = raised_two v w r h
in_version_raised v w (Repeat m) r h = raised_two v w r h
in_version_raised v w s r h = tt

pub sound_versioned : (o : Opening) (v : ℕ) → IsRaised o.version v → IsSound o → IsSound (record o { version = v })
sound_versioned o v r s = record {
  names = s.names;
  behaviours = s.behaviours;
  few_names = s.few_names;
  few_behaviours = s.few_behaviours;
  few_targets = s.few_targets;
  some_nodes = s.some_nodes;
  few_nodes = s.few_nodes;
  a_home_each = s.a_home_each;
  homes = s.homes;
  targets = s.targets;
  some_version = ⊎_elim (λ e. omega (arith, e, s.some_version)) (λ e. omega (arith, e)) r;
  few_versions = ⊎_elim (λ e. omega (arith, e, s.few_versions)) (λ e. omega (arith, e)) r;
}

pub may_follow_versioned : (T : Run) (v k : ℕ) (s : Step) → IsRaised T.opening.version v → WellFormed T → step_at T k ≡ Some s → MayFollow (versioned v (prefix T k)) s
may_follow_versioned T v k s r w e =
    let may = may_follow_prefix T k s w e in
    record {
      known = known_versioned T.opening v (born (prefix T k) (len (prefix T k))) (sent (prefix T k) (len (prefix T k))) s may.known;
      version = in_version_raised T.opening.version v s r may.version;
      few_steps = may.few_steps;
    }
