-- A step that fits stands in the version of its trace.
use Rattle.std.proofs.Common.{◌≡◌, ℕ, false, IsTrue, Option, Some, None, refl, ap, ◌∙◌, subst}
use Rattle.std.specs.Option.{option_map_or}
use Rattle.tau_tree.specs.declared.programs.Program.{Program}
use Rattle.tau_tree.specs.declared.entries.Failure.{Failure}
use Rattle.tau_tree.specs.declared.entries.Failure.TheVariants as failures
use Rattle.tau_tree.specs.Sound.{Sound, IsSoundFailure}
use Rattle.tau_trace.specs.declared.step.Step.{Step}
use Rattle.tau_trace.specs.declared.step.Step.TheVariants.{Echo, Heed, Repeat}
use Rattle.tau_trace.specs.Steps.{is_echo}
use Rattle.tau_trace.specs.Run.{Run, step_at}
use Rattle.tau_trace.specs.Numbering.{IsEchoAt, IsNotice}
use Rattle.tau_trace.specs.Known.{IsInVersion, WellFormed}
use Rattle.tau_script.specs.Cursors.{IsDueAs}
use Rattle.tau_script.specs.Openings.{program_opening}
use Rattle.tau_script.specs.Scripts.{DueStep}
use Rattle.tau_legal.specs.Fits.{Fits, is_of_turn}
use Rattle.tau_legal.proofs.ValueLemmas.{at_all}

-- an Echo stands in version 2 alone, and so is there a notice in version 2 alone
echo_version : (T : Run) → WellFormed T → (j : ℕ) → IsEchoAt T j → T.opening.version ≡ 2
echo_version T w j e = by (step_at T j) refl e where
  of : (s : Step) → IsInVersion T.opening.version s → IsTrue (is_echo s) → T.opening.version ≡ 2
  of (Echo t m) v h = v
  of s v h = absurd (cc)

  by : (o : Option Step) → step_at T j ≡ o → IsTrue (option_map_or is_echo o false) → T.opening.version ≡ 2
  by None f h = absurd (cc)
  by (Some s) f h = of s (w.versions j s f) h

pub notice_version : (T : Run) (m : ℕ) → WellFormed T → IsNotice T m → T.opening.version ≡ 2
notice_version T m w n = echo_version T w n.place n.echo

pub fits_in_version : (P : Program) (T : Run) (k : ℕ) (s : Step) → WellFormed T → T.opening ≡ program_opening P → Fits P T k s → IsInVersion T.opening.version s
fits_in_version P T k (Echo t m) w opens f = ap (λ o. o.version) opens ∙ f.1.version
fits_in_version P T k (Heed t m) w opens f = notice_version T m w f.2
fits_in_version P T k (Repeat m) w opens f = ap (λ o. o.version) opens ∙ f.1
fits_in_version P T k s w opens f = tt

-- a step of an open turn stands in each version
pub turn_in_version : (v : ℕ) (s : Step) → IsTrue (is_of_turn s) → IsInVersion v s
turn_in_version v (Echo t m) h = absurd (cc)
turn_in_version v (Heed t m) h = absurd (cc)
turn_in_version v (Repeat m) h = absurd (cc)
turn_in_version v s h = tt

-- what is due as a Repeat is an entry that repeats
repeats_by : (T : Run) (k from : ℕ) (f : Failure) (m : ℕ) → IsDueAs T k from f (Some (Repeat m)) → f ≡ failures.Repeat m
repeats_by T k from (failures.Fail n) m d = let e = d.2 in absurd (cc)
repeats_by T k from (failures.Lose n) m d = let e = d.1 in absurd (cc)
repeats_by T k from (failures.Repeat n) m d =
    let e = d.1 in
    let same : n ≡ m = cc in
    ap failures.Repeat same

-- so no Repeat is due in version 1
pub due_version : (P : Program) (T : Run) (k m : ℕ) → Sound P → DueStep P.script T k (Repeat m) → P.version ≡ 2
due_version P T k m sound d =
    let here = at_all (λ e. IsSoundFailure P.nodes P.version e.failure) P.script d.cursor.entry d.due.entry sound.sound_failures d.due.ripe.stands in
    subst (IsSoundFailure P.nodes P.version) (repeats_by T k d.cursor.who d.due.entry.failure m d.due.due) here
