-- What records stand for is a run of a sound program.
use Rattle.std.proofs.Common.{ℕ, List, refl, sym, ◌∙◌, ap, subst, arith}
use Rattle.std.proofs.lemmas.Option.{slice_get_within}
use Rattle.tau_tree.specs.declared.programs.Program.{Program}
use Rattle.tau_tree.specs.Sound.{Sound}
use Rattle.tau_trace.specs.Run.{Run, len}
use Rattle.tau_trace.specs.Known.{WellFormed}
use Rattle.tau_trace.proofs.Indexing.{well_formed_appended}
use Rattle.tau_script.specs.Openings.{program_opening}
use Rattle.tau_script.proofs.SoundOpenings.{sound_opening}
use Rattle.tau_revival.specs.Revival.{IsRevival}
use Rattle.tau_revival.proofs.Keeping.{sound_revived}
use Rattle.tau_run_journal.specs.Standing.{opened, StandsFor, begins, stepped, resumed}
use Rattle.tau_run_journal.specs.Laws.{IsRunOf}

-- before the first step
well_formed_opened : (P : Program) → Sound P → WellFormed (opened P)
well_formed_opened P s = record {
  opening = sound_opening P s;
  known = λ k t e. absurd (omega (arith, slice_get_within (opened P).steps k t e));
  versions = λ k t e. absurd (omega (arith, slice_get_within (opened P).steps k t e));
  few_steps = omega arith;
}

revived_of : (P Q : Program) (T : Run) → IsRevival P T Q → IsRunOf P T → IsRunOf Q T
revived_of P Q T is of = record {
  sound = subst Sound (sym is.is) (sound_revived P (len T) is.cursor.entry of.sound is.few);
  opening = of.opening ∙ sym (ap program_opening is.is);
  well_formed = of.well_formed;
}

pub run_of : (rs : List (List ℕ)) (P : Program) (T : Run) → StandsFor rs P T → IsRunOf P T
run_of rs P T (begins text) = record { sound = text.sound; opening = refl; well_formed = well_formed_opened P text.sound }
run_of rs P T (stepped {T = U} {s = s} before text) =
    let of = run_of _ P U before in
    record { sound = of.sound; opening = of.opening; well_formed = well_formed_appended U s of.well_formed text.may }
run_of rs P T (resumed {P = Q} before is revival) = revived_of Q P T revival (run_of _ Q T before)
