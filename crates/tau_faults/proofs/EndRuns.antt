-- The run of an end is a legal run of its program.
use Rattle.std.proofs.Common.{arith}
use Rattle.tau_script.specs.Laws.{ScriptsAreDetermined, ScriptsAreLocal}
use Rattle.tau_legal.specs.Laws.{LegalTracesAreSafe}
use Rattle.tau_book.specs.Laws.{SerialRunIsUnique}
use Rattle.tau_faults.specs.Laws.{EndsAreRuns}
use Rattle.tau_faults.proofs.Programs.{sound_storm, parts_storm, merged_storm}
use Rattle.tau_faults.proofs.Runs.{legal_run}

pub ends_run : SerialRunIsUnique → ScriptsAreDetermined → ScriptsAreLocal → LegalTracesAreSafe → EndsAreRuns
ends_run unique determined local safe O S e sound few end =
    let program = sound_storm O S e.seed end.from e.faults e.program sound end.comes in
    let ran = legal_run e.program S.jobs e.seed program e.run end.serial.generator end.serial.comes_about (omega (arith, few, end.serial.within)) in (
      record { sound = program; parts = parts_storm O S e.seed end.from e.faults e.program end.comes; script = merged_storm unique determined local O S e.seed end.from e.faults e.program end.comes },
      record { well_formed = ran.well_formed; legal = ran.legal; within = end.serial.within; ends = end.serial.ends; safe = safe e.program e.run ran.well_formed ran.legal },
    )
