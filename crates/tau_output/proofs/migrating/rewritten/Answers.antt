use Rattle.std.proofs.Common.{subst}
use Rattle.tau_tree.specs.declared.programs.Program.{Program}
use Rattle.tau_trace.specs.Run.{Run}
use Rattle.tau_legal.proofs.TraceLemmas.{legal_safe}
use Rattle.tau_check.specs.Legality.{IsLegality}
use Rattle.tau_output.proofs.migrating.rewritten.Goals as goal

pub returns-in_ok-run_text-in-Legal : goal.returns-in_ok-run_text-in-Legal
returns-in_ok-run_text-in-Legal c =
    let P : Program = c.args.program.now in
    let T : Run = c.args.trace.now.run in
    let legal = (subst (IsLegality P T) c.in-Legal.is c.in_ok-check.ensures).0 in
    record {
      well_formed = c.len-length.ensures.well_formed;
      legal = legal;
      safe = legal_safe P T c.len-length.ensures.well_formed legal;
      is_text = c.in_ok-run_text-in-Legal.ensures.text;
      read_back = c.in_ok-run_text-in-Legal.ensures.read_back;
    }

pub returns-in_ok-bad_line-in-Bad : goal.returns-in_ok-bad_line-in-Bad
returns-in_ok-bad_line-in-Bad c =
    let P : Program = c.args.program.now in
    let T : Run = c.args.trace.now.run in
    (subst (IsLegality P T) c.in-Bad.is c.in_ok-check.ensures, c.in_ok-bad_line-in-Bad.ensures)
