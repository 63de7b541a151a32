use Rattle.std.proofs.Common.{[]}
use Rattle.std.proofs.lemmas.List.Elements.{All-contains}
use Rattle.tau_faults.specs.Ends.{itself}
use Rattle.tau_faults.proofs.Left.{left_first}
use Rattle.tau_faults.proofs.Listed.{IsOf, from_ends, listed}
use Rattle.tau_faults.proofs.Apart.{from_apart}
use Rattle.tau_faults.proofs.laws.ends_are_listed.Goals as goal

pub returns : goal.returns
returns c = λ O S seed ends sound tree. record {
  all = λ e. (
    (λ h. All-contains (IsOf O S seed) ends e (from_ends O S seed S.faults 0 [] O ends tree itself (left_first S.faults)) h),
    (λ h. listed S seed c.serial_run_is_unique.ensures c.scripts_are_determined.ensures O ends tree e h),
  );
  once = from_apart S seed S.faults 0 [] O ends tree;
}
