use Rattle.std.proofs.Common.{◌≤◌, sym, ap, ◌∙◌, take, drop, length, arith}
use Rattle.std.proofs.lemmas.List.{take_rest}
use Rattle.tau_io.proofs.Steps.{front_copied}
use Rattle.tau_io.proofs.steady.SteadySourceSource.read.Goals as goal

pub returns-clause-bytes : goal.returns-clause-bytes
returns-clause-bytes c =
    let n = c.copy_front-count.result in
    let at = c.self.inside.at in
    let left = drop at c.self.inside.bytes.items in
    let rest = take_rest c.deref.result.now at ∙ ap (drop at) c.deref.ensures.value in
    let within : n ≤ length left = omega (arith, ap length rest) in
    sym c.self.view_is ∙ front_copied _ _ _ _ at n within (ap (take n) rest) c.copy_front-count.ensures.into
