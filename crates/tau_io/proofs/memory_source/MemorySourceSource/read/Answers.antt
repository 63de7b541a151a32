use Rattle.std.proofs.Common.{◌≡◌, ℕ, ◌≤◌, ap, ◌∙◌, take, drop, length, arith, rules, length-take}
use Rattle.std.proofs.Math.Seq.{take-take}
use Rattle.std.proofs.lemmas.List.{take_rest}
use Rattle.tau_io.proofs.Steps.{front_copied}
use Rattle.tau_io.proofs.memory_source.MemorySourceSource.read.Goals as goal

pub returns-clause-bytes : goal.returns-clause-bytes
returns-clause-bytes c =
    let n = c.copy_front-count.result in
    let at = c.self.inside.at in
    let left = drop at c.self.inside.bytes.items in
    let is : c.args.self.now.left ≡ left = search rules in
    let rest = take_rest c.deref-2.result.now at ∙ ap (drop at) c.deref-2.ensures.value in
    let within : n ≤ length left = omega (arith, ap length rest, length-take {A = ℕ}) in
    let same = take-take n c.min-most.result _ (omega (arith, length-take {A = ℕ})) ∙ ap (take n) rest in
    is ∙ front_copied _ _ _ _ at n within same c.copy_front-count.ensures.into
