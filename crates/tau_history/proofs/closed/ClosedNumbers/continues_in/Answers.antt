use Rattle.std.proofs.Common.{◌≡◌, ◌++◌, ◌≤◌, length, take, sym, ap, ◌∙◌, length-append, arith}
use Rattle.tau_history.specs.Chunks.{held}
use Rattle.tau_history.proofs.Gets.{take-front, take-part, take-more_alike}
use Rattle.tau_history.proofs.closed.ClosedNumbers.continues_in.Goals as goal

pub returns-then-not-same : goal.returns-then-not-same
returns-then-not-same c =
    let xs = c.args.self.now.numbers in
    let ys = c.args.later.now.numbers in
    let n = c.min-chunked.result in
    let own : held c.self.inside.chunks ++ take c.self.inside.tail_len c.self.inside.tail ≡ xs = ap (λ v. v.numbers) c.self.view_is in
    let others : held c.later.inside.chunks ++ take c.later.inside.tail_len c.later.inside.tail ≡ ys = ap (λ v. v.numbers) c.later.view_is in
    let fits : n ≤ length (held c.self.inside.chunks) = omega arith in
    let fits_too : n ≤ length (held c.later.inside.chunks) = omega arith in (
      λ h. cc,
      λ f.
          let within : n ≤ length xs = omega (arith, ap length own, length-append (held c.self.inside.chunks) (take c.self.inside.tail_len c.self.inside.tail)) in
          let alike = c.same.ensures.1 (c.front_of.ensures ∙ sym (take-part xs (held c.self.inside.chunks) _ n own fits) ∙ take-front xs ys n f within
          ∙ take-part ys (held c.later.inside.chunks) _ n others fits_too ∙ sym c.front_of-2.ensures) in
          cc,
    )

pub loop-k-preserved : goal.loop-k-preserved
loop-k-preserved c =
    take-more_alike c.args.self.now.numbers c.args.later.now.numbers c.loop-k.k c.at.result c.at-in-loop-k.result c.at.ensures c.at-in-loop-k.ensures c.if-at.false c.loop-k.invariant
