use Rattle.std.proofs.Common.{◌≡◌, ◌++◌, length, sym, ap, ◌∙◌, arith, length-append}
use Rattle.tau_history.specs.Chunks.{held}
use Rattle.tau_history.proofs.Gets.{parts_of}
use Rattle.tau_history.proofs.chunk.same.Goals as goal

pub returns-then-not-alike : goal.returns-then-not-alike
returns-then-not-alike c =
    let one : held c.loop-one.one.now ≡ held c.a.inside.before ++ c.a.inside.block = ap held c.in-Some-Some.is-0 ∙ sym c.deref-a.ensures ∙ sym c.a.view_is in
    let other : held c.loop-one.other.now ≡ held c.b.inside.before ++ c.b.inside.block = ap held c.in-Some-Some.is-1 ∙ sym c.deref-b.ensures ∙ sym c.b.view_is in
    let blocks : length c.a.inside.block ≡ length c.b.inside.block = c.a.invariant.0 ∙ sym c.b.invariant.0 in (
      λ h. cc,
      λ e.
          let parts = parts_of (held c.a.inside.before) (held c.b.inside.before) c.a.inside.block c.b.inside.block blocks (sym one ∙ c.loop-one.invariant.1.1 e ∙ other) in
          let alike = c.alike.ensures.1 parts.1 in
          cc,
    )

pub loop-one-preserved : goal.loop-one-preserved
loop-one-preserved c =
    let one : held c.loop-one.one.now ≡ held c.a.inside.before ++ c.a.inside.block = ap held c.in-Some-Some.is-0 ∙ sym c.deref-a.ensures ∙ sym c.a.view_is in
    let other : held c.loop-one.other.now ≡ held c.b.inside.before ++ c.b.inside.block = ap held c.in-Some-Some.is-1 ∙ sym c.deref-b.ensures ∙ sym c.b.view_is in
    let blocks : length c.a.inside.block ≡ length c.b.inside.block = c.a.invariant.0 ∙ sym c.b.invariant.0 in
    let same_block : c.a.inside.block ≡ c.b.inside.block = c.alike.ensures.0 c.if-not-alike.false in (
      omega (arith, ap length one, ap length other, c.loop-one.invariant.0, length-append (held c.a.inside.before) c.a.inside.block, length-append (held c.b.inside.before) c.b.inside.block),
      (
        λ e. c.loop-one.invariant.1.0 (one ∙ (λ i. e i ++ same_block i) ∙ sym other),
        λ e. (parts_of (held c.a.inside.before) (held c.b.inside.before) c.a.inside.block c.b.inside.block blocks (sym one ∙ c.loop-one.invariant.1.1 e ∙ other)).0,
      ),
    )
