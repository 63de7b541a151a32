use Rattle.std.proofs.Common.{◌≡◌, ℕ, sym, ap, ◌∙◌, subst, arith}
use Rattle.tau_svg.specs.Shapes.Each.{EachPlace, Writes}
use Rattle.tau_svg.proofs.Writing.{places_first, places_next}
use Rattle.tau_drawing.specs.Messages.Messages.{IsMessageLine}
use Rattle.tau_drawing.proofs.messages.messages.put_messages.Goals as goal

pub loop-place-init : goal.loop-place-init
loop-place-init c =
    let P = IsMessageLine c.args.program.now c.args.trace.now.run c.args.layout.now in
    let out = c.args.out.now.items in
    let a = c.args.layout.now.window.from in
    subst (λ (k : ℕ). Writes (EachPlace P a k) out out) (sym (ap (λ v. v.from) c.window-window.ensures.window)) (places_first P a out)

pub loop-place-preserved : goal.loop-place-preserved
loop-place-preserved c =
    places_next (IsMessageLine c.args.program.now c.args.trace.now.run c.args.layout.now) c.args.layout.now.window.from c.loop-place.place c.args.out.now.items c.loop-place.out.items c.put_line_at.new.out.items c.loop-place.invariant c.in_ok-put_line_at.ensures

pub returns : goal.returns
returns c =
    let P = IsMessageLine c.args.program.now c.args.trace.now.run c.args.layout.now in
    let end : c.loop-place.place ≡ c.window-window.result.to = omega (arith, c.loop-place-test.false, c.loop-place.auto.place-end, c.window-window.ensures.ordered) in
    subst (λ (k : ℕ). Writes (EachPlace P c.args.layout.now.window.from k) c.args.out.now.items c.loop-place.out.items) (end ∙ ap (λ v. v.to) c.window-window.ensures.window) c.loop-place.invariant
