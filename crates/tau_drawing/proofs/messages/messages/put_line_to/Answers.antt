use Rattle.std.proofs.Common.{◌≡◌, ℕ, Option, Some, None, refl, sym, ◌∙◌, subst}
use Rattle.std.proofs.lemmas.Result.{on_ok_weaker}
use Rattle.tau_svg.specs.Shapes.Each.{Writes}
use Rattle.tau_svg.proofs.Writing.{nothing}
use Rattle.tau_layout.specs.Paths.Senders.{met_by}
use Rattle.tau_drawing.specs.Messages.Messages.{IsLineTo}
use Rattle.tau_drawing.proofs.messages.messages.put_line_to.Goals as goal

pub returns-in-Some : goal.returns-in-Some
returns-in-Some c =
    let s = c.args.step.now in
    let is : Some c.in-Some.message ≡ met_by s = sym c.in-Some.is ∙ c.met.ensures in
    on_ok_weaker c.put_receipt.result (λ w. subst (λ (o : Option ℕ). Writes (IsLineTo c.args.drawing.now.program.now c.args.drawing.now.trace.now.run c.args.drawing.now.layout.now c.args.place s o) c.args.out.now.items c.put_receipt.new.out.items) is w) c.put_receipt.ensures

pub returns-in-None : goal.returns-in-None
returns-in-None c =
    let s = c.args.step.now in
    let out = c.args.out.now.items in
    let is : None ≡ met_by s = sym c.in-None.is ∙ c.met.ensures in
    subst (λ (o : Option ℕ). Writes (IsLineTo c.args.drawing.now.program.now c.args.drawing.now.trace.now.run c.args.drawing.now.layout.now c.args.place s o) out out) is (nothing (IsLineTo c.args.drawing.now.program.now c.args.drawing.now.trace.now.run c.args.drawing.now.layout.now c.args.place s None) out refl)
