use Rattle.std.proofs.Common.{◌∙◌, ap, subst, Option, ℕ}
use Rattle.tau_svg.specs.Markup.Lines.{with_lines}
use Rattle.tau_picture.specs.Pictures.{IsPictureText}
use Rattle.tau_picture.specs.declared.asking.Asked.{Asked}
use Rattle.tau_picture.specs.Inner.Asked.{IsAsked}
use Rattle.tau_picture.specs.Inner.Drawing.{top_lines}
use Rattle.tau_picture.proofs.Whole.{text_of_picture}
use Rattle.tau_picture.proofs.drawing.draw.Goals as goal

pub returns : goal.returns
returns c =
    let P = c.args.program.now in
    let T = c.args.trace.now.run in
    let plan = c.in_ok-layout.layout in
    let cut = c.in_ok-cut.cut in
    let looks = c.in_ok-looks.looks in
    let a = c.in-Some.asked in
    let tells = subst (λ (o : Option Asked). IsAsked T cut c.args.ask o) c.in-Some.is c.in_ok-asked.ensures in (
      tells.allowed,
      subst (λ (k : Option ℕ). IsPictureText P T c.args.from c.args.to k c.put_rest.new.out.items) tells.place
          (text_of_picture P T c.args.from c.args.to plan cut looks a c.in_ok-layout.ensures c.in_ok-cut.ensures c.in_ok-looks.ensures tells.cause
          c.put_top.new.out.items c.put_middle.new.out.items c.put_rest.new.out.items
          (c.in_ok-put_top.ensures.lines ∙ ap (λ x. with_lines x (top_lines T plan cut a)) c.new-out.ensures.items) c.in_ok-put_middle.ensures c.in_ok-put_rest.ensures),
    )
