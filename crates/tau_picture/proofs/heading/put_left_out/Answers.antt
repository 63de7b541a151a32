use Rattle.std.proofs.Common.{◌≡◌, [], ◌∷◌, OnOk, cond, sym, subst, arith}
use Rattle.std.specs.Prelude.{codes}
use Rattle.std.proofs.lemmas.Bool.{lt-ltb}
use Rattle.tau_svg.specs.Markup.Lines.{plain, with_pieces}
use Rattle.tau_picture.proofs.heading.put_left_out.Goals as goal

pub returns-then-steps-gt4000 : goal.returns-then-steps-gt4000
returns-then-steps-gt4000 c =
    subst (λ b. OnOk c.plain.result (c.plain.new.out.items ≡ with_pieces c.args.out.now.items (cond b (plain (codes ", notes without causes") ∷ []) [])))
    (sym (lt-ltb 4000 c.args.steps (omega (arith, c.if-steps-gt4000.true)))) c.plain.ensures
