use Rattle.std.proofs.Common.{◌++◌, ◌∙◌, ap₂, subst}
use Rattle.std.proofs.lemmas.List.{take-append-drop}
use Rattle.tau_text.specs.Meaning.{IsRunInput}
use Rattle.tau_text.proofs.by_parts.read_by_parts.Goals as goal

pub returns-in-Ok-clause-text : goal.returns-in-Ok-clause-text
returns-in-Ok-clause-text c =
    let whole = ap₂ (λ x y. x ++ y) c.split_at.ensures.front c.split_at.ensures.back ∙ take-append-drop c.in-Some.end c.args.bytes.now in
    subst (λ bytes. IsRunInput bytes c.in-Ok.text.program c.in-Ok.text.trace.run) whole c.in-Ok.ensures.text
