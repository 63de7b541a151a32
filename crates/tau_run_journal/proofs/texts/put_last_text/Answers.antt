use Rattle.std.proofs.Common.{◌≡◌, ◌-◌, List, ◌∷◌, ◌++◌, [], ℕ, Some, ◌∙◌, ap, rules}
use Rattle.tau_sexpr.specs.Form.{tree_of}
use Rattle.tau_sexpr.specs.Printing.{printed}
use Rattle.tau_sexpr.specs.Spelling.{IsSpelling}
use Rattle.tau_trace.specs.Run.{len}
use Rattle.tau_steps.specs.StepForms.{step_form_at, IsWrittenAt}
use Rattle.tau_run_journal.proofs.Answered.{if_ok_both}
use Rattle.tau_run_journal.proofs.StepTexts.{last_text}
use Rattle.tau_run_journal.proofs.texts.put_last_text.Goals as goal

pub returns : goal.returns
returns c =
    let U = c.args.trace.now.run in
    let k = c.len-steps.result - 1 in
    let f = tree_of c.in_ok-form.form in
    let text : List ℕ = c.put_form_line.new.out.items in
    let written : IsWrittenAt U k = search rules in
    let is : Some f ≡ step_form_at U k = search rules in
    let last : k ≡ len U - 1 = ap (λ n. n - 1) c.len-steps.ensures.len in
    if_ok_both (λ _. text ≡ c.clear.new.self.items ++ printed (f ∷ [])) (λ _. IsSpelling (printed (f ∷ [])) (f ∷ [])) _ c.put_form_line.result
    (λ _ puts spelled T s same. last_text c.printed_steps_mean_themselves.ensures U c.len-steps.ensures.well_formed k last written f text is (puts ∙ ap (λ (l : List ℕ). l ++ printed (f ∷ [])) c.clear.ensures.items) spelled T s same)
    c.put_form_line.ensures.text c.put_form_line.ensures.spells
