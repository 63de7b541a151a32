use Rattle.std.proofs.Common.{◌∙◌, ◌∷◌, [], Option, IfSome, subst}
use Rattle.tau_sexpr.specs.Printing.{printed}
use Rattle.tau_tree.specs.Sound.{Sound}
use Rattle.tau_storm.specs.declared.outcomes.Outcome.{Outcome}
use Rattle.tau_storm.specs.Storms.{HasTried}
use Rattle.tau_storm.specs.Lines.{totals_form}
use Rattle.tau_output.specs.Storming.{setting_of}
use Rattle.tau_output.proofs.StormLemmas.{breaks_claim, keeps_claim}
use Rattle.tau_output.proofs.storming.tell_trial.Goals as goal

pub run_text_with-requires-clause-sound : goal.run_text_with-requires-clause-sound
run_text_with-requires-clause-sound c = subst (λ (o : Option Outcome). IfSome o (λ x. Sound (record c.args.program.now { script = x.script }))) c.in-Some.is c.requires.broken

pub returns-in_ok-run_text_with-in-Some : goal.returns-in_ok-run_text_with-in-Some
returns-in_ok-run_text_with-in-Some c = λ behaviour name bytes named told spelled.
    let t = c.args.tried.now in
    let n = c.args.numbers.now in
    let P = c.args.program.now in
    let text = c.in_ok-run_text_with-in-Some.field-0.items in
    let broken = subst (λ (o : Option Outcome). HasTried (setting_of n) P n.seed n.seeds behaviour t.told.outcomes t.told.totals o) c.in-Some.is told in
    breaks_claim n P behaviour t.told.outcomes t.told.totals c.in-Some.shown name bytes text c.requires.sound c.requires.setting named broken c.in_ok-run_text_with-in-Some.ensures spelled

pub returns-in_ok-totals_text-in-None : goal.returns-in_ok-totals_text-in-None
returns-in_ok-totals_text-in-None c = λ behaviour name bytes named told spelled.
    let t = c.args.tried.now in
    let n = c.args.numbers.now in
    let P = c.args.program.now in
    let text = c.in_ok-totals_text-in-None.field-0.items in
    let kept = subst (λ (o : Option Outcome). HasTried (setting_of n) P n.seed n.seeds behaviour t.told.outcomes t.told.totals o) c.in-None.is told in
    let is_text = c.in_ok-totals_text-in-None.ensures ∙ (λ i. printed (totals_form (c.from.ensures i) t.told.totals (c.len.ensures i) ∷ [])) in
    keeps_claim n P behaviour t.told.outcomes t.told.totals name bytes text c.requires.sound c.requires.setting named kept is_text spelled
