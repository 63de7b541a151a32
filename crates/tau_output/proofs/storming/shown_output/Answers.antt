use Rattle.std.proofs.Common.{ℕ, List, IfOk, IfSome, ◌≡◌, None, sym, subst}
use Rattle.tau_tree.specs.declared.programs.Program.{Program}
use Rattle.tau_tree.specs.Sound.{Sound}
use Rattle.tau_faults.specs.declared.setting.Setting.{Setting}
use Rattle.tau_storm.specs.Storms.{HasOutcomes}
use Rattle.tau_text.specs.Meaning.{IsProgram}
use Rattle.tau_output.specs.Storming.{ShowsOutcome, LacksOutcome}
use Rattle.tau_output.specs.Inner.Storms.{IsTold}
use Rattle.tau_output.proofs.storming.shown_output.Goals as goal

pub show_outcome-requires-clause-sound : goal.show_outcome-requires-clause-sound
show_outcome-requires-clause-sound c = subst Sound (sym c.in_ok-told.ensures.program) c.requires.sound

pub show_outcome-requires-clause-told : goal.show_outcome-requires-clause-told
show_outcome-requires-clause-told c =
    let t = c.in_ok-told.told in
    let n = c.args.numbers.now in
    let told = subst (λ (S : Setting). HasOutcomes S c.args.program.now n.seed n.seeds t.outcomes t.totals) c.setting_of-setting.ensures c.in_ok-told.ensures.told in
    subst (λ (Q : Program). IsTold n Q t) (sym c.in_ok-told.ensures.program) told

pub returns-clause-shown : goal.returns-clause-shown
returns-clause-shown c =
    subst (λ (Q : Program). IfOk c.show_outcome.result (λ r. IfSome r (λ o. (bytes : List ℕ) → IsProgram bytes Q → ShowsOutcome c.args.numbers.now c.args.outcome bytes o.end o.text.items)))
    c.in_ok-told.ensures.program c.show_outcome.ensures.shown

pub returns-clause-lacks : goal.returns-clause-lacks
returns-clause-lacks c =
    subst (λ (Q : Program). IfOk c.show_outcome.result (λ r. r ≡ None → (bytes : List ℕ) → IsProgram bytes Q → LacksOutcome c.args.numbers.now c.args.outcome bytes))
    c.in_ok-told.ensures.program c.show_outcome.ensures.lacks
