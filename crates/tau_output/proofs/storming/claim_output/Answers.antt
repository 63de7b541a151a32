use Rattle.std.proofs.Common.{◌≡◌, ℕ, List, Option, Some, IfSome, sym, subst}
use Rattle.std.specs.Prelude.{slice_get}
use Rattle.tau_tree.specs.declared.programs.Program.{Program}
use Rattle.tau_tree.specs.Sound.{Sound, behaviour_names}
use Rattle.tau_faults.specs.declared.setting.Setting.{Setting}
use Rattle.tau_storm.specs.Storms.{HasTried}
use Rattle.tau_text.specs.Meaning.{IsProgram}
use Rattle.tau_output.specs.Storming.{TriesClaim}
use Rattle.tau_output.specs.Inner.Storms.{IsTrialOf}
use Rattle.tau_output.proofs.StormLemmas.{sound_first}
use Rattle.tau_output.proofs.storming.claim_output.Goals as goal

pub tell_trial-requires-clause-sound : goal.tell_trial-requires-clause-sound
tell_trial-requires-clause-sound c = subst Sound (sym c.in_ok-tried.ensures.program) c.requires.sound

pub tell_trial-requires-clause-broken : goal.tell_trial-requires-clause-broken
tell_trial-requires-clause-broken c =
    let t = c.in_ok-tried.tried in
    let n = c.args.numbers.now in
    let P = c.args.program.now in
    let told = subst (λ (S : Setting). HasTried S P n.seed n.seeds c.in-Some.behaviour t.told.outcomes t.told.totals t.broken) c.setting_of-setting.ensures c.in_ok-tried.ensures.tried in
    subst (λ (Q : Program). IfSome t.broken (λ o. Sound (record Q { script = o.script }))) (sym c.in_ok-tried.ensures.program)
    (sound_first n P c.in-Some.behaviour t.told.outcomes t.told.totals t.broken c.requires.sound c.requires.setting told)

pub returns-clause-tried : goal.returns-clause-tried
returns-clause-tried c = λ bytes spelled.
    let t = c.in_ok-tried.tried in
    let o = c.in_ok-tell_trial.field-0 in
    let n = c.args.numbers.now in
    let P = c.args.program.now in
    let told = subst (λ (S : Setting). HasTried S P n.seed n.seeds c.in-Some.behaviour t.told.outcomes t.told.totals t.broken) c.setting_of-setting.ensures c.in_ok-tried.ensures.tried in
    let named = subst (λ (b : Option ℕ). IfSome b (λ k. slice_get (behaviour_names P) k ≡ Some c.args.name.now)) c.in-Some.is c.behaviour_named.ensures.named in
    let tells = subst (λ (Q : Program). (behaviour : ℕ) (name bytes : List ℕ) → slice_get (behaviour_names Q) behaviour ≡ Some name → IsTrialOf n Q behaviour t → IsProgram bytes Q → TriesClaim n name bytes o.end o.text.items) c.in_ok-tried.ensures.program c.in_ok-tell_trial.ensures in
    tells c.in-Some.behaviour c.args.name.now bytes named told spelled
