use Rattle.std.proofs.Common.{◌≡◌, ◌∙◌, ap, ap₂, sym, subst, map, inl, inr}
use Rattle.std.proofs.lemmas.List.{map-id}
use Rattle.clap.specs.Words.{HasKind, Kinds, fault_of, is_simple, is_simple_and_free, matches_of}
use Rattle.tau_command.specs.declared.commands.WordsError.TheVariants.{Words}
use Rattle.tau_command.proofs.MatchLemmas.{tau_is_free, tau_is_simple}
use Rattle.tau_command.proofs.commands.match_words.Goals as goal

pub returns-in-Ok-clause-matched : goal.returns-in-Ok-clause-matched
returns-in-Ok-clause-matched c =
    let command_is = c.in_ok-command.ensures in
    let words_are : map (λ w. w) c.items.result.now ≡ c.args.words.now = map-id _ ∙ c.items.ensures in
    let rows = c.in-Ok.ensures.matches (ap is_simple command_is ∙ tau_is_simple) in
    let none = c.in-Ok.ensures.kinds (ap is_simple_and_free command_is ∙ tau_is_free) in
    (sym (ap₂ fault_of command_is words_are) ∙ none, rows.0 ∙ ap₂ matches_of command_is words_are)

pub returns-in-Err-clause-words : goal.returns-in-Err-clause-words
returns-in-Err-clause-words c = λ is none.
    let command_is = c.in_ok-command.ensures in
    let words_are : map (λ w. w) c.items.result.now ≡ c.args.words.now = map-id _ ∙ c.items.ensures in
    let kind = c.in-Err.ensures.kinds (ap is_simple_and_free command_is ∙ tau_is_free) in
    let same : c.error_of.result ≡ Words = cc in
    elim (subst (λ (kinds : Kinds). HasKind kinds c.in-Err.error) (ap₂ fault_of command_is words_are ∙ none) kind) [
      | inl memory ↦ c.error_of.ensures same (c.kind.ensures ∙ memory)
      | inr other ↦ other
    ]
