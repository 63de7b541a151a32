use Rattle.std.proofs.Common.{◌∙◌, rules, sym, ap}
use Rattle.std.proofs.lemmas.Fn.{filter_same}
use Rattle.tau_mailbox.specs.MailState.{is_not}
use Rattle.tau_queue.specs.Inner.Index.{turns_ended}
use Rattle.tau_queue.proofs.index.Index.end.Goals as goal

pub returns-in-Some-clause-turns : goal.returns-in-Some-clause-turns
returns-in-Some-clause-turns c =
    filter_same _ (is_not c.in-Some.place) _ (λ x b f' k. search rules) _ _ c.retain.ensures.filtered ∙ sym (ap (turns_ended c.args.self.now.turns.items) c.in-Some.is)
