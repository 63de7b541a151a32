use Rattle.std.proofs.Common.{◌≡◌, ◌≢◌, ℕ, filter, rules}
use Rattle.std.proofs.lemmas.Fn.{filter_same}
use Rattle.std.proofs.lemmas.List.Kept.{AllPairs-filter}
use Rattle.tau_mailbox.specs.MailState.{is_not}
use Rattle.tau_mailbox.proofs.mailboxes.Mailboxes.close.Goals as goal

pub invariant_of-self : goal.invariant_of-self
invariant_of-self c =
    let e : c.retain.new.self.items ≡ filter (is_not c.args.who) c.self.inside.busy.items = filter_same _ (is_not c.args.who) _ (λ x b f h. search rules) _ _ c.retain.ensures.filtered in
    rw e (AllPairs-filter (λ (a b : ℕ). a ≢ b) (is_not c.args.who) c.self.inside.busy.items c.self.invariant)

pub returns-clause-busy : goal.returns-clause-busy
returns-clause-busy c =
    rw (← c.self.view_is)
    (filter_same _ (is_not c.args.who) _ (λ x b f h. search rules) _ _ c.retain.ensures.filtered)
