use Rattle.std.proofs.Common.{ℕ, ◌<◌, ◌≤◌, Bool, Option, Some, None, List, filter, ap, ◌∙◌, sym, subst, arith}
use Rattle.std.specs.Prelude.{IfSome}
use Rattle.std.proofs.lemmas.List.Elements.{All-filter}
use Rattle.tau_mailbox.specs.declared.letter.Letter.{Letter}
use Rattle.tau_mailbox.specs.Letters.{is_other, AllBelow}
use Rattle.tau_mailbox.specs.MailState.{room, KeepsRoom}
use Rattle.tau_queue.specs.Inner.Index.{with_notice}
use Rattle.tau_queue.proofs.index.Index.echo.Goals as goal

still_below : (o : Option Letter) (p : Letter → Bool) (ls : List Letter) → IfSome o (λ l. AllBelow l.message ls) → IfSome o (λ l. AllBelow l.message (filter p ls))
still_below None p ls h = tt
still_below (Some l) p ls h = All-filter p (λ (x : Letter). x.message < l.message) ls h

still_room : (o : Option Letter) (xs ys : List ℕ) → KeepsRoom xs ys → IfSome o (λ l. 1 ≤ room xs l.who) → IfSome o (λ l. 1 ≤ room ys l.who)
still_room None xs ys keeps h = tt
still_room (Some l) xs ys keeps h = omega (arith, keeps l.who, h)

pub put-requires-clause-node : goal.put-requires-clause-node
put-requires-clause-node c = subst (λ (n : ℕ). IfSome c.args.notice (λ l. l.node < n)) (sym c.remove.ensures.nodes) c.requires.node

pub put-requires-clause-last : goal.put-requires-clause-last
put-requires-clause-last c =
    subst (λ (ls : List Letter). IfSome c.args.notice (λ l. AllBelow l.message ls)) (sym c.remove.ensures.letters)
    (still_below c.args.notice (is_other c.args.message) c.args.self.now.mailboxes.letters c.requires.last)

pub put-requires-clause-room : goal.put-requires-clause-room
put-requires-clause-room c = still_room c.args.notice c.args.self.now.mailboxes.rooms c.remove.new.self.mailboxes.rooms c.remove.ensures.room c.requires.room

pub returns-clause-letters : goal.returns-clause-letters
returns-clause-letters c = c.put.ensures.letters ∙ ap (λ (ls : List Letter). with_notice ls c.args.notice) c.remove.ensures.letters
