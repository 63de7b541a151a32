use Rattle.std.proofs.Common.{◌≡◌, ◌≤◌, ◌-◌, ℕ, true, ltb, List, Some, length, slice_get, MatchBool, Any, sym, ap, ◌∙◌, subst}
use Rattle.tau_mailbox.specs.declared.letter.Letter.{Letter}
use Rattle.tau_mailbox.specs.Letters.{IsAscending, AllBelow}
use Rattle.tau_mailbox.proofs.Search.{ends-below}
use Rattle.show_parts.proofs.mailboxes.ends_below.Goals as goal

-- where the message of the last letter is below m, all are
all_below : (m : ℕ) (ls : List Letter) (x : Letter) → IsAscending ls → slice_get ls (length ls - 1) ≡ Some x → ltb x.message m ≡ true → AllBelow m ls
all_below m ls x up last t = subst (λ b. MatchBool b (AllBelow m ls) (Any (λ l. m ≤ l.message) ls)) t (ends-below m ls x up last)

pub returns-in-Some : goal.returns-in-Some
returns-in-Some c =
    all_below c.args.message c.args.mailboxes.now.letters c.in-Some.letter c.len.ensures.ascending
    (sym (c.in-Some.ensures ∙ ap (slice_get c.args.mailboxes.now.letters) (c.saturating_sub.ensures ∙ ap (λ n. n - 1) c.len.ensures.len)))
