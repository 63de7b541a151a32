use Rattle.std.proofs.Common.{◌≡◌, ◌<◌, ◌≤◌, ℕ, Option, List, length, get_or, slice_get, find, sym, ap, ◌∙◌}
use Rattle.tau_mailbox.specs.declared.letter.Letter.{Letter}
use Rattle.tau_mailbox.specs.Letters.{WithRoom, is_for}
use Rattle.tau_mailbox.specs.Consistent.{IsConsistent}
use Rattle.tau_mailbox.proofs.Lists.{find-filter}
use Rattle.tau_mailbox.proofs.Consistency.{no-home}
use Rattle.tau_mailbox.proofs.mail.Mail.first_for.Goals as goal

-- the first letter of a receiver's part
first-of : (nodes : ℕ) (ps qs : List WithRoom) (ls : List Letter) (q : ℕ) (p : WithRoom) (x : Option Letter) → IsConsistent nodes ps ls → qs ≡ ps → q < length qs → p ≡ get_or qs q p → x ≡ slice_get p.letters 0 → x ≡ find (is_for q) ls
first-of nodes ps qs ls q p x c e lt is first =
    let lt' : q < length ps = rw e at lt in
    let is' : p ≡ get_or ps q p = rw e at is in
    first ∙ ap (λ (r : WithRoom). slice_get r.letters 0) is' ∙ ap (λ (ks : List Letter). slice_get ks 0) (c.by_receiver q p lt') ∙ sym (find-filter (is_for q) ls)

pub returns-in-Some : goal.returns-in-Some
returns-in-Some c =
    rw (← c.self.view_is)
    (first-of c.self.inside.nodes c.self.inside.parts.items _ c.self.inside.order.letters c.args.who c.in-Some.part.now c.at.result c.self.invariant c.deref.ensures.value c.in-Some.ensures.lookup.3.0 c.in-Some.ensures.lookup.1 c.at.ensures)

pub returns-in-None : goal.returns-in-None
returns-in-None c =
    let far : length c.self.inside.parts.items ≤ c.args.who = rw c.deref.ensures.value at c.in-None.ensures.lookup.3 in
    let none = no-home c.self.inside.nodes c.self.inside.parts.items c.self.inside.order.letters c.args.who c.self.invariant far in
    rw (← c.self.view_is) (sym (find-filter (is_for c.args.who) c.self.inside.order.letters ∙ ap (λ (ls : List Letter). slice_get ls 0) none))
