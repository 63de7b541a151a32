-- How the parts follow a change of the list.
use Rattle.std.proofs.Common.{◌≡◌, ◌≢◌, ℕ, ◌<◌, ◌≤◌, true, false, eqb, List, [], ◌∷◌, ◌++◌, length, get_or, filter, sym, ap, ◌∙◌, ⊎_elim, arith}
use Rattle.std.proofs.lemmas.Bool.{cases_eq, cases_lt}
use Rattle.std.proofs.lemmas.Bool.Decides.{nat_tests}
use Rattle.std.proofs.lemmas.List.{append-nil, length-set, get_or-set_same, get_or-set_other}
use Rattle.std.proofs.lemmas.List.Elements.{All-push, All-filter, filter-append}
use Rattle.std.proofs.lemmas.List.Kept.{AllPairs-filter}
use Rattle.std.proofs.lemmas.List.Quantifiers.{all_pairs_push}
use Rattle.tau_mailbox.specs.declared.letter.Letter.{Letter}
use Rattle.tau_mailbox.specs.Letters.{WithRoom, is_for, is_other, AllBelow}
use Rattle.tau_mailbox.specs.Parts.{ChangesAt, Gains, Loses, Widens}
use Rattle.tau_mailbox.specs.Consistent.{IsConsistent}
use Rattle.tau_mailbox.proofs.Lists.{filter-comm, filter-none}
use Rattle.tau_mailbox.proofs.Leaving.{Leaves, split-leaving, others-left, held-by}

-- a change of one part keeps their number
pub length-changed : (i : ℕ) (R : WithRoom → WithRoom → Type 0) (ps qs : List WithRoom) → ChangesAt i R ps qs → length qs ≡ length ps
length-changed i R ps qs change = rw change.is (length-set ps i change.part)

-- parts that are right before are right after, where the changed one is and the others stay so
by-receiver : (i : ℕ) (R : WithRoom → WithRoom → Type 0) (ps qs : List WithRoom) (old new : List Letter) → i < length ps → ChangesAt i R ps qs
    → ((n : ℕ) (d : WithRoom) → n < length ps → (get_or ps n d).letters ≡ filter (is_for n) old)
    → ((p q : WithRoom) → R p q → p.letters ≡ filter (is_for i) old → q.letters ≡ filter (is_for i) new)
    → ((n : ℕ) → n ≢ i → filter (is_for n) old ≡ filter (is_for n) new)
    → (n : ℕ) (d : WithRoom) → n < length qs → (get_or qs n d).letters ≡ filter (is_for n) new
by-receiver i R ps qs old new lt change right here others n d within = ⊎_elim same apart (cases_eq n i)
  where
    short : n < length ps
    short = omega (arith, length-changed i R ps qs change)

    same : n ≡ i → (get_or qs n d).letters ≡ filter (is_for n) new
    same e = rw (e, change.is, get_or-set_same ps i change.part d lt) (here (get_or ps i d) change.part (change.related d) (right i d lt))

    apart : n ≢ i → (get_or qs n d).letters ≡ filter (is_for n) new
    apart ne = rw (change.is, get_or-set_other ps i n change.part d ne) (right n d short ∙ others n ne)

-- a letter arrives
pub consistent-arrived : (nodes : ℕ) (ps qs : List WithRoom) (ls : List Letter) (x : Letter) → IsConsistent nodes ps ls → x.who < length ps → x.node < nodes → AllBelow x.message ls → ChangesAt x.who (Gains x) ps qs
    → IsConsistent nodes qs (ls ++ x ∷ [])
consistent-arrived nodes ps qs ls x c lt at last change =
    let len = length-changed x.who (Gains x) ps qs change in
    let itself : eqb x.who x.who ≡ true = grind (arith, nat_tests) in
    record {
      ascending = all_pairs_push (λ (a b : Letter). a.message < b.message) ls x c.ascending (λ k d within. last k d within);
      homes = rw len (All-push (λ (l : Letter). l.who < length ps) ls x c.homes lt);
      at_nodes = All-push (λ (l : Letter). l.node < nodes) ls x c.at_nodes at;
      by_receiver = by-receiver x.who (Gains x) ps qs ls (ls ++ x ∷ []) lt change c.by_receiver
          (λ p q k e. k.0 ∙ rw (filter-append (is_for x.who) ls (x ∷ []), itself) (ap (λ ys. ys ++ x ∷ []) e))
          (λ n ne. let other : eqb x.who n ≡ false = grind (arith, nat_tests) in rw (filter-append (is_for n) ls (x ∷ []), other) (sym (append-nil (filter (is_for n) ls))));
    }

-- a letter leaves
pub consistent-left : (nodes : ℕ) (ps qs : List WithRoom) (old new : List Letter) (x : Letter) → IsConsistent nodes ps old → x.who < length ps → Leaves x old new → ChangesAt x.who (Loses x.message) ps qs → IsConsistent nodes qs new
consistent-left nodes ps qs old new x c lt leaves change =
    let len = length-changed x.who (Loses x.message) ps qs change in
    record {
      ascending = rw leaves.rest (AllPairs-filter (λ (a b : Letter). a.message < b.message) (is_other x.message) old c.ascending);
      homes = rw (len, leaves.rest) (All-filter (is_other x.message) (λ (l : Letter). l.who < length ps) old c.homes);
      at_nodes = rw leaves.rest (All-filter (is_other x.message) (λ (l : Letter). l.node < nodes) old c.at_nodes);
      by_receiver = by-receiver x.who (Loses x.message) ps qs old new lt change c.by_receiver
          (λ p q k e. k.0 ∙ rw (e, leaves.rest) (filter-comm (is_other x.message) (is_for x.who) old))
          (λ n ne. others-left x old new n (split-leaving x old new leaves) (grind (arith, nat_tests)));
    }

-- the letter that leaves has a part
pub home-of : (nodes : ℕ) (ps : List WithRoom) (old new : List Letter) (x : Letter) → IsConsistent nodes ps old → Leaves x old new → x.who < length ps
home-of nodes ps old new x c leaves = held-by x old new (λ l. l.who < length ps) c.homes (split-leaving x old new leaves)

-- no letter is for a receiver without a part
pub no-home : (nodes : ℕ) (ps : List WithRoom) (ls : List Letter) (q : ℕ) → IsConsistent nodes ps ls → length ps ≤ q → filter (is_for q) ls ≡ []
no-home nodes ps ls q c far = filter-none (is_for q) ls (λ k d lt. let home = c.homes k d lt in grind (arith, nat_tests))

-- there come more parts
pub consistent-widened : (nodes : ℕ) (ps qs : List WithRoom) (ls : List Letter) → IsConsistent nodes ps ls → Widens ps qs → IsConsistent nodes qs ls
consistent-widened nodes ps qs ls c w = record {
  ascending = c.ascending;
  homes = λ k d lt. omega (arith, c.homes k d lt, w.longer);
  at_nodes = c.at_nodes;
  by_receiver = λ q d lt. ⊎_elim (λ short. (w.kept q d short).0 ∙ c.by_receiver q d short) (λ far. w.fresh q d far lt ∙ sym (no-home nodes ps ls q c far)) (cases_lt q (length ps));
}
