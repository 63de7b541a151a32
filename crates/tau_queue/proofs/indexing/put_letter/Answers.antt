use Rattle.std.proofs.Common.{◌≡◌, ◌∙◌, ◌+◌, ◌∷◌, ◌++◌, ℕ, List, [], sym, subst, arith}
use Rattle.std.proofs.lemmas.Result.{on_ok_weaker}
use Rattle.tau_mailbox.specs.declared.letter.Letter.{Letter}
use Rattle.tau_mailbox.specs.Letters.{AllBelow}
use Rattle.tau_trace.specs.Run.{Run, len}
use Rattle.tau_trace.specs.Numbering.{Receives, InFlight}
use Rattle.tau_queue.specs.Flight.{IsWaiting}
use Rattle.tau_queue.specs.Inner.Scans.{AreLettersBelow}
use Rattle.tau_queue.proofs.ScanLemmas.{letters_before, letter_passed, letter_put, taken_out, still_in_flight}
use Rattle.tau_queue.proofs.indexing.put_letter.Goals as goal

pub returns-then-is_some-clause-letters : goal.returns-then-is_some-clause-letters
returns-then-is_some-clause-letters c =
    let T : Run = c.args.trace.now.run in
    letter_passed T c.args.message c.args.mailboxes.now.letters (taken_out T c.args.message c.ended_by.result c.ended_by.ensures (sym c.is_some.ensures ∙ c.if-is_some.true)) c.requires.below

pub arrive-requires-clause-node : goal.arrive-requires-clause-node
arrive-requires-clause-node c = omega (arith, c.letter_of.ensures.node, c.requires.nodes)

pub arrive-requires-clause-last : goal.arrive-requires-clause-last
arrive-requires-clause-last c =
    subst (λ (n : ℕ). AllBelow n c.args.mailboxes.now.letters) (sym c.letter_of.ensures.message) (letters_before c.args.trace.now.run c.args.message c.args.mailboxes.now.letters c.requires.below)

pub returns-clause-letters : goal.returns-clause-letters
returns-clause-letters c =
    let T : Run = c.args.trace.now.run in
    let x : Letter = c.letter_of.result in
    let ls : List Letter = c.args.mailboxes.now.letters in
    let is : x.message ≡ c.args.message = c.letter_of.ensures.message in
    let flies : InFlight T c.args.message (len T) = still_in_flight T c.args.message c.ended_by.result c.requires.exists c.ended_by.ensures (sym c.is_some.ensures ∙ c.if-is_some.false) in
    let waits : IsWaiting T x = record {
      in_flight = subst (λ (m : ℕ). InFlight T m (len T)) (sym is) flies;
      receiver = subst (λ (m : ℕ). Receives T m x.who) (sym is) c.letter_of.ensures.receiver;
      home = c.letter_of.ensures.home;
    } in
    let put : AreLettersBelow T (x.message + 1) (ls ++ x ∷ []) = letter_put T x ls c.len-len.ensures.well_formed.opening waits (subst (λ (n : ℕ). AreLettersBelow T n ls) (sym is) c.requires.below) in
    on_ok_weaker c.arrive.result
    (λ (e : c.arrive.new.self.letters ≡ ls ++ x ∷ []). subst (λ (n : ℕ). AreLettersBelow T (n + 1) c.arrive.new.self.letters) is (subst (λ (ks : List Letter). AreLettersBelow T (x.message + 1) ks) (sym e) put))
    c.arrive.ensures.ok
