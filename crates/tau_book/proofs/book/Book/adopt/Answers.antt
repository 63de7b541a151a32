use Rattle.std.proofs.Common.{◌≡◌, ◌≤◌, ◌∙◌, ℕ, List, fold, length, ap, sym, subst, arith}
use Rattle.tau_trace.specs.Run.{len}
use Rattle.tau_eval.specs.Turn.{TurnSoFar}
use Rattle.tau_queue.specs.OpenTurns.{AreOpenTurns}
use Rattle.tau_queue.specs.ScriptedRun.{ScriptedRun}
use Rattle.tau_queue.proofs.OpenLemmas.{few_turns}
use Rattle.tau_book.specs.Books.{Booked, booked, AreOfDifferentTurns}
use Rattle.tau_book.specs.Offers.{open_jobs, stored}
use Rattle.tau_book.specs.Adopted.{AreMissing, IsAdopted}
use Rattle.tau_book.specs.Inner.Returns.{AreOfTurns}
use Rattle.tau_book.proofs.StoreLemmas.{differ_open, open_of_turns, few_jobs}
use Rattle.tau_book.proofs.AdoptLemmas.{made_of_turns, made_apart, adopted}
use Rattle.tau_book.proofs.book.Book.adopt.Goals as goal

pub overflow_cast-count : goal.overflow_cast-count
overflow_cast-count g c =
    let s : ScriptedRun = c.self.inside.scripted in
    let store : List TurnSoFar = c.self.inside.store.items in
    let made : List TurnSoFar = c.in_ok-made.made.items in
    let are : AreOpenTurns s.system.run s.turns = subst (AreOpenTurns s.system.run) c.turns-turns.ensures.value c.turns-turns.ensures.turns in
    let missing : AreMissing s.system.program s.system.run store s.turns made = subst (λ (js : List TurnSoFar). AreMissing s.system.program s.system.run js s.turns made) c.deref.ensures.value c.in_ok-made.ensures in
    let few_steps : c.self.inside.limit ≤ 1000000 = c.self.invariant.few in
    let few : length made ≤ length s.turns = few_jobs s.turns made (made_apart s.system.program s.system.run store s.turns are made missing) (made_of_turns s.system.program s.system.run store s.turns are made missing) in
    let within : len s.system.run ≤ 1000000 = omega (arith, c.self.invariant.limited, few_steps) in
    omega (arith, few, few_turns s.system.run s.turns are, within, c.len-count.ensures, c.in_ok-made.made.ok.0)

pub give_all-requires-clause-differ : goal.give_all-requires-clause-differ
give_all-requires-clause-differ g c =
    let store : List TurnSoFar = c.self.inside.store.items in
    subst AreOfDifferentTurns (sym c.keep_open.ensures.jobs) (differ_open c.turns-turns.result.now store c.self.invariant.one_each)

pub give_all-requires-clause-open : goal.give_all-requires-clause-open
give_all-requires-clause-open g c =
    let store : List TurnSoFar = c.self.inside.store.items in
    subst (AreOfTurns c.turns-turns.result.now) (sym c.keep_open.ensures.jobs) (open_of_turns c.turns-turns.result.now store)

pub give_all-requires-clause-given : goal.give_all-requires-clause-given
give_all-requires-clause-given g c =
    let s : ScriptedRun = c.self.inside.scripted in
    let store : List TurnSoFar = c.self.inside.store.items in
    let made : List TurnSoFar = c.in_ok-made.made.items in
    let are : AreOpenTurns s.system.run s.turns = subst (AreOpenTurns s.system.run) c.turns-turns.ensures.value c.turns-turns.ensures.turns in
    let missing : AreMissing s.system.program s.system.run store s.turns made = subst (λ (js : List TurnSoFar). AreMissing s.system.program s.system.run js s.turns made) c.deref.ensures.value c.in_ok-made.ensures in
    subst (λ (ts : List ℕ). AreOfTurns ts made) (sym c.turns-turns.ensures.value) (made_of_turns s.system.program s.system.run store s.turns are made missing)

pub returns-clause-ok : goal.returns-clause-ok
returns-clause-ok g c =
    let s : ScriptedRun = c.self.inside.scripted in
    let limit : ℕ = c.self.inside.limit in
    let store : List TurnSoFar = c.self.inside.store.items in
    let after : List TurnSoFar = c.give_all.new.store.items in
    let made : List TurnSoFar = c.in_ok-made.made.items in
    let are : AreOpenTurns s.system.run s.turns = subst (AreOpenTurns s.system.run) c.turns-turns.ensures.value c.turns-turns.ensures.turns in
    let missing : AreMissing s.system.program s.system.run store s.turns made = subst (λ (js : List TurnSoFar). AreMissing s.system.program s.system.run js s.turns made) c.deref.ensures.value c.in_ok-made.ensures in
    let is : after ≡ fold stored (open_jobs s.turns store) made =
    c.give_all.ensures.store ∙ ap (λ (js : List TurnSoFar). fold stored js made) (c.keep_open.ensures.jobs ∙ ap (λ (ts : List ℕ). open_jobs ts store) c.turns-turns.ensures.value) in
    let many : c.len-count.result ≡ length made = omega (arith, c.len-count.ensures, c.in_ok-made.made.ok.0) in
    subst (λ (b : Booked). IsAdopted b (booked s limit after) c.len-count.result) c.self.view_is (adopted s limit store after made s.turns c.len-count.result are missing is c.give_all.ensures.differ many)
