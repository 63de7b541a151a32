use Rattle.std.proofs.Common.{◌≡◌, ◌∙◌, true, false, sym}
use Rattle.std.specs.List.{list_any}
use Rattle.tau_tree.specs.declared.programs.Program.{Program}
use Rattle.tau_trace.specs.Run.{Run}
use Rattle.tau_book.specs.Hands.{is_of}
use Rattle.tau_book.proofs.AdoptLemmas.{turn_passed, turn_made}
use Rattle.tau_book.proofs.adopting.add_missing.Goals as goal

pub returns-then-has_of : goal.returns-then-has_of
returns-then-has_of g c = λ front h.
    let P : Program = c.args.scripted.now.system.program in
    let T : Run = c.args.scripted.now.system.run in
    let has : list_any (is_of c.args.turn) c.args.jobs.now ≡ true = sym c.has_of.ensures ∙ c.if-has_of.true in
    turn_passed P T c.args.jobs.now front c.args.turn c.args.made.now.items has h

pub returns : goal.returns
returns g c = λ front h.
    let P : Program = c.args.scripted.now.system.program in
    let T : Run = c.args.scripted.now.system.run in
    let none : list_any (is_of c.args.turn) c.args.jobs.now ≡ false = sym c.has_of.ensures ∙ c.if-has_of.false in
    turn_made P T c.args.jobs.now front c.args.turn c.args.made.now.items c.push.new.self.items c.in_ok-job.job c.in_ok-push.ensures.items none c.in_ok-job.ensures.place c.in_ok-job.ensures.job h
