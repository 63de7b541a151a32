use Rattle.std.proofs.Common.{◌≡◌, ◌∙◌, ◌<◌, ◌++◌, ◌∷◌, [], ℕ, List, sym, ap, subst}
use Rattle.tau_mailbox.specs.declared.letter.Letter.{Letter}
use Rattle.tau_mailbox.specs.Letters.{AllBelow}
use Rattle.tau_trace.specs.declared.step.Step.TheVariants.{Repeat}
use Rattle.tau_trace.specs.Run.{Run, len}
use Rattle.tau_trace.specs.Known.{WellFormed}
use Rattle.tau_trace.specs.Numbering.{sent, Receives, IsHome, InFlight}
use Rattle.tau_script.specs.Scripts.{DueStep}
use Rattle.tau_legal.proofs.ReceiverLemmas.{receivers_of_fitting}
use Rattle.tau_legal.proofs.TraceLemmas.{legal_fitting}
use Rattle.tau_rules.specs.System.{Core}
use Rattle.tau_failures.proofs.DueLemmas.{due_object, repeats_in_flight}
use Rattle.tau_queue.specs.ScriptedRun.{ScriptedRun}
use Rattle.tau_queue.proofs.FlightLemmas.{letters_below}
use Rattle.tau_queue.proofs.Steps.{after_repeat, of_lists}
use Rattle.tau_queue.proofs.scripted.Scripted.repeat.Goals as goal

pub copy_of-copy-requires-clause-exists : goal.copy_of-copy-requires-clause-exists
copy_of-copy-requires-clause-exists g c =
    let s = c.self.inside in
    let old : Core = s.legal.system in
    let due : DueStep old.program.script old.run (len old.run) (Repeat c.args.message) = subst (λ (r : ScriptedRun). DueStep r.system.program.script r.system.run (len r.system.run) (Repeat c.args.message)) (sym c.self.view_is) c.requires.due in
    let f : InFlight old.run c.args.message (len old.run) = repeats_in_flight old.run (len old.run) c.args.message (due_object old.program old.run (Repeat c.args.message) due) in
    subst (λ (T : Run). c.args.message < sent T (len T)) (sym c.trace.ensures.run) f.exists

pub copy_of-copy-requires-clause-received : goal.copy_of-copy-requires-clause-received
copy_of-copy-requires-clause-received g c =
    let s = c.self.inside in
    let old : Core = s.legal.system in
    let due : DueStep old.program.script old.run (len old.run) (Repeat c.args.message) = subst (λ (r : ScriptedRun). DueStep r.system.program.script r.system.run (len r.system.run) (Repeat c.args.message)) (sym c.self.view_is) c.requires.due in
    let f : InFlight old.run c.args.message (len old.run) = repeats_in_flight old.run (len old.run) c.args.message (due_object old.program old.run (Repeat c.args.message) due) in
    let there = subst (λ (T : Run). c.args.message < sent T (len T)) (sym c.trace.ensures.run) f.exists in
    receivers_of_fitting old.program c.trace.result.now.run c.args.message (legal_fitting old.program c.trace.result.now.run c.trace.ensures.legal) there

pub put-requires-clause-node : goal.put-requires-clause-node
put-requires-clause-node g c =
    let s = c.self.inside in
    let copy : Letter = c.copy_of-copy.result in
    let below : copy.node < s.legal.system.run.opening.nodes = subst (λ (T : Run). copy.node < T.opening.nodes) c.trace.ensures.run c.copy_of-copy.ensures.node in
    subst (λ (n : ℕ). copy.node < n) (sym (c.in_ok-reserve_for.ensures.same.nodes ∙ c.self.invariant.nodes_are)) below

pub put-requires-clause-last : goal.put-requires-clause-last
put-requires-clause-last g c =
    let s = c.self.inside in
    let copy : Letter = c.copy_of-copy.result in
    let number : copy.message ≡ sent s.legal.system.run (len s.legal.system.run) = c.copy_of-copy.ensures.message ∙ ap (λ (T : Run). sent T (len T)) c.trace.ensures.run in
    subst (λ (n : ℕ). AllBelow n c.reserve_for.new.self.mailboxes.letters) (sym number)
    (subst (λ (ls : List Letter). AllBelow (sent s.legal.system.run (len s.legal.system.run)) ls) (sym c.in_ok-reserve_for.ensures.same.letters) (letters_below s.legal.system.run s.index.mailboxes.letters c.self.invariant.letters_are))

pub invariant_of-self-2 : goal.invariant_of-self-2
invariant_of-self-2 g c =
    let s = c.self.inside in
    let old : Core = s.legal.system in
    let new : Core = c.make_due.new.self.system in
    let copy : Letter = c.copy_of-copy.result in
    let well : WellFormed old.run = subst WellFormed c.trace.ensures.run c.trace.ensures.well_formed in
    let number : copy.message ≡ sent old.run (len old.run) = c.copy_of-copy.ensures.message ∙ ap (λ (T : Run). sent T (len T)) c.trace.ensures.run in
    let receiver : Receives old.run c.args.message copy.who = subst (λ (T : Run). Receives T c.args.message copy.who) c.trace.ensures.run c.copy_of-copy.ensures.receiver in
    let home : IsHome old.run copy.who copy.node = subst (λ (T : Run). IsHome T copy.who copy.node) c.trace.ensures.run c.copy_of-copy.ensures.home in
    of_lists new.run s.index.mailboxes.nodes c.put.new.self.mailboxes.nodes (s.index.mailboxes.letters ++ copy ∷ []) c.put.new.self.mailboxes.letters s.index.mailboxes.busy c.put.new.self.mailboxes.busy
    s.index.turns.items c.put.new.self.turns.items
    (c.put.ensures.nodes ∙ c.in_ok-reserve_for.ensures.same.nodes)
    (c.put.ensures.letters ∙ ap (λ (ls : List Letter). ls ++ copy ∷ []) c.in_ok-reserve_for.ensures.same.letters)
    (c.put.ensures.busy ∙ c.in_ok-reserve_for.ensures.same.busy)
    (ap (λ t. t.items) c.put.ensures.turns ∙ c.in_ok-reserve_for.ensures.same.turns)
    (after_repeat old new s.index.mailboxes.nodes s.index.mailboxes.letters s.index.mailboxes.busy s.index.turns.items c.self.invariant well c.make_due.ensures.well_formed c.make_due.ensures.legal
    c.args.message copy c.in_ok-make_due.ensures.ok number receiver home)

pub returns-clause-turns : goal.returns-clause-turns
returns-clause-turns g c =
    subst (λ (r : ScriptedRun). c.put.new.self.turns.items ≡ r.turns) c.self.view_is (ap (λ t. t.items) c.put.ensures.turns ∙ c.in_ok-reserve_for.ensures.same.turns)
