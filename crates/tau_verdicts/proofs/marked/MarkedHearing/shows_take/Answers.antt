use Rattle.std.proofs.Common.{List, Bool, ◌≡◌, false, sym, ◌∙◌, subst}
use Rattle.std.specs.Bool.{OnTrue}
use Rattle.std.specs.Prelude.{IsFalse}
use Rattle.tau_versions.specs.Logs.Told.{Told}
use Rattle.tau_trace.specs.Run.{len}
use Rattle.tau_past.specs.Decisions.{Verdict, takes}
use Rattle.tau_past.specs.Safety.{KeepsRules}
use Rattle.tau_verdicts.specs.Doomed.{flag_of, takers_of}
use Rattle.tau_verdicts.specs.Noting.{AreWell}
use Rattle.tau_verdicts.proofs.Lists.{on_true}
use Rattle.tau_verdicts.proofs.Receipts.{takes_at_once}
use Rattle.tau_verdicts.proofs.marked.MarkedHearing.shows_take.Goals as goal

pub returns : goal.returns
returns c =
    let T = c.args.trace.now.run in
    let h = c.args.self.now in
    let letter = c.letter_of-letter.result.now in
    let D = flag_of h.doomed.items in
    let F : List Told → Type 0 = λ ls. OnTrue c.are_well.result (AreWell ls (flag_of c.deref-3.result.now) letter.roots) in
    let G : List Bool → Type 0 = λ bs. OnTrue c.are_well.result (AreWell h.hearing.logs.items (flag_of bs) letter.roots) in
    let H : List Bool → Type 0 = λ bs. flag_of bs c.args.who ≡ false in
    let fine : IsFalse (D c.args.who) = subst H c.deref.ensures.value (sym c.flag.ensures ∙ c.if-flag.false) in
    on_true c.are_well.result (AreWell h.hearing.logs.items D letter.roots) (KeepsRules T → Verdict T c.args.who (len T) c.args.message takes)
    (takes_at_once T h.hearing c.requires.knows.0 c.len-steps.ensures.well_formed D (takers_of h.takers.items) c.requires.knows.1 c.args.who c.args.message letter c.requires.exists c.requires.in_flight c.letter_of-letter.ensures fine)
    (subst G c.deref-3.ensures.value (subst F c.deref-2.ensures.value c.are_well.ensures))
