use Rattle.std.proofs.Common.{List, Bool, subst}
use Rattle.tau_verdicts.specs.Doomed.{flag_of, takers_of}
use Rattle.tau_verdicts.specs.Noting.{AreAdded}
use Rattle.tau_verdicts.proofs.Steps.{added_doomed}
use Rattle.tau_verdicts.proofs.marked.MarkedHearing.note_points.Goals as goal

pub returns-in_err-noted-clause-knows : goal.returns-in_err-noted-clause-knows
returns-in_err-noted-clause-knows c =
    let h = c.args.self.now in
    let K = takers_of h.takers.items in
    let M = takers_of c.note_all.new.takers.items in
    let F : List Bool → Type 0 = λ bs. AreAdded (flag_of bs) c.args.taker K M in
    (c.requires.knows.0, added_doomed c.args.trace.now.run h.hearing c.requires.knows.0 c.len-steps.ensures.well_formed (flag_of h.doomed.items) K c.requires.knows.1 c.args.taker M c.requires.may (subst F c.deref-2.ensures.value c.note_all.ensures.added), c.requires.knows.2)

pub returns-clause-knows : goal.returns-clause-knows
returns-clause-knows c =
    let h = c.args.self.now in
    let K = takers_of h.takers.items in
    let M = takers_of c.note_all.new.takers.items in
    let F : List Bool → Type 0 = λ bs. AreAdded (flag_of bs) c.args.taker K M in
    (c.requires.knows.0, added_doomed c.args.trace.now.run h.hearing c.requires.knows.0 c.len-steps.ensures.well_formed (flag_of h.doomed.items) K c.requires.knows.1 c.args.taker M c.requires.may (subst F c.deref-2.ensures.value c.note_all.ensures.added), c.requires.knows.2)
