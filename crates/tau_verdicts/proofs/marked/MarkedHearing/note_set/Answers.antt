use Rattle.std.proofs.Common.{List, inl, inr, subst}
use Rattle.tau_points.specs.declared.point.Point.{Point}
use Rattle.tau_heard.specs.declared.hearing.Hearing.{Hearing}
use Rattle.tau_verdicts.specs.Doomed.{flag_of, takers_of}
use Rattle.tau_verdicts.specs.Noting.{AreListed}
use Rattle.tau_verdicts.proofs.Steps.{set_leads_on}
use Rattle.tau_verdicts.proofs.marked.MarkedHearing.note_set.Goals as goal

pub returns-then-branch-clause-ok : goal.returns-then-branch-clause-ok
returns-then-branch-clause-ok c =
    let h = c.args.self.now in
    let g = c.note_points.new.self in
    let me = c.point_of-me.result in
    let F : Hearing → Type 0 = λ k. AreListed k.logs.items (takers_of g.takers.items) me c.deref.result.now in
    let G : List Point → Type 0 = λ ps. AreListed h.hearing.logs.items (takers_of g.takers.items) me ps in
    set_leads_on c.args.trace.now.run c.args.step.now c.args.who c.requires.by h.hearing c.requires.knows.0 c.len-steps.ensures.well_formed (flag_of g.doomed.items) (takers_of g.takers.items) c.note_points.ensures.knows.1 c.requires.exists
    me c.point_of-me.ensures c.requires.kind c.in_ok-points.points.items c.in_ok-points.ensures (inr (subst G c.deref.ensures.value (subst F c.note_points.ensures.hearing (c.in_ok-note_points.ensures.listed c.if-branch.true))))

pub returns-clause-ok : goal.returns-clause-ok
returns-clause-ok c =
    let h = c.args.self.now in
    let g = c.doom.new.self in
    set_leads_on c.args.trace.now.run c.args.step.now c.args.who c.requires.by h.hearing c.requires.knows.0 c.len-steps.ensures.well_formed (flag_of g.doomed.items) (takers_of g.takers.items) c.doom.ensures.knows.1 c.requires.exists
    c.point_of-me.result c.point_of-me.ensures c.requires.kind c.in_ok-points.points.items c.in_ok-points.ensures (inl c.in_ok-doom.ensures.ok)
