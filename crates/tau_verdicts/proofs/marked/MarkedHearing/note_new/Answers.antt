use Rattle.std.proofs.Common.{List, inl, inr, ◌∙◌, subst, arith}
use Rattle.tau_points.specs.declared.point.Point.{Point}
use Rattle.tau_heard.specs.declared.hearing.Hearing.{Hearing}
use Rattle.tau_past.specs.Carried.{first_point}
use Rattle.tau_verdicts.specs.Doomed.{flag_of, takers_of}
use Rattle.tau_verdicts.specs.Noting.{AreListed}
use Rattle.tau_verdicts.proofs.Steps.{new_leads}
use Rattle.tau_verdicts.proofs.marked.MarkedHearing.note_new.Goals as goal

pub returns-then-branch-clause-ok : goal.returns-then-branch-clause-ok
returns-then-branch-clause-ok c =
    let h = c.args.self.now in
    let g = c.note_points.new.self in
    let F : Hearing → Type 0 = λ k. AreListed k.logs.items (takers_of g.takers.items) (first_point c.in-Ok.born) c.deref.result.now in
    let G : List Point → Type 0 = λ ps. AreListed h.hearing.logs.items (takers_of g.takers.items) (first_point c.in-Ok.born) ps in
    new_leads c.args.trace.now.run c.args.step.now c.args.who c.requires.by h.hearing c.requires.knows.0 c.len-steps.ensures.well_formed (flag_of g.doomed.items) (takers_of g.takers.items) c.note_points.ensures.knows.1
    c.kept_of.result.now c.kept_of.ensures c.point_of-me.result c.point_of-me.ensures c.requires.kind c.in-Ok.born (omega (arith, c.requires.knows.0.logs_are.count, c.in-Ok.ensures, c.len.ensures))
    (inr (subst G (c.deref.ensures.value ∙ c.in_ok-points.ensures) (subst F c.note_points.ensures.hearing (c.in_ok-note_points.ensures.listed c.if-branch.true))))

pub returns-clause-ok : goal.returns-clause-ok
returns-clause-ok c =
    let h = c.args.self.now in
    let g = c.doom.new.self in
    new_leads c.args.trace.now.run c.args.step.now c.args.who c.requires.by h.hearing c.requires.knows.0 c.len-steps.ensures.well_formed (flag_of g.doomed.items) (takers_of g.takers.items) c.doom.ensures.knows.1
    c.kept_of.result.now c.kept_of.ensures c.point_of-me.result c.point_of-me.ensures c.requires.kind c.in-Ok.born (omega (arith, c.requires.knows.0.logs_are.count, c.in-Ok.ensures, c.len.ensures)) (inl c.in_ok-doom.ensures.ok)
