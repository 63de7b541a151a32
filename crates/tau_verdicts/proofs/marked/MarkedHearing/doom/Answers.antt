use Rattle.std.proofs.Common.{List, Bool, subst}
use Rattle.std.specs.declared.alloc.Global.{Global}
use Rattle.std.specs.declared.vec.Vec.{Vec}
use Rattle.tau_points.specs.declared.point.Point.{Point}
use Rattle.tau_versions.specs.Logs.Told.{Told}
use Rattle.tau_verdicts.specs.Doomed.{flag_of, takers_of}
use Rattle.tau_verdicts.specs.Spreading.{IsSpread}
use Rattle.tau_verdicts.proofs.Steps.{spread_doomed}
use Rattle.tau_verdicts.proofs.marked.MarkedHearing.doom.Goals as goal

pub returns-clause-knows : goal.returns-clause-knows
returns-clause-knows c =
    let h = c.args.self.now in
    let E = flag_of c.in_ok-doomed.doomed.items in
    let F : List Told → Type 0 = λ ls. IsSpread ls (takers_of c.deref-3.result.now) c.args.who (flag_of c.deref-4.result.now) E in
    let G : List (Vec Point Global) → Type 0 = λ ks. IsSpread h.hearing.logs.items (takers_of ks) c.args.who (flag_of c.deref-4.result.now) E in
    let H : List Bool → Type 0 = λ bs. IsSpread h.hearing.logs.items (takers_of h.takers.items) c.args.who (flag_of bs) E in
    let spread = subst H c.deref-4.ensures.value (subst G c.deref-3.ensures.value (subst F c.deref-2.ensures.value c.in_ok-doomed.ensures)) in
    (c.requires.knows.0, spread_doomed c.args.trace.now.run h.hearing c.requires.knows.0 c.len-steps.ensures.well_formed (flag_of h.doomed.items) (takers_of h.takers.items) c.requires.knows.1 c.args.who E spread, c.requires.knows.2)
