use Rattle.std.proofs.Common.{arith, Bool, List, length, ap, sym, subst, take, drop, ◌++◌}
use Rattle.tau_explain.specs.Inner.Hearing.{MarksOne, MarksNeeds}
use Rattle.tau_explain.proofs.HearingLemmas.{written, actor_born, heard_within, needs_marked}
use Rattle.tau_explain.proofs.hearing.mark_needs.Goals as goal

pub mark-requires : goal.mark-requires
mark-requires c = λ k e. omega (arith, actor_born c.args.trace.now.run c.args.place k c.actor_at.result c.requires.well_formed c.actor_at.ensures e, c.requires.marks.transactors, ap (λ (l : List Bool). length l) c.deref_mut.ensures.value)

pub mark-requires-2 : goal.mark-requires-2
mark-requires-2 c = λ k e. omega (arith, heard_within c.args.trace.now.run c.args.place k c.heard_from.result c.heard_from.ensures e, c.requires.marks.places, ap (λ (l : List Bool). length l) c.deref_mut-2.ensures.value)

pub returns : goal.returns
returns c =
    let T = c.args.trace.now.run in
    let k = c.args.place in
    let known = c.args.marks.now.known in
    let entered = c.args.marks.now.entered in
    let first : MarksOne c.actor_at.result entered.items c.mark.new.marks = subst (λ (l : List Bool). MarksOne c.actor_at.result l c.mark.new.marks) c.deref_mut.ensures.value c.mark.ensures in
    let second : MarksOne c.heard_from.result known.items c.mark-2.new.marks = subst (λ (l : List Bool). MarksOne c.heard_from.result l c.mark-2.new.marks) c.deref_mut-2.ensures.value c.mark-2.ensures in
    let is_entered = written entered.len c.mark.new.marks entered.items first.count (omega (arith, entered.ok.0)) in
    let is_known = written known.len c.mark-2.new.marks known.items second.count (omega (arith, known.ok.0)) in
    subst (λ (l : List Bool). MarksNeeds T k known.items l entered.items (take entered.len (c.mark.new.marks ++ drop (length c.mark.new.marks) entered.items))) (sym is_known)
    (subst (λ (l : List Bool). MarksNeeds T k known.items c.mark-2.new.marks entered.items l) (sym is_entered)
    (needs_marked T k c.actor_at.result c.heard_from.result known.items c.mark-2.new.marks entered.items c.mark.new.marks c.actor_at.ensures c.heard_from.ensures first second c.requires.marks))
