use Rattle.std.proofs.Common.{◌≡◌, ℕ, subst, sym, length, arith}
use Rattle.std.proofs.lemmas.Option.{slice_get-get_or}
use Rattle.tau_layout.specs.Inner.Marking.{AreMarked}
use Rattle.tau_layout.proofs.LaneLemmas.{marked_none, marked_next}
use Rattle.tau_layout.proofs.lanes.marked.Goals as goal

pub loop-who-init : goal.loop-who-init
loop-who-init c = subst (AreMarked c.args.marks.now 0) (sym c.new-all.ensures.items) (marked_none c.args.marks.now)

pub loop-who-preserved : goal.loop-who-preserved
loop-who-preserved c =
    let marks = c.args.marks.now in
    let k = c.loop-who.who in
    marked_next marks k _ c.loop-who.all.items c.add_marked.new.all.items (slice_get-get_or marks k _ (omega (arith, c.loop-who-test.true))) c.in_ok-add_marked.ensures c.loop-who.invariant

pub returns : goal.returns
returns c =
    let is : c.loop-who.who ≡ length c.args.marks.now = omega arith in
    subst (λ (n : ℕ). AreMarked c.args.marks.now n c.loop-who.all.items) is c.loop-who.invariant
