use Rattle.std.proofs.Common.{◌≡◌, ◌-◌, subst, arith}
use Rattle.std.proofs.lemmas.Option.{slice_get-get_or}
use Rattle.tau_states.specs.Opening.{opening_states}
use Rattle.tau_scene.specs.Notes.Inner.Noting.{AreLooksTo}
use Rattle.tau_scene.proofs.Noting.{looks_none, looks_next, looks_all}
use Rattle.tau_scene.proofs.notes.steps.step_looks.Goals as goal

pub loop-place-init : goal.loop-place-init
loop-place-init c = record {
  least = omega arith;
  holds = c.in_ok-states.ensures;
  looks = looks_none c.args.program.now c.args.trace.now.run c.args.window.from c.args.cut.now c.new-looks.result.items c.new-looks.ensures.items;
}

pub loop-place-preserved : goal.loop-place-preserved
loop-place-preserved c =
    let P = c.args.program.now in
    let T = c.args.trace.now.run in
    let k = c.loop-place.place in
    let h = c.in_ok-next_look.ensures.states (opening_states P.starts) c.loop-place.invariant.holds in
    record {
      least = omega (arith, c.loop-place.invariant.least);
      holds = h;
      looks = looks_next P T c.args.window c.args.cut.now k c.args.marks.now _ _ c.next_look.new.states.records c.loop-place.looks.items c.push.new.self.items c.loop-place.invariant.least (omega (arith, c.loop-place-test.true)) c.requires.marks
          (slice_get-get_or c.args.marks.now (k - c.args.window.from) _ (omega (arith, c.loop-place.invariant.least, c.loop-place-test.true, c.requires.marks.count_is)))
          h c.in_ok-next_look.ensures.look c.in_ok-push.ensures.items c.loop-place.invariant.looks;
    }

pub returns : goal.returns
returns c =
    let all : c.loop-place.place ≡ c.args.window.to = omega (arith, c.loop-place-test.false, c.loop-place.auto.place-end, c.requires.ordered) in
    looks_all c.args.program.now c.args.trace.now.run c.args.window c.args.cut.now c.loop-place.looks.items (subst (λ n. AreLooksTo c.args.program.now c.args.trace.now.run c.args.window.from n c.args.cut.now c.loop-place.looks.items) all c.loop-place.invariant.looks)
