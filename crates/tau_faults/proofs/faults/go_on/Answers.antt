use Rattle.std.proofs.Common.{◌≡◌, Some, sym, ◌∙◌, ap, rules}
use Rattle.tau_trace.specs.Run.{Run, step_at, appended}
use Rattle.tau_trace.proofs.Prefix.{prefix, may_follow_prefix}
use Rattle.tau_revival.proofs.Coming.{prefix_next}
use Rattle.tau_faults.proofs.faults.go_on.Goals as goal

pub push_spare-requires-clause-step : goal.push_spare-requires-clause-step
push_spare-requires-clause-step c =
    let T = c.args.trace.now.run in
    let k = c.args.place in
    let stands : step_at T k ≡ Some c.in-Some.step.now = search rules in
    let so_far : c.reserve.new.self.run ≡ prefix T k = c.reserve.ensures.run ∙ c.requires.so_far in
    rw (so_far, c.in_ok-copy.ensures) (may_follow_prefix T k c.in-Some.step.now c.requires.well_formed stands)

pub returns-clause-more : goal.returns-clause-more
returns-clause-more c =
    let T = c.args.trace.now.run in
    let k = c.args.place in
    let s = c.in_ok-copy.field-0 in
    let stands : step_at T k ≡ Some c.in-Some.step.now = search rules in
    let so_far : c.reserve.new.self.run ≡ prefix T k = c.reserve.ensures.run ∙ c.requires.so_far in
    prefix_next T c.reserve.new.self.run c.push_spare.new.self.run k s so_far c.push_spare.ensures (stands ∙ ap Some (sym c.in_ok-copy.ensures))

pub returns-clause-step : goal.returns-clause-step
returns-clause-step c = (c.in_ok-copy.field-0, c.push_spare.ensures ∙ ap (λ (R : Run). appended R c.in_ok-copy.field-0) c.reserve.ensures.run)
