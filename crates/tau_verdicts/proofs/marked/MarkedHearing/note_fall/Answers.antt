use Rattle.std.proofs.Common.{◌≡◌, ◌⊎◌, inl, inr, false, sym, ◌∙◌}
use Rattle.std.specs.Prelude.{IsFalse}
use Rattle.tau_trace.specs.Run.{len}
use Rattle.tau_trace.specs.Histories.{history}
use Rattle.tau_heard.specs.Next.{falls_if_volatile}
use Rattle.tau_verdicts.specs.Doomed.{flag_of, takers_of}
use Rattle.tau_verdicts.proofs.Steps.{fall_leads, stable_leads, faller_takes_none, faller_exists, faller_leaves, stable_leaves}
use Rattle.tau_verdicts.proofs.marked.MarkedHearing.note_fall.Goals as goal
use Rattle.tau_verdicts.proofs.marked.MarkedHearing.note_fall.Goals.{else-falls_if_volatile-via-then-falls_if_volatile+else-is_stable, else-falls_if_volatile-via-else-falls_if_volatile}

pub returns-then-is_stable-clause-ok : goal.returns-then-is_stable-clause-ok
returns-then-is_stable-clause-ok c =
    let T = c.args.trace.now.run in
    let s = c.args.step.now in
    let h = c.args.self.now in
    let lt = faller_exists T s c.args.who c.requires.follows c.requires.by in
    stable_leads T s (flag_of h.doomed.items) (takers_of h.takers.items) c.requires.knows.1 c.args.who c.requires.by (faller_takes_none s c.args.who c.requires.by)
    (sym c.falls_if_volatile.ensures ∙ c.if-falls_if_volatile.true) (sym (c.is_stable.ensures lt) ∙ c.if-is_stable.true)

pub returns-clause-ok : goal.returns-clause-ok
returns-clause-ok c =
    let T = c.args.trace.now.run in
    let s = c.args.step.now in
    let h = c.doom.new.self in
    let lt = faller_exists T s c.args.who c.requires.follows c.requires.by in
    let v : (falls_if_volatile s ≡ false) ⊎ IsFalse (history T c.args.who (len T)).stable = elim c.else-falls_if_volatile.branch [
      | else-falls_if_volatile-via-then-falls_if_volatile+else-is_stable w ↦ inr (sym (w.is_stable.ensures lt) ∙ w.if-is_stable.false)
      | else-falls_if_volatile-via-else-falls_if_volatile w ↦ inl (sym c.falls_if_volatile.ensures ∙ w.if-falls_if_volatile.false)
    ] in
    fall_leads T s (flag_of h.doomed.items) (takers_of h.takers.items) c.doom.ensures.knows.1 c.args.who c.requires.by (faller_takes_none s c.args.who c.requires.by) c.in_ok-doom.ensures.ok v

pub returns-then-is_stable-clause-leaves : goal.returns-then-is_stable-clause-leaves
returns-then-is_stable-clause-leaves c =
    let T = c.args.trace.now.run in
    let s = c.args.step.now in
    let lt = faller_exists T s c.args.who c.requires.follows c.requires.by in
    stable_leaves T s c.args.who c.requires.by (sym c.falls_if_volatile.ensures ∙ c.if-falls_if_volatile.true) (sym (c.is_stable.ensures lt) ∙ c.if-is_stable.true)

pub returns-clause-leaves : goal.returns-clause-leaves
returns-clause-leaves c = faller_leaves c.args.trace.now.run c.args.step.now c.args.who c.requires.by
