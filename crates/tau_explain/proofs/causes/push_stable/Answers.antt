use Rattle.std.proofs.Common.{arith, subst, sym, refl, ℕ}
use Rattle.tau_trace.specs.declared.step.Step.TheVariants.{Stabilize}
use Rattle.tau_trace.specs.Run.{Run}
use Rattle.tau_trace.specs.Points.{Stabilizes}
use Rattle.tau_trace.proofs.Quiet.{acts}
use Rattle.tau_past.specs.Tables.{TellsMade}
use Rattle.tau_explain.specs.Inner.Causes.{StabilizedAt}
use Rattle.tau_explain.proofs.CauseLemmas.{stable_one, adds_nothing, marked_read, unmarked_read}
use Rattle.tau_explain.proofs.causes.push_stable.Goals as goal
use Rattle.tau_explain.proofs.causes.push_stable.Goals.{else-marks-place-via-then-marks-place+else-is_stabilize, else-marks-place-via-else-marks-place}

pub returns-in_ok-push : goal.returns-in_ok-push
returns-in_ok-push c =
    let T = c.args.index.now in
    stable_one T c.args.marks.now c.args.place c.in-Some.made c.args.points.now.items c.push.new.self.items (subst (TellsMade T c.args.place) c.in-Some.is c.made_at.ensures)
    (subst (λ (r : Run). (t : ℕ) × Stabilizes r t c.args.place) (sym c.requires.trace) (c.is_stabilize.ensures.0 c.if-is_stabilize.true))
    (marked_read c.args.marks.now c.args.place _ (omega (arith, c.requires.place, c.requires.marks)) c.if-marks-place.true) c.in_ok-push.ensures.items

pub returns-in_default : goal.returns-in_default
returns-in_default c =
    let T = c.args.index.now in
    let none = subst (TellsMade T c.args.place) c.in_default.is c.made_at.ensures in
    adds_nothing (StabilizedAt T c.args.marks.now c.args.place) c.args.points.now.items (λ q s. none q.who (acts T q.who c.args.place (Stabilize q.who) s.stabilizes refl))

pub returns-else-marks-place : goal.returns-else-marks-place
returns-else-marks-place c =
    let T = c.args.index.now in
    adds_nothing (StabilizedAt T c.args.marks.now c.args.place) c.args.points.now.items (λ q s. elim c.else-marks-place.branch [
      | else-marks-place-via-then-marks-place+else-is_stabilize w ↦
          let t = w.is_stabilize.ensures.1 (q.who, subst (λ (r : Run). Stabilizes r q.who c.args.place) c.requires.trace s.stabilizes) in let f = w.if-is_stabilize.false in cc
      | else-marks-place-via-else-marks-place w ↦ unmarked_read c.args.marks.now c.args.place _ (omega (arith, c.requires.place, c.requires.marks)) w.if-marks-place.false s.marked
    ])
