use Rattle.std.proofs.Common.{◌∙◌, List, Bool, length, ap, subst}
use Rattle.std.proofs.lemmas.Result.{IfOk-weaker}
use Rattle.tau_trace.specs.Run.{len}
use Rattle.tau_states.specs.Opening.{opening_states}
use Rattle.tau_cut.specs.Inner.Keeping.{AreKept}
use Rattle.tau_cut.proofs.LineLemmas.{states_are}
use Rattle.tau_cut.proofs.states.states_with.Goals as goal

pub states_kept-requires-clause-marks : goal.states_kept-requires-clause-marks
states_kept-requires-clause-marks c = ap (λ (l : List Bool). length l) c.deref.ensures.value ∙ c.in_ok-marks.ensures.length

pub returns-clause-kept : goal.returns-clause-kept
returns-clause-kept c =
    let P = c.args.program.now in
    let T = c.args.trace.now.run in
    IfOk-weaker c.states_kept.result _ _
    (λ e are. states_are P T c.in_ok-marks.marks.items _ e.kept c.in_ok-marks.ensures.marked
    (subst (λ (l : List Bool). AreKept T (opening_states P.starts) l (len T) e.kept) c.deref.ensures.value are))
    c.states_kept.ensures.kept
