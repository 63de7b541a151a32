use Rattle.std.proofs.Common.{◌≡◌, ◌∙◌, true, false, sym, subst}
use Rattle.tau_trace.specs.Known.{WellFormed}
use Rattle.tau_legal.specs.Traces.{Fitting}
use Rattle.tau_legal.proofs.TraceLemmas.{legal_fitting}
use Rattle.tau_failures.specs.LegalRun.{NothingLeft}
use Rattle.tau_queue.specs.ScriptedRun.{ScriptedRun}
use Rattle.tau_queue.proofs.Ends.{nothing_left, no_turns_left, no_letters_left}
use Rattle.tau_queue.proofs.scripted.Scripted.has_nothing_left.Goals as goal

pub returns-then-not-has_no_turn : goal.returns-then-not-has_no_turn
returns-then-not-has_no_turn g c = (
  λ h. absurd (cc),
  λ left.
      let s = c.self.inside in
      let here : NothingLeft s.legal.system.run = subst (λ (r : ScriptedRun). NothingLeft r.system.run) (sym c.self.view_is) left in
      let both : false ≡ true = sym c.if-not-has_no_turn.true ∙ c.has_no_turn.ensures.1 (no_turns_left s.legal.system.run s.index.turns.items c.self.invariant.turns_are here) in
      absurd (cc),
)

pub returns : goal.returns
returns g c =
    let s = c.self.inside in (
      λ h. subst (λ (r : ScriptedRun). NothingLeft r.system.run) c.self.view_is
          (nothing_left s.legal.system.program s.legal.system.run s.index.mailboxes.letters s.index.turns.items (subst WellFormed c.trace-trace.ensures.run c.trace-trace.ensures.well_formed) (subst (Fitting s.legal.system.program) c.trace-trace.ensures.run (legal_fitting s.legal.system.program c.trace-trace.result.now.run c.trace-trace.ensures.legal)) c.self.invariant.letters_are c.self.invariant.turns_are (c.has_no_turn.ensures.0 c.if-not-has_no_turn.false) (c.is_empty.ensures.0 h)),
      λ left. c.is_empty.ensures.1 (no_letters_left s.legal.system.run s.index.mailboxes.letters c.self.invariant.letters_are (subst (λ (r : ScriptedRun). NothingLeft r.system.run) (sym c.self.view_is) left)),
    )
