use Rattle.std.proofs.Common.{ap, sym, ◌∙◌, subst}
use Rattle.tau_view.specs.Entries.{entries_of}
use Rattle.tau_view.specs.Inner.Places.{IsAt, IsGap}
use Rattle.tau_view.specs.Stored.{history_in}
use Rattle.tau_view.proofs.Ascending.{gap_none}
use Rattle.tau_view.proofs.Entries.{got}
use Rattle.tau_view.proofs.histories.Histories.get.Goals as goal

pub returns-in-Ok : goal.returns-in-Ok
returns-in-Ok c =
    let found = subst (λ es. IsAt c.args.who (entries_of es) c.in-Ok.place) c.deref.ensures.value c.in-Ok.ensures.found in
    sym (ap (λ es. history_in es c.args.who) (sym c.self.view_is)
    ∙ got c.self.inside.entries.items c.args.who c.in-Ok.place c.index.result.now c.self.invariant found c.index.ensures)

pub returns-in-Err : goal.returns-in-Err
returns-in-Err c =
    let gap = subst (λ es. IsGap c.args.who (entries_of es) c.in-Err.field-0) c.deref.ensures.value c.in-Err.ensures.gap in
    sym (ap (λ es. history_in es c.args.who) (sym c.self.view_is) ∙ gap_none c.args.who c.in-Err.field-0 (entries_of c.self.inside.entries.items) gap)
