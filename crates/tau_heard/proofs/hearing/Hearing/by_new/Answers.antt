use Rattle.std.proofs.Common.{ℕ, List, [], false, refl, sym, ap, ◌∙◌, subst}
use Rattle.tau_points.specs.declared.point.Point.{Point}
use Rattle.tau_trace.specs.Run.{len, appended}
use Rattle.tau_trace.proofs.Lists.{same_some}
use Rattle.tau_heard.specs.declared.own.Own.{Own}
use Rattle.tau_heard.specs.Bounds.{AreRaised}
use Rattle.tau_heard.specs.Facts.{TakesAlong}
use Rattle.tau_heard.specs.Next.{IsFirstLog}
use Rattle.tau_heard.proofs.Sending.{new_of, new_leads}
use Rattle.tau_heard.proofs.hearing.Hearing.by_new.Goals as goal

pub returns : goal.returns
returns c =
    let kind = new_of c.args.step.now c.args.who c.requires.kind c.requires.by in
    let F : List Point → Type 0 = IsFirstLog c.in_ok-newborn.field-0 in
    let first = subst F c.deref.ensures.value (record { versions = c.in_ok-newborn.ensures.versions; takes = c.in_ok-newborn.ensures.takes; tells = c.in_ok-newborn.ensures.tells }) in
    let G : Own → List Point → Type 0 = TakesAlong (appended c.args.trace.now.run c.args.step.now) c.args.who (len c.args.trace.now.run) in
    let H : List ℕ → ℕ → Type 0 = λ xs v. AreRaised xs c.args.who v [] c.in_ok-numbers.numbers.numbers in
    rw (c.of.ensures, c.in_ok-boxed.ensures)
    (new_leads c.args.self.now c.args.trace.now.run c.args.step.now c.requires.next c.args.who c.requires.by kind.0 kind.1 kind.2
    (record { log = c.in_ok-newborn.field-0; own = record { numbers = c.in_ok-numbers.numbers; roots = c.none.result; touched = false; depended = false } })
    c.in_ok-takes.takes.items kind.3 first (λ x e. subst (G x) (sym c.in_ok-takes.ensures) (c.in_ok-along.ensures x e))
    (λ x e. subst (λ v. H x.numbers.numbers v) c.last_number-version.ensures (subst (λ xs. H xs c.last_number-version.result) (c.items.ensures ∙ ap (λ y. y.numbers.numbers) (same_some (sym c.own_of-creator.ensures ∙ e))) c.in_ok-numbers.ensures)) c.none.ensures refl refl)
