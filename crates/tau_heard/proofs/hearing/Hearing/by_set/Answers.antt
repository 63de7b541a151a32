use Rattle.std.proofs.Common.{◌≡◌, ◌-◌, List, inl, inr, refl, sym, ap, ◌∙◌, subst, arith}
use Rattle.tau_points.specs.declared.point.Point.{Point}
use Rattle.tau_trace.specs.Run.{len, appended}
use Rattle.tau_trace.specs.Points.{point_at}
use Rattle.tau_trace.proofs.Lists.{same_some}
use Rattle.tau_versions.specs.Logs.Told.{Told}
use Rattle.tau_versions.specs.Logs.Reading.{takes_told}
use Rattle.tau_past.specs.Heard.{Heard}
use Rattle.tau_versions.specs.Logs.Takes.{taken}
use Rattle.tau_versions.specs.Search.Numbered.{with_version}
use Rattle.tau_versions.specs.Roots.Closing.{is_unclosed}
use Rattle.tau_versions.specs.Roots.Adding.{AreFresh, IsAdding}
use Rattle.tau_heard.proofs.LeavingOut.{kept_without}
use Rattle.tau_heard.proofs.Leading.{kept, last_there, ranges_are}
use Rattle.tau_heard.proofs.Setting.{still_leads, taking_leads, fresh_at}
use Rattle.tau_heard.proofs.hearing.Hearing.by_set.Goals as goal

pub returns-then-own : goal.returns-then-own
returns-then-own c =
    let last = last_there c.args.self.now c.args.trace.now.run c.args.step.now c.requires.next c.args.who c.requires.by in
    rw c.of_turn.ensures
    (still_leads c.args.self.now c.args.trace.now.run c.args.step.now c.requires.next c.args.who c.requires.by c.requires.kind last.0 last.1 (λ l x e f. inl (ap (λ y. y.depended) (same_some (sym f ∙ c.own_of-own.ensures)) ∙ c.if-own.true)))

pub returns-then-is_none : goal.returns-then-is_none
returns-then-is_none c =
    let last = last_there c.args.self.now c.args.trace.now.run c.args.step.now c.requires.next c.args.who c.requires.by in
    rw c.of_turn-then-is_none.ensures
    (still_leads c.args.self.now c.args.trace.now.run c.args.step.now c.requires.next c.args.who c.requires.by c.requires.kind last.0 last.1
    (λ l x e f. inr (
    let F : List Point → Type 0 = λ ps. AreFresh x.roots (point_at (appended c.args.trace.now.run c.args.step.now) c.args.who (len c.args.trace.now.run)) (taken l.takes last.0) ps in
    subst F (sym c.deref.ensures.value ∙ c.if-is_none.ensures)
    (fresh_at c.args.self.now c.args.trace.now.run c.args.step.now c.requires.next c.args.who c.requires.by c.requires.kind last.0 last.1 l x c.log_of-log.result.now c.own_of-own.result.now c.own_point-me.result c.taken.result.now c.in_ok-fresh.fresh.items e f c.log_of-log.ensures c.own_of-own.ensures c.own_point-me.ensures (c.taken.ensures ∙ ap (takes_told c.log_of-log.result.now) (c.saturating_sub.ensures ∙ ap (λ k. k - 1) c.len.ensures)) c.in_ok-fresh.ensures)
    )))

pub adding-requires-clause-ordered : goal.adding-requires-clause-ordered
adding-requires-clause-ordered c = (ranges_are c.args.self.now c.args.trace.now.run c.args.step.now c.requires.next c.args.who c.last_version-version.result c.log_of-log.result.now c.last_version-version.ensures c.log_of-log.ensures).0

pub adding-requires-clause-within : goal.adding-requires-clause-within
adding-requires-clause-within c = (ranges_are c.args.self.now c.args.trace.now.run c.args.step.now c.requires.next c.args.who c.last_version-version.result c.log_of-log.result.now c.last_version-version.ensures c.log_of-log.ensures).1

pub returns : goal.returns
returns c =
    let T = c.args.trace.now.run in
    let n = len T in
    let U = appended T c.args.step.now in
    let numbers = with_version c.heard_before-heard.result.who c.heard_before-heard.result.version c.heard_before-heard.result.numbers.now in
    let logs = c.args.self.now.logs.items in
    let K : List Told → Type 0 = λ L. IsAdding (is_unclosed L numbers) c.log_of-log.result.now c.last_version-version.result c.in_ok-fresh.fresh.items c.in_ok-added.added.points.items c.in_ok-added.added.version in
    let adds = subst K c.deref-2.ensures.value c.in_ok-added.ensures.adding in
    rw (c.of_actor.ensures, c.of-actor.ensures)
    (taking_leads c.args.self.now T c.args.step.now c.requires.next c.args.who c.requires.by c.requires.kind (is_unclosed logs numbers) c.last_version-version.result c.in_ok-added.added.version c.in_ok-added.added.points.items c.in_ok-added.added.points refl c.last_version-version.ensures
    (omega (arith, c.in_ok-added.ensures.from, c.len-from.ensures.len))
    (λ l x e f.
    let same : c.log_of-log.result.now ≡ l = same_some (sym c.log_of-log.ensures ∙ e) in
    let F : Told → Type 0 = λ k. IsAdding (is_unclosed logs numbers) k c.last_version-version.result c.in_ok-fresh.fresh.items c.in_ok-added.added.points.items c.in_ok-added.added.version in
    let add = subst F same adds in (
      c.in_ok-fresh.fresh.items,
      fresh_at c.args.self.now T c.args.step.now c.requires.next c.args.who c.requires.by c.requires.kind c.last_version-version.result c.last_version-version.ensures l x c.log_of-log.result.now c.own_of-own.result.now c.own_point-me.result c.taken.result.now c.in_ok-fresh.fresh.items e f c.log_of-log.ensures c.own_of-own.ensures c.own_point-me.ensures (c.taken.ensures ∙ ap (takes_told c.log_of-log.result.now) (c.saturating_sub.ensures ∙ ap (λ k. k - 1) c.len.ensures)) c.in_ok-fresh.ensures,
      (add, kept_without U (Heard U c.args.who n) n logs numbers (kept c.args.self.now T c.args.step.now c.requires.next).logs_are c.heard_before-heard.ensures (taken l.takes c.last_version-version.result) add.kept add.is_kept),
    )))
