use Rattle.std.proofs.Common.{sym, subst, ◌∙◌, ◌≡◌, None, Option, ℕ, rules}
use Rattle.std.specs.HashMap.{get}
use Rattle.tau_past.specs.Tables.{same_point}
use Rattle.tau_points.specs.declared.point.Point.{Point}
use Rattle.tau_explain.specs.Links.Inner.Dependents.{TellsCheckpoint}
use Rattle.tau_explain.specs.Links.Inner.Linking.{IsLeastLink, ClosesAtDistance}
use Rattle.tau_explain.proofs.LinkLemmas.{no_closing, not_closed, not_at, closed_at}
use Rattle.tau_explain.proofs.links.linking.closing_link.Goals as goal

pub returns-in_err-closing : goal.returns-in_err-closing
returns-in_err-closing c =
    let l = c.args.levels.now in
    let none : c.from_residual.result ≡ None = search rules in
    subst (λ (o : Option (Point × ℕ)). IsLeastLink (ClosesAtDistance l.index.now l.marks.now (get same_point l.far) c.args.point.now c.args.distance) o) (sym none) (no_closing l.index.now l.marks.now (get same_point l.far) c.args.point.now c.args.distance c.closing_before.result c.closing_before.ensures c.in_err-closing.was)

pub returns-in_err-place : goal.returns-in_err-place
returns-in_err-place c =
    let l = c.args.levels.now in
    let x = c.in_ok-closing.closing in
    let none : c.from_residual-in_err-place.result ≡ None = search rules in
    subst (λ (o : Option (Point × ℕ)). IsLeastLink (ClosesAtDistance l.index.now l.marks.now (get same_point l.far) c.args.point.now c.args.distance) o) (sym none)
    (not_closed l.index.now l.marks.now (get same_point l.far) c.args.point.now c.args.distance c.closing_before.result c.closing_before.ensures x c.in_ok-closing.was (get same_point l.checkpoints.now x) (sym (c.copied.ensures ∙ c.get.ensures.value) ∙ c.in_err-place.was) (c.requires.closed x))

pub returns-then-is_at : goal.returns-then-is_at
returns-then-is_at c =
    let l = c.args.levels.now in
    let x = c.in_ok-closing.closing in
    closed_at l.index.now l.marks.now (get same_point l.far) c.args.point.now c.args.distance c.closing_before.result c.closing_before.ensures x c.in_ok-closing.was c.in_ok-place.place
    (subst (λ (o : Option ℕ). TellsCheckpoint l.index.now l.marks.now x o) (sym (c.copied.ensures ∙ c.get.ensures.value) ∙ c.in_ok-place.was) (c.requires.closed x)) (c.is_at.ensures.0 c.if-is_at.true)

pub returns-else-is_at : goal.returns-else-is_at
returns-else-is_at c =
    let l = c.args.levels.now in
    let x = c.in_ok-closing.closing in
    not_at l.index.now l.marks.now (get same_point l.far) c.args.point.now c.args.distance c.closing_before.result c.closing_before.ensures x c.in_ok-closing.was (λ e. let t = c.is_at.ensures.1 e in let f = c.if-is_at.false in cc)
