use Rattle.std.proofs.Common.{◌≡◌, Bool, true, false, List, subst}
use Rattle.std.specs.Bool.{OnTrue}
use Rattle.tau_points.specs.declared.point.Point.{Point}
use Rattle.tau_points.specs.Members.{HasAll}
use Rattle.tau_view.specs.Rules.{merged}
use Rattle.tau_view.specs.Stored.{Stored, held}
use Rattle.tau_view.proofs.Operations.{merged_covered}
use Rattle.tau_view.proofs.facts.Facts.covers.Goals as goal

on_both : (b : Bool) (P Q : Type 0) → (P → Q) → OnTrue b P → OnTrue b Q
on_both true P Q f h = f h
on_both false P Q f h = tt

pub returns-then-covers : goal.returns-then-covers
returns-then-covers c =
    let own : Stored = record { histories = c.self.inside.histories; edges = c.self.inside.edges; roots = c.self.inside.roots } in
    let others : Stored = record { histories = c.other.inside.histories; edges = c.other.inside.edges; roots = c.other.inside.roots } in
    let b = c.has_in_order.result in
    subst (λ (s : Stored). OnTrue b (merged (held s) (held c.args.other.now) ≡ held s)) c.self.view_is
    (subst (λ (t : Stored). OnTrue b (merged (held own) (held t) ≡ held own)) c.other.view_is
    (on_both b (HasAll c.pairs.result.now c.pairs-then-covers.result.now) (merged (held own) (held others) ≡ held own)
    (λ has. merged_covered own others c.if-covers.ensures (subst (λ (es : List (Point × Point)). HasAll es others.edges) c.pairs.ensures.pairs (subst (HasAll c.pairs.result.now) c.pairs-then-covers.ensures.pairs has)))
    c.has_in_order.ensures))
