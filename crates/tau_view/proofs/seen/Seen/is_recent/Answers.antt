use Rattle.std.proofs.Common.{◌≡◌, ℕ, ◌<◌, Bool, true, Option, Some, List, sym, ap, ◌∙◌, subst, length, get_or, ltb, arith}
use Rattle.std.specs.Prelude.{Contains}
use Rattle.std.specs.Bool.{OnTrue}
use Rattle.std.proofs.lemmas.Bool.Decides.{nat_tests}
use Rattle.std.proofs.lemmas.List.Elements.{Contains-get_or}
use Rattle.std.proofs.lemmas.Bool.{OnTrue_from}
use Rattle.tau_points.specs.declared.point.Point.{Point}
use Rattle.tau_points.proofs.PointOrder.{point_eq, point_eq-Decides}
use Rattle.tau_view.specs.Seen.{AllAmong}
use Rattle.tau_view.proofs.seen.Seen.is_recent.Goals as goal

-- a point that stands at a place is among those that were seen
seen_at : (points : List Point) (recent : List (Option Point)) (k : ℕ) (o : Option Point) (s p : Point) (b : Bool) → AllAmong points recent → true ≡ ltb k (length recent) → o ≡ get_or recent k o → o ≡ Some s → b ≡ point_eq s p → OnTrue b (Contains points p)
seen_at points recent k o s p b all test at is e =
    let within : k < length recent = grind (arith, nat_tests) in
    OnTrue_from b (Contains points p) (λ t.
    all p (subst (Contains recent) (sym at ∙ is ∙ ap (λ (x : Point). Some x) ((point_eq-Decides s p).0 (sym e ∙ t))) (Contains-get_or recent k o within)))

pub returns-in-Some-Some : goal.returns-in-Some-Some
returns-in-Some-Some c =
    let k = c.in-Some-Some.ensures.lookup in
    let l = subst (λ (xs : List (Option Point)). (true ≡ ltb c.args.point.who (length xs)) × (c.in-Some-Some.field-0.now ≡ get_or xs c.args.point.who c.in-Some-Some.field-0.now)) c.deref.ensures.value (k.0, k.1) in
    subst (λ (points : List Point). OnTrue c.eq.result (Contains points c.args.point)) c.self.view_is
    (seen_at c.self.inside.table.keys c.self.inside.recent.items c.args.point.who c.in-Some-Some.field-0.now c.in-Some-Some.seen c.args.point c.eq.result c.self.invariant l.0 l.1 c.in-Some-Some.field-0-is c.eq.ensures)
