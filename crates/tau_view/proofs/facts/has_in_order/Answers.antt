use Rattle.std.proofs.Common.{◌≡◌, ℕ, ◌+◌, ◌<◌, ⊎_elim, List, sym, ◌∙◌, length, take, get_or, eqb, subst, arith}
use Rattle.std.specs.Prelude.{Contains}
use Rattle.std.proofs.lemmas.Bool.Decides.{nat_tests}
use Rattle.std.proofs.lemmas.List.{take_more, take_all}
use Rattle.std.proofs.lemmas.List.Elements.{Contains-push_cases, Contains-get_or}
use Rattle.std.proofs.lemmas.Bool.{OnTrue_from}
use Rattle.tau_points.specs.declared.point.Point.{Point}
use Rattle.tau_points.specs.Members.{HasAll}
use Rattle.tau_points.proofs.PointOrder.{pair_eq-Decides}
use Rattle.tau_view.proofs.facts.has_in_order.Goals as goal
use Rattle.tau_view.proofs.facts.has_in_order.Goals.{then-found-theirs+then-eq, else-found-theirs}

-- one pair more is found
one_more : (ours theirs : List (Point × Point)) (f i : ℕ) (d e : Point × Point) → f < length theirs → i < length ours → get_or theirs f d ≡ get_or ours i e → HasAll ours (take f theirs) → HasAll ours (take (f + 1) theirs)
one_more ours theirs f i d e p q same has x c =
    ⊎_elim (λ h. has x h) (λ (k : get_or theirs f d ≡ x). subst (Contains ours) (sym same ∙ k) (Contains-get_or ours i e q))
    (Contains-push_cases (take f theirs) (get_or theirs f d) x (subst (λ (ys : List (Point × Point)). Contains ys x) (take_more theirs f d p) c))

-- all are found
all_found : (ours theirs : List (Point × Point)) (f : ℕ) → f ≡ length theirs → HasAll ours (take f theirs) → HasAll ours theirs
all_found ours theirs f e has = subst (HasAll ours) (take_all f theirs (omega arith)) has

pub loop-pair-preserved : goal.loop-pair-preserved
loop-pair-preserved c =
    let none : Point = record { who = 0; interval = 0; incarnation = 0 } in
    elim c.if-found-theirs.branch [
      | then-found-theirs+then-eq w ↦
          let same = (pair_eq-Decides (get_or c.args.theirs.now c.loop-pair.found (none, none)) (get_or c.args.ours.now c.loop-pair.pair-index (none, none))).0 (sym w.if-eq.ensures) in
          record {
            within = omega arith;
            has = subst (λ (n : ℕ). HasAll c.args.ours.now (take n c.args.theirs.now)) (sym w.found-is) (one_more c.args.ours.now c.args.theirs.now c.loop-pair.found c.loop-pair.pair-index (none, none) (none, none) (omega arith) (omega arith) same c.loop-pair.invariant.has);
          }
      | else-found-theirs w ↦ record {
        within = omega arith;
        has = subst (λ (n : ℕ). HasAll c.args.ours.now (take n c.args.theirs.now)) (sym w.found-is) c.loop-pair.invariant.has;
      }
    ]

pub returns : goal.returns
returns c =
    OnTrue_from (eqb c.loop-pair.found (length c.args.theirs.now)) (HasAll c.args.ours.now c.args.theirs.now)
    (λ t. all_found c.args.ours.now c.args.theirs.now c.loop-pair.found (grind (arith, nat_tests)) c.loop-pair.invariant.has)
