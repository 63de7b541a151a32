use Rattle.std.proofs.Common.{[], ◌∷◌, List, Option, ⊎_elim, sym, subst}
use Rattle.std.specs.Prelude.{Contains}
use Rattle.std.specs.Option.{option_map_or}
use Rattle.std.proofs.lemmas.List.Elements.{Contains-append_cases}
use Rattle.tau_points.specs.declared.point.Point.{Point}
use Rattle.tau_verdicts.specs.Doomed.{flag_of}
use Rattle.tau_verdicts.specs.Noting.{IsWell, AreWell}
use Rattle.tau_verdicts.proofs.Lists.{on_true, only_one, nothing_in}
use Rattle.tau_verdicts.proofs.noting.are_well.Goals as goal

pub returns-in-Some : goal.returns-in-Some
returns-in-Some c =
    let logs = c.args.logs.now in
    let doomed = c.args.doomed.now in
    let p = c.in-Some.point in
    let many : List Point = c.parts-one.result.0.now in
    let F : Option Point → Type 0 = λ o. (q : Point) → Contains (option_map_or (λ (x : Point). x ∷ []) o []) q → IsWell logs (flag_of doomed) q in
    on_true c.is_well.result (IsWell logs (flag_of doomed) p) (AreWell logs (flag_of doomed) c.args.roots.now)
    (λ h q k. ⊎_elim (λ l. c.if-not-all_well.ensures q l) (λ r. subst F (sym c.in-Some.is) (λ z one. subst (IsWell logs (flag_of doomed)) (sym (only_one p z one)) h) q r)
    (Contains-append_cases many (option_map_or (λ (x : Point). x ∷ []) c.parts-one.result.1 []) q (subst (λ (xs : List Point). Contains xs q) c.parts-one.ensures k))) c.is_well.ensures

pub returns-in-None : goal.returns-in-None
returns-in-None c =
    let logs = c.args.logs.now in
    let doomed = c.args.doomed.now in
    let many : List Point = c.parts-one.result.0.now in
    let F : Option Point → Type 0 = λ o. (q : Point) → Contains (option_map_or (λ (x : Point). x ∷ []) o []) q → IsWell logs (flag_of doomed) q in
    λ q k. ⊎_elim (λ l. c.if-not-all_well.ensures q l) (λ r. subst F (sym c.in-None.is) (λ z one. nothing_in (IsWell logs (flag_of doomed)) z one) q r)
    (Contains-append_cases many (option_map_or (λ (x : Point). x ∷ []) c.parts-one.result.1 []) q (subst (λ (xs : List Point). Contains xs q) c.parts-one.ensures k))
