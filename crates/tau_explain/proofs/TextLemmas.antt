-- The forms of the points of a chain: how deep they are, and that no word of them is empty.
use Rattle.std.proofs.Common.{◌≡◌, ℕ, ◌+◌, ◌<◌, ◌≤◌, List, [], ◌∷◌, ◌++◌, length, get_or, take, Option, Some, None, All, sym, ap, ◌∙◌, subst, arith}
use Rattle.std.proofs.lemmas.List.Elements.{All-nil, All-cons, All-append}
use Rattle.std.proofs.lemmas.List.{take_more, map_push}
use Rattle.tau_sexpr.specs.Tree.{Tree, depths, depth_of, depths-append, HasWords}
use Rattle.tau_value.specs.Names.{AreNames}
use Rattle.tau_value.proofs.WrittenLemmas.{number_nonempty, decimal_filled}
use Rattle.tau_explain.specs.declared.chains.chained.Chained.{Chained}
use Rattle.tau_trace.specs.declared.opening.Opening.{Opening}
use Rattle.tau_explain.specs.Texts.{point_form, chain_forms}
use Rattle.tau_explain.specs.Inner.Fitting.{Fits, PlaceFits}

pub point_words : (o : Opening) (c : Chained) → AreNames o.names → Fits c → HasWords (point_form o c)
point_words o c names fits = by c.by fits.3 where
  by : (place : Option ℕ) → PlaceFits place → HasWords (point_form o (record { point = c.point; by = place }))
  by (Some place) small = ((λ e. cc), (number_nonempty o.names c.point.who names (omega (arith, fits.0)), (decimal_filled c.point.interval (omega (arith, fits.1)), (decimal_filled c.point.incarnation (omega (arith, fits.2)), (decimal_filled place (omega (arith, small)), tt)))))
  by None small = ((λ e. cc), (number_nonempty o.names c.point.who names (omega (arith, fits.0)), (decimal_filled c.point.interval (omega (arith, fits.1)), (decimal_filled c.point.incarnation (omega (arith, fits.2)), tt))))

pub point_depth : (o : Opening) (c : Chained) → depth_of (point_form o c) ≤ 1
point_depth o c = by c.by where
  by : (place : Option ℕ) → depth_of (point_form o (record { point = c.point; by = place })) ≤ 1
  by (Some place) = omega arith
  by None = omega arith

-- forms that can be printed: at most one list deep, and no word is empty
pub record ArePrintable (forms : List Tree) : Type 0 where
  pub depth : depths forms ≤ 1
  pub words : All HasWords forms

pub more_printable : (o : Opening) (c : Chained) (fs : List Tree) → AreNames o.names → Fits c → ArePrintable fs → ArePrintable (fs ++ point_form o c ∷ [])
more_printable o c fs names fits p = record {
  depth = omega (arith, depths-append fs (point_form o c ∷ []), p.depth, point_depth o c);
  words = All-append HasWords fs (point_form o c ∷ []) p.words (All-cons HasWords (point_form o c) [] (point_words o c names fits) (All-nil HasWords));
}

-- the forms of one point more
pub chain_more : (o : Opening) (cs : List Chained) (k : ℕ) (d : Chained) (before after : List Tree) (t : Tree) → k < length cs → AreNames o.names → t ≡ point_form o (get_or cs k d) → Fits (get_or cs k d) → after ≡ before ++ t ∷ [] → (before ≡ chain_forms o (take k cs)) × ArePrintable before → (after ≡ chain_forms o (take (k + 1) cs)) × ArePrintable after
chain_more o cs k d before after t within names is fits add (are, printable) =
    let form = point_form o (get_or cs k d) in
    let whole : after ≡ before ++ form ∷ [] = add ∙ ap (λ u. before ++ u ∷ []) is in
    let more : chain_forms o (take (k + 1) cs) ≡ chain_forms o (take k cs) ++ form ∷ [] = ap (chain_forms o) (take_more cs k d within) ∙ map_push (point_form o) (take k cs) (get_or cs k d) in
    (whole ∙ ap (λ fs. fs ++ form ∷ []) are ∙ sym more, subst ArePrintable (sym whole) (more_printable o (get_or cs k d) before names fits printable))
