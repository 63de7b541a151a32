-- Expressions that are built from forms, part by part.
use Rattle.std.proofs.Common.{◌≡◌, ◌<◌, List, [], ◌∷◌, ◌++◌, length, map, if◌then◌else◌, ◌==◌, refl, ap, ap₂, arith}
use Rattle.std.proofs.lemmas.Bool.{ne_eqb}
use Rattle.tau_sexpr.specs.Form.{tree_of}
use Rattle.tau_sexpr.specs.Tree.{Tree}
use Rattle.tau_sexpr.specs.Tree as tree
use Rattle.tau_sexpr.specs.declared.trees.Form.{Form}
use Rattle.tau_tree.specs.Code.{Code, unit, get, stabilize, checkpoint, rollback, dependent, none, more, inside}
use Rattle.tau_forms.specs.declared.keywords.Keyword.{Keyword}
use Rattle.tau_forms.specs.declared.keywords.Keyword.TheVariants as keywords
use Rattle.tau_forms.specs.declared.tables.Tables.{Tables}
use Rattle.tau_forms.specs.Inner.Build.{IsLong}
use Rattle.tau_forms.specs.Meaning.{list_code, code_in, codes_in}

-- more than four forms
pub long : (fs : List Form) → 4 < length fs → IsLong (tree.inside (map tree_of fs))
long [] h = absurd (omega arith)
long (a ∷ []) h = absurd (omega arith)
long (a ∷ (b ∷ [])) h = absurd (omega arith)
long (a ∷ (b ∷ (c ∷ []))) h = absurd (omega arith)
long (a ∷ (b ∷ (c ∷ (d ∷ [])))) h = absurd (omega arith)
long (a ∷ (b ∷ (c ∷ (d ∷ (e ∷ fs))))) h = tt

-- one form more
pub codes_in-push : (tb : Tables) (ts : List Tree) (t : Tree) (cs : List Code) (c : Code) → inside cs ≡ codes_in tb (tree.inside ts) → c ≡ code_in tb t → inside (cs ++ c ∷ []) ≡ codes_in tb (tree.inside (ts ++ t ∷ []))
codes_in-push tb [] t [] c e is = ap (λ d. more d none) is
codes_in-push tb [] t (d ∷ ds) c e is = cc
codes_in-push tb (u ∷ us) t [] c e is = cc
codes_in-push tb (u ∷ us) t (d ∷ ds) c e is =
    let one : d ≡ code_in tb u = cc in
    let rest : inside ds ≡ codes_in tb (tree.inside us) = cc in
    ap₂ more one (codes_in-push tb us t ds c rest is)

-- an expression that has no items, and unit where a list has some
module _ (tb : Tables) where
  abbrev Alone : Keyword → Code → List Form → Type 0
  Alone k c fs =
      (if length fs == 0 then c else unit) ≡ list_code tb k (tree.inside (map tree_of fs)) (codes_in tb (tree.inside (map tree_of fs)))

  pub alone_get : (fs : List Form) → Alone keywords.Get get fs
  alone_get [] = refl
  alone_get (f ∷ fs) = rw (ne_eqb (length (f ∷ fs)) 0 (λ e. omega arith)) refl

  pub alone_stabilize : (fs : List Form) → Alone keywords.Stabilize stabilize fs
  alone_stabilize [] = refl
  alone_stabilize (f ∷ fs) = rw (ne_eqb (length (f ∷ fs)) 0 (λ e. omega arith)) refl

  pub alone_checkpoint : (fs : List Form) → Alone keywords.Checkpoint checkpoint fs
  alone_checkpoint [] = refl
  alone_checkpoint (f ∷ fs) = rw (ne_eqb (length (f ∷ fs)) 0 (λ e. omega arith)) refl

  pub alone_rollback : (fs : List Form) → Alone keywords.Rollback rollback fs
  alone_rollback [] = refl
  alone_rollback (f ∷ fs) = rw (ne_eqb (length (f ∷ fs)) 0 (λ e. omega arith)) refl

  pub alone_dependent : (fs : List Form) → Alone keywords.Dependent dependent fs
  alone_dependent [] = refl
  alone_dependent (f ∷ fs) = rw (ne_eqb (length (f ∷ fs)) 0 (λ e. omega arith)) refl
