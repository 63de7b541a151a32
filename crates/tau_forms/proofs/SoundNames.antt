-- The names that the lists at the top define are distinct names.
use Rattle.std.proofs.Common.{◌≡◌, ◌≢◌, ℕ, ◌<◌, Bool, true, false, cond, List, [], ◌∷◌, ◌++◌, length, get_or, zero, suc, Option, Some, None, refl, sym, ap, subst, ◌∙◌, arith, ◌||◌}
use Rattle.std.specs.Str.{bytes_eq}
use Rattle.std.proofs.lemmas.Bool.{false≢true, or_right, false_from_ne_true}
use Rattle.std.proofs.lemmas.List.{length-append}
use Rattle.std.proofs.lemmas.List.Elements.{All-nil, All-push}
use Rattle.std.proofs.lemmas.List.Quantifiers.{all_pairs_push}
use Rattle.std.proofs.lemmas.Slice.Eq.{bytes_eq-Decides}
use Rattle.tau_sexpr.specs.Tree.{Tree, word, list, more}
use Rattle.tau_value.specs.Names.{is_name, IsName, AreNames}
use Rattle.tau_forms.specs.declared.keywords.Sort.{Sort}
use Rattle.tau_forms.specs.Keywords.{sort_in}
use Rattle.tau_forms.proofs.SoundFaults.{contains_from_has}
use Rattle.tau_forms.specs.Tops.{has, name_in, named_by, with_name, defined_after, sort_of}

get_or-append-at : (ws : List (List ℕ)) (w : List ℕ) (vs : List (List ℕ)) (d : List ℕ) → get_or (ws ++ w ∷ vs) (length ws) d ≡ w
get_or-append-at [] w vs d = refl
get_or-append-at (x ∷ xs) w vs d = get_or-append-at xs w vs d

get_or-front : (ws vs : List (List ℕ)) (k : ℕ) (d : List ℕ) → k < length ws → get_or (ws ++ vs) k d ≡ get_or ws k d
get_or-front [] vs k d lt = absurd (omega arith)
get_or-front (x ∷ xs) vs zero d lt = refl
get_or-front (x ∷ xs) vs (suc k) d lt = get_or-front xs vs k d (omega arith)

-- a word that stands among names is found there
pub has_at : (names : List (List ℕ)) (w : List ℕ) (k : ℕ) (d : List ℕ) → k < length names → get_or names k d ≡ w → has names w ≡ true
has_at [] w k d lt e = absurd (omega arith)
has_at (x ∷ xs) w zero d lt e = ap (λ b. b || has xs w) ((bytes_eq-Decides w x).1 (sym e))
has_at (x ∷ xs) w (suc k) d lt e = or_right (bytes_eq w x) (has xs w) (has_at xs w k d (omega arith) e)

pub no_names : AreNames []
no_names = record { named = All-nil IsName; distinct = λ i j d below lt. absurd (omega arith) }

pub names_push : (names : List (List ℕ)) (w : List ℕ) → AreNames names → IsName w → has names w ≡ false → AreNames (names ++ w ∷ [])
names_push names w are named new = record {
  named = All-push IsName names w are.named named;
  distinct = all_pairs_push (λ v u. v ≢ u) names w are.distinct (λ k d lt e. false≢true (sym new ∙ has_at names w k d lt e));
}

name_is : (w v : List ℕ) → name_in w ≡ Some v → IsName v
name_is w v e = by (is_name w) refl e
  where
    by : (b : Bool) → is_name w ≡ b → cond b (Some w) None ≡ Some v → IsName v
    by true f g = let same : w ≡ v = cc in subst IsName same f
    by false f g = cc

-- what a list defines is a name
pub named_by-name : (is : Sort → Bool) (t : Tree) (v : List ℕ) → named_by is t ≡ Some v → IsName v
named_by-name is (list (more (word h) (more (word w) ts))) v e = by (is (sort_in h)) e
  where
    by : (b : Bool) → cond b (name_in w) None ≡ Some v → IsName v
    by true f = name_is w v f
    by false f = cc
named_by-name is t v e = cc

with_are : (names : List (List ℕ)) (o : Option (List ℕ)) → ((v : List ℕ) → o ≡ Some v → IsName v) → AreNames names → AreNames (with_name names o)
with_are names None named are = are
with_are names (Some w) named are = by (has names w) refl
  where
    by : (b : Bool) → has names w ≡ b → AreNames (cond b names (names ++ w ∷ []))
    by true e = are
    by false e = names_push names w are (named w refl) e

pub defined_are : (is : Sort → Bool) (names : List (List ℕ)) (ts : List Tree) → AreNames names → AreNames (defined_after is names ts)
defined_are is names [] are = are
defined_are is names (t ∷ ts) are =
    defined_are is (with_name names (named_by is t)) ts (with_are names (named_by is t) (named_by-name is t) are)

-- what one list more defines
pub defined_after-push : (is : Sort → Bool) (names : List (List ℕ)) (ts : List Tree) (t : Tree) → defined_after is names (ts ++ t ∷ []) ≡ with_name (defined_after is names ts) (named_by is t)
defined_after-push is names [] t = refl
defined_after-push is names (u ∷ us) t = defined_after-push is (with_name names (named_by is u)) us t

-- a list of another sort defines nothing
pub named_by-none : (is : Sort → Bool) (t : Tree) → is (sort_of t) ≡ false → named_by is t ≡ None
named_by-none is (list (more (word h) (more (word w) ts))) e = ap (λ b. cond b (name_in w) None) e
named_by-none is t e = refl

-- among names, each is a name, and it isn't among those before it
pub named_next : (ws : List (List ℕ)) (w : List ℕ) (vs : List (List ℕ)) → AreNames (ws ++ w ∷ vs) → IsName w
named_next ws w vs are =
    let here = get_or-append-at ws w vs in
    subst IsName (here w) (are.named (length ws) w (omega (arith, length-append ws (w ∷ vs))))

pub new_next : (ws : List (List ℕ)) (w : List ℕ) (vs : List (List ℕ)) → AreNames (ws ++ w ∷ vs) → has ws w ≡ false
new_next ws w vs are = false_from_ne_true (has ws w) (λ e.
    let c = contains_from_has ws w e in
    are.distinct c.0 (length ws) w c.1 (omega (arith, length-append ws (w ∷ vs))) (get_or-front ws (w ∷ vs) c.0 w c.1 ∙ c.2 ∙ sym (get_or-append-at ws w vs w)))
