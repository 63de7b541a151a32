-- What the reader needs of what forms count as, and of their first faults.
use Rattle.std.proofs.Common.{◌≡◌, ℕ, ◌+◌, ◌<◌, ◌≤◌, Bool, true, false, cond, ◌||◌, ◌&&◌, List, [], ◌∷◌, ◌++◌, length, get_or, take, map, Option, Some, None, option_map, unwrap_or, zero, suc, max, refl, sym, ap, ap₂, ◌∙◌, arith, codes}
use Rattle.std.specs.Option.{option_or, option_map_or}
use Rattle.std.specs.Str.{bytes_eq}
use Rattle.tau_sexpr.specs.Tree.{Tree, Trees, word, text, list, none, more, inside, size_of, size_of_all}
use Rattle.tau_sexpr.specs.Form.{tree_of}
use Rattle.tau_sexpr.specs.declared.trees.Form.{Form}
use Rattle.tau_sexpr.specs.declared.trees.Form.TheVariants as forms
use Rattle.std.proofs.lemmas.List.{map-append}
use Rattle.tau_value.proofs.ValueLemmas.{inside_inj}
use Rattle.tau_value.specs.Val as val
use Rattle.tau_value.specs.Val.{Val}
use Rattle.tau_value.specs.Sizes.{parts_of, levels_of, parts_of_all, levels_of_all}
use Rattle.tau_value.specs.Numbers.{integer_in, capped}
use Rattle.tau_value.specs.Meaning.{name_word, list_word, number_named, named, counted, counted_all, has_row, is_one, Fault, shape, unknown}
use Rattle.tau_value.specs.Inner.Reading.{scan, scan_all, scan_name, later_by, TellsValueFault}
use Rattle.tau_value.specs.declared.faults.ValueError.{ValueError}
use Rattle.tau_value.specs.declared.faults.ValueError.TheVariants as faults

-- a value of 1 part and 0 levels
pub record IsSmall (v : Val) : Type 0 where
  pub parts : parts_of v ≡ 1
  pub levels : levels_of v ≡ 0

small_if : (b : Bool) (v : Val) (o : Option Val) → IsSmall v → IsSmall (unwrap_or o val.unit) → IsSmall (unwrap_or (cond b (Some v) o) val.unit)
small_if true v o h k = h
small_if false v o h k = k

small_integer : (w : List ℕ) → IsSmall (unwrap_or (option_map val.int (integer_in w)) val.unit)
small_integer w = elim (integer_in w) as (λ o. IsSmall (unwrap_or (option_map val.int o) val.unit)) [ Some z ↦ record { parts = refl; levels = refl } | None ↦ record { parts = refl; levels = refl } ]

pub small_word : (names : List (List ℕ)) (bound : ℕ) (w : List ℕ) → IsSmall (counted names bound (word w))
small_word names bound w =
    let integer : Option Val = option_map val.int (integer_in w) in
    let last : Option Val = cond (bytes_eq w (codes "false")) (Some (val.truth false)) integer in
    let second : Option Val = cond (bytes_eq w (codes "true")) (Some (val.truth true)) last in
    let at_last = small_if (bytes_eq w (codes "false")) (val.truth false) integer (record { parts = refl; levels = refl }) (small_integer w) in
    let at_second = small_if (bytes_eq w (codes "true")) (val.truth true) last (record { parts = refl; levels = refl }) at_last in
    small_if (bytes_eq w (codes "unit")) val.unit second (record { parts = refl; levels = refl }) at_second

pub parts_of-named : (names : List (List ℕ)) (bound : ℕ) (t : Tree) → parts_of (named names bound (more t none)) ≡ 1
parts_of-named names bound (word x) = elim (number_named names bound x) as (λ o. parts_of (option_map_or val.name o val.unit) ≡ 1) [ Some n ↦ refl | None ↦ refl ]
parts_of-named names bound (text t) = refl
parts_of-named names bound (list ts) = refl

and_false : (b : Bool) → (b && false) ≡ false
and_false true = refl
and_false false = refl

-- a list of three forms or more that doesn't begin with `list` is in no row
pub no_row_long : (fs : List Form) (first : Form) (h : List ℕ) → first ≡ get_or fs 0 first → first ≡ forms.Word h → 2 < length fs → bytes_eq h list_word ≡ false → has_row (list (inside (map tree_of fs))) ≡ false
no_row_long [] first h is word_is long other = absurd (omega arith)
no_row_long (f ∷ []) first h is word_is long other = absurd (omega arith)
no_row_long (f ∷ g ∷ []) first h is word_is long other = absurd (omega arith)
no_row_long (f ∷ g ∷ k ∷ fs) first h is word_is long other =
    let begins : f ≡ forms.Word h = sym is ∙ word_is in
    rw (begins, other, and_false (bytes_eq h name_word)) refl

scan_tail : (names : List (List ℕ)) (bound : ℕ) (b c : Bool) (us : Trees) → (b || (c && is_one us)) ≡ false → cond b (option_map (later_by 2) (scan_all names bound us)) (cond c (scan_name names bound us) (Some (0, shape))) ≡ Some (0, shape)
scan_tail names bound true c us h = cc
scan_tail names bound false false us h = refl
scan_tail names bound false true none h = refl
scan_tail names bound false true (more x none) h = cc
scan_tail names bound false true (more x (more y us)) h = refl

pub scan-no_row : (names : List (List ℕ)) (bound : ℕ) (ts : Trees) → has_row (list ts) ≡ false → scan names bound (list ts) ≡ Some (0, shape)
scan-no_row names bound none h = refl
scan-no_row names bound (more (word w) us) h = scan_tail names bound (bytes_eq w list_word) (bytes_eq w name_word) us h
scan-no_row names bound (more (text t) us) h = refl
scan-no_row names bound (more (list ts) us) h = refl

-- what the items of a list count as, one by one
pub counted_all-inside : (names : List (List ℕ)) (bound : ℕ) (ts : List Tree) → counted_all names bound (inside ts) ≡ val.inside (map (counted names bound) ts)
counted_all-inside names bound [] = refl
counted_all-inside names bound (t ∷ ts) = ap (val.more (counted names bound t)) (counted_all-inside names bound ts)

-- sizes of the items of a list
pub size-at : (fs : List Form) (k : ℕ) (f : Form) → k < length fs → f ≡ get_or fs k f → size_of (tree_of f) ≤ size_of_all (inside (map tree_of fs))
size-at [] k f lt e = absurd (omega arith)
size-at (g ∷ fs) zero f lt e = omega (arith, ap (λ h. size_of (tree_of h)) e)
size-at (g ∷ fs) (suc k) f lt e = omega (arith, size-at fs k f (omega arith) e)

pub size-push : (ts : List Tree) (t : Tree) → size_of_all (inside (ts ++ t ∷ [])) ≡ size_of_all (inside ts) + size_of t
size-push [] t = omega arith
size-push (u ∷ us) t = omega (arith, size-push us t)

pub counted_parts-push : (names : List (List ℕ)) (bound : ℕ) (ts : List Tree) (t : Tree) → parts_of_all (counted_all names bound (inside (ts ++ t ∷ []))) ≡ parts_of_all (counted_all names bound (inside ts)) + parts_of (counted names bound t)
counted_parts-push names bound [] t = omega arith
counted_parts-push names bound (u ∷ us) t = omega (arith, counted_parts-push names bound us t)

pub counted_levels-push : (names : List (List ℕ)) (bound : ℕ) (ts : List Tree) (t : Tree) → levels_of_all (counted_all names bound (inside (ts ++ t ∷ []))) ≡ max (levels_of_all (counted_all names bound (inside ts))) (levels_of (counted names bound t))
counted_levels-push names bound [] t = omega arith
counted_levels-push names bound (u ∷ us) t = omega (arith, counted_levels-push names bound us t)

pub counted_all-push : (names : List (List ℕ)) (bound : ℕ) (ts : List Tree) (vs : List Val) (t : Tree) (v : Val) → val.inside vs ≡ counted_all names bound (inside ts) → v ≡ counted names bound t → val.inside (vs ++ v ∷ []) ≡ counted_all names bound (inside (ts ++ t ∷ []))
counted_all-push names bound ts vs t v e f =
    let all : vs ≡ map (counted names bound) ts = inside_inj vs (map (counted names bound) ts) (e ∙ counted_all-inside names bound ts) in
    ap val.inside (ap₂ (λ xs x. xs ++ x ∷ []) all f ∙ sym (map-append (counted names bound) ts (t ∷ []))) ∙ sym (counted_all-inside names bound (ts ++ t ∷ []))

-- the first fault of a list is that of the first item with one
none_both : {X Y : Type 0} → (a : Option Y) (f : X → Y) (b : Option X) → option_or a (option_map f b) ≡ None → (a ≡ None) × (b ≡ None)
none_both None f None h = (refl, refl)
none_both None f (Some x) h = cc
none_both (Some y) f b h = cc

pub scan_all-stop : (names : List (List ℕ)) (bound : ℕ) (fs : List Form) (k : ℕ) (f : Form) (p : ℕ × Fault) → scan_all names bound (inside (map tree_of (take k fs))) ≡ None → k < length fs → f ≡ get_or fs k f → scan names bound (tree_of f) ≡ Some p → scan_all names bound (inside (map tree_of fs)) ≡ Some (later_by (size_of_all (inside (map tree_of (take k fs)))) p)
scan_all-stop names bound [] k f p h lt e found = absurd (omega arith)
scan_all-stop names bound (g ∷ fs) zero f p h lt e found =
    let here : scan names bound (tree_of g) ≡ Some p = ap (λ x. scan names bound (tree_of x)) (sym e) ∙ found in
    let same : later_by 0 p ≡ p = ap (λ n. (n, p.1)) (omega arith) in
    rw here (sym (ap Some same))
scan_all-stop names bound (g ∷ fs) (suc k) f p h lt e found =
    let before = inside (map tree_of (take k fs)) in
    let both = none_both (scan names bound (tree_of g)) (later_by (size_of (tree_of g))) (scan_all names bound before) h in
    let rest = scan_all-stop names bound fs k f p both.1 (omega arith) e found in
    let sum : size_of (tree_of g) + (size_of_all before + p.0) ≡ size_of (tree_of g) + size_of_all before + p.0 = omega arith in
    rw (both.0, rest) (ap (λ n. Some (n, p.1)) sum)

pub scan_all-push : (names : List (List ℕ)) (bound : ℕ) (ts : List Tree) (t : Tree) → scan_all names bound (inside ts) ≡ None → scan names bound t ≡ None → scan_all names bound (inside (ts ++ t ∷ [])) ≡ None
scan_all-push names bound [] t h e = rw e refl
scan_all-push names bound (u ∷ us) t h e =
    let both = none_both (scan names bound u) (later_by (size_of u)) (scan_all names bound (inside us)) h in
    rw (both.0, scan_all-push names bound us t both.1 e) refl

-- an error at a later node
pub tells-later : (found : Option (ℕ × Fault)) (at k node : ℕ) (e : ValueError) → node ≡ capped (at + k) → TellsValueFault found node e → TellsValueFault (option_map (later_by k) found) at e
tells-later found at k node (faults.Shape m) h t = (k + t.0, ap (option_map (later_by k)) t.1, omega (arith, t.2))
tells-later found at k node (faults.Unknown m) h t = (k + t.0, ap (option_map (later_by k)) t.1, omega (arith, t.2))
tells-later found at k node faults.NoMemory h t = tt

pub tells-item : (names : List (List ℕ)) (bound : ℕ) (fs : List Form) (k : ℕ) (f : Form) (at node : ℕ) (e : ValueError) → scan_all names bound (inside (map tree_of (take k fs))) ≡ None → k < length fs → f ≡ get_or fs k f → node ≡ capped (at + size_of_all (inside (map tree_of (take k fs)))) → TellsValueFault (scan names bound (tree_of f)) node e → TellsValueFault (scan_all names bound (inside (map tree_of fs))) at e
tells-item names bound fs k f at node (faults.Shape m) clean lt is h told =
    let before = size_of_all (inside (map tree_of (take k fs))) in
    (before + told.0, scan_all-stop names bound fs k f (told.0, shape) clean lt is told.1, omega (arith, told.2))
tells-item names bound fs k f at node (faults.Unknown m) clean lt is h told =
    let before = size_of_all (inside (map tree_of (take k fs))) in
    (before + told.0, scan_all-stop names bound fs k f (told.0, unknown) clean lt is told.1, omega (arith, told.2))
tells-item names bound fs k f at node faults.NoMemory clean lt is h told = tt
