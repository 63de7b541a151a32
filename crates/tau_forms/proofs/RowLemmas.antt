-- What is wanted of the items of lists.
use Rattle.std.proofs.Common.{◌≡◌, ◌≢◌, ℕ, ◌+◌, ◌≤◌, ◌^◌, ◌==◌, Bool, true, false, cond, List, [], ◌∷◌, ◌++◌, length, get_or, take, drop, map, Option, Some, None, zero, suc, refl, sym, ap, subst, ◌∙◌, add-one, arith}
use Rattle.std.proofs.Math.Seq.{drop-nil}
use Rattle.std.specs.Prelude.{option_map}
use Rattle.std.proofs.lemmas.Bool.Decides.{Decides-eqb}
use Rattle.tau_sexpr.specs.Form.{tree_of}
use Rattle.tau_sexpr.specs.Tree.{Tree, Trees, word, none, more, inside}
use Rattle.tau_sexpr.specs.declared.trees.Form.{Form}
use Rattle.tau_forms.specs.declared.keywords.FailureWord.{FailureWord}
use Rattle.tau_forms.specs.declared.keywords.FailureWord.TheVariants as failures
use Rattle.tau_forms.specs.declared.keywords.Keyword.{Keyword}
use Rattle.tau_forms.specs.declared.keywords.Keyword.TheVariants as keywords
use Rattle.tau_forms.specs.declared.rows.Row.{Row}
use Rattle.tau_forms.specs.declared.tables.Tables.{Tables}
use Rattle.tau_forms.specs.declared.wanted.Wanted.{Wanted}
use Rattle.tau_forms.specs.declared.wanted.Wanted.TheVariants as wanteds
use Rattle.tau_forms.specs.Keywords.{keyword_in, failure_in}
use Rattle.tau_forms.specs.Inner.Passing.{roles_along, roles_of, bound_by}
use Rattle.tau_forms.specs.Roles.{Role, first, known, fresh, count, failure, value, expression, two_names, row, every, count_of, word_of, words_of, with_first, failure_items, has_items, expression_items, parts_of}
use Rattle.tau_forms.specs.Inner.Wanted.{role_of}

pub count_of-inside : (fs : List Form) → count_of (inside (map tree_of fs)) ≡ length fs
count_of-inside [] = refl
count_of-inside (f ∷ fs) = omega (arith, count_of-inside fs)

-- the role of the item at k, and those of the items after it
pub roles_step : (ws : List Wanted) (rest : Wanted) (k : ℕ) (t : Tree) (ts : Trees) → roles_along (drop k ws) rest (more t ts) ≡ role_of (get_or ws k rest) ∷ roles_along (drop (k + 1) ws) rest ts
roles_step [] rest k t ts = rw (drop-nil {A = Wanted} k, drop-nil {A = Wanted} (k + 1)) refl
roles_step (w ∷ ws) rest zero t ts = refl
roles_step (w ∷ ws) rest (suc k) t ts = rw (add-one (suc k)) (subst (λ n. roles_along (drop k ws) rest (more t ts) ≡ role_of (get_or ws k rest) ∷ roles_along (drop n ws) rest ts) (add-one k) (roles_step ws rest k t ts))

-- failures have one item behind their word
pub failure_long : (tb : Tables) (f : FailureWord) (ts : Trees) → count_of ts ≢ 1 → failure_items tb f ts ≡ None
failure_long tb failures.Fail none h = refl
failure_long tb failures.Fail (more t none) h = absurd (h refl)
failure_long tb failures.Fail (more t (more u us)) h = refl
failure_long tb failures.Lose none h = refl
failure_long tb failures.Lose (more t none) h = absurd (h refl)
failure_long tb failures.Lose (more t (more u us)) h = refl
failure_long tb failures.Repeat none h = refl
failure_long tb failures.Repeat (more t none) h = absurd (h refl)
failure_long tb failures.Repeat (more t (more u us)) h = refl
failure_long tb failures.Other ts h = refl

-- a list with one item
pub one_item : (ts : Trees) → count_of ts ≡ 1 → (t : Tree) × (ts ≡ more t none)
one_item none h = cc
one_item (more t none) h = (t, refl)
one_item (more t (more u us)) h = absurd (omega arith)

-- items that all have one role
roles_rest : (p : Wanted) (ts : Trees) → roles_along [] p ts ≡ every (role_of p) ts
roles_rest p none = refl
roles_rest p (more t ts) = ap (λ rs. role_of p ∷ rs) (roles_rest p ts)

roles_one : (p : Wanted) (ts : Trees) → roles_along (p ∷ []) p ts ≡ every (role_of p) ts
roles_one p none = refl
roles_one p (more t ts) = ap (λ rs. role_of p ∷ rs) (roles_rest p ts)

roles_two : (p : Wanted) (ts : Trees) → roles_along (p ∷ p ∷ []) p ts ≡ every (role_of p) ts
roles_two p none = refl
roles_two p (more t ts) = ap (λ rs. role_of p ∷ rs) (roles_one p ts)

pub roles_three : (p : Wanted) (ts : Trees) → roles_along (p ∷ p ∷ p ∷ []) p ts ≡ every (role_of p) ts
roles_three p none = refl
roles_three p (more t ts) = ap (λ rs. role_of p ∷ rs) (roles_two p ts)

pub roles_of_new : (tb : Tables) (scope : List (List ℕ)) (b p : Wanted) (ts : Trees) → role_of b ≡ known tb.behaviours → role_of p ≡ expression scope → has_items keywords.New (count_of ts) ≡ true → roles_along (b ∷ p ∷ p ∷ []) p ts ≡ parts_of tb scope keywords.New ts
roles_of_new tb scope b p none e f h = cc
roles_of_new tb scope b p (more t ts) e f h = ap (λ r. r ∷ roles_along (p ∷ p ∷ []) p ts) e ∙ ap (λ rs. known tb.behaviours ∷ rs) (roles_two p ts ∙ ap (λ r. every r ts) f)

pub roles_of_let : (tb : Tables) (scope inner : List (List ℕ)) (x p q : Wanted) (ts : Trees) → role_of x ≡ fresh [] → role_of p ≡ expression scope → role_of q ≡ expression inner → inner ≡ scope ++ bound_by keywords.Let ts → has_items keywords.Let (count_of ts) ≡ true → roles_along (x ∷ p ∷ q ∷ []) q ts ≡ parts_of tb scope keywords.Let ts
roles_of_let tb scope inner x p q none e f g i h = cc
roles_of_let tb scope inner x p q (more t none) e f g i h = cc
roles_of_let tb scope inner x p q (more t (more u ts)) e f g i h = ap (λ r. r ∷ role_of p ∷ roles_along (q ∷ []) q ts) e ∙ ap (λ r. fresh [] ∷ r ∷ roles_along (q ∷ []) q ts) f ∙ ap (λ rs. fresh [] ∷ expression scope ∷ rs) (roles_one q ts ∙ ap (λ r. every r ts) (g ∙ ap expression i))

pub roles_of_fold : (tb : Tables) (scope inner : List (List ℕ)) (p x q : Wanted) (ts : Trees) → role_of p ≡ expression scope → role_of x ≡ two_names → role_of q ≡ expression inner → inner ≡ scope ++ bound_by keywords.Fold ts → has_items keywords.Fold (count_of ts) ≡ true → roles_along (p ∷ p ∷ x ∷ []) q ts ≡ parts_of tb scope keywords.Fold ts
roles_of_fold tb scope inner p x q none e f g i h = cc
roles_of_fold tb scope inner p x q (more t none) e f g i h = cc
roles_of_fold tb scope inner p x q (more t (more u none)) e f g i h = cc
roles_of_fold tb scope inner p x q (more t (more u (more v ts))) e f g i h = ap (λ r. r ∷ r ∷ role_of x ∷ roles_along [] q ts) e ∙ ap (λ r. expression scope ∷ expression scope ∷ r ∷ roles_along [] q ts) f ∙ ap (λ rs. expression scope ∷ expression scope ∷ two_names ∷ rs) (roles_rest q ts ∙ ap (λ r. every r ts) (g ∙ ap expression i))

-- an expression without names of its own has expressions as its items
pub roles_of_plain : (tb : Tables) (scope : List (List ℕ)) (k : Keyword) (ts : Trees) → k ≢ keywords.Name → k ≢ keywords.New → k ≢ keywords.Let → k ≢ keywords.Fold → every (expression scope) ts ≡ parts_of tb scope k ts
roles_of_plain tb scope keywords.Name ts a b c d = absurd (a refl)
roles_of_plain tb scope keywords.New ts a b c d = absurd (b refl)
roles_of_plain tb scope keywords.Let ts a b c d = absurd (c refl)
roles_of_plain tb scope keywords.Fold ts a b c d = absurd (d refl)
roles_of_plain tb scope keywords.List ts a b c d = refl
roles_of_plain tb scope keywords.If ts a b c d = refl
roles_of_plain tb scope keywords.Seq ts a b c d = refl
roles_of_plain tb scope (keywords.Apply p) ts a b c d = refl
roles_of_plain tb scope keywords.Get ts a b c d = refl
roles_of_plain tb scope keywords.Set ts a b c d = refl
roles_of_plain tb scope keywords.Send ts a b c d = refl
roles_of_plain tb scope keywords.Stabilize ts a b c d = refl
roles_of_plain tb scope keywords.Checkpoint ts a b c d = refl
roles_of_plain tb scope keywords.Rollback ts a b c d = refl
roles_of_plain tb scope keywords.Dependent ts a b c d = refl
roles_of_plain tb scope keywords.Other ts a b c d = refl

-- the row of an expression with its number of items, and of one with another
pub row_of_expression : (tb : Tables) (scope : List (List ℕ)) (ts us : Trees) (h : List ℕ) (k : Keyword) (b : Bool) → ts ≡ more (word h) us → k ≡ keyword_in h → has_items k (count_of us) ≡ b → row tb (expression scope) ts ≡ cond b (Some (first ∷ parts_of tb scope k us)) None
row_of_expression tb scope ts us h k b e d f = ap (row tb (expression scope)) e ∙ ap (λ j. with_first first (expression_items tb scope j us)) (sym d) ∙ by b f
  where
    by : (c : Bool) → has_items k (count_of us) ≡ c → with_first first (expression_items tb scope k us) ≡ cond c (Some (first ∷ parts_of tb scope k us)) None
    by true g = ap (λ c. with_first first (cond c (Some (parts_of tb scope k us)) None)) g
    by false g = ap (λ c. with_first first (cond c (Some (parts_of tb scope k us)) None)) g

-- the two names of a fold
pub names_not_two : (tb : Tables) (fs : List Form) → length fs ≢ 2 → row tb two_names (inside (map tree_of fs)) ≡ None
names_not_two tb [] h = refl
names_not_two tb (f ∷ []) h = refl
names_not_two tb (f ∷ g ∷ []) h = absurd (h refl)
names_not_two tb (f ∷ g ∷ k ∷ fs) h = refl

append_none : (xs : List (List ℕ)) → xs ++ [] ≡ xs
append_none [] = refl
append_none (x ∷ xs) = ap (λ ys. x ∷ ys) (append_none xs)

pub names_two : (tb : Tables) (fs : List Form) (a b : Wanted) → length fs ≡ 2 → role_of a ≡ fresh [] → role_of b ≡ fresh (words_of (inside (map tree_of (take 1 fs)))) → Some (roles_along (a ∷ b ∷ b ∷ b ∷ []) b (inside (map tree_of fs))) ≡ row tb two_names (inside (map tree_of fs))
names_two tb [] a b h e d = cc
names_two tb (f ∷ []) a b h e d = absurd (omega arith)
names_two tb (f ∷ g ∷ []) a b h e d = ap (λ r. Some (r ∷ role_of b ∷ [])) e ∙ ap (λ r. Some (fresh [] ∷ r ∷ [])) (d ∙ ap fresh (append_none (word_of (tree_of f))))
names_two tb (f ∷ g ∷ k ∷ fs) a b h e d = absurd (omega arith)

pub none_third : (fs : List Form) → length fs ≤ 2 → [] ≡ bound_by keywords.Fold (inside (map tree_of fs))
none_third [] h = refl
none_third (f ∷ []) h = refl
none_third (f ∷ g ∷ []) h = refl
none_third (f ∷ g ∷ k ∷ fs) h = absurd (omega arith)

-- failures
pub row_of_failure : (tb : Tables) (ts us : Trees) (h : List ℕ) → ts ≡ more (word h) us → count_of us ≢ 1 → row tb failure ts ≡ None
row_of_failure tb ts us h e n = ap (row tb failure) e ∙ ap (with_first first) (failure_long tb (failure_in h) us n)

pub roles_of_failure : (tb : Tables) (ts us : Trees) (h : List ℕ) (f : FailureWord) (rs : List Role) (end : ℕ) → ts ≡ more (word h) us → count_of us ≡ 1 → f ≡ failure_in h → ((t : Tree) → failure_items tb f (more t none) ≡ Some (count 0 end ∷ [])) → ((t u : Tree) → ts ≡ more t (more u none) → rs ≡ first ∷ count 0 end ∷ []) → Some rs ≡ row tb failure ts
roles_of_failure tb ts us h f rs end e n d items is =
    let one = one_item us n in
    let whole : ts ≡ more (word h) (more one.0 none) = e ∙ ap (more (word h)) one.1 in
    ap Some (is (word h) one.0 whole) ∙ sym (ap (row tb failure) whole ∙ ap (λ g. with_first first (failure_items tb g (more one.0 none))) (sym d) ∙ ap (with_first first) (items one.0))

-- a message is repeated in version 2 alone
pub not_two : {X : Type 0} (v : ℕ) (x : X) → v ≢ 2 → None ≡ cond (v == 2) (Some x) None
not_two {X} v x h = by (v == 2) (λ e. h ((Decides-eqb v 2).0 e))
  where
    by : (b : Bool) → (b ≡ true → ⊥) → let n : Option X = None in n ≡ cond b (Some x) None
    by true k = absurd (k refl)
    by false k = refl

pub when_two : {X : Type 0} (v : ℕ) (x y : X) → v ≡ 2 → x ≡ y → Some x ≡ cond (v == 2) (Some y) None
when_two v x y e f =
    let two : (v == 2) ≡ true = (Decides-eqb v 2).1 e in
    ap Some f ∙ sym (ap (λ b. cond b (Some y) None) two)

repeat_first : (b : Bool) (rs : List Role) → cond b (Some (first ∷ rs)) None ≡ with_first first (cond b (Some rs) None)
repeat_first true rs = refl
repeat_first false rs = refl

pub roles_of_repeat : (tb : Tables) (ts us : Trees) (h : List ℕ) (f : FailureWord) (o : Option Row) → ts ≡ more (word h) us → count_of us ≡ 1 → f ≡ failure_in h → f ≡ failures.Repeat → ((t u : Tree) → option_map (λ w. roles_of w (more t (more u none))) o ≡ cond (tb.version == 2) (Some (first ∷ count 0 (2 ^ 32) ∷ [])) None) → option_map (λ w. roles_of w ts) o ≡ row tb failure ts
roles_of_repeat tb ts us h f o e n d is rows =
    let one = one_item us n in
    let whole : ts ≡ more (word h) (more one.0 none) = e ∙ ap (more (word h)) one.1 in
    ap (λ q. option_map (λ w. roles_of w q) o) whole ∙ rows (word h) one.0 ∙ repeat_first (tb.version == 2) (count 0 (2 ^ 32) ∷ []) ∙ sym (ap (row tb failure) whole ∙ ap (λ j. with_first first (failure_items tb j (more one.0 none))) (sym d ∙ is))

-- the rows of expressions by keyword
pub row_of_name : (tb : Tables) (scope : List (List ℕ)) (k : Keyword) (p : Wanted) (ts : Trees) → k ≡ keywords.Name → role_of p ≡ known tb.starts → first ∷ roles_along (p ∷ p ∷ p ∷ []) p ts ≡ first ∷ parts_of tb scope k ts
row_of_name tb scope k p ts e f = ap (λ rs. first ∷ rs) (roles_three p ts ∙ ap (λ r. every r ts) f) ∙ ap (λ j. first ∷ parts_of tb scope j ts) (sym e)

pub row_of_new : (tb : Tables) (scope : List (List ℕ)) (k : Keyword) (b p : Wanted) (ts : Trees) → k ≡ keywords.New → role_of b ≡ known tb.behaviours → role_of p ≡ expression scope → has_items k (count_of ts) ≡ true → first ∷ roles_along (b ∷ p ∷ p ∷ []) p ts ≡ first ∷ parts_of tb scope k ts
row_of_new tb scope k b p ts e f g h = ap (λ rs. first ∷ rs) (roles_of_new tb scope b p ts f g (ap (λ j. has_items j (count_of ts)) (sym e) ∙ h)) ∙ ap (λ j. first ∷ parts_of tb scope j ts) (sym e)

pub row_of_let : (tb : Tables) (scope inner : List (List ℕ)) (k : Keyword) (x p q : Wanted) (ts : Trees) → k ≡ keywords.Let → role_of x ≡ fresh [] → role_of p ≡ expression scope → role_of q ≡ expression inner → inner ≡ scope ++ bound_by k ts → has_items k (count_of ts) ≡ true → first ∷ roles_along (x ∷ p ∷ q ∷ []) q ts ≡ first ∷ parts_of tb scope k ts
row_of_let tb scope inner k x p q ts e f g i b h = ap (λ rs. first ∷ rs) (roles_of_let tb scope inner x p q ts f g i (b ∙ ap (λ j. scope ++ bound_by j ts) e) (ap (λ j. has_items j (count_of ts)) (sym e) ∙ h)) ∙ ap (λ j. first ∷ parts_of tb scope j ts) (sym e)

pub row_of_fold : (tb : Tables) (scope inner : List (List ℕ)) (k : Keyword) (p x q : Wanted) (ts : Trees) → k ≡ keywords.Fold → role_of p ≡ expression scope → role_of x ≡ two_names → role_of q ≡ expression inner → inner ≡ scope ++ bound_by k ts → has_items k (count_of ts) ≡ true → first ∷ roles_along (p ∷ p ∷ x ∷ []) q ts ≡ first ∷ parts_of tb scope k ts
row_of_fold tb scope inner k p x q ts e f g i b h = ap (λ rs. first ∷ rs) (roles_of_fold tb scope inner p x q ts f g i (b ∙ ap (λ j. scope ++ bound_by j ts) e) (ap (λ j. has_items j (count_of ts)) (sym e) ∙ h)) ∙ ap (λ j. first ∷ parts_of tb scope j ts) (sym e)

pub row_of_plain : (tb : Tables) (scope : List (List ℕ)) (k : Keyword) (p : Wanted) (ts : Trees) → k ≢ keywords.Name → k ≢ keywords.New → k ≢ keywords.Let → k ≢ keywords.Fold → role_of p ≡ expression scope → first ∷ roles_along (p ∷ p ∷ p ∷ []) p ts ≡ first ∷ parts_of tb scope k ts
row_of_plain tb scope k p ts a b c d e = ap (λ rs. first ∷ rs) (roles_three p ts ∙ ap (λ r. every r ts) e ∙ roles_of_plain tb scope k ts a b c d)

-- what isn't a value
pub not_value : (w : Wanted) → w ≢ wanteds.Value → role_of w ≢ value
not_value wanteds.First h = λ e. cc
not_value (wanteds.Mark again) h = λ e. cc
not_value (wanteds.Known names) h = λ e. cc
not_value (wanteds.Fresh names) h = λ e. cc
not_value (wanteds.OtherThan fs) h = λ e. cc
not_value (wanteds.Count low end) h = λ e. cc
not_value wanteds.Failure h = λ e. cc
not_value wanteds.Value h = absurd (h refl)
not_value (wanteds.Expression s) h = λ e. cc
not_value wanteds.TwoNames h = λ e. cc
