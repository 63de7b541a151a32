-- The lists at the top that a program is printed as: what they define, and that they have no fault.
use Rattle.std.proofs.Common.{◌≡◌, ℕ, ◌+◌, ◌^◌, ◌<◌, ◌≤◌, ◌==◌, Bool, true, false, cond, List, [], ◌∷◌, ◌++◌, length, map, Option, Some, None, is_some, refl, sym, ap, subst, ◌∙◌, append_assoc, arith, codes}
use Rattle.std.specs.Fmt.{decimal}
use Rattle.std.specs.List.{All, filter, filter_map, cons_option}
use Rattle.std.proofs.lemmas.List.{append-nil, length-append}
use Rattle.std.proofs.lemmas.List.Elements.{All-head, All-tail, filter-append}
use Rattle.std.proofs.lemmas.Bool.Decides.{Decides-eqb}
use Rattle.tau_sexpr.specs.Tree.{Tree, word, none, more, inside, headed}
use Rattle.tau_value.specs.Names.{IsName, AreNames}
use Rattle.tau_value.specs.Value.{val_of}
use Rattle.tau_value.specs.Written.{written, count_form}
use Rattle.tau_value.specs.Meaning as values
use Rattle.tau_tree.specs.Behaviour.{NamedCode}
use Rattle.tau_tree.specs.Sound.{IsSoundFailure}
use Rattle.tau_tree.specs.declared.entries.Entry.{Entry}
use Rattle.tau_tree.specs.declared.entries.Failure.{Failure}
use Rattle.tau_tree.specs.declared.entries.Failure.TheVariants.{Fail, Lose, Repeat}
use Rattle.tau_tree.specs.declared.posts.Post.{Post}
use Rattle.tau_tree.specs.declared.starts.Start.{Start}
use Rattle.tau_forms.specs.declared.keywords.Sort.{Sort}
use Rattle.tau_forms.specs.declared.tables.Tables.{Tables}
use Rattle.tau_forms.specs.Inner.Fitting.{HasFittingNumbers, HasFittingMessage}
use Rattle.tau_forms.specs.Tops.{sort_of, has, named_by, with_name, defined_after, nodes_in, nodes_of, version_in, version_of, behaviours_of, starts_of, count_of}
use Rattle.tau_forms.specs.Roles.{Role, top, first, mark, known, fresh, count, failure, value, expression, with_first, top_first, row}
use Rattle.tau_forms.specs.Faults.{shape, unless, FaultAt, FaultIn, here, later, IsClean, tops_after}
use Rattle.tau_forms.specs.Printed.{name_of, code_form, version_form, behaviour_form, start_form, post_form, failure_form, entry_form}
use Rattle.tau_forms.proofs.ReadBackExpressions.{clean_fresh, clean_name_of}
use Rattle.tau_forms.proofs.ReadBackFaults.{clean_word, clean_list, clean_none, clean_more, clean_first, clean_value}
use Rattle.tau_forms.proofs.ReadBackWords.{is_count_in-decimal, IsNameAt}
use Rattle.tau_forms.proofs.SoundNames.{named_next, new_next, defined_after-push}

-- lists one after another
pub defined_after-append : (is : Sort → Bool) (ws : List (List ℕ)) (xs ys : List Tree) → defined_after is ws (xs ++ ys) ≡ defined_after is (defined_after is ws xs) ys
defined_after-append is ws [] ys = refl
defined_after-append is ws (x ∷ xs) ys = defined_after-append is (with_name ws (named_by is x)) xs ys

pub count_of-append : (is : Sort → Bool) (xs ys : List Tree) → count_of is (xs ++ ys) ≡ count_of is xs + count_of is ys
count_of-append is xs ys =
    ap length (filter-append (λ t. is (sort_of t)) xs ys) ∙ length-append (filter (λ t. is (sort_of t)) xs) (filter (λ t. is (sort_of t)) ys)

module _ {X : Type 0} (is : Sort → Bool) (f : X → Tree) where
  pub all_counted : ((x : X) → is (sort_of (f x)) ≡ true) → (xs : List X) → count_of is (map f xs) ≡ length xs
  all_counted counted [] = refl
  all_counted counted (x ∷ xs) = rw (counted x) (omega (arith, all_counted counted xs))

  pub none_counted : ((x : X) → is (sort_of (f x)) ≡ false) → (xs : List X) → count_of is (map f xs) ≡ 0
  none_counted quiet [] = refl
  none_counted quiet (x ∷ xs) = rw (quiet x) (none_counted quiet xs)

  -- lists that define nothing
  pub defined_quiet : (ws : List (List ℕ)) → ((x : X) → named_by is (f x) ≡ None) → (xs : List X) → defined_after is ws (map f xs) ≡ ws
  defined_quiet ws quiet [] = refl
  defined_quiet ws quiet (x ∷ xs) =
      ap (λ o. defined_after is (with_name ws o) (map f xs)) (quiet x) ∙ defined_quiet ws quiet xs

  -- lists that define a name each
  pub defined_names : (name : X → List ℕ) → ((ws : List (List ℕ)) (x : X) → IsName (name x) → with_name ws (named_by is (f x)) ≡ with_name ws (Some (name x))) → (ws : List (List ℕ)) (xs : List X) → AreNames (ws ++ map name xs) → defined_after is ws (map f xs) ≡ ws ++ map name xs
  defined_names name one ws [] are = sym (append-nil ws)
  defined_names name one ws (x ∷ xs) are =
      let more : ws ++ map name (x ∷ xs) ≡ (ws ++ name x ∷ []) ++ map name xs = sym (append_assoc ws (name x ∷ []) (map name xs)) in
      let next : with_name ws (named_by is (f x)) ≡ ws ++ name x ∷ [] = one ws x (named_next ws (name x) (map name xs) are) ∙ ap (λ b. cond b ws (ws ++ name x ∷ [])) (new_next ws (name x) (map name xs) are) in
      ap (λ vs. defined_after is vs (map f xs)) next ∙ defined_names name one (ws ++ name x ∷ []) xs (subst AreNames more are) ∙ sym more

-- what lists give
pub kept : {X Y Z : Type 0} (f : Y → Option Z) (g : X → Y) (h : X → Z) (xs : List X) → All (λ x. f (g x) ≡ Some (h x)) xs → filter_map f (map g xs) ≡ map h xs
kept f g h [] all = refl
kept f g h (x ∷ xs) all =
    ap (λ o. cons_option o (filter_map f (map g xs))) (All-head (λ y. f (g y) ≡ Some (h y)) x xs all) ∙ ap (λ zs. h x ∷ zs) (kept f g h xs (All-tail (λ y. f (g y) ≡ Some (h y)) x xs all))

pub dropped : {X Y Z : Type 0} (f : Y → Option Z) (g : X → Y) → ((x : X) → f (g x) ≡ None) → (xs : List X) → filter_map f (map g xs) ≡ []
dropped f g quiet [] = refl
dropped f g quiet (x ∷ xs) = ap (λ o. cons_option o (filter_map f (map g xs))) (quiet x) ∙ dropped f g quiet xs

module _ (tb : Tables) (behaviours_are : AreNames tb.behaviours) (starts_are : AreNames tb.starts) where
  pub tops_clean-append : (before xs ys : List Tree) → IsClean (FaultIn tb (tops_after before xs) (inside xs)) → IsClean (FaultIn tb (tops_after (before ++ xs) ys) (inside ys)) → IsClean (FaultIn tb (tops_after before (xs ++ ys)) (inside (xs ++ ys)))
  tops_clean-append before [] ys one two = subst (λ b. IsClean (FaultIn tb (tops_after b ys) (inside ys))) (append-nil before) two
  tops_clean-append before (x ∷ xs) ys one two =
      let after = before ++ x ∷ [] in
      let rest = tops_clean-append after xs ys (λ n f h. one _ f (later refl h)) (subst (λ b. IsClean (FaultIn tb (tops_after b ys) (inside ys))) (sym (append_assoc before (x ∷ []) xs)) two) in
      clean_more tb (top before) (tops_after after (xs ++ ys)) x (inside (xs ++ ys)) (λ n f h. one n f (here h)) rest

  pub tops_clean : {X : Type 0} (f : X → Tree) (xs : List X) → All (λ x. (before : List Tree) → IsClean (FaultAt tb (top before) (f x))) xs → (before : List Tree) → IsClean (FaultIn tb (tops_after before (map f xs)) (inside (map f xs)))
  tops_clean f [] all before = clean_none tb
  tops_clean f (x ∷ xs) all before =
      clean_more tb (top before) (tops_after (before ++ f x ∷ []) (map f xs)) (f x) (inside (map f xs)) (All-head (λ y. (b : List Tree) → IsClean (FaultAt tb (top b) (f y))) x xs all before) (tops_clean f xs (All-tail (λ y. (b : List Tree) → IsClean (FaultAt tb (top b) (f y))) x xs all) (before ++ f x ∷ []))

  -- lists that define a name each, which are new
  pub named_clean : {X : Type 0} (is : Sort → Bool) (f : X → Tree) (name : X → List ℕ) → ((ws : List (List ℕ)) (x : X) → IsName (name x) → with_name ws (named_by is (f x)) ≡ with_name ws (Some (name x))) → (xs : List X) → All (λ x. (before : List Tree) → IsName (name x) → has (defined_after is [] before) (name x) ≡ false → IsClean (FaultAt tb (top before) (f x))) xs → (before : List Tree) → AreNames (defined_after is [] before ++ map name xs) → IsClean (FaultIn tb (tops_after before (map f xs)) (inside (map f xs)))
  named_clean is f name one [] all before are = clean_none tb
  named_clean {X} is f name one (x ∷ xs) all before are =
      let P : X → Type 0 = λ y. (b : List Tree) → IsName (name y) → has (defined_after is [] b) (name y) ≡ false → IsClean (FaultAt tb (top b) (f y)) in
      let ws = defined_after is [] before in
      let named = named_next ws (name x) (map name xs) are in
      let new = new_next ws (name x) (map name xs) are in
      let after = before ++ f x ∷ [] in
      let more : ws ++ map name (x ∷ xs) ≡ (ws ++ name x ∷ []) ++ map name xs = sym (append_assoc ws (name x ∷ []) (map name xs)) in
      let next : defined_after is [] after ≡ ws ++ name x ∷ [] = defined_after-push is [] before (f x) ∙ one ws x named ∙ ap (λ b. cond b ws (ws ++ name x ∷ [])) new in
      clean_more tb (top before) (tops_after after (map f xs)) (f x) (inside (map f xs)) (All-head P x xs all before named new) (named_clean is f name one xs (All-tail P x xs all) after (subst (λ vs. AreNames (vs ++ map name xs)) (sym next) (subst AreNames more are)))

  -- a count
  pub clean_count : (low end n : ℕ) → low ≤ n → n < end → n < 2 ^ 64 → IsClean (FaultAt tb (count low end) (count_form n))
  clean_count low end n le lt small =
      clean_word tb (count low end) (decimal n) (λ q. cc) (ap (λ b. unless b shape) (is_count_in-decimal low end n le lt small))

  -- (version K), which comes first
  pub version_clean : (n : ℕ) → 1 ≤ n → n ≤ 2 → version_in (version_form n) ≡ Some n → IsClean (FaultAt tb (top []) (version_form n))
  version_clean n some few is =
      let t = version_form n in
      let ts = more (word (codes "version")) (more (count_form n) none) in
      let begins : top_first [] t ≡ mark false = ap (λ o. cond (is_some o) (mark false) first) is in
      let listed : row tb (top []) ts ≡ Some (mark false ∷ count 1 3 ∷ []) = ap (λ r. Some (r ∷ count 1 3 ∷ [])) begins in
      clean_list tb (top []) ts (mark false ∷ count 1 3 ∷ []) (λ q. cc) listed (clean_more tb (mark false) (count 1 3 ∷ []) (word (codes "version")) (more (count_form n) none) (clean_word tb (mark false) (codes "version") (λ q. cc) refl) (clean_more tb (count 1 3) [] (count_form n) none (clean_count 1 3 n some (omega arith) (omega arith)) (clean_none tb)))

  -- (nodes K), after forms without a number of nodes
  pub nodes_clean : (before : List Tree) (n : ℕ) → nodes_of before ≡ None → 0 < n → n ≤ 64 → nodes_in (headed (codes "nodes") (count_form n ∷ [])) ≡ Some n → IsClean (FaultAt tb (top before) (headed (codes "nodes") (count_form n ∷ [])))
  nodes_clean before n new some few is =
      let t = headed (codes "nodes") (count_form n ∷ []) in
      let ts = more (word (codes "nodes")) (more (count_form n) none) in
      let other : Role = cond (is_some (version_in t)) (mark (is_some (version_of before))) first in
      let begins : top_first before t ≡ mark false = ap (λ o. cond (is_some o) (mark (is_some (nodes_of before))) other) is ∙ ap (λ o. mark (is_some o)) new in
      let listed : row tb (top before) ts ≡ Some (mark false ∷ count 1 65 ∷ []) = ap (λ r. Some (r ∷ count 1 65 ∷ [])) begins in
      clean_list tb (top before) ts (mark false ∷ count 1 65 ∷ []) (λ q. cc) listed (clean_more tb (mark false) (count 1 65 ∷ []) (word (codes "nodes")) (more (count_form n) none) (clean_word tb (mark false) (codes "nodes") (λ q. cc) refl) (clean_more tb (count 1 65) [] (count_form n) none (clean_count 1 65 n (omega arith) (omega arith) (omega arith)) (clean_none tb)))

  -- a behaviour
  pub behaviour_clean : (b : NamedCode) (before : List Tree) → IsName b.name → has (behaviours_of before) b.name ≡ false → IsClean (FaultAt tb (expression []) (code_form tb.behaviours tb.starts b.body)) → IsClean (FaultAt tb (top before) (behaviour_form tb.behaviours tb.starts b))
  behaviour_clean b before named new body =
      let e = code_form tb.behaviours tb.starts b.body in
      let rs = fresh (behaviours_of before) ∷ expression [] ∷ [] in
      clean_list tb (top before) (more (word (codes "behaviour")) (more (word b.name) (more e none))) (first ∷ rs) (λ q. cc) refl (clean_more tb first rs (word (codes "behaviour")) (more (word b.name) (more e none)) (clean_first tb (codes "behaviour")) (clean_more tb (fresh (behaviours_of before)) (expression [] ∷ []) (word b.name) (more e none) (clean_fresh tb behaviours_are starts_are (behaviours_of before) b.name named new) (clean_more tb (expression []) [] e none body (clean_none tb))))

  -- a start
  pub start_clean : (s : Start) (before : List Tree) → IsName s.name → has (starts_of before) s.name ≡ false → IsNameAt tb.behaviours s.behaviour → s.node < tb.nodes → tb.nodes ≤ 64 → values.Means tb.starts (length tb.starts) (written tb.starts (val_of s.state)) (val_of s.state) → IsClean (FaultAt tb (top before) (start_form tb.behaviours tb.starts s))
  start_clean s before named new behaviour node few state =
      let v = written tb.starts (val_of s.state) in
      let b = name_of tb.behaviours s.behaviour in
      let k = count_form s.node in
      let third = count 0 tb.nodes ∷ value ∷ [] in
      let second = known tb.behaviours ∷ third in
      clean_list tb (top before) (more (word (codes "start")) (more (word s.name) (more b (more k (more v none))))) (first ∷ fresh (starts_of before) ∷ second) (λ q. cc) refl (clean_more tb first (fresh (starts_of before) ∷ second) (word (codes "start")) (more (word s.name) (more b (more k (more v none)))) (clean_first tb (codes "start")) (clean_more tb (fresh (starts_of before)) second (word s.name) (more b (more k (more v none))) (clean_fresh tb behaviours_are starts_are (starts_of before) s.name named new) (clean_more tb (known tb.behaviours) third b (more k (more v none)) (clean_name_of tb behaviours_are starts_are tb.behaviours s.behaviour behaviour) (clean_more tb (count 0 tb.nodes) (value ∷ []) k (more v none) (clean_count 0 tb.nodes s.node (omega arith) node (omega arith)) (clean_more tb value [] v none (clean_value tb v (val_of s.state) state) (clean_none tb))))))

  -- a post
  pub post_clean : (q : Post) (before : List Tree) → IsNameAt tb.starts q.to → values.Means tb.starts (length tb.starts) (written tb.starts (val_of q.value)) (val_of q.value) → IsClean (FaultAt tb (top before) (post_form tb.starts q))
  post_clean q before to means =
      let v = written tb.starts (val_of q.value) in
      let s = name_of tb.starts q.to in
      let rs = known tb.starts ∷ value ∷ [] in
      clean_list tb (top before) (more (word (codes "post")) (more s (more v none))) (first ∷ rs) (λ e. cc) refl (clean_more tb first rs (word (codes "post")) (more s (more v none)) (clean_first tb (codes "post")) (clean_more tb (known tb.starts) (value ∷ []) s (more v none) (clean_name_of tb behaviours_are starts_are tb.starts q.to to) (clean_more tb value [] v none (clean_value tb v (val_of q.value) means) (clean_none tb))))

  -- a script entry
  failure_clean : (f : Failure) → IsSoundFailure tb.nodes tb.version f → tb.nodes ≤ 64 → HasFittingMessage f → IsClean (FaultAt tb failure (failure_form f))
  failure_clean (Fail n) below few fits =
      let small : n < tb.nodes = below in
      clean_list tb failure (more (word (codes "fail")) (more (count_form n) none)) (first ∷ count 0 tb.nodes ∷ []) (λ q. cc) refl (clean_more tb first (count 0 tb.nodes ∷ []) (word (codes "fail")) (more (count_form n) none) (clean_first tb (codes "fail")) (clean_more tb (count 0 tb.nodes) [] (count_form n) none (clean_count 0 tb.nodes n (omega arith) below (omega arith)) (clean_none tb)))
  failure_clean (Lose m) below few fits =
      let small : m < 2 ^ 32 = fits in
      clean_list tb failure (more (word (codes "lose")) (more (count_form m) none)) (first ∷ count 0 (2 ^ 32) ∷ []) (λ q. cc) refl (clean_more tb first (count 0 (2 ^ 32) ∷ []) (word (codes "lose")) (more (count_form m) none) (clean_first tb (codes "lose")) (clean_more tb (count 0 (2 ^ 32)) [] (count_form m) none (clean_count 0 (2 ^ 32) m (omega arith) fits (omega arith)) (clean_none tb)))
  failure_clean (Repeat m) below few fits =
      let small : m < 2 ^ 32 = fits in
      let two : (tb.version == 2) ≡ true = (Decides-eqb tb.version 2).1 below in
      let listed : row tb failure (more (word (codes "repeat")) (more (count_form m) none)) ≡ Some (first ∷ count 0 (2 ^ 32) ∷ []) = ap (λ b. with_first first (cond b (Some (count 0 (2 ^ 32) ∷ [])) None)) two in
      clean_list tb failure (more (word (codes "repeat")) (more (count_form m) none)) (first ∷ count 0 (2 ^ 32) ∷ []) (λ q. cc) listed (clean_more tb first (count 0 (2 ^ 32) ∷ []) (word (codes "repeat")) (more (count_form m) none) (clean_first tb (codes "repeat")) (clean_more tb (count 0 (2 ^ 32)) [] (count_form m) none (clean_count 0 (2 ^ 32) m (omega arith) fits (omega arith)) (clean_none tb)))

  pub entry_clean : (e : Entry) (before : List Tree) → IsSoundFailure tb.nodes tb.version e.failure → tb.nodes ≤ 64 → HasFittingNumbers e → IsClean (FaultAt tb (top before) (entry_form e))
  entry_clean e before below few fits =
      let place = fits.place in
      let f = failure_form e.failure in
      let rs = count 0 (2 ^ 32) ∷ failure ∷ [] in
      clean_list tb (top before) (more (word (codes "at")) (more (count_form e.at) (more f none))) (first ∷ rs) (λ q. cc) refl (clean_more tb first rs (word (codes "at")) (more (count_form e.at) (more f none)) (clean_first tb (codes "at")) (clean_more tb (count 0 (2 ^ 32)) (failure ∷ []) (count_form e.at) (more f none) (clean_count 0 (2 ^ 32) e.at (omega arith) place (omega arith)) (clean_more tb failure [] f none (failure_clean e.failure below few fits.message) (clean_none tb))))
