-- What a list at the top without a fault gives to a program.
use Rattle.std.proofs.Common.{◌≡◌, ℕ, ◌^◌, ◌<◌, ◌≤◌, ◌==◌, Bool, true, false, cond, ◌&&◌, nat_le, nat_lt, List, [], ◌∷◌, ◌++◌, length, Option, Some, None, is_some, unwrap_or, refl, sym, ap, subst, ◌∙◌, arith}
use Rattle.std.specs.Option.{option_map_or, IfSome}
use Rattle.std.proofs.lemmas.Bool.{false≢true, ltb-true, and_parts}
use Rattle.std.proofs.lemmas.Bool.Decides.{Decides-eqb}
use Rattle.tau_sexpr.specs.Tree.{Tree, Trees, word, text, list, none, more, depth_of}
use Rattle.tau_value.specs.Val.{Val}
use Rattle.tau_value.specs.Names.{IsName}
use Rattle.tau_value.specs.Numbers.{count_in}
use Rattle.tau_value.specs.Sizes.{IsInBounds, NamesBelow}
use Rattle.tau_value.specs.Meaning.{counted}
use Rattle.tau_value.specs.Meaning as values
use Rattle.tau_value.proofs.MeaningLemmas.{counted-names_below, bounded_from}
use Rattle.tau_tree.specs.Behaviour.{NamedCode}
use Rattle.tau_tree.specs.Checks.{IsSoundBehaviour}
use Rattle.tau_tree.specs.Sound.{IsSoundFailure}
use Rattle.tau_tree.specs.declared.entries.Failure.{Failure}
use Rattle.tau_forms.specs.declared.keywords.FailureWord.{FailureWord}
use Rattle.tau_forms.specs.declared.keywords.FailureWord.TheVariants as failures
use Rattle.tau_forms.specs.declared.keywords.Sort.{Sort}
use Rattle.tau_forms.specs.declared.keywords.Sort.TheVariants as sorts
use Rattle.tau_forms.specs.declared.tables.Tables.{Tables}
use Rattle.tau_forms.specs.Keywords.{sort_in, failure_in}
use Rattle.tau_forms.specs.Tops.{sort_of, is_behaviour, is_start, is_post, is_entry, has, name_in, named_by, with_name, is_count_in, behaviours_of, starts_of}
use Rattle.tau_forms.specs.Roles.{Role, top, first, known, fresh, count, failure, value, expression, top_items, top_first, with_first, failure_items, row}
use Rattle.tau_forms.specs.Faults.{shape, unless, FaultAt, FaultIn, IsClean}
use Rattle.tau_forms.specs.Meaning.{number_of, count_of, code_in, PlainStart, PlainPost, where_true, behaviour_in, start_in, post_in, failure_of, entry_of, entry_in}
use Rattle.tau_forms.proofs.SoundExpressions.{regular}
use Rattle.tau_forms.proofs.SoundFaults.{own_clean, items_clean, head_clean, tail_clean, value_clean, passes, IsKnown, known_clean, IsFresh, fresh_clean, number_of-lt}
use Rattle.tau_forms.proofs.SoundNames.{named_by-none}

some_row : (r : Role) (o : Option (List Role)) → unless (is_some (with_first r o)) shape ≡ None → is_some o ≡ true
some_row r (Some rs) e = refl
some_row r None e = cc

-- a number is in its range
pub record IsCounted (low end : ℕ) (t : Tree) : Type 0 where
  pub digits : List ℕ
  pub is : t ≡ word digits
  pub below : count_of digits < end

count_below : (low end : ℕ) (w : List ℕ) → is_count_in low end w ≡ true → count_of w < end
count_below low end w e = by (count_in w) e
  where
    by : (o : Option ℕ) → option_map_or (λ n. nat_le low n && nat_lt n end) o false ≡ true → unwrap_or o 0 < end
    by (Some n) f = ltb-true n end (and_parts (nat_le low n) (nat_lt n end) f).1
    by None f = cc

behaviour_only : (k : Sort) → is_behaviour k ≡ true → k ≡ sorts.Behaviour
behaviour_only sorts.Behaviour e = refl
behaviour_only k e = absurd (false≢true e)

start_only : (k : Sort) → is_start k ≡ true → k ≡ sorts.Start
start_only sorts.Start e = refl
start_only k e = absurd (false≢true e)

-- a list of another sort gives nothing
pub behaviour_none : (tb : Tables) (t : Tree) → is_behaviour (sort_of t) ≡ false → behaviour_in tb t ≡ None
behaviour_none tb (list (more (word h) (more (word n) (more e none)))) f =
    ap (λ b. where_true b (record { name = n; body = code_in tb e })) f
behaviour_none tb t f = refl

pub start_none : (tb : Tables) (t : Tree) → is_start (sort_of t) ≡ false → start_in tb t ≡ None
start_none tb (list (more (word h) (more (word n) (more (word b) (more (word c) (more v none)))))) f =
    ap (λ x. where_true x (record { name = n; behaviour = number_of tb.behaviours b; node = count_of c; state = counted tb.starts (length tb.starts) v })) f
start_none tb t f = refl

pub post_none : (tb : Tables) (t : Tree) → is_post (sort_of t) ≡ false → post_in tb t ≡ None
post_none tb (list (more (word h) (more (word s) (more v none)))) f =
    ap (λ x. where_true x (record { to = number_of tb.starts s; value = counted tb.starts (length tb.starts) v })) f
post_none tb t f = refl

pub entry_none : (t : Tree) → is_entry (sort_of t) ≡ false → entry_in t ≡ None
entry_none (list (more (word h) (more (word p) (more (list (more (word g) (more (word n) none))) none)))) f =
    ap (λ x. cond x (entry_of (count_of p) (failure_of (failure_in g) (count_of n))) None) f
entry_none t f = refl

abbrev made_start : Tables → List ℕ → List ℕ → List ℕ → Tree → PlainStart
made_start tb n b c v =
    record { name = n; behaviour = number_of tb.behaviours b; node = count_of c; state = counted tb.starts (length tb.starts) v }

abbrev made_post : Tables → List ℕ → Tree → PlainPost
made_post tb s v = record { to = number_of tb.starts s; value = counted tb.starts (length tb.starts) v }

module _ (tb : Tables) where
  count_clean : (low end : ℕ) (t : Tree) → IsClean (FaultAt tb (count low end) t) → IsCounted low end t
  count_clean low end (word w) clean = record {
    digits = w;
    is = refl;
    below = count_below low end w (passes (is_count_in low end w) shape (own_clean tb (count low end) (word w) clean));
  }
  count_clean low end (text t) clean = let e = own_clean tb (count low end) (text t) clean in cc
  count_clean low end (list ts) clean = let e = own_clean tb (count low end) (list ts) clean in cc

  -- a value is in bounds, and its names are starts
  pub record IsSoundValue (v : Val) : Type 0 where
    pub names : NamesBelow (length tb.starts) v
    pub bounded : IsInBounds v

  value_sound : (t : Tree) → IsClean (FaultAt tb value t) → IsSoundValue (counted tb.starts (length tb.starts) t)
  value_sound t clean = record {
    names = counted-names_below tb.starts (length tb.starts) t (omega arith);
    bounded = bounded_from (counted tb.starts (length tb.starts) t) (λ h. value_clean tb t clean 0 values.shape (values.too_large refl h));
  }

  pub record IsSoundPlainStart (s : PlainStart) : Type 0 where
    pub named : IsName s.name
    pub behaviour : s.behaviour < length tb.behaviours
    pub node : s.node < tb.nodes
    pub state : IsSoundValue s.state

  pub record IsSoundPlainPost (q : PlainPost) : Type 0 where
    pub receiver : q.to < length tb.starts
    pub value : IsSoundValue q.value

  module _ (before : List Tree) where
    -- the items of a list of one sort
    top_row : (h : List ℕ) (ts : Trees) (k : Sort) (rs : List Role) → sort_in h ≡ k → top_items tb before k ts ≡ Some rs → IsClean (FaultAt tb (top before) (list (more (word h) ts))) → IsClean (FaultIn tb rs ts)
    top_row h ts k rs e f clean =
        let r = top_first before (list (more (word h) ts)) in
        let is : row tb (top before) (more (word h) ts) ≡ Some (r ∷ rs) = ap (λ s. with_first r (top_items tb before s ts)) e ∙ ap (with_first r) f in
        tail_clean tb r rs (word h) ts (items_clean tb (top before) (more (word h) ts) (r ∷ rs) is clean)

    top_some : (h : List ℕ) (ts : Trees) (k : Sort) → sort_in h ≡ k → IsClean (FaultAt tb (top before) (list (more (word h) ts))) → is_some (top_items tb before k ts) ≡ true
    top_some h ts k e clean =
        let some = some_row (top_first before (list (more (word h) ts))) (top_items tb before (sort_in h) ts) (own_clean tb (top before) (list (more (word h) ts)) clean) in
        sym (ap (λ s. is_some (top_items tb before s ts)) e) ∙ some

    abbrev IsCleanTop : Tree → Type 0
    IsCleanTop t = IsClean (FaultAt tb (top before) t)

    -- a behaviour
    pub behaviour_sound : (t : Tree) → IsCleanTop t → depth_of t ≤ 200 → IfSome (behaviour_in tb t) (IsSoundBehaviour (length tb.starts) (length tb.behaviours))
    behaviour_sound (list (more (word h) (more (word n) (more e none)))) clean deep = by (sort_in h) refl
      where
        here : sort_in h ≡ sorts.Behaviour → IsSoundBehaviour (length tb.starts) (length tb.behaviours) (record { name = n; body = code_in tb e })
        here f =
            let items = top_row h (more (word n) (more e none)) sorts.Behaviour (fresh (behaviours_of before) ∷ expression [] ∷ []) f refl clean in
            let name = fresh_clean tb (behaviours_of before) (word n) (head_clean tb (fresh (behaviours_of before)) (expression [] ∷ []) (word n) (more e none) items) in
            let same : name.name ≡ n = let g = name.is in cc in
            let rest = tail_clean tb (fresh (behaviours_of before)) (expression [] ∷ []) (word n) (more e none) items in
            let body = regular tb e [] (head_clean tb (expression []) [] e none rest) in
            record { named = rw same at name.named; depth = omega (arith, body.depth); bound = body.bound; rules = body.rules }

        by : (k : Sort) → sort_in h ≡ k → IfSome (where_true (is_behaviour k) (record { name = n; body = code_in tb e })) (IsSoundBehaviour (length tb.starts) (length tb.behaviours))
        by sorts.Behaviour f = here f
        by k f = tt
    behaviour_sound t clean deep = tt

    -- a start
    record IsStart (n b c v : Tree) : Type 0 where
      name : IsFresh (starts_of before) n
      behaviour : IsKnown tb.behaviours b
      node : IsCounted 0 tb.nodes c
      state : IsSoundValue (counted tb.starts (length tb.starts) v)

    start_facts : (n b c v : Tree) → IsClean (FaultIn tb (fresh (starts_of before) ∷ known tb.behaviours ∷ count 0 tb.nodes ∷ value ∷ []) (more n (more b (more c (more v none))))) → IsStart n b c v
    start_facts n b c v items =
        let third = count 0 tb.nodes ∷ value ∷ [] in
        let second = known tb.behaviours ∷ third in
        let from_b = tail_clean tb (fresh (starts_of before)) second n (more b (more c (more v none))) items in
        let from_c = tail_clean tb (known tb.behaviours) third b (more c (more v none)) from_b in
        let from_v = tail_clean tb (count 0 tb.nodes) (value ∷ []) c (more v none) from_c in
        record {
          name = fresh_clean tb (starts_of before) n (head_clean tb (fresh (starts_of before)) second n (more b (more c (more v none))) items);
          behaviour = known_clean tb tb.behaviours b (head_clean tb (known tb.behaviours) third b (more c (more v none)) from_b);
          node = count_clean 0 tb.nodes c (head_clean tb (count 0 tb.nodes) (value ∷ []) c (more v none) from_c);
          state = value_sound v (head_clean tb value [] v none from_v);
        }

    pub start_sound : (t : Tree) → IsCleanTop t → IfSome (start_in tb t) IsSoundPlainStart
    start_sound (list (more (word h) (more (word n) (more (word b) (more (word c) (more v none)))))) clean = by (sort_in h) refl
      where
        here : sort_in h ≡ sorts.Start → IsSoundPlainStart (made_start tb n b c v)
        here f =
            let s = start_facts (word n) (word b) (word c) v (top_row h (more (word n) (more (word b) (more (word c) (more v none)))) sorts.Start (fresh (starts_of before) ∷ known tb.behaviours ∷ count 0 tb.nodes ∷ value ∷ []) f refl clean) in
            let name : s.name.name ≡ n = let g = s.name.is in cc in
            let behaviour : s.behaviour.name ≡ b = let g = s.behaviour.is in cc in
            let digits : s.node.digits ≡ c = let g = s.node.is in cc in
            record {
              named = rw name at s.name.named;
              behaviour = number_of-lt tb.behaviours b (rw behaviour at s.behaviour.has);
              node = rw digits at s.node.below;
              state = s.state;
            }

        by : (k : Sort) → sort_in h ≡ k → IfSome (where_true (is_start k) (made_start tb n b c v)) IsSoundPlainStart
        by sorts.Start f = here f
        by k f = tt
    start_sound t clean = tt

    -- a post
    pub post_sound : (t : Tree) → IsCleanTop t → IfSome (post_in tb t) IsSoundPlainPost
    post_sound (list (more (word h) (more (word s) (more v none)))) clean = by (sort_in h) refl
      where
        here : sort_in h ≡ sorts.Post → IsSoundPlainPost (made_post tb s v)
        here f =
            let items = top_row h (more (word s) (more v none)) sorts.Post (known tb.starts ∷ value ∷ []) f refl clean in
            let name = known_clean tb tb.starts (word s) (head_clean tb (known tb.starts) (value ∷ []) (word s) (more v none) items) in
            let same : name.name ≡ s = let g = name.is in cc in
            let rest = tail_clean tb (known tb.starts) (value ∷ []) (word s) (more v none) items in
            record {
              receiver = number_of-lt tb.starts s (rw same at name.has);
              value = value_sound v (head_clean tb value [] v none rest);
            }

        by : (k : Sort) → sort_in h ≡ k → IfSome (where_true (is_post k) (made_post tb s v)) IsSoundPlainPost
        by sorts.Post f = here f
        by k f = tt
    post_sound t clean = tt

    -- a script entry
    fail_below : (g n : List ℕ) (j : FailureWord) → failure_in g ≡ j → IsClean (FaultAt tb failure (list (more (word g) (more (word n) none)))) → IfSome (failure_of j (count_of n)) (IsSoundFailure tb.nodes tb.version)
    fail_below g n failures.Fail e clean =
        let is : row tb failure (more (word g) (more (word n) none)) ≡ Some (first ∷ count 0 tb.nodes ∷ []) = ap (λ j. with_first first (failure_items tb j (more (word n) none))) e in
        let items = tail_clean tb first (count 0 tb.nodes ∷ []) (word g) (more (word n) none) (items_clean tb failure (more (word g) (more (word n) none)) (first ∷ count 0 tb.nodes ∷ []) is clean) in
        let number = count_clean 0 tb.nodes (word n) (head_clean tb (count 0 tb.nodes) [] (word n) none items) in
        let same : number.digits ≡ n = let f = number.is in cc in
        rw same at number.below
    fail_below g n failures.Lose e clean = tt
    fail_below g n failures.Repeat e clean = by (tb.version == 2) refl
      where
        by : (b : Bool) → (tb.version == 2) ≡ b → tb.version ≡ 2
        by true f = (Decides-eqb tb.version 2).0 f
        by false f =
            let missing : row tb failure (more (word g) (more (word n) none)) ≡ None = ap (λ j. with_first first (failure_items tb j (more (word n) none))) e ∙ ap (λ b. with_first first (cond b (Some (count 0 (2 ^ 32) ∷ [])) None)) f in
            let clash : Some shape ≡ None = sym (ap (λ o. unless (is_some o) shape) missing) ∙ own_clean tb failure (list (more (word g) (more (word n) none))) clean in
            absurd (cc)
    fail_below g n failures.Other e clean = tt

    entry_some : (p : ℕ) (o : Option Failure) → IfSome o (IsSoundFailure tb.nodes tb.version) → IfSome (entry_of p o) (λ e. IsSoundFailure tb.nodes tb.version e.failure)
    entry_some p (Some f) h = h
    entry_some p None h = tt

    pub entry_sound : (t : Tree) → IsCleanTop t → IfSome (entry_in t) (λ e. IsSoundFailure tb.nodes tb.version e.failure)
    entry_sound (list (more (word h) (more (word p) (more (list (more (word g) (more (word n) none))) none)))) clean = by (sort_in h) refl
      where
        here : sort_in h ≡ sorts.At → IfSome (failure_of (failure_in g) (count_of n)) (IsSoundFailure tb.nodes tb.version)
        here f =
            let inner : Tree = list (more (word g) (more (word n) none)) in
            let items = top_row h (more (word p) (more inner none)) sorts.At (count 0 (2 ^ 32) ∷ failure ∷ []) f refl clean in
            let rest = tail_clean tb (count 0 (2 ^ 32)) (failure ∷ []) (word p) (more inner none) items in
            fail_below g n (failure_in g) refl (head_clean tb failure [] inner none rest)

        by : (k : Sort) → sort_in h ≡ k → IfSome (cond (is_entry k) (entry_of (count_of p) (failure_of (failure_in g) (count_of n))) None) (λ e. IsSoundFailure tb.nodes tb.version e.failure)
        by sorts.At f = entry_some (count_of p) (failure_of (failure_in g) (count_of n)) (here f)
        by k f = tt
    entry_sound t clean = tt

    -- the names after a list at the top
    abbrev pub named_behaviours : Option NamedCode → List (List ℕ)
    named_behaviours None = behaviours_of before
    named_behaviours (Some b) = behaviours_of before ++ b.name ∷ []

    abbrev pub named_starts : Option PlainStart → List (List ℕ)
    named_starts None = starts_of before
    named_starts (Some s) = starts_of before ++ s.name ∷ []

    with_fresh : (names : List (List ℕ)) (w : List ℕ) → IsName w → has names w ≡ false → with_name names (name_in w) ≡ names ++ w ∷ []
    with_fresh names w named new = ap (λ a. with_name names (cond a (Some w) None)) named ∙ ap (λ b. cond b names (names ++ w ∷ [])) new

    abbrev BehaviourNamed : Tree → Type 0
    BehaviourNamed t = with_name (behaviours_of before) (named_by is_behaviour t) ≡ named_behaviours (behaviour_in tb t)

    abbrev StartNamed : Tree → Type 0
    StartNamed t = with_name (starts_of before) (named_by is_start t) ≡ named_starts (start_in tb t)

    behaviour_at : (h n : List ℕ) (e : Tree) → is_behaviour (sort_in h) ≡ true → IsName n → has (behaviours_of before) n ≡ false → BehaviourNamed (list (more (word h) (more (word n) (more e none))))
    behaviour_at h n e is named new =
        let made : NamedCode = record { name = n; body = code_in tb e } in
        ap (λ b. with_name (behaviours_of before) (cond b (name_in n) None)) is ∙ with_fresh (behaviours_of before) n named new ∙ sym (ap (λ b. named_behaviours (where_true b made)) is)

    behaviour_listed : (h : List ℕ) (ts : Trees) → sort_in h ≡ sorts.Behaviour → IsCleanTop (list (more (word h) ts)) → BehaviourNamed (list (more (word h) ts))
    behaviour_listed h none e clean = absurd (false≢true (top_some h none sorts.Behaviour e clean))
    behaviour_listed h (more n none) e clean = absurd (false≢true (top_some h (more n none) sorts.Behaviour e clean))
    behaviour_listed h (more n (more b none)) e clean =
        let items = top_row h (more n (more b none)) sorts.Behaviour (fresh (behaviours_of before) ∷ expression [] ∷ []) e refl clean in
        let name = fresh_clean tb (behaviours_of before) n (head_clean tb (fresh (behaviours_of before)) (expression [] ∷ []) n (more b none) items) in
        subst (λ x. BehaviourNamed (list (more (word h) (more x (more b none))))) (sym name.is) (behaviour_at h name.name b (ap is_behaviour e) name.named name.new)
    behaviour_listed h (more n (more b (more x ts))) e clean =
        absurd (false≢true (top_some h (more n (more b (more x ts))) sorts.Behaviour e clean))

    start_at : (h n b c : List ℕ) (v : Tree) → is_start (sort_in h) ≡ true → IsName n → has (starts_of before) n ≡ false → StartNamed (list (more (word h) (more (word n) (more (word b) (more (word c) (more v none))))))
    start_at h n b c v is named new =
        let made : PlainStart = record { name = n; behaviour = number_of tb.behaviours b; node = count_of c; state = counted tb.starts (length tb.starts) v } in
        ap (λ x. with_name (starts_of before) (cond x (name_in n) None)) is ∙ with_fresh (starts_of before) n named new ∙ sym (ap (λ x. named_starts (where_true x made)) is)

    start_listed : (h : List ℕ) (ts : Trees) → sort_in h ≡ sorts.Start → IsCleanTop (list (more (word h) ts)) → StartNamed (list (more (word h) ts))
    start_listed h none e clean = absurd (false≢true (top_some h none sorts.Start e clean))
    start_listed h (more n none) e clean = absurd (false≢true (top_some h (more n none) sorts.Start e clean))
    start_listed h (more n (more b none)) e clean =
        absurd (false≢true (top_some h (more n (more b none)) sorts.Start e clean))
    start_listed h (more n (more b (more c none))) e clean =
        absurd (false≢true (top_some h (more n (more b (more c none))) sorts.Start e clean))
    start_listed h (more n (more b (more c (more v none)))) e clean =
        let s = start_facts n b c v (top_row h (more n (more b (more c (more v none)))) sorts.Start (fresh (starts_of before) ∷ known tb.behaviours ∷ count 0 tb.nodes ∷ value ∷ []) e refl clean) in
        let all = start_at h s.name.name s.behaviour.name s.node.digits v (ap is_start e) s.name.named s.name.new in
        let first_word : List ℕ = s.name.name in
        let second_word : List ℕ = s.behaviour.name in
        let at_node = subst (λ x. StartNamed (list (more (word h) (more (word first_word) (more (word second_word) (more x (more v none))))))) (sym s.node.is) all in
        let at_behaviour = subst (λ x. StartNamed (list (more (word h) (more (word first_word) (more x (more c (more v none))))))) (sym s.behaviour.is) at_node in
        subst (λ x. StartNamed (list (more (word h) (more x (more b (more c (more v none))))))) (sym s.name.is) at_behaviour
    start_listed h (more n (more b (more c (more v (more x ts))))) e clean =
        absurd (false≢true (top_some h (more n (more b (more c (more v (more x ts))))) sorts.Start e clean))

    behaviour_sorted : (t : Tree) → is_behaviour (sort_of t) ≡ true → IsCleanTop t → BehaviourNamed t
    behaviour_sorted (list (more (word h) ts)) e clean = behaviour_listed h ts (behaviour_only (sort_in h) e) clean
    behaviour_sorted t e clean = absurd (false≢true e)

    start_sorted : (t : Tree) → is_start (sort_of t) ≡ true → IsCleanTop t → StartNamed t
    start_sorted (list (more (word h) ts)) e clean = start_listed h ts (start_only (sort_in h) e) clean
    start_sorted t e clean = absurd (false≢true e)

    pub behaviour_named : (t : Tree) → IsCleanTop t → BehaviourNamed t
    behaviour_named t clean = by (is_behaviour (sort_of t)) refl
      where
        by : (b : Bool) → is_behaviour (sort_of t) ≡ b → BehaviourNamed t
        by true e = behaviour_sorted t e clean
        by false e =
            ap (with_name (behaviours_of before)) (named_by-none is_behaviour t e) ∙ sym (ap named_behaviours (behaviour_none tb t e))

    pub start_named : (t : Tree) → IsCleanTop t → StartNamed t
    start_named t clean = by (is_start (sort_of t)) refl
      where
        by : (b : Bool) → is_start (sort_of t) ≡ b → StartNamed t
        by true e = start_sorted t e clean
        by false e =
            ap (with_name (starts_of before)) (named_by-none is_start t e) ∙ sym (ap named_starts (start_none tb t e))
