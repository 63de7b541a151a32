-- The forms that a program is printed as are read back as the program.
use Rattle.std.proofs.Common.{◌≡◌, ℕ, zero, suc, ◌+◌, ◌^◌, ◌<◌, ◌≤◌, ◌==◌, ◌||◌, Bool, true, false, cond, nat_lt, List, [], ◌∷◌, ◌++◌, length, map, get_or, Option, Some, None, unwrap_or, slice_get, Result, Ok, Err, OnOk, refl, sym, ap, subst, ◌∙◌, arith, codes}
use Rattle.std.specs.Fmt.{decimal}
use Rattle.std.specs.List.{All, filter, filter_map, cons_option, list_any}
use Rattle.std.specs.Option.{option_or}
use Rattle.std.proofs.lemmas.Bool.{le-ltb}
use Rattle.std.proofs.lemmas.Bool.Decides.{Decides-eqb}
use Rattle.std.proofs.lemmas.List.Folds.{list_any_none}
use Rattle.std.proofs.lemmas.List.{append-nil, length-map}
use Rattle.std.proofs.lemmas.List.Elements.{All-head, All-tail, All-nil, All-cons, All-append, All-map, filter_map-append}
use Rattle.tau_sexpr.specs.Printing as print
use Rattle.tau_sexpr.specs.Printing.{HasBytes}
use Rattle.tau_sexpr.specs.Spelling.{IsSpelling}
use Rattle.tau_sexpr.proofs.PrintLemmas.{spells_printed}
use Rattle.tau_sexpr.specs.Tree.{Tree, inside, depth_of, depths, depths-append, HasWords, headed}
use Rattle.tau_value.specs.Names.{AreNames}
use Rattle.tau_value.specs.Numbers.{count_in}
use Rattle.tau_value.specs.Sizes.{NamesBelow}
use Rattle.tau_value.specs.Value.{val_of}
use Rattle.tau_value.specs.Written.{written, count_form}
use Rattle.tau_value.specs.Meaning.{counted}
use Rattle.tau_value.specs.Meaning as values
use Rattle.tau_value.proofs.NumberLemmas.{count_in-decimal}
use Rattle.tau_value.proofs.WrittenLemmas.{name_nonempty, decimal_filled}
use Rattle.tau_tree.specs.Behaviour.{NamedCode}
use Rattle.tau_tree.specs.Checks.{KeepsRules, IsSoundBehaviour}
use Rattle.tau_tree.specs.Parts.{Throughout}
use Rattle.tau_tree.specs.Sound.{Sound, IsSoundFailure, behaviour_names, start_names, behaviour_names-are, start_names-are}
use Rattle.tau_tree.specs.declared.entries.Failure.{Failure}
use Rattle.tau_tree.specs.declared.entries.Failure.TheVariants.{Fail, Lose, Repeat}
use Rattle.tau_tree.specs.declared.posts.Post.{Post}
use Rattle.tau_tree.specs.declared.programs.Program.{Program}
use Rattle.tau_tree.specs.declared.starts.Start.{Start}
use Rattle.tau_tree.proofs.SoundLemmas.{All-unmap, PassesChecks, checks_from_sound}
use Rattle.tau_tree.proofs.SplitLemmas.{throughout_both}
use Rattle.tau_forms.specs.declared.keywords.Sort.{Sort}
use Rattle.tau_forms.specs.declared.keywords.Sort.TheVariants as sorts
use Rattle.tau_forms.specs.declared.tables.Tables.{Tables}
use Rattle.tau_forms.specs.Inner.Fitting.{HasFittingInteger, HasFittingMessage, IsFitting}
use Rattle.tau_forms.specs.Tops.{sort_of, is_behaviour, is_start, is_post, is_entry, with_name, defined_after, nodes_in, nodes_of, version_in, is_two, is_second, version_told, behaviours_of, starts_of, tables_of, count_of, limit_of}
use Rattle.tau_forms.specs.Roles.{top}
use Rattle.tau_forms.specs.Faults.{FaultIn, tops_after, ProgramFaultAt, in_top, no_nodes, IsClean}
use Rattle.tau_forms.specs.Meaning.{number_of, PlainProgram, plain_start, plain_post, plain_of, behaviour_in, start_in, post_in, entry_in, program_in, Means}
use Rattle.tau_forms.specs.Meaning as meaning
use Rattle.tau_forms.specs.Printed.{code_form, version_form, behaviour_form, start_form, post_form, failure_form, entry_form, printed}
use Rattle.tau_forms.proofs.ReadBackExpressions.{Fits, IsRead, depth_of-form, form_words, read}
use Rattle.tau_forms.proofs.ReadBackFaults.{clean_more}
use Rattle.tau_forms.proofs.ReadBackTops.{defined_after-append, count_of-append, all_counted, none_counted, defined_quiet, defined_names, kept, dropped, tops_clean-append, tops_clean, named_clean, version_clean, nodes_clean, behaviour_clean, start_clean, post_clean, entry_clean}
use Rattle.tau_forms.proofs.ReadBackWords.{name_filled, count_of-decimal, is_count_in-decimal, IsNameAt, name_at}
use Rattle.tau_forms.proofs.SoundTops.{start_none, post_none, entry_none}

sum_first : {a b c d n : ℕ} → a ≡ n → b ≡ 0 → c ≡ 0 → d ≡ 0 → a + b + c + d ≡ n
sum_first ea eb ec ed = omega arith

sum_second : {a b c d n : ℕ} → a ≡ 0 → b ≡ n → c ≡ 0 → d ≡ 0 → a + b + c + d ≡ n
sum_second ea eb ec ed = omega arith

sum_third : {a b c d n : ℕ} → a ≡ 0 → b ≡ 0 → c ≡ n → d ≡ 0 → a + b + c + d ≡ n
sum_third ea eb ec ed = omega arith

sum_fourth : {a b c d n : ℕ} → a ≡ 0 → b ≡ 0 → c ≡ 0 → d ≡ n → a + b + c + d ≡ n
sum_fourth ea eb ec ed = omega arith

-- lists of four kinds, of which one is given
four_first : {Z : Type 0} {a b c d z : List Z} → a ≡ z → b ≡ [] → c ≡ [] → d ≡ [] → a ++ b ++ c ++ d ≡ z
four_first {z = z} ea eb ec ed = rw (ea, eb, ec, ed, append-nil z, append-nil z, append-nil z) refl

four_second : {Z : Type 0} {a b c d z : List Z} → a ≡ [] → b ≡ z → c ≡ [] → d ≡ [] → a ++ b ++ c ++ d ≡ z
four_second {z = z} ea eb ec ed = rw (ea, eb, ec, ed, append-nil z, append-nil z) refl

four_third : {Z : Type 0} {a b c d z : List Z} → a ≡ [] → b ≡ [] → c ≡ z → d ≡ [] → a ++ b ++ c ++ d ≡ z
four_third {z = z} ea eb ec ed = rw (ea, eb, ec, ed, append-nil z) refl

four_fourth : {Z : Type 0} {a b c d z : List Z} → a ≡ [] → b ≡ [] → c ≡ [] → d ≡ z → a ++ b ++ c ++ d ≡ z
four_fourth {z = z} ea eb ec ed = rw (ea, eb, ec, ed) refl

map_same : {X : Type 0} (xs : List X) → map (λ x. x) xs ≡ xs
map_same [] = refl
map_same (x ∷ xs) = ap (λ ys. x ∷ ys) (map_same xs)

within : (a b c d : ℕ) → a ≤ 256 → b ≤ 1024 → c ≤ 4096 → d ≤ 4096 → cond {A = Option ℕ} (nat_lt 256 a) (Some 1) (cond (nat_lt 1024 b) (Some 2) (cond (nat_lt 4096 c) (Some 3) (cond (nat_lt 4096 d) (Some 4) None))) ≡ None
within a b c d ha hb hc hd = rw (le-ltb 256 a ha, le-ltb 1024 b hb, le-ltb 4096 c hc, le-ltb 4096 d hd) refl

-- a version that isn't 2 is 1
one_of : (n : ℕ) → 1 ≤ n → n ≤ 2 → (n ≡ 2 → ⊥) → 1 ≡ n
one_of zero some few other = absurd (omega (arith, some))
one_of (suc zero) some few other = refl
one_of (suc (suc zero)) some few other = absurd (other refl)
one_of (suc (suc (suc n))) some few other = absurd (omega (arith, few))

-- a script entry is read back
entry_read : (k : ℕ) (f : Failure) → k < 2 ^ 32 → HasFittingMessage f → (nodes version : ℕ) → IsSoundFailure nodes version f → nodes ≤ 64 → entry_in (entry_form (record { at = k; failure = f })) ≡ Some (record { at = k; failure = f })
entry_read k (Fail n) place message nodes version below few =
    let small : n < nodes = below in
    let at_place : meaning.count_of (decimal k) ≡ k = count_of-decimal k (omega arith) in
    let node : meaning.count_of (decimal n) ≡ n = count_of-decimal n (omega arith) in
    λ i. Some (record { at = at_place i; failure = Fail (node i) })
entry_read k (Lose m) place message nodes version below few =
    let small : m < 2 ^ 32 = message in
    let at_place : meaning.count_of (decimal k) ≡ k = count_of-decimal k (omega arith) in
    let lost : meaning.count_of (decimal m) ≡ m = count_of-decimal m (omega arith) in
    λ i. Some (record { at = at_place i; failure = Lose (lost i) })
entry_read k (Repeat m) place message nodes version below few =
    let small : m < 2 ^ 32 = message in
    let at_place : meaning.count_of (decimal k) ≡ k = count_of-decimal k (omega arith) in
    let repeated : meaning.count_of (decimal m) ≡ m = count_of-decimal m (omega arith) in
    λ i. Some (record { at = at_place i; failure = Repeat (repeated i) })

depth_of-failure : (f : Failure) → depth_of (failure_form f) ≡ 1
depth_of-failure (Fail n) = refl
depth_of-failure (Lose m) = refl
depth_of-failure (Repeat m) = refl

failure_words : (f : Failure) (nodes version : ℕ) → IsSoundFailure nodes version f → nodes ≤ 64 → HasFittingMessage f → HasWords (failure_form f)
failure_words (Fail n) nodes version below few fits = let small : n < nodes = below in (λ e. cc, (decimal_filled n (omega arith), tt))
failure_words (Lose m) nodes version below few fits = let small : m < 2 ^ 32 = fits in (λ e. cc, (decimal_filled m (omega arith), tt))
failure_words (Repeat m) nodes version below few fits = let small : m < 2 ^ 32 = fits in (λ e. cc, (decimal_filled m (omega arith), tt))

depths_each : {X : Type 0} (f : X → Tree) (xs : List X) → All (λ x. depth_of (f x) ≤ 200) xs → depths (map f xs) ≤ 200
depths_each f [] all = omega arith
depths_each f (x ∷ xs) all =
    omega (arith, All-head (λ y. depth_of (f y) ≤ 200) x xs all, depths_each f xs (All-tail (λ y. depth_of (f y) ≤ 200) x xs all))

-- a sound program whose numbers fit, with the lists that it is printed as
module _ (p : Program) (sound : Sound p) (fitting : IsFitting p) where
  abbrev bs : List (List ℕ)
  bs = behaviour_names p

  abbrev ss : List (List ℕ)
  ss = start_names p

  abbrev tb : Tables
  tb = record { behaviours = behaviour_names p; starts = start_names p; nodes = p.nodes; version = p.version }

  abbrev as_behaviour : NamedCode → Tree
  as_behaviour = behaviour_form (behaviour_names p) (start_names p)

  abbrev as_start : Start → Tree
  as_start = start_form (behaviour_names p) (start_names p)

  abbrev as_post : Post → Tree
  as_post = post_form (start_names p)

  abbrev nodes_list : Tree
  nodes_list = headed (codes "nodes") (count_form p.nodes ∷ [])

  abbrev behaviour_lists : List Tree
  behaviour_lists = map (behaviour_form (behaviour_names p) (start_names p)) p.behaviours

  abbrev start_lists : List Tree
  start_lists = map (start_form (behaviour_names p) (start_names p)) p.starts

  abbrev post_lists : List Tree
  post_lists = map (post_form (start_names p)) p.posts

  abbrev entry_lists : List Tree
  entry_lists = map entry_form p.script

  abbrev rest_lists : List Tree
  rest_lists = behaviour_lists ++ start_lists ++ post_lists ++ entry_lists

  abbrev version_list : Tree
  version_list = version_form p.version

  -- the lists from the number of nodes on, and what stands before them: (version 2), or nothing
  abbrev body_lists : List Tree
  body_lists = nodes_list ∷ rest_lists

  abbrev heads : Bool → List Tree
  heads b = cond b (version_list ∷ []) []

  abbrev two : Bool
  two = p.version == 2

  behaviours_are : AreNames bs
  behaviours_are = behaviour_names-are p sound

  starts_are : AreNames ss
  starts_are = start_names-are p sound

  behaviour_number : length bs ≡ length p.behaviours
  behaviour_number = length-map p.behaviours (λ b. b.name)

  start_number : length ss ≡ length p.starts
  start_number = length-map p.starts (λ s. s.name)

  -- (nodes K)
  nodes_small : p.nodes < 2 ^ 64
  nodes_small = omega (arith, sound.nodes_limit)

  nodes_in-form : nodes_in nodes_list ≡ Some p.nodes
  nodes_in-form =
      ap (λ b. cond b (count_in (decimal p.nodes)) None) (is_count_in-decimal 1 65 p.nodes (omega (arith, sound.some_nodes)) (omega (arith, sound.nodes_limit)) nodes_small) ∙ count_in-decimal p.nodes nodes_small

  nodes_with : (b : Bool) → nodes_of (heads b ++ body_lists) ≡ Some p.nodes
  nodes_with true = ap (λ o. option_or o (nodes_of rest_lists)) nodes_in-form
  nodes_with false = ap (λ o. option_or o (nodes_of rest_lists)) nodes_in-form

  nodes_are : nodes_of (printed p) ≡ Some p.nodes
  nodes_are = nodes_with two

  -- (version K)
  version_small : p.version < 2 ^ 64
  version_small = omega (arith, sound.versions_limit)

  version_in-form : version_in version_list ≡ Some p.version
  version_in-form =
      ap (λ b. cond b (count_in (decimal p.version)) None) (is_count_in-decimal 1 3 p.version sound.some_version (omega (arith, sound.versions_limit)) version_small) ∙ count_in-decimal p.version version_small

  second_body : list_any is_second body_lists ≡ false
  second_body =
      let P : Tree → Type 0 = λ t. is_second t ≡ false in
      let a : All P behaviour_lists = All-map P as_behaviour p.behaviours (λ k d lt. refl) in
      let b : All P start_lists = All-map P as_start p.starts (λ k d lt. refl) in
      let c : All P post_lists = All-map P as_post p.posts (λ k d lt. refl) in
      let d : All P entry_lists = All-map P entry_form p.script (λ k d lt. refl) in
      list_any_none is_second rest_lists (All-append P (behaviour_lists ++ start_lists ++ post_lists) entry_lists (All-append P (behaviour_lists ++ start_lists) post_lists (All-append P behaviour_lists start_lists a b) c) d)

  second_with : (b : Bool) → two ≡ b → list_any is_second (heads b ++ body_lists) ≡ b
  second_with true e =
      let is : version_in version_list ≡ Some 2 = version_in-form ∙ ap Some ((Decides-eqb p.version 2).0 e) in
      ap (λ o. is_two o || list_any is_second body_lists) is
  second_with false e = second_body

  version_by : (b : Bool) → two ≡ b → cond b 2 1 ≡ p.version
  version_by true e = sym ((Decides-eqb p.version 2).0 e)
  version_by false e =
      let other : p.version ≡ 2 → ⊥ = λ q. let clash : false ≡ true = sym e ∙ (Decides-eqb p.version 2).1 q in cc in
      one_of p.version sound.some_version sound.versions_limit other

  version_is : version_told (printed p) ≡ p.version
  version_is = ap (λ b. cond b 2 1) (second_with two refl) ∙ version_by two refl

  -- what the lists define
  behaviours_body : behaviours_of body_lists ≡ bs
  behaviours_body =
      let a : defined_after is_behaviour [] behaviour_lists ≡ bs = defined_names is_behaviour as_behaviour (λ b. b.name) (λ ws b named. ap (λ t. with_name ws (cond t (Some b.name) None)) named) [] p.behaviours behaviours_are in
      let b = defined_quiet is_behaviour as_start bs (λ s. refl) p.starts in
      let c = defined_quiet is_behaviour as_post bs (λ q. refl) p.posts in
      let d = defined_quiet is_behaviour entry_form bs (λ e. refl) p.script in
      defined_after-append is_behaviour [] (behaviour_lists ++ start_lists ++ post_lists) entry_lists ∙ ap (λ ws. defined_after is_behaviour ws entry_lists) (defined_after-append is_behaviour [] (behaviour_lists ++ start_lists) post_lists ∙ ap (λ ws. defined_after is_behaviour ws post_lists) (defined_after-append is_behaviour [] behaviour_lists start_lists ∙ ap (λ ws. defined_after is_behaviour ws start_lists) a ∙ b) ∙ c) ∙ d

  behaviours_with : (b : Bool) → behaviours_of (heads b ++ body_lists) ≡ bs
  behaviours_with true = behaviours_body
  behaviours_with false = behaviours_body

  behaviours_defined : behaviours_of (printed p) ≡ bs
  behaviours_defined = behaviours_with two

  starts_body : starts_of body_lists ≡ ss
  starts_body =
      let a = defined_quiet is_start as_behaviour [] (λ b. refl) p.behaviours in
      let b : defined_after is_start [] start_lists ≡ ss = defined_names is_start as_start (λ s. s.name) (λ ws s named. ap (λ t. with_name ws (cond t (Some s.name) None)) named) [] p.starts starts_are in
      let c = defined_quiet is_start as_post ss (λ q. refl) p.posts in
      let d = defined_quiet is_start entry_form ss (λ e. refl) p.script in
      defined_after-append is_start [] (behaviour_lists ++ start_lists ++ post_lists) entry_lists ∙ ap (λ ws. defined_after is_start ws entry_lists) (defined_after-append is_start [] (behaviour_lists ++ start_lists) post_lists ∙ ap (λ ws. defined_after is_start ws post_lists) (defined_after-append is_start [] behaviour_lists start_lists ∙ ap (λ ws. defined_after is_start ws start_lists) a ∙ b) ∙ c) ∙ d

  starts_with : (b : Bool) → starts_of (heads b ++ body_lists) ≡ ss
  starts_with true = starts_body
  starts_with false = starts_body

  starts_defined : starts_of (printed p) ≡ ss
  starts_defined = starts_with two

  tables_are : tables_of (printed p) ≡ tb
  tables_are = λ i. record { behaviours = behaviours_defined i; starts = starts_defined i; nodes = unwrap_or (nodes_are i) 64; version = version_is i }

  -- the limits
  counts : (is : Sort → Bool) → count_of is rest_lists ≡ count_of is behaviour_lists + count_of is start_lists + count_of is post_lists + count_of is entry_lists
  counts is =
      count_of-append is (behaviour_lists ++ start_lists ++ post_lists) entry_lists ∙ ap (λ n. n + count_of is entry_lists) (count_of-append is (behaviour_lists ++ start_lists) post_lists ∙ ap (λ n. n + count_of is post_lists) (count_of-append is behaviour_lists start_lists))

  counted_with : (is : Sort → Bool) → is sorts.Version ≡ false → (b : Bool) → count_of is (heads b ++ body_lists) ≡ count_of is body_lists
  counted_with is e true =
      let others = filter (λ t. is (sort_of t)) body_lists in
      ap (λ c. length (cond c (version_list ∷ others) others)) e
  counted_with is e false = refl

  behaviours_counted : count_of is_behaviour (printed p) ≡ length p.behaviours
  behaviours_counted = counted_with is_behaviour refl two ∙ counts is_behaviour ∙ sum_first (all_counted is_behaviour as_behaviour (λ b. refl) p.behaviours) (none_counted is_behaviour as_start (λ s. refl) p.starts) (none_counted is_behaviour as_post (λ q. refl) p.posts) (none_counted is_behaviour entry_form (λ e. refl) p.script)

  starts_counted : count_of is_start (printed p) ≡ length p.starts
  starts_counted = counted_with is_start refl two ∙ counts is_start ∙ sum_second (none_counted is_start as_behaviour (λ b. refl) p.behaviours) (all_counted is_start as_start (λ s. refl) p.starts) (none_counted is_start as_post (λ q. refl) p.posts) (none_counted is_start entry_form (λ e. refl) p.script)

  posts_counted : count_of is_post (printed p) ≡ length p.posts
  posts_counted = counted_with is_post refl two ∙ counts is_post ∙ sum_third (none_counted is_post as_behaviour (λ b. refl) p.behaviours) (none_counted is_post as_start (λ s. refl) p.starts) (all_counted is_post as_post (λ q. refl) p.posts) (none_counted is_post entry_form (λ e. refl) p.script)

  entries_counted : count_of is_entry (printed p) ≡ length p.script
  entries_counted = counted_with is_entry refl two ∙ counts is_entry ∙ sum_fourth (none_counted is_entry as_behaviour (λ b. refl) p.behaviours) (none_counted is_entry as_start (λ s. refl) p.starts) (none_counted is_entry as_post (λ q. refl) p.posts) (all_counted is_entry entry_form (λ e. refl) p.script)

  limits_kept : limit_of (printed p) ≡ None
  limits_kept =
      let few_behaviours : count_of is_behaviour (printed p) ≤ 256 = subst (λ n. n ≤ 256) (sym behaviours_counted) sound.behaviours_limit in
      let few_starts : count_of is_start (printed p) ≤ 1024 = subst (λ n. n ≤ 1024) (sym starts_counted) sound.starts_limit in
      let few_posts : count_of is_post (printed p) ≤ 4096 = subst (λ n. n ≤ 4096) (sym posts_counted) sound.posts_limit in
      let few_entries : count_of is_entry (printed p) ≤ 4096 = subst (λ n. n ≤ 4096) (sym entries_counted) sound.entries_limit in
      within (count_of is_behaviour (printed p)) (count_of is_start (printed p)) (count_of is_post (printed p)) (count_of is_entry (printed p)) few_behaviours few_starts few_posts few_entries

  -- each part is read back
  checks : PassesChecks p
  checks = checks_from_sound p sound

  each_behaviour : All (IsSoundBehaviour (length ss) (length bs)) p.behaviours
  each_behaviour =
      let F : ℕ → ℕ → Type 0 = λ n m. All (IsSoundBehaviour n m) p.behaviours in
      subst (λ n. F n (length bs)) (sym start_number) (subst (λ m. F (length p.starts) m) (sym behaviour_number) checks.behaviours)

  each_fits : All (λ b. Throughout (Fits tb behaviours_are starts_are) b.body) p.behaviours
  each_fits k d lt =
      throughout_both (KeepsRules (length ss) (length bs)) HasFittingInteger (get_or p.behaviours k d).body (each_behaviour k d lt).rules (All-unmap (Throughout HasFittingInteger) (λ b. b.body) p.behaviours fitting.integers k d lt)

  each_read : All (λ b. IsRead tb behaviours_are starts_are [] (code_form bs ss b.body) b.body) p.behaviours
  each_read k d lt =
      read tb behaviours_are starts_are (get_or p.behaviours k d).body [] (each_fits k d lt) (each_behaviour k d lt).bound

  start_names_at : All (λ s. IsNameAt bs s.behaviour) p.starts
  start_names_at k d lt = name_at bs (get_or p.starts k d).behaviour behaviours_are (subst (λ n. (get_or p.starts k d).behaviour < n) (sym behaviour_number) (sound.start_behaviours k d lt))

  post_names_at : All (λ q. IsNameAt ss q.to) p.posts
  post_names_at k d lt = name_at ss (get_or p.posts k d).to starts_are (subst (λ n. (get_or p.posts k d).to < n) (sym start_number) (sound.receivers k d lt))

  states_mean : All (λ s. values.Means ss (length ss) (written ss (val_of s.state)) (val_of s.state)) p.starts
  states_mean k d lt =
      (fitting.states k d lt).read_back (length ss) (sound.states_bounded k d lt) (subst (λ n. NamesBelow n (val_of (get_or p.starts k d).state)) (sym start_number) (sound.state_names k d lt))

  values_mean : All (λ q. values.Means ss (length ss) (written ss (val_of q.value)) (val_of q.value)) p.posts
  values_mean k d lt =
      (fitting.posts k d lt).read_back (length ss) (sound.posts_bounded k d lt) (subst (λ n. NamesBelow n (val_of (get_or p.posts k d).value)) (sym start_number) (sound.post_names k d lt))

  -- what the lists give
  given : {Z : Type 0} (f : Tree → Option Z) → filter_map f rest_lists ≡ filter_map f behaviour_lists ++ filter_map f start_lists ++ filter_map f post_lists ++ filter_map f entry_lists
  given f =
      filter_map-append f (behaviour_lists ++ start_lists ++ post_lists) entry_lists ∙ ap (λ zs. zs ++ filter_map f entry_lists) (filter_map-append f (behaviour_lists ++ start_lists) post_lists ∙ ap (λ zs. zs ++ filter_map f post_lists) (filter_map-append f behaviour_lists start_lists))

  given_with : {Z : Type 0} (f : Tree → Option Z) → f version_list ≡ None → (b : Bool) → filter_map f (heads b ++ body_lists) ≡ filter_map f body_lists
  given_with f e true = ap (λ o. cons_option o (filter_map f body_lists)) e
  given_with f e false = refl

  behaviours_given : filter_map (behaviour_in tb) (printed p) ≡ p.behaviours
  behaviours_given =
      let f = behaviour_in tb in
      let read_each : All (λ b. f (as_behaviour b) ≡ Some b) p.behaviours = λ k d lt. ap (λ c. Some (record { name = (get_or p.behaviours k d).name; body = c })) (each_read k d lt).is in
      let a : filter_map f behaviour_lists ≡ p.behaviours = kept f as_behaviour (λ b. b) p.behaviours read_each ∙ map_same p.behaviours in
      given_with f refl two ∙ given f ∙ four_first a (dropped f as_start (λ s. refl) p.starts) (dropped f as_post (λ q. refl) p.posts) (dropped f entry_form (λ e. refl) p.script)

  start_read : (s : Start) → IsNameAt bs s.behaviour → s.node < 2 ^ 64 → values.Means ss (length ss) (written ss (val_of s.state)) (val_of s.state) → start_in tb (as_start s) ≡ Some (plain_start s)
  start_read s w small means =
      let behaviour : number_of bs (unwrap_or (slice_get bs s.behaviour) []) ≡ s.behaviour = ap (number_of bs) w.is ∙ w.number in
      let node : meaning.count_of (decimal s.node) ≡ s.node = count_of-decimal s.node small in
      let state : counted ss (length ss) (written ss (val_of s.state)) ≡ val_of s.state = means.value in
      λ i. Some (record { name = s.name; behaviour = behaviour i; node = node i; state = state i })

  starts_given : filter_map (start_in tb) (printed p) ≡ map plain_start p.starts
  starts_given =
      let f = start_in tb in
      let read_each : All (λ s. f (as_start s) ≡ Some (plain_start s)) p.starts = λ k d lt. start_read (get_or p.starts k d) (start_names_at k d lt) (omega (arith, sound.start_nodes k d lt, sound.nodes_limit)) (states_mean k d lt) in
      let a : filter_map f behaviour_lists ≡ [] = dropped f as_behaviour (λ b. start_none tb (as_behaviour b) refl) p.behaviours in
      let b = kept f as_start plain_start p.starts read_each in
      given_with f refl two ∙ given f ∙ four_second a b (dropped f as_post (λ q. start_none tb (as_post q) refl) p.posts) (dropped f entry_form (λ e. start_none tb (entry_form e) refl) p.script)

  post_read : (q : Post) → IsNameAt ss q.to → values.Means ss (length ss) (written ss (val_of q.value)) (val_of q.value) → post_in tb (as_post q) ≡ Some (plain_post q)
  post_read q w means =
      let to : number_of ss (unwrap_or (slice_get ss q.to) []) ≡ q.to = ap (number_of ss) w.is ∙ w.number in
      let value : counted ss (length ss) (written ss (val_of q.value)) ≡ val_of q.value = means.value in
      λ i. Some (record { to = to i; value = value i })

  posts_given : filter_map (post_in tb) (printed p) ≡ map plain_post p.posts
  posts_given =
      let f = post_in tb in
      let read_each : All (λ q. f (as_post q) ≡ Some (plain_post q)) p.posts = λ k d lt. post_read (get_or p.posts k d) (post_names_at k d lt) (values_mean k d lt) in
      given_with f refl two ∙ given f ∙ four_third (dropped f as_behaviour (λ b. post_none tb (as_behaviour b) refl) p.behaviours) (dropped f as_start (λ s. post_none tb (as_start s) refl) p.starts) (kept f as_post plain_post p.posts read_each) (dropped f entry_form (λ e. post_none tb (entry_form e) refl) p.script)

  entries_given : filter_map entry_in (printed p) ≡ p.script
  entries_given =
      let read_each : All (λ e. entry_in (entry_form e) ≡ Some e) p.script = λ k d lt. let e = get_or p.script k d in entry_read e.at e.failure (fitting.entries k d lt).place (fitting.entries k d lt).message p.nodes p.version (sound.sound_failures k d lt) sound.nodes_limit in
      given_with entry_in refl two ∙ given entry_in ∙ four_fourth (dropped entry_in as_behaviour (λ b. entry_none (as_behaviour b) refl) p.behaviours) (dropped entry_in as_start (λ s. entry_none (as_start s) refl) p.starts) (dropped entry_in as_post (λ q. entry_none (as_post q) refl) p.posts) (kept entry_in entry_form (λ e. e) p.script read_each ∙ map_same p.script)

  abbrev program_at : Tables → PlainProgram
  program_at t =
      record { version = t.version; nodes = t.nodes; behaviours = filter_map (behaviour_in t) (printed p); starts = filter_map (start_in t) (printed p); posts = filter_map (post_in t) (printed p); script = filter_map entry_in (printed p) }

  is_given : program_in (printed p) ≡ plain_of p
  is_given =
      let one : program_in (printed p) ≡ program_at tb = ap program_at tables_are in
      let two : program_at tb ≡ plain_of p = λ i. record { version = p.version; nodes = p.nodes; behaviours = behaviours_given i; starts = starts_given i; posts = posts_given i; script = entries_given i } in
      one ∙ two

  -- no list has a fault
  abbrev front : Bool → List Tree
  front b = heads b ++ nodes_list ∷ []

  no_nodes_yet : (b : Bool) → nodes_of (heads b) ≡ None
  no_nodes_yet true = refl
  no_nodes_yet false = refl

  no_behaviours_yet : (b : Bool) → behaviours_of (front b) ≡ []
  no_behaviours_yet true = refl
  no_behaviours_yet false = refl

  no_starts_yet : (b : Bool) → starts_of (front b) ≡ []
  no_starts_yet true = refl
  no_starts_yet false = refl

  behaviours_clean : (b : Bool) → IsClean (FaultIn tb (tops_after (front b) behaviour_lists) (inside behaviour_lists))
  behaviours_clean b =
      let are : AreNames (behaviours_of (front b) ++ map (λ x. x.name) p.behaviours) = subst (λ ws. AreNames (ws ++ map (λ x. x.name) p.behaviours)) (sym (no_behaviours_yet b)) behaviours_are in
      named_clean tb behaviours_are starts_are is_behaviour as_behaviour (λ x. x.name) (λ ws x named. ap (λ t. with_name ws (cond t (Some x.name) None)) named) p.behaviours (λ k d lt before named new. behaviour_clean tb behaviours_are starts_are (get_or p.behaviours k d) before named new (each_read k d lt).clean) (front b) are

  starts_clean : (b : Bool) → IsClean (FaultIn tb (tops_after (front b ++ behaviour_lists) start_lists) (inside start_lists))
  starts_clean b =
      let before : starts_of (front b ++ behaviour_lists) ≡ [] = defined_after-append is_start [] (front b) behaviour_lists ∙ ap (λ ws. defined_after is_start ws behaviour_lists) (no_starts_yet b) ∙ defined_quiet is_start as_behaviour [] (λ x. refl) p.behaviours in
      let are : AreNames (starts_of (front b ++ behaviour_lists) ++ map (λ s. s.name) p.starts) = subst (λ ws. AreNames (ws ++ map (λ s. s.name) p.starts)) (sym before) starts_are in
      named_clean tb behaviours_are starts_are is_start as_start (λ s. s.name) (λ ws s named. ap (λ t. with_name ws (cond t (Some s.name) None)) named) p.starts (λ k d lt before named new. start_clean tb behaviours_are starts_are (get_or p.starts k d) before named new (start_names_at k d lt) (sound.start_nodes k d lt) sound.nodes_limit (states_mean k d lt)) (front b ++ behaviour_lists) are

  posts_clean : (before : List Tree) → IsClean (FaultIn tb (tops_after before post_lists) (inside post_lists))
  posts_clean = tops_clean tb behaviours_are starts_are as_post p.posts (λ k d lt before. post_clean tb behaviours_are starts_are (get_or p.posts k d) before (post_names_at k d lt) (values_mean k d lt))

  entries_clean : (before : List Tree) → IsClean (FaultIn tb (tops_after before entry_lists) (inside entry_lists))
  entries_clean = tops_clean tb behaviours_are starts_are entry_form p.script (λ k d lt before. entry_clean tb behaviours_are starts_are (get_or p.script k d) before (sound.sound_failures k d lt) sound.nodes_limit (fitting.entries k d lt))

  body_faultless : (b : Bool) → IsClean (FaultIn tb (tops_after (heads b) body_lists) (inside body_lists))
  body_faultless b =
      let first_lists : List Tree = front b in
      let append = tops_clean-append tb behaviours_are starts_are first_lists in
      let all = append (behaviour_lists ++ start_lists ++ post_lists) entry_lists (append (behaviour_lists ++ start_lists) post_lists (append behaviour_lists start_lists (behaviours_clean b) (starts_clean b)) (posts_clean (first_lists ++ (behaviour_lists ++ start_lists)))) (entries_clean (first_lists ++ (behaviour_lists ++ start_lists ++ post_lists))) in
      clean_more tb (top (heads b)) (tops_after first_lists rest_lists) nodes_list (inside rest_lists) (nodes_clean tb behaviours_are starts_are (heads b) p.nodes (no_nodes_yet b) sound.some_nodes sound.nodes_limit nodes_in-form) all

  faultless_with : (b : Bool) → IsClean (FaultIn tb (tops_after [] (heads b ++ body_lists)) (inside (heads b ++ body_lists)))
  faultless_with true =
      clean_more tb (top []) (tops_after (version_list ∷ []) body_lists) version_list (inside body_lists) (version_clean tb behaviours_are starts_are p.version sound.some_version sound.versions_limit version_in-form) (body_faultless true)
  faultless_with false = body_faultless false

  tops_faultless : IsClean (FaultIn tb (tops_after [] (printed p)) (inside (printed p)))
  tops_faultless = faultless_with two

  none_faulty : IsClean (ProgramFaultAt (printed p))
  none_faulty n f (in_top h) =
      let all : IsClean (FaultIn (tables_of (printed p)) (tops_after [] (printed p)) (inside (printed p))) = subst (λ t. IsClean (FaultIn t (tops_after [] (printed p)) (inside (printed p)))) (sym tables_are) tops_faultless in
      all n f h
  none_faulty n f (no_nodes z e) = let both : Some p.nodes ≡ None = sym nodes_are ∙ e in cc

  means_printed : Means (printed p) p
  means_printed = record { limits = limits_kept; faultless = none_faulty; is = sym is_given }

  -- how deep the lists are
  depth_body : depths body_lists ≤ 200
  depth_body =
      let a = depths_each as_behaviour p.behaviours (λ k d lt. omega (arith, depth_of-form bs ss (get_or p.behaviours k d).body, (checks.behaviours k d lt).depth)) in
      let b = depths_each as_start p.starts (λ k d lt. omega (arith, (fitting.states k d lt).depth, sound.states_depth k d lt)) in
      let c = depths_each as_post p.posts (λ k d lt. omega (arith, (fitting.posts k d lt).depth, sound.posts_depth k d lt)) in
      let e = depths_each entry_form p.script (λ k d lt. omega (arith, depth_of-failure (get_or p.script k d).failure)) in
      omega (arith, depths-append (behaviour_lists ++ start_lists ++ post_lists) entry_lists, depths-append (behaviour_lists ++ start_lists) post_lists, depths-append behaviour_lists start_lists, a, b, c, e)

  depth_with : (b : Bool) → depths (heads b ++ body_lists) ≤ 200
  depth_with true = omega (arith, depth_body)
  depth_with false = depth_body

  depth_printed : depths (printed p) ≤ 200
  depth_printed = depth_with two

  -- no word in them is empty
  words_body : All HasWords body_lists
  words_body =
      let a : All HasWords behaviour_lists = All-map HasWords as_behaviour p.behaviours (λ k d lt. (λ e. cc, (name_nonempty (get_or p.behaviours k d).name (each_behaviour k d lt).named, (form_words tb behaviours_are starts_are (get_or p.behaviours k d).body (each_fits k d lt), tt)))) in
      let b : All HasWords start_lists = All-map HasWords as_start p.starts (λ k d lt. (λ e. cc, (name_nonempty (get_or p.starts k d).name (checks.starts k d lt).named, (name_filled bs (get_or p.starts k d).behaviour (start_names_at k d lt), (decimal_filled (get_or p.starts k d).node (omega (arith, sound.start_nodes k d lt, sound.nodes_limit)), ((fitting.states k d lt).words, tt)))))) in
      let c : All HasWords post_lists = All-map HasWords as_post p.posts (λ k d lt. (λ e. cc, (name_filled ss (get_or p.posts k d).to (post_names_at k d lt), ((fitting.posts k d lt).words, tt)))) in
      let d : All HasWords entry_lists = All-map HasWords entry_form p.script (λ k d lt. (λ e. cc, (decimal_filled (get_or p.script k d).at (let h = (fitting.entries k d lt).place in omega (arith, h)), (failure_words (get_or p.script k d).failure p.nodes p.version (sound.sound_failures k d lt) sound.nodes_limit (fitting.entries k d lt).message, tt)))) in
      All-cons HasWords nodes_list rest_lists (λ e. cc, (decimal_filled p.nodes nodes_small, tt)) (All-append HasWords (behaviour_lists ++ start_lists ++ post_lists) entry_lists (All-append HasWords (behaviour_lists ++ start_lists) post_lists (All-append HasWords behaviour_lists start_lists a b) c) d)

  words_first : (b : Bool) → All HasWords (heads b)
  words_first true = All-cons HasWords version_list [] (λ e. cc, (decimal_filled p.version version_small, tt)) (All-nil HasWords)
  words_first false = All-nil HasWords

  words_printed : All HasWords (printed p)
  words_printed = All-append HasWords (heads two) body_lists (words_first two) words_body

-- what a printer of these forms gives
pub means_from : {A E : Type 0} (p : Program) (r : Result A E) → Sound p → OnOk r (IsFitting p) → OnOk r (Means (printed p) p)
means_from p (Ok x) sound fits = means_printed p sound fits
means_from p (Err e) sound fits = tt

pub spells_from : {A E : Type 0} (p : Program) (r : Result A E) → Sound p → OnOk r (All HasBytes (printed p)) → OnOk r (IsFitting p) → OnOk r (IsSpelling (print.printed (printed p)) (printed p))
spells_from p (Ok x) sound bytes fits = spells_printed (printed p) (depth_printed p sound fits) (words_printed p sound fits) bytes
spells_from p (Err e) sound bytes fits = tt
