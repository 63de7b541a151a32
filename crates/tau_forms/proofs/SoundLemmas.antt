-- A program that forms mean is sound.
use Rattle.std.proofs.Common.{◌≡◌, ◌≢◌, ℕ, ◌<◌, ◌≤◌, Bool, true, false, cond, ◌&&◌, nat_le, nat_lt, List, [], ◌∷◌, ◌++◌, length, map, get_or, Option, Some, None, unwrap_or, refl, sym, ap, subst, ◌∙◌, append_assoc, arith}
use Rattle.std.specs.List.{All, AllPairs, filter, filter_map, cons_option, list_any}
use Rattle.std.specs.Option.{IfSome, option_or, option_map_or}
use Rattle.std.proofs.lemmas.Bool.{ltb-false, ltb-true, leb-true, and_parts}
use Rattle.std.proofs.lemmas.List.{append-nil, length-map}
use Rattle.std.proofs.lemmas.List.Elements.{All-nil, All-cons}
use Rattle.tau_sexpr.specs.Tree.{Tree, word, list, none, more, inside, depths}
use Rattle.tau_value.specs.Names.{AreNames}
use Rattle.tau_value.specs.Numbers.{count_in}
use Rattle.tau_value.specs.Sizes.{NamesBelow}
use Rattle.tau_value.specs.Value.{val_of}
use Rattle.tau_tree.specs.Behaviour.{NamedCode}
use Rattle.tau_tree.specs.Checks.{IsSoundBehaviour}
use Rattle.tau_tree.specs.Sound.{Sound, IsSoundFailure}
use Rattle.tau_tree.specs.declared.programs.Program.{Program}
use Rattle.tau_tree.specs.declared.starts.Start.{Start}
use Rattle.tau_tree.proofs.SoundLemmas.{All-unmap, sound_from_checks}
use Rattle.tau_forms.specs.declared.tables.Tables.{Tables}
use Rattle.tau_forms.specs.Tops.{sort_of, is_nodes, is_behaviour, is_start, is_post, is_entry, is_count_in, named_by, with_name, defined_after, behaviours_of, starts_of, nodes_in, nodes_of, is_second, version_told, tables_of, count_of}
use Rattle.tau_forms.specs.Keywords.{sort_in}
use Rattle.tau_forms.specs.Roles.{top}
use Rattle.tau_forms.specs.Faults.{FaultIn, tops_after, in_top, IsClean}
use Rattle.tau_forms.specs.Meaning.{PlainStart, plain_start, plain_post, behaviour_in, start_in, post_in, entry_in, Means}
use Rattle.tau_forms.proofs.SoundFaults.{head_clean, tail_clean}
use Rattle.tau_forms.proofs.SoundNames.{no_names, defined_are, defined_after-push}
use Rattle.tau_forms.proofs.SoundTops.{IsSoundPlainStart, IsSoundPlainPost, named_behaviours, named_starts, behaviour_sound, start_sound, post_sound, entry_sound, behaviour_named, start_named, behaviour_none, start_none, post_none, entry_none}

all_option : {X : Type 0} (P : X → Type 0) (o : Option X) (xs : List X) → IfSome o P → All P xs → All P (cons_option o xs)
all_option P (Some x) xs h all = All-cons P x xs h all
all_option P None xs h all = all

-- at most one thing for each list of a sort
fewer_step : {X Y : Type 0} (f : X → Option Y) (g : X → Bool) (x : X) (xs : List X) (b : Bool) → (b ≡ false → f x ≡ None) → length (filter_map f xs) ≤ length (filter g xs) → length (filter_map f (x ∷ xs)) ≤ length (cond b (x ∷ filter g xs) (filter g xs))
fewer_step {X} {Y} f g x xs true quiet rest = one (f x)
  where
    one : (o : Option Y) → length (cons_option o (filter_map f xs)) ≤ length (x ∷ filter g xs)
    one (Some y) = omega (arith, rest)
    one None = omega (arith, rest)
fewer_step f g x xs false quiet rest = rw (quiet refl) rest

fewer : {X Y : Type 0} (f : X → Option Y) (g : X → Bool) → ((x : X) → g x ≡ false → f x ≡ None) → (xs : List X) → length (filter_map f xs) ≤ length (filter g xs)
fewer f g quiet [] = omega arith
fewer f g quiet (x ∷ xs) = fewer_step f g x xs (g x) (quiet x) (fewer f g quiet xs)

module _ (tb : Tables) where
  record AreSound (before ts : List Tree) : Type 0 where
    behaviours : All (IsSoundBehaviour (length tb.starts) (length tb.behaviours)) (filter_map (behaviour_in tb) ts)
    starts : All (IsSoundPlainStart tb) (filter_map (start_in tb) ts)
    posts : All (IsSoundPlainPost tb) (filter_map (post_in tb) ts)
    entries : All (λ e. IsSoundFailure tb.nodes tb.version e.failure) (filter_map entry_in ts)
    behaviour_names : defined_after is_behaviour (behaviours_of before) ts ≡ behaviours_of before ++ map (λ b. b.name) (filter_map (behaviour_in tb) ts)
    start_names : defined_after is_start (starts_of before) ts ≡ starts_of before ++ map (λ s. s.name) (filter_map (start_in tb) ts)

  behaviours_joined : (before : List Tree) (o : Option NamedCode) (bs : List NamedCode) → named_behaviours tb before o ++ map (λ b. b.name) bs ≡ behaviours_of before ++ map (λ b. b.name) (cons_option o bs)
  behaviours_joined before None bs = refl
  behaviours_joined before (Some b) bs = append_assoc (behaviours_of before) (b.name ∷ []) (map (λ x. x.name) bs)

  starts_joined : (before : List Tree) (o : Option PlainStart) (ss : List PlainStart) → named_starts tb before o ++ map (λ s. s.name) ss ≡ starts_of before ++ map (λ s. s.name) (cons_option o ss)
  starts_joined before None ss = refl
  starts_joined before (Some s) ss = append_assoc (starts_of before) (s.name ∷ []) (map (λ x. x.name) ss)

  tops_sound : (before ts : List Tree) → IsClean (FaultIn tb (tops_after before ts) (inside ts)) → depths ts ≤ 200 → AreSound before ts
  tops_sound before [] clean deep = record {
    behaviours = All-nil (IsSoundBehaviour (length tb.starts) (length tb.behaviours));
    starts = All-nil (IsSoundPlainStart tb);
    posts = All-nil (IsSoundPlainPost tb);
    entries = All-nil (λ e. IsSoundFailure tb.nodes tb.version e.failure);
    behaviour_names = sym (append-nil (behaviours_of before));
    start_names = sym (append-nil (starts_of before));
  }
  tops_sound before (t ∷ ts) clean deep =
      let one = head_clean tb (top before) (tops_after (before ++ t ∷ []) ts) t (inside ts) clean in
      let rest = tops_sound (before ++ t ∷ []) ts (tail_clean tb (top before) (tops_after (before ++ t ∷ []) ts) t (inside ts) clean) (omega arith) in
      let bs = filter_map (behaviour_in tb) ts in
      let ss = filter_map (start_in tb) ts in
      let more_behaviours : behaviours_of (before ++ t ∷ []) ≡ with_name (behaviours_of before) (named_by is_behaviour t) = defined_after-push is_behaviour [] before t in
      let more_starts : starts_of (before ++ t ∷ []) ≡ with_name (starts_of before) (named_by is_start t) = defined_after-push is_start [] before t in
      record {
        behaviours = all_option (IsSoundBehaviour (length tb.starts) (length tb.behaviours)) (behaviour_in tb t) bs (behaviour_sound tb before t one (omega arith)) rest.behaviours;
        starts = all_option (IsSoundPlainStart tb) (start_in tb t) ss (start_sound tb before t one) rest.starts;
        posts = all_option (IsSoundPlainPost tb) (post_in tb t) (filter_map (post_in tb) ts) (post_sound tb before t one) rest.posts;
        entries = all_option (λ e. IsSoundFailure tb.nodes tb.version e.failure) (entry_in t) (filter_map entry_in ts) (entry_sound tb before t one) rest.entries;
        behaviour_names =
            ap (λ w. defined_after is_behaviour w ts) (sym more_behaviours) ∙ rest.behaviour_names ∙ ap (λ w. w ++ map (λ b. b.name) bs) (more_behaviours ∙ behaviour_named tb before t one) ∙ behaviours_joined before (behaviour_in tb t) bs;
        start_names =
            ap (λ w. defined_after is_start w ts) (sym more_starts) ∙ rest.start_names ∙ ap (λ w. w ++ map (λ s. s.name) ss) (more_starts ∙ start_named tb before t one) ∙ starts_joined before (start_in tb t) ss;
      }

-- the limits
record AreFew (a b c d : ℕ) : Type 0 where
  behaviours : a ≤ 256
  starts : b ≤ 1024
  posts : c ≤ 4096
  entries : d ≤ 4096

few : (a b c d : ℕ) → cond {A = Option ℕ} (nat_lt 256 a) (Some 1) (cond (nat_lt 1024 b) (Some 2) (cond (nat_lt 4096 c) (Some 3) (cond (nat_lt 4096 d) (Some 4) None))) ≡ None → AreFew a b c d
few a b c d h = by (nat_lt 256 a) refl (nat_lt 1024 b) refl (nat_lt 4096 c) refl (nat_lt 4096 d) refl h
  where
    by : (p : Bool) → nat_lt 256 a ≡ p → (q : Bool) → nat_lt 1024 b ≡ q → (r : Bool) → nat_lt 4096 c ≡ r → (s : Bool) → nat_lt 4096 d ≡ s → cond {A = Option ℕ} p (Some 1) (cond q (Some 2) (cond r (Some 3) (cond s (Some 4) None))) ≡ None → AreFew a b c d
    by false e false f false g false k h =
        record { behaviours = ltb-false 256 a e; starts = ltb-false 1024 b f; posts = ltb-false 4096 c g; entries = ltb-false 4096 d k }
    by true e q f r g s k h = cc
    by false e true f r g s k h = cc
    by false e false f true g s k h = cc
    by false e false f false g true k h = cc

-- the number of nodes is 1 to 64
record IsNodes (n : ℕ) : Type 0 where
  some : 0 < n
  few : n ≤ 64

abbrev AreNodes : Option ℕ → Type 0
AreNodes None = Unit {0}
AreNodes (Some n) = IsNodes n

nodes_counted : (b : Bool) (o : Option ℕ) → option_map_or (λ n. nat_le 1 n && nat_lt n 65) o false ≡ b → AreNodes (cond b o None)
nodes_counted true (Some n) e =
    let both = and_parts (nat_le 1 n) (nat_lt n 65) e in
    let low = leb-true 1 n both.0 in
    let high = ltb-true n 65 both.1 in
    record { some = omega arith; few = omega arith }
nodes_counted true None e = cc
nodes_counted false o e = tt

nodes_in-are : (t : Tree) → AreNodes (nodes_in t)
nodes_in-are (list (more (word h) (more (word k) none))) = by (is_nodes (sort_in h))
  where
    by : (b : Bool) → AreNodes (cond (b && is_count_in 1 65 k) (count_in k) None)
    by true = nodes_counted (is_count_in 1 65 k) (count_in k) refl
    by false = tt
nodes_in-are t = tt

either : (o p : Option ℕ) → AreNodes o → AreNodes p → AreNodes (option_or o p)
either (Some n) p h k = h
either None p h k = k

nodes_of-are : (ts : List Tree) → AreNodes (nodes_of ts)
nodes_of-are [] = tt
nodes_of-are (t ∷ ts) = either (nodes_in t) (nodes_of ts) (nodes_in-are t) (nodes_of-are ts)

nodes_or : (o : Option ℕ) → AreNodes o → IsNodes (unwrap_or o 64)
nodes_or (Some n) h = h
nodes_or None h = record { some = omega arith; few = omega arith }

-- a version is 1 or 2
version_is : (b : Bool) → (1 ≤ cond b 2 1) × (cond b 2 1 ≤ 2)
version_is true = (omega arith, omega arith)
version_is false = (omega arith, omega arith)

names_of-plain : (ss : List Start) → map (λ s. s.name) (map plain_start ss) ≡ map (λ s. s.name) ss
names_of-plain [] = refl
names_of-plain (s ∷ ss) = ap (λ ns. s.name ∷ ns) (names_of-plain ss)

pub sound_of : (ts : List Tree) (p : Program) → depths ts ≤ 200 → Means ts p → Sound p
sound_of ts p deep means =
    let tb : Tables = tables_of ts in
    let all = tops_sound tb [] ts (λ n f h. means.faultless n f (in_top h)) deep in
    let behaviours : p.behaviours ≡ filter_map (behaviour_in tb) ts = ap (λ r. r.behaviours) means.is in
    let starts : map plain_start p.starts ≡ filter_map (start_in tb) ts = ap (λ r. r.starts) means.is in
    let posts : map plain_post p.posts ≡ filter_map (post_in tb) ts = ap (λ r. r.posts) means.is in
    let script : p.script ≡ filter_map entry_in ts = ap (λ r. r.script) means.is in
    let version : p.version ≡ version_told ts = ap (λ r. r.version) means.is in
    let versions = version_is (list_any is_second ts) in
    let nodes : p.nodes ≡ tb.nodes = ap (λ r. r.nodes) means.is in
    let are_nodes : IsNodes tb.nodes = nodes_or (nodes_of ts) (nodes_of-are ts) in
    let limits = few (count_of is_behaviour ts) (count_of is_start ts) (count_of is_post ts) (count_of is_entry ts) means.limits in
    let behaviour_names : tb.behaviours ≡ map (λ b. b.name) p.behaviours = all.behaviour_names ∙ sym (ap (map (λ b. b.name)) behaviours) in
    let start_names : tb.starts ≡ map (λ s. s.name) p.starts = all.start_names ∙ sym (ap (map (λ s. s.name)) starts) ∙ names_of-plain p.starts in
    let behaviour_number : length tb.behaviours ≡ length p.behaviours = ap length behaviour_names ∙ length-map p.behaviours (λ b. b.name) in
    let start_number : length tb.starts ≡ length p.starts = ap length start_names ∙ length-map p.starts (λ s. s.name) in
    let few_behaviours = fewer (behaviour_in tb) (λ t. is_behaviour (sort_of t)) (behaviour_none tb) ts in
    let few_starts = fewer (start_in tb) (λ t. is_start (sort_of t)) (start_none tb) ts in
    let few_posts = fewer (post_in tb) (λ t. is_post (sort_of t)) (post_none tb) ts in
    let few_entries = fewer entry_in (λ t. is_entry (sort_of t)) entry_none ts in
    let starts_length : length p.starts ≡ length (filter_map (start_in tb) ts) = sym (length-map p.starts plain_start) ∙ ap length starts in
    let posts_length : length p.posts ≡ length (filter_map (post_in tb) ts) = sym (length-map p.posts plain_post) ∙ ap length posts in
    let each_start : All (λ s. IsSoundPlainStart tb (plain_start s)) p.starts = All-unmap (IsSoundPlainStart tb) plain_start p.starts (subst (All (IsSoundPlainStart tb)) (sym starts) all.starts) in
    let each_post : All (λ q. IsSoundPlainPost tb (plain_post q)) p.posts = All-unmap (IsSoundPlainPost tb) plain_post p.posts (subst (All (IsSoundPlainPost tb)) (sym posts) all.posts) in
    let behaviours_are : AreNames tb.behaviours = defined_are is_behaviour [] ts no_names in
    let starts_are : AreNames tb.starts = defined_are is_start [] ts no_names in
    let F : ℕ → ℕ → Type 0 = λ n m. All (IsSoundBehaviour n m) p.behaviours in
    let G : ℕ → ℕ → Type 0 = λ n v. All (λ e. IsSoundFailure n v e.failure) p.script in
    sound_from_checks p (record {
      limits = record {
        some_version = subst (λ v. 1 ≤ v) (sym version) versions.0;
        version = subst (λ v. v ≤ 2) (sym version) versions.1;
        some_nodes = omega (arith, nodes, are_nodes.some);
        nodes = omega (arith, nodes, are_nodes.few);
        behaviours = omega (arith, ap length behaviours, few_behaviours, limits.behaviours);
        starts = omega (arith, starts_length, few_starts, limits.starts);
        posts = omega (arith, posts_length, few_posts, limits.posts);
        entries = omega (arith, ap length script, few_entries, limits.entries);
      };
      posts = λ k d lt. let q = each_post k d lt in record {
        receiver = omega (arith, q.receiver, start_number);
        names = subst (λ n. NamesBelow n (val_of (get_or p.posts k d).value)) start_number q.value.names;
        bounded = q.value.bounded;
      };
      entries = subst (λ n. G n p.version) (sym nodes) (subst (λ v. G tb.nodes v) (sym version) (subst (All (λ e. IsSoundFailure tb.nodes tb.version e.failure)) (sym script) all.entries));
      starts = λ k d lt. let s = each_start k d lt in record {
        named = s.named;
        behaviour = omega (arith, s.behaviour, behaviour_number);
        node = omega (arith, s.node, nodes);
        names = subst (λ n. NamesBelow n (val_of (get_or p.starts k d).state)) start_number s.state.names;
        bounded = s.state.bounded;
      };
      start_names = subst (AllPairs (λ v w. v ≢ w)) start_names starts_are.distinct;
      behaviours = subst (λ n. F n (length p.behaviours)) start_number (subst (λ m. F (length tb.starts) m) behaviour_number (subst (All (IsSoundBehaviour (length tb.starts) (length tb.behaviours))) (sym behaviours) all.behaviours));
      behaviour_names = subst (AllPairs (λ v w. v ≢ w)) behaviour_names behaviours_are.distinct;
    })
