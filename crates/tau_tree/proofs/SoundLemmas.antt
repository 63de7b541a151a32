-- A program is sound exactly where each check of it passes.
use Rattle.std.proofs.Common.{◌≡◌, ◌≢◌, ◌≤◌, ◌+◌, ℕ, List, [], length, map, subst, arith}
use Rattle.std.specs.List.{All, AllPairs}
use Rattle.std.proofs.lemmas.List.{get_or-map, length-map}
use Rattle.std.proofs.lemmas.List.Elements.{All-map}
use Rattle.tau_value.specs.Names.{IsName}
use Rattle.tau_tree.specs.declared.entries.Entry.{Entry}
use Rattle.tau_tree.specs.declared.posts.Post.{Post}
use Rattle.tau_tree.specs.declared.starts.Start.{Start}
use Rattle.tau_tree.specs.declared.programs.Program.{Program}
use Rattle.tau_tree.specs.Behaviour.{NamedCode}
use Rattle.tau_tree.specs.Code.{Code}
use Rattle.tau_tree.specs.Parts.{depth_of, IsBoundIn, Throughout, HasNames, NamesStart, NamesBehaviour, HasArity, HasItem, HasTwoNames, HasShortText}
use Rattle.tau_tree.specs.Sound.{Sound, IsSoundFailure, bodies}
use Rattle.tau_tree.specs.Checks.{KeepsLimits, KeepsRules, IsSoundStart, IsSoundPost, IsSoundBehaviour}
use Rattle.tau_tree.proofs.SplitLemmas.{throughout_weaker, throughout_both}

-- what holds of each image holds at each element
pub All-unmap : {X Y : Type 0} → (P : Y → Type 0) (f : X → Y) (xs : List X) → All P (map f xs) → All (λ x. P (f x)) xs
All-unmap P f xs h = λ k d lt. subst P (get_or-map f xs k d (f d) lt) (h k (f d) (omega (arith, length-map xs f)))

abbrev IsShallow : Code → Type 0
IsShallow c = 1 + depth_of c ≤ 200

-- the rules for each expression of a body, one by one and together
pub record KeepsEach (starts behaviours : ℕ) (c : Code) : Type 0 where
  pub names : Throughout HasNames c
  pub start : Throughout (NamesStart starts) c
  pub behaviour : Throughout (NamesBehaviour behaviours) c
  pub arity : Throughout HasArity c
  pub item : Throughout HasItem c
  pub two_names : Throughout HasTwoNames c
  pub short_text : Throughout HasShortText c

pub each_from_rules : (n m : ℕ) (c : Code) → Throughout (KeepsRules n m) c → KeepsEach n m c
each_from_rules n m c h = record {
  names = throughout_weaker (KeepsRules n m) HasNames (λ d k. k.names) c h;
  start = throughout_weaker (KeepsRules n m) (NamesStart n) (λ d k. k.start) c h;
  behaviour = throughout_weaker (KeepsRules n m) (NamesBehaviour m) (λ d k. k.behaviour) c h;
  arity = throughout_weaker (KeepsRules n m) HasArity (λ d k. k.arity) c h;
  item = throughout_weaker (KeepsRules n m) HasItem (λ d k. k.item) c h;
  two_names = throughout_weaker (KeepsRules n m) HasTwoNames (λ d k. k.two_names) c h;
  short_text = throughout_weaker (KeepsRules n m) HasShortText (λ d k. k.short_text) c h;
}

abbrev Naming : ℕ → ℕ → Code → Type 0
Naming n m d = (HasNames d × NamesStart n d) × NamesBehaviour m d

abbrev Shape : Code → Type 0
Shape d = (HasArity d × HasItem d) × (HasTwoNames d × HasShortText d)

pub rules_from_each : (n m : ℕ) (c : Code) → KeepsEach n m c → Throughout (KeepsRules n m) c
rules_from_each n m c h =
    let naming = throughout_both (λ d. HasNames d × NamesStart n d) (NamesBehaviour m) c (throughout_both HasNames (NamesStart n) c h.names h.start) h.behaviour in
    let shape = throughout_both (λ d. HasArity d × HasItem d) (λ d. HasTwoNames d × HasShortText d) c (throughout_both HasArity HasItem c h.arity h.item) (throughout_both HasTwoNames HasShortText c h.two_names h.short_text) in
    throughout_weaker (λ d. Naming n m d × Shape d) (KeepsRules n m) (λ d k. record {
      names = k.0.0.0;
      start = k.0.0.1;
      behaviour = k.0.1;
      arity = k.1.0.0;
      item = k.1.0.1;
      two_names = k.1.1.0;
      short_text = k.1.1.1;
    }) c (throughout_both (Naming n m) Shape c naming shape)

-- the checks of a program, together
pub record PassesChecks (p : Program) : Type 0 where
  pub limits : KeepsLimits p
  pub posts : All (IsSoundPost (length p.starts)) p.posts
  pub entries : All (λ e. IsSoundFailure p.nodes p.version e.failure) p.script
  pub starts : All (IsSoundStart p.nodes (length p.behaviours) (length p.starts)) p.starts
  pub start_names : AllPairs (λ v w. v ≢ w) (map (λ s. s.name) p.starts)
  pub behaviours : All (IsSoundBehaviour (length p.starts) (length p.behaviours)) p.behaviours
  pub behaviour_names : AllPairs (λ v w. v ≢ w) (map (λ b. b.name) p.behaviours)

pub sound_from_checks : (p : Program) → PassesChecks p → Sound p
sound_from_checks p h =
    let n = length p.starts in
    let m = length p.behaviours in
    let each : All (λ b. KeepsEach n m b.body) p.behaviours = λ k d lt. let b = h.behaviours k d lt in each_from_rules n m _ b.rules in record {
      some_version = h.limits.some_version;
      versions_limit = h.limits.version;
      some_nodes = h.limits.some_nodes;
      nodes_limit = h.limits.nodes;
      behaviours_limit = h.limits.behaviours;
      starts_limit = h.limits.starts;
      posts_limit = h.limits.posts;
      entries_limit = h.limits.entries;
      behaviours_named = All-map IsName (λ b. b.name) p.behaviours (λ k d lt. (h.behaviours k d lt).named);
      behaviours_distinct = h.behaviour_names;
      starts_named = All-map IsName (λ s. s.name) p.starts (λ k d lt. (h.starts k d lt).named);
      starts_distinct = h.start_names;
      start_behaviours = λ k d lt. (h.starts k d lt).behaviour;
      start_nodes = λ k d lt. (h.starts k d lt).node;
      state_names = λ k d lt. (h.starts k d lt).names;
      receivers = λ k d lt. (h.posts k d lt).receiver;
      post_names = λ k d lt. (h.posts k d lt).names;
      sound_failures = h.entries;
      states_bounded = λ k d lt. (h.starts k d lt).bounded;
      posts_bounded = λ k d lt. (h.posts k d lt).bounded;
      texts_bounded = All-map (Throughout HasShortText) (λ b. b.body) p.behaviours (λ k d lt. (each k d lt).short_text);
      variables_bound = All-map (IsBoundIn []) (λ b. b.body) p.behaviours (λ k d lt. (h.behaviours k d lt).bound);
      variables_named = All-map (Throughout HasNames) (λ b. b.body) p.behaviours (λ k d lt. (each k d lt).names);
      body_starts = All-map (Throughout (NamesStart n)) (λ b. b.body) p.behaviours (λ k d lt. (each k d lt).start);
      body_behaviours = All-map (Throughout (NamesBehaviour m)) (λ b. b.body) p.behaviours (λ k d lt. (each k d lt).behaviour);
      arities = All-map (Throughout HasArity) (λ b. b.body) p.behaviours (λ k d lt. (each k d lt).arity);
      sequences = All-map (Throughout HasItem) (λ b. b.body) p.behaviours (λ k d lt. (each k d lt).item);
      folds = All-map (Throughout HasTwoNames) (λ b. b.body) p.behaviours (λ k d lt. (each k d lt).two_names);
      bodies_depth = All-map IsShallow (λ b. b.body) p.behaviours (λ k d lt. (h.behaviours k d lt).depth);
      states_depth = λ k d lt. let b = (h.starts k d lt).bounded in omega (arith, b.1);
      posts_depth = λ k d lt. let b = (h.posts k d lt).bounded in omega (arith, b.1);
    }

pub checks_from_sound : (p : Program) → Sound p → PassesChecks p
checks_from_sound p s =
    let n = length p.starts in
    let m = length p.behaviours in
    let at : (P : Code → Type 0) → All P (bodies p) → All (λ b. P b.body) p.behaviours = λ P h. All-unmap P (λ b. b.body) p.behaviours h in record {
      limits = record {
        some_version = s.some_version;
        version = s.versions_limit;
        some_nodes = s.some_nodes;
        nodes = s.nodes_limit;
        behaviours = s.behaviours_limit;
        starts = s.starts_limit;
        posts = s.posts_limit;
        entries = s.entries_limit;
      };
      posts = λ k d lt. record {
        receiver = s.receivers k d lt;
        names = s.post_names k d lt;
        bounded = s.posts_bounded k d lt;
      };
      entries = s.sound_failures;
      starts = λ k d lt. record {
        named = All-unmap IsName (λ t. t.name) p.starts s.starts_named k d lt;
        behaviour = s.start_behaviours k d lt;
        node = s.start_nodes k d lt;
        names = s.state_names k d lt;
        bounded = s.states_bounded k d lt;
      };
      start_names = s.starts_distinct;
      behaviours = λ k d lt. record {
        named = All-unmap IsName (λ b. b.name) p.behaviours s.behaviours_named k d lt;
        depth = at IsShallow s.bodies_depth k d lt;
        bound = at (IsBoundIn []) s.variables_bound k d lt;
        rules = rules_from_each n m _ (record {
          names = at (Throughout HasNames) s.variables_named k d lt;
          start = at (Throughout (NamesStart n)) s.body_starts k d lt;
          behaviour = at (Throughout (NamesBehaviour m)) s.body_behaviours k d lt;
          arity = at (Throughout HasArity) s.arities k d lt;
          item = at (Throughout HasItem) s.sequences k d lt;
          two_names = at (Throughout HasTwoNames) s.folds k d lt;
          short_text = at (Throughout HasShortText) s.texts_bounded k d lt;
        });
      };
      behaviour_names = s.behaviours_distinct;
    }

-- the same for a program's numbers and lists as the code holds them
pub record AreOf (p : Program) (n m : ℕ) (posts : List Post) (script : List Entry) (starts : List Start) : Type 0 where
  pub starts_number : n ≡ length p.starts
  pub behaviours_number : m ≡ length p.behaviours
  pub posts_are : posts ≡ p.posts
  pub script_are : script ≡ p.script
  pub starts_are : starts ≡ p.starts

module _ (p : Program) (n m : ℕ) (posts : List Post) (script : List Entry) (starts : List Start) (of : AreOf p n m posts script starts) where
  pub starts_from_sound : Sound p → All (IsSoundStart p.nodes m n) starts × AllPairs (λ v w. v ≢ w) (map (λ s. s.name) starts)
  starts_from_sound s =
      let h = checks_from_sound p s in rw (of.starts_number, of.behaviours_number, of.starts_are) (h.starts, h.start_names)

  pub behaviours_from_sound : (behaviours : List NamedCode) → behaviours ≡ p.behaviours → Sound p → All (IsSoundBehaviour n m) behaviours × AllPairs (λ v w. v ≢ w) (map (λ b. b.name) behaviours)
  behaviours_from_sound behaviours are s =
      let h = checks_from_sound p s in rw (of.starts_number, of.behaviours_number, are) (h.behaviours, h.behaviour_names)

  -- each check by its answer
  pub sound_from_answers : (behaviours : List NamedCode) → behaviours ≡ p.behaviours → KeepsLimits p → All (IsSoundPost n) posts → All (λ e. IsSoundFailure p.nodes p.version e.failure) script → All (IsSoundStart p.nodes m n) starts × AllPairs (λ v w. v ≢ w) (map (λ s. s.name) starts) → All (IsSoundBehaviour n m) behaviours × AllPairs (λ v w. v ≢ w) (map (λ b. b.name) behaviours) → Sound p
  sound_from_answers behaviours are limits ps es ss bs = sound_from_checks p (record {
    limits = limits;
    posts = rw (of.starts_number, of.posts_are) at ps;
    entries = rw of.script_are at es;
    starts = rw (of.starts_number, of.behaviours_number, of.starts_are) at ss.0;
    start_names = rw of.starts_are at ss.1;
    behaviours = rw (of.starts_number, of.behaviours_number, are) at bs.0;
    behaviour_names = rw are at bs.1;
  })
