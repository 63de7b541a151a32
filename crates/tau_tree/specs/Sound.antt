-- The rules of a sound program.
use Rattle.std.specs.Prelude.{◌≡◌, ◌≢◌, ℕ, ◌+◌, ◌<◌, ◌≤◌, List, [], length, map, All, AllPairs}
use Rattle.tau_value.specs.declared.limits.TheConstants.{NODE_LIMIT, BEHAVIOUR_LIMIT, START_LIMIT, POST_LIMIT, ENTRY_LIMIT}
use Rattle.tau_value.specs.Names.{IsName, AreNames}
use Rattle.tau_value.specs.Sizes.{IsInBounds, NamesBelow, levels_of}
use Rattle.tau_value.specs.Value.{val_of}
use Rattle.tau_tree.specs.declared.entries.Failure.{Failure}
use Rattle.tau_tree.specs.declared.entries.Failure.TheVariants.{Fail, Lose, Repeat}
use Rattle.tau_tree.specs.declared.programs.Program.{Program}
use Rattle.tau_tree.specs.Code.{Code}
use Rattle.tau_tree.specs.Parts.{depth_of, IsBoundIn, Throughout, HasNames, NamesStart, NamesBehaviour, HasArity, HasItem, HasTwoNames, HasShortText}

-- the names of the behaviours
abbrev pub behaviour_names : Program → List (List ℕ)
behaviour_names p = map (λ b. b.name) p.behaviours

-- the names of the start transactors
abbrev pub start_names : Program → List (List ℕ)
start_names p = map (λ s. s.name) p.starts

-- the bodies of the behaviours
abbrev pub bodies : Program → List Code
bodies p = map (λ b. b.body) p.behaviours

-- a failing node is below the number of nodes; a message that is lost or repeated needn't exist; none is repeated in version 1
abbrev pub IsSoundFailure : ℕ → ℕ → Failure → Type 0
IsSoundFailure nodes version (Fail node) = node < nodes
IsSoundFailure nodes version (Lose message) = Unit {0}
IsSoundFailure nodes version (Repeat message) = version ≡ 2

pub record Sound (p : Program) : Type 0 where
  -- the version is 1 or 2
  pub some_version : 1 ≤ p.version
  pub versions_limit : p.version ≤ 2
  -- there are 1 to 64 nodes, and at most 256 behaviours, 1,024 starts, 4,096 posts and 4,096 script entries
  pub some_nodes : 0 < p.nodes
  pub nodes_limit : p.nodes ≤ NODE_LIMIT
  pub behaviours_limit : length p.behaviours ≤ BEHAVIOUR_LIMIT
  pub starts_limit : length p.starts ≤ START_LIMIT
  pub posts_limit : length p.posts ≤ POST_LIMIT
  pub entries_limit : length p.script ≤ ENTRY_LIMIT
  -- each name is a name, and no two behaviours and no two starts have the same one
  pub behaviours_named : All IsName (behaviour_names p)
  pub behaviours_distinct : AllPairs (λ v w. v ≢ w) (behaviour_names p)
  pub starts_named : All IsName (start_names p)
  pub starts_distinct : AllPairs (λ v w. v ≢ w) (start_names p)
  -- each number outside the bodies names something that exists
  pub start_behaviours : All (λ s. s.behaviour < length p.behaviours) p.starts
  pub start_nodes : All (λ s. s.node < p.nodes) p.starts
  pub state_names : All (λ s. NamesBelow (length p.starts) (val_of s.state)) p.starts
  pub receivers : All (λ q. q.to < length p.starts) p.posts
  pub post_names : All (λ q. NamesBelow (length p.starts) (val_of q.value)) p.posts
  pub sound_failures : All (λ e. IsSoundFailure p.nodes p.version e.failure) p.script
  -- each value is in bounds, and so is each text in a body
  pub states_bounded : All (λ s. IsInBounds (val_of s.state)) p.starts
  pub posts_bounded : All (λ q. IsInBounds (val_of q.value)) p.posts
  pub texts_bounded : All (Throughout HasShortText) (bodies p)
  -- each variable in a body is bound and is a name, and each number in it names something that exists
  pub variables_bound : All (IsBoundIn []) (bodies p)
  pub variables_named : All (Throughout HasNames) (bodies p)
  pub body_starts : All (Throughout (NamesStart (length p.starts))) (bodies p)
  pub body_behaviours : All (Throughout (NamesBehaviour (length p.behaviours))) (bodies p)
  -- the shapes in a body
  pub arities : All (Throughout HasArity) (bodies p)
  pub sequences : All (Throughout HasItem) (bodies p)
  pub folds : All (Throughout HasTwoNames) (bodies p)
  -- no form that is printed is deeper than 200: a behaviour, a start and a post each put one list around what they hold
  pub bodies_depth : All (λ c. 1 + depth_of c ≤ 200) (bodies p)
  pub states_depth : All (λ s. 1 + levels_of (val_of s.state) ≤ 200) p.starts
  pub posts_depth : All (λ q. 1 + levels_of (val_of q.value) ≤ 200) p.posts

-- the behaviours of a sound program have names, all different
pub behaviour_names-are : (p : Program) → Sound p → AreNames (behaviour_names p)
behaviour_names-are p s = record { named = s.behaviours_named; distinct = s.behaviours_distinct }

-- the starts of a sound program have names, all different
pub start_names-are : (p : Program) → Sound p → AreNames (start_names p)
start_names-are p s = record { named = s.starts_named; distinct = s.starts_distinct }
