-- What the checks of a program ask, each of one thing; together they are the rules of a sound program.
use Rattle.std.specs.Prelude.{ℕ, ◌+◌, ◌<◌, ◌≤◌, [], length}
use Rattle.tau_value.specs.declared.limits.TheConstants.{NODE_LIMIT, BEHAVIOUR_LIMIT, START_LIMIT, POST_LIMIT, ENTRY_LIMIT}
use Rattle.tau_value.specs.Names.{IsName}
use Rattle.tau_value.specs.Sizes.{IsInBounds, NamesBelow}
use Rattle.tau_value.specs.Value.{val_of}
use Rattle.tau_tree.specs.declared.starts.Start.{Start}
use Rattle.tau_tree.specs.declared.posts.Post.{Post}
use Rattle.tau_tree.specs.declared.programs.Program.{Program}
use Rattle.tau_tree.specs.Behaviour.{NamedCode}
use Rattle.tau_tree.specs.Code.{Code}
use Rattle.tau_tree.specs.Parts.{depth_of, IsBoundIn, Throughout, HasNames, NamesStart, NamesBehaviour, HasArity, HasItem, HasTwoNames, HasShortText}

-- the limits of a program
pub record KeepsLimits (p : Program) : Type 0 where
  pub some_version : 1 ≤ p.version
  pub version : p.version ≤ 2
  pub some_nodes : 0 < p.nodes
  pub nodes : p.nodes ≤ NODE_LIMIT
  pub behaviours : length p.behaviours ≤ BEHAVIOUR_LIMIT
  pub starts : length p.starts ≤ START_LIMIT
  pub posts : length p.posts ≤ POST_LIMIT
  pub entries : length p.script ≤ ENTRY_LIMIT

-- the rules for one start, where there are so many nodes, behaviours and starts
pub record IsSoundStart (nodes behaviours starts : ℕ) (s : Start) : Type 0 where
  pub named : IsName s.name
  pub behaviour : s.behaviour < behaviours
  pub node : s.node < nodes
  pub names : NamesBelow starts (val_of s.state)
  pub bounded : IsInBounds (val_of s.state)

-- the rules for one post, where there are so many starts
pub record IsSoundPost (starts : ℕ) (q : Post) : Type 0 where
  pub receiver : q.to < starts
  pub names : NamesBelow starts (val_of q.value)
  pub bounded : IsInBounds (val_of q.value)

-- the rules for one expression, its parts aside, where there are so many starts and behaviours
pub record KeepsRules (starts behaviours : ℕ) (c : Code) : Type 0 where
  pub names : HasNames c
  pub start : NamesStart starts c
  pub behaviour : NamesBehaviour behaviours c
  pub arity : HasArity c
  pub item : HasItem c
  pub two_names : HasTwoNames c
  pub short_text : HasShortText c

-- the rules for one behaviour, where there are so many starts and behaviours
pub record IsSoundBehaviour (starts behaviours : ℕ) (b : NamedCode) : Type 0 where
  pub named : IsName b.name
  pub depth : 1 + depth_of b.body ≤ 200
  pub bound : IsBoundIn [] b.body
  pub rules : Throughout (KeepsRules starts behaviours) b.body
