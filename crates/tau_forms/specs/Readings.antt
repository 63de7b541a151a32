-- How far the two readings of a program's forms have come: what they define, and then the program.
use Rattle.std.specs.Prelude.{◌≡◌, ◌+◌, ◌-◌, ◌<◌, ◌^◌, min, List, [], ◌++◌, None}
use Rattle.tau_sexpr.specs.Tree.{Tree, inside, sizes}
use Rattle.tau_forms.specs.declared.builder.ProgramBuilder.{ProgramBuilder}
use Rattle.tau_forms.specs.declared.limits.Counts.{Counts}
use Rattle.tau_forms.specs.declared.outline.Outline.{Outline}
use Rattle.tau_forms.specs.Faults.{FaultIn, tops_after, IsClean}
use Rattle.tau_forms.specs.Inner.Building.{HasBuilt}
use Rattle.tau_forms.specs.Inner.Defined.{IsDefined}
use Rattle.tau_forms.specs.Tops.{is_behaviour, is_start, is_post, is_entry, is_other, count_of, limit_of, tables_of}

-- as many lists of each kind stand among forms, and as many forms of no kind; a greater number is told as the last of usize
pub record AreCounts (before : List Tree) (c : Counts) : Type 0 where
  pub behaviours : c.behaviours ≡ min (count_of is_behaviour before) (2 ^ 64 - 1)
  pub starts : c.starts ≡ min (count_of is_start before) (2 ^ 64 - 1)
  pub posts : c.posts ≡ min (count_of is_post before) (2 ^ 64 - 1)
  pub entries : c.entries ≡ min (count_of is_entry before) (2 ^ 64 - 1)
  pub others : c.others ≡ min (count_of is_other before) (2 ^ 64 - 1)

-- what forms define, with their numbers of lists and of nodes
pub record IsOutline (before : List Tree) (o : Outline) : Type 0 where
  pub counts : AreCounts before o.counts
  pub nodes : o.nodes ≡ min (sizes before) (2 ^ 64 - 1)
  pub defined : IsDefined before o.defined

-- of all forms of a program, which keep the limits, those before a place have no fault, and what they define is built
pub record HasTaken (ts before : List Tree) (b : ProgramBuilder) : Type 0 where
  pub limits : limit_of ts ≡ None
  pub range : sizes ts + 1 < 2 ^ 64
  pub tables : b.tables ≡ tables_of ts
  pub earlier : IsDefined before b.earlier
  pub node : b.node ≡ sizes before
  pub clean : IsClean (FaultIn (tables_of ts) (tops_after [] before) (inside before))
  pub built : HasBuilt b.tables before b.draft

-- these forms stand behind those that a builder has taken
pub record ComesNext (b : ProgramBuilder) (fs : List Tree) : Type 0 where
  pub ts : List Tree
  pub before : List Tree
  pub after : List Tree
  pub is : ts ≡ before ++ (fs ++ after)
  pub taken : HasTaken ts before b
