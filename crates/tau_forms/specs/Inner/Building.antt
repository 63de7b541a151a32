-- How the builder of programs takes the forms at the top apart, and what it has built of them.
use Rattle.std.specs.Prelude.{◌≡◌, ℕ, List, map, filter_map, length, Option, Some, None}
use Rattle.tau_sexpr.specs.Form.{tree_of}
use Rattle.tau_sexpr.specs.Tree.{Tree, Trees, word, list, none, more}
use Rattle.tau_tree.specs.Behaviour.{NamedCode}
use Rattle.tau_tree.specs.declared.entries.Entry.{Entry}
use Rattle.tau_value.specs.Meaning.{counted}
use Rattle.tau_forms.specs.declared.programs.Draft.{Draft}
use Rattle.tau_forms.specs.declared.programs.StartParts.{StartParts}
use Rattle.tau_forms.specs.declared.programs.PostParts.{PostParts}
use Rattle.tau_forms.specs.declared.programs.EntryParts.{EntryParts}
use Rattle.tau_forms.specs.declared.programs.TopForm.{TopForm}
use Rattle.tau_forms.specs.declared.programs.TopForm.TheVariants as forms
use Rattle.tau_forms.specs.declared.tables.Tables.{Tables}
use Rattle.tau_forms.specs.Keywords.{failure_in}
use Rattle.tau_forms.specs.Meaning.{PlainStart, PlainPost, plain_start, plain_post, number_of, count_of, code_in, behaviour_in, start_in, post_in, failure_of, entry_of, entry_in}

-- what a list at the top defines by its items, its first word aside
abbrev pub behaviour_items : Tables → Trees → Option NamedCode
behaviour_items tb (more (word n) (more e none)) = Some (record { name = n; body = code_in tb e })
behaviour_items tb ts = None

abbrev pub start_items : Tables → Trees → Option PlainStart
start_items tb (more (word n) (more (word b) (more (word k) (more v none)))) =
    Some (record { name = n; behaviour = number_of tb.behaviours b; node = count_of k; state = counted tb.starts (length tb.starts) v })
start_items tb ts = None

abbrev pub post_items : Tables → Trees → Option PlainPost
post_items tb (more (word s) (more v none)) =
    Some (record { to = number_of tb.starts s; value = counted tb.starts (length tb.starts) v })
post_items tb ts = None

abbrev pub failure_entry : List ℕ → Trees → Option Entry
failure_entry p (more (word g) (more (word n) none)) = entry_of (count_of p) (failure_of (failure_in g) (count_of n))
failure_entry p ts = None

abbrev pub entry_items : Trees → Option Entry
entry_items (more (word p) (more (list ts) none)) = failure_entry p ts
entry_items ts = None

-- what the parts of a form define
abbrev pub start_part : Tables → StartParts → PlainStart
start_part tb p =
    record { name = p.name.now; behaviour = number_of tb.behaviours p.behaviour.now; node = count_of p.node.now; state = counted tb.starts (length tb.starts) (tree_of p.state.now) }

abbrev pub post_part : Tables → PostParts → PlainPost
post_part tb p = record { to = number_of tb.starts p.to.now; value = counted tb.starts (length tb.starts) (tree_of p.value.now) }

abbrev pub entry_part : EntryParts → Option Entry
entry_part p = entry_of (count_of p.place.now) (failure_of p.failure (count_of p.number.now))

abbrev pub behaviour_told : Tables → TopForm → Option NamedCode
behaviour_told tb (forms.Behaviour n e) = Some (record { name = n.now; body = code_in tb (tree_of e.now) })
behaviour_told tb f = None

abbrev pub start_told : Tables → TopForm → Option PlainStart
start_told tb (forms.Start p) = Some (start_part tb p)
start_told tb f = None

abbrev pub post_told : Tables → TopForm → Option PlainPost
post_told tb (forms.Post p) = Some (post_part tb p)
post_told tb f = None

abbrev pub entry_told : TopForm → Option Entry
entry_told (forms.At p) = entry_part p
entry_told f = None

-- a form at the top defines what its parts do
pub record IsTopForm (tb : Tables) (t : Tree) (f : TopForm) : Type 0 where
  pub behaviour : behaviour_in tb t ≡ behaviour_told tb f
  pub start : start_in tb t ≡ start_told tb f
  pub post : post_in tb t ≡ post_told tb f
  pub entry : entry_in t ≡ entry_told f

-- the items of a list of one sort define what the parts do, and nothing of another sort
pub record TellsBehaviour (tb : Tables) (ts : Trees) (f : TopForm) : Type 0 where
  pub behaviour : behaviour_items tb ts ≡ behaviour_told tb f
  pub no_start : start_told tb f ≡ None
  pub no_post : post_told tb f ≡ None
  pub no_entry : entry_told f ≡ None

pub record TellsStart (tb : Tables) (ts : Trees) (f : TopForm) : Type 0 where
  pub start : start_items tb ts ≡ start_told tb f
  pub no_behaviour : behaviour_told tb f ≡ None
  pub no_post : post_told tb f ≡ None
  pub no_entry : entry_told f ≡ None

pub record TellsPost (tb : Tables) (ts : Trees) (f : TopForm) : Type 0 where
  pub post : post_items tb ts ≡ post_told tb f
  pub no_behaviour : behaviour_told tb f ≡ None
  pub no_start : start_told tb f ≡ None
  pub no_entry : entry_told f ≡ None

pub record TellsEntry (ts : Trees) (f : TopForm) : Type 0 where
  pub entry : entry_items ts ≡ entry_told f
  pub no_behaviour : (tb : Tables) → behaviour_told tb f ≡ None
  pub no_start : (tb : Tables) → start_told tb f ≡ None
  pub no_post : (tb : Tables) → post_told tb f ≡ None

pub record TellsFailure (place : List ℕ) (ts : Trees) (f : TopForm) : Type 0 where
  pub entry : failure_entry place ts ≡ entry_told f
  pub no_behaviour : (tb : Tables) → behaviour_told tb f ≡ None
  pub no_start : (tb : Tables) → start_told tb f ≡ None
  pub no_post : (tb : Tables) → post_told tb f ≡ None

-- the parts of a program that forms define
pub record HasBuilt (tb : Tables) (ts : List Tree) (d : Draft) : Type 0 where
  pub behaviours : d.behaviours ≡ filter_map (behaviour_in tb) ts
  pub starts : map plain_start d.starts ≡ filter_map (start_in tb) ts
  pub posts : map plain_post d.posts ≡ filter_map (post_in tb) ts
  pub script : d.script ≡ filter_map entry_in ts
