-- The program that forms without faults mean.
use Rattle.std.specs.Prelude.{◌≡◌, ℕ, Bool, true, false, List, map, filter_map, length, Option, Some, None, unwrap_or, codes, if◌then◌else◌}
use Rattle.std.specs.Option.{option_map_or}
use Rattle.std.specs.Str.{bytes_eq}
use Rattle.tau_sexpr.specs.Tree.{Tree, Trees}
use Rattle.tau_sexpr.specs.Tree as tree
use Rattle.tau_value.specs.Names.{place_of}
use Rattle.tau_value.specs.Numbers.{count_in, integer_in}
use Rattle.tau_value.specs.Val.{Val}
use Rattle.tau_value.specs.Value.{val_of}
use Rattle.tau_value.specs.Meaning.{counted}
use Rattle.tau_tree.specs.Behaviour.{NamedCode}
use Rattle.tau_tree.specs.Code.{Code, unit, truth, int, text, msg, own, var, start, list, let_in, if_else, seq, fold, apply, get, set, send, new, stabilize, checkpoint, rollback, dependent, Codes, none, more}
use Rattle.tau_tree.specs.declared.entries.Entry.{Entry}
use Rattle.tau_tree.specs.declared.entries.Failure.{Failure}
use Rattle.tau_tree.specs.declared.entries.Failure.TheVariants.{Fail, Lose, Repeat}
use Rattle.tau_tree.specs.declared.posts.Post.{Post}
use Rattle.tau_tree.specs.declared.starts.Start.{Start}
use Rattle.tau_tree.specs.declared.programs.Program.{Program}
use Rattle.tau_forms.specs.declared.keywords.FailureWord.{FailureWord}
use Rattle.tau_forms.specs.declared.keywords.FailureWord.TheVariants as failures
use Rattle.tau_forms.specs.declared.keywords.Keyword.{Keyword}
use Rattle.tau_forms.specs.declared.keywords.Keyword.TheVariants as keywords
use Rattle.tau_forms.specs.declared.tables.Tables.{Tables}
use Rattle.tau_forms.specs.Keywords.{sort_in, failure_in, keyword_in}
use Rattle.tau_forms.specs.Tops.{is_behaviour, is_start, is_post, is_entry, tables_of, limit_of}
use Rattle.tau_forms.specs.Faults.{ProgramFaultAt, IsClean}

-- the number of a name among names
abbrev pub number_of : List (List ℕ) → List ℕ → ℕ
number_of names w = unwrap_or (place_of names w) 0

-- the number that a count means
abbrev pub count_of : List ℕ → ℕ
count_of w = unwrap_or (count_in w) 0

-- the expression that a word is
abbrev pub word_code : List ℕ → Code
word_code w =
    if bytes_eq w (codes "unit") then unit
    else (if bytes_eq w (codes "true") then truth true
    else (if bytes_eq w (codes "false") then truth false
    else (if bytes_eq w (codes "msg") then msg
    else (if bytes_eq w (codes "self") then own
    else option_map_or int (integer_in w) (var w)))))

-- the expression that a list is, from what it begins with, its other items, and the expressions of these; unit where it is faulty
abbrev pub list_code : Tables → Keyword → Trees → Codes → Code
list_code tb keywords.Name (tree.more (tree.word w) tree.none) cs = start (number_of tb.starts w)
list_code tb keywords.List ts cs = list cs
list_code tb keywords.Let (tree.more (tree.word x) ts) (more c (more v (more b none))) = let_in x v b
list_code tb keywords.If ts (more t (more y (more n none))) = if_else t y n
list_code tb keywords.Seq ts cs = seq cs
list_code tb keywords.Fold (tree.more l (tree.more f (tree.more (tree.list (tree.more (tree.word s) (tree.more (tree.word i) tree.none))) ts))) (more d (more e (more c (more b none)))) =
    fold d e s i b
list_code tb (keywords.Apply p) ts cs = apply p cs
list_code tb keywords.Get ts none = get
list_code tb keywords.Set ts (more v none) = set v
list_code tb keywords.Send ts (more t (more v none)) = send t v
list_code tb keywords.New (tree.more (tree.word b) ts) (more c (more n (more s none))) = new (number_of tb.behaviours b) n s
list_code tb keywords.Stabilize ts none = stabilize
list_code tb keywords.Checkpoint ts none = checkpoint
list_code tb keywords.Rollback ts none = rollback
list_code tb keywords.Dependent ts none = dependent
list_code tb k ts cs = unit

-- the expression that a form is
abbrev mutual
  pub code_in : Tables → Tree → Code
  code_in tb (tree.word w) = word_code w
  code_in tb (tree.text t) = text t
  code_in tb (tree.list (tree.more (tree.word h) ts)) = list_code tb (keyword_in h) ts (codes_in tb ts)
  code_in tb (tree.list ts) = unit

  pub codes_in : Tables → Trees → Codes
  codes_in tb tree.none = none
  codes_in tb (tree.more t ts) = more (code_in tb t) (codes_in tb ts)

-- a start and a post with their values as plain data
pub record PlainStart : Type 0 where
  pub name : List ℕ
  pub behaviour : ℕ
  pub node : ℕ
  pub state : Val

pub record PlainPost : Type 0 where
  pub to : ℕ
  pub value : Val

-- a program as plain data
pub record PlainProgram : Type 0 where
  pub version : ℕ
  pub nodes : ℕ
  pub behaviours : List NamedCode
  pub starts : List PlainStart
  pub posts : List PlainPost
  pub script : List Entry

abbrev pub plain_start : Start → PlainStart
plain_start s = record { name = s.name; behaviour = s.behaviour; node = s.node; state = val_of s.state }

abbrev pub plain_post : Post → PlainPost
plain_post p = record { to = p.to; value = val_of p.value }

abbrev pub plain_of : Program → PlainProgram
plain_of p =
    record { version = p.version; nodes = p.nodes; behaviours = p.behaviours; starts = map plain_start p.starts; posts = map plain_post p.posts; script = p.script }

-- something, if a test holds
abbrev pub where_true : {A : Type 0} → Bool → A → Option A
where_true b x = if b then Some x else None

-- what a list at the top defines: a behaviour, a start, a post or a script entry
abbrev pub behaviour_in : Tables → Tree → Option NamedCode
behaviour_in tb (tree.list (tree.more (tree.word h) (tree.more (tree.word n) (tree.more e tree.none)))) =
    where_true (is_behaviour (sort_in h)) (record { name = n; body = code_in tb e })
behaviour_in tb t = None

abbrev pub start_in : Tables → Tree → Option PlainStart
start_in tb (tree.list (tree.more (tree.word h) (tree.more (tree.word n) (tree.more (tree.word b) (tree.more (tree.word k) (tree.more v tree.none)))))) =
    where_true (is_start (sort_in h)) (record { name = n; behaviour = number_of tb.behaviours b; node = count_of k; state = counted tb.starts (length tb.starts) v })
start_in tb t = None

abbrev pub post_in : Tables → Tree → Option PlainPost
post_in tb (tree.list (tree.more (tree.word h) (tree.more (tree.word s) (tree.more v tree.none)))) =
    where_true (is_post (sort_in h)) (record { to = number_of tb.starts s; value = counted tb.starts (length tb.starts) v })
post_in tb t = None

abbrev pub failure_of : FailureWord → ℕ → Option Failure
failure_of failures.Fail n = Some (Fail n)
failure_of failures.Lose m = Some (Lose m)
failure_of failures.Repeat m = Some (Repeat m)
failure_of failures.Other n = None

abbrev pub entry_of : ℕ → Option Failure → Option Entry
entry_of p None = None
entry_of p (Some f) = Some (record { at = p; failure = f })

abbrev pub entry_in : Tree → Option Entry
entry_in (tree.list (tree.more (tree.word h) (tree.more (tree.word p) (tree.more (tree.list (tree.more (tree.word g) (tree.more (tree.word n) tree.none))) tree.none)))) =
    if is_entry (sort_in h) then entry_of (count_of p) (failure_of (failure_in g) (count_of n)) else None
entry_in t = None

-- the program of a program's forms
abbrev pub program_in : List Tree → PlainProgram
program_in ts =
    let tb = tables_of ts in
    record { version = tb.version; nodes = tb.nodes; behaviours = filter_map (behaviour_in tb) ts; starts = filter_map (start_in tb) ts; posts = filter_map (post_in tb) ts; script = filter_map entry_in ts }

-- forms mean a program: they keep the limits, no node is faulty, and the program is theirs
pub record Means (ts : List Tree) (p : Program) : Type 0 where
  pub limits : limit_of ts ≡ None
  pub faultless : IsClean (ProgramFaultAt ts)
  pub is : plain_of p ≡ program_in ts
