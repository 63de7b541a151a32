-- The forms that a program is printed as.
use Rattle.std.specs.Prelude.{ℕ, ◌==◌, List, [], ◌∷◌, ◌++◌, map, slice_get, unwrap_or, codes, if◌then◌else◌}
use Rattle.std.specs.Fmt.{signed_decimal}
use Rattle.tau_sexpr.specs.Tree.{Tree, Trees, word, text, list, none, more, headed}
use Rattle.tau_value.specs.Written.{written, count_form}
use Rattle.tau_value.specs.Value.{val_of}
use Rattle.tau_tree.specs.Code.{Code, Codes}
use Rattle.tau_tree.specs.Code as code
use Rattle.tau_tree.specs.Behaviour.{NamedCode}
use Rattle.tau_tree.specs.Sound.{behaviour_names, start_names}
use Rattle.tau_tree.specs.declared.expressions.Operation.{Operation}
use Rattle.tau_tree.specs.declared.expressions.Operation.TheVariants as prims
use Rattle.tau_tree.specs.declared.entries.Entry.{Entry}
use Rattle.tau_tree.specs.declared.entries.Failure.{Failure}
use Rattle.tau_tree.specs.declared.entries.Failure.TheVariants.{Fail, Lose, Repeat}
use Rattle.tau_tree.specs.declared.posts.Post.{Post}
use Rattle.tau_tree.specs.declared.starts.Start.{Start}
use Rattle.tau_tree.specs.declared.programs.Program.{Program}

-- the word of an operation
abbrev pub prim_word : Operation → List ℕ
prim_word prims.Add = codes "+"
prim_word prims.Sub = codes "-"
prim_word prims.Mul = codes "*"
prim_word prims.Div = codes "/"
prim_word prims.Rem = codes "%"
prim_word prims.Less = codes "<"
prim_word prims.Same = codes "="
prim_word prims.Not = codes "not"
prim_word prims.Len = codes "len"
prim_word prims.Item = codes "at"
prim_word prims.Push = codes "push"
prim_word prims.Cat = codes "cat"

-- the name with a number, among names
abbrev pub name_of : List (List ℕ) → ℕ → Tree
name_of names n = word (unwrap_or (slice_get names n) [])

-- the form of an expression, with the names of behaviours and starts
abbrev mutual
  pub code_form : List (List ℕ) → List (List ℕ) → Code → Tree
  code_form bs ss code.unit = word (codes "unit")
  code_form bs ss (code.truth b) = word (if b then codes "true" else codes "false")
  code_form bs ss (code.int z) = word (signed_decimal z)
  code_form bs ss (code.text t) = text t
  code_form bs ss code.msg = word (codes "msg")
  code_form bs ss code.own = word (codes "self")
  code_form bs ss (code.var x) = word x
  code_form bs ss (code.start n) = headed (codes "name") (name_of ss n ∷ [])
  code_form bs ss (code.list cs) = list (more (word (codes "list")) (code_forms bs ss cs))
  code_form bs ss (code.let_in x v b) = headed (codes "let") (word x ∷ code_form bs ss v ∷ code_form bs ss b ∷ [])
  code_form bs ss (code.if_else t y n) = headed (codes "if") (code_form bs ss t ∷ code_form bs ss y ∷ code_form bs ss n ∷ [])
  code_form bs ss (code.seq cs) = list (more (word (codes "seq")) (code_forms bs ss cs))
  code_form bs ss (code.fold l f s i b) =
      headed (codes "fold") (code_form bs ss l ∷ code_form bs ss f ∷ list (more (word s) (more (word i) none)) ∷ code_form bs ss b ∷ [])
  code_form bs ss (code.apply p cs) = list (more (word (prim_word p)) (code_forms bs ss cs))
  code_form bs ss code.get = headed (codes "get") []
  code_form bs ss (code.set v) = headed (codes "set") (code_form bs ss v ∷ [])
  code_form bs ss (code.send t v) = headed (codes "send") (code_form bs ss t ∷ code_form bs ss v ∷ [])
  code_form bs ss (code.new b n s) = headed (codes "new") (name_of bs b ∷ code_form bs ss n ∷ code_form bs ss s ∷ [])
  code_form bs ss code.stabilize = headed (codes "stabilize") []
  code_form bs ss code.checkpoint = headed (codes "checkpoint") []
  code_form bs ss code.rollback = headed (codes "rollback") []
  code_form bs ss code.dependent = headed (codes "dependent") []

  pub code_forms : List (List ℕ) → List (List ℕ) → Codes → Trees
  code_forms bs ss code.none = none
  code_forms bs ss (code.more c cs) = more (code_form bs ss c) (code_forms bs ss cs)

abbrev pub behaviour_form : List (List ℕ) → List (List ℕ) → NamedCode → Tree
behaviour_form bs ss b = headed (codes "behaviour") (word b.name ∷ code_form bs ss b.body ∷ [])

abbrev pub start_form : List (List ℕ) → List (List ℕ) → Start → Tree
start_form bs ss s = headed (codes "start") (word s.name ∷ name_of bs s.behaviour ∷ count_form s.node ∷ written ss (val_of s.state) ∷ [])

abbrev pub post_form : List (List ℕ) → Post → Tree
post_form ss p = headed (codes "post") (name_of ss p.to ∷ written ss (val_of p.value) ∷ [])

abbrev pub failure_form : Failure → Tree
failure_form (Fail n) = headed (codes "fail") (count_form n ∷ [])
failure_form (Lose m) = headed (codes "lose") (count_form m ∷ [])
failure_form (Repeat m) = headed (codes "repeat") (count_form m ∷ [])

abbrev pub entry_form : Entry → Tree
entry_form e = headed (codes "at") (count_form e.at ∷ failure_form e.failure ∷ [])

abbrev pub version_form : ℕ → Tree
version_form v = headed (codes "version") (count_form v ∷ [])

-- the form of version 2; of version 1 there is none
abbrev pub version_forms : ℕ → List Tree
version_forms v = if v == 2 then version_form v ∷ [] else []

-- the version first where it is 2, then nodes, behaviours, starts, posts and script entries
abbrev pub printed : Program → List Tree
printed p =
    let bs = behaviour_names p in
    let ss = start_names p in
    version_forms p.version
    ++ (headed (codes "nodes") (count_form p.nodes ∷ [])
    ∷ (map (behaviour_form bs ss) p.behaviours ++ map (start_form bs ss) p.starts ++ map (post_form ss) p.posts ++ map entry_form p.script))
