-- What the word that begins a list says.
use Rattle.std.specs.Prelude.{ℕ, List, Option, Some, None, codes, if◌then◌else◌}
use Rattle.std.specs.Option.{option_map_or}
use Rattle.std.specs.Str.{bytes_eq}
use Rattle.tau_tree.specs.declared.expressions.Operation.{Operation}
use Rattle.tau_tree.specs.declared.expressions.Operation.TheVariants as prims
use Rattle.tau_forms.specs.declared.keywords.Sort.{Sort}
use Rattle.tau_forms.specs.declared.keywords.Sort.TheVariants as sorts
use Rattle.tau_forms.specs.declared.keywords.FailureWord.{FailureWord}
use Rattle.tau_forms.specs.declared.keywords.FailureWord.TheVariants as failures
use Rattle.tau_forms.specs.declared.keywords.Keyword.{Keyword}
use Rattle.tau_forms.specs.declared.keywords.Keyword.TheVariants as keywords

-- what a list at the top is
abbrev pub sort_in : List ℕ → Sort
sort_in w =
    if bytes_eq w (codes "nodes") then sorts.Nodes
    else (if bytes_eq w (codes "behaviour") then sorts.Behaviour
    else (if bytes_eq w (codes "start") then sorts.Start
    else (if bytes_eq w (codes "post") then sorts.Post
    else (if bytes_eq w (codes "at") then sorts.At
    else (if bytes_eq w (codes "version") then sorts.Version
    else sorts.Other)))))

-- what a script entry does
abbrev pub failure_in : List ℕ → FailureWord
failure_in w = if bytes_eq w (codes "fail") then failures.Fail else (if bytes_eq w (codes "lose") then failures.Lose else (if bytes_eq w (codes "repeat") then failures.Repeat else failures.Other))

-- an operation on values
abbrev pub operation_in : List ℕ → Option Operation
operation_in w =
    if bytes_eq w (codes "+") then Some prims.Add
    else (if bytes_eq w (codes "-") then Some prims.Sub
    else (if bytes_eq w (codes "*") then Some prims.Mul
    else (if bytes_eq w (codes "/") then Some prims.Div
    else (if bytes_eq w (codes "%") then Some prims.Rem
    else (if bytes_eq w (codes "<") then Some prims.Less
    else (if bytes_eq w (codes "=") then Some prims.Same
    else (if bytes_eq w (codes "not") then Some prims.Not
    else (if bytes_eq w (codes "len") then Some prims.Len
    else (if bytes_eq w (codes "at") then Some prims.Item
    else (if bytes_eq w (codes "push") then Some prims.Push
    else (if bytes_eq w (codes "cat") then Some prims.Cat
    else None)))))))))))

-- what a list is as an expression
abbrev pub keyword_in : List ℕ → Keyword
keyword_in w =
    if bytes_eq w (codes "name") then keywords.Name
    else (if bytes_eq w (codes "list") then keywords.List
    else (if bytes_eq w (codes "let") then keywords.Let
    else (if bytes_eq w (codes "if") then keywords.If
    else (if bytes_eq w (codes "seq") then keywords.Seq
    else (if bytes_eq w (codes "fold") then keywords.Fold
    else (if bytes_eq w (codes "new") then keywords.New
    else (if bytes_eq w (codes "get") then keywords.Get
    else (if bytes_eq w (codes "set") then keywords.Set
    else (if bytes_eq w (codes "send") then keywords.Send
    else (if bytes_eq w (codes "stabilize") then keywords.Stabilize
    else (if bytes_eq w (codes "checkpoint") then keywords.Checkpoint
    else (if bytes_eq w (codes "rollback") then keywords.Rollback
    else (if bytes_eq w (codes "dependent") then keywords.Dependent
    else option_map_or keywords.Apply (operation_in w) keywords.Other)))))))))))))
