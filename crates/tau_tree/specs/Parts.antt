-- Rules that an expression keeps in each of its parts.
use Rattle.std.specs.Prelude.{◌≡◌, ◌≢◌, ℕ, ◌+◌, ◌<◌, max, List, [], ◌∷◌, ◌++◌, Contains}
use Rattle.tau_value.specs.Names.{IsName}
use Rattle.tau_value.specs.Sizes.{IsInBounds}
use Rattle.tau_value.specs.Val as val
use Rattle.tau_tree.specs.declared.expressions.Operation.{Operation}
use Rattle.tau_tree.specs.declared.expressions.Operation.TheVariants as prims
use Rattle.tau_tree.specs.Code.{Code, unit, truth, int, text, msg, own, var, start, list, let_in, if_else, seq, fold, apply, get, set, send, new, stabilize, checkpoint, rollback, dependent, Codes, none, more}

-- how deep lists stand inside one another where the expression is printed
abbrev mutual
  pub depth_of : Code → ℕ
  depth_of unit = 0
  depth_of (truth b) = 0
  depth_of (int z) = 0
  depth_of (text t) = 0
  depth_of msg = 0
  depth_of own = 0
  depth_of (var x) = 0
  depth_of (start n) = 1
  depth_of (list cs) = 1 + depth_of_all cs
  depth_of (let_in x v b) = 1 + max (depth_of v) (depth_of b)
  depth_of (if_else t y n) = 1 + max (depth_of t) (max (depth_of y) (depth_of n))
  depth_of (seq cs) = 1 + depth_of_all cs
  depth_of (fold l f s i b) = 1 + max (depth_of l) (max (depth_of f) (max 1 (depth_of b)))
  depth_of (apply p cs) = 1 + depth_of_all cs
  depth_of get = 1
  depth_of (set v) = 1 + depth_of v
  depth_of (send t v) = 1 + max (depth_of t) (depth_of v)
  depth_of (new b n s) = 1 + max (depth_of n) (depth_of s)
  depth_of stabilize = 1
  depth_of checkpoint = 1
  depth_of rollback = 1
  depth_of dependent = 1

  pub depth_of_all : Codes → ℕ
  depth_of_all none = 0
  depth_of_all (more c cs) = max (depth_of c) (depth_of_all cs)

-- each variable is one of the scope's or is bound around it: by a let in its second part, by a fold in its body
abbrev mutual
  pub IsBoundIn : List (List ℕ) → Code → Type 0
  IsBoundIn scope unit = Unit {0}
  IsBoundIn scope (truth b) = Unit {0}
  IsBoundIn scope (int z) = Unit {0}
  IsBoundIn scope (text t) = Unit {0}
  IsBoundIn scope msg = Unit {0}
  IsBoundIn scope own = Unit {0}
  IsBoundIn scope (var x) = Contains scope x
  IsBoundIn scope (start n) = Unit {0}
  IsBoundIn scope (list cs) = AllBoundIn scope cs
  IsBoundIn scope (let_in x v b) = IsBoundIn scope v × IsBoundIn (scope ++ x ∷ []) b
  IsBoundIn scope (if_else t y n) = IsBoundIn scope t × IsBoundIn scope y × IsBoundIn scope n
  IsBoundIn scope (seq cs) = AllBoundIn scope cs
  IsBoundIn scope (fold l f s i b) = IsBoundIn scope l × IsBoundIn scope f × IsBoundIn (scope ++ s ∷ i ∷ []) b
  IsBoundIn scope (apply p cs) = AllBoundIn scope cs
  IsBoundIn scope get = Unit {0}
  IsBoundIn scope (set v) = IsBoundIn scope v
  IsBoundIn scope (send t v) = IsBoundIn scope t × IsBoundIn scope v
  IsBoundIn scope (new b n s) = IsBoundIn scope n × IsBoundIn scope s
  IsBoundIn scope stabilize = Unit {0}
  IsBoundIn scope checkpoint = Unit {0}
  IsBoundIn scope rollback = Unit {0}
  IsBoundIn scope dependent = Unit {0}

  pub AllBoundIn : List (List ℕ) → Codes → Type 0
  AllBoundIn scope none = Unit {0}
  AllBoundIn scope (more c cs) = IsBoundIn scope c × AllBoundIn scope cs

-- an expression and all its parts have a property
abbrev mutual
  pub Throughout : (Code → Type 0) → Code → Type 0
  Throughout P unit = P unit
  Throughout P (truth b) = P (truth b)
  Throughout P (int z) = P (int z)
  Throughout P (text t) = P (text t)
  Throughout P msg = P msg
  Throughout P own = P own
  Throughout P (var x) = P (var x)
  Throughout P (start n) = P (start n)
  Throughout P (list cs) = P (list cs) × AllThroughout P cs
  Throughout P (let_in x v b) = P (let_in x v b) × Throughout P v × Throughout P b
  Throughout P (if_else t y n) = P (if_else t y n) × Throughout P t × Throughout P y × Throughout P n
  Throughout P (seq cs) = P (seq cs) × AllThroughout P cs
  Throughout P (fold l f s i b) = P (fold l f s i b) × Throughout P l × Throughout P f × Throughout P b
  Throughout P (apply p cs) = P (apply p cs) × AllThroughout P cs
  Throughout P get = P get
  Throughout P (set v) = P (set v) × Throughout P v
  Throughout P (send t v) = P (send t v) × Throughout P t × Throughout P v
  Throughout P (new b n s) = P (new b n s) × Throughout P n × Throughout P s
  Throughout P stabilize = P stabilize
  Throughout P checkpoint = P checkpoint
  Throughout P rollback = P rollback
  Throughout P dependent = P dependent

  pub AllThroughout : (Code → Type 0) → Codes → Type 0
  AllThroughout P none = Unit {0}
  AllThroughout P (more c cs) = Throughout P c × AllThroughout P cs

-- a variable, and what a let and a fold bind, is a name
abbrev pub HasNames : Code → Type 0
HasNames (var x) = IsName x
HasNames (let_in x v b) = IsName x
HasNames (fold l f s i b) = IsName s × IsName i
HasNames c = Unit {0}

-- the start that is named is one of so many
abbrev pub NamesStart : ℕ → Code → Type 0
NamesStart starts (start n) = n < starts
NamesStart starts c = Unit {0}

-- the behaviour that is created is one of so many
abbrev pub NamesBehaviour : ℕ → Code → Type 0
NamesBehaviour behaviours (new b n s) = b < behaviours
NamesBehaviour behaviours c = Unit {0}

-- how many arguments an operation has
abbrev pub arity : Operation → ℕ
arity prims.Add = 2
arity prims.Sub = 2
arity prims.Mul = 2
arity prims.Div = 2
arity prims.Rem = 2
arity prims.Less = 2
arity prims.Same = 2
arity prims.Not = 1
arity prims.Len = 1
arity prims.Item = 2
arity prims.Push = 2
arity prims.Cat = 2

-- how many expressions there are
abbrev pub count_of : Codes → ℕ
count_of none = 0
count_of (more c cs) = 1 + count_of cs

-- an operation has its number of arguments
abbrev pub HasArity : Code → Type 0
HasArity (apply p cs) = count_of cs ≡ arity p
HasArity c = Unit {0}

-- a seq has an item
abbrev pub HasItem : Code → Type 0
HasItem (seq cs) = 0 < count_of cs
HasItem c = Unit {0}

-- a fold binds two different names
abbrev pub HasTwoNames : Code → Type 0
HasTwoNames (fold l f s i b) = s ≢ i
HasTwoNames c = Unit {0}

-- a text is in bounds as a value
abbrev pub HasShortText : Code → Type 0
HasShortText (text t) = IsInBounds (val.text t)
HasShortText c = Unit {0}
