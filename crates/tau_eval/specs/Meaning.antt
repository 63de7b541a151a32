-- The meaning of behaviours: which effect comes next in a turn (docs/language.md).
use Rattle.std.specs.Prelude.{ℕ, nat_lt, ℤ, pos, negsuc, if◌then◌else◌, List, [], ◌∷◌, ◌++◌, Option, Some, None, unwrap_or}
use Rattle.std.specs.Option.{option_or}
use Rattle.std.specs.Str.{bytes_eq}
use Rattle.tau_value.specs.Val as val
use Rattle.tau_value.specs.Val.{Val, Vals}
use Rattle.tau_tree.specs.declared.expressions.Operation.{Operation}
use Rattle.tau_tree.specs.Code.{Code, unit, truth, int, text, msg, own, var, start, list, let_in, if_else, seq, fold, apply, get, set, send, new, stabilize, checkpoint, rollback, dependent, Codes, none, more}
use Rattle.tau_eval.specs.Eff as eff
use Rattle.tau_eval.specs.Eff.{Eff}
use Rattle.tau_eval.specs.Operations.{bounded, of_one, of_two}
use Rattle.tau_eval.specs.Outcome.{Outcome, After, gives, stops, and_then, begun, finished, asks, effect_of}

-- what a turn is evaluated with: how many nodes there are, the own number and the message
pub record Setting : Type 0 where
  pub nodes : ℕ
  pub own : ℕ
  pub message : Val

-- the variables that are bound around an expression, with their values, the nearest last
abbrev pub Scope : Type 0
Scope = List (List ℕ × Val)

-- the value of the nearest variable with a name
abbrev pub nearest : List ℕ → Scope → Option Val
nearest x [] = None
nearest x (b ∷ scope) = option_or (nearest x scope) (if bytes_eq b.0 x then Some b.1 else None)

-- the branch of an if that a truth takes; trap 1 for another kind
abbrev pub chooses : Val → After → After → After
chooses (val.truth b) on_true on_false n rs = if b then on_true n rs else on_false n rs
chooses v on_true on_false n rs = stops (eff.trap 1)

-- effect send to a name; trap 1 for another kind
abbrev pub sends : Val → Val → After
sends (val.name to) v n rs = asks (eff.send to v) n rs
sends w v n rs = stops (eff.trap 1)

-- the node of an integer, where there are so many nodes
abbrev pub node_at : ℕ → ℤ → Option ℕ
node_at nodes (pos k) = if nat_lt k nodes then Some k else None
node_at nodes (negsuc k) = None

-- effect new of a behaviour on a node; trap 8 where there is no such node
abbrev pub creates_on : Option ℕ → ℕ → Val → After
creates_on (Some node) b state n rs = asks (eff.new b node state) n rs
creates_on None b state n rs = stops (eff.trap 8)

-- the same on the node of an integer, where there are so many nodes; trap 1 for another kind
abbrev pub creates : ℕ → ℕ → Val → Val → After
creates nodes b (val.int z) state n rs = creates_on (node_at nodes z) b state n rs
creates nodes b w state n rs = stops (eff.trap 1)

-- the sum becomes, for each item in order, the value that the body gives for the sum and the item
abbrev pub for_each : Vals → Val → (Val → Val → After) → After
for_each val.none sum body n rs = gives sum n rs
for_each (val.more v vs) sum body n rs = and_then (body sum v n rs) (λ w k ss. for_each vs w body k ss)

-- the same over the items of a list; trap 1 for another kind
abbrev pub folds : Val → Val → (Val → Val → After) → After
folds (val.list vs) first body n rs = for_each vs first body n rs
folds v first body n rs = stops (eff.trap 1)

-- what comes of an expression in a scope, after a count of evaluations and with these replies left
abbrev mutual
  pub meaning : Code → Setting → Scope → After
  meaning unit s env n rs = begun n (λ m. gives val.unit m rs)
  meaning (truth b) s env n rs = begun n (λ m. gives (val.truth b) m rs)
  meaning (int z) s env n rs = begun n (λ m. gives (val.int z) m rs)
  meaning (text t) s env n rs = begun n (λ m. gives (val.text t) m rs)
  meaning msg s env n rs = begun n (λ m. gives s.message m rs)
  meaning own s env n rs = begun n (λ m. gives (val.name s.own) m rs)
  -- a variable that isn't bound, which no sound program has, is unit
  meaning (var x) s env n rs = begun n (λ m. gives (unwrap_or (nearest x env) val.unit) m rs)
  meaning (start k) s env n rs = begun n (λ m. gives (val.name k) m rs)
  meaning (list cs) s env n rs = begun n (λ m. items cs s env [] m rs)
  meaning (let_in x c body) s env n rs =
      begun n (λ m. and_then (meaning c s env m rs) (λ v k ss. meaning body s (env ++ (x, v) ∷ []) k ss))
  meaning (if_else c on_true on_false) s env n rs =
      begun n (λ m. and_then (meaning c s env m rs) (λ v. chooses v (meaning on_true s env) (meaning on_false s env)))
  -- a seq without items, which no sound program has, is unit
  meaning (seq cs) s env n rs = begun n (λ m. last cs s env val.unit m rs)
  meaning (fold l first sum item body) s env n rs =
      begun n (λ m. and_then (meaning l s env m rs) (λ v k ss. and_then (meaning first s env k ss) (λ w. folds v w (λ a b. meaning body s (env ++ (sum, a) ∷ (item, b) ∷ [])))))
  meaning (apply p cs) s env n rs = begun n (λ m. operation p cs s env m rs)
  meaning get s env n rs = begun n (λ m. asks eff.get m rs)
  meaning (set c) s env n rs = begun n (λ m. and_then (meaning c s env m rs) (λ v. asks (eff.set v)))
  meaning (send c d) s env n rs =
      begun n (λ m. and_then (meaning c s env m rs) (λ w k ss. and_then (meaning d s env k ss) (λ v. sends w v)))
  meaning (new b c d) s env n rs =
      begun n (λ m. and_then (meaning c s env m rs) (λ w k ss. and_then (meaning d s env k ss) (λ state. creates s.nodes b w state)))
  meaning stabilize s env n rs = begun n (λ m. asks eff.stabilize m rs)
  -- the turn ends with these two: they stop it whatever replies are left
  meaning checkpoint s env n rs = begun n (λ m. stops eff.checkpoint)
  meaning rollback s env n rs = begun n (λ m. stops eff.rollback)
  meaning dependent s env n rs = begun n (λ m. asks eff.ask m rs)

  -- an operation on the values of one or two expressions; trap 1 for another number, which no sound program has
  pub operation : Operation → Codes → Setting → Scope → After
  operation p (more c none) s env n rs = and_then (meaning c s env n rs) (λ v. finished (of_one p v))
  operation p (more c (more d none)) s env n rs =
      and_then (meaning c s env n rs) (λ v k ss. and_then (meaning d s env k ss) (λ w. finished (of_two p v w)))
  operation p cs s env n rs = stops (eff.trap 1)

  -- the list of these values and of those of the expressions
  pub items : Codes → Setting → Scope → List Val → After
  items none s env vs n rs = finished (bounded (val.list (val.inside vs))) n rs
  items (more c cs) s env vs n rs = and_then (meaning c s env n rs) (λ v. items cs s env (vs ++ v ∷ []))

  -- the value of the last expression, and this one where there is none
  pub last : Codes → Setting → Scope → Val → After
  last none s env v n rs = gives v n rs
  last (more c cs) s env v n rs = and_then (meaning c s env n rs) (λ w. last cs s env w)

-- the effect that comes next in a turn with these replies: the body is evaluated from its beginning with an empty scope
abbrev pub next : Code → Setting → List Val → Eff
next body s replies = effect_of (meaning body s [] 0 replies)
