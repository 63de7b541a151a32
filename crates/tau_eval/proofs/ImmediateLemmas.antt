-- Expressions whose evaluation needs no frame: what they come to.
use Rattle.std.proofs.Common.{◌≡◌, ℕ, ◌+◌, ◌<◌, ◌≤◌, Bool, cond, List, drop, slice_get, Option, Some, None, IfSome, sym, ap, ◌∙◌, subst, arith}
use Rattle.std.proofs.lemmas.Bool.{lt-ltb}
use Rattle.tau_value.specs.Val.{Val, inside}
use Rattle.tau_tree.specs.Code.{Code, apply, none, more}
use Rattle.tau_tree.specs.declared.expressions.Operation.{Operation}
use Rattle.tau_eval.specs.Operations.{Answer, of_two}
use Rattle.tau_eval.specs.Eff as eff
use Rattle.tau_eval.specs.Outcome.{Outcome, After, stops, and_then, begun, gives, finished}
use Rattle.tau_eval.specs.Meaning.{Setting, Scope, meaning, for_each}
use Rattle.tau_tree.specs.Expr.{code_of}
use Rattle.tau_eval.specs.Frames.{round_of, scope_in}
use Rattle.tau_eval.specs.declared.frames.Round.{Round}
use Rattle.tau_eval.proofs.MachineLemmas.{dropped_at}
use Rattle.tau_eval.specs.Immediates.{Reads, Finishes, FinishesWith, Gives}

pub begun-within : (n : ℕ) (f : ℕ → Outcome) → n < 100000 → begun n f ≡ f (n + 1)
begun-within n f lt = ap (λ (b : Bool). cond b (f (n + 1)) (stops (eff.trap 6))) (lt-ltb n 100000 lt)

-- the value of an expression without parts goes on
read_on : (c : Code) (s : Setting) (env : Scope) (v : Val) (k : Val → After) (n : ℕ) (rs : List Val) → Reads c s env v → n < 100000 → and_then (meaning c s env n rs) k ≡ k v (n + 1) rs
read_on c s env v k n rs reads lt =
    ap (λ (o : Outcome). and_then o k) (reads n rs ∙ begun-within n (λ m. gives v m rs) lt)

pub finishes_with : (p : Operation) (c : Code) (s : Setting) (env : Scope) (v w : Val) (a : Answer) → Reads c s env w → a ≡ of_two p v w → FinishesWith p v c s env a
finishes_with p c s env v w a reads is = λ n rs within.
    let lt : n < 100000 = omega arith in
    read_on c s env w (λ u. finished (of_two p v u)) n rs reads lt ∙ ap (λ (b : Answer). finished b (n + 1) rs) (sym is)

pub finishes_two : (p : Operation) (c d : Code) (s : Setting) (env : Scope) (v w : Val) (a : Answer) → Reads c s env v → Reads d s env w → a ≡ of_two p v w → Finishes (apply p (more c (more d none))) s env 3 a
finishes_two p c d s env v w a one two is = λ n rs within.
    let first : n < 100000 = omega arith in
    let second : n + 1 < 100000 = omega arith in
    let third : n + 1 + 1 < 100000 = omega arith in
    let all : n + 1 + 1 + 1 ≡ n + 3 = omega arith in
    let other : Val → After = λ u k ss. and_then (meaning d s env k ss) (λ x. finished (of_two p u x)) in
    begun-within n (λ m. and_then (meaning c s env m rs) other) first ∙ read_on c s env v other (n + 1) rs one second ∙ read_on d s env w (λ x. finished (of_two p v x)) (n + 1 + 1) rs two third ∙ ap (λ (b : Answer). finished b (n + 1 + 1 + 1) rs) (sym is) ∙ ap (λ (k : ℕ). finished a k rs) all

-- a round of a fold whose value is at hand
pub round_given : (list : List Val) (k : ℕ) (a b v : Val) (r : Round) (s : Setting) (env : Scope) (n spent : ℕ) (rs : List Val) → slice_get list k ≡ Some b → Gives (code_of r.body.now) s (scope_in r env a b) spent v → n + spent ≤ 100000 → for_each (inside (drop k list)) a (round_of r s env) n rs ≡ for_each (inside (drop (k + 1) list)) v (round_of r s env) (n + spent) rs
round_given list k a b v r s env n spent rs item given within =
    ap (λ (vs : List Val). for_each (inside vs) a (round_of r s env) n rs) (dropped_at list k b item) ∙ ap (λ (o : Outcome). and_then o (λ w m ss. for_each (inside (drop (k + 1) list)) w (round_of r s env) m ss)) (given n rs within)

-- a clause on the value of an option, where it is known which one it is, and where another one follows from it
pub took : {A : Type 0} (o : Option A) (a : A) (P : A → Type 0) → o ≡ Some a → IfSome o P → P a
took o a P is h = let h' : IfSome (Some a) P = subst (λ x. IfSome x P) is h in h'

pub some_each : {A : Type 0} (o : Option A) (P Q : A → Type 0) → ((a : A) → P a → Q a) → IfSome o P → IfSome o Q
some_each None P Q f h = h
some_each (Some a) P Q f h = f a h
