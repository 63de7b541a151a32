-- What each expression stands for, part by part.
use Rattle.std.proofs.Common.{◌≡◌, ℕ, ℤ, Bool, List, sym, ap, ◌∙◌}
use Rattle.std.specs.declared.alloc.Global.{Global}
use Rattle.std.specs.declared.boxed.Box.{Box}
use Rattle.tau_tree.specs.Code.{Code, unit, truth, int, text, msg, own, var, start, list, let_in, if_else, seq, fold, apply, get, set, send, new, stabilize, checkpoint, rollback, dependent, inside}
use Rattle.tau_tree.specs.Expr.{code_of, codes_of, code_step, codes_step}
use Rattle.tau_tree.specs.declared.expressions.Operation.{Operation}
use Rattle.tau_tree.specs.declared.expressions.Expr.{Expr}
use Rattle.tau_tree.specs.declared.expressions.Exprs.{Exprs}
use Rattle.tau_tree.specs.declared.expressions.Expr.TheVariants as exprs
use Rattle.tau_tree.specs.declared.expressions.Expr.TheOpen.{Expr-F}
use Rattle.tau_tree.specs.declared.expressions.Expr.TheViews.{roll-Expr}
use Rattle.tau_tree.specs.declared.expressions.Expr.TheFolds.{fold-Exprs, map-Expr, fold-roll-Expr, fold_out-Exprs}

-- one expression, whose parts are expressions
abbrev rolled : (x : Expr-F Expr Exprs) → code_of (roll-Expr x) ≡ code_step (map-Expr Expr Exprs Code (List Code) code_of (fold-Exprs Code (List Code) code_step codes_step) x)
rolled x = fold-roll-Expr Code (List Code) code_step codes_step x

held : (es : Exprs) → fold-Exprs Code (List Code) code_step codes_step es ≡ codes_of es
held es = fold_out-Exprs Code (List Code) code_step codes_step es

pub code_of-Unit : code_of exprs.Unit ≡ unit
code_of-Unit = ap code_of (sym exprs.rolls-Unit) ∙ rolled Expr-F.Unit

pub code_of-Truth : (b : Bool) → code_of (exprs.Truth b) ≡ truth b
code_of-Truth b = ap code_of (sym (exprs.rolls-Truth b)) ∙ rolled (Expr-F.Truth b)

pub code_of-Int : (z : ℤ) → code_of (exprs.Int z) ≡ int z
code_of-Int z = ap code_of (sym (exprs.rolls-Int z)) ∙ rolled (Expr-F.Int z)

pub code_of-Text : (t : List ℕ) → code_of (exprs.Text t) ≡ text t
code_of-Text t = ap code_of (sym (exprs.rolls-Text t)) ∙ rolled (Expr-F.Text t)

pub code_of-Msg : code_of exprs.Msg ≡ msg
code_of-Msg = ap code_of (sym exprs.rolls-Msg) ∙ rolled Expr-F.Msg

pub code_of-Own : code_of exprs.Own ≡ own
code_of-Own = ap code_of (sym exprs.rolls-Own) ∙ rolled Expr-F.Own

pub code_of-Var : (x : List ℕ) → code_of (exprs.Var x) ≡ var x
code_of-Var x = ap code_of (sym (exprs.rolls-Var x)) ∙ rolled (Expr-F.Var x)

pub code_of-Start : (n : ℕ) → code_of (exprs.Start n) ≡ start n
code_of-Start n = ap code_of (sym (exprs.rolls-Start n)) ∙ rolled (Expr-F.Start n)

pub code_of-List : (es : Exprs) → code_of (exprs.List es) ≡ list (inside (codes_of es))
code_of-List es =
    ap code_of (sym (exprs.rolls-List es)) ∙ rolled (Expr-F.List es) ∙ ap (λ cs. list (inside cs)) (held es)

pub code_of-Let : (x : List ℕ) (v b : Box Expr Global) → code_of (exprs.Let x v b) ≡ let_in x (code_of v.value) (code_of b.value)
code_of-Let x v b = ap code_of (sym (exprs.rolls-Let x v b)) ∙ rolled (Expr-F.Let x v b)

pub code_of-If : (t y n : Box Expr Global) → code_of (exprs.If t y n) ≡ if_else (code_of t.value) (code_of y.value) (code_of n.value)
code_of-If t y n = ap code_of (sym (exprs.rolls-If t y n)) ∙ rolled (Expr-F.If t y n)

pub code_of-Seq : (es : Exprs) → code_of (exprs.Seq es) ≡ seq (inside (codes_of es))
code_of-Seq es =
    ap code_of (sym (exprs.rolls-Seq es)) ∙ rolled (Expr-F.Seq es) ∙ ap (λ cs. seq (inside cs)) (held es)

pub code_of-Fold : (l f : Box Expr Global) (s i : List ℕ) (b : Box Expr Global) → code_of (exprs.Fold l f s i b) ≡ fold (code_of l.value) (code_of f.value) s i (code_of b.value)
code_of-Fold l f s i b = ap code_of (sym (exprs.rolls-Fold l f s i b)) ∙ rolled (Expr-F.Fold l f s i b)

pub code_of-Apply : (p : Operation) (es : Exprs) → code_of (exprs.Apply p es) ≡ apply p (inside (codes_of es))
code_of-Apply p es =
    ap code_of (sym (exprs.rolls-Apply p es)) ∙ rolled (Expr-F.Apply p es) ∙ ap (λ cs. apply p (inside cs)) (held es)

pub code_of-Get : code_of exprs.Get ≡ get
code_of-Get = ap code_of (sym exprs.rolls-Get) ∙ rolled Expr-F.Get

pub code_of-Set : (v : Box Expr Global) → code_of (exprs.Set v) ≡ set (code_of v.value)
code_of-Set v = ap code_of (sym (exprs.rolls-Set v)) ∙ rolled (Expr-F.Set v)

pub code_of-Send : (t v : Box Expr Global) → code_of (exprs.Send t v) ≡ send (code_of t.value) (code_of v.value)
code_of-Send t v = ap code_of (sym (exprs.rolls-Send t v)) ∙ rolled (Expr-F.Send t v)

pub code_of-New : (b : ℕ) (n s : Box Expr Global) → code_of (exprs.New b n s) ≡ new b (code_of n.value) (code_of s.value)
code_of-New b n s = ap code_of (sym (exprs.rolls-New b n s)) ∙ rolled (Expr-F.New b n s)

pub code_of-Stabilize : code_of exprs.Stabilize ≡ stabilize
code_of-Stabilize = ap code_of (sym exprs.rolls-Stabilize) ∙ rolled Expr-F.Stabilize

pub code_of-Checkpoint : code_of exprs.Checkpoint ≡ checkpoint
code_of-Checkpoint = ap code_of (sym exprs.rolls-Checkpoint) ∙ rolled Expr-F.Checkpoint

pub code_of-Rollback : code_of exprs.Rollback ≡ rollback
code_of-Rollback = ap code_of (sym exprs.rolls-Rollback) ∙ rolled Expr-F.Rollback

pub code_of-Dependent : code_of exprs.Dependent ≡ dependent
code_of-Dependent = ap code_of (sym exprs.rolls-Dependent) ∙ rolled Expr-F.Dependent

pub ruleset codes = (
  code_of-Unit,
  code_of-Truth,
  code_of-Int,
  code_of-Text,
  code_of-Msg,
  code_of-Own,
  code_of-Var,
  code_of-Start,
  code_of-List,
  code_of-Let,
  code_of-If,
  code_of-Seq,
  code_of-Fold,
  code_of-Apply,
  code_of-Get,
  code_of-Set,
  code_of-Send,
  code_of-New,
  code_of-Stabilize,
  code_of-Checkpoint,
  code_of-Rollback,
  code_of-Dependent,
)
