-- The plain data that an expression of the program stands for.
use Rattle.std.specs.Prelude.{List, map}
use Rattle.tau_tree.specs.Code.{Code, unit, truth, int, text, msg, own, var, start, list, let_in, if_else, seq, fold, apply, get, set, send, new, stabilize, checkpoint, rollback, dependent, inside}
use Rattle.tau_tree.specs.declared.expressions.Expr.{Expr}
use Rattle.tau_tree.specs.declared.expressions.Exprs.{Exprs}
use Rattle.tau_tree.specs.declared.expressions.Expr.TheOpen.{Expr-F, Exprs-F}
use Rattle.tau_tree.specs.declared.expressions.Expr.TheFolds.{fold-Expr}

-- one expression, whose parts are plain data already
abbrev pub code_step : Expr-F Code (List Code) → Code
code_step Expr-F.Unit = unit
code_step (Expr-F.Truth b) = truth b
code_step (Expr-F.Int z) = int z
code_step (Expr-F.Text t) = text t
code_step Expr-F.Msg = msg
code_step Expr-F.Own = own
code_step (Expr-F.Var x) = var x
code_step (Expr-F.Start n) = start n
code_step (Expr-F.List cs) = list (inside cs)
code_step (Expr-F.Let x v b) = let_in x v.value b.value
code_step (Expr-F.If t y n) = if_else t.value y.value n.value
code_step (Expr-F.Seq cs) = seq (inside cs)
code_step (Expr-F.Fold l f s i b) = fold l.value f.value s i b.value
code_step (Expr-F.Apply p cs) = apply p (inside cs)
code_step Expr-F.Get = get
code_step (Expr-F.Set v) = set v.value
code_step (Expr-F.Send t v) = send t.value v.value
code_step (Expr-F.New b n s) = new b n.value s.value
code_step Expr-F.Stabilize = stabilize
code_step Expr-F.Checkpoint = checkpoint
code_step Expr-F.Rollback = rollback
code_step Expr-F.Dependent = dependent

abbrev pub codes_step : Exprs-F Code (List Code) → List Code
codes_step es = es.items.items

-- the plain data of an expression
abbrev pub code_of : Expr → Code
code_of = fold-Expr Code (List Code) code_step codes_step

-- the plain data of a list of expressions
abbrev pub codes_of : Exprs → List Code
codes_of es = map code_of es.items.items
