use Rattle.std.proofs.Common.{◌≡◌, ℕ, List, Bor, refl}
use Rattle.tau_value.specs.Val.{Val}
use Rattle.tau_tree.specs.Code.{if_else, fold, new}
use Rattle.tau_tree.specs.Expr.{code_of}
use Rattle.tau_tree.specs.declared.expressions.Expr.{Expr}
use Rattle.tau_tree.proofs.ExprLemmas.{code_of-If, code_of-Fold, code_of-New}
use Rattle.tau_eval.specs.Outcome.{begun}
use Rattle.tau_eval.specs.Meaning.{Setting, Scope, meaning}
use Rattle.tau_eval.specs.Frames.{comes}
use Rattle.tau_eval.specs.declared.frames.Round.{Round}
use Rattle.tau_eval.specs.declared.frames.Frame.TheVariants as frames
use Rattle.tau_eval.specs.declared.frames.Progress.{Progress}
use Rattle.tau_eval.specs.declared.frames.Progress.TheVariants.{Part}
use Rattle.tau_eval.proofs.openings.open.Goals as goal

opened_if : (e : Expr) (p : Progress) (test one two : Bor Expr) (s : Setting) (env : Scope) (n : ℕ) (rs : List Val) → code_of e ≡ if_else (code_of test.now) (code_of one.now) (code_of two.now) → p ≡ Part (frames.Choose one two) test → meaning (code_of e) s env n rs ≡ begun n (λ m. comes p s env m rs)
opened_if e p test one two s env n rs is made = rw (is, made) refl

opened_fold : (e : Expr) (p : Progress) (items first : Bor Expr) (round : Round) (s : Setting) (env : Scope) (n : ℕ) (rs : List Val) → code_of e ≡ fold (code_of items.now) (code_of first.now) round.sum.now round.item.now (code_of round.body.now) → p ≡ Part (frames.First first round) items → meaning (code_of e) s env n rs ≡ begun n (λ m. comes p s env m rs)
opened_fold e p items first round s env n rs is made = rw (is, made) refl

opened_new : (e : Expr) (p : Progress) (b : ℕ) (node state : Bor Expr) (s : Setting) (env : Scope) (n : ℕ) (rs : List Val) → code_of e ≡ new b (code_of node.now) (code_of state.now) → p ≡ Part (frames.Node b state) node → meaning (code_of e) s env n rs ≡ begun n (λ m. comes p s env m rs)
opened_new e p b node state s env n rs is made = rw (is, made) refl

pub returns-in-If-clause-value : goal.returns-in-If-clause-value
returns-in-If-clause-value c = λ n rs. opened_if c.args.expr.now c.part-in-If.result c.deref-in-If-3.result c.deref-in-If.result c.deref-in-If-2.result _ _ n rs (cc (code_of-If c.in-If.test c.in-If.yes c.in-If.no)) c.part-in-If.ensures

pub returns-in-Fold-clause-value : goal.returns-in-Fold-clause-value
returns-in-Fold-clause-value c = λ n rs. opened_fold c.args.expr.now c.part-in-Fold.result c.deref-in-Fold-3.result c.deref-in-Fold-2.result _ _ _ n rs (cc (code_of-Fold c.in-Fold.list c.in-Fold.first c.in-Fold.sum c.in-Fold.item c.in-Fold.body)) c.part-in-Fold.ensures

pub returns-in-New-clause-value : goal.returns-in-New-clause-value
returns-in-New-clause-value c = λ n rs. opened_new c.args.expr.now c.part-in-New.result c.in-New.behaviour c.deref-in-New-2.result c.deref-in-New.result _ _ n rs (cc (code_of-New c.in-New.behaviour c.in-New.node c.in-New.state)) c.part-in-New.ensures
