-- What the parts of a suspended evaluation stand for.
use Rattle.std.specs.Prelude.{◌≡◌, ℕ, ◌+◌, ◌-◌, ◌*◌, ◌<◌, if◌then◌else◌, List, [], ◌∷◌, ◌++◌, map, take, drop, length, Result, Ok, Err}
use Rattle.tau_value.specs.Val as val
use Rattle.tau_value.specs.Val.{Val}
use Rattle.tau_value.specs.Value.{val_of}
use Rattle.tau_tree.specs.Code as code
use Rattle.tau_tree.specs.Expr.{code_of}
use Rattle.tau_tree.specs.declared.expressions.Expr.{Expr}
use Rattle.tau_eval.specs.Eff as eff
use Rattle.tau_eval.specs.Eff.{Eff, has_reply}
use Rattle.tau_eval.specs.Effect.{eff_of}
use Rattle.tau_eval.specs.Operations.{of_one, of_two}
use Rattle.tau_eval.specs.Outcome.{Outcome, After, gives, stops, and_then, finished, asks, effect_of}
use Rattle.tau_eval.specs.Meaning.{Setting, Scope, meaning, items, last, chooses, sends, creates, folds, for_each}
use Rattle.tau_eval.specs.declared.frames.Round.{Round}
use Rattle.tau_eval.specs.declared.frames.Frame.{Frame}
use Rattle.tau_eval.specs.declared.frames.Frame.TheVariants as frames
use Rattle.tau_eval.specs.declared.frames.Progress.{Progress}
use Rattle.tau_eval.specs.declared.frames.Progress.TheVariants as progress

-- the meaning of an expression of the program
abbrev pub meaning_of : Expr → Setting → Scope → After
meaning_of e = meaning (code_of e)

-- expressions of the program, as the parts of an expression
abbrev pub parts : List Expr → code.Codes
parts es = code.inside (map code_of es)

-- the scope of a fold's body, with the sum and an item
abbrev pub scope_in : Round → Scope → Val → Val → Scope
scope_in r env a b = env ++ (r.sum.now, a) ∷ (r.item.now, b) ∷ []

-- what a fold makes of the sum and an item
abbrev pub round_of : Round → Setting → Scope → Val → Val → After
round_of r s env a b = meaning_of r.body.now s (scope_in r env a b)

-- the scope in which a frame goes on: those that a let or a fold bound are left
abbrev pub scope_under : Frame → Scope → Scope
scope_under (frames.Leave height) env = take height env
scope_under (frames.Next height list next round) env = take height env
scope_under f env = env

-- what a frame makes of the value that it waits for
abbrev pub made_of : Frame → Setting → Scope → Val → After
made_of (frames.Bind name body) s env v = meaning_of body.now s (env ++ (name.now, v) ∷ [])
made_of (frames.Leave height) s env v = gives v
made_of (frames.Choose on_true on_false) s env v =
    chooses v (meaning_of on_true.now s env) (meaning_of on_false.now s env)
made_of (frames.Last rest) s env v = last (parts rest.now) s env v
made_of (frames.Gather values rest) s env v = items (parts rest.now) s env (values ++ v ∷ [])
made_of (frames.First first round) s env v = λ n rs.
    and_then (meaning_of first.now s env n rs) (λ w. folds v w (round_of round s env))
made_of (frames.Start list round) s env v = folds (val_of list) v (round_of round s env)
made_of (frames.Next height list next round) s env v = for_each (val.inside (drop next list)) v (round_of round s env)
made_of (frames.One prim) s env v = finished (of_one prim v)
made_of (frames.Left prim right) s env v = λ n rs.
    and_then (meaning_of right.now s env n rs) (λ w. finished (of_two prim v w))
made_of (frames.Right prim left) s env v = finished (of_two prim (val_of left) v)
made_of frames.State s env v = asks (eff.set v)
made_of (frames.To value) s env v = λ n rs. and_then (meaning_of value.now s env n rs) (λ w. sends v w)
made_of (frames.Sent to) s env v = sends (val_of to) v
made_of (frames.Node behaviour state) s env v = λ n rs.
    and_then (meaning_of state.now s env n rs) (λ w. creates s.nodes behaviour v w)
made_of (frames.Created behaviour node) s env v = creates s.nodes behaviour (val_of node) v

-- what the frames make of a value, the last frame first; each goes on with what the one before it makes
abbrev pub unwound : List Frame → (Scope → Val → After) → Setting → Scope → Val → After
unwound [] under s env v = under env v
unwound (f ∷ fs) under s env v =
    unwound fs (λ e w n rs. and_then (made_of f s (scope_under f e) w n rs) (under (scope_under f e))) s env v

-- the value at the end of all frames
abbrev pub whole : Scope → Val → After
whole env v = gives v

-- an effect that has a reply uses one; an effect that has none stops the evaluation
abbrev pub answers : Eff → After
answers e n rs = if has_reply e then asks e n rs else stops e

-- how an evaluation goes on
abbrev pub comes : Progress → Setting → Scope → After
comes (progress.Value v) s env = gives (val_of v)
comes (progress.Part frame part) s env = λ n rs. and_then (meaning_of part.now s env n rs) (made_of frame s env)
comes (progress.Whole expr) s env = meaning_of expr.now s env
comes (progress.Stop e) s env = answers (eff_of e)

-- a frame that goes on in the same scope
abbrev pub StaysIn : Progress → Type 0
StaysIn (progress.Part frame part) = (env : Scope) → scope_under frame env ≡ env
StaysIn p = Unit {0}
