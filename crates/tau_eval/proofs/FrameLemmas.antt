-- What frames make of a value, frame by frame.
use Rattle.std.proofs.Common.{◌≡◌, ℕ, List, [], ◌∷◌, ◌++◌, take, length, Bor, refl, sym, ap, ◌∙◌, subst}
use Rattle.tau_value.specs.Val.{Val}
use Rattle.tau_tree.specs.declared.expressions.Expr.{Expr}
use Rattle.tau_eval.specs.Outcome.{Outcome, After, gives, stops, and_then}
use Rattle.tau_eval.specs.Meaning.{Setting, Scope}
use Rattle.tau_eval.specs.Frames.{meaning_of, scope_under, made_of, unwound, whole, comes, StaysIn}
use Rattle.tau_eval.specs.declared.frames.Frame.{Frame}
use Rattle.tau_eval.specs.declared.frames.Progress.{Progress}
use Rattle.tau_eval.specs.declared.frames.Progress.TheVariants as progress

pub and_then_assoc : (o : Outcome) (f g : Val → After) → and_then (and_then o f) g ≡ and_then o (λ v n rs. and_then (f v n rs) g)
and_then_assoc (gives v n rs) f g = refl
and_then_assoc (stops e) f g = refl

-- the frame that was pushed last makes something of the value first
pub unwound-push : (fs : List Frame) (f : Frame) (under : Scope → Val → After) (s : Setting) → unwound (fs ++ f ∷ []) under s ≡ (λ env v n rs. and_then (made_of f s (scope_under f env) v n rs) (unwound fs under s (scope_under f env)))
unwound-push [] f under s = refl
unwound-push (g ∷ fs) f under s =
    unwound-push fs f (λ e w n rs. and_then (made_of g s (scope_under g e) w n rs) (under (scope_under g e))) s

-- a part is evaluated first, and a frame that stays in the scope goes on with its value
pub pushed : (fs : List Frame) (f : Frame) (s : Setting) (env : Scope) (o : Outcome) → scope_under f env ≡ env → and_then (and_then o (made_of f s env)) (unwound fs whole s env) ≡ and_then o (unwound (fs ++ f ∷ []) whole s env)
pushed fs f s env o stays =
    and_then_assoc o (made_of f s env) (unwound fs whole s env) ∙ ap (λ (e : Scope). and_then o (λ v n rs. and_then (made_of f s e v n rs) (unwound fs whole s e))) (sym stays) ∙ ap (λ (k : Scope → Val → After). and_then o (k env)) (sym (unwound-push fs f whole s))

stays_in : (p : Progress) (f : Frame) (e : Bor Expr) → p ≡ progress.Part f e → StaysIn p → (env : Scope) → scope_under f env ≡ env
stays_in p f e is stays = let h : StaysIn (progress.Part f e) = subst StaysIn is stays in h

pub followed : (fs gs : List Frame) (p : Progress) (f : Frame) (e : Bor Expr) (s : Setting) (env : Scope) (n : ℕ) (rs : List Val) → p ≡ progress.Part f e → StaysIn p → gs ≡ fs ++ f ∷ [] → and_then (comes p s env n rs) (unwound fs whole s env) ≡ and_then (meaning_of e.now s env n rs) (unwound gs whole s env)
followed fs gs p f e s env n rs is stays more =
    ap (λ (q : Progress). and_then (comes q s env n rs) (unwound fs whole s env)) is ∙ pushed fs f s env (meaning_of e.now s env n rs) (stays_in p f e is stays env) ∙ ap (λ (hs : List Frame). and_then (meaning_of e.now s env n rs) (unwound hs whole s env)) (sym more)

-- the last frame takes the value
pub popped : (fs gs : List Frame) (f : Frame) (s : Setting) (env : Scope) (v : Val) (n : ℕ) (rs : List Val) → fs ≡ gs ++ f ∷ [] → unwound fs whole s env v n rs ≡ and_then (made_of f s (scope_under f env) v n rs) (unwound gs whole s (scope_under f env))
popped fs gs f s env v n rs is =
    ap (λ (hs : List Frame). unwound hs whole s env v n rs) is ∙ ap (λ (k : Scope → Val → After). k env v n rs) (unwound-push gs f whole s)
