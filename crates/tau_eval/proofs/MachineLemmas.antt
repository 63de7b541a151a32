-- Steps of a machine: what is pushed and cut back leaves what comes of it as it was.
use Rattle.std.proofs.Common.{◌≡◌, ℕ, zero, suc, ◌+◌, ◌-◌, List, [], ◌∷◌, ◌++◌, take, drop, length, slice_get, Some, Bor, refl, sym, ap, ◌∙◌, subst, arith}
use Rattle.tau_value.specs.Val as val
use Rattle.tau_value.specs.Val.{Val}
use Rattle.tau_eval.specs.Outcome.{Outcome, After, and_then, effect_of}
use Rattle.tau_eval.specs.Meaning.{Setting, Scope, for_each}
use Rattle.tau_eval.specs.Frames.{meaning_of, round_of, scope_under, made_of, unwound, whole}
use Rattle.tau_eval.specs.declared.frames.Round.{Round}
use Rattle.tau_eval.specs.declared.frames.Frame.{Frame}
use Rattle.tau_eval.specs.declared.frames.Frame.TheVariants.{Leave, Next}
use Rattle.tau_eval.proofs.FrameLemmas.{and_then_assoc, unwound-push}

pub front : (xs ys : Scope) → take (length xs) (xs ++ ys) ≡ xs
front [] ys = refl
front (x ∷ xs) ys = ap (λ zs. x ∷ zs) (front xs ys)

pub taken_twice : (h : ℕ) (xs : Scope) → take h (take h xs) ≡ take h xs
taken_twice zero xs = refl
taken_twice (suc h) [] = refl
taken_twice (suc h) (x ∷ xs) = ap (λ zs. x ∷ zs) (taken_twice h xs)

dropped : (xs : List Val) (k : ℕ) (v : Val) → slice_get xs k ≡ Some v → drop k xs ≡ v ∷ drop (suc k) xs
dropped [] k v e = cc
dropped (x ∷ xs) zero v e = ap (λ w. w ∷ xs) (let h : x ≡ v = cc in h)
dropped (x ∷ xs) (suc k) v e = dropped xs k v e

pub dropped_at : (xs : List Val) (k : ℕ) (v : Val) → slice_get xs k ≡ Some v → drop k xs ≡ v ∷ drop (k + 1) xs
dropped_at xs k v e = let more : suc k ≡ k + 1 = omega arith in dropped xs k v e ∙ ap (λ (n : ℕ). v ∷ drop n xs) more

ends : (fs : List Frame) (f : Frame) → Some f ≡ slice_get fs (length fs - 1) → (init : List Frame) × (fs ≡ init ++ f ∷ [])
ends [] f e = cc
ends (g ∷ []) f e = let h : g ≡ f = cc in ([], ap (λ x. x ∷ []) h)
ends (g ∷ h ∷ fs) f e =
    let one : length (g ∷ h ∷ fs) - 1 ≡ suc (length (h ∷ fs) - 1) = omega arith in
    let there : Some f ≡ slice_get (h ∷ fs) (length (h ∷ fs) - 1) = e ∙ ap (slice_get (g ∷ h ∷ fs)) one in
    let rest = ends (h ∷ fs) f there in (g ∷ rest.0, ap (λ (xs : List Frame). g ∷ xs) rest.1)

-- a last frame that goes on in the same scope makes the same
pub released : (fs : List Frame) (f : Frame) (s : Setting) (env cut : Scope) → Some f ≡ slice_get fs (length fs - 1) → scope_under f cut ≡ scope_under f env → unwound fs whole s cut ≡ unwound fs whole s env
released fs f s env cut is same =
    let end = ends fs f is in
    let at_end : unwound fs whole s ≡ (λ e v n rs. and_then (made_of f s (scope_under f e) v n rs) (unwound end.0 whole s (scope_under f e))) = ap (λ (gs : List Frame). unwound gs whole s) end.1 ∙ unwound-push end.0 f whole s in
    let made : Scope → Val → After = λ e v n rs. and_then (made_of f s e v n rs) (unwound end.0 whole s e) in
    ap (λ (k : Scope → Val → After). k cut) at_end ∙ ap made same ∙ sym (ap (λ (k : Scope → Val → After). k env) at_end)

-- a let leaves its variable behind
left_behind : (fs gs : List Frame) (s : Setting) (env bound : Scope) (h : ℕ) → gs ≡ fs ++ Leave h ∷ [] → take h bound ≡ env → unwound gs whole s bound ≡ unwound fs whole s env
left_behind fs gs s env bound h more cut =
    ap (λ (hs : List Frame). unwound hs whole s bound) more ∙ ap (λ (k : Scope → Val → After). k bound) (unwound-push fs (Leave h) whole s) ∙ ap (unwound fs whole s) cut

pub entered : (fs gs : List Frame) (s : Setting) (meant : Scope → Outcome) (env bound : Scope) (b : List ℕ × Val) (h : ℕ) → gs ≡ fs ++ Leave h ∷ [] → h ≡ length env → bound ≡ env ++ b ∷ [] → effect_of (and_then (meant (env ++ b ∷ [])) (unwound fs whole s env)) ≡ effect_of (and_then (meant bound) (unwound gs whole s bound))
entered fs gs s meant env bound b h more height is =
    let cut : take h bound ≡ env = ap (λ (n : ℕ). take n bound) height ∙ ap (take (length env)) is ∙ front env (b ∷ []) in
    ap (λ (e : Scope). effect_of (and_then (meant e) (unwound fs whole s env))) (sym is) ∙ ap (λ (k : Val → After). effect_of (and_then (meant bound) k)) (sym (left_behind fs gs s env bound h more cut))

-- a round of a fold goes on with the next item
next_round : (fs gs : List Frame) (s : Setting) (env bound : Scope) (h : ℕ) (list : List Val) (k : ℕ) (r : Round) → gs ≡ fs ++ Next h list k r ∷ [] → take h bound ≡ env → unwound gs whole s bound ≡ (λ v n rs. and_then (for_each (val.inside (drop k list)) v (round_of r s env) n rs) (unwound fs whole s env))
next_round fs gs s env bound h list k r more cut =
    let made : Scope → Val → After = λ e v n rs. and_then (for_each (val.inside (drop k list)) v (round_of r s e) n rs) (unwound fs whole s e) in
    ap (λ (hs : List Frame). unwound hs whole s bound) more ∙ ap (λ (u : Scope → Val → After). u bound) (unwound-push fs (Next h list k r) whole s) ∙ ap made cut

pub looped : (fs gs : List Frame) (s : Setting) (env bound : Scope) (h : ℕ) (list : List Val) (k : ℕ) (r : Round) (a b : Val) (n : ℕ) (rs : List Val) → gs ≡ fs ++ Next h list (k + 1) r ∷ [] → h ≡ length env → bound ≡ env ++ (r.sum.now, a) ∷ (r.item.now, b) ∷ [] → slice_get list k ≡ Some b → effect_of (and_then (for_each (val.inside (drop k list)) a (round_of r s env) n rs) (unwound fs whole s env)) ≡ effect_of (and_then (meaning_of r.body.now s bound n rs) (unwound gs whole s bound))
looped fs gs s env bound h list k r a b n rs more height is item =
    let both : Scope = (r.sum.now, a) ∷ (r.item.now, b) ∷ [] in
    let cut : take h bound ≡ env = ap (λ (m : ℕ). take m bound) height ∙ ap (take (length env)) is ∙ front env both in
    let first : Outcome = meaning_of r.body.now s (env ++ both) n rs in
    let split : and_then (for_each (val.inside (drop k list)) a (round_of r s env) n rs) (unwound fs whole s env) ≡ and_then (and_then first (λ w m ss. for_each (val.inside (drop (k + 1) list)) w (round_of r s env) m ss)) (unwound fs whole s env) = ap (λ (vs : List Val). and_then (for_each (val.inside vs) a (round_of r s env) n rs) (unwound fs whole s env)) (dropped_at list k b item) in
    ap effect_of (split ∙ and_then_assoc first (λ w m ss. for_each (val.inside (drop (k + 1) list)) w (round_of r s env) m ss) (unwound fs whole s env)) ∙ ap (λ (u : Val → After). effect_of (and_then first u)) (sym (next_round fs gs s env bound h list (k + 1) r more cut)) ∙ ap (λ (e : Scope). effect_of (and_then (meaning_of r.body.now s e n rs) (unwound gs whole s bound))) (sym is)

pub cut_by_leave : (f : Frame) (h : ℕ) (env cut : Scope) → f ≡ Leave h → cut ≡ take h env → scope_under f cut ≡ scope_under f env
cut_by_leave f h env cut is e = rw (is, e) (taken_twice h env)

pub cut_by_next : (f : Frame) (h : ℕ) (list : List Val) (k : ℕ) (r : Round) (env cut : Scope) → f ≡ Next h list k r → cut ≡ take h env → scope_under f cut ≡ scope_under f env
cut_by_next f h list k r env cut is e = rw (is, e) (taken_twice h env)
