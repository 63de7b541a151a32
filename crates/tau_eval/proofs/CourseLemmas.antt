-- How a suspended turn goes on, reply by reply.
use Rattle.std.proofs.Common.{◌≡◌, ℕ, zero, suc, ◌+◌, ◌<◌, ◌≤◌, true, false, Bool, List, [], ◌∷◌, ◌++◌, length, map, drop, get_or, Bor, refl, sym, ap, ◌∙◌, arith, append_assoc, length-append}
use Rattle.std.proofs.lemmas.List.{length-map, drop-append-le}
use Rattle.tau_value.specs.Val.{Val}
use Rattle.tau_value.specs.Value.{val_of}
use Rattle.tau_value.specs.declared.shared.Value.{Value}
use Rattle.tau_tree.specs.Code.{Code}
use Rattle.tau_eval.specs.Eff.{Eff, has_reply}
use Rattle.tau_eval.specs.Outcome.{Outcome, After, gives, stops, and_then, asks, effect_of}
use Rattle.tau_tree.specs.Expr.{code_of}
use Rattle.tau_tree.specs.declared.expressions.Expr.{Expr}
use Rattle.tau_eval.specs.Meaning.{Setting, Scope, meaning, next}
use Rattle.tau_eval.specs.Machine.{running}
use Rattle.tau_eval.specs.declared.frames.Frame.{Frame}
use Rattle.tau_eval.specs.declared.machine.Machine.{Machine}
use Rattle.tau_eval.specs.declared.machine.Focus.TheVariants.{Eval}
use Rattle.tau_eval.specs.Frames.{answers, unwound, whole}
use Rattle.tau_eval.specs.Course.{Continues}

pub answers_reply : (e : Eff) (n : ℕ) (r : Val) (rs : List Val) → has_reply e ≡ true → answers e n (r ∷ rs) ≡ gives r n rs
answers_reply e n r rs h = rw h refl

pub answers_none : (e : Eff) (n : ℕ) → answers e n [] ≡ stops e
answers_none e n = by (has_reply e) refl where
  by : (b : Bool) → has_reply e ≡ b → answers e n [] ≡ stops e
  by true h = rw h refl
  by false h = rw h refl

pub answers_stop : (e : Eff) (n : ℕ) (rs : List Val) → has_reply e ≡ false → answers e n rs ≡ stops e
answers_stop e n rs h = rw h refl

next_unused : (vs : List Value) (k : ℕ) (v : Value) → k < length vs → v ≡ get_or vs k v → drop k (map val_of vs) ≡ val_of v ∷ drop (suc k) (map val_of vs)
next_unused [] k v lt is = absurd (omega arith)
next_unused (w ∷ vs) zero v lt is = ap (λ (u : Value). val_of u ∷ map val_of vs) (sym is)
next_unused (w ∷ vs) (suc k) v lt is = next_unused vs k v (omega arith) is

-- a reply is given in place of the effect that waits for it
pub replied : (body : Code) (s : Setting) (vs : List Value) (used : ℕ) (v : Value) (reply : Val) (e : Eff) (n : ℕ) (rest : Val → After) → Continues body s (map val_of vs) used (λ rs. and_then (answers e n rs) rest) → has_reply e ≡ true → used < length vs → v ≡ get_or vs used v → reply ≡ val_of v → Continues body s (map val_of vs) (used + 1) (λ rs. rest reply n rs)
replied body s vs used v reply e n rest c has lt is same = record {
  within = let all : length (map val_of vs) ≡ length vs = length-map vs val_of in omega arith;
  follows = λ rs. let more : suc used ≡ used + 1 = omega arith in
      let first : drop used (map val_of vs) ≡ val_of v ∷ drop (used + 1) (map val_of vs) = next_unused vs used v lt is ∙ ap (λ (k : ℕ). val_of v ∷ drop k (map val_of vs)) more in
      let given : and_then (answers e n (val_of v ∷ (drop (used + 1) (map val_of vs) ++ rs))) rest ≡ rest (val_of v) n (drop (used + 1) (map val_of vs) ++ rs) = ap (λ (o : Outcome). and_then o rest) (answers_reply e n (val_of v) (drop (used + 1) (map val_of vs) ++ rs) has) in
      c.follows rs ∙ ap (λ (xs : List Val). effect_of (and_then (answers e n (xs ++ rs)) rest)) first ∙ ap effect_of given ∙ ap (λ (r : Val). effect_of (rest r n (drop (used + 1) (map val_of vs) ++ rs))) (sym same);
}

none_left : (xs : List Val) (k : ℕ) → length xs ≤ k → drop k xs ≡ []
none_left [] zero h = refl
none_left [] (suc k) h = refl
none_left (x ∷ xs) zero h = absurd (omega arith)
none_left (x ∷ xs) (suc k) h = none_left xs k (omega arith)

append_none : (xs : List Val) → xs ++ [] ≡ xs
append_none [] = refl
append_none (x ∷ xs) = ap (λ ys. x ∷ ys) (append_none xs)

-- an effect that all replies have led to is the one that the meaning tells
pub tells : (body : Code) (s : Setting) (replies : List Val) (used : ℕ) (e : Eff) (n : ℕ) (rest : Val → After) → Continues body s replies used (λ rs. and_then (answers e n rs) rest) → (has_reply e ≡ true → length replies ≤ used) → e ≡ next body s replies
tells body s replies used e n rest c settled = by (has_reply e) refl where
  start : next body s replies ≡ effect_of (and_then (answers e n (drop used replies ++ [])) rest)
  start = ap (next body s) (sym (append_none replies)) ∙ c.follows []

  by : (b : Bool) → has_reply e ≡ b → e ≡ next body s replies
  by true h =
      let none : drop used replies ++ [] ≡ [] = append_none (drop used replies) ∙ none_left replies used (settled h) in
      sym (start ∙ ap (λ (xs : List Val). effect_of (and_then (answers e n xs) rest)) none ∙ ap (λ (o : Outcome). effect_of (and_then o rest)) (answers_none e n))
  by false h =
      sym (start ∙ ap (λ (o : Outcome). effect_of (and_then o rest)) (answers_stop e n (drop used replies ++ []) h))

-- a reply that is added is one of those to come
pub extended : (body : Code) (s : Setting) (replies more : List Val) (r : Val) (used : ℕ) (comes : List Val → Outcome) → Continues body s replies used comes → more ≡ replies ++ r ∷ [] → Continues body s more used comes
extended body s replies more r used comes c is = record {
  within = let longer : length more ≡ length replies + 1 = ap length is ∙ length-append replies (r ∷ []) in
      let before : used ≤ length replies = c.within in omega arith;
  follows = λ rs. let whole : more ++ rs ≡ replies ++ (r ∷ rs) = ap (λ (xs : List Val). xs ++ rs) is ∙ append_assoc replies (r ∷ []) rs in
      let left : drop used replies ++ (r ∷ rs) ≡ drop used more ++ rs = sym (ap (λ (xs : List Val). drop used xs ++ rs) is ∙ ap (λ (xs : List Val). xs ++ rs) (drop-append-le used replies (r ∷ []) c.within) ∙ append_assoc (drop used replies) (r ∷ []) rs) in
      ap (next body s) whole ∙ c.follows (r ∷ rs) ∙ ap (λ (xs : List Val). effect_of (comes xs)) left;
}

pub alone : (o : Outcome) → effect_of (and_then o (λ v n rs. gives v n rs)) ≡ effect_of o
alone (gives v n rs) = refl
alone (stops e) = refl

-- a machine that begins with a body, with none of the replies used
pub begins : (body : Code) (s : Setting) (replies : List Val) (used : ℕ) (e : Bor Expr) (m : Machine) → used ≡ 0 → code_of e.now ≡ body → m.frames.items ≡ [] → m.scope ≡ [] → m.count ≡ 0 → Continues body s replies used (running m s (Eval e))
begins body s replies used e m unused code frames scope count = record {
  within = omega arith;
  follows = λ rs. sym (alone (meaning body s [] 0 (replies ++ rs))) ∙ ap (λ (k : ℕ). effect_of (and_then (meaning body s [] 0 (drop k replies ++ rs)) (unwound [] whole s []))) (sym unused) ∙ ap (λ (c : Code). effect_of (and_then (meaning c s [] 0 (drop used replies ++ rs)) (unwound [] whole s []))) (sym code) ∙ ap (λ (n : ℕ). effect_of (and_then (meaning (code_of e.now) s [] n (drop used replies ++ rs)) (unwound [] whole s []))) (sym count) ∙ ap (λ (env : Scope). effect_of (and_then (meaning (code_of e.now) s env m.count (drop used replies ++ rs)) (unwound [] whole s env))) (sym scope) ∙ ap (λ (fs : List Frame). effect_of (and_then (meaning (code_of e.now) s m.scope m.count (drop used replies ++ rs)) (unwound fs whole s m.scope))) (sym frames);
}
