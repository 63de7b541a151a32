-- The faults of words.
use Rattle.std.proofs.Common.{◌≡◌, ℕ, ◌+◌, Bool, true, false, cond, not, ◌||◌, ltb, List, [], ◌∷◌, length, Option, Some, None, option_map, is_some, refl, sym, ap, ◌∙◌, arith}
use Rattle.std.specs.List.{list_any, position_or_len}
use Rattle.std.specs.Str.{bytes_eq}
use Rattle.std.proofs.lemmas.Bool.{lt-ltb}
use Rattle.std.proofs.lemmas.Bool.Decides.{nat_tests}
use Rattle.tau_value.specs.Names.{is_name, place_of}
use Rattle.tau_forms.specs.declared.wanted.FaultKind.{FaultKind}
use Rattle.tau_forms.specs.declared.wanted.FaultKind.TheVariants as kinds
use Rattle.tau_forms.specs.Faults.{Fault, shape, unknown, twice, unless, is_constant, word_fault}
use Rattle.tau_forms.specs.Roles.{known, fresh, expression}
use Rattle.tau_forms.specs.Tops.{has}
use Rattle.tau_forms.specs.Inner.Wanted.{fault_in}

one_more : (n m : ℕ) → ltb (1 + n) (m + 1) ≡ ltb n m
one_more n m = grind (arith, nat_tests)

found_if : (b : Bool) (n m : ℕ) (any : Bool) → ltb n m ≡ any → ltb (cond (not b) (1 + n) 0) (m + 1) ≡ (b || any)
found_if true n m any e = lt-ltb 0 (m + 1) (omega arith)
found_if false n m any e = one_more n m ∙ e

found_lt : {X : Type 0} (p : X → Bool) (xs : List X) → ltb (position_or_len p xs) (length xs) ≡ list_any p xs
found_lt p [] = refl
found_lt p (x ∷ xs) =
    let rest = found_lt p xs in
    let more : length (x ∷ xs) ≡ length xs + 1 = omega arith in
    ap (ltb (position_or_len p (x ∷ xs))) more ∙ found_if (p x) (position_or_len p xs) (length xs) (list_any p xs) rest

some_if : (b : Bool) (n : ℕ) → is_some (cond b (Some n) None) ≡ b
some_if true n = refl
some_if false n = refl

-- a word has a place among words exactly if it is one of them
pub placed : (names : List (List ℕ)) (w : List ℕ) → is_some (place_of names w) ≡ has names w
placed names w =
    let n = position_or_len (bytes_eq w) names in
    some_if (ltb n (length names)) n ∙ found_lt (bytes_eq w) names

named : (a b : Bool) (k : FaultKind) → option_map fault_in (cond a (cond b None (Some k)) (Some kinds.Shape)) ≡ cond a (unless b (fault_in k)) (Some shape)
named true true k = refl
named true false k = refl
named false b k = refl

unless-not : (b h : Bool) (f : Fault) → h ≡ not b → unless b f ≡ cond h (Some f) None
unless-not true true f e = cc
unless-not true false f e = refl
unless-not false true f e = refl
unless-not false false f e = cc

pub fault_of_known : (names : List (List ℕ)) (w : List ℕ) (place : Option ℕ) (b : Bool) (r : Option FaultKind) → place ≡ place_of names w → b ≡ is_some place → r ≡ cond (is_name w) (cond b None (Some kinds.Unknown)) (Some kinds.Shape) → option_map fault_in r ≡ word_fault (known names) w
fault_of_known names w place b r p e f =
    ap (option_map fault_in) f ∙ named (is_name w) b kinds.Unknown ∙ ap (λ h. cond (is_name w) (unless h unknown) (Some shape)) (e ∙ ap is_some p ∙ placed names w)

pub fault_of_fresh : (names : List (List ℕ)) (w : List ℕ) (place : Option ℕ) (b : Bool) (r : Option FaultKind) → place ≡ place_of names w → is_some place ≡ not b → r ≡ cond (is_name w) (cond b None (Some kinds.Twice)) (Some kinds.Shape) → option_map fault_in r ≡ word_fault (fresh names) w
fault_of_fresh names w place b r p e f =
    let there : has names w ≡ not b = sym (placed names w) ∙ sym (ap is_some p) ∙ e in
    ap (option_map fault_in) f ∙ named (is_name w) b kinds.Twice ∙ ap (λ o. cond (is_name w) o (Some shape)) (unless-not b (has names w) twice there)

pub fault_of_variable : (scope : List (List ℕ)) (w : List ℕ) (b c : Bool) (r : Option FaultKind) → b ≡ has scope w → c ≡ is_constant w → c ≡ false → r ≡ cond (is_name w) (cond b None (Some kinds.Unknown)) (Some kinds.Shape) → option_map fault_in r ≡ word_fault (expression scope) w
fault_of_variable scope w b c r e d z f =
    ap (option_map fault_in) f ∙ named (is_name w) b kinds.Unknown ∙ ap (λ h. cond (is_name w) (unless h unknown) (Some shape)) e ∙ sym (ap (λ k. cond k None (cond (is_name w) (unless (has scope w) unknown) (Some shape))) (sym d ∙ z))
