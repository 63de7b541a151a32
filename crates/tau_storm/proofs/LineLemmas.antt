-- The lines that tell a storm, part by part.
use Rattle.std.proofs.Common.{◌≡◌, ℕ, ◌+◌, ◌<◌, List, [], ◌∷◌, ◌++◌, length, take, length-take-le, get_or, Some, append-nil, append_assoc, refl, sym, ap, ◌∙◌, arith}
use Rattle.std.specs.Prelude.{slice_get}
use Rattle.std.proofs.lemmas.List.{take_more}
use Rattle.std.proofs.lemmas.Option.{slice_get_within, slice_get-get_or}
use Rattle.tau_trace.proofs.Lists.{same_some}
use Rattle.tau_sexpr.specs.Tree.{Tree, headed, inside}
use Rattle.tau_sexpr.specs.Printing.{print_of, print_rest, printed}
use Rattle.tau_storm.specs.declared.outcomes.Outcome.{Outcome}
use Rattle.tau_storm.specs.Lines.{outcome_form, outcome_lines}

-- an outcome's two parts
abbrev pub lines_at : ℕ → Outcome → List ℕ
lines_at n o = printed (outcome_form n o ∷ []) ++ o.lines

lines_push : (n : ℕ) (os : List Outcome) (o : Outcome) → outcome_lines n (os ++ o ∷ []) ≡ outcome_lines n os ++ lines_at (n + length os) o
lines_push n [] o = append-nil (lines_at n o) ∙ ap (λ (k : ℕ). lines_at k o) (at_start n)
  where
    at_start : (n : ℕ) → n ≡ n + 0
    at_start n = omega arith
lines_push n (p ∷ os) o =
    let later = outcome_lines (n + 1) os in
    let same : n + 1 + length os ≡ n + length (p ∷ os) = omega arith in
    ap (λ (l : List ℕ). lines_at n p ++ l) (lines_push (n + 1) os o ∙ ap (λ (k : ℕ). later ++ lines_at k o) same) ∙ sym (append_assoc (lines_at n p) later (lines_at (n + length (p ∷ os)) o))

pub lines_more : (os : List Outcome) (k : ℕ) (o : Outcome) (front now new : List ℕ) → slice_get os k ≡ Some o → now ≡ front ++ outcome_lines 0 (take k os) → new ≡ now ++ printed (outcome_form k o ∷ []) ++ o.lines → new ≡ front ++ outcome_lines 0 (take (k + 1) os)
lines_more os k o front now new here before is =
    let lt : k < length os = slice_get_within os k o here in
    let at : get_or os k o ≡ o = same_some (sym (slice_get-get_or os k o lt) ∙ here) in
    let long : 0 + length (take k os) ≡ k = omega (arith, length-take-le k os (omega (arith, lt))) in
    let told = outcome_lines 0 (take k os) in
    let more : outcome_lines 0 (take (k + 1) os) ≡ told ++ lines_at k o = ap (outcome_lines 0) (take_more os k o lt ∙ ap (λ (x : Outcome). take k os ++ x ∷ []) at) ∙ lines_push 0 (take k os) o ∙ ap (λ (n : ℕ). told ++ lines_at n o) long in
    is ∙ append_assoc now (printed (outcome_form k o ∷ [])) o.lines ∙ ap (λ (l : List ℕ). l ++ lines_at k o) before ∙ append_assoc front told (lines_at k o) ∙ ap (λ (l : List ℕ). front ++ l) (sym more)

-- a part behind another
pub chain : (old now new a b : List ℕ) → now ≡ old ++ a → new ≡ now ++ b → new ≡ old ++ (a ++ b)
chain old now new a b first more = more ∙ ap (λ (l : List ℕ). l ++ b) first ∙ append_assoc old a b

-- the items of a list that follow another, and what stands behind them
abbrev pub rests : List Tree → List ℕ → List ℕ
rests [] end = end
rests (t ∷ ts) end = (32 ∷ print_of t) ++ rests ts end

rest_text : (ts : List Tree) (end : List ℕ) → print_rest (inside ts) ++ end ≡ rests ts end
rest_text [] end = refl
rest_text (t ∷ ts) end = ap (λ (l : List ℕ). 32 ∷ l) (append_assoc (print_of t) (print_rest (inside ts)) end ∙ ap (λ (l : List ℕ). print_of t ++ l) (rest_text ts end))

-- an item and what stands behind it
pub item_then : (t : Tree) (ts : List Tree) (end old now new : List ℕ) → now ≡ old ++ 32 ∷ print_of t → new ≡ now ++ rests ts end → new ≡ old ++ rests (t ∷ ts) end
item_then t ts end old now new first more = chain old now new (32 ∷ print_of t) (rests ts end) first more

-- the line of a list that begins with a word
headed_text : (name : List ℕ) (ts : List Tree) → printed (headed name ts ∷ []) ≡ 40 ∷ (name ++ rests ts (41 ∷ 10 ∷ []))
headed_text name ts =
    let later = print_rest (inside ts) in
    ap (λ (l : List ℕ). 40 ∷ l) (append_assoc (name ++ later) (41 ∷ []) (10 ∷ []) ∙ append_assoc name later (41 ∷ 10 ∷ []) ∙ ap (λ (l : List ℕ). name ++ l) (rest_text ts (41 ∷ 10 ∷ [])))

-- that line behind a text: first the word, then what stands behind it
pub headed_then : (name : List ℕ) (ts : List Tree) (old now new : List ℕ) → now ≡ old ++ 40 ∷ name → new ≡ now ++ rests ts (41 ∷ 10 ∷ []) → new ≡ old ++ printed (headed name ts ∷ [])
headed_then name ts old now new first more = chain old now new (40 ∷ name) (rests ts (41 ∷ 10 ∷ [])) first more ∙ ap (λ (l : List ℕ). old ++ l) (sym (headed_text name ts))
