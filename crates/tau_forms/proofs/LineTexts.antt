-- Texts of forms that are put one behind another.
use Rattle.std.proofs.Common.{◌≡◌, ℕ, ◌+◌, ◌<◌, List, [], ◌∷◌, ◌++◌, length, map, take, get_or, sym, ap, ◌∙◌, append_assoc, append-nil}
use Rattle.std.proofs.lemmas.List.{map_more}
use Rattle.tau_sexpr.specs.Tree.{Tree, inside}
use Rattle.tau_sexpr.specs.Printing.{print_of, print_rest, printed, HasBytes, AllHaveBytes}
use Rattle.tau_sexpr.proofs.PrintLemmas.{printed-append}

-- one item more of a list
pub rest-more : (us : List Tree) (t : Tree) → print_rest (inside (us ++ t ∷ [])) ≡ print_rest (inside us) ++ 32 ∷ print_of t
rest-more [] t = ap (λ cs. 32 ∷ cs) (append-nil (print_of t))
rest-more (u ∷ us) t = ap (λ cs. 32 ∷ (print_of u ++ cs)) (rest-more us t) ∙ ap (λ cs. 32 ∷ cs) (sym (append_assoc (print_of u) (print_rest (inside us)) (32 ∷ print_of t)))

pub bytes-more : (us : List Tree) (t : Tree) → AllHaveBytes (inside us) → HasBytes t → AllHaveBytes (inside (us ++ t ∷ []))
bytes-more [] t h g = (g, tt)
bytes-more (u ∷ us) t h g = (h.0, bytes-more us t h.1 g)

-- more lines
pub lines_both : (xs ys : List Tree) (old now new : List ℕ) → now ≡ old ++ printed xs → new ≡ now ++ printed ys → new ≡ old ++ printed (xs ++ ys)
lines_both xs ys old now new before line =
    line ∙ ap (λ bs. bs ++ printed ys) before ∙ append_assoc old (printed xs) (printed ys) ∙ ap (λ bs. old ++ bs) (sym (printed-append xs ys))

pub lines_more_at : {X : Type 0} (f : X → Tree) (xs : List X) (k : ℕ) (d : X) (old now new : List ℕ) → k < length xs → now ≡ old ++ printed (map f (take k xs)) → new ≡ now ++ printed (f (get_or xs k d) ∷ [])
    → new ≡ old ++ printed (map f (take (k + 1) xs))
lines_more_at f xs k d old now new lt before line =
    lines_both (map f (take k xs)) (f (get_or xs k d) ∷ []) old now new before line ∙ ap (λ ts. old ++ printed ts) (sym (map_more f xs k d lt))

pub lines_more : {X : Type 0} (f : X → Tree) (xs : List X) (k : ℕ) (x : X) (old now new : List ℕ) → k < length xs → x ≡ get_or xs k x → now ≡ old ++ printed (map f (take k xs)) → new ≡ now ++ printed (f x ∷ [])
    → new ≡ old ++ printed (map f (take (k + 1) xs))
lines_more f xs k x old now new lt is before line =
    lines_more_at f xs k x old now new lt before (line ∙ ap (λ y. now ++ printed (f y ∷ [])) is)
