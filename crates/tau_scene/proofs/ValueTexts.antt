-- The texts of lists of values, item by item.
use Rattle.std.proofs.Common.{◌≡◌, ℕ, ◌+◌, ◌<◌, ◌≤◌, List, [], ◌∷◌, ◌++◌, length, get_or, map, take, sym, ap, ◌∙◌, append_assoc, append-nil}
use Rattle.std.proofs.lemmas.List.{map_more, take_all}
use Rattle.tau_sexpr.specs.Printing.{print_rest}
use Rattle.tau_value.specs.Meaning.{list_word}
use Rattle.tau_value.specs.Val as val
use Rattle.tau_value.specs.Val.{Val, inside}
use Rattle.tau_value.specs.Value.{val_of}
use Rattle.tau_value.specs.Written.{written_all}
use Rattle.tau_value.specs.declared.shared.Value.{Value}
use Rattle.tau_scene.specs.Words.Texts.{value_text}

-- the text of a list up to these items
abbrev pub list_begun : List (List ℕ) → List Val → List ℕ
list_begun names vs = 40 ∷ (list_word ++ print_rest (written_all names (inside vs)))

rest_more : (names : List (List ℕ)) (vs : List Val) (v : Val) → print_rest (written_all names (inside (vs ++ v ∷ []))) ≡ print_rest (written_all names (inside vs)) ++ 32 ∷ value_text names v
rest_more names [] v = ap (λ cs. 32 ∷ cs) (append-nil (value_text names v))
rest_more names (u ∷ us) v = ap (λ cs. 32 ∷ (value_text names u ++ cs)) (rest_more names us v) ∙ ap (λ cs. 32 ∷ cs) (sym (append_assoc (value_text names u) (print_rest (written_all names (inside us))) (32 ∷ value_text names v)))

-- one item more
pub list_more : (names : List (List ℕ)) (fs : List Value) (k : ℕ) (f : Value) (old now spaced out : List ℕ) → k < length fs → f ≡ get_or fs k f → now ≡ old ++ list_begun names (map val_of (take k fs)) → spaced ≡ now ++ 32 ∷ []
    → out ≡ spaced ++ value_text names (val_of f) → out ≡ old ++ list_begun names (map val_of (take (k + 1) fs))
list_more names fs k f old now spaced out lt is before space value =
    let more = map_more val_of fs k f lt ∙ ap (λ g. map val_of (take k fs) ++ val_of g ∷ []) (sym is) in
    rw (more, rest_more names (map val_of (take k fs)) (val_of f), value, space, before) (simp append_assoc)

-- all items, and the bracket
pub list_done : (names : List (List ℕ)) (fs : List Value) (vs : List Val) (k : ℕ) (old now out : List ℕ) → length fs ≤ k → map val_of fs ≡ vs → now ≡ old ++ list_begun names (map val_of (take k fs)) → out ≡ now ++ 41 ∷ []
    → out ≡ old ++ value_text names (val.list (inside vs))
list_done names fs vs k old now out end are before bracket =
    let all = ap (λ (gs : List Value). map val_of gs) (take_all k fs end) ∙ are in
    rw (bracket, before, all) (simp append_assoc)
