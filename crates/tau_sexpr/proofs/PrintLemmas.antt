-- What is printed spells its forms.
use Rattle.std.proofs.Common.{◌≡◌, ◌≢◌, ℕ, zero, suc, ◌+◌, ◌<◌, ◌≤◌, ◌==◌, Bool, true, false, if◌then◌else◌, IsTrue, List, [], ◌∷◌, ◌++◌, length, map, take, get_or, Result, Ok, Err, refl, sym, ap, subst, ◌∙◌, arith, append_assoc, append-nil}
use Rattle.std.specs.List.{All, flat_map}
use Rattle.std.specs.Result.{OnErr}
use Rattle.tau_sexpr.proofs.LawLemmas.{once}
use Rattle.std.proofs.lemmas.List.{map_more, length-append, length-map, length-take-le, take_all, take-append-le, take-take}
use Rattle.std.proofs.lemmas.List.Elements.{All-nil, All-cons, All-head, All-tail, All-push}
use borrow.Author.Tests.{ne_eqb}
use Rattle.std.proofs.lemmas.Bool.{eqb-true}
use Rattle.std.proofs.lemmas.Bool.Decides.{nat_tests}
use Rattle.tau_sexpr.specs.Tree.{Tree, Trees, word, text, list, none, more, inside, size_of, sizes, depth_of, depth_of_all, depths, HasWords, AllHaveWords}
use Rattle.tau_sexpr.specs.Bytes.{is_blank, is_letter_or_digit, is_word_sign, is_word_byte, is_text_byte, IsWordByte, IsTextByte}
use Rattle.tau_sexpr.specs.Kinds.{is_plain, meaning}
use Rattle.tau_sexpr.specs.Spelling.{EndsWord, Quotes, closing, plain, pair, Spells, at_end, at_closing, a_blank, a_word, a_text, a_list, IsSpelling}
use Rattle.tau_sexpr.specs.Printing.{quoted_byte, print_of, print_items, print_rest, printed, HasBytes, AllHaveBytes}
use Rattle.tau_sexpr.specs.Inner.Begins.{Begins}
use Rattle.tau_sexpr.specs.Form.{tree_of}
use Rattle.tau_sexpr.specs.declared.trees.Form.{Form}

not_word : (b : ℕ) → is_word_byte b ≡ false → ¬ IsWordByte b
not_word b e h = cc

blank_32 : IsTrue (is_blank 32)
unfolding is_blank
blank_32 = refl

blank_10 : IsTrue (is_blank 10)
unfolding is_blank
blank_10 = refl

not_word_10 : is_word_byte 10 ≡ false
unfolding is_word_byte is_letter_or_digit is_word_sign
not_word_10 = refl

not_word_32 : is_word_byte 32 ≡ false
unfolding is_word_byte is_letter_or_digit is_word_sign
not_word_32 = refl

not_word_41 : is_word_byte 41 ≡ false
unfolding is_word_byte is_letter_or_digit is_word_sign
not_word_41 = refl

text_plain : (b : ℕ) → IsTextByte b → (b == 34) ≡ false → (b == 92) ≡ false → (b == 10) ≡ false → IsTrue (is_plain b)
unfolding is_text_byte is_plain
text_plain b h x y z = grind (arith, nat_tests)

-- one byte of a text
quotes_byte : (b : ℕ) (bs t rest : List ℕ) → IsTextByte b → Quotes bs t rest → Quotes (quoted_byte b ++ bs) (b ∷ t) rest
unfolding quoted_byte meaning
quotes_byte b bs t rest is quotes = by (b == 34) (b == 92) (b == 10) refl refl refl
  where
    by : (x y z : Bool) → (b == 34) ≡ x → (b == 92) ≡ y → (b == 10) ≡ z → Quotes ((if x then 92 ∷ 34 ∷ [] else if y then 92 ∷ 92 ∷ [] else if z then 92 ∷ 110 ∷ [] else b ∷ []) ++ bs) (b ∷ t) rest
    by true y z ex ey ez = subst (λ c. Quotes (92 ∷ 34 ∷ bs) (c ∷ t) rest) (sym (eqb-true b 34 ex)) (pair refl quotes)
    by false true z ex ey ez = subst (λ c. Quotes (92 ∷ 92 ∷ bs) (c ∷ t) rest) (sym (eqb-true b 92 ey)) (pair refl quotes)
    by false false true ex ey ez = subst (λ c. Quotes (92 ∷ 110 ∷ bs) (c ∷ t) rest) (sym (eqb-true b 10 ez)) (pair refl quotes)
    by false false false ex ey ez = plain (text_plain b is ex ey ez) quotes

quotes_text : (t bs : List ℕ) → All IsTextByte t → Quotes (flat_map quoted_byte t ++ 34 ∷ bs) t bs
quotes_text [] bs all = closing
quotes_text (b ∷ t) bs all =
    subst (λ cs. Quotes cs (b ∷ t) bs) (sym (append_assoc (quoted_byte b) (flat_map quoted_byte t) (34 ∷ bs)))
    (quotes_byte b (flat_map quoted_byte t ++ 34 ∷ bs) t bs (All-head IsTextByte b t all) (quotes_text t bs (All-tail IsTextByte b t all)))

-- the items that follow another end the word before them
rest_ends : (us : Trees) (bs : List ℕ) → EndsWord (print_rest us ++ 41 ∷ bs)
rest_ends none bs = not_word 41 not_word_41
rest_ends (more t us) bs = not_word 32 not_word_32

mutual
  spells_tree : (t : Tree) (d : ℕ) → depth_of t ≤ d → HasWords t → HasBytes t → (bs rest : List ℕ) (ts : Trees) → EndsWord bs → Spells d bs ts rest → Spells d (print_of t ++ bs) (more t ts) rest
  spells_tree (word []) d depth words bytes bs rest ts ends spelled = absurd (words refl)
  spells_tree (word (b ∷ w)) d depth words bytes bs rest ts ends spelled = a_word w bs bytes ends spelled
  spells_tree (text t) d depth words bytes bs rest ts ends spelled =
      subst (λ cs. Spells d (34 ∷ cs) (more (text t) ts) rest) (sym (append_assoc (flat_map quoted_byte t) (34 ∷ []) bs)) (a_text (quotes_text t bs bytes) spelled)
  spells_tree (list us) zero depth words bytes bs rest ts ends spelled = absurd (omega arith)
  spells_tree (list us) (suc d) depth words bytes bs rest ts ends spelled =
      let shallow : depth_of_all us ≤ d = omega arith in
      subst (λ cs. Spells (suc d) (40 ∷ cs) (more (list us) ts) rest) (sym (append_assoc (print_items us) (41 ∷ []) bs)) (a_list (spells_items us d shallow words bytes bs) spelled)

  spells_items : (us : Trees) (d : ℕ) → depth_of_all us ≤ d → AllHaveWords us → AllHaveBytes us → (bs : List ℕ) → Spells d (print_items us ++ 41 ∷ bs) us (41 ∷ bs)
  spells_items none d depth words bytes bs = at_closing
  spells_items (more t us) d depth words bytes bs =
      let one : depth_of t ≤ d = omega arith in
      let others : depth_of_all us ≤ d = omega arith in
      subst (λ cs. Spells d cs (more t us) (41 ∷ bs)) (sym (append_assoc (print_of t) (print_rest us) (41 ∷ bs)))
      (spells_tree t d one words.0 bytes.0 (print_rest us ++ 41 ∷ bs) (41 ∷ bs) us (rest_ends us bs) (spells_rest us d others words.1 bytes.1 bs))

  spells_rest : (us : Trees) (d : ℕ) → depth_of_all us ≤ d → AllHaveWords us → AllHaveBytes us → (bs : List ℕ) → Spells d (print_rest us ++ 41 ∷ bs) us (41 ∷ bs)
  spells_rest none d depth words bytes bs = at_closing
  spells_rest (more t us) d depth words bytes bs =
      let one : depth_of t ≤ d = omega arith in
      let others : depth_of_all us ≤ d = omega arith in
      a_blank blank_32
      (subst (λ cs. Spells d cs (more t us) (41 ∷ bs)) (sym (append_assoc (print_of t) (print_rest us) (41 ∷ bs)))
      (spells_tree t d one words.0 bytes.0 (print_rest us ++ 41 ∷ bs) (41 ∷ bs) us (rest_ends us bs) (spells_rest us d others words.1 bytes.1 bs)))

pub spells_printed : (ts : List Tree) → depths ts ≤ 200 → All HasWords ts → All HasBytes ts → IsSpelling (printed ts) ts
spells_printed [] depth words bytes = at_end
spells_printed (t ∷ ts) depth words bytes =
    let one : depth_of t ≤ 200 = omega arith in
    let others : depths ts ≤ 200 = omega arith in
    spells_tree t 200 one (All-head HasWords t ts words) (All-head HasBytes t ts bytes) (10 ∷ printed ts) [] (inside ts) (not_word 10 not_word_10)
    (a_blank blank_10 (spells_printed ts others (All-tail HasWords t ts words) (All-tail HasBytes t ts bytes)))

more_trees : (fs : List Form) (k : ℕ) (f : Form) → k < length fs → f ≡ get_or fs k f → map tree_of (take (k + 1) fs) ≡ map tree_of (take k fs) ++ tree_of f ∷ []
more_trees fs k f lt is = map_more tree_of fs k f lt ∙ ap (λ g. map tree_of (take k fs) ++ tree_of g ∷ []) (sym is)

-- the text of some forms and others
pub printed-append : (ts us : List Tree) → printed (ts ++ us) ≡ printed ts ++ printed us
printed-append [] us = refl
printed-append (t ∷ ts) us = ap (λ cs. print_of t ++ 10 ∷ cs) (printed-append ts us) ∙ sym (append_assoc (print_of t) (10 ∷ printed ts) (printed us))

pub printed_more : (fs : List Form) (k : ℕ) (f : Form) (old now out : List ℕ) → k < length fs → f ≡ get_or fs k f → now ≡ old ++ printed (map tree_of (take k fs)) → out ≡ now ++ printed (tree_of f ∷ [])
    → out ≡ old ++ printed (map tree_of (take (k + 1) fs))
printed_more fs k f old now out lt is before line =
    rw (more_trees fs k f lt is, printed-append, line, before) (append_assoc old (printed (map tree_of (take k fs))) (printed (tree_of f ∷ [])))

-- one item more
print_rest-append : (us : List Tree) (t : Tree) → print_rest (inside (us ++ t ∷ [])) ≡ print_rest (inside us) ++ 32 ∷ print_of t
print_rest-append [] t = ap (λ cs. 32 ∷ cs) (append-nil (print_of t))
print_rest-append (u ∷ us) t = ap (λ cs. 32 ∷ (print_of u ++ cs)) (print_rest-append us t) ∙ ap (λ cs. 32 ∷ cs) (sym (append_assoc (print_of u) (print_rest (inside us)) (32 ∷ print_of t)))

gap : ℕ → List ℕ
gap k = if k == 0 then [] else 32 ∷ []

print_items-append : (us : List Tree) (k : ℕ) (t : Tree) → length us ≡ k → print_items (inside (us ++ t ∷ [])) ≡ print_items (inside us) ++ (gap k ++ print_of t)
unfolding gap
print_items-append [] k t e = append-nil (print_of t) ∙ ap (λ n. (if n == 0 then [] else 32 ∷ []) ++ print_of t) e
print_items-append (u ∷ us) k t e =
    let after : k ≢ 0 = λ h. absurd (omega arith) in
    ap (λ cs. print_of u ++ cs) (print_rest-append us t) ∙ sym (append_assoc (print_of u) (print_rest (inside us)) (32 ∷ print_of t))
    ∙ ap (λ x. print_items (inside (u ∷ us)) ++ ((if x then [] else 32 ∷ []) ++ print_of t)) (sym (ne_eqb k 0 after))

pub items_more : (fs : List Form) (k : ℕ) (f : Form) (old now with_gap out : List ℕ) → k < length fs → f ≡ get_or fs k f → now ≡ old ++ print_items (inside (map tree_of (take k fs))) → with_gap ≡ now ++ (if k == 0 then [] else 32 ∷ []) → out ≡ with_gap ++ print_of (tree_of f)
    → out ≡ old ++ print_items (inside (map tree_of (take (k + 1) fs)))
unfolding gap
items_more fs k f old now with_gap out lt is before space form =
    let count : length (map tree_of (take k fs)) ≡ k = length-map (take k fs) tree_of ∙ length-take-le k fs (omega arith) in
    rw (more_trees fs k f lt is, print_items-append (map tree_of (take k fs)) k (tree_of f) count, form, space, before) (simp append_assoc)

have_bytes-append : (us : List Tree) (t : Tree) → AllHaveBytes (inside us) → HasBytes t → AllHaveBytes (inside (us ++ t ∷ []))
have_bytes-append [] t h g = (g, tt)
have_bytes-append (u ∷ us) t h g = (h.0, have_bytes-append us t h.1 g)

pub bytes_more : (fs : List Form) (k : ℕ) (f : Form) → k < length fs → f ≡ get_or fs k f → AllHaveBytes (inside (map tree_of (take k fs))) → HasBytes (tree_of f) → AllHaveBytes (inside (map tree_of (take (k + 1) fs)))
bytes_more fs k f lt is before here = subst (λ ts. AllHaveBytes (inside ts)) (sym (more_trees fs k f lt is)) (have_bytes-append (map tree_of (take k fs)) (tree_of f) before here)

pub top_bytes_more : (fs : List Form) (k : ℕ) (f : Form) → k < length fs → f ≡ get_or fs k f → All HasBytes (map tree_of (take k fs)) → HasBytes (tree_of f) → All HasBytes (map tree_of (take (k + 1) fs))
top_bytes_more fs k f lt is before here = subst (All HasBytes) (sym (more_trees fs k f lt is)) (All-push HasBytes (map tree_of (take k fs)) (tree_of f) before here)

-- an item has no more nodes than all of them
size_of_item : (fs : List Form) (k : ℕ) (f : Form) → k < length fs → f ≡ get_or fs k f → size_of (tree_of f) ≤ sizes (map tree_of fs)
size_of_item [] k f lt is = absurd (omega arith)
size_of_item (g ∷ fs) zero f lt is = let same : size_of (tree_of f) ≡ size_of (tree_of g) = ap (λ h. size_of (tree_of h)) is in omega arith
size_of_item (g ∷ fs) (suc k) f lt is = let h = size_of_item fs k f (omega arith) is in omega arith

pub size_in : (fs : List Form) (ts : List Tree) (k : ℕ) (f : Form) → map tree_of fs ≡ ts → k < length fs → f ≡ get_or fs k f → size_of (tree_of f) ≤ sizes ts
size_in fs ts k f e lt is = subst (λ us. size_of (tree_of f) ≤ sizes us) e (size_of_item fs k f lt is)

-- a text that begins with another
pub begins_same : (old new : List ℕ) → new ≡ old → Begins old new
unfolding Begins
begins_same old new e = ap (take (length old)) e ∙ take_all (length old) old (omega arith)

pub begins_after : (old added now new : List ℕ) → now ≡ old ++ added → Begins now new → Begins old new
unfolding Begins
begins_after old added now new e begins =
    let fits : length old ≤ length now = subst (λ (xs : List ℕ). length old ≤ length xs) (sym e) (rw (length-append old added) (omega arith)) in
    sym (take-take (length old) (length now) new fits) ∙ ap (take (length old)) begins ∙ ap (take (length old)) e
    ∙ take-append-le (length old) old added (omega arith) ∙ take_all (length old) old (omega arith)

-- the clauses of printing
pub on_err : {A E P : Type 0} (r : Result A E) → P → OnErr r P
on_err (Ok x) p = tt
on_err (Err e) p = p

pub begins_kept : (old new : List ℕ) → Begins old new → take (length old) new ≡ old
unfolding Begins
begins_kept old new begins = begins

pub line_spells : (t : Tree) → depth_of t ≤ 200 → HasWords t → HasBytes t → IsSpelling (printed (t ∷ [])) (t ∷ [])
line_spells t depth words bytes =
    let depth-1 : depths (t ∷ []) ≤ 200 = omega (arith, depth) in
    spells_printed (t ∷ []) depth-1 (All-cons HasWords t [] words (All-nil HasWords)) (All-cons HasBytes t [] bytes (All-nil HasBytes))

pub read_back : (ts : List Tree) → IsSpelling (printed ts) ts → (us : List Tree) → IsSpelling (printed ts) us → us ≡ ts
read_back ts spelled us h = once (printed ts) us ts h spelled
