-- What the reader does over whole tokens.
use Rattle.std.proofs.Common.{◌≡◌, ◌≢◌, ℕ, ◌+◌, ◌<◌, ◌==◌, Bool, true, false, if◌then◌else◌, IsTrue, List, [], ◌∷◌, ◌++◌, length, Result, Ok, Err, refl, sym, ap, ap₂, ◌∙◌, arith, append_assoc, append-nil}
use Rattle.std.specs.List.{All}
use Rattle.std.proofs.lemmas.List.Elements.{All-head, All-tail}
use Rattle.std.proofs.lemmas.Bool.{eq-eqb}
use borrow.Author.Tests.{ne_eqb, lt-ltb}
use Rattle.tau_sexpr.specs.Tree.{Tree, Trees, word, text, list, items_of, inside-items_of}
use Rattle.tau_sexpr.specs.Bytes.{IsWordByte}
use Rattle.tau_sexpr.specs.Kinds.{kind_of, is_plain}
use Rattle.tau_sexpr.specs.Spelling.{EndsWord, EndsLine, Quotes, closing, plain, pair, Spells, at_end, at_closing, a_blank, a_comment, a_word, a_text, a_list}
use Rattle.tau_sexpr.specs.Inner.Reader.{Stack, stack, Reader, reader, outside, comment, in_word, in_text, with_form, step, step_outside, step_word, step_pair, finish, and_then, run}
use Rattle.tau_sexpr.specs.declared.bytes.ByteKind.{ByteKind}
use Rattle.tau_sexpr.specs.declared.bytes.ByteKind.TheVariants.{Blank, Semicolon, Opening, Closing, Quote, OfWord, Other}
use Rattle.tau_sexpr.specs.declared.faults.FormError.{FormError}
use Rattle.tau_sexpr.specs.declared.faults.FormError.TheVariants.{TooDeep}
use Rattle.tau_sexpr.proofs.KindLemmas.{kind_is, kind_blank, kind_word, kind_semicolon, kind_opening, kind_closing, kind_quote, kind_line_feed, plain_tests}

-- what is read after a step
abbrev pub go_on : List ℕ → Reader → Result (List Tree) FormError
go_on bs r = run bs r.at r.mode r.held

pub run_outside : (b : ℕ) (bs : List ℕ) (at : ℕ) (s : Stack) (k : ByteKind) → kind_of b ≡ k → run (b ∷ bs) at outside s ≡ and_then (step_outside k b at s) (go_on bs)
unfolding run step
run_outside b bs at s k e = ap (λ k. and_then (step_outside k b at s) (go_on bs)) e

-- a comment, after its semicolon
pub run_comment : (line bs : List ℕ) → All (λ b. b ≢ 10) line → EndsLine bs → (at : ℕ) (s : Stack) (z : Result (List Tree) FormError) → ((p : ℕ) → p ≡ at + length line → run bs p outside s ≡ z) → run (line ++ bs) at comment s ≡ z
unfolding run step finish
run_comment [] [] all ends at s z k = k at (omega arith)
run_comment [] (b ∷ bs) all ends at s z k =
    ap (λ t. run bs (at + 1) (if t then outside else comment) s) (eq-eqb b 10 ends) ∙ sym (run_outside b bs at s Blank (ap kind_of ends ∙ kind_line_feed)) ∙ k at (omega arith)
run_comment (b ∷ line) bs all ends at s z k =
    ap (λ t. run (line ++ bs) (at + 1) (if t then outside else comment) s) (ne_eqb b 10 (All-head (λ b. b ≢ 10) b line all))
    ∙ run_comment line bs (All-tail (λ b. b ≢ 10) b line all) ends (at + 1) s z (λ p e. k p (omega arith))

-- a byte that no word holds ends the word before it
word_ends : (k : ByteKind) (w : List ℕ) (b at : ℕ) (s : Stack) → k ≢ OfWord → step_word k w b at s ≡ step_outside k b at (with_form s (word w))
word_ends Blank w b at s ne = refl
word_ends Semicolon w b at s ne = refl
word_ends Opening w b at s ne = refl
word_ends Closing w b at s ne = refl
word_ends Quote w b at s ne = refl
word_ends OfWord w b at s ne = absurd (ne refl)
word_ends Other w b at s ne = refl

pub not_of_word : (b : ℕ) → ¬ IsWordByte b → kind_of b ≢ OfWord
not_of_word b ne e = ne (kind_is b OfWord e)

-- a word ends
pub run_word_end : (bs w : List ℕ) (at : ℕ) (s : Stack) → EndsWord bs → run bs at (in_word w) s ≡ run bs at outside (with_form s (word w))
unfolding run step finish
run_word_end [] w at s ends = refl
run_word_end (b ∷ bs) w at s ends = ap (λ r. and_then r (go_on bs)) (word_ends (kind_of b) w b at s (not_of_word b ends))

pub word_goes_on : (b : ℕ) (bs w : List ℕ) (at : ℕ) (s : Stack) → IsWordByte b → run (b ∷ bs) at (in_word w) s ≡ run bs (at + 1) (in_word (w ++ b ∷ [])) s
unfolding run step
word_goes_on b bs w at s is = ap (λ k. and_then (step_word k w b at s) (go_on bs)) (kind_word b is)

-- the bytes of a word that has begun
pub run_word : (v bs w : List ℕ) → All IsWordByte v → EndsWord bs → (at : ℕ) (s : Stack) (z : Result (List Tree) FormError) → ((p : ℕ) → p ≡ at + length v → run bs p outside (with_form s (word (w ++ v))) ≡ z) → run (v ++ bs) at (in_word w) s ≡ z
unfolding run step
run_word [] bs w all ends at s z k =
    run_word_end bs w at s ends ∙ ap (λ v. run bs at outside (with_form s (word v))) (sym (append-nil w)) ∙ k at (omega arith)
run_word (b ∷ v) bs w all ends at s z k =
    word_goes_on b (v ++ bs) w at s (All-head IsWordByte b v all)
    ∙ run_word v bs (w ++ b ∷ []) (All-tail IsWordByte b v all) ends (at + 1) s z
    (λ p e. ap (λ u. run bs p outside (with_form s (word u))) (append_assoc w (b ∷ []) v) ∙ k p (omega arith))

-- the third of three tests is the first to hold
third : {A : Type 0} (x y z : Bool) (a b c d : A) → x ≡ false → y ≡ false → z ≡ true → (if x then a else if y then b else if z then c else d) ≡ c
third false false true a b c d e f g = refl
third x y z a b c d e f g = absurd (cc)

pub run_plain : (b : ℕ) (bs u : List ℕ) (at : ℕ) (s : Stack) → IsTrue (is_plain b) → run (b ∷ bs) at (in_text u) s ≡ run bs (at + 1) (in_text (u ++ b ∷ [])) s
unfolding run step
run_plain b bs u at s is = ap (λ r. and_then r (go_on bs)) (third (b == 34) (b == 92) (is_plain b) _ _ _ _ (plain_tests b is).0 (plain_tests b is).1 is)

-- bytes in quotes that stand for themselves
pub run_plains : (v bs u : List ℕ) → All (λ b. IsTrue (is_plain b)) v → (at : ℕ) (s : Stack) → run (v ++ bs) at (in_text u) s ≡ run bs (at + length v) (in_text (u ++ v)) s
run_plains [] bs u all at s = ap₂ (λ p w. run bs p (in_text w) s) (omega arith) (sym (append-nil u))
run_plains (b ∷ v) bs u all at s =
    run_plain b (v ++ bs) u at s (All-head (λ b. IsTrue (is_plain b)) b v all)
    ∙ run_plains v bs (u ++ b ∷ []) (All-tail (λ b. IsTrue (is_plain b)) b v all) (at + 1) s
    ∙ ap₂ (λ p w. run bs p (in_text w) s) (omega arith) (append_assoc u (b ∷ []) v)

-- the bytes of a text, up to its closing quote
pub run_text : {bs t rest : List ℕ} → Quotes bs t rest → (u : List ℕ) (at : ℕ) (s : Stack) (z : Result (List Tree) FormError) → ((at : ℕ) → run rest at outside (with_form s (text (u ++ t))) ≡ z) → run bs at (in_text u) s ≡ z
unfolding run step
run_text (closing {rest = rest}) u at s z k = ap (λ v. run rest (at + 1) outside (with_form s (text v))) (sym (append-nil u)) ∙ k (at + 1)
run_text (plain {b = b} {bs = bs} {t = t} {rest = rest} is quotes) u at s z k =
    run_plain b bs u at s is
    ∙ run_text quotes (u ++ b ∷ []) (at + 1) s z (λ at. ap (λ v. run rest at outside (with_form s (text v))) (append_assoc u (b ∷ []) t) ∙ k at)
run_text (pair {b = b} {c = c} {bs = bs} {t = t} {rest = rest} is quotes) u at s z k =
    ap (λ o. and_then (step_pair o u (at + 1) s) (go_on bs)) is
    ∙ run_text quotes (u ++ c ∷ []) (at + 1 + 1) s z (λ at. ap (λ v. run rest at outside (with_form s (text v))) (append_assoc u (c ∷ []) t) ∙ k at)

-- forms, up to what is left
pub run_forms : {d : ℕ} {bs rest : List ℕ} {us : Trees} → Spells d bs us rest → (at : ℕ) (lists : List (List Tree)) (forms : List Tree) → length lists + d ≡ 200 → (z : Result (List Tree) FormError) → ((at : ℕ) → run rest at outside (stack lists (forms ++ items_of us)) ≡ z) → run bs at outside (stack lists forms) ≡ z
run_forms at_end at lists forms depth z k = ap (λ ts. run [] at outside (stack lists ts)) (sym (append-nil forms)) ∙ k at
run_forms (at_closing {bs = bs}) at lists forms depth z k = ap (λ ts. run (41 ∷ bs) at outside (stack lists ts)) (sym (append-nil forms)) ∙ k at
run_forms (a_blank {b = b} {bs = bs} is spelled) at lists forms depth z k =
    run_outside b bs at (stack lists forms) Blank (kind_blank b is) ∙ run_forms spelled (at + 1) lists forms depth z k
run_forms (a_comment line bs all ends spelled) at lists forms depth z k =
    run_outside 59 (line ++ bs) at (stack lists forms) Semicolon kind_semicolon
    ∙ run_comment line bs all ends (at + 1) (stack lists forms) z (λ p e. run_forms spelled p lists forms depth z k)
run_forms (a_word {b = b} w bs {rest = rest} {ts = ts} all ends spelled) at lists forms depth z k =
    run_outside b (w ++ bs) at (stack lists forms) OfWord (kind_word b (All-head IsWordByte b w all))
    ∙ run_word w bs (b ∷ []) (All-tail IsWordByte b w all) ends (at + 1) (stack lists forms) z
    (λ p e. run_forms spelled p lists (forms ++ word (b ∷ w) ∷ []) depth z
    (λ at. ap (λ us. run rest at outside (stack lists us)) (append_assoc forms (word (b ∷ w) ∷ []) (items_of ts)) ∙ k at))
run_forms (a_text {bs = bs} {t = t} {after = after} {rest = rest} {ts = ts} quotes spelled) at lists forms depth z k =
    run_outside 34 bs at (stack lists forms) Quote kind_quote
    ∙ run_text quotes [] (at + 1) (stack lists forms) z
    (λ at. run_forms spelled at lists (forms ++ text t ∷ []) depth z
    (λ at. ap (λ us. run rest at outside (stack lists us)) (append_assoc forms (text t ∷ []) (items_of ts)) ∙ k at))
run_forms (a_list {d = d} {bs = bs} {after = after} {rest = rest} {us = us} {ts = ts} inner spelled) at lists forms depth z k =
    let room : length lists < 200 = omega arith in
    let opened : run (40 ∷ bs) at outside (stack lists forms) ≡ run bs (at + 1) outside (stack (forms ∷ lists) []) =
    run_outside 40 bs at (stack lists forms) Opening kind_opening
    ∙ ap (λ t. and_then (if t then Ok (reader (at + 1) outside (stack (forms ∷ lists) [])) else Err (TooDeep at)) (go_on bs)) (lt-ltb (length lists) 200 room) in
    let deeper : length (forms ∷ lists) + d ≡ 200 = omega arith in
    opened
    ∙ run_forms inner (at + 1) (forms ∷ lists) [] deeper z
    (λ at. run_outside 41 after at (stack (forms ∷ lists) (items_of us)) Closing kind_closing
    ∙ ap (λ vs. run after (at + 1) outside (stack lists (forms ++ list vs ∷ []))) (inside-items_of us)
    ∙ run_forms spelled (at + 1) lists (forms ++ list us ∷ []) depth z
    (λ at. ap (λ us. run rest at outside (stack lists us)) (append_assoc forms (list us ∷ []) (items_of ts)) ∙ k at))
