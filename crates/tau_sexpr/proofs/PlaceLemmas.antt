-- What the reader does at a place of the bytes.
use Rattle.std.proofs.Common.{◌≡◌, ◌≢◌, ℕ, suc, ◌+◌, ◌-◌, ◌<◌, ◌≤◌, ◌==◌, Bool, true, false, if◌then◌else◌, IsTrue, List, [], ◌∷◌, ◌++◌, length, take, drop, get_or, Some, None, Result, Ok, Err, refl, sym, ap, ap₂, subst, ◌∙◌, arith}
use Rattle.std.specs.List.{All, slice_range}
use Rattle.std.proofs.lemmas.List.{drop_more, drop_all}
use Rattle.std.proofs.lemmas.List.Elements.{All-cons}
use borrow.Author.Tests.{ne_eqb}
use Rattle.tau_sexpr.specs.Tree.{Tree, word, text}
use Rattle.tau_sexpr.specs.Bytes.{IsWordByte, IsTextByte, is_text_byte}
use Rattle.tau_sexpr.specs.Kinds.{kind_of, is_plain, meaning}
use Rattle.tau_sexpr.specs.Spelling.{EndsWord, EndsLine, EndsPlain}
use Rattle.tau_sexpr.specs.Inner.Reader.{Stack, Reader, reader, Mode, outside, comment, in_word, in_text, in_pair, with_form, step, step_outside, step_text, step_pair, finish, ended, and_then, run, TellsFormFault, TellsStep, Gives}
use Rattle.tau_sexpr.specs.declared.bytes.ByteKind.{ByteKind}
use Rattle.tau_sexpr.specs.declared.faults.FormError.{FormError}
use Rattle.tau_sexpr.specs.declared.faults.FormError.TheVariants.{BadByte, Unopened, Unclosed, BadText, TooDeep, NoMemory}
use Rattle.tau_sexpr.proofs.RunLemmas.{go_on, run_comment, run_word, run_plains}
use Rattle.tau_sexpr.proofs.KindLemmas.{kind_is}
use Rattle.tau_sexpr.specs.declared.bytes.ByteKind.TheVariants.{Semicolon, OfWord}
use Rattle.tau_sexpr.proofs.ScanLemmas.{drop-range, length-range}

-- at the end of the bytes nothing is left
at_length : (bs : List ℕ) (at : ℕ) → at ≡ length bs → drop at bs ≡ []
at_length bs at e = drop_all at bs (omega arith)

-- one byte
run_at : (bs : List ℕ) (at : ℕ) (mode : Mode) (s : Stack) → at < length bs → run (drop at bs) at mode s ≡ and_then (step (get_or bs at 0) at mode s) (go_on (drop (at + 1) bs))
unfolding run
run_at bs at mode s lt = ap (λ cs. run cs at mode s) (drop_more bs at 0 lt)

pub text_unclosed : (bs : List ℕ) (at : ℕ) → at ≡ length bs → (u : List ℕ) (s : Stack) → run (drop at bs) at (in_text u) s ≡ Err (Unclosed at)
unfolding run finish
text_unclosed bs at e u s = ap (λ cs. run cs at (in_text u) s) (at_length bs at e)

pub pair_unclosed : (bs : List ℕ) (at : ℕ) → at ≡ length bs → (u : List ℕ) (s : Stack) → run (drop at bs) at (in_pair u) s ≡ Err (Unclosed at)
unfolding run finish
pair_unclosed bs at e u s = ap (λ cs. run cs at (in_pair u) s) (at_length bs at e)

pub pair_read : (bs : List ℕ) (at c : ℕ) → at < length bs → meaning (get_or bs at 0) ≡ Some c → (u : List ℕ) (s : Stack) → run (drop at bs) at (in_pair u) s ≡ run (drop (at + 1) bs) (at + 1) (in_text (u ++ c ∷ [])) s
unfolding step
pair_read bs at c lt e u s = run_at bs at (in_pair u) s lt ∙ ap (λ o. and_then (step_pair o u at s) (go_on (drop (at + 1) bs))) e

pub pair_bad : (bs : List ℕ) (at : ℕ) → at < length bs → meaning (get_or bs at 0) ≡ None → (u : List ℕ) (s : Stack) → run (drop at bs) at (in_pair u) s ≡ Err (BadText at)
unfolding step
pair_bad bs at lt e u s = run_at bs at (in_pair u) s lt ∙ ap (λ o. and_then (step_pair o u at s) (go_on (drop (at + 1) bs))) e

pub meaning_text : (b c : ℕ) → meaning b ≡ Some c → IsTextByte c
unfolding meaning is_text_byte
meaning_text b c e = by (b == 34) (b == 92) (b == 110) e
  where
    by : (x y z : Bool) → (if x then Some 34 else if y then Some 92 else if z then Some 10 else None) ≡ Some c → IsTextByte c
    by true y z e = let is : 34 ≡ c = cc in subst IsTextByte is refl
    by false true z e = let is : 92 ≡ c = cc in subst IsTextByte is refl
    by false false true e = let is : 10 ≡ c = cc in subst IsTextByte is refl
    by false false false e = absurd (cc)

pub quote_read : (bs : List ℕ) (at : ℕ) → at < length bs → get_or bs at 0 ≡ 34 → (u : List ℕ) (s : Stack) → run (drop at bs) at (in_text u) s ≡ run (drop (at + 1) bs) (at + 1) outside (with_form s (text u))
unfolding step
quote_read bs at lt e u s = run_at bs at (in_text u) s lt ∙ ap (λ b. and_then (step_text u b at s) (go_on (drop (at + 1) bs))) e

pub backslash_read : (bs : List ℕ) (at : ℕ) → at < length bs → get_or bs at 0 ≡ 92 → (u : List ℕ) (s : Stack) → run (drop at bs) at (in_text u) s ≡ run (drop (at + 1) bs) (at + 1) (in_pair u) s
unfolding step
backslash_read bs at lt e u s = run_at bs at (in_text u) s lt ∙ ap (λ b. and_then (step_text u b at s) (go_on (drop (at + 1) bs))) e

-- the last of three tests
last : {A : Type 0} (x y z : Bool) (a b c d : A) → x ≡ false → y ≡ false → z ≡ false → (if x then a else if y then b else if z then c else d) ≡ d
last false false false a b c d e f g = refl
last x y z a b c d e f g = absurd (cc)

not_plain : (bs : List ℕ) (at : ℕ) → at < length bs → EndsPlain (drop at bs) → is_plain (get_or bs at 0) ≡ false
not_plain bs at lt ends = subst EndsPlain (drop_more bs at 0 lt) ends

pub text_bad : (bs : List ℕ) (at : ℕ) → at < length bs → EndsPlain (drop at bs) → get_or bs at 0 ≢ 34 → get_or bs at 0 ≢ 92 → (u : List ℕ) (s : Stack) → run (drop at bs) at (in_text u) s ≡ Err (BadText at)
unfolding step
text_bad bs at lt ends quote backslash u s =
    run_at bs at (in_text u) s lt
    ∙ ap (λ r. and_then r (go_on (drop (at + 1) bs))) (last (get_or bs at 0 == 34) (get_or bs at 0 == 92) (is_plain (get_or bs at 0)) _ _ _ _ (ne_eqb (get_or bs at 0) 34 quote) (ne_eqb (get_or bs at 0) 92 backslash) (not_plain bs at lt ends))

pub outside_at : (bs : List ℕ) (at : ℕ) (s : Stack) (k : ByteKind) → at < length bs → kind_of (get_or bs at 0) ≡ k → run (drop at bs) at outside s ≡ and_then (step_outside k (get_or bs at 0) at s) (go_on (drop (at + 1) bs))
unfolding step
outside_at bs at s k lt e = run_at bs at outside s lt ∙ ap (λ k. and_then (step_outside k (get_or bs at 0) at s) (go_on (drop (at + 1) bs))) e

-- a run of bytes in quotes that stand for themselves
pub plains_read : (bs : List ℕ) (at end : ℕ) → at ≤ end → end ≤ length bs → All (λ b. IsTrue (is_plain b)) (slice_range bs at end) → (u v : List ℕ) → v ≡ u ++ slice_range bs at end → (s : Stack) → run (drop at bs) at (in_text u) s ≡ run (drop end bs) end (in_text v) s
plains_read bs at end le most all u v e s =
    let place : at + length (slice_range bs at end) ≡ end = omega (arith, length-range bs at end le most) in
    ap (λ cs. run cs at (in_text u) s) (drop-range bs at end le)
    ∙ run_plains (slice_range bs at end) (drop end bs) u all at s
    ∙ ap₂ (λ p w. run (drop end bs) p (in_text w) s) place (sym e)

-- a word
range_cons : (bs : List ℕ) (at end : ℕ) → at < length bs → at + 1 ≤ end → slice_range bs at end ≡ get_or bs at 0 ∷ slice_range bs (at + 1) end
range_cons bs at end lt le =
    let count : end - at ≡ suc (end - (at + 1)) = omega arith in
    ap₂ take count (drop_more bs at 0 lt)

pub word_bytes : (bs : List ℕ) (at end : ℕ) → at < length bs → at + 1 ≤ end → kind_of (get_or bs at 0) ≡ OfWord → All IsWordByte (slice_range bs (at + 1) end) → All IsWordByte (slice_range bs at end)
word_bytes bs at end lt le begins all = subst (All IsWordByte) (sym (range_cons bs at end lt le)) (All-cons IsWordByte (get_or bs at 0) (slice_range bs (at + 1) end) (kind_is (get_or bs at 0) OfWord begins) all)

pub word_read : (bs : List ℕ) (at end : ℕ) → at < length bs → at + 1 ≤ end → end ≤ length bs → kind_of (get_or bs at 0) ≡ OfWord → All IsWordByte (slice_range bs (at + 1) end) → EndsWord (drop end bs)
    → (w : List ℕ) → w ≡ slice_range bs at end → (s : Stack) → run (drop at bs) at outside s ≡ run (drop end bs) end outside (with_form s (word w))
word_read bs at end lt le most begins all ends w e s =
    let place : at + 1 + length (slice_range bs (at + 1) end) ≡ end = omega (arith, length-range bs (at + 1) end le most) in
    let whole : get_or bs at 0 ∷ slice_range bs (at + 1) end ≡ w = sym (range_cons bs at end lt le) ∙ sym e in
    outside_at bs at s OfWord lt begins
    ∙ ap (λ cs. run cs (at + 1) (in_word (get_or bs at 0 ∷ [])) s) (drop-range bs (at + 1) end le)
    ∙ run_word (slice_range bs (at + 1) end) (drop end bs) (get_or bs at 0 ∷ []) all ends (at + 1) s (run (drop end bs) end outside (with_form s (word w)))
    (λ p q. ap₂ (λ p w. run (drop end bs) p outside (with_form s (word w))) (q ∙ place) whole)

-- a comment
pub comment_read : (bs : List ℕ) (at end : ℕ) → at < length bs → at + 1 ≤ end → end ≤ length bs → kind_of (get_or bs at 0) ≡ Semicolon → All (λ b. b ≢ 10) (slice_range bs (at + 1) end) → EndsLine (drop end bs)
    → (s : Stack) → run (drop at bs) at outside s ≡ run (drop end bs) end outside s
comment_read bs at end lt le most begins all ends s =
    let place : at + 1 + length (slice_range bs (at + 1) end) ≡ end = omega (arith, length-range bs (at + 1) end le most) in
    outside_at bs at s Semicolon lt begins
    ∙ ap (λ cs. run cs (at + 1) comment s) (drop-range bs (at + 1) end le)
    ∙ run_comment (slice_range bs (at + 1) end) (drop end bs) all ends (at + 1) s (run (drop end bs) end outside s)
    (λ p q. ap (λ p. run (drop end bs) p outside s) (q ∙ place))

-- an error of a step is what the reader gives
pub tells_step : (e : FormError) (r : Result Reader FormError) (bs : List ℕ) (z : Result (List Tree) FormError) → z ≡ and_then r (go_on bs) → TellsStep e r → TellsFormFault e z
tells_step (BadByte p) r bs z step h = step ∙ ap (λ r. and_then r (go_on bs)) h
tells_step (Unopened p) r bs z step h = step ∙ ap (λ r. and_then r (go_on bs)) h
tells_step (Unclosed p) r bs z step h = step ∙ ap (λ r. and_then r (go_on bs)) h
tells_step (BadText p) r bs z step h = step ∙ ap (λ r. and_then r (go_on bs)) h
tells_step (TooDeep p) r bs z step h = step ∙ ap (λ r. and_then r (go_on bs)) h
tells_step NoMemory r bs z step h = tt

pub step_on : (r : Result Reader FormError) (bs : List ℕ) (at : ℕ) (s : Stack) (z : Result (List Tree) FormError) → z ≡ and_then r (go_on bs) → r ≡ Ok (reader (at + 1) outside s) → z ≡ run bs (at + 1) outside s
step_on r bs at s z step h = step ∙ ap (λ r. and_then r (go_on bs)) h

-- at the end
pub run_end : (bs : List ℕ) (at : ℕ) (s : Stack) → length bs ≤ at → run (drop at bs) at outside s ≡ ended at s.lists s.forms
unfolding run finish
run_end bs at s le = ap (λ cs. run cs at outside s) (drop_all at bs le)

pub gives_same : (r z y : Result (List Tree) FormError) → z ≡ y → Gives r y → Gives r z
gives_same r z y e h = subst (Gives r) (sym e) h
