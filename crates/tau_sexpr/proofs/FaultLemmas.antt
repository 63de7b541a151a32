-- The reader's fault is the first fault of the bytes.
use Rattle.std.proofs.Common.{◌≡◌, ◌≢◌, ℕ, zero, suc, ◌+◌, ◌<◌, ◌≤◌, ◌==◌, nat_lt, Bool, true, false, if◌then◌else◌, List, [], ◌∷◌, ◌++◌, length, drop, slice_get, Option, Some, None, Result, Ok, Err, refl, sym, ap, subst, ap₂, ◌∙◌, arith, length-drop, ◌⊎◌, ⊎_elim, inl, inr}
use borrow.Author.Tests.{ltb-true, ltb-false, eqb-true, eqb-false}
use Rattle.tau_sexpr.specs.Tree.{Tree, word, text}
use Rattle.tau_sexpr.specs.Kinds.{kind_of, is_plain, meaning}
use Rattle.tau_sexpr.specs.Faults.{Part, in_comment, in_quotes, after_backslash, Lexical, lexical, moved_outside, moved, moved_by, state_at, place_of, IsBadInQuotes, IsBad, IsOpen, IsFault, a_byte, the_end, IsFirstFault}
use Rattle.tau_sexpr.specs.Faults as faults
use Rattle.tau_sexpr.specs.Inner.Reader.{Stack, stack, Reader, reader, Mode, outside, comment, in_word, in_text, in_pair, with_form, step, step_outside, step_word, step_pair, ended, closed, finish, and_then, run, read_all}
use Rattle.tau_sexpr.specs.declared.bytes.ByteKind.{ByteKind}
use Rattle.tau_sexpr.specs.declared.bytes.ByteKind.TheVariants.{Blank, Semicolon, Opening, Closing, Quote, OfWord, Other}
use Rattle.tau_sexpr.specs.declared.faults.FormError.{FormError}
use Rattle.tau_sexpr.specs.declared.faults.FormError.TheVariants.{BadByte, Unopened, Unclosed, BadText, TooDeep, NoMemory}
use Rattle.tau_sexpr.proofs.RunLemmas.{go_on}

-- what a mode lies in
abbrev part_of : Mode → Part
part_of outside = faults.outside
part_of comment = in_comment
part_of (in_word w) = faults.outside
part_of (in_text t) = in_quotes
part_of (in_pair t) = after_backslash

abbrev state_of : Mode → Stack → Lexical
state_of mode s = lexical (part_of mode) (length s.lists)

-- a step goes to the next state where the byte is no fault, and else says which it is
abbrev Judges : Part → ℕ → ℕ → ℕ → Result Reader FormError → Type 0
Judges part n b at (Ok r) = (state_of r.mode r.held ≡ moved b part n) × (r.at ≡ suc at) × (length r.held.lists ≤ 200) × ((e : FormError) → ¬ IsBad (lexical part n) b e)
Judges part n b at (Err e) = IsBad (lexical part n) b e × (place_of e ≡ at)

-- a byte that is no fault outside
fine : (b n : ℕ) (k : ByteKind) → kind_of b ≡ k → k ≢ Other → (k ≡ Closing → 0 < n) → (k ≡ Opening → n < 200) → (e : FormError) → ¬ IsBad (lexical faults.outside n) b e
fine b n k is other closing opening (BadByte p) bad = other (sym is ∙ bad.1)
fine b n k is other closing opening (Unopened p) bad =
    let one : 0 < n = closing (sym is ∙ bad.1) in
    let zero_open : n ≡ 0 = bad.2 in
    absurd (omega arith)
fine b n k is other closing opening (Unclosed p) bad = bad
fine b n k is other closing opening (BadText p) bad = bad
fine b n k is other closing opening (TooDeep p) bad =
    let room : n < 200 = opening (sym is ∙ bad.1) in
    let full : n ≡ 200 = bad.2 in
    absurd (omega arith)
fine b n k is other closing opening NoMemory bad = bad

-- a byte that is no fault in a comment or in quotes
fine_inside : (part : Part) (n b : ℕ) → part ≢ faults.outside → ¬ IsBadInQuotes part b → (e : FormError) → ¬ IsBad (lexical part n) b e
fine_inside part n b within good (BadByte p) bad = within bad.0
fine_inside part n b within good (Unopened p) bad = within bad.0
fine_inside part n b within good (Unclosed p) bad = bad
fine_inside part n b within good (BadText p) bad = good bad
fine_inside part n b within good (TooDeep p) bad = within bad.0
fine_inside part n b within good NoMemory bad = bad

judge_opening : (b at : ℕ) (s : Stack) → length s.lists ≤ 200 → kind_of b ≡ Opening → (t : Bool) → nat_lt (length s.lists) 200 ≡ t
    → Judges faults.outside (length s.lists) b at (if t then Ok (reader (at + 1) outside (stack (s.forms ∷ s.lists) [])) else Err (TooDeep at))
judge_opening b at s le is true test =
    let room : length s.lists < 200 = ltb-true (length s.lists) 200 test in (
      ap (λ n. lexical faults.outside n) (omega arith) ∙ ap (λ k. moved_outside k (length s.lists)) (sym is),
      omega arith,
      omega arith,
      fine b (length s.lists) Opening is (λ h. cc) (λ h. absurd (cc)) (λ h. room),
    )
judge_opening b at s le is false test =
    let full : 200 ≤ length s.lists = ltb-false (length s.lists) 200 test in
    ((refl, is, omega arith), refl)

judge_closing : (b at : ℕ) (lists : List (List Tree)) (forms : List Tree) → length lists ≤ 200 → kind_of b ≡ Closing → Judges faults.outside (length lists) b at (closed at lists forms)
judge_closing b at [] forms le is = ((refl, is, refl), refl)
judge_closing b at (o ∷ os) forms le is = (
  ap (λ n. lexical faults.outside n) (omega arith) ∙ ap (λ k. moved_outside k (length (o ∷ os))) (sym is),
  omega arith,
  omega arith,
  fine b (length (o ∷ os)) Closing is (λ h. cc) (λ h. omega arith) (λ h. absurd (cc)),
)

judge_outside : (b at : ℕ) (s : Stack) → length s.lists ≤ 200 → (k : ByteKind) → kind_of b ≡ k → Judges faults.outside (length s.lists) b at (step_outside k b at s)
judge_outside b at s le Blank is = (ap (λ k. moved_outside k (length s.lists)) (sym is), omega arith, le, fine b (length s.lists) Blank is (λ h. cc) (λ h. absurd (cc)) (λ h. absurd (cc)))
judge_outside b at s le Semicolon is = (ap (λ k. moved_outside k (length s.lists)) (sym is), omega arith, le, fine b (length s.lists) Semicolon is (λ h. cc) (λ h. absurd (cc)) (λ h. absurd (cc)))
judge_outside b at s le Opening is = judge_opening b at s le is (nat_lt (length s.lists) 200) refl
judge_outside b at s le Closing is = judge_closing b at s.lists s.forms le is
judge_outside b at s le Quote is = (ap (λ k. moved_outside k (length s.lists)) (sym is), omega arith, le, fine b (length s.lists) Quote is (λ h. cc) (λ h. absurd (cc)) (λ h. absurd (cc)))
judge_outside b at s le OfWord is = (ap (λ k. moved_outside k (length s.lists)) (sym is), omega arith, le, fine b (length s.lists) OfWord is (λ h. cc) (λ h. absurd (cc)) (λ h. absurd (cc)))
judge_outside b at s le Other is = ((refl, is), refl)

judge_word : (b at : ℕ) (w : List ℕ) (s : Stack) → length s.lists ≤ 200 → (k : ByteKind) → kind_of b ≡ k → Judges faults.outside (length s.lists) b at (step_word k w b at s)
judge_word b at w s le OfWord is = (ap (λ k. moved_outside k (length s.lists)) (sym is), omega arith, le, fine b (length s.lists) OfWord is (λ h. cc) (λ h. absurd (cc)) (λ h. absurd (cc)))
judge_word b at w s le Blank is = judge_outside b at (with_form s (word w)) le Blank is
judge_word b at w s le Semicolon is = judge_outside b at (with_form s (word w)) le Semicolon is
judge_word b at w s le Opening is = judge_outside b at (with_form s (word w)) le Opening is
judge_word b at w s le Closing is = judge_outside b at (with_form s (word w)) le Closing is
judge_word b at w s le Quote is = judge_outside b at (with_form s (word w)) le Quote is
judge_word b at w s le Other is = judge_outside b at (with_form s (word w)) le Other is

judge_comment : (b at : ℕ) (s : Stack) → length s.lists ≤ 200 → (t : Bool) → (b == 10) ≡ t → Judges in_comment (length s.lists) b at (Ok (reader (at + 1) (if t then outside else comment) s))
judge_comment b at s le true is = (ap (λ t. lexical (if t then faults.outside else in_comment) (length s.lists)) (sym is), omega arith, le, fine_inside in_comment (length s.lists) b (λ h. cc) (λ h. h))
judge_comment b at s le false is = (ap (λ t. lexical (if t then faults.outside else in_comment) (length s.lists)) (sym is), omega arith, le, fine_inside in_comment (length s.lists) b (λ h. cc) (λ h. h))

judge_text : (b at : ℕ) (t : List ℕ) (s : Stack) → length s.lists ≤ 200 → (x y z : Bool) → (b == 34) ≡ x → (b == 92) ≡ y → is_plain b ≡ z
    → Judges in_quotes (length s.lists) b at (if x then Ok (reader (at + 1) outside (with_form s (text t))) else if y then Ok (reader (at + 1) (in_pair t) s) else if z then Ok (reader (at + 1) (in_text (t ++ b ∷ [])) s) else Err (BadText at))
judge_text b at t s le true y z ex ey ez = (
  ap (λ x. lexical (if x then faults.outside else if b == 92 then after_backslash else in_quotes) (length s.lists)) (sym ex),
  omega arith,
  le,
  fine_inside in_quotes (length s.lists) b (λ h. cc) (λ bad. bad.0 (eqb-true b 34 ex)),
)
judge_text b at t s le false true z ex ey ez = (
  ap (λ x. lexical (if x then faults.outside else if true then after_backslash else in_quotes) (length s.lists)) (sym ex) ∙ ap (λ y. lexical (if b == 34 then faults.outside else if y then after_backslash else in_quotes) (length s.lists)) (sym ey),
  omega arith,
  le,
  fine_inside in_quotes (length s.lists) b (λ h. cc) (λ bad. bad.1 (eqb-true b 92 ey)),
)
judge_text b at t s le false false true ex ey ez = (
  ap (λ x. lexical (if x then faults.outside else if false then after_backslash else in_quotes) (length s.lists)) (sym ex) ∙ ap (λ y. lexical (if b == 34 then faults.outside else if y then after_backslash else in_quotes) (length s.lists)) (sym ey),
  omega arith,
  le,
  fine_inside in_quotes (length s.lists) b (λ h. cc) (λ bad. bad.2 ez),
)
judge_text b at t s le false false false ex ey ez = ((eqb-false b 34 ex, eqb-false b 92 ey, λ h. cc), refl)

judge_pair : (b at : ℕ) (t : List ℕ) (s : Stack) → length s.lists ≤ 200 → (o : Option ℕ) → meaning b ≡ o → Judges after_backslash (length s.lists) b at (step_pair o t at s)
judge_pair b at t s le None is = (is, refl)
judge_pair b at t s le (Some c) is = (refl, omega arith, le, fine_inside after_backslash (length s.lists) b (λ h. cc) (λ bad. let no : meaning b ≡ None = bad in absurd (cc)))

judge_step : (b at : ℕ) (mode : Mode) (s : Stack) → length s.lists ≤ 200 → Judges (part_of mode) (length s.lists) b at (step b at mode s)
unfolding step
judge_step b at outside s le = judge_outside b at s le (kind_of b) refl
judge_step b at comment s le = judge_comment b at s le (b == 10) refl
judge_step b at (in_word w) s le = judge_word b at w s le (kind_of b) refl
judge_step b at (in_text t) s le = judge_text b at t s le (b == 34) (b == 92) (is_plain b) refl refl refl
judge_step b at (in_pair t) s le = judge_pair b at t s le (meaning b) refl

-- the end is a fault where a list or a text is open
abbrev JudgesEnd : Part → ℕ → ℕ → Result (List Tree) FormError → Type 0
JudgesEnd part n at (Ok ts) = ¬ IsOpen part n
JudgesEnd part n at (Err e) = (e ≡ Unclosed at) × IsOpen part n

judge_lists : (at : ℕ) (lists : List (List Tree)) (forms : List Tree) → JudgesEnd faults.outside (length lists) at (ended at lists forms)
judge_lists at [] forms = λ h. omega arith
judge_lists at (o ∷ os) forms = (refl, omega arith)

judge_comment_end : (at : ℕ) (lists : List (List Tree)) (forms : List Tree) → JudgesEnd in_comment (length lists) at (ended at lists forms)
judge_comment_end at [] forms = λ h. omega arith
judge_comment_end at (o ∷ os) forms = (refl, omega arith)

judge_end : (at : ℕ) (mode : Mode) (s : Stack) → JudgesEnd (part_of mode) (length s.lists) at (finish at mode s)
unfolding finish
judge_end at outside s = judge_lists at s.lists s.forms
judge_end at comment s = judge_comment_end at s.lists s.forms
judge_end at (in_word w) s = judge_lists at s.lists (s.forms ++ word w ∷ [])
judge_end at (in_text t) s = (refl, tt)
judge_end at (in_pair t) s = (refl, tt)

-- what is left of a list from a place on
drop_tells : (xs : List ℕ) (p b : ℕ) (rest : List ℕ) → drop p xs ≡ b ∷ rest → (slice_get xs p ≡ Some b) × (drop (suc p) xs ≡ rest) × (p < length xs)
drop_tells [] zero b rest e = absurd (cc)
drop_tells [] (suc p) b rest e = absurd (cc)
drop_tells (x ∷ xs) zero b rest e = let same : x ≡ b = cc in let after : xs ≡ rest = cc in (ap (λ c. Some c) same, after, omega arith)
drop_tells (x ∷ xs) (suc p) b rest e = let h = drop_tells xs p b rest e in (h.0, h.1, omega arith)

within : (xs : List ℕ) (p b : ℕ) → slice_get xs p ≡ Some b → p < length xs
within [] p b e = absurd (cc)
within (x ∷ xs) zero b e = omega arith
within (x ∷ xs) (suc p) b e = let h = within xs p b e in omega arith

state_at-suc : (bs : List ℕ) (p b : ℕ) → slice_get bs p ≡ Some b → state_at bs (suc p) ≡ moved b (state_at bs p).part (state_at bs p).depth
unfolding state_at
state_at-suc bs p b e = ap (λ o. moved_by o (state_at bs p)) e

split_by : (m n : ℕ) (t : Bool) → nat_lt m n ≡ t → m ≤ n → (suc m ≤ n) ⊎ (n ≡ m)
split_by m n true e h = inl (ltb-true m n e)
split_by m n false e h = inr (omega (arith, ltb-false m n e))

-- a fault at a place or after it, where the byte of that place is none, stands after it
later : (bs : List ℕ) (p b : ℕ) → slice_get bs p ≡ Some b → p < length bs → ((e : FormError) → ¬ IsBad (state_at bs p) b e) → (e : FormError) → IsFault bs e → p ≤ place_of e → suc p ≤ place_of e
later bs p b is lt good e (a_byte {b = c} there bad) le = ⊎_elim (λ h. h) (λ h. absurd (here h)) (split_by p (place_of e) (nat_lt p (place_of e)) refl le)
  where
    here : place_of e ≡ p → ⊥
    here h =
        let found : Some c ≡ Some b = sym there ∙ ap (slice_get bs) h ∙ is in
        let same : c ≡ b = cc in
        good e (subst (λ x. IsBad (state_at bs p) x e) same (subst (λ q. IsBad (state_at bs q) c e) h bad))
later bs p b is lt good e (the_end same opened) le = let at_end : place_of e ≡ length bs = ap place_of same in omega arith

abbrev pub Judged : List ℕ → Result (List Tree) FormError → Type 0
Judged bs (Ok ts) = (e : FormError) → ¬ IsFault bs e
Judged bs (Err e) = IsFirstFault bs e

-- at the end
none_at_end : (bs : List ℕ) (p : ℕ) → p ≡ length bs → (mode : Mode) (s : Stack) → state_of mode s ≡ state_at bs p → ((e : FormError) → IsFault bs e → p ≤ place_of e) → ¬ IsOpen (part_of mode) (length s.lists) → (e : FormError) → ¬ IsFault bs e
none_at_end bs p at_end mode s state after shut e (a_byte {b = b} there bad) = absurd (omega (arith, within bs (place_of e) b there, after e (a_byte there bad)))
none_at_end bs p at_end mode s state after shut e (the_end same opened) = shut (subst (λ (l : Lexical). IsOpen l.part l.depth) (ap (state_at bs) (sym at_end) ∙ sym state) opened)

judge_nil : (bs : List ℕ) (p : ℕ) → p ≡ length bs → (mode : Mode) (s : Stack) → state_of mode s ≡ state_at bs p → ((e : FormError) → IsFault bs e → p ≤ place_of e) → (r : Result (List Tree) FormError) → JudgesEnd (part_of mode) (length s.lists) p r → Judged bs r
judge_nil bs p at_end mode s state after (Ok ts) shut = none_at_end bs p at_end mode s state after shut
judge_nil bs p at_end mode s state after (Err e) (same, opened) = record {
  fault = the_end (same ∙ ap (λ q. Unclosed q) at_end) (subst (λ (l : Lexical). IsOpen l.part l.depth) (state ∙ ap (state_at bs) at_end) opened);
  first = λ f h. let le : p ≤ place_of f = after f h in let q : place_of e ≡ p = ap place_of same in omega arith;
}

-- what holds of the bytes from a place on
abbrev Judging : List ℕ → List ℕ → Type 0
Judging bs rest =
    (p : ℕ) → drop p bs ≡ rest → p ≤ length bs → (mode : Mode) (s : Stack) → state_of mode s ≡ state_at bs p → length s.lists ≤ 200 → ((e : FormError) → IsFault bs e → p ≤ place_of e) → Judged bs (run rest p mode s)

judge_on : (bs : List ℕ) (b : ℕ) (rest : List ℕ) → Judging bs rest → (p : ℕ) → slice_get bs p ≡ Some b → drop (suc p) bs ≡ rest → p < length bs → (mode : Mode) (s : Stack) → state_of mode s ≡ state_at bs p
    → ((e : FormError) → IsFault bs e → p ≤ place_of e) → (r : Result Reader FormError) → Judges (part_of mode) (length s.lists) b p r → Judged bs (and_then r (go_on rest))
judge_on bs b rest judging p is left lt mode s state after (Ok r) (next, at, room, good) =
    let here = λ (e : FormError) (h : IsBad (state_at bs p) b e). good e (subst (λ (l : Lexical). IsBad l b e) (sym state) h) in
    subst (λ q. Judged bs (run rest q r.mode r.held)) (sym at)
    (judging (suc p) left lt r.mode r.held (next ∙ ap (λ (l : Lexical). moved b l.part l.depth) state ∙ sym (state_at-suc bs p b is)) room (λ e f. later bs p b is lt here e f (after e f)))
judge_on bs b rest judging p is left lt mode s state after (Err e) (bad, at) = record {
  fault = a_byte (ap (slice_get bs) at ∙ is) (subst (λ (l : Lexical). IsBad l b e) (state ∙ ap (state_at bs) (sym at)) bad);
  first = λ f h. let le : p ≤ place_of f = after f h in omega arith;
}

pub judge : (bs rest : List ℕ) → Judging bs rest
unfolding run
judge bs [] p left le mode s state room after =
    let at_end : p ≡ length bs = omega (arith, length-drop p bs, ap length left) in
    judge_nil bs p at_end mode s state after (finish p mode s) (judge_end p mode s)
judge bs (b ∷ rest) p left le mode s state room after =
    let h = drop_tells bs p b rest left in
    judge_on bs b rest (judge bs rest) p h.0 h.1 h.2 mode s state after (step b p mode s) (judge_step b p mode s room)

-- what is read has no fault, and a fault that is answered is the first one
pub judge_all : (bs : List ℕ) → Judged bs (read_all bs)
unfolding state_at
judge_all bs = judge bs bs 0 refl (omega arith) outside (stack [] []) refl (omega arith) (λ e f. omega arith)

-- faults at one place are one fault
fault_number : FormError → ℕ
fault_number (BadByte p) = 0
fault_number (Unopened p) = 1
fault_number (Unclosed p) = 2
fault_number (BadText p) = 3
fault_number (TooDeep p) = 4
fault_number NoMemory = 5

bad_number : Part → ByteKind → ℕ
bad_number faults.outside Other = 0
bad_number faults.outside Closing = 1
bad_number faults.outside k = 4
bad_number part k = 3

numbered : (part : Part) (n b : ℕ) (e : FormError) → IsBad (lexical part n) b e → fault_number e ≡ bad_number part (kind_of b)
unfolding fault_number bad_number
numbered part n b (BadByte p) bad = sym (ap₂ bad_number bad.0 bad.1)
numbered part n b (Unopened p) bad = sym (ap₂ bad_number bad.0 bad.1)
numbered part n b (Unclosed p) bad = absurd bad
numbered faults.outside n b (BadText p) bad = absurd bad
numbered in_comment n b (BadText p) bad = absurd bad
numbered in_quotes n b (BadText p) bad = refl
numbered after_backslash n b (BadText p) bad = refl
numbered part n b (TooDeep p) bad = sym (ap₂ bad_number bad.0 bad.1)
numbered part n b NoMemory bad = absurd bad

same_fault : (e f : FormError) → fault_number e ≡ fault_number f → place_of e ≡ place_of f → e ≡ f
unfolding fault_number
same_fault (BadByte p) (BadByte q) number place = ap (λ p. BadByte p) place
same_fault (Unopened p) (Unopened q) number place = ap (λ p. Unopened p) place
same_fault (Unclosed p) (Unclosed q) number place = ap (λ p. Unclosed p) place
same_fault (BadText p) (BadText q) number place = ap (λ p. BadText p) place
same_fault (TooDeep p) (TooDeep q) number place = ap (λ p. TooDeep p) place
same_fault NoMemory NoMemory number place = refl
same_fault e f number place = absurd (omega arith)

pub one_fault : (bs : List ℕ) (e f : FormError) → IsFault bs e → IsFault bs f → place_of e ≡ place_of f → e ≡ f
one_fault bs e f (a_byte {b = b} is bad) (a_byte {b = c} is' bad') place =
    let found : Some c ≡ Some b = sym is' ∙ ap (slice_get bs) (sym place) ∙ is in
    let same : c ≡ b = cc in
    let moved : IsBad (state_at bs (place_of e)) b f = subst (λ x. IsBad (state_at bs (place_of e)) x f) same (subst (λ q. IsBad (state_at bs q) c f) (sym place) bad') in
    same_fault e f (numbered (state_at bs (place_of e)).part (state_at bs (place_of e)).depth b e bad ∙ sym (numbered (state_at bs (place_of e)).part (state_at bs (place_of e)).depth b f moved)) place
one_fault bs e f (a_byte {b = b} is bad) (the_end same opened) place = let at_end : place_of f ≡ length bs = ap place_of same in absurd (omega (arith, within bs (place_of e) b is))
one_fault bs e f (the_end same opened) (a_byte {b = b} is bad) place = let at_end : place_of e ≡ length bs = ap place_of same in absurd (omega (arith, within bs (place_of f) b is))
one_fault bs e f (the_end same opened) (the_end same' opened') place = same ∙ sym same'
