-- What the reader reads is spelled so.
use Rattle.std.proofs.Common.{◌≡◌, ◌≢◌, ℕ, zero, suc, ◌+◌, ◌==◌, nat_lt, Bool, true, false, if◌then◌else◌, List, [], ◌∷◌, ◌++◌, length, Option, Some, None, Ok, Err, refl, sym, ap, subst, ◌∙◌, arith, append_assoc, append-nil}
use Rattle.std.specs.List.{All}
use Rattle.std.proofs.lemmas.List.Elements.{All-nil, All-cons}
use Rattle.std.proofs.lemmas.Bool.{eqb-true}
use borrow.Author.Tests.{eqb-false, ltb-true}
use Rattle.tau_sexpr.specs.Tree.{Tree, Trees, word, text, list, none, more, inside, items_of, inside-items_of}
use Rattle.tau_sexpr.specs.Bytes.{is_word_byte, IsWordByte}
use Rattle.tau_sexpr.specs.Kinds.{kind_of, is_plain, meaning}
use Rattle.tau_sexpr.specs.Spelling.{EndsWord, EndsLine, Quotes, closing, plain, pair, Spells, at_end, at_closing, a_blank, a_comment, a_word, a_text, a_list, IsSpelling}
use Rattle.tau_sexpr.specs.Inner.Reader.{stack, reader, outside, comment, in_word, in_text, in_pair, step, step_outside, step_pair, ended, closed, finish, and_then, run, read_all}
use Rattle.tau_sexpr.specs.declared.bytes.ByteKind.{ByteKind}
use Rattle.tau_sexpr.specs.declared.bytes.ByteKind.TheVariants.{Blank, Semicolon, Opening, Closing, Quote, OfWord, Other}
use Rattle.tau_sexpr.specs.declared.faults.FormError.TheVariants.{BadText, TooDeep}
use Rattle.tau_sexpr.proofs.KindLemmas.{kind_is, line_feed_blank}
use Rattle.tau_sexpr.proofs.RunLemmas.{go_on, run_outside, run_word_end, word_goes_on}

-- the bytes spell what follows the forms at hand, at the top or up to a closing bracket and what comes after it
record Top (d : ℕ) (forms : List Tree) (bs : List ℕ) (r : List Tree) : Type 0 where
  us : Trees
  spelled : Spells d bs us []
  is : r ≡ forms ++ items_of us

record Inner (d : ℕ) (outer forms : List Tree) (bs : List ℕ) (Later : List Tree → List ℕ → Type 0) : Type 0 where
  us : Trees
  rest : List ℕ
  spelled : Spells d bs us (41 ∷ rest)
  later : Later (outer ++ list (inside (forms ++ items_of us)) ∷ []) rest

abbrev Goes : List (List Tree) → ℕ → List Tree → List ℕ → List Tree → Type 0
Goes [] d forms bs r = Top d forms bs r
Goes (o ∷ os) d forms bs r = Inner d o forms bs (λ ts rest. Goes os (suc d) ts rest r)

-- bytes before, with no form
before : (lists : List (List Tree)) (d : ℕ) (forms : List Tree) (bs cs : List ℕ) (r : List Tree) → ((us : Trees) (rest : List ℕ) → Spells d bs us rest → Spells d cs us rest) → Goes lists d forms bs r → Goes lists d forms cs r
before [] d forms bs cs r step g = record { us = g.us; spelled = step g.us [] g.spelled; is = g.is }
before (o ∷ os) d forms bs cs r step g = record { us = g.us; rest = g.rest; spelled = step g.us (41 ∷ g.rest) g.spelled; later = g.later }

-- bytes before, with a form
with_first : (lists : List (List Tree)) (d : ℕ) (forms : List Tree) (t : Tree) (bs cs : List ℕ) (r : List Tree) → ((us : Trees) (rest : List ℕ) → Spells d bs us rest → Spells d cs (more t us) rest) → Goes lists d (forms ++ t ∷ []) bs r → Goes lists d forms cs r
with_first [] d forms t bs cs r step g = record { us = more t g.us; spelled = step g.us [] g.spelled; is = g.is ∙ append_assoc forms (t ∷ []) (items_of g.us) }
with_first (o ∷ os) d forms t bs cs r step g = record {
  us = more t g.us;
  rest = g.rest;
  spelled = step g.us (41 ∷ g.rest) g.spelled;
  later = subst (λ ts. Goes os (suc d) (o ++ list (inside ts) ∷ []) g.rest r) (append_assoc forms (t ∷ []) (items_of g.us)) g.later;
}

record CommentGoes (lists : List (List Tree)) (d : ℕ) (forms : List Tree) (bs : List ℕ) (r : List Tree) : Type 0 where
  line : List ℕ
  rest : List ℕ
  is : bs ≡ line ++ rest
  all : All (λ b. b ≢ 10) line
  ends : EndsLine rest
  goes : Goes lists d forms rest r

record WordGoes (w : List ℕ) (lists : List (List Tree)) (d : ℕ) (forms : List Tree) (bs : List ℕ) (r : List Tree) : Type 0 where
  v : List ℕ
  rest : List ℕ
  is : bs ≡ v ++ rest
  all : All IsWordByte v
  ends : EndsWord rest
  goes : Goes lists d (forms ++ word (w ++ v) ∷ []) rest r

record TextGoes (u : List ℕ) (lists : List (List Tree)) (d : ℕ) (forms : List Tree) (bs : List ℕ) (r : List Tree) : Type 0 where
  t : List ℕ
  rest : List ℕ
  quotes : Quotes bs t rest
  goes : Goes lists d (forms ++ text (u ++ t) ∷ []) rest r

record PairGoes (u : List ℕ) (lists : List (List Tree)) (d : ℕ) (forms : List Tree) (bs : List ℕ) (r : List Tree) : Type 0 where
  byte : ℕ
  means : ℕ
  after : List ℕ
  is : bs ≡ byte ∷ after
  pair_is : meaning byte ≡ Some means
  goes : TextGoes (u ++ means ∷ []) lists d forms after r

-- whatever the reader is in, what it reads of these bytes is spelled by them
record Sound (bs : List ℕ) : Type 0 where
  at_outside : (at : ℕ) (lists : List (List Tree)) (forms r : List Tree) → run bs at outside (stack lists forms) ≡ Ok r → (d : ℕ) → length lists + d ≡ 200 → Goes lists d forms bs r
  at_comment : (at : ℕ) (lists : List (List Tree)) (forms r : List Tree) → run bs at comment (stack lists forms) ≡ Ok r → (d : ℕ) → length lists + d ≡ 200 → CommentGoes lists d forms bs r
  at_word : (w : List ℕ) (at : ℕ) (lists : List (List Tree)) (forms r : List Tree) → run bs at (in_word w) (stack lists forms) ≡ Ok r → (d : ℕ) → length lists + d ≡ 200 → WordGoes w lists d forms bs r
  at_text : (u : List ℕ) (at : ℕ) (lists : List (List Tree)) (forms r : List Tree) → run bs at (in_text u) (stack lists forms) ≡ Ok r → (d : ℕ) → length lists + d ≡ 200 → TextGoes u lists d forms bs r
  at_pair : (u : List ℕ) (at : ℕ) (lists : List (List Tree)) (forms r : List Tree) → run bs at (in_pair u) (stack lists forms) ≡ Ok r → (d : ℕ) → length lists + d ≡ 200 → PairGoes u lists d forms bs r

-- the end
ends_top : (lists : List (List Tree)) (at : ℕ) (forms r : List Tree) → ended at lists forms ≡ Ok r → (d : ℕ) → Goes lists d forms [] r
ends_top [] at forms r e d =
    let same : forms ≡ r = cc in
    record { us = none; spelled = at_end; is = sym same ∙ sym (append-nil forms) }
ends_top (o ∷ os) at forms r e d = absurd (cc)

sound_end : Sound []
unfolding run finish
sound_end = record {
  at_outside = λ at lists forms r e d depth. ends_top lists at forms r e d;
  at_comment = λ at lists forms r e d depth. record { line = []; rest = []; is = refl; all = All-nil (λ b. b ≢ 10); ends = tt; goes = ends_top lists at forms r e d };
  at_word = λ w at lists forms r e d depth. record {
    v = [];
    rest = [];
    is = refl;
    all = All-nil IsWordByte;
    ends = tt;
    goes = subst (λ v. Goes lists d (forms ++ word v ∷ []) [] r) (sym (append-nil w)) (ends_top lists at (forms ++ word w ∷ []) r e d);
  };
  at_text = λ u at lists forms r e d depth. absurd (cc);
  at_pair = λ u at lists forms r e d depth. absurd (cc);
}

-- an opening bracket
opens : (b : ℕ) (bs : List ℕ) → Sound bs → b ≡ 40 → (at : ℕ) (lists : List (List Tree)) (forms r : List Tree) (t : Bool) → nat_lt (length lists) 200 ≡ t
    → and_then (if t then Ok (reader (at + 1) outside (stack (forms ∷ lists) [])) else Err (TooDeep at)) (go_on bs) ≡ Ok r → (d : ℕ) → length lists + d ≡ 200 → Goes lists d forms (b ∷ bs) r
opens b bs S is at lists forms r false test e d depth = absurd (cc)
opens b bs S is at lists forms r true test e zero depth = absurd (omega (arith, ltb-true (length lists) 200 test))
opens b bs S is at lists forms r true test e (suc d) depth =
    let deeper : length (forms ∷ lists) + d ≡ 200 = omega arith in
    let g = S.at_outside (at + 1) (forms ∷ lists) [] r e d deeper in
    with_first lists (suc d) forms (list g.us) g.rest (b ∷ bs) r
    (λ vs rest spelled. subst (λ c. Spells (suc d) (c ∷ bs) (more (list g.us) vs) rest) (sym is) (a_list g.spelled spelled))
    (subst (λ vs. Goes lists (suc d) (forms ++ list vs ∷ []) g.rest r) (inside-items_of g.us) g.later)

-- a closing bracket
closes : (b : ℕ) (bs : List ℕ) → Sound bs → b ≡ 41 → (at : ℕ) (lists : List (List Tree)) (forms r : List Tree) → and_then (closed at lists forms) (go_on bs) ≡ Ok r → (d : ℕ) → length lists + d ≡ 200 → Goes lists d forms (b ∷ bs) r
closes b bs S is at [] forms r e d depth = absurd (cc)
closes b bs S is at (o ∷ os) forms r e d depth =
    let above : length os + suc d ≡ 200 = omega arith in
    record {
      us = none;
      rest = bs;
      spelled = subst (λ c. Spells d (c ∷ bs) none (41 ∷ bs)) (sym is) at_closing;
      later = subst (λ ts. Goes os (suc d) (o ++ list (inside ts) ∷ []) bs r) (sym (append-nil forms)) (S.at_outside (at + 1) os (o ++ list (inside forms) ∷ []) r e (suc d) above);
    }

-- a byte outside, by its kind
outside_by : (b : ℕ) (bs : List ℕ) → Sound bs → (at : ℕ) (lists : List (List Tree)) (forms r : List Tree) (k : ByteKind) → kind_of b ≡ k → and_then (step_outside k b at (stack lists forms)) (go_on bs) ≡ Ok r
    → (d : ℕ) → length lists + d ≡ 200 → Goes lists d forms (b ∷ bs) r
outside_by b bs S at lists forms r Blank is e d depth =
    before lists d forms bs (b ∷ bs) r (λ us rest spelled. a_blank (kind_is b Blank is) spelled) (S.at_outside (at + 1) lists forms r e d depth)
outside_by b bs S at lists forms r Semicolon is e d depth =
    let g = S.at_comment (at + 1) lists forms r e d depth in
    let whole : 59 ∷ (g.line ++ g.rest) ≡ b ∷ bs = ap (λ c. c ∷ (g.line ++ g.rest)) (sym (kind_is b Semicolon is)) ∙ ap (λ cs. b ∷ cs) (sym g.is) in
    before lists d forms g.rest (b ∷ bs) r (λ us rest spelled. subst (λ cs. Spells d cs us rest) whole (a_comment g.line g.rest g.all g.ends spelled)) g.goes
outside_by b bs S at lists forms r Opening is e d depth = opens b bs S (kind_is b Opening is) at lists forms r (nat_lt (length lists) 200) refl e d depth
outside_by b bs S at lists forms r Closing is e d depth = closes b bs S (kind_is b Closing is) at lists forms r e d depth
outside_by b bs S at lists forms r Quote is e d depth =
    let g = S.at_text [] (at + 1) lists forms r e d depth in
    with_first lists d forms (text g.t) g.rest (b ∷ bs) r
    (λ us rest spelled. subst (λ c. Spells d (c ∷ bs) (more (text g.t) us) rest) (sym (kind_is b Quote is)) (a_text g.quotes spelled)) g.goes
outside_by b bs S at lists forms r OfWord is e d depth =
    let g = S.at_word (b ∷ []) (at + 1) lists forms r e d depth in
    with_first lists d forms (word (b ∷ g.v)) g.rest (b ∷ bs) r
    (λ us rest spelled. subst (λ cs. Spells d (b ∷ cs) (more (word (b ∷ g.v)) us) rest) (sym g.is) (a_word g.v g.rest (All-cons IsWordByte b g.v (kind_is b OfWord is) g.all) g.ends spelled)) g.goes
outside_by b bs S at lists forms r Other is e d depth = absurd (cc)

sound_outside : (b : ℕ) (bs : List ℕ) → Sound bs → (at : ℕ) (lists : List (List Tree)) (forms r : List Tree) → run (b ∷ bs) at outside (stack lists forms) ≡ Ok r → (d : ℕ) → length lists + d ≡ 200 → Goes lists d forms (b ∷ bs) r
sound_outside b bs S at lists forms r e d depth = outside_by b bs S at lists forms r (kind_of b) refl (sym (run_outside b bs at (stack lists forms) (kind_of b) refl) ∙ e) d depth

-- a byte in a comment, by whether it is a line feed
comment_by : (b : ℕ) (bs : List ℕ) → Sound bs → (at : ℕ) (lists : List (List Tree)) (forms r : List Tree) (t : Bool) → (b == 10) ≡ t → run bs (at + 1) (if t then outside else comment) (stack lists forms) ≡ Ok r
    → (d : ℕ) → length lists + d ≡ 200 → CommentGoes lists d forms (b ∷ bs) r
comment_by b bs S at lists forms r true test e d depth = record {
  line = [];
  rest = b ∷ bs;
  is = refl;
  all = All-nil (λ b. b ≢ 10);
  ends = eqb-true b 10 test;
  goes = before lists d forms bs (b ∷ bs) r (λ us rest spelled. a_blank (line_feed_blank b (eqb-true b 10 test)) spelled) (S.at_outside (at + 1) lists forms r e d depth);
}
comment_by b bs S at lists forms r false test e d depth =
    let g = S.at_comment (at + 1) lists forms r e d depth in
    record { line = b ∷ g.line; rest = g.rest; is = ap (λ cs. b ∷ cs) g.is; all = All-cons (λ b. b ≢ 10) b g.line (eqb-false b 10 test) g.all; ends = g.ends; goes = g.goes }

-- a byte after a word that has begun, by whether the word goes on
word_by : (b : ℕ) (bs : List ℕ) → Sound bs → (w : List ℕ) (at : ℕ) (lists : List (List Tree)) (forms r : List Tree) (t : Bool) → is_word_byte b ≡ t → run (b ∷ bs) at (in_word w) (stack lists forms) ≡ Ok r
    → (d : ℕ) → length lists + d ≡ 200 → WordGoes w lists d forms (b ∷ bs) r
word_by b bs S w at lists forms r true test e d depth =
    let g = S.at_word (w ++ b ∷ []) (at + 1) lists forms r (sym (word_goes_on b bs w at (stack lists forms) test) ∙ e) d depth in
    record {
      v = b ∷ g.v;
      rest = g.rest;
      is = ap (λ cs. b ∷ cs) g.is;
      all = All-cons IsWordByte b g.v test g.all;
      ends = g.ends;
      goes = subst (λ v. Goes lists d (forms ++ word v ∷ []) g.rest r) (append_assoc w (b ∷ []) g.v) g.goes;
    }
word_by b bs S w at lists forms r false test e d depth =
    let over : ¬ IsWordByte b = λ h. cc in
    record {
      v = [];
      rest = b ∷ bs;
      is = refl;
      all = All-nil IsWordByte;
      ends = over;
      goes = subst (λ v. Goes lists d (forms ++ word v ∷ []) (b ∷ bs) r) (sym (append-nil w))
          (sound_outside b bs S at lists (forms ++ word w ∷ []) r (sym (run_word_end (b ∷ bs) w at (stack lists forms) over) ∙ e) d depth);
    }

-- a byte in a text, by the tests that are made of it
text_by : (b : ℕ) (bs : List ℕ) → Sound bs → (u : List ℕ) (at : ℕ) (lists : List (List Tree)) (forms r : List Tree) (x y z : Bool) → (b == 34) ≡ x → (b == 92) ≡ y → is_plain b ≡ z
    → and_then (if x then Ok (reader (at + 1) outside (stack lists (forms ++ text u ∷ []))) else if y then Ok (reader (at + 1) (in_pair u) (stack lists forms)) else if z then Ok (reader (at + 1) (in_text (u ++ b ∷ [])) (stack lists forms)) else Err (BadText at)) (go_on bs) ≡ Ok r
    → (d : ℕ) → length lists + d ≡ 200 → TextGoes u lists d forms (b ∷ bs) r
text_by b bs S u at lists forms r true y z ex ey ez e d depth = record {
  t = [];
  rest = bs;
  quotes = subst (λ c. Quotes (c ∷ bs) [] bs) (sym (eqb-true b 34 ex)) closing;
  goes = subst (λ v. Goes lists d (forms ++ text v ∷ []) bs r) (sym (append-nil u)) (S.at_outside (at + 1) lists (forms ++ text u ∷ []) r e d depth);
}
text_by b bs S u at lists forms r false true z ex ey ez e d depth =
    let g = S.at_pair u (at + 1) lists forms r e d depth in
    let whole : 92 ∷ g.byte ∷ g.after ≡ b ∷ bs = ap (λ c. c ∷ g.byte ∷ g.after) (sym (eqb-true b 92 ey)) ∙ ap (λ cs. b ∷ cs) (sym g.is) in
    record {
      t = g.means ∷ g.goes.t;
      rest = g.goes.rest;
      quotes = subst (λ cs. Quotes cs (g.means ∷ g.goes.t) g.goes.rest) whole (pair g.pair_is g.goes.quotes);
      goes = subst (λ v. Goes lists d (forms ++ text v ∷ []) g.goes.rest r) (append_assoc u (g.means ∷ []) g.goes.t) g.goes.goes;
    }
text_by b bs S u at lists forms r false false true ex ey ez e d depth =
    let g = S.at_text (u ++ b ∷ []) (at + 1) lists forms r e d depth in
    record {
      t = b ∷ g.t;
      rest = g.rest;
      quotes = plain ez g.quotes;
      goes = subst (λ v. Goes lists d (forms ++ text v ∷ []) g.rest r) (append_assoc u (b ∷ []) g.t) g.goes;
    }
text_by b bs S u at lists forms r false false false ex ey ez e d depth = absurd (cc)

-- a byte after a backslash, by its meaning
pair_by : (b : ℕ) (bs : List ℕ) → Sound bs → (u : List ℕ) (at : ℕ) (lists : List (List Tree)) (forms r : List Tree) (o : Option ℕ) → meaning b ≡ o → and_then (step_pair o u at (stack lists forms)) (go_on bs) ≡ Ok r
    → (d : ℕ) → length lists + d ≡ 200 → PairGoes u lists d forms (b ∷ bs) r
pair_by b bs S u at lists forms r None is e d depth = absurd (cc)
pair_by b bs S u at lists forms r (Some c) is e d depth = record {
  byte = b;
  means = c;
  after = bs;
  is = refl;
  pair_is = is;
  goes = S.at_text (u ++ c ∷ []) (at + 1) lists forms r e d depth;
}

sound_more : (b : ℕ) (bs : List ℕ) → Sound bs → Sound (b ∷ bs)
unfolding run step
sound_more b bs S = record {
  at_outside = λ at lists forms r e d depth. sound_outside b bs S at lists forms r e d depth;
  at_comment = λ at lists forms r e d depth. comment_by b bs S at lists forms r (b == 10) refl e d depth;
  at_word = λ w at lists forms r e d depth. word_by b bs S w at lists forms r (is_word_byte b) refl e d depth;
  at_text = λ u at lists forms r e d depth. text_by b bs S u at lists forms r (b == 34) (b == 92) (is_plain b) refl refl refl e d depth;
  at_pair = λ u at lists forms r e d depth. pair_by b bs S u at lists forms r (meaning b) refl e d depth;
}

sound : (bs : List ℕ) → Sound bs
sound [] = sound_end
sound (b ∷ bs) = sound_more b bs (sound bs)

-- the forms that are read are spelled by the bytes
pub read_spells : (bs : List ℕ) (ts : List Tree) → read_all bs ≡ Ok ts → IsSpelling bs ts
read_spells bs ts e =
    let g = (sound bs).at_outside 0 [] [] ts e 200 refl in
    subst (λ us. Spells 200 bs us []) (sym (inside-items_of g.us) ∙ ap inside (sym g.is)) g.spelled
