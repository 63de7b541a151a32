-- Bytes that end with a line feed spell the same forms where other bytes follow them.
use Rattle.std.proofs.Common.{◌≡◌, ◌≢◌, ℕ, suc, zero, ◌+◌, ◌<◌, ◌≤◌, List, [], ◌∷◌, ◌++◌, append-nil, append_assoc, length, take, drop, get_or, refl, sym, ap, ◌∙◌, subst, arith}
use Rattle.std.specs.List.{All}
use Rattle.std.proofs.lemmas.List.{get_or-take, get_or-drop}
use Rattle.std.proofs.lemmas.List.Elements.{All-head, All-tail}
use Rattle.tau_sexpr.specs.Bytes.{is_word_byte, is_letter_or_digit, is_word_sign, IsWordByte}
use Rattle.tau_sexpr.specs.Tree.{Tree, Trees, word, more, inside, items_of, items_of-inside}
use Rattle.tau_sexpr.specs.Spelling.{EndsWord, EndsLine, Quotes, closing, plain, pair, Spells, at_end, at_closing, a_blank, a_comment, a_word, a_text, a_list, IsSpelling}
use Rattle.tau_text.specs.Inner.Partial.{EndsAfter, AreLines}

-- what is left of lines from some place on is lines
lines_tail : (last : ℕ) (bs : List ℕ) → EndsAfter last bs → AreLines bs
lines_tail last [] e = refl
lines_tail last (b ∷ bs) e = e

lines_behind : (last : ℕ) (xs ys : List ℕ) → EndsAfter last (xs ++ ys) → AreLines ys
lines_behind last [] ys e = lines_tail last ys e
lines_behind last (x ∷ xs) ys e = lines_behind x xs ys e

lines_after_quotes : {bs t rest : List ℕ} → Quotes bs t rest → AreLines bs → AreLines rest
lines_after_quotes (closing {rest = rest}) e = lines_tail 34 rest e
lines_after_quotes (plain {b = b} {bs = bs} is quotes) e = lines_after_quotes quotes (lines_tail b bs e)
lines_after_quotes (pair {b = b} {bs = bs} is quotes) e = lines_after_quotes quotes (lines_tail b bs e)

lines_after : {d : ℕ} {bs rest : List ℕ} {ts : Trees} → Spells d bs ts rest → AreLines bs → AreLines rest
lines_after at_end e = e
lines_after at_closing e = e
lines_after (a_blank {b = b} {bs = bs} is spelled) e = lines_after spelled (lines_tail b bs e)
lines_after (a_comment line bs all ends spelled) e = lines_after spelled (lines_behind 59 line bs e)
lines_after (a_word {b = b} w bs all ends spelled) e = lines_after spelled (lines_behind b w bs e)
lines_after (a_text {bs = bs} quotes spelled) e = lines_after spelled (lines_after_quotes quotes (lines_tail 34 bs e))
lines_after (a_list {bs = bs} {after = after} inner spelled) e = lines_after spelled (lines_tail 41 after (lines_after inner (lines_tail 40 bs e)))

-- bytes without a line feed are no lines
no_lines : (last : ℕ) (bs : List ℕ) → last ≢ 10 → All (λ b. b ≢ 10) bs → ¬ EndsAfter last bs
no_lines last [] n all e = n e
no_lines last (b ∷ bs) n all e = no_lines b bs (All-head (λ x. x ≢ 10) b bs all) (All-tail (λ x. x ≢ 10) b bs all) e

-- nor are the bytes of a word
no_word : (last : ℕ) (bs : List ℕ) → IsWordByte last → All IsWordByte bs → ¬ EndsAfter last bs
unfolding is_word_byte is_letter_or_digit is_word_sign
no_word last [] is all e = let at_ten : IsWordByte 10 = subst IsWordByte e is in cc
no_word last (b ∷ bs) is all e = no_word b bs (All-head IsWordByte b bs all) (All-tail IsWordByte b bs all) e

-- what ends a comment or a word ends it where more follows
line_more : (bs cs : List ℕ) → bs ≢ [] → EndsLine bs → EndsLine (bs ++ cs)
line_more [] cs some ends = absurd (some refl)
line_more (b ∷ bs) cs some ends = ends

word_more : (bs cs : List ℕ) → bs ≢ [] → EndsWord bs → EndsWord (bs ++ cs)
word_more [] cs some ends = absurd (some refl)
word_more (b ∷ bs) cs some ends = ends

quotes_more : {bs t rest : List ℕ} → Quotes bs t rest → (cs : List ℕ) → Quotes (bs ++ cs) t (rest ++ cs)
quotes_more closing cs = closing
quotes_more (plain is quotes) cs = plain is (quotes_more quotes cs)
quotes_more (pair is quotes) cs = pair is (quotes_more quotes cs)

-- no bytes leave none
nothing_left : {d : ℕ} {bs rest : List ℕ} {ts : Trees} → Spells d bs ts rest → bs ≡ [] → rest ≡ []
nothing_left at_end e = refl
nothing_left at_closing e = absurd (cc)
nothing_left (a_blank is spelled) e = absurd (cc)
nothing_left (a_comment line bs all ends spelled) e = absurd (cc)
nothing_left (a_word w bs all ends spelled) e = absurd (cc)
nothing_left (a_text quotes spelled) e = absurd (cc)
nothing_left (a_list inner spelled) e = absurd (cc)

-- forms inside a list, with more behind its end
inner_more : {d : ℕ} {bs rest : List ℕ} {ts : Trees} → Spells d bs ts rest → rest ≢ [] → (cs : List ℕ) → Spells d (bs ++ cs) ts (rest ++ cs)
inner_more at_end some cs = absurd (some refl)
inner_more at_closing some cs = at_closing
inner_more (a_blank is spelled) some cs = a_blank is (inner_more spelled some cs)
inner_more (a_comment {d = d} line bs {rest = rest} {ts = ts} all ends spelled) some cs =
    let more_behind = line_more bs cs (λ e. some (nothing_left spelled e)) ends in
    subst (λ x. Spells d (59 ∷ x) ts (rest ++ cs)) (sym (append_assoc line bs cs)) (a_comment line (bs ++ cs) all more_behind (inner_more spelled some cs))
inner_more (a_word {d = d} {b = b} w bs {rest = rest} {ts = ts} all ends spelled) some cs =
    let more_behind = word_more bs cs (λ e. some (nothing_left spelled e)) ends in
    subst (λ x. Spells d (b ∷ x) (more (word (b ∷ w)) ts) (rest ++ cs)) (sym (append_assoc w bs cs)) (a_word w (bs ++ cs) all more_behind (inner_more spelled some cs))
inner_more (a_text quotes spelled) some cs = a_text (quotes_more quotes cs) (inner_more spelled some cs)
inner_more (a_list inner spelled) some cs = a_list (inner_more inner (λ e. cc) cs) (inner_more spelled some cs)

-- lines, with bytes behind them
lines_more : {d : ℕ} {bs rest : List ℕ} {ts : Trees} (cs : List ℕ) (us : List Tree) → Spells d bs ts rest → rest ≡ [] → AreLines bs → Spells d cs (inside us) [] → Spells d (bs ++ cs) (inside (items_of ts ++ us)) []
lines_more cs us at_end none lines next = next
lines_more cs us at_closing none lines next = absurd (cc)
lines_more cs us (a_blank {b = b} {bs = bs} is spelled) none lines next = a_blank is (lines_more cs us spelled none (lines_tail b bs lines) next)
lines_more cs us (a_comment {d = d} line bs {ts = ts} all ends spelled) none lines next =
    let some : bs ≢ [] = λ e. no_lines 59 line (λ x. cc) all (subst (EndsAfter 59) (ap (λ x. line ++ x) e ∙ append-nil line) lines) in
    let behind = lines_more cs us spelled none (lines_behind 59 line bs lines) next in
    subst (λ x. Spells d (59 ∷ x) (inside (items_of ts ++ us)) []) (sym (append_assoc line bs cs)) (a_comment line (bs ++ cs) all (line_more bs cs some ends) behind)
lines_more cs us (a_word {d = d} {b = b} w bs {ts = ts} all ends spelled) none lines next =
    let some : bs ≢ [] = λ e. no_word b w (All-head IsWordByte b w all) (All-tail IsWordByte b w all) (subst (EndsAfter b) (ap (λ x. w ++ x) e ∙ append-nil w) lines) in
    let behind = lines_more cs us spelled none (lines_behind b w bs lines) next in
    subst (λ x. Spells d (b ∷ x) (more (word (b ∷ w)) (inside (items_of ts ++ us))) []) (sym (append_assoc w bs cs)) (a_word w (bs ++ cs) all (word_more bs cs some ends) behind)
lines_more cs us (a_text {bs = bs} quotes spelled) none lines next =
    a_text (quotes_more quotes cs) (lines_more cs us spelled none (lines_after_quotes quotes (lines_tail 34 bs lines)) next)
lines_more cs us (a_list {bs = bs} {after = after} inner spelled) none lines next =
    a_list (inner_more inner (λ e. cc) cs) (lines_more cs us spelled none (lines_tail 41 after (lines_after inner (lines_tail 40 bs lines))) next)

-- lines and bytes behind them spell the forms of both
pub spelled_behind : (bs cs : List ℕ) (ts us : List Tree) → AreLines bs → IsSpelling bs ts → IsSpelling cs us → IsSpelling (bs ++ cs) (ts ++ us)
spelled_behind bs cs ts us lines one two =
    subst (λ x. Spells 200 (bs ++ cs) (inside (x ++ us)) []) (items_of-inside ts) (lines_more cs us one refl lines two)

-- lines and lines behind them are lines
both_end : (last : ℕ) (bs cs : List ℕ) → EndsAfter last bs → AreLines cs → EndsAfter last (bs ++ cs)
both_end last [] cs e lines = subst (λ l. EndsAfter l cs) (sym e) lines
both_end last (b ∷ bs) cs e lines = both_end b bs cs e lines

pub lines_behind_lines : (bs cs : List ℕ) → AreLines bs → AreLines cs → AreLines (bs ++ cs)
lines_behind_lines bs cs one two = both_end 10 bs cs one two

-- the bytes up to and with a line feed
lines_to : (last : ℕ) (bs : List ℕ) (k : ℕ) → k < length bs → get_or bs k 0 ≡ 10 → EndsAfter last (take (suc k) bs)
lines_to last [] k l e = absurd (omega arith)
lines_to last (b ∷ bs) zero l e = e
lines_to last (b ∷ bs) (suc k) l e = lines_to b bs k (omega arith) e

-- are lines
pub lines_up_to : (bs : List ℕ) (n k : ℕ) → n ≡ k + 1 → k < length bs → get_or bs k 0 ≡ 10 → AreLines (take n bs)
lines_up_to bs n k e l at = subst (λ m. AreLines (take m bs)) (sym (let same : n ≡ suc k = omega (arith, e) in same)) (lines_to 10 bs k l at)

-- the same of the bytes of a front, and of those behind one
pub lines_in_front : (bs : List ℕ) (m k : ℕ) → k < m → m ≤ length bs → get_or (take m bs) k 0 ≡ 10 → AreLines (take (k + 1) bs)
lines_in_front bs m k l w at = lines_up_to bs (k + 1) k refl (omega (arith, l, w)) (sym (get_or-take m bs k 0 l) ∙ at)

pub lines_past_front : (bs : List ℕ) (m k : ℕ) → m + k < length bs → get_or (drop m bs) k 0 ≡ 10 → AreLines (take (m + k + 1) bs)
lines_past_front bs m k l at = lines_up_to bs (m + k + 1) (m + k) refl l (sym (get_or-drop m bs k 0) ∙ at)
