-- The texts that are put of saved states and counts.
use Rattle.std.proofs.Common.{◌≡◌, ℕ, suc, ◌^◌, ◌<◌, List, [], ◌∷◌, ◌++◌, length, append-nil, append_assoc, All, Some, refl, sym, ap, ◌∙◌, subst, arith}
use Rattle.std.specs.Prelude.{slice_get, codes}
use Rattle.std.specs.Fmt.{decimal}
use Rattle.std.proofs.lemmas.List.Elements.{All-nil, All-cons, All-append}
use Rattle.tau_sexpr.specs.Bytes.{is_word_byte, is_letter_or_digit, is_word_sign, IsWordByte}
use Rattle.tau_sexpr.specs.Tree.{Tree}
use Rattle.tau_sexpr.specs.Printing.{printed, HasBytes}
use Rattle.tau_sexpr.proofs.Literals.{word_literal}
use Rattle.tau_sexpr.proofs.PrintLemmas.{spells_printed, printed-append}
use Rattle.tau_value.proofs.NumberLemmas.{digits_are_word_bytes, decimal_digits}
use Rattle.tau_tree.specs.declared.programs.Program.{Program}
use Rattle.tau_tree.specs.Sound.{Sound}
use Rattle.tau_trace.specs.declared.opening.Opening.{Opening}
use Rattle.tau_trace.specs.Run.{Run}
use Rattle.tau_trace.specs.Known.{WellFormed}
use Rattle.tau_states.specs.declared.state_record.StateRecord.{StateRecord}
use Rattle.tau_states.specs.Opening.{opening_states}
use Rattle.tau_states.specs.Table.{Holds}
use Rattle.tau_report.specs.declared.counts.Counts.{Counts}
use Rattle.tau_report.specs.Report.{count_of, SavedForms, PutsSaved, PutsReport}
use Rattle.tau_report.specs.Inner.Counted.{IsSurvey}
use Rattle.tau_report.specs.Inner.Rows.{saved_row, IsRowWritten, counts_tree, PutsRows}
use Rattle.tau_report.proofs.Counting.{counts_fit}
use Rattle.tau_report.proofs.SavedRows.{rows_none, rows_more, opening_bounded, report_is}

-- no rows
pub puts_none : (o : Opening) (rs : List StateRecord) (old : List ℕ) → PutsRows o rs 0 old old
puts_none o rs old = record { forms = []; rows = rows_none o rs; text = sym (append-nil old); bytes = All-nil HasBytes }

-- forms behind forms
text_more : (xs ys : List Tree) (old now new : List ℕ) → now ≡ old ++ printed xs → new ≡ now ++ printed ys → new ≡ old ++ printed (xs ++ ys)
text_more xs ys old now new before here =
    here ∙ ap (λ bs. bs ++ printed ys) before ∙ append_assoc old (printed xs) (printed ys) ∙ ap (λ bs. old ++ bs) (sym (printed-append xs ys))

-- the row of one transactor more
pub puts_more : (o : Opening) (rs : List StateRecord) (t : ℕ) (r : StateRecord) (old now new : List ℕ) → Some r ≡ slice_get rs t → new ≡ now ++ printed (saved_row o t r) → All HasBytes (saved_row o t r) → IsRowWritten o r → PutsRows o rs t old now → PutsRows o rs (suc t) old new
puts_more o rs t r old now new e text bytes written before = record {
  forms = before.forms ++ saved_row o t r;
  rows = rows_more o rs t r before.forms e written before.rows;
  text = text_more before.forms (saved_row o t r) old now new before.text text;
  bytes = All-append HasBytes before.forms (saved_row o t r) before.bytes bytes;
}

-- the rows of all transactors are the text of the saved states
pub puts_saved : (P : Program) (T : Run) (o : Opening) (rs records : List StateRecord) (old new : List ℕ) → Sound P → WellFormed T → Holds T (opening_states P.starts) rs → o ≡ T.opening → records ≡ rs → PutsRows o records (length records) old new → PutsSaved P T old new
puts_saved P T o rs records old new sound w holds opening_is records_are rows =
    let h : Holds T (opening_states P.starts) records = subst (Holds T (opening_states P.starts)) (sym records_are) holds in
    let Q : ℕ → Type 0 = λ n. SavedForms P T n rows.forms in
    record { saved = rows.forms; saved_are = subst Q h.count (rows.rows P T w (sym opening_is) (opening_bounded P sound) h).0; text = rows.text }

-- a count with its word is of word bytes, and so are the counts
count_bytes : (name : List ℕ) (n : ℕ) → All IsWordByte name → n < 2 ^ 64 → HasBytes (count_of name n)
count_bytes name n bytes small = (bytes, (digits_are_word_bytes (decimal n) (decimal_digits n small), tt))

counts_bytes : (c : Counts) → c.checkpoints < 2 ^ 64 → c.holds < 2 ^ 64 → c.drops < 2 ^ 64 → c.falls < 2 ^ 64 → c.losses < 2 ^ 64 → HasBytes (counts_tree c)
unfolding is_word_byte is_letter_or_digit is_word_sign
counts_bytes c a b d f l =
    let checkpoints = count_bytes (codes "checkpoints") c.checkpoints (word_literal (codes "checkpoints") refl) a in
    let holds = count_bytes (codes "holds") c.holds (word_literal (codes "holds") refl) b in
    let drops = count_bytes (codes "drops") c.drops (word_literal (codes "drops") refl) d in
    let falls = count_bytes (codes "falls") c.falls (word_literal (codes "falls") refl) f in
    let losses = count_bytes (codes "losses") c.losses (word_literal (codes "losses") refl) l in
    (word_literal (codes "counts") refl, (checkpoints, (holds, (drops, (falls, (losses, tt))))))

-- the rows and the line of the counts behind them are the text of the report
pub puts_report : (P : Program) (T : Run) (o : Opening) (rs records : List StateRecord) (c : Counts) (tree : Tree) (old now new : List ℕ) → Sound P → WellFormed T → IsSurvey T (opening_states P.starts) rs c → o ≡ T.opening → records ≡ rs → tree ≡ counts_tree c → PutsRows o records (length records) old now → new ≡ now ++ printed (tree ∷ []) → PutsReport P T old new
puts_report P T o rs records c tree old now new sound w x opening_is records_are tree_is rows text =
    let forms = rows.forms ++ counts_tree c ∷ [] in
    let both = report_is P T o rs records c rows.forms sound w x opening_is records_are rows.rows in
    let fits = counts_fit T c x.counts_are w.few_steps in
    let counts : HasBytes (counts_tree c) = counts_bytes c fits.0 fits.1 fits.2 fits.3 fits.4 in
    let bytes : All HasBytes forms = All-append HasBytes rows.forms (counts_tree c ∷ []) rows.bytes (All-cons HasBytes (counts_tree c) [] counts (All-nil HasBytes)) in
    record {
      forms = forms;
      report = both.0;
      text = text_more rows.forms (counts_tree c ∷ []) old now new rows.text (text ∙ ap (λ t. now ++ printed (t ∷ [])) tree_is);
      spelled = spells_printed forms (omega (arith, both.1.depth)) both.1.words bytes;
    }
