-- The forms of saved states, transactor by transactor.
use Rattle.std.proofs.Common.{◌≡◌, ◌≢◌, ℕ, suc, ◌^◌, ◌<◌, Bool, true, false, cond, ltb, List, [], ◌∷◌, ◌++◌, length, append-nil, All, Some, refl, sym, ap, ◌∙◌, subst, arith, eqb-true, eq-eqb}
use Rattle.std.specs.Prelude.{slice_get, codes, ◌||◌, ◌==◌}
use Rattle.std.proofs.lemmas.List.Elements.{All-nil, All-cons, All-append, All-map}
use Rattle.tau_sexpr.specs.Tree.{Tree, depths-append, HasWords}
use Rattle.tau_value.specs.declared.shared.Value.{Value}
use Rattle.tau_value.specs.Value.{val_of}
use Rattle.tau_value.specs.Sizes.{IsInBounds}
use Rattle.tau_value.specs.Written.{IsWritten}
use Rattle.tau_value.proofs.WrittenLemmas.{number_nonempty, decimal_filled}
use Rattle.tau_history.specs.Timeline.{interval}
use Rattle.tau_tree.specs.declared.programs.Program.{Program}
use Rattle.tau_tree.specs.Sound.{Sound}
use Rattle.tau_trace.specs.declared.opening.Opening.{Opening}
use Rattle.tau_trace.specs.Run.{Run, len, starts}
use Rattle.tau_trace.specs.Numbering.{born}
use Rattle.tau_trace.specs.Histories.{history, move_at, is_close}
use Rattle.tau_trace.specs.Known.{WellFormed}
use Rattle.tau_trace.proofs.Counts.{count-le}
use Rattle.tau_trace.proofs.Counted.{counted}
use Rattle.tau_trace.proofs.Indexing.{born-le}
use Rattle.tau_states.specs.declared.state_record.StateRecord.{StateRecord}
use Rattle.tau_states.specs.Opening.{opening_states}
use Rattle.tau_states.specs.Table.{Holds}
use Rattle.tau_states.specs.Answers.{IsSavedAfter}
use Rattle.tau_states.proofs.Reading as reading
use Rattle.tau_states.proofs.Bounds.{saved_bounded}
use Rattle.tau_states.proofs.Tables.{one_at_most}
use Rattle.tau_report.specs.declared.counts.Counts.{Counts}
use Rattle.tau_report.specs.Report.{HasSaved, IsSavedForm, SavedForms, none, without, with_one, count_of, counts_form, IsReport}
use Rattle.tau_report.specs.Inner.Rows.{saved_form, is_unlisted, saved_row, IsRowWritten, counts_tree, ArePrintable, AreRows}
use Rattle.tau_report.specs.Inner.Counted.{IsSurvey}
use Rattle.tau_report.proofs.Counting.{counts_fit}

few_intervals : (T : Run) (t : ℕ) → WellFormed T → interval (history T t (len T)) < 2 ^ 64
few_intervals T t w = omega (arith, (counted T t (len T)).interval_is, count-le (λ j. is_close (move_at T t j)) (len T), one_at_most (ltb t (starts T)), w.few_steps)

few_transactors : (T : Run) (t : ℕ) → WellFormed T → t < born T (len T) → t < 2 ^ 64
few_transactors T t w l = omega (arith, l, born-le T (len T), w.opening.few_names, w.few_steps)

module _ (P : Program) (T : Run) (rs : List StateRecord) (h : Holds T (opening_states P.starts) rs) (t : ℕ) (r : StateRecord) (e : Some r ≡ slice_get rs t) where
  living_flag : is_unlisted r ≡ false → r.ended ≡ false
  living_flag u = by r.ended refl where
    by : (b : Bool) → r.ended ≡ b → b ≡ false
    by true is = let both = sym (ap (λ b. b || (r.interval == 0)) is) ∙ u in cc
    by false is = refl

  unlisted : is_unlisted r ≡ true → ¬ HasSaved T t
  unlisted u has = by r.ended refl where
    by : (b : Bool) → r.ended ≡ b → ⊥
    by true is = reading.ended_is T (opening_states P.starts) rs h t r e is (record { exists = has.exists; living = has.living })
    by false is = reading.at_first T (opening_states P.starts) rs h t r e (eqb-true r.interval 0 (sym (ap (λ b. b || (r.interval == 0)) is) ∙ u)) (record { exists = has.exists; closed = has.closed })

  not_first : is_unlisted r ≡ false → ¬ (r.interval ≡ 0)
  not_first u z = let both = sym (ap (λ b. b || (r.interval == 0)) (living_flag u)) ∙ u in let at = eq-eqb r.interval 0 z in cc

  saved_value : is_unlisted r ≡ false → IsSavedAfter T (opening_states P.starts) t (Some r.base)
  saved_value u = reading.saved_is T (opening_states P.starts) rs h t r e (not_first u)

  listed : is_unlisted r ≡ false → IsSavedForm P T t (saved_form T.opening t r.interval r.base)
  listed u =
      let s = saved_value u in
      record {
        has = record { exists = s.1; closed = omega (arith, s.2); living = reading.living_is T (opening_states P.starts) rs h t r e (living_flag u) };
        before = s.0;
        interval_is = s.2;
        value = r.base;
        saved = s.3;
        form_is = ap (λ n. saved_form T.opening t n r.base) ((h.each t r (sym e)).interval ∙ s.2);
      }

  row : (fs : List Tree) → SavedForms P T t fs → SavedForms P T (suc t) (fs ++ saved_row T.opening t r)
  row fs s = by (is_unlisted r) refl where
    by : (b : Bool) → is_unlisted r ≡ b → SavedForms P T (suc t) (fs ++ cond b [] (saved_form T.opening t r.interval r.base ∷ []))
    by true u = subst (SavedForms P T (suc t)) (sym (append-nil fs)) (without (unlisted u) s)
    by false u = with_one (listed u) s

  row_printable : (fs : List Tree) → WellFormed T → All (λ v. IsInBounds (val_of v)) (opening_states P.starts) → IsRowWritten T.opening r → ArePrintable fs → ArePrintable (fs ++ saved_row T.opening t r)
  row_printable fs w bounded written p = by (is_unlisted r) refl where
    by : (b : Bool) → is_unlisted r ≡ b → ArePrintable (fs ++ cond b [] (saved_form T.opening t r.interval r.base ∷ []))
    by true u = subst ArePrintable (sym (append-nil fs)) p
    by false u =
        let is : IsWritten T.opening.names (val_of r.base) = written u in
        let form = saved_form T.opening t r.interval r.base in
        let small = saved_bounded T (opening_states P.starts) w bounded t (saved_value u).0 r.base (saved_value u).3 in
        let words : HasWords (saved_form T.opening t r.interval r.base) = ((λ x. cc), (number_nonempty T.opening.names t w.opening.names (few_transactors T t w (saved_value u).1), (decimal_filled r.interval (omega (arith, few_intervals T t w, (h.each t r (sym e)).interval)), (is.words, tt)))) in
        record {
          depth = omega (arith, depths-append fs (saved_form T.opening t r.interval r.base ∷ []), p.depth, is.depth, small.1);
          words = All-append HasWords fs (form ∷ []) p.words (All-cons HasWords form [] words (All-nil HasWords));
        }

pub rows_none : (o : Opening) (rs : List StateRecord) → AreRows o rs 0 []
rows_none o rs P T w same bounded h = (none, record { depth = omega arith; words = All-nil HasWords })

pub rows_more : (o : Opening) (rs : List StateRecord) (t : ℕ) (r : StateRecord) (fs : List Tree) → Some r ≡ slice_get rs t → IsRowWritten o r → AreRows o rs t fs → AreRows o rs (suc t) (fs ++ saved_row o t r)
rows_more o rs t r fs e written rows P T w same bounded h =
    let Q : Opening → Type 0 = λ x. IsRowWritten x r → SavedForms P T (suc t) (fs ++ saved_row x t r) × ArePrintable (fs ++ saved_row x t r) in
    let before = rows P T w same bounded h in
    subst Q same (λ is. (row P T rs h t r e fs before.0, row_printable P T rs h t r e fs w bounded is before.1)) written

counts_words : (c : Counts) → c.checkpoints < 2 ^ 64 → c.holds < 2 ^ 64 → c.drops < 2 ^ 64 → c.falls < 2 ^ 64 → c.losses < 2 ^ 64 → HasWords (counts_tree c)
counts_words c a b d f l = ((λ x. cc), (one (codes "checkpoints") c.checkpoints (λ x. cc) a, (one (codes "holds") c.holds (λ x. cc) b, (one (codes "drops") c.drops (λ x. cc) d, (one (codes "falls") c.falls (λ x. cc) f, (one (codes "losses") c.losses (λ x. cc) l, tt)))))) where
  one : (name : List ℕ) (n : ℕ) → name ≢ [] → n < 2 ^ 64 → HasWords (count_of name n)
  one name n not small = (not, (decimal_filled n small, tt))

pub counts_printable : (fs : List Tree) (c : Counts) → c.checkpoints < 2 ^ 64 → c.holds < 2 ^ 64 → c.drops < 2 ^ 64 → c.falls < 2 ^ 64 → c.losses < 2 ^ 64 → ArePrintable fs → ArePrintable (fs ++ counts_tree c ∷ [])
counts_printable fs c a b d f l p = record {
  depth = omega (arith, depths-append fs (counts_tree c ∷ []), p.depth);
  words = All-append HasWords fs (counts_tree c ∷ []) p.words (All-cons HasWords (counts_tree c) [] (counts_words c a b d f l) (All-nil HasWords));
}

pub opening_bounded : (P : Program) → Sound P → All (λ v. IsInBounds (val_of v)) (opening_states P.starts)
opening_bounded P s = All-map (λ v. IsInBounds (val_of v)) (λ x. x.state) P.starts s.states_bounded

-- the saved states and the counts together are the report
pub report_is : (P : Program) (T : Run) (o : Opening) (rs records : List StateRecord) (c : Counts) (fs : List Tree) → Sound P → WellFormed T → IsSurvey T (opening_states P.starts) rs c → o ≡ T.opening → records ≡ rs → AreRows o records (length records) fs → IsReport P T (fs ++ counts_tree c ∷ []) × ArePrintable (fs ++ counts_tree c ∷ [])
report_is P T o rs records c fs sound w x opening_is records_are rows =
    let bounded = opening_bounded P sound in
    let h : Holds T (opening_states P.starts) records = subst (Holds T (opening_states P.starts)) (sym records_are) x.holds in
    let both = rows P T w (sym opening_is) bounded h in
    let Q : ℕ → Type 0 = λ n. SavedForms P T n fs in
    let fits = counts_fit T c x.counts_are w.few_steps in (
      record {
        saved = fs;
        saved_are = subst Q h.count both.0;
        is = ap (λ y. fs ++ counts_tree y ∷ []) x.counts_are;
      },
      counts_printable fs c fits.0 fits.1 fits.2 fits.3 fits.4 both.1,
    )

-- and so are the counts alone
pub counts_told : (T : Run) (opening : List Value) (rs : List StateRecord) (c : Counts) (tree : Tree) → WellFormed T → IsSurvey T opening rs c → tree ≡ counts_tree c → (tree ≡ counts_form T) × HasWords tree
counts_told T opening rs c tree w x is =
    let fits = counts_fit T c x.counts_are w.few_steps in
    (is ∙ ap counts_tree x.counts_are, subst HasWords (sym is) (counts_words c fits.0 fits.1 fits.2 fits.3 fits.4))

pub few_records : (T : Run) (opening : List Value) (rs records : List StateRecord) → WellFormed T → Holds T opening rs → records ≡ rs → length records < 2 ^ 32
few_records T opening rs records w h e = omega (arith, ap length e, h.count, born-le T (len T), w.opening.few_names, w.few_steps)
