-- Records stand for one program and one run at most.
use Rattle.std.proofs.Common.{◌≡◌, ◌⊎◌, ⊎_elim, ℕ, ◌+◌, ◌<◌, ◌≤◌, List, [], ◌∷◌, ◌++◌, length, take, Some, refl, sym, ap, ◌∙◌, subst, arith, codes}
use Rattle.std.specs.Prelude.{slice_get, All}
use Rattle.std.proofs.lemmas.List.{length_push, take_at, take-append-le}
use Rattle.std.proofs.lemmas.List.Elements.{All-nil, All-cons}
use Rattle.tau_sexpr.specs.Bytes.{IsWordByte, is_word_byte, is_letter_or_digit, is_word_sign}
use Rattle.tau_sexpr.specs.Tree.{Tree, word, list, none, more, HasWords}
use Rattle.tau_sexpr.specs.Printing.{printed, HasBytes}
use Rattle.tau_sexpr.specs.Spelling.{IsSpelling}
use Rattle.tau_sexpr.proofs.LawLemmas.{once}
use Rattle.tau_sexpr.proofs.Literals.{word_literal}
use Rattle.tau_sexpr.proofs.PrintLemmas.{spells_printed}
use Rattle.tau_tree.specs.declared.programs.Program.{Program}
use Rattle.tau_tree.specs.Sound.{Sound}
use Rattle.tau_forms.specs.Printed as forms
use Rattle.tau_trace.specs.declared.step.Step.{Step}
use Rattle.tau_trace.specs.Run.{Run, len, appended}
use Rattle.tau_trace.specs.Numbering.{born, sent, number_made}
use Rattle.tau_trace.proofs.Lists.{same_some, slice_get-front, slice_get-last}
use Rattle.tau_script.specs.declared.cursor.Cursor.{Cursor}
use Rattle.tau_script.proofs.Existing.{determined}
use Rattle.tau_steps.proofs.StepFormLemmas.{no_mark}
use Rattle.tau_text.specs.Meaning.{IsProgram}
use Rattle.tau_text.proofs.FaultLemmas.{program_unique}
use Rattle.tau_journal.specs.Records.{going_on}
use Rattle.tau_revival.specs.Revival.{IsRevival, revived}
use Rattle.tau_run_journal.specs.Standing.{form_behind, IsProgramText, IsStepText, opened, StandsFor, begins, stepped, resumed}
use Rattle.tau_run_journal.specs.Inner.Items.{IsFormed, MeansNext}
use Rattle.tau_run_journal.proofs.Steps.{means_more, one_step}

-- lists with one more at the end
push_same : {A : Type 0} (xs ys : List A) (x y : A) → xs ++ x ∷ [] ≡ ys ++ y ∷ [] → (xs ≡ ys) × (x ≡ y)
push_same xs ys x y e =
    let long : length xs ≡ length ys = omega (arith, length_push xs x, length_push ys y, ap length e) in
    let fronts : xs ≡ ys = sym (take_at xs (x ∷ []) (length xs) refl) ∙ ap (take (length xs)) e ∙ take_at ys (y ∷ []) (length xs) (sym long) in
    let ends : x ≡ y = same_some (sym (slice_get-last xs x) ∙ ap (λ zs. slice_get zs (length xs)) e ∙ ap (slice_get (ys ++ y ∷ [])) long ∙ slice_get-last ys y) in
    (fronts, ends)

pub first_same : {A : Type 0} (x y : A) → x ∷ [] ≡ y ∷ [] → x ≡ y
first_same x y e = cc

-- a text is one program's
one_program_text : (P Q : Program) (r q : List ℕ) → r ≡ q → IsProgramText P r → IsProgramText Q q → P ≡ Q
one_program_text P Q r q same one two = (program_unique q).one_meaning P Q (subst (λ (l : List ℕ). IsProgram l P) same one.read_back) two.read_back

-- what was read of a record is the program whose text it is, or it is none's
pub text_is : (P : Program) (r text : List ℕ) → Sound P → IsProgram r P → text ≡ printed (forms.printed P) → text ≡ r → IsProgramText P r
text_is P r text sound read is same = record { sound = sound; is = sym same ∙ is; read_back = read }

pub text_isnt : (P : Program) (r text : List ℕ) → IsProgram r P → text ≡ printed (forms.printed P) → (text ≡ r → ⊥) → (Q : Program) → ¬ IsProgramText Q r
text_isnt P r text read is differs Q other =
    let same : P ≡ Q = (program_unique r).one_meaning P Q read other.read_back in
    differs (is ∙ ap (λ (X : Program). printed (forms.printed X)) same ∙ sym other.is)

-- and one step's
one_step_text : (T : Run) → IsFormed T → (r : List ℕ) (s u : Step) → IsStepText T s r → IsStepText T u r → s ≡ u
one_step_text T formed r s u one two =
    let same : form_behind T s ≡ form_behind T u = first_same (form_behind T s) (form_behind T u) (once r (form_behind T s ∷ []) (form_behind T u ∷ []) one.spelled two.spelled) in
    one_step T formed one.may.few_steps (form_behind T u) s u (subst (λ (f : Tree). MeansNext T f s) same one.means) two.means

-- the record that says that the run went on spells a list of one word, which no step is written as
going_on_form : Tree
going_on_form = list (more (word (codes "resumed")) none)

resumed_bytes : All IsWordByte (codes "resumed")
unfolding is_word_byte is_letter_or_digit is_word_sign
resumed_bytes = word_literal (codes "resumed") refl

going_on_spelled : IsSpelling going_on (going_on_form ∷ [])
unfolding going_on_form
going_on_spelled = spells_printed (going_on_form ∷ []) (omega arith) (All-cons HasWords going_on_form [] (λ e. cc, tt) (All-nil HasWords)) (All-cons HasBytes going_on_form [] (resumed_bytes, tt) (All-nil HasBytes))

pub no_step_going_on : (T : Run) (s : Step) → IsStepText T s going_on → ⊥
unfolding going_on_form
no_step_going_on T s text =
    no_mark T.opening (number_made s (born T (len T)) (sent T (len T))) s (codes "resumed") (first_same (form_behind T s) going_on_form (once going_on (form_behind T s ∷ []) (going_on_form ∷ []) text.spelled going_on_spelled))

-- a program has one revival
one_revival : (P Q R : Program) (T : Run) → IsRevival P T Q → IsRevival P T R → Q ≡ R
one_revival P Q R T one two =
    let d = determined P.script T (len T) in
    let same : one.cursor ≡ two.cursor = (d.cursor_is one.cursor).0 one.stands ∙ sym ((d.cursor_is two.cursor).0 two.stands) in
    one.is ∙ ap (λ (c : Cursor). record P { script = revived P.script P.nodes (len T) c.entry }) same ∙ sym two.is

-- what one record more makes of a program and a run
pub data Follows (P : Program) (T : Run) (r : List ℕ) (Q : Program) (U : Run) : Type 0 where
  by_step : (s : Step) → IsStepText T s r → Q ≡ P → U ≡ appended T s → Follows P T r Q U
  by_mark : r ≡ going_on → IsRevival P T Q → U ≡ T → Follows P T r Q U

one_follows : (P : Program) (T : Run) → IsFormed T → (r : List ℕ) (Q R : Program) (U V : Run) → Follows P T r Q U → Follows P T r R V → (Q ≡ R) × (U ≡ V)
one_follows P T formed r Q R U V (by_step s text p u) (by_step t other q v) = (p ∙ sym q, u ∙ ap (appended T) (one_step_text T formed r s t text other) ∙ sym v)
one_follows P T formed r Q R U V (by_step s text p u) (by_mark is revival v) = absurd (no_step_going_on T s (subst (IsStepText T s) is text))
one_follows P T formed r Q R U V (by_mark is revival u) (by_step t other q v) = absurd (no_step_going_on T t (subst (IsStepText T t) is other))
one_follows P T formed r Q R U V (by_mark is revival u) (by_mark same other v) = (one_revival P Q R T revival other, u ∙ sym v)

-- records that stand for something are some, and their run is read from forms
pub some_stand : (rs : List (List ℕ)) (P : Program) (T : Run) → StandsFor rs P T → 1 ≤ length rs
some_stand all P T (begins text) = omega arith
some_stand all P T (stepped {rs = rs} {r = r} before text) = omega (arith, length_push rs r)
some_stand all P T (resumed {rs = rs} {r = r} before is revival) = omega (arith, length_push rs r)

pub formed_of : (rs : List (List ℕ)) (P : Program) (T : Run) → StandsFor rs P T → IsFormed T
formed_of all P T (begins text) = ([], record { opening = refl; count = refl; few = omega arith; each = λ k f s at is. absurd (cc) })
formed_of all P T (stepped {rs = rs} {T = U} {s = s} before text) =
    let formed = formed_of rs P U before in
    (formed.0 ++ form_behind U s ∷ [], means_more U formed.0 formed.1 text.may.few_steps (form_behind U s) s text.means)
formed_of all P T (resumed {rs = rs} {P = Q} before is revival) = formed_of rs Q T before

later_once : (rs qs : List (List ℕ)) (P Q : Program) (T U : Run) (r q : List ℕ) (R S : Program) (V W : Run) → (rs ≡ qs → (P ≡ Q) × (T ≡ U)) → IsFormed T → Follows P T r R V → Follows Q U q S W
    → rs ++ r ∷ [] ≡ qs ++ q ∷ [] → (R ≡ S) × (V ≡ W)
later_once rs qs P Q T U r q R S V W before formed one two e =
    let ends = push_same rs qs r q e in
    let same = before ends.0 in
    one_follows P T formed r R S V W one
    (subst (λ (l : List ℕ). Follows P T l S W) (sym ends.1) (subst (λ (X : Run). Follows P X q S W) (sym same.1) (subst (λ (X : Program). Follows X U q S W) (sym same.0) two)))

one_alone : (qs rs : List (List ℕ)) (r q : List ℕ) → 1 ≤ length qs → r ∷ [] ≡ qs ++ q ∷ [] → ⊥
one_alone qs rs r q some e = omega (arith, length_push qs q, ap length e, some)

-- they stand for one program and one run
pub stands_once : (rs qs : List (List ℕ)) (P Q : Program) (T U : Run) → StandsFor rs P T → StandsFor qs Q U → rs ≡ qs → (P ≡ Q) × (T ≡ U)
stands_once all every P Q T U (begins {r = r} one) (begins {r = q} two) e =
    let same = one_program_text P Q r q (first_same r q e) one two in
    (same, ap opened same)
stands_once all every P Q T U (begins {r = r} one) (stepped {rs = qs} {T = W} {r = q} before text) e = absurd (one_alone qs [] r q (some_stand qs Q W before) e)
stands_once all every P Q T U (begins {r = r} one) (resumed {rs = qs} {P = S} {r = q} before is revival) e = absurd (one_alone qs [] r q (some_stand qs S U before) e)
stands_once all every P Q T U (stepped {rs = rs} {T = V} {r = r} before text) (begins {r = q} two) e = absurd (one_alone rs [] q r (some_stand rs P V before) (sym e))
stands_once all every P Q T U (resumed {rs = rs} {P = R} {r = r} before is revival) (begins {r = q} two) e = absurd (one_alone rs [] q r (some_stand rs R T before) (sym e))
stands_once all every P Q T U (stepped {rs = rs} {T = V} {s = s} {r = r} before text) (stepped {rs = qs} {T = W} {s = t} {r = q} other told) e =
    later_once rs qs P Q V W r q P Q T U (λ d. stands_once rs qs P Q V W before other d) (formed_of rs P V before) (by_step s text refl refl) (by_step t told refl refl) e
stands_once all every P Q T U (stepped {rs = rs} {T = V} {s = s} {r = r} before text) (resumed {rs = qs} {P = S} {r = q} other is revival) e =
    later_once rs qs P S V U r q P Q T U (λ d. stands_once rs qs P S V U before other d) (formed_of rs P V before) (by_step s text refl refl) (by_mark is revival refl) e
stands_once all every P Q T U (resumed {rs = rs} {P = R} {r = r} before is revival) (stepped {rs = qs} {T = W} {s = t} {r = q} other told) e =
    later_once rs qs R Q T W r q P Q T U (λ d. stands_once rs qs R Q T W before other d) (formed_of rs R T before) (by_mark is revival refl) (by_step t told refl refl) e
stands_once all every P Q T U (resumed {rs = rs} {P = R} {r = r} before is revival) (resumed {rs = qs} {P = S} {r = q} other same redone) e =
    later_once rs qs R S T U r q P Q T U (λ d. stands_once rs qs R S T U before other d) (formed_of rs R T before) (by_mark is revival refl) (by_mark same redone refl) e

-- those before record k stand for something, of which the record makes more
pub record Before (rs : List (List ℕ)) (k : ℕ) : Type 0 where
  pub program : Program
  pub run : Run
  pub next : List ℕ
  pub after : Program
  pub run_after : Run
  pub stand : StandsFor (take k rs) program run
  pub next_is : slice_get rs k ≡ Some next
  pub follows : Follows program run next after run_after

below_or_last : (k n : ℕ) → k < n + 1 → (k < n) ⊎ (k ≡ n)
below_or_last k n lt = grind arith

before_push : (rs : List (List ℕ)) (r : List ℕ) (P Q : Program) (T U : Run) (k : ℕ) → StandsFor rs P T → Follows P T r Q U → (k < length rs → Before rs k) → k < length (rs ++ r ∷ []) → Before (rs ++ r ∷ []) k
before_push rs r P Q T U k stand follows earlier lt = ⊎_elim below last (below_or_last k (length rs) (omega (arith, lt, length_push rs r))) where
  below : k < length rs → Before (rs ++ r ∷ []) k
  below l =
      let b = earlier l in
      record {
        program = b.program;
        run = b.run;
        next = b.next;
        after = b.after;
        run_after = b.run_after;
        stand = subst (λ (l : List (List ℕ)). StandsFor l b.program b.run) (sym (take-append-le k rs (r ∷ []) (omega (arith, l)))) b.stand;
        next_is = sym (slice_get-front rs r k l) ∙ b.next_is;
        follows = b.follows;
      }

  last : k ≡ length rs → Before (rs ++ r ∷ []) k
  last e = record {
    program = P;
    run = T;
    next = r;
    after = Q;
    run_after = U;
    stand = subst (λ (l : List (List ℕ)). StandsFor l P T) (sym (take_at rs (r ∷ []) k (sym e))) stand;
    next_is = ap (slice_get (rs ++ r ∷ [])) e ∙ slice_get-last rs r;
    follows = follows;
  }

pub stands_before : (rs : List (List ℕ)) (P : Program) (T : Run) → StandsFor rs P T → (k : ℕ) → 1 ≤ k → k < length rs → Before rs k
stands_before all P T (begins text) k some lt = absurd (omega (arith, some, lt))
stands_before all P T (stepped {rs = rs} {T = U} {s = s} {r = r} before text) k some lt = before_push rs r P P U T k before (by_step s text refl refl) (λ l. stands_before rs P U before k some l) lt
stands_before all P T (resumed {rs = rs} {P = Q} {r = r} before is revival) k some lt = before_push rs r Q P T T k before (by_mark is revival refl) (λ l. stands_before rs Q T before k some l) lt

-- the first is the text of a program
pub record BeginsWith (rs : List (List ℕ)) : Type 0 where
  pub program : Program
  pub first : List ℕ
  pub first_is : slice_get rs 0 ≡ Some first
  pub text : IsProgramText program first

first_push : (rs : List (List ℕ)) (r : List ℕ) → 1 ≤ length rs → BeginsWith rs → BeginsWith (rs ++ r ∷ [])
first_push rs r some b = record { program = b.program; first = b.first; first_is = sym (slice_get-front rs r 0 (omega (arith, some))) ∙ b.first_is; text = b.text }

pub begins_with : (rs : List (List ℕ)) (P : Program) (T : Run) → StandsFor rs P T → BeginsWith rs
begins_with all P T (begins {r = r} text) = record { program = P; first = r; first_is = refl; text = text }
begins_with all P T (stepped {rs = rs} {T = U} {r = r} before text) = first_push rs r (some_stand rs P U before) (begins_with rs P U before)
begins_with all P T (resumed {rs = rs} {P = Q} {r = r} before is revival) = first_push rs r (some_stand rs Q T before) (begins_with rs Q T before)
