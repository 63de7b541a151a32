-- A run text that is read in parts: what more bytes tell behind those that were read.
use Rattle.std.proofs.Common.{◌≡◌, ◌≢◌, ◌⊎◌, ⊎_elim, ℕ, suc, ◌-◌, ◌<◌, ◌≤◌, nat_lt, true, false, List, [], ◌∷◌, ◌++◌, append-nil, append_assoc, length, take, drop, map, refl, sym, ap, ◌∙◌, subst, arith, codes}
use Rattle.std.proofs.lemmas.Bool.{cases_Bool, lt-ltb, le-ltb}
use Rattle.std.proofs.lemmas.List.{take-map, take-append-drop, drop_all}
use Rattle.tau_sexpr.specs.Form.{tree_of}
use Rattle.tau_sexpr.specs.Tree.{Tree}
use Rattle.tau_sexpr.specs.Spelling.{IsSpelling}
use Rattle.tau_sexpr.specs.declared.trees.Form.{Form}
use Rattle.tau_tree.specs.Sound.{Sound}
use Rattle.tau_tree.specs.declared.programs.Program.{Program}
use Rattle.tau_forms.specs.Meaning.{Means}
use Rattle.tau_trace.specs.Run.{Run}
use Rattle.tau_script.specs.Openings.{program_opening}
use Rattle.tau_steps.specs.Meaning.{MeansSteps}
use Rattle.tau_text.specs.Meaning.{IsRunInput, IsPrintInput, MeansRun}
use Rattle.tau_text.specs.Parts.{is_mark, is_marked, before, behind, program_forms, step_forms}
use Rattle.tau_text.specs.Inner.Partial.{AreLines, IsReadFrom}
use Rattle.tau_text.specs.declared.by_parts.PartialText.{PartialText}
use Rattle.tau_text.proofs.LineLemmas.{spelled_behind, lines_behind_lines}
use Rattle.tau_text.proofs.PartLemmas.{before_mark, before_other, behind_mark, behind_other, any_mark, any_other, before_le, before_taken, behind_dropped, marked_below, unmarked_all}

-- a mark among forms is among those that go on with others
pub marked_more : (w : List ℕ) (ts us : List Tree) → is_marked w ts ≡ true → is_marked w (ts ++ us) ≡ true
marked_more w [] us e = absurd (cc)
marked_more w (t ∷ ts) us e = ⊎_elim
    (λ m. any_mark w t (ts ++ us) m)
    (λ m. any_other w t (ts ++ us) m ∙ marked_more w ts us (sym (any_other w t ts m) ∙ e))
    (cases_Bool (is_mark w t))

-- and the forms before it stay
pub before_more : (w : List ℕ) (ts us : List Tree) → is_marked w ts ≡ true → before w (ts ++ us) ≡ before w ts
before_more w [] us e = absurd (cc)
before_more w (t ∷ ts) us e = ⊎_elim
    (λ m. before_mark w t (ts ++ us) m ∙ sym (before_mark w t ts m))
    (λ m. before_other w t (ts ++ us) m ∙ ap (λ b. t ∷ b) (before_more w ts us (sym (any_other w t ts m) ∙ e)) ∙ sym (before_other w t ts m))
    (cases_Bool (is_mark w t))

pub behind_more : (w : List ℕ) (ts us : List Tree) → is_marked w ts ≡ true → behind w (ts ++ us) ≡ behind w ts ++ us
behind_more w [] us e = absurd (cc)
behind_more w (t ∷ ts) us e = ⊎_elim
    (λ m. behind_mark w t (ts ++ us) m ∙ ap (λ b. b ++ us) (sym (behind_mark w t ts m)))
    (λ m. behind_other w t (ts ++ us) m ∙ behind_more w ts us (sym (any_other w t ts m) ∙ e) ∙ ap (λ b. b ++ us) (sym (behind_other w t ts m)))
    (cases_Bool (is_mark w t))

-- forms without a mark stand before the first one behind them
pub before_later : (w : List ℕ) (ts us : List Tree) → is_marked w ts ≡ false → before w (ts ++ us) ≡ ts ++ before w us
before_later w [] us e = refl
before_later w (t ∷ ts) us e = ⊎_elim
    (λ m. absurd (let other : true ≡ false = sym (any_mark w t ts m) ∙ e in cc))
    (λ m. before_other w t (ts ++ us) m ∙ ap (λ b. t ∷ b) (before_later w ts us (sym (any_other w t ts m) ∙ e)))
    (cases_Bool (is_mark w t))

pub before_none : (w : List ℕ) (ts : List Tree) → is_marked w ts ≡ false → before w ts ≡ ts
before_none w [] e = refl
before_none w (t ∷ ts) e = ⊎_elim
    (λ m. absurd (let other : true ≡ false = sym (any_mark w t ts m) ∙ e in cc))
    (λ m. before_other w t ts m ∙ ap (λ b. t ∷ b) (before_none w ts (sym (any_other w t ts m) ∙ e)))
    (cases_Bool (is_mark w t))

pub marked_later : (w : List ℕ) (ts us : List Tree) → is_marked w ts ≡ false → is_marked w (ts ++ us) ≡ is_marked w us
marked_later w [] us e = refl
marked_later w (t ∷ ts) us e = ⊎_elim
    (λ m. absurd (let other : true ≡ false = sym (any_mark w t ts m) ∙ e in cc))
    (λ m. any_other w t (ts ++ us) m ∙ marked_later w ts us (sym (any_other w t ts m) ∙ e))
    (cases_Bool (is_mark w t))

-- whether there is a mark, by the number of forms before it
pub marked_tells : (w : List ℕ) (ts : List Tree) → nat_lt (length (before w ts)) (length ts) ≡ is_marked w ts
marked_tells w ts = ⊎_elim
    (λ l. lt-ltb (length (before w ts)) (length ts) l ∙ sym (marked_below w ts l))
    (λ g. le-ltb (length (before w ts)) (length ts) g ∙ sym (unmarked_all w ts (omega (arith, g, before_le w ts))))
    (cases (length (before w ts)) (length ts))
  where
    cases : (a b : ℕ) → (a < b) ⊎ (b ≤ a)
    cases a b = grind arith

-- no form is behind a mark that is the last one
pub none_behind_last : (w : List ℕ) (ts : List Tree) → length ts - length (before w ts) ≡ 1 → behind w ts ≡ []
none_behind_last w ts e = sym (behind_dropped w ts) ∙ drop_all (suc (length (before w ts))) ts (omega (arith, e))

-- the forms before a mark, as the first so many of a list
pub forms_before : (w : List ℕ) (fs : List Form) (ts : List Tree) (n : ℕ) → map tree_of fs ≡ ts → n ≡ length (before w (map tree_of fs)) → map tree_of (take n fs) ≡ before w ts
forms_before w fs ts n e c =
    sym (take-map tree_of n fs) ∙ ap (λ k. take k (map tree_of fs)) c ∙ before_taken w (map tree_of fs) ∙ ap (before w) e

-- what is read means the run of the text
pub run_read : (bytes : List ℕ) (t : PartialText) → IsReadFrom bytes t → IsRunInput bytes t.text.program t.text.trace.run
run_read bytes t r = record { forms = r.forms; spelled = r.spelled; means = r.means }

-- a text that `check` takes means the same program as `print` takes it
pub printed_run : (bytes : List ℕ) (p : Program) (T : Run) → IsRunInput bytes p T → IsPrintInput bytes p
printed_run bytes p T m = record { forms = m.forms; spelled = m.spelled; run = T; means = m.means.1 }

-- behind `(report)` forms tell nothing more
pub over_more : (bs cs : List ℕ) (t : PartialText) (us : List Tree) → AreLines bs → IsReadFrom bs t → t.has_report ≡ true → IsSpelling cs us → IsReadFrom (bs ++ cs) t
over_more bs cs t us lines r over spelled =
    let ts = r.forms in
    let p = t.text.program in
    let T = t.text.trace.run in
    let marked = r.means.0 in
    let there : is_marked (codes "report") (behind (codes "trace") ts) ≡ true = sym r.over ∙ over in
    let rest : behind (codes "trace") (ts ++ us) ≡ behind (codes "trace") ts ++ us = behind_more (codes "trace") ts us marked in
    let program : program_forms (ts ++ us) ≡ program_forms ts = before_more (codes "trace") ts us marked in
    let steps : step_forms (ts ++ us) ≡ step_forms ts = ap (before (codes "report")) rest ∙ before_more (codes "report") (behind (codes "trace") ts) us there in
    let means : MeansRun (ts ++ us) p T = record {
      program = subst (λ x. Means x p) (sym program) r.means.1.program;
      steps = subst (λ x. MeansSteps (program_opening p) x T) (sym steps) r.means.1.steps;
    } in
    record {
      forms = ts ++ us;
      spelled = spelled_behind bs cs ts us lines r.spelled spelled;
      means = (marked_more (codes "trace") ts us marked, means);
      sound = r.sound;
      over = over ∙ sym (ap (is_marked (codes "report")) rest ∙ marked_more (codes "report") (behind (codes "trace") ts) us there);
    }

-- before it, the forms up to it are more steps
pub steps_more : (bs cs : List ℕ) (t u : PartialText) (us : List Tree) → AreLines bs → (r : IsReadFrom bs t) → t.has_report ≡ false → IsSpelling cs us → u.text.program ≡ t.text.program → u.has_report ≡ is_marked (codes "report") us
    → MeansSteps (program_opening t.text.program) (step_forms r.forms ++ before (codes "report") us) u.text.trace.run → IsReadFrom (bs ++ cs) u
steps_more bs cs t u us lines r over spelled same over_now more_steps =
    let ts = r.forms in
    let p = u.text.program in
    let T = u.text.trace.run in
    let marked = r.means.0 in
    let here : List Tree = behind (codes "trace") ts in
    let none : is_marked (codes "report") here ≡ false = sym r.over ∙ over in
    let rest : behind (codes "trace") (ts ++ us) ≡ here ++ us = behind_more (codes "trace") ts us marked in
    let program : program_forms (ts ++ us) ≡ program_forms ts = before_more (codes "trace") ts us marked in
    let later : step_forms (ts ++ us) ≡ here ++ before (codes "report") us = ap (before (codes "report")) rest ∙ before_later (codes "report") here us none in
    let steps : step_forms (ts ++ us) ≡ step_forms ts ++ before (codes "report") us = later ∙ ap (λ x. x ++ before (codes "report") us) (sym (before_none (codes "report") here none)) in
    let means : MeansRun (ts ++ us) p T = record {
      program = subst (λ x. Means (program_forms (ts ++ us)) x) (sym same) (subst (λ x. Means x t.text.program) (sym program) r.means.1.program);
      steps = subst (λ x. MeansSteps (program_opening x) (step_forms (ts ++ us)) T) (sym same) (subst (λ x. MeansSteps (program_opening t.text.program) x T) (sym steps) more_steps);
    } in
    record {
      forms = ts ++ us;
      spelled = spelled_behind bs cs ts us lines r.spelled spelled;
      means = (marked_more (codes "trace") ts us marked, means);
      sound = subst Sound (sym same) r.sound;
      over = over_now ∙ sym (ap (is_marked (codes "report")) rest ∙ marked_later (codes "report") here us none);
    }

-- the bytes before a rest are read, and are whole lines where there is a rest
pub record IsReadUpTo (bytes rest : List ℕ) (t : PartialText) : Type 0 where
  pub front : List ℕ
  pub is : bytes ≡ front ++ rest
  pub lines : rest ≢ [] → AreLines front
  pub read : IsReadFrom front t

-- one part more
pub part_more : (bytes rest part left : List ℕ) (t u : PartialText) (n : ℕ) → (n < length rest → AreLines (take n rest)) → part ≡ take n rest → left ≡ drop n rest → rest ≢ []
    → ((before : List ℕ) → AreLines before → IsReadFrom before t → IsReadFrom (before ++ part) u) → IsReadUpTo bytes rest t → IsReadUpTo bytes left u
part_more bytes rest part left t u n short taken dropped some more r = record {
  front = r.front ++ part;
  is = r.is ∙ ap (λ x. r.front ++ x) whole ∙ sym (append_assoc r.front part left);
  lines = λ more_left. lines_behind_lines r.front part (r.lines some) (subst AreLines (sym taken) (short (within more_left)));
  read = more r.front (r.lines some) r.read;
}
  where
    whole : rest ≡ part ++ left
    whole = sym (take-append-drop n rest) ∙ (λ i. sym taken i ++ sym dropped i)

    cases : (a b : ℕ) → (a < b) ⊎ (b ≤ a)
    cases a b = grind arith

    within : left ≢ [] → n < length rest
    within l = ⊎_elim (λ x. x) (λ g. absurd (l (dropped ∙ drop_all n rest g))) (cases n (length rest))

-- no rest
pub all_read : (bytes rest : List ℕ) (t : PartialText) → rest ≡ [] → IsReadUpTo bytes rest t → IsReadFrom bytes t
all_read bytes rest t none r = subst (λ x. IsReadFrom x t) (sym (r.is ∙ ap (λ x. r.front ++ x) none ∙ append-nil r.front)) r.read
