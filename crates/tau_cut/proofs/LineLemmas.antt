-- The forms of marks and of kept states: how deep they are, and that no word of them is empty.
use Rattle.std.proofs.Common.{◌≡◌, ◌⊎◌, ◌↔◌, inl, inr, ⊎_elim, ℕ, suc, ◌+◌, ◌^◌, ◌<◌, ◌≤◌, Bool, true, false, List, [], ◌∷◌, ◌++◌, length, get_or, take, set, replicate, append-nil, append_assoc, All, Option, Some, None, refl, sym, ap, ◌∙◌, subst, arith}
use Rattle.std.specs.Prelude.{Contains, slice_get, codes}
use Rattle.std.proofs.lemmas.Option.{slice_get_within}
use Rattle.std.proofs.Math.ListN.{length-set}
use Rattle.std.proofs.lemmas.Bool.{cases_eq}
use Rattle.std.proofs.lemmas.List.{take_more, take_all, map_push, get_or_default}
use Rattle.std.proofs.lemmas.List.Elements.{All-nil, All-cons, All-append, All-contains, Contains-append_left, Contains-push, Contains-push_cases}
use Rattle.tau_points.proofs.Membership.{Contains-none}
use Rattle.tau_sexpr.specs.Tree.{Tree, word, list, headed, inside, depth_of, depths, depths-append, depth_of_all-inside, HasWords, AllHaveWords-inside}
use Rattle.tau_sexpr.specs.Printing.{printed}
use Rattle.tau_sexpr.proofs.PrintLemmas.{printed-append}
use Rattle.tau_value.specs.Written.{count_form}
use Rattle.tau_value.proofs.WrittenLemmas.{decimal_filled}
use Rattle.tau_explain.specs.declared.chains.chained.Chained.{Chained}
use Rattle.tau_tree.specs.declared.programs.Program.{Program}
use Rattle.tau_trace.specs.declared.opening.Opening.{Opening}
use Rattle.tau_trace.specs.declared.step.Step.TheVariants.{Checkpoint}
use Rattle.tau_trace.specs.Run.{Run, len}
use Rattle.tau_trace.proofs.Lists.{slice_get-set_same, slice_get-set_other}
use Rattle.tau_steps.specs.StepForms.{who_form, value_form}
use Rattle.tau_states.specs.Opening.{opening_states}
use Rattle.tau_explain.specs.Links.Marks.{IsMarked}
use Rattle.tau_explain.proofs.DependentLemmas.{none_marked}
use Rattle.tau_explain.specs.Texts.{point_form, chain_forms}
use Rattle.tau_explain.proofs.TextLemmas as points
use Rattle.tau_cut.specs.declared.cut.Marked.{Marked}
use Rattle.tau_cut.specs.declared.cut.Marked.TheVariants.{In, Out}
use Rattle.tau_cut.specs.Cuts.{places_in, IsCut}
use Rattle.tau_cut.specs.declared.states.Kept.{Kept}
use Rattle.tau_cut.specs.KeptStates.{KeepsWith, at_checkpoint as with_checkpoint, at_opening as with_opening, IsKeptState, AreKeptWith, StateForms, none, without, with_one, PutsStates}
use Rattle.tau_cut.specs.Texts.{mark_form, mark_forms, IsCutText}
use Rattle.tau_cut.specs.Inner.Marking.{MarksIn}
use Rattle.tau_cut.proofs.MarkLemmas.{in_place, in_mark}
use Rattle.tau_cut.specs.Inner.Keeping.{in_front, out_front, state_row, KeepsBelow, at_checkpoint, at_opening, IsKeptBelow, AreKept}

-- the forms of points of a chain, behind others

pub chain_start : (o : Opening) (cs : List Chained) (fs : List Tree) → points.ArePrintable fs → (fs ≡ fs ++ chain_forms o (take 0 cs)) × points.ArePrintable fs
chain_start o cs fs p = (sym (append-nil fs), p)

pub chain_more : (o : Opening) (cs : List Chained) (k : ℕ) (d : Chained) (front before after : List Tree) (t : Tree) → k < length cs → t ≡ point_form o (get_or cs k d) → depth_of t ≤ 1 → HasWords t → after ≡ before ++ t ∷ []
    → (before ≡ front ++ chain_forms o (take k cs)) × points.ArePrintable before → (after ≡ front ++ chain_forms o (take (k + 1) cs)) × points.ArePrintable after
chain_more o cs k d front before after t within is depth words add (are, printable) =
    let form = point_form o (get_or cs k d) in
    let more : chain_forms o (take (k + 1) cs) ≡ chain_forms o (take k cs) ++ form ∷ [] = ap (chain_forms o) (take_more cs k d within) ∙ map_push (point_form o) (take k cs) (get_or cs k d) in (
      add ∙ ap (λ u. before ++ u ∷ []) is ∙ ap (λ fs. fs ++ form ∷ []) are ∙ append_assoc front (chain_forms o (take k cs)) (form ∷ []) ∙ ap (λ fs. front ++ fs) (sym more),
      subst points.ArePrintable (sym add) (record {
        depth = omega (arith, depths-append before (t ∷ []), printable.depth, depth);
        words = All-append HasWords before (t ∷ []) printable.words (All-cons HasWords t [] words (All-nil HasWords));
      }),
    )

-- the forms of marks

pub in_printable : (k : ℕ) (fs : List Tree) → fs ≡ in_front k → k < 2 ^ 32 → points.ArePrintable fs
in_printable k fs is small = subst points.ArePrintable (sym is) (record {
  depth = omega arith;
  words = All-cons HasWords (word (codes "in")) (count_form k ∷ []) (λ e. cc) (All-cons HasWords (count_form k) [] (decimal_filled k (omega (arith, small))) (All-nil HasWords));
})

pub front_printable : (k : ℕ) (fs : List Tree) → fs ≡ out_front k → k < 2 ^ 32 → points.ArePrintable fs
front_printable k fs is small = subst points.ArePrintable (sym is) (record {
  depth = omega arith;
  words = All-cons HasWords (word (codes "out")) (count_form k ∷ []) (λ e. cc) (All-cons HasWords (count_form k) [] (decimal_filled k (omega (arith, small))) (All-nil HasWords));
})

pub out_is : (o : Opening) (k : ℕ) (chain : List Chained) (front fs : List Tree) → front ≡ out_front k → fs ≡ front ++ chain_forms o chain → fs ≡ word (codes "out") ∷ count_form k ∷ chain_forms o chain
out_is o k chain front fs a b = b ∙ ap (λ (l : List Tree). l ++ chain_forms o chain) a

-- a list of printable forms is one deeper
pub list_depth : (fs : List Tree) → depths fs ≤ 1 → depth_of (list (inside fs)) ≤ 2
list_depth fs d = omega (arith, depth_of_all-inside fs, d)

pub list_words : (fs : List Tree) → All HasWords fs → HasWords (list (inside fs))
list_words fs w = AllHaveWords-inside fs w

-- the lines of the marks, mark by mark
pub lines_more : (o : Opening) (marks : List Marked) (k : ℕ) (d : Marked) (before after line : List ℕ) → k < length marks → line ≡ printed (mark_form o (get_or marks k d) ∷ []) → after ≡ before ++ line → before ≡ printed (mark_forms o (take k marks)) → after ≡ printed (mark_forms o (take (k + 1) marks))
lines_more o marks k d before after line within is add are =
    let m = get_or marks k d in
    let more : mark_forms o (take (k + 1) marks) ≡ mark_forms o (take k marks) ++ mark_form o m ∷ [] = ap (mark_forms o) (take_more marks k d within) ∙ map_push (mark_form o) (take k marks) m in
    add ∙ (λ i. are i ++ is i) ∙ sym (printed-append (mark_forms o (take k marks)) (mark_form o m ∷ [])) ∙ ap printed (sym more)

-- the kept states

keeps_same : (T : Run) (marks : List Bool) (steps : List ℕ) (t i : ℕ) → ((k : ℕ) → Contains steps k ↔ IsMarked marks k) → KeepsWith T steps t i → KeepsBelow T marks (len T) t i
keeps_same T marks steps t i same (with_checkpoint {k = k} h c e) = at_checkpoint {j = k} (slice_get_within T.steps k (Checkpoint t) c) ((same k).0 h) c e
keeps_same T marks steps t i same (with_opening lt e) = at_opening lt e

keeps_back : (T : Run) (marks : List Bool) (steps : List ℕ) (t i : ℕ) → ((k : ℕ) → Contains steps k ↔ IsMarked marks k) → KeepsBelow T marks (len T) t i → KeepsWith T steps t i
keeps_back T marks steps t i same (at_checkpoint {j = j} lt m c e) = with_checkpoint {k = j} ((same j).1 m) c e
keeps_back T marks steps t i same (at_opening lt e) = with_opening lt e

-- what is kept below the end of the trace is kept
state_of : (P : Program) (T : Run) (marks : List Bool) (steps : List ℕ) (t : ℕ) (o : Option Kept) → ((k : ℕ) → Contains steps k ↔ IsMarked marks k) → IsKeptBelow T (opening_states P.starts) marks (len T) t o → IsKeptState P T steps t o
state_of P T marks steps t None same never = λ i k. never i (keeps_same T marks steps t i same k)
state_of P T marks steps t (Some kept) same h = record {
  last = h.0;
  keeps = keeps_back T marks steps t h.0 same h.2;
  greatest = λ i k. h.3 i (keeps_same T marks steps t i same k);
  interval_is = h.1;
  saved = h.4;
}

pub states_are : (P : Program) (T : Run) (marks : List Bool) (steps : List ℕ) (kept : List (Option Kept)) → ((k : ℕ) → Contains steps k ↔ IsMarked marks k) → AreKept T (opening_states P.starts) marks (len T) kept → AreKeptWith P T steps kept
states_are P T marks steps kept same are = record { count = are.count; each = λ t o e. state_of P T marks steps t o same (are.each t o e) }

-- the rows of the first n transactors, behind a text
pub record PutsRows (T : Run) (states : List (Option Kept)) (n : ℕ) (old new : List ℕ) : Type 0 where
  pub forms : List Tree
  pub are : (P : Program) (steps : List ℕ) → AreKeptWith P T steps states → StateForms P T steps n forms
  pub text : new ≡ old ++ printed forms

row : (P : Program) (T : Run) (steps : List ℕ) (t : ℕ) (o : Option Kept) (fs : List Tree) → IsKeptState P T steps t o → StateForms P T steps t fs → StateForms P T steps (suc t) (fs ++ state_row T.opening t o)
row P T steps t None fs never s = subst (StateForms P T steps (suc t)) (sym (append-nil fs)) (without never s)
row P T steps t (Some kept) fs is s = with_one (record {
  last = is.last;
  keeps = is.keeps;
  greatest = is.greatest;
  value = kept.value;
  saved = is.saved;
  form_is = ap (λ n. headed (codes "state") (who_form T.opening t ∷ count_form n ∷ value_form T.opening kept.value ∷ [])) is.interval_is;
}) s

pub puts_none : (T : Run) (states : List (Option Kept)) (old : List ℕ) → PutsRows T states 0 old old
puts_none T states old = record { forms = []; are = λ P steps a. none; text = sym (append-nil old) }

pub puts_more : (T : Run) (o : Opening) (states : List (Option Kept)) (t : ℕ) (one : Option Kept) (old now new : List ℕ) → o ≡ T.opening → slice_get states t ≡ Some one → new ≡ now ++ printed (state_row o t one) → PutsRows T states t old now → PutsRows T states (suc t) old new
puts_more T o states t one old now new is e text before =
    let here : new ≡ now ++ printed (state_row T.opening t one) = text ∙ ap (λ (x : Opening). now ++ printed (state_row x t one)) is in
    record {
      forms = before.forms ++ state_row T.opening t one;
      are = λ P steps a. row P T steps t one before.forms (a.each t one e) (before.are P steps a);
      text = here ∙ ap (λ bs. bs ++ printed (state_row T.opening t one)) before.text ∙ append_assoc old (printed before.forms) (printed (state_row T.opening t one)) ∙ ap (λ bs. old ++ bs) (sym (printed-append before.forms (state_row T.opening t one)));
    }

-- places that are In

pub ins_none : (ms : List Marked) (marks : List Bool) (n : ℕ) → marks ≡ replicate n false → (k : ℕ) → Contains (take 0 ms) (In k) ↔ IsMarked marks k
ins_none ms marks n is k = (λ c. absurd (Contains-none (In k) c), λ m. absurd (none_marked n marks is k m))

more_cases : (ms : List Marked) (i k : ℕ) (d : Marked) → i < length ms → Contains (take (i + 1) ms) (In k) ↔ (Contains (take i ms) (In k) ⊎ (get_or ms i d ≡ In k))
more_cases ms i k d lt =
    let more : take (i + 1) ms ≡ take i ms ++ get_or ms i d ∷ [] = take_more ms i d lt in (
      λ c. Contains-push_cases (take i ms) (get_or ms i d) (In k) (subst (λ (l : List Marked). Contains l (In k)) more c),
      λ c. subst (λ (l : List Marked). Contains l (In k)) (sym more) (⊎_elim
          (λ o. Contains-append_left (take i ms) (get_or ms i d ∷ []) (In k) o)
          (λ (e : get_or ms i d ≡ In k). subst (Contains (take i ms ++ get_or ms i d ∷ [])) e (Contains-push (take i ms) (get_or ms i d))) c),
    )

one_more : (m : Marked) (marks0 marks : List Bool) (k : ℕ) → ((j : ℕ) → m ≡ In j → j < length marks0) → MarksIn m marks0 marks → IsMarked marks k ↔ (IsMarked marks0 k ⊎ (m ≡ In k))
one_more (In j) marks0 marks k within is = (
  λ h. ⊎_elim (λ (e : k ≡ j). inr (ap In (sym e))) (λ ne. inl (sym (slice_get-set_other marks0 j k true ne) ∙ read h)) (cases_eq k j),
  λ h. ⊎_elim
      (λ o. ⊎_elim (λ (e : k ≡ j). at_j k e) (λ ne. ap (λ (l : List Bool). slice_get l k) is ∙ slice_get-set_other marks0 j k true ne ∙ o) (cases_eq k j))
      (λ (e : In j ≡ In k). let same : k ≡ j = cc in at_j k same) h,
) where
  read : IsMarked marks k → IsMarked (set marks0 j true) k
  read h = subst (λ (l : List Bool). IsMarked l k) is h

  at_j : (n : ℕ) → n ≡ j → IsMarked marks n
  at_j n e = subst (IsMarked marks) (sym e) (ap (λ (l : List Bool). slice_get l j) is ∙ slice_get-set_same marks0 j true (within j refl))
one_more (Out j chain) marks0 marks k within is = (λ h. inl (subst (λ (l : List Bool). IsMarked l k) is h), λ h. ⊎_elim (λ o. subst (λ (l : List Bool). IsMarked l k) (sym is) o) (λ (e : Out j chain ≡ In k). absurd (cc)) h)

pub ins_more : (ms : List Marked) (i : ℕ) (d : Marked) (marks0 marks : List Bool) → i < length ms → ((j : ℕ) → get_or ms i d ≡ In j → j < length marks0) → MarksIn (get_or ms i d) marks0 marks → ((k : ℕ) → Contains (take i ms) (In k) ↔ IsMarked marks0 k) → (k : ℕ) → Contains (take (i + 1) ms) (In k) ↔ IsMarked marks k
ins_more ms i d marks0 marks lt within is told k =
    let more = more_cases ms i k d lt in
    let one = one_more (get_or ms i d) marks0 marks k within is in (
      λ c. one.1 (⊎_elim (λ o. inl ((told k).0 o)) (λ e. inr e) (more.0 c)),
      λ h. more.1 (⊎_elim (λ o. inl ((told k).1 o)) (λ e. inr e) (one.0 h)),
    )

pub ins_length : (m : Marked) (marks0 marks : List Bool) → MarksIn m marks0 marks → length marks ≡ length marks0
ins_length (In k) marks0 marks is = ap (λ (l : List Bool). length l) is ∙ length-set marks0 k true
ins_length (Out k chain) marks0 marks is = ap (λ (l : List Bool). length l) is

pub ins_within : (ms : List Marked) (n i k : ℕ) (d : Marked) → All (λ j. j < n) (places_in ms) → i < length ms → get_or ms i d ≡ In k → k < n
ins_within ms n i k d all lt e = All-contains (λ j. j < n) (places_in ms) k all (in_place ms k (i, lt, get_or_default ms i (In k) d lt ∙ e))

pub ins_all : (ms : List Marked) (i : ℕ) (marks : List Bool) → length ms ≤ i → ((k : ℕ) → Contains (take i ms) (In k) ↔ IsMarked marks k) → (k : ℕ) → Contains (places_in ms) k ↔ IsMarked marks k
ins_all ms i marks le told k =
    let all : take i ms ≡ ms = take_all i ms le in (
      λ c. (told k).0 (subst (λ (l : List Marked). Contains l (In k)) (sym all) (in_mark ms k c)),
      λ h. in_place ms k (subst (λ (l : List Marked). Contains l (In k)) all ((told k).1 h)),
    )

-- each place that is In is one of the trace
pub ins_fit : (T : Run) (marks : List Marked) → IsCut T marks → All (λ k. k < len T) (places_in marks)
ins_fit T marks cut i d lt =
    let k = get_or (places_in marks) i d in
    let c = cut.consistent.checkpoints k (i, lt, get_or_default (places_in marks) i k d lt) in
    slice_get_within T.steps k (Checkpoint c.1.by) c.1.closes

-- the whole text
pub whole_text : (P : Program) (T : Run) (o : Opening) (cut : List Marked) (text out : List ℕ) → o ≡ T.opening → IsCut T cut → text ≡ printed (mark_forms o cut) → PutsStates P T (places_in cut) text out → IsCutText P T out
whole_text P T o cut text out opening_is is_cut text_is puts = record {
  marks = cut;
  is_cut = is_cut;
  states = puts.forms;
  states_are = puts.forms_are;
  is = puts.text ∙ ap (λ bs. bs ++ printed puts.forms) text_is ∙ sym (printed-append (mark_forms o cut) puts.forms) ∙ ap (λ (x : Opening). printed (mark_forms x cut ++ puts.forms)) opening_is;
}
