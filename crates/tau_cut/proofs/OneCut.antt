-- A trace has one cut, and one text that tells it.
use Rattle.std.proofs.Common.{◌≡◌, ℕ, suc, List, [], ◌∷◌, ◌++◌, length, refl, sym, ap, ◌∙◌, subst, arith}
use Rattle.std.specs.Prelude.{Contains}
use Rattle.std.proofs.lemmas.Cmp.{nat_cmp_total}
use Rattle.tau_sexpr.specs.Tree.{Tree}
use Rattle.tau_sexpr.specs.Printing.{printed}
use Rattle.tau_points.proofs.Membership.{Contains-head, Contains-later}
use Rattle.tau_points.proofs.SortedLists.{same_list}
use Rattle.tau_explain.specs.declared.chains.chained.Chained.{Chained}
use Rattle.tau_tree.specs.declared.programs.Program.{Program}
use Rattle.tau_trace.specs.Run.{Run, len}
use Rattle.tau_trace.specs.Numbering.{born}
use Rattle.tau_past.specs.States.{SavedWith}
use Rattle.tau_past.specs.Pasts.{Link, Is, Everywhere}
use Rattle.tau_past.specs.Audits.{ChecksAt}
use Rattle.tau_states.specs.Opening.{opening_states}
use Rattle.tau_states.proofs.Uniqueness.{saved_once}
use Rattle.tau_explain.specs.Links.Links.{points_of}
use Rattle.tau_explain.proofs.OneAnswer.{first_same, told_same}
use Rattle.tau_cut.specs.declared.cut.Marked.{Marked}
use Rattle.tau_cut.specs.declared.cut.Marked.TheVariants.{In, Out}
use Rattle.tau_cut.specs.Consistent.{KeptAble}
use Rattle.tau_cut.specs.Cuts.{place_of, places_of, places_in, IsCut}
use Rattle.tau_cut.specs.KeptStates.{IsStateForm, StateForms, none, without, with_one}
use Rattle.tau_cut.specs.Texts.{mark_forms, IsCutText}
use Rattle.tau_cut.specs.Inner.Keeping.{state_form}
use Rattle.tau_cut.proofs.MarkLemmas.{in_place, place_at}

abbrev head_of : ℕ → List ℕ → ℕ
head_of n [] = n
head_of n (x ∷ xs) = x

abbrev tail_of : List ℕ → List ℕ
tail_of [] = []
tail_of (x ∷ xs) = xs

-- lists of marks at the same places are one, where marks at one place are
same_marks : (ms ns : List Marked) → places_of ms ≡ places_of ns → ((m n : Marked) → Contains ms m → Contains ns n → place_of m ≡ place_of n → m ≡ n) → ms ≡ ns
same_marks [] [] e one = refl
same_marks [] (n ∷ ns) e one = absurd (let f = ap length e in omega (arith, f))
same_marks (m ∷ ms) [] e one = absurd (let f = ap length e in omega (arith, f))
same_marks (m ∷ ms) (n ∷ ns) e one =
    let place : place_of m ≡ place_of n = ap (head_of (place_of m)) e in
    let same : m ≡ n = one m n (Contains-head m ms) (Contains-head n ns) place in
    let rest : ms ≡ ns = same_marks ms ns (ap tail_of e) (λ x y a b f. one x y (Contains-later m ms x a) (Contains-later n ns y b) f) in
    λ i. same i ∷ rest i

module _ (T : Run) (marks others : List Marked) (a : IsCut T marks) (b : IsCut T others) where
  -- a step is not In and Out
  not_both : (j k : ℕ) (chain : List Chained) → Contains marks (In j) → Contains others (Out k chain) → j ≡ k → ⊥
  not_both j k chain h o e = b.exact k chain o (places_in marks) a.consistent (subst (Contains (places_in marks)) e (in_place marks j h))

  same_out : (j k : ℕ) (c d : List Chained) → Contains marks (Out j c) → Contains others (Out k d) → j ≡ k → c ≡ d
  same_out j k c d h o e =
      let at = (a.all j).0 (place_at marks (Out j c) h) in
      let f = a.out j at.0 c h at.1 in
      let g = b.out k at.0 d o (subst (λ i. ChecksAt T i at.0) e at.1) in
      told_same T Everywhere c d f.told g.told (first_same (Link T Everywhere) (Is at.0) (λ q. ¬ KeptAble T q) (points_of c) (points_of d) f.first g.first)

  same_places : places_of marks ≡ places_of others
  same_places = same_list nat_cmp_total (places_of marks) (places_of others) a.ascending b.ascending (λ k. (λ h. (b.all k).1 ((a.all k).0 h), λ h. (a.all k).1 ((b.all k).0 h)))

same_mark : (T : Run) (marks others : List Marked) → IsCut T marks → IsCut T others → (m n : Marked) → Contains marks m → Contains others n → place_of m ≡ place_of n → m ≡ n
same_mark T marks others a b (In j) (In k) h o e = ap In e
same_mark T marks others a b (In j) (Out k d) h o e = absurd (not_both T marks others a b j k d h o e)
same_mark T marks others a b (Out j c) (In k) h o e = absurd (not_both T others marks b a k j c o h (sym e))
same_mark T marks others a b (Out j c) (Out k d) h o e =
    let same : c ≡ d = same_out T marks others a b j k c d h o e in
    λ i. Out (e i) (same i)

pub cut_once : (T : Run) (marks others : List Marked) → IsCut T marks → IsCut T others → marks ≡ others
cut_once T marks others a b = same_marks marks others (same_places T marks others a b) (same_mark T marks others a b)

-- the states

form_once : (P : Program) (T : Run) (steps : List ℕ) (t : ℕ) (f g : Tree) → IsStateForm P T steps t f → IsStateForm P T steps t g → f ≡ g
form_once P T steps t f g a b =
    let same : b.last ≡ a.last = omega (arith, a.greatest b.last b.keeps, b.greatest a.last a.keeps) in
    let Q : ℕ → Type 0 = λ n. SavedWith T (opening_states P.starts) t n b.value in
    let value : a.value ≡ b.value = saved_once T (opening_states P.starts) t a.last a.value b.value a.saved (subst Q same b.saved) in
    a.form_is ∙ (λ i. state_form T.opening t (record { interval = suc (sym same i); value = value i })) ∙ sym b.form_is

pub states_once : (P : Program) (T : Run) (steps : List ℕ) (n : ℕ) (fs gs : List Tree) → StateForms P T steps n fs → StateForms P T steps n gs → fs ≡ gs
states_once P T steps n fs gs none none = refl
states_once P T steps n fs gs (without not a) (without nor b) = states_once P T steps _ _ _ a b
states_once P T steps n fs gs (without not a) (with_one one b) = absurd (not one.last one.keeps)
states_once P T steps n fs gs (with_one one a) (without not b) = absurd (not one.last one.keeps)
states_once P T steps n fs gs (with_one {t = t} {form = f} {forms = fronts} one a) (with_one {form = g} {forms = backs} other b) =
    let same = states_once P T steps t fronts backs a b in
    let forms = form_once P T steps t f g one other in
    λ i. same i ++ forms i ∷ []

pub cut_text_once : (P : Program) (T : Run) (bytes others : List ℕ) → IsCutText P T bytes → IsCutText P T others → bytes ≡ others
cut_text_once P T bytes others a b =
    let marks : a.marks ≡ b.marks = cut_once T a.marks b.marks a.is_cut b.is_cut in
    let there : StateForms P T (places_in a.marks) (born T (len T)) b.states = subst (λ (ms : List Marked). StateForms P T (places_in ms) (born T (len T)) b.states) (sym marks) b.states_are in
    let states : a.states ≡ b.states = states_once P T (places_in a.marks) (born T (len T)) a.states b.states a.states_are there in
    a.is ∙ (λ i. printed (mark_forms T.opening (marks i) ++ states i)) ∙ sym b.is
