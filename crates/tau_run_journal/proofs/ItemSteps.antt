-- What a record makes of a run as an item: its one form, the step that it means behind the run, and the step's text.
use Rattle.std.proofs.Common.{◌≡◌, ◌≢◌, ◌↔◌, inl, inr, ℕ, ◌<◌, Bool, true, false, List, [], ◌∷◌, length, Some, Result, Ok, Err, refl, sym, ap, ◌∙◌, subst, arith}
use Rattle.std.specs.Prelude.{IsTrue}
use Rattle.std.proofs.lemmas.Bool.{false≢true}
use Rattle.tau_sexpr.specs.Tree.{Tree}
use Rattle.tau_sexpr.specs.Spelling.{IsSpelling, IsUnlessNoMemory}
use Rattle.tau_sexpr.specs.declared.faults.FormError.{FormError}
use Rattle.tau_sexpr.specs.declared.faults.FormError.TheVariants.{NoMemory}
use Rattle.tau_sexpr.proofs.LawLemmas.{once}
use Rattle.tau_trace.specs.declared.step.Step.{Step}
use Rattle.tau_trace.specs.Run.{Run, len, appended}
use Rattle.tau_trace.proofs.Indexing.{len-appended}
use Rattle.tau_run_journal.specs.Standing.{form_behind, IsStepText}
use Rattle.tau_run_journal.specs.Inner.Items.{TellsForm, IsFormed, MeansNext, AddsForm, TakesItem}
use Rattle.tau_run_journal.proofs.Unique.{first_same}
use Rattle.tau_run_journal.proofs.Steps.{one_step}

-- the one form of a record
module _ (r : List ℕ) (fs : List Tree) (n : ℕ) (spelled : IsSpelling r fs) (long : n ≡ length fs) where
  pub not_one : (n ≡ 1 → ⊥) → (f : Tree) → ¬ IsSpelling r (f ∷ [])
  not_one ne f other = ne (long ∙ ap length (once r fs (f ∷ []) spelled other))

  pub only_one : n ≡ 1 → TellsForm r (Some fs)
  only_one one = single fs (sym long ∙ one) spelled where
    single : (gs : List Tree) → length gs ≡ 1 → IsSpelling r gs → TellsForm r (Some gs)
    single [] e is = absurd (omega (arith, e))
    single (g ∷ []) e is = (g, refl, is)
    single (g ∷ h ∷ hs) e is = absurd (omega (arith, e))

pub none_read : (result : Result (List Tree) FormError) (e : FormError) (ts : List Tree) → result ≡ Err e → e ≢ NoMemory → IsUnlessNoMemory result (Ok ts) → ⊥
none_read result e ts is ne (inl ok) = let h : Err e ≡ Ok ts = sym is ∙ ok in cc
none_read result e ts is ne (inr memory) = ne (let h : Err e ≡ Err NoMemory = sym is ∙ memory in cc)

-- a run got a step
pub some_added : (T : Run) (f : Tree) (U : Run) → AddsForm T f U true → 0 < len U
some_added T f U added = omega (arith, ap len added.2, len-appended T added.0)

module _ (T : Run) (r : List ℕ) where
  -- no form
  pub item_formless : ((f : Tree) → ¬ IsSpelling r (f ∷ [])) → TakesItem T r T false
  item_formless none s text = none (form_behind T s) text.spelled

  module _ (f : Tree) (spelled : IsSpelling r (f ∷ [])) where
    form_means : (s : Step) → IsStepText T s r → MeansNext T f s
    form_means s text = subst (λ (g : Tree). MeansNext T g s) (first_same (form_behind T s) f (once r (form_behind T s ∷ []) (f ∷ []) text.spelled spelled)) text.means

    -- a form that means no step there
    pub item_stepless : (U : Run) → AddsForm T f U false → TakesItem T r U false
    item_stepless U none s text = none s text.may.few_steps (form_means s text)

    -- a form that means one, with whose text the record was compared
    pub item_told : IsFormed T → (U : Run) (b : Bool) → AddsForm T f U true → ((V : Run) (s : Step) → U ≡ appended V s → IsTrue b ↔ IsStepText V s r) → TakesItem T r U b
    item_told formed U true added same = (added.0, (same T added.0 added.2).0 refl, added.2)
    item_told formed U false added same = λ u text.
        let one : u ≡ added.0 = one_step T formed text.may.few_steps f u added.0 (form_means u text) added.1 in
        false≢true ((same T added.0 added.2).1 (subst (λ (s : Step). IsStepText T s r) one text))
