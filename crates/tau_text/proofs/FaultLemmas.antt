-- An input has one meaning at most, one fault at most, and not both.
use Rattle.std.proofs.Common.{◌≡◌, ℕ, true, false, List, Some, None, sym, ap, ◌∙◌, subst, arith}
use Rattle.tau_sexpr.specs.Tree.{Tree}
use Rattle.tau_sexpr.specs.Spelling.{IsSpelling}
use Rattle.tau_sexpr.proofs.LawLemmas.{once, without_fault, fails_once}
use Rattle.tau_value.specs.Meaning as values
use Rattle.tau_tree.specs.declared.programs.Program.{Program}
use Rattle.tau_forms.specs.Tops.{limit_of}
use Rattle.tau_forms.specs.Faults as programs
use Rattle.tau_forms.specs.Meaning.{Means}
use Rattle.tau_forms.specs.declared.faults.ProgramError.{ProgramError}
use Rattle.tau_forms.specs.declared.faults.ProgramError.TheVariants as program_errors
use Rattle.tau_forms.proofs.ReadBackUnique.{one_program}
use Rattle.tau_trace.specs.declared.opening.Opening.{Opening}
use Rattle.tau_trace.specs.Run.{Run}
use Rattle.tau_script.specs.Openings.{program_opening}
use Rattle.tau_steps.specs.Faults as steps
use Rattle.tau_steps.specs.Meaning.{MeansSteps}
use Rattle.tau_steps.specs.declared.errors.StepError.{StepError}
use Rattle.tau_steps.specs.declared.errors.StepError.TheVariants as step_errors
use Rattle.tau_steps.proofs.LoopLemmas.{no_fault}
use Rattle.tau_steps.proofs.LawLemmas.{one_run}
use Rattle.tau_text.specs.declared.errors.InputError.TheVariants.{Fault}
use Rattle.tau_text.specs.Errors.{of_form_error, of_program_error, of_step_error}
use Rattle.tau_text.specs.Parts.{has_trace, program_forms, step_forms}
use Rattle.tau_text.specs.Meaning.{IsProgram, MeansRun, IsPrintInput}
use Rattle.tau_text.specs.Faults.{HasFault, of_bytes, of_forms, ProgramFault, of_program, StepsFault, of_step, PartsFault, in_program, in_steps, MarkedFault, no_trace, in_parts, IsProgramFault, IsRunFault, IsPrintFault}
use Rattle.tau_text.specs.InputLaws.{IsUnique, IsRunInputOf}

same_fault : (a b c d : ℕ) → Fault a b ≡ Fault c d → (a ≡ c) × (b ≡ d)
same_fault a b c d e = (cc, cc)

-- the least faulty node, and its fault
one_first : (F : ℕ → programs.Fault → Type 0) (n m : ℕ) (f g : programs.Fault) → programs.IsFirst F n f → programs.IsFirst F m g → (n ≡ m) × (f ≡ g)
one_first F n m f g h k =
    let e : n ≡ m = omega (arith, h.least m g k.fault, k.least n f h.fault) in
    (e, h.only g (subst (λ x. F x g) (sym e) k.fault))

-- a fault of a program that is no want of memory, and the node or the kind that it names
data Told (ts : List Tree) : ProgramError → Type 0 where
  node_shape : (n : ℕ) → limit_of ts ≡ None → programs.IsFirst (programs.ProgramFaultAt ts) n programs.shape → Told ts (program_errors.Shape n)
  node_unknown : (n : ℕ) → limit_of ts ≡ None → programs.IsFirst (programs.ProgramFaultAt ts) n programs.unknown → Told ts (program_errors.Unknown n)
  node_twice : (n : ℕ) → limit_of ts ≡ None → programs.IsFirst (programs.ProgramFaultAt ts) n programs.twice → Told ts (program_errors.Twice n)
  limit : (k : ℕ) → limit_of ts ≡ Some k → Told ts (program_errors.Limit k)

told : (ts : List Tree) (e : ProgramError) (a b : ℕ) → of_program_error e ≡ Fault a b → programs.IsFault ts e → Told ts e
told ts (program_errors.Shape n) a b h f = node_shape n f.0 f.1
told ts (program_errors.Unknown n) a b h f = node_unknown n f.0 f.1
told ts (program_errors.Twice n) a b h f = node_twice n f.0 f.1
told ts (program_errors.Limit k) a b h f = limit k f
told ts program_errors.NoMemory a b h f = absurd (cc)

-- the forms of a program have one fault
one_told : (ts : List Tree) (e f : ProgramError) → Told ts e → Told ts f → e ≡ f
one_told ts e f (node_shape n p h) (node_shape m q k) = ap program_errors.Shape (one_first _ n m programs.shape programs.shape h k).0
one_told ts e f (node_unknown n p h) (node_unknown m q k) = ap program_errors.Unknown (one_first _ n m programs.unknown programs.unknown h k).0
one_told ts e f (node_twice n p h) (node_twice m q k) = ap program_errors.Twice (one_first _ n m programs.twice programs.twice h k).0
one_told ts e f (limit n p) (limit m q) = let s : Some n ≡ Some m = sym p ∙ q in cc
one_told ts e f (node_shape n p h) (node_unknown m q k) = let x = (one_first (programs.ProgramFaultAt ts) n m programs.shape programs.unknown h k).1 in cc
one_told ts e f (node_shape n p h) (node_twice m q k) = let x = (one_first (programs.ProgramFaultAt ts) n m programs.shape programs.twice h k).1 in cc
one_told ts e f (node_unknown n p h) (node_shape m q k) = let x = (one_first (programs.ProgramFaultAt ts) n m programs.unknown programs.shape h k).1 in cc
one_told ts e f (node_unknown n p h) (node_twice m q k) = let x = (one_first (programs.ProgramFaultAt ts) n m programs.unknown programs.twice h k).1 in cc
one_told ts e f (node_twice n p h) (node_shape m q k) = let x = (one_first (programs.ProgramFaultAt ts) n m programs.twice programs.shape h k).1 in cc
one_told ts e f (node_twice n p h) (node_unknown m q k) = let x = (one_first (programs.ProgramFaultAt ts) n m programs.twice programs.unknown h k).1 in cc
one_told ts e f (node_shape n p h) (limit m q) = cc
one_told ts e f (node_unknown n p h) (limit m q) = cc
one_told ts e f (node_twice n p h) (limit m q) = cc
one_told ts e f (limit n p) (node_shape m q k) = cc
one_told ts e f (limit n p) (node_unknown m q k) = cc
one_told ts e f (limit n p) (node_twice m q k) = cc

-- forms that mean a program have none
not_told : (ts : List Tree) (e : ProgramError) (p : Program) → Told ts e → Means ts p → ⊥
not_told ts e p (node_shape n l h) m = m.faultless n programs.shape h.fault
not_told ts e p (node_unknown n l h) m = m.faultless n programs.unknown h.fault
not_told ts e p (node_twice n l h) m = m.faultless n programs.twice h.fault
not_told ts e p (limit k h) m = let l = m.limits in cc

program_once : (ts : List Tree) (a b c d : ℕ) → ProgramFault ts a b → ProgramFault ts c d → (a ≡ c) × (b ≡ d)
program_once ts a b c d (of_program e p h) (of_program f q k) =
    same_fault a b c d (sym p ∙ ap of_program_error (one_told ts e f (told ts e a b p h) (told ts f c d q k)) ∙ q)

program_clean : (ts : List Tree) (p : Program) (a b : ℕ) → Means ts p → ProgramFault ts a b → ⊥
program_clean ts p a b m (of_program e q h) = not_told ts e p (told ts e a b q h) m

-- the first faults of steps stand at one step
same_step : (o : Opening) (fs : List Tree) (j k : ℕ) (e f : values.Fault) → steps.IsFirst o fs j e → steps.IsFirst o fs k f → j ≡ k
same_step o fs j k e f h g = omega (arith, h.least k f g.fault, g.least j e h.fault)

-- and are not shape and unknown
not_unknown : (o : Opening) (fs : List Tree) (j k : ℕ) → steps.IsFirst o fs j values.shape → steps.IsFirst o fs k values.unknown → ⊥
not_unknown o fs j k h g =
    let same = same_step o fs j k values.shape values.unknown h g in
    let e : values.unknown ≡ values.shape = g.shape_first (subst (λ i. steps.StepFault o fs i values.shape) same h.fault) in
    cc

-- the forms of steps have one fault
one_step : (o : Opening) (fs : List Tree) (e f : StepError) (a b c d : ℕ) → of_step_error e ≡ Fault a b → of_step_error f ≡ Fault c d → steps.IsFault o fs e → steps.IsFault o fs f → e ≡ f
one_step o fs (step_errors.Shape j) (step_errors.Shape k) a b c d p q h g = ap step_errors.Shape (same_step o fs j k values.shape values.shape h g)
one_step o fs (step_errors.Unknown j) (step_errors.Unknown k) a b c d p q h g = ap step_errors.Unknown (same_step o fs j k values.unknown values.unknown h g)
one_step o fs (step_errors.Shape j) (step_errors.Unknown k) a b c d p q h g = absurd (not_unknown o fs j k h g)
one_step o fs (step_errors.Unknown j) (step_errors.Shape k) a b c d p q h g = absurd (not_unknown o fs k j g h)
one_step o fs step_errors.NoMemory f a b c d p q h g = absurd (cc)
one_step o fs (step_errors.Shape j) step_errors.NoMemory a b c d p q h g = absurd (cc)
one_step o fs (step_errors.Unknown j) step_errors.NoMemory a b c d p q h g = absurd (cc)

steps_once : (o : Opening) (fs : List Tree) (a b c d : ℕ) → StepsFault o fs a b → StepsFault o fs c d → (a ≡ c) × (b ≡ d)
steps_once o fs a b c d (of_step e p h) (of_step f q k) =
    same_fault a b c d (sym p ∙ ap of_step_error (one_step o fs e f a b c d p q h k) ∙ q)

steps_clean : (o : Opening) (fs : List Tree) (T : Run) (a b : ℕ) → MeansSteps o fs T → StepsFault o fs a b → ⊥
steps_clean o fs T a b m (of_step (step_errors.Shape k) q h) = no_fault o fs T k values.shape m h.fault
steps_clean o fs T a b m (of_step (step_errors.Unknown k) q h) = no_fault o fs T k values.unknown m h.fault
steps_clean o fs T a b m (of_step step_errors.NoMemory q h) = absurd (cc)

-- of a program and its steps
parts_once : (ts : List Tree) (a b c d : ℕ) → PartsFault ts a b → PartsFault ts c d → (a ≡ c) × (b ≡ d)
parts_once ts a b c d (in_program h) (in_program k) = program_once (program_forms ts) a b c d h k
parts_once ts a b c d (in_program h) (in_steps p m k) = absurd (program_clean (program_forms ts) p a b m h)
parts_once ts a b c d (in_steps p m h) (in_program k) = absurd (program_clean (program_forms ts) p c d m k)
parts_once ts a b c d (in_steps p m h) (in_steps q n k) =
    let same : q ≡ p = one_program (program_forms ts) q p n m in
    steps_once (program_opening p) (step_forms ts) a b c d h (subst (λ x. StepsFault (program_opening x) (step_forms ts) c d) same k)

parts_clean : (ts : List Tree) (p : Program) (T : Run) (a b : ℕ) → MeansRun ts p T → PartsFault ts a b → ⊥
parts_clean ts p T a b m (in_program h) = program_clean (program_forms ts) p a b m.program h
parts_clean ts p T a b m (in_steps q n h) =
    let same : q ≡ p = one_program (program_forms ts) q p n m.program in
    steps_clean (program_opening p) (step_forms ts) T a b m.steps (subst (λ x. StepsFault (program_opening x) (step_forms ts) a b) same h)

-- with the mark between them
marked_once : (ts : List Tree) (a b c d : ℕ) → MarkedFault ts a b → MarkedFault ts c d → (a ≡ c) × (b ≡ d)
marked_once ts a b c d (no_trace n p q) (no_trace m r s) = (p ∙ sym r, q ∙ sym s)
marked_once ts a b c d (no_trace n p q) (in_parts m k) = let e : false ≡ true = sym n ∙ m in absurd (cc)
marked_once ts a b c d (in_parts m h) (no_trace n p q) = let e : false ≡ true = sym n ∙ m in absurd (cc)
marked_once ts a b c d (in_parts n h) (in_parts m k) = parts_once ts a b c d h k

marked_clean : (ts : List Tree) (p : Program) (T : Run) (a b : ℕ) → has_trace ts ≡ true → MeansRun ts p T → MarkedFault ts a b → ⊥
marked_clean ts p T a b h m (no_trace n q r) = let e : false ≡ true = sym n ∙ h in absurd (cc)
marked_clean ts p T a b h m (in_parts n k) = parts_clean ts p T a b m k

-- bytes have one fault where their forms have one
bytes_once : (F : List Tree → ℕ → ℕ → Type 0) (bytes : List ℕ) → ((ts : List Tree) (a b c d : ℕ) → F ts a b → F ts c d → (a ≡ c) × (b ≡ d))
    → (a b c d : ℕ) → HasFault F bytes a b → HasFault F bytes c d → (a ≡ c) × (b ≡ d)
bytes_once F bytes one a b c d (of_bytes e p h) (of_bytes f q k) = same_fault a b c d (sym p ∙ ap of_form_error (fails_once bytes e f h k) ∙ q)
bytes_once F bytes one a b c d (of_bytes e p h) (of_forms ts s k) = absurd (without_fault bytes ts e s h.fault)
bytes_once F bytes one a b c d (of_forms ts s h) (of_bytes e p k) = absurd (without_fault bytes ts e s k.fault)
bytes_once F bytes one a b c d (of_forms ts s h) (of_forms us r k) = one ts a b c d h (subst (λ x. F x c d) (once bytes us ts r s) k)

-- and none where their forms have none
bytes_clean : (F : List Tree → ℕ → ℕ → Type 0) (bytes : List ℕ) (ts : List Tree) → IsSpelling bytes ts → ((a b : ℕ) → F ts a b → ⊥) → (a b : ℕ) → HasFault F bytes a b → ⊥
bytes_clean F bytes ts s clean a b (of_bytes e p h) = without_fault bytes ts e s h.fault
bytes_clean F bytes ts s clean a b (of_forms us r h) = clean a b (subst (λ x. F x a b) (once bytes us ts r s) h)

-- forms mean one program and one run of it
one_pair : (ts us : List Tree) (p q : Program) (T U : Run) → ts ≡ us → MeansRun ts p T → MeansRun us q U → (p ≡ q) × (T ≡ U)
one_pair ts us p q T U e m n =
    let there : MeansRun ts q U = subst (λ x. MeansRun x q U) (sym e) n in
    let program : p ≡ q = one_program (program_forms ts) p q m.program there.program in
    let steps : MeansSteps (program_opening p) (step_forms ts) U = subst (λ x. MeansSteps (program_opening x) (step_forms ts) U) (sym program) there.steps in
    (program, one_run (program_opening p) (step_forms ts) T U m.steps steps)

pub program_unique : (bytes : List ℕ) → IsUnique (IsProgram bytes) (IsProgramFault bytes)
program_unique bytes = record {
  one_meaning = λ p q m n. one_program m.forms p q m.means (subst (λ x. Means x q) (once bytes n.forms m.forms n.spelled m.spelled) n.means);
  one_fault = bytes_once ProgramFault bytes program_once;
  not_both = λ p a b m. bytes_clean ProgramFault bytes m.forms m.spelled (λ c d. program_clean m.forms p c d m.means) a b;
}

pub run_unique : (bytes : List ℕ) → IsUnique (IsRunInputOf bytes) (IsRunFault bytes)
run_unique bytes = record {
  one_meaning = λ x y m n. (let e = one_pair m.forms n.forms x.0 y.0 x.1 y.1 (once bytes m.forms n.forms m.spelled n.spelled) m.means.1 n.means.1 in λ i. (e.0 i, e.1 i));
  one_fault = bytes_once MarkedFault bytes marked_once;
  not_both = λ x a b m. bytes_clean MarkedFault bytes m.forms m.spelled (λ c d. marked_clean m.forms x.0 x.1 c d m.means.0 m.means.1) a b;
}

pub print_unique : (bytes : List ℕ) → IsUnique (IsPrintInput bytes) (IsPrintFault bytes)
print_unique bytes = record {
  one_meaning = λ p q m n. (one_pair m.forms n.forms p q m.run n.run (once bytes m.forms n.forms m.spelled n.spelled) m.means n.means).0;
  one_fault = bytes_once PartsFault bytes parts_once;
  not_both = λ p a b m. bytes_clean PartsFault bytes m.forms m.spelled (λ c d. parts_clean m.forms p m.run c d m.means) a b;
}
