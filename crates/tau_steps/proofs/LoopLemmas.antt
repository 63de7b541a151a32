-- Forms read one by one: the steps so far, and the first fault.
use Rattle.std.proofs.Common.{◌≡◌, ◌⊎◌, ⊎_elim, ℕ, zero, suc, ◌+◌, ◌<◌, ◌≤◌, false, ◌-◌, take, drop, List, [], ◌∷◌, ◌++◌, length, map, get_or, Some, Result, Ok, Err, IfErr, refl, sym, ap, ◌∙◌, subst, arith, codes}
use Rattle.std.specs.Prelude.{slice_get, slice_range, ◌||◌}
use Rattle.std.proofs.lemmas.List.{take-map, drop-map}
use Rattle.std.specs.Option.{option_map_or}
use Rattle.std.specs.Result.{IsErrAnd}
use Rattle.std.specs.Str.{bytes_eq}
use Rattle.std.proofs.lemmas.Option.{slice_get_within}
use Rattle.tau_sexpr.specs.Form.{tree_of}
use Rattle.tau_sexpr.specs.declared.trees.Form.{Form}
use Rattle.tau_sexpr.specs.Tree.{Tree, word, text, list, none, more}
use Rattle.tau_value.specs.Meaning.{Fault, shape, unknown}
use Rattle.tau_trace.specs.declared.opening.Opening.{Opening}
use Rattle.tau_trace.specs.declared.step.Step.{Step}
use Rattle.tau_trace.specs.declared.step.Step.TheVariants.{Take}
use Rattle.tau_trace.specs.Steps.{is_new, makes_message}
use Rattle.tau_trace.specs.Run.{Run, len, step_at, appended}
use Rattle.tau_trace.specs.Numbering.{born, sent}
use Rattle.tau_steps.specs.StepForms.{kind_word}
use Rattle.tau_trace.proofs.Lists.{same_some, slice_get-push_cases}
use Rattle.tau_trace.proofs.Counts.{count-same}
use Rattle.tau_trace.proofs.Agreement.{agree_appended, agree_below, born-same, sent-same}
use Rattle.tau_trace.proofs.Indexing.{len-appended}
use Rattle.tau_trace.proofs.Reading.{element}
use Rattle.tau_steps.specs.declared.errors.StepError.{StepError}
use Rattle.tau_steps.specs.declared.errors.StepError.TheVariants as errors
use Rattle.tau_steps.specs.Meaning.{MeansStep, MeansSteps}
use Rattle.tau_steps.specs.Faults.{FormFault, begins_with, begins_message, transactors_before, messages_before, StepFault, in_form, too_many, IsFirst, IsFault}
use Rattle.tau_steps.specs.Inner.Reading.{GoesOn, NextFault, AddsStep}
use Rattle.tau_steps.proofs.StepLemmas.{clean_step}

-- the form of an item
pub item_at : (fs : List Form) (k : ℕ) (f : Form) → k < length fs → f ≡ get_or fs k f → slice_get (map tree_of fs) k ≡ Some (tree_of f)
item_at [] k f l e = absurd (omega arith)
item_at (x ∷ xs) zero f l e = ap (λ y. Some (tree_of y)) (sym e)
item_at (x ∷ xs) (suc k) f l e = item_at xs k f (omega arith) e

-- the same, behind other forms
pub item_behind : (before : List Tree) (fs : List Form) (n k : ℕ) (f : Form) → n ≡ length before + k → k < length fs → f ≡ get_or fs k f → slice_get (before ++ map tree_of fs) n ≡ Some (tree_of f)
item_behind [] fs n k f at l e = ap (slice_get (map tree_of fs)) (omega (arith, at)) ∙ item_at fs k f l e
item_behind (x ∷ xs) fs zero k f at l e = absurd (omega (arith, at))
item_behind (x ∷ xs) fs (suc n) k f at l e = item_behind xs fs n k f (omega (arith, at)) l e

-- the forms before others
item_before : (before fs : List Tree) (k : ℕ) → k < length before → slice_get (before ++ fs) k ≡ slice_get before k
item_before [] fs k l = absurd (omega arith)
item_before (x ∷ xs) fs zero l = refl
item_before (x ∷ xs) fs (suc k) l = item_before xs fs k (omega arith)

-- the first forms mean the steps of a run
pub record IsReadTo (o : Opening) (fs : List Tree) (n : ℕ) (T : Run) : Type 0 where
  pub opening : T.opening ≡ o
  pub count : len T ≡ n
  pub few : n ≤ 1000000
  pub each : (k : ℕ) (f : Tree) (s : Step) → slice_get fs k ≡ Some f → step_at T k ≡ Some s → MeansStep o (born T k) (sent T k) f s

-- where all forms are read, they mean the run
pub read_whole : (o : Opening) (fs : List Tree) (n : ℕ) (T : Run) → n ≡ length fs → IsReadTo o fs n T → MeansSteps o fs T
read_whole o fs n T e r = record { opening = r.opening; count = r.count ∙ e; few = omega (arith, r.few, e); each = r.each }

-- forms that mean a run are read as it
pub whole_read : (o : Opening) (fs : List Tree) (T : Run) → MeansSteps o fs T → IsReadTo o fs (length fs) T
whole_read o fs T m = record { opening = m.opening; count = m.count; few = m.few; each = m.each }

-- where others follow them, they are read as it up to there
pub read_before : (o : Opening) (before fs : List Tree) (T : Run) → MeansSteps o before T → IsReadTo o (before ++ fs) (length before) T
read_before o before fs T m = record {
  opening = m.opening;
  count = m.count;
  few = m.few;
  each = λ k f s at is. m.each k f s (sym (item_before before fs k (omega (arith, m.count, slice_get_within T.steps k s is))) ∙ at) is;
}

-- no forms mean no steps
pub no_steps : (o : Opening) → MeansSteps o [] (record { opening = o; steps = [] })
no_steps o = record { opening = refl; count = refl; few = omega arith; each = λ k f s at is. absurd (cc) }

-- the words of the kinds tell which steps make a transactor and which a message
new_word : (s : Step) → bytes_eq (kind_word s) (codes "new") ≡ is_new s
new_word (Take t m) = refl
new_word s = refl

-- the same for messages
message_word : (s : Step) → (bytes_eq (kind_word s) (codes "send") || (bytes_eq (kind_word s) (codes "echo") || bytes_eq (kind_word s) (codes "repeat"))) ≡ makes_message s
message_word (Take t m) = refl
message_word s = refl

-- a form that means a step begins with the word of its kind
begins : (o : Opening) (b m : ℕ) (w : List ℕ) (f : Tree) (s : Step) → MeansStep o b m f s → begins_with w f ≡ bytes_eq (kind_word s) w
begins o b m w (list (more (word h) fs)) s means = ap (λ x. bytes_eq x w) means.0
begins o b m w (list (more (text x) fs)) s means = absurd means
begins o b m w (list (more (list gs) fs)) s means = absurd means
begins o b m w (list none) s means = absurd means
begins o b m w (text x) s means = absurd means
begins o b m w (word x) s means = absurd means

-- and as a form of a step that makes a message where it is one
begins_made : (o : Opening) (b m : ℕ) (f : Tree) (s : Step) → MeansStep o b m f s → begins_message f ≡ makes_message s
begins_made o b m f s means =
    (λ i. begins o b m (codes "send") f s means i || (begins o b m (codes "echo") f s means i || begins o b m (codes "repeat") f s means i)) ∙ message_word s

module _ (o : Opening) (fs : List Tree) (n : ℕ) (T : Run) (within : n ≤ length fs) (r : IsReadTo o fs n T) where
  -- the forms before a place tell how many transactors and messages exist there
  new_at : (j : ℕ) → j < n → option_map_or is_new (step_at T j) false ≡ option_map_or (begins_with (codes "new")) (slice_get fs j) false
  new_at j l =
      let f = element fs j (omega arith) in
      let s = element T.steps j (omega (arith, r.count)) in
      let means = r.each j f.0 s.0 f.1 s.1 in
      ap (λ x. option_map_or is_new x false) s.1 ∙ sym (begins o (born T j) (sent T j) (codes "new") f.0 s.0 means ∙ new_word s.0) ∙ sym (ap (λ x. option_map_or (begins_with (codes "new")) x false) f.1)

  -- each form makes a message where its step does
  send_at : (j : ℕ) → j < n → option_map_or makes_message (step_at T j) false ≡ option_map_or begins_message (slice_get fs j) false
  send_at j l =
      let f = element fs j (omega arith) in
      let s = element T.steps j (omega (arith, r.count)) in
      let means = r.each j f.0 s.0 f.1 s.1 in
      ap (λ x. option_map_or makes_message x false) s.1 ∙ sym (begins_made o (born T j) (sent T j) f.0 s.0 means) ∙ sym (ap (λ x. option_map_or begins_message x false) f.1)

  -- so many transactors exist before a form
  pub born_told : (k : ℕ) → k ≤ n → born T k ≡ transactors_before o fs k
  born_told k l = omega (arith, ap (λ p. length p.names) r.opening, count-same (λ j. option_map_or is_new (step_at T j) false) (λ j. option_map_or (begins_with (codes "new")) (slice_get fs j) false) k (λ j h. new_at j (omega arith)))

  -- so many messages exist before a form
  pub sent_told : (k : ℕ) → k ≤ n → sent T k ≡ messages_before o fs k
  sent_told k l = omega (arith, ap (λ p. length p.targets) r.opening, count-same (λ j. option_map_or makes_message (step_at T j) false) (λ j. option_map_or begins_message (slice_get fs j) false) k (λ j h. send_at j (omega arith)))

  -- no step so far is faulty
  pub clean_below : (k : ℕ) (e : Fault) → StepFault o fs k e → n ≤ k
  clean_below k e (in_form {f = f} stands fault) = ⊎_elim (λ l. absurd (below l)) (λ g. g) (cases k n)
    where
      cases : (i j : ℕ) → (i < j) ⊎ (j ≤ i)
      cases i j = grind arith

      below : k < n → ⊥
      below l =
          let s = element T.steps k (omega (arith, r.count)) in
          let P : ℕ → Type 0 = λ b. FormFault o b (messages_before o fs k) f e in
          let Q : ℕ → Type 0 = λ m. FormFault o (born T k) m f e in
          clean_step o (born T k) (sent T k) f s.0 e (r.each k f s.0 stands s.1) (subst Q (sym (sent_told k (omega arith))) (subst P (sym (born_told k (omega arith))) fault))
  clean_below k e (too_many is l z) = omega (arith, r.few)

  -- the form behind the steps so far
  module _ (f : Tree) (stands : slice_get fs n ≡ Some f) where
    here : (e : Fault) → NextFault T f e → FormFault o (transactors_before o fs n) (messages_before o fs n) f e
    here e fault =
        let O : Opening → Type 0 = λ p. FormFault p (born T (len T)) (sent T (len T)) f e in
        let P : ℕ → Type 0 = λ b. FormFault o b (sent T (len T)) f e in
        let Q : ℕ → Type 0 = λ m. FormFault o (transactors_before o fs n) m f e in
        subst Q (ap (sent T) r.count ∙ sent_told n (omega arith)) (subst P (ap (born T) r.count ∙ born_told n (omega arith)) (subst O r.opening fault))

    back : (e : Fault) → FormFault o (transactors_before o fs n) (messages_before o fs n) f e → NextFault T f e
    back e fault =
        let O : Opening → Type 0 = λ p. FormFault p (born T (len T)) (sent T (len T)) f e in
        let P : ℕ → Type 0 = λ b. FormFault o b (sent T (len T)) f e in
        let Q : ℕ → Type 0 = λ m. FormFault o (transactors_before o fs n) m f e in
        subst O (sym r.opening) (subst P (sym (ap (born T) r.count ∙ born_told n (omega arith))) (subst Q (sym (ap (sent T) r.count ∙ sent_told n (omega arith))) fault))

    first_shape : (k : ℕ) → k ≡ len T → NextFault T f shape ⊎ (1000000 ≤ len T) → IsFirst o fs k shape
    first_shape k e h =
        let at : k ≡ n = e ∙ r.count in
        let l = slice_get_within fs n f stands in
        let P : ℕ → Type 0 = λ j. IsFirst o fs j shape in
        subst P (sym at) (record {
          fault = ⊎_elim (λ x. in_form stands (here shape x)) (λ g. too_many (omega (arith, g, r.count, r.few)) l refl) h;
          least = λ j g fault. clean_below j g fault;
          shape_first = λ _. refl;
        })

    not_shape : (¬ NextFault T f shape) → len T < 1000000 → StepFault o fs n shape → unknown ≡ shape
    not_shape free l (in_form {f = g} at fault) =
        let same : g ≡ f = same_some (sym at ∙ stands) in
        let P : Tree → Type 0 = λ x. FormFault o (transactors_before o fs n) (messages_before o fs n) x shape in
        absurd (free (back shape (subst P same fault)))
    not_shape free l (too_many is b z) = absurd (omega (arith, r.count))

    first_unknown : (k : ℕ) → k ≡ len T → NextFault T f unknown → (¬ NextFault T f shape) → len T < 1000000 → IsFirst o fs k unknown
    first_unknown k e h free l =
        let at : k ≡ n = e ∙ r.count in
        let P : ℕ → Type 0 = λ j. IsFirst o fs j unknown in
        subst P (sym at) (record {
          fault = in_form stands (here unknown h);
          least = λ j g fault. clean_below j g fault;
          shape_first = not_shape free l;
        })

    pub fault_told : (U : Run) (e : StepError) → AddsStep {X = Unit {0}} T f U (Err e) → IsFault o fs e
    fault_told U (errors.Shape k) h = first_shape k h.0 h.1
    fault_told U (errors.Unknown k) h = first_unknown k h.0 h.1 h.2 h.3
    fault_told U errors.NoMemory h = tt

    -- one more step
    pub one_more : (U : Run) → GoesOn T f U → IsReadTo o fs (n + 1) U
    one_more U g =
        let P : Run → Type 0 = λ V. IsReadTo o fs (n + 1) V in
        subst P (sym g.appends) (record {
          opening = r.opening;
          count = omega (arith, len-appended T g.step, r.count);
          few = omega (arith, r.count, g.few);
          each = each;
        })
      where
        V : Run
        V = appended T g.step

        each : (k : ℕ) (x : Tree) (s : Step) → slice_get fs k ≡ Some x → step_at (appended T g.step) k ≡ Some s → MeansStep o (born (appended T g.step) k) (sent (appended T g.step) k) x s
        each k x s at is = ⊎_elim old new (slice_get-push_cases T.steps g.step s k is)
          where
            carry : (y : Step) → k ≤ len T → MeansStep o (born T k) (sent T k) x y → MeansStep o (born (appended T g.step) k) (sent (appended T g.step) k) x y
            carry y l means =
                let agree = agree_below k l (agree_appended T g.step) in
                let B : ℕ → Type 0 = λ b. MeansStep o b (sent T k) x y in
                let M : ℕ → Type 0 = λ m. MeansStep o (born (appended T g.step) k) m x y in
                subst M (sent-same k agree) (subst B (born-same k agree) means)

            old : step_at T k ≡ Some s → MeansStep o (born (appended T g.step) k) (sent (appended T g.step) k) x s
            old e = carry s (omega (arith, slice_get_within T.steps k s e)) (r.each k x s at e)

            new : (k ≡ len T) × (g.step ≡ s) → MeansStep o (born (appended T g.step) k) (sent (appended T g.step) k) x s
            new p =
                let same : f ≡ x = same_some (sym stands ∙ ap (slice_get fs) (sym r.count ∙ sym p.0) ∙ at) in
                let O : Opening → Type 0 = λ q. MeansStep q (born T (len T)) (sent T (len T)) f g.step in
                let K : ℕ → Type 0 = λ j. MeansStep o (born T j) (sent T j) f g.step in
                let X : Tree → Type 0 = λ y. MeansStep o (born T k) (sent T k) y g.step in
                let S : Step → Type 0 = λ y. MeansStep o (born T k) (sent T k) x y in
                carry s (omega (arith, p.0)) (subst S p.1 (subst X same (subst K (sym p.0) (subst O r.opening g.means))))

-- forms that mean steps have no fault
pub no_fault : (o : Opening) (fs : List Tree) (T : Run) (k : ℕ) (e : Fault) → MeansSteps o fs T → ¬ StepFault o fs k e
no_fault o fs T k e m (in_form {f = f} stands fault) =
    omega (arith, clean_below o fs (length fs) T (omega arith) (whole_read o fs T m) k e (in_form stands fault), slice_get_within fs k f stands)
no_fault o fs T k e m (too_many is l z) = omega (arith, m.few)

-- where forms mean a run, an answer without it is want of memory
pub none_told : {X : Type 0} (o : Opening) (fs : List Tree) (T : Run) (answer : Result X StepError) → MeansSteps o fs T → IfErr answer (IsFault o fs) → IfErr answer (λ e. e ≡ errors.NoMemory)
none_told o fs T (Ok x) m h = h
none_told o fs T (Err (errors.Shape k)) m h = absurd (no_fault o fs T k shape m h.fault)
none_told o fs T (Err (errors.Unknown k)) m h = absurd (no_fault o fs T k unknown m h.fault)
none_told o fs T (Err errors.NoMemory) m h = refl

-- an error that is handed on
pub handed_on : {X : Type 0} (o : Opening) (fs : List Tree) (answer : Result X StepError) (e : StepError) → IsErrAnd answer (λ x. x ≡ e) → IsFault o fs e → IfErr answer (IsFault o fs)
handed_on o fs (Ok x) e same fault = tt
handed_on o fs (Err x) e same fault = subst (IsFault o fs) (sym same) fault

-- the forms of a range
pub range_told : (xs : List Form) (fs : List Tree) (i j : ℕ) → map tree_of xs ≡ fs → map tree_of (slice_range xs i j) ≡ slice_range fs i j
range_told xs fs i j e = sym (take-map tree_of (j - i) (drop i xs)) ∙ ap (take (j - i)) (sym (drop-map tree_of i xs) ∙ ap (drop i) e)
