-- The forms of steps: how deep they are, and that they tell the steps.
use Rattle.std.proofs.Common.{◌≡◌, ◌≢◌, ⊎_elim, ℕ, zero, suc, ◌^◌, ◌<◌, ◌≤◌, Bool, true, false, List, [], ◌∷◌, length, Option, Some, None, option_map, refl, sym, ap, ◌∙◌, subst, arith, codes, unwrap_or, slice_get, if◌then◌else◌}
use Rattle.std.specs.Str.{bytes_eq}
use Rattle.std.proofs.lemmas.Option.{slice_get_within}
use Rattle.std.specs.Prelude.{Result, Ok, Err, IfOk, OnOk}
use Rattle.std.specs.declared.alloc.AllocError.{AllocError}
use Rattle.tau_sexpr.specs.Form.{tree_of}
use Rattle.tau_sexpr.specs.declared.trees.Form.{Form}
use Rattle.tau_sexpr.specs.Tree.{Tree, Trees, word, text, list, none, more, inside, depth_of, HasWords, AllHaveWords}
use Rattle.tau_value.specs.Val as val
use Rattle.tau_value.specs.Val.{Val}
use Rattle.tau_value.specs.Names.{AreNames}
use Rattle.tau_value.specs.Numbers.{count_in}
use Rattle.tau_value.specs.Value.{val_of}
use Rattle.tau_value.specs.Sizes.{IsInBounds}
use Rattle.tau_value.specs.Meaning.{counted, named}
use Rattle.tau_value.specs.Written.{name_written, count_form, IsWritten}
use Rattle.tau_value.specs.declared.shared.Value.{Value}
use Rattle.tau_value.proofs.NumberLemmas.{count_in-decimal}
use Rattle.tau_value.proofs.WrittenLemmas.{reads_back, number_nonempty, decimal_filled}
use Rattle.tau_value.proofs.ValueLemmas.{value_at, value_at-val_of}
use Rattle.tau_trace.specs.declared.opening.Opening.{Opening}
use Rattle.tau_trace.specs.declared.step.Step.{Step}
use Rattle.tau_trace.specs.declared.step.Step.TheVariants.{Take, Drop, Fall, Void, Get, Set, Skip, Send, New, Stabilize, Ask, Checkpoint, Hold, Rollback, Stay, Done, Trap, Fail, Lose, Echo, Heed, Repeat}
use Rattle.tau_trace.specs.Run.{Run, step_at}
use Rattle.tau_trace.specs.Numbering.{born, sent, number_made}
use Rattle.tau_trace.specs.Known.{IsSound, IsKnown, IsKnownValue, WellFormed}
use Rattle.tau_steps.specs.StepForms.{kind_word, who_form, truth_form, value_form, item_forms, step_form, step_form_at, ValueIsWritten, IsWrittenAt}
use Rattle.tau_trace.proofs.Agreement.{born-same}
use Rattle.tau_trace.proofs.Indexing.{born-le, sent-le}
use Rattle.tau_trace.proofs.Lists.{same_some}
use Rattle.tau_trace.proofs.Sequences.{cases_last}

-- the number of a name
number_of : Val → ℕ
number_of (val.name n) = n
number_of v = 0

-- what the items of a form are read as
word_in : Tree → List ℕ
word_in (word w) = w
word_in t = []

name_in : List (List ℕ) → ℕ → Tree → ℕ
name_in names bound t = number_of (named names bound (more t none))

count_at : Tree → ℕ
count_at t = unwrap_or (count_in (word_in t)) 0

truth_in : Tree → Bool
truth_in t = bytes_eq (word_in t) (codes "true")

value_in : Opening → ℕ → Tree → Value
value_in o bound t = value_at (counted o.names bound t)

item_at : Trees → ℕ → Tree
item_at none i = text []
item_at (more t ts) zero = t
item_at (more t ts) (suc i) = item_at ts i

read_kind : Opening → ℕ → List ℕ → Trees → Step
read_kind o b k ts =
    let who = name_in o.names b (item_at ts 0) in
    if bytes_eq k (codes "take") then Take who (count_at (item_at ts 1))
    else (if bytes_eq k (codes "drop") then Drop who (count_at (item_at ts 1))
    else (if bytes_eq k (codes "fall") then Fall who (count_at (item_at ts 1))
    else (if bytes_eq k (codes "void") then Void who (count_at (item_at ts 1))
    else (if bytes_eq k (codes "get") then Get who
    else (if bytes_eq k (codes "set") then Set who (value_in o b (item_at ts 1))
    else (if bytes_eq k (codes "skip") then Skip who
    else (if bytes_eq k (codes "send") then Send who (name_in o.names b (item_at ts 2)) (value_in o b (item_at ts 3))
    else (if bytes_eq k (codes "new") then New who (name_in o.behaviours (length o.behaviours) (item_at ts 2)) (count_at (item_at ts 3)) (value_in o b (item_at ts 4))
    else (if bytes_eq k (codes "stabilize") then Stabilize who
    else (if bytes_eq k (codes "ask") then Ask who (truth_in (item_at ts 1))
    else (if bytes_eq k (codes "checkpoint") then Checkpoint who
    else (if bytes_eq k (codes "hold") then Hold who
    else (if bytes_eq k (codes "rollback") then Rollback who
    else (if bytes_eq k (codes "stay") then Stay who
    else (if bytes_eq k (codes "done") then Done who
    else (if bytes_eq k (codes "trap") then Trap who (count_at (item_at ts 1))
    else (if bytes_eq k (codes "fail") then Fail who
    else (if bytes_eq k (codes "echo") then Echo who (count_at (item_at ts 2))
    else (if bytes_eq k (codes "heed") then Heed who (count_at (item_at ts 1))
    else (if bytes_eq k (codes "repeat") then Repeat (count_at (item_at ts 1))
    else Lose (count_at (item_at ts 0))))))))))))))))))))))

read_step : Opening → ℕ → Tree → Step
read_step o b (list (more (word k) ts)) = read_kind o b k ts
read_step o b t = Lose 0

name_back : (names : List (List ℕ)) (bound n : ℕ) → AreNames names → n < bound → bound < 2 ^ 32 → name_in names bound (word (name_written names n)) ≡ n
unfolding name_in number_of
name_back names bound n are below small =
    let in_bounds : IsInBounds (val.name n) = (omega arith, omega arith) in
    ap number_of (reads_back names (val.name n) are (omega arith) bound in_bounds below).value

count_back : (n : ℕ) → n < 2 ^ 32 → count_at (count_form n) ≡ n
unfolding count_at word_in
count_back n small = ap (λ o. unwrap_or o 0) (count_in-decimal n (omega arith))

truth_back : (a : Bool) → truth_in (truth_form a) ≡ a
unfolding truth_in word_in
truth_back true = refl
truth_back false = refl

value_back : (o : Opening) (bound : ℕ) (v : Value) → IsKnownValue bound v → IsWritten o.names (val_of v) → value_in o bound (value_form o v) ≡ v
unfolding value_in
value_back o bound v known is = ap value_at (is.read_back bound known.in_bounds known.names).value ∙ value_at-val_of v

-- the form of a step is read as the step
read_back : (o : Opening) (b m made : ℕ) (s : Step) → IsSound o → b < 2 ^ 32 → m < 2 ^ 32 → IsKnown o b m s → ValueIsWritten o s → read_step o b (step_form o made s) ≡ s
unfolding read_step read_kind item_at
read_back o b m made (Take t x) sound fb fm h w = λ i. Take (name_back o.names b t sound.names h.0 fb i) (count_back x (omega (arith, h.1, fm)) i)
read_back o b m made (Drop t x) sound fb fm h w = λ i. Drop (name_back o.names b t sound.names h.0 fb i) (count_back x (omega (arith, h.1, fm)) i)
read_back o b m made (Fall t x) sound fb fm h w = λ i. Fall (name_back o.names b t sound.names h.0 fb i) (count_back x (omega (arith, h.1, fm)) i)
read_back o b m made (Void t x) sound fb fm h w = λ i. Void (name_back o.names b t sound.names h.0 fb i) (count_back x (omega (arith, h.1, fm)) i)
read_back o b m made (Get t) sound fb fm h w = λ i. Get (name_back o.names b t sound.names h fb i)
read_back o b m made (Set t v) sound fb fm h w = λ i. Set (name_back o.names b t sound.names h.0 fb i) (value_back o b v h.1 w i)
read_back o b m made (Skip t) sound fb fm h w = λ i. Skip (name_back o.names b t sound.names h fb i)
read_back o b m made (Send t u v) sound fb fm h w = λ i. Send (name_back o.names b t sound.names h.0 fb i) (name_back o.names b u sound.names h.1 fb i) (value_back o b v h.2 w i)
read_back o b m made (New t c n v) sound fb fm h w = λ i. New (name_back o.names b t sound.names h.0 fb i) (name_back o.behaviours (length o.behaviours) c sound.behaviours h.1 (omega (arith, sound.few_behaviours)) i) (count_back n (omega (arith, h.2, sound.few_nodes)) i) (value_back o b v h.3 w i)
read_back o b m made (Stabilize t) sound fb fm h w = λ i. Stabilize (name_back o.names b t sound.names h fb i)
read_back o b m made (Ask t a) sound fb fm h w = λ i. Ask (name_back o.names b t sound.names h fb i) (truth_back a i)
read_back o b m made (Checkpoint t) sound fb fm h w = λ i. Checkpoint (name_back o.names b t sound.names h fb i)
read_back o b m made (Hold t) sound fb fm h w = λ i. Hold (name_back o.names b t sound.names h fb i)
read_back o b m made (Rollback t) sound fb fm h w = λ i. Rollback (name_back o.names b t sound.names h fb i)
read_back o b m made (Stay t) sound fb fm h w = λ i. Stay (name_back o.names b t sound.names h fb i)
read_back o b m made (Done t) sound fb fm h w = λ i. Done (name_back o.names b t sound.names h fb i)
read_back o b m made (Trap t c) sound fb fm h w = λ i. Trap (name_back o.names b t sound.names h.0 fb i) (count_back c (omega (arith, h.2)) i)
read_back o b m made (Fail t) sound fb fm h w = λ i. Fail (name_back o.names b t sound.names h fb i)
read_back o b m made (Lose x) sound fb fm h w = λ i. Lose (count_back x (omega (arith, h, fm)) i)
read_back o b m made (Echo t x) sound fb fm h w = λ i. Echo (name_back o.names b t sound.names h.0 fb i) (count_back x (omega (arith, h.1, fm)) i)
read_back o b m made (Heed t x) sound fb fm h w = λ i. Heed (name_back o.names b t sound.names h.0 fb i) (count_back x (omega (arith, h.1, fm)) i)
read_back o b m made (Repeat x) sound fb fm h w = λ i. Repeat (count_back x (omega (arith, h, fm)) i)

pub same_elements : {A : Type 0} (xs ys : List A) → ((k : ℕ) → slice_get xs k ≡ slice_get ys k) → xs ≡ ys
same_elements [] [] e = refl
same_elements [] (y ∷ ys) e = absurd (let h = e 0 in cc)
same_elements (x ∷ xs) [] e = absurd (let h = e 0 in cc)
same_elements (x ∷ xs) (y ∷ ys) e =
    let first : x ≡ y = same_some (e 0) in
    let rest : xs ≡ ys = same_elements xs ys (λ k. e (suc k)) in
    λ i. first i ∷ rest i

module _ (T U : Run) (w : WellFormed T) (v : WellFormed U) (wt : (k : ℕ) → IsWrittenAt T k) (wu : (k : ℕ) → IsWrittenAt U k) (opening : T.opening ≡ U.opening) (forms : (k : ℕ) → step_form_at T k ≡ step_form_at U k) where
  few : (R : Run) → WellFormed R → (k : ℕ) (s : Step) → step_at R k ≡ Some s → (born R k < 2 ^ 32) × (sent R k < 2 ^ 32)
  few R x k s e =
      let below = slice_get_within R.steps k s e in
      (omega (arith, born-le R k, x.opening.few_names, x.few_steps, below), omega (arith, sent-le R k, x.opening.few_targets, x.few_steps, below))

  read_at : (R : Run) → WellFormed R → ((k : ℕ) → IsWrittenAt R k) → (k : ℕ) (s : Step) → step_at R k ≡ Some s → read_step R.opening (born R k) (step_form R.opening (number_made s (born R k) (sent R k)) s) ≡ s
  read_at R x xt k s e =
      let f = few R x k s e in
      read_back R.opening (born R k) (sent R k) (number_made s (born R k) (sent R k)) s x.opening f.0 f.1 (x.known k s e) (xt k s e)

  same_step : (k : ℕ) → born T k ≡ born U k → (a b : Option Step) → step_at T k ≡ a → step_at U k ≡ b → a ≡ b
  same_step k n None None e f = refl
  same_step k n None (Some r) e f = absurd (let g = sym (ap (option_map (λ s. step_form T.opening (number_made s (born T k) (sent T k)) s)) e) ∙ forms k ∙ ap (option_map (λ s. step_form U.opening (number_made s (born U k) (sent U k)) s)) f in cc)
  same_step k n (Some r) None e f = absurd (let g = sym (ap (option_map (λ s. step_form T.opening (number_made s (born T k) (sent T k)) s)) e) ∙ forms k ∙ ap (option_map (λ s. step_form U.opening (number_made s (born U k) (sent U k)) s)) f in cc)
  same_step k n (Some r) (Some q) e f =
      let g : step_form T.opening (number_made r (born T k) (sent T k)) r ≡ step_form U.opening (number_made q (born U k) (sent U k)) q = same_some (sym (ap (option_map (λ s. step_form T.opening (number_made s (born T k) (sent T k)) s)) e) ∙ forms k ∙ ap (option_map (λ s. step_form U.opening (number_made s (born U k) (sent U k)) s)) f) in
      ap Some (sym (read_at T w wt k r e) ∙ (λ i. read_step (opening i) (n i) (g i)) ∙ read_at U v wu k q f)

  agree_to : (k : ℕ) → (j : ℕ) → j < k → step_at T j ≡ step_at U j
  agree_to zero j l = absurd (omega (arith, l))
  agree_to (suc k) j l = ⊎_elim
      (λ (e : j ≡ k). ap (step_at T) e ∙ same_step k (born-same k (record { opening = opening; steps = agree_to k })) (step_at T k) (step_at U k) refl refl ∙ ap (step_at U) (sym e))
      (λ b. agree_to k j b)
      (cases_last j k l)

  pub forms_tell : T ≡ U
  forms_tell =
      let steps : T.steps ≡ U.steps = same_elements T.steps U.steps (λ k. agree_to (suc k) k (omega arith)) in
      λ i. record { opening = opening i; steps = steps i }

pub no_mark : (o : Opening) (made : ℕ) (s : Step) (w : List ℕ) → step_form o made s ≢ list (more (word w) none)
no_mark o made (Take t m) w e = cc
no_mark o made s w e = cc

-- the words of a form
truth_word : (a : Bool) → HasWords (truth_form a)
truth_word true e = cc
truth_word false e = cc

kind_nonempty : (s : Step) → kind_word s ≢ []
kind_nonempty (Take t m) e = cc
kind_nonempty s e = cc

pub step_form-words : (o : Opening) (b m made : ℕ) (s : Step) → IsSound o → b < 2 ^ 32 → m < 2 ^ 32 → made < 2 ^ 32 → IsKnown o b m s → ValueIsWritten o s → HasWords (step_form o made s)
step_form-words o b m made s sound fb fm fn h w = (kind_nonempty s, items s h w) where
  who : (t : ℕ) → t < b → HasWords (who_form o t)
  who t l = number_nonempty o.names t sound.names (omega arith)

  items : (s : Step) → IsKnown o b m s → ValueIsWritten o s → AllHaveWords (inside (item_forms o made s))
  items (Take t x) h w = (who t h.0, (decimal_filled x (omega (arith, h.1)), tt))
  items (Drop t x) h w = (who t h.0, (decimal_filled x (omega (arith, h.1)), tt))
  items (Fall t x) h w = (who t h.0, (decimal_filled x (omega (arith, h.1)), tt))
  items (Void t x) h w = (who t h.0, (decimal_filled x (omega (arith, h.1)), tt))
  items (Get t) h w = (who t h, tt)
  items (Set t v) h w = (who t h.0, (w.words, tt))
  items (Skip t) h w = (who t h, tt)
  items (Send t u v) h w = (who t h.0, (decimal_filled made (omega arith), (who u h.1, (w.words, tt))))
  items (New t c n v) h w = (who t h.0, (decimal_filled made (omega arith), (number_nonempty o.behaviours c sound.behaviours (omega (arith, h.1, sound.few_behaviours)), (decimal_filled n (omega (arith, h.2, sound.few_nodes)), (w.words, tt)))))
  items (Stabilize t) h w = (who t h, tt)
  items (Ask t a) h w = (who t h, (truth_word a, tt))
  items (Checkpoint t) h w = (who t h, tt)
  items (Hold t) h w = (who t h, tt)
  items (Rollback t) h w = (who t h, tt)
  items (Stay t) h w = (who t h, tt)
  items (Done t) h w = (who t h, tt)
  items (Trap t c) h w = (who t h.0, (decimal_filled c (omega (arith, h.2)), tt))
  items (Fail t) h w = (who t h, tt)
  items (Lose x) h w = (decimal_filled x (omega (arith, h)), tt)
  items (Echo t x) h w = (who t h.0, (decimal_filled made (omega arith), (decimal_filled x (omega (arith, h.1)), tt)))
  items (Heed t x) h w = (who t h.0, (decimal_filled x (omega (arith, h.1)), tt))
  items (Repeat x) h w = (decimal_filled made (omega arith), (decimal_filled x (omega (arith, h)), tt))

value_depth : (o : Opening) (b : ℕ) (v : Value) → IsKnownValue b v → IsWritten o.names (val_of v) → depth_of (value_form o v) ≤ 64
value_depth o b v known is = omega (arith, is.depth, known.in_bounds.1)

pub step_form-depth : (o : Opening) (b m made : ℕ) (s : Step) → IsKnown o b m s → ValueIsWritten o s → depth_of (step_form o made s) ≤ 65
step_form-depth o b m made (Set t v) h w = omega (arith, value_depth o b v h.1 w)
step_form-depth o b m made (Send t u v) h w = omega (arith, value_depth o b v h.2 w)
step_form-depth o b m made (New t c n v) h w = omega (arith, value_depth o b v h.3 w)
step_form-depth o b m made s h w = omega arith

depth_of_answer : (r : Result Form AllocError) (o : Opening) (b m made : ℕ) (s : Step) → IsKnown o b m s → IfOk r (λ f. tree_of f ≡ step_form o made s) → OnOk r (ValueIsWritten o s) → IfOk r (λ f. depth_of (tree_of f) ≤ 65)
depth_of_answer (Ok f) o b m made s h e w = let P : Tree → Type 0 = λ t. depth_of t ≤ 65 in subst P (sym e) (step_form-depth o b m made s h w)
depth_of_answer (Err x) o b m made s h e w = e

words_of_answer : (r : Result Form AllocError) (o : Opening) (b m made : ℕ) (s : Step) → IsSound o → b < 2 ^ 32 → m < 2 ^ 32 → made < 2 ^ 32 → IsKnown o b m s → IfOk r (λ f. tree_of f ≡ step_form o made s) → OnOk r (ValueIsWritten o s) → IfOk r (λ f. HasWords (tree_of f))
words_of_answer (Ok f) o b m made s sound fb fm fn h e w = subst HasWords (sym e) (step_form-words o b m made s sound fb fm fn h w)
words_of_answer (Err x) o b m made s sound fb fm fn h e w = e

module _ (T : Run) (w : WellFormed T) (k made : ℕ) (s : Step) (stands : step_at T k ≡ Some s) (o : Opening) (is : o ≡ T.opening) (r : Result Form AllocError) (form : IfOk r (λ f. tree_of f ≡ step_form o made s)) (value : OnOk r (ValueIsWritten o s)) where
  known : IsKnown o (born T k) (sent T k) s
  known = let P : Opening → Type 0 = λ x. IsKnown x (born T k) (sent T k) s in subst P (sym is) (w.known k s stands)

  pub form_depth : IfOk r (λ f. depth_of (tree_of f) ≤ 65)
  form_depth = depth_of_answer r o (born T k) (sent T k) made s known form value

  pub form_words : made < 2 ^ 32 → IfOk r (λ f. HasWords (tree_of f))
  form_words fits =
      let below = slice_get_within T.steps k s stands in
      words_of_answer r o (born T k) (sent T k) made s (subst IsSound (sym is) w.opening)
      (omega (arith, born-le T k, w.opening.few_names, w.few_steps, below))
      (omega (arith, sent-le T k, w.opening.few_targets, w.few_steps, below))
      fits known form value
