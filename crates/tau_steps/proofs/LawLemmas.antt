-- The forms that steps are printed as mean them, and forms mean one run at most.
use Rattle.std.proofs.Common.{◌≡◌, ◌⊎◌, ⊎_elim, ℕ, suc, ◌^◌, ◌<◌, ◌≤◌, Bool, true, false, List, [], ◌∷◌, length, get_or, map, Option, Some, None, option_map, refl, sym, ap, ◌∙◌, subst, arith, unwrap_or}
use Rattle.std.specs.Prelude.{slice_get}
use Rattle.std.specs.Option.{option_map_or}
use Rattle.std.specs.Fmt.{decimal}
use Rattle.std.proofs.lemmas.Option.{slice_get_cases, slice_get_within, slice_get_past}
use Rattle.tau_sexpr.specs.Tree.{Tree, Trees, word, text, list, none, more, inside}
use Rattle.tau_value.specs.Val as val
use Rattle.tau_value.specs.Val.{Val}
use Rattle.tau_value.specs.Value.{val_of}
use Rattle.tau_value.specs.Names.{AreNames, place_of}
use Rattle.tau_value.specs.Sizes.{IsInBounds}
use Rattle.tau_value.specs.Meaning.{number_named, counted}
use Rattle.tau_value.specs.Written.{name_written, count_form, IsWritten}
use Rattle.tau_value.specs.declared.shared.Value.{Value}
use Rattle.tau_value.proofs.NameLemmas.{place_of-at}
use Rattle.tau_value.proofs.NumberLemmas.{count_in-decimal}
use Rattle.tau_value.proofs.WrittenLemmas.{reads_back}
use Rattle.tau_value.proofs.ValueLemmas.{value_at, value_at-val_of}
use Rattle.tau_trace.specs.declared.opening.Opening.{Opening}
use Rattle.tau_trace.specs.declared.step.Step.{Step}
use Rattle.tau_trace.specs.declared.step.Step.TheVariants.{Take, Drop, Fall, Void, Get, Set, Skip, Send, New, Stabilize, Ask, Checkpoint, Hold, Rollback, Stay, Done, Trap, Fail, Lose, Echo, Heed, Repeat}
use Rattle.tau_trace.specs.Run.{Run, len, step_at}
use Rattle.tau_trace.specs.Numbering.{born, sent, number_made}
use Rattle.tau_trace.specs.Known.{IsSound, IsKnown, IsKnownValue, IsInVersion, WellFormed}
use Rattle.tau_steps.specs.StepForms.{who_form, truth_form, value_form, item_forms, step_form, step_form_at, ValueIsWritten, IsWrittenAt}
use Rattle.tau_trace.proofs.Indexing.{born-le, sent-le}
use Rattle.tau_trace.proofs.Lists.{same_some}
use Rattle.tau_trace.proofs.Reading.{element}
use Rattle.tau_steps.proofs.StepFormLemmas.{same_elements}
use Rattle.tau_steps.specs.declared.kinds.Kind.{Kind}
use Rattle.tau_steps.specs.declared.kinds.Kind.TheVariants as kinds
use Rattle.tau_steps.specs.Kinds.{kind_of, kind_in, message_step, alone_step}
use Rattle.tau_steps.specs.Meaning as item
use Rattle.tau_steps.specs.Meaning.{Item, items_of, named_at, place_at, count_at, truth_at, MeansItem, MeansItems, MeansStep, MeansSteps}
use Rattle.tau_steps.specs.Faults as role
use Rattle.tau_steps.specs.Faults.{Role, roles_of}
use Rattle.tau_steps.proofs.TellsLemmas.{role_of}
use Rattle.tau_steps.proofs.KindLemmas.{kind_of-word}
use Rattle.tau_steps.proofs.StepLemmas.{roles-step}
use Rattle.tau_steps.proofs.LoopLemmas.{whole_read, born_told, sent_told}

-- the word of a transactor names it
named_from : (o : Option ℕ) (n : ℕ) → option_map_or val.name o val.unit ≡ val.name n → o ≡ Some n
named_from None n e = cc
named_from (Some k) n e = cc

-- the word that a transactor is written as names it
who_means : (names : List (List ℕ)) (bound n : ℕ) → AreNames names → n < bound → bound < 2 ^ 32 → named_at names bound (word (name_written names n)) ≡ Some n
who_means names bound n are below small =
    let in_bounds : IsInBounds (val.name n) = (omega arith, omega arith) in
    named_from (number_named names bound (name_written names n)) n (reads_back names (val.name n) are (omega arith) bound in_bounds below).value

-- the word of a behaviour names it
behaviour_means : (names : List (List ℕ)) (n : ℕ) → AreNames names → n < length names → place_at names (word (name_written names n)) ≡ Some n
behaviour_means names n are lt = ⊎_elim start other (slice_get_cases names n).1
  where
    start : (w : List ℕ) × (n < length names) × (slice_get names n ≡ Some w) × (get_or names n w ≡ w) → place_at names (word (name_written names n)) ≡ Some n
    start (w, below, e, is) = ap (λ o. place_of names (unwrap_or o (decimal n))) e ∙ place_of-at names n w are.distinct below is

    other : (length names ≤ n) × (slice_get names n ≡ None) → place_at names (word (name_written names n)) ≡ Some n
    other (le, e) = absurd (omega arith)

-- a count that is written of a number means it
count_means : (n : ℕ) → n < 2 ^ 32 → count_at (count_form n) ≡ Some n
count_means n small = count_in-decimal n (omega arith)

-- so does the word of a truth
truth_means : (a : Bool) → truth_at (truth_form a) ≡ Some a
truth_means true = refl
truth_means false = refl

-- the form of a step means the step
module _ (o : Opening) (b m : ℕ) (sound : IsSound o) (fb : b < 2 ^ 32) (fm : m < 2 ^ 32) where
  who : (t : ℕ) → t < b → named_at o.names b (who_form o t) ≡ Some t
  who t l = who_means o.names b t sound.names l fb

  -- the count of a message that exists
  message_is : (x : ℕ) → x < m → (count_at (count_form x) ≡ Some x) × (x < m)
  message_is x l = (count_means x (omega arith), l)

  -- the form of a value
  value_is : (v : Value) → IsKnownValue b v → IsWritten o.names (val_of v) → MeansItem o b m (item.value (val_of v)) (value_form o v)
  value_is v known is = is.read_back b known.in_bounds known.names

  -- each kind of step in turn
  form_items : (s : Step) → IsKnown o b m s → ValueIsWritten o s → MeansItems o b m (items_of b m s) (inside (item_forms o (number_made s b m) s))
  form_items (Take t x) h w = (who t h.0, (message_is x h.1, tt))
  form_items (Drop t x) h w = (who t h.0, (message_is x h.1, tt))
  form_items (Fall t x) h w = (who t h.0, (message_is x h.1, tt))
  form_items (Void t x) h w = (who t h.0, (message_is x h.1, tt))
  form_items (Get t) h w = (who t h, tt)
  form_items (Set t v) h w = (who t h.0, (value_is v h.1 w, tt))
  form_items (Skip t) h w = (who t h, tt)
  form_items (Send t u v) h w = (who t h.0, (count_means m fm, (who u h.1, (value_is v h.2 w, tt))))
  form_items (New t c n v) h w = (who t h.0, (count_means b fb, (behaviour_means o.behaviours c sound.behaviours h.1, ((count_means n (omega (arith, h.2, sound.few_nodes)), h.2), (value_is v h.3 w, tt)))))
  form_items (Stabilize t) h w = (who t h, tt)
  form_items (Ask t a) h w = (who t h, (truth_means a, tt))
  form_items (Checkpoint t) h w = (who t h, tt)
  form_items (Hold t) h w = (who t h, tt)
  form_items (Rollback t) h w = (who t h, tt)
  form_items (Stay t) h w = (who t h, tt)
  form_items (Done t) h w = (who t h, tt)
  form_items (Trap t c) h w = (who t h.0, ((count_means c (omega (arith, h.2)), h.1, h.2), tt))
  form_items (Fail t) h w = (who t h, tt)
  form_items (Lose x) h w = (message_is x h, tt)
  form_items (Echo t x) h w = (who t h.0, (count_means m fm, (message_is x h.1, tt)))
  form_items (Heed t x) h w = (who t h.0, (message_is x h.1, tt))
  form_items (Repeat x) h w = (count_means m fm, (message_is x h, tt))

  pub form_means : (s : Step) → IsKnown o b m s → IsInVersion o.version s → ValueIsWritten o s → MeansStep o b m (step_form o (number_made s b m) s) s
  form_means s h v w = (refl, form_items s h w, v)

-- a printed step means itself
pub printed_step : (T : Run) → WellFormed T → (k : ℕ) (f : Tree) (s : Step) → IsWrittenAt T k → step_form_at T k ≡ Some f → step_at T k ≡ Some s → MeansStep T.opening (born T k) (sent T k) f s
printed_step T w k f s written form stands =
    let below = slice_get_within T.steps k s stands in
    let fb : born T k < 2 ^ 32 = omega (arith, born-le T k, w.opening.few_names, w.few_steps, below) in
    let fm : sent T k < 2 ^ 32 = omega (arith, sent-le T k, w.opening.few_targets, w.few_steps, below) in
    let same : step_form T.opening (number_made s (born T k) (sent T k)) s ≡ f = same_some (sym (ap (option_map (λ x. step_form T.opening (number_made x (born T k) (sent T k)) x)) stands) ∙ form) in
    let P : Tree → Type 0 = λ x. MeansStep T.opening (born T k) (sent T k) x s in
    subst P same (form_means T.opening (born T k) (sent T k) w.opening fb fm s (w.known k s stands) (w.versions k s stands) (written s stands))

-- a list that has an element where another has one is as long
same_length : {A B : Type 0} (xs : List A) (ys : List B) (g : ℕ → B → A) → ((k : ℕ) → slice_get xs k ≡ option_map (g k) (slice_get ys k)) → length xs ≡ length ys
same_length [] [] g e = refl
same_length [] (y ∷ ys) g e = absurd (let h : None ≡ Some (g 0 y) = e 0 in cc)
same_length (x ∷ xs) [] g e = absurd (let h : Some x ≡ None = e 0 in cc)
same_length (x ∷ xs) (y ∷ ys) g e = omega (arith, same_length xs ys (λ k. g (suc k)) (λ k. e (suc k)))

-- a printed trace means itself
pub printed_trace : (T : Run) (fs : List Tree) → WellFormed T → ((k : ℕ) → IsWrittenAt T k) → ((k : ℕ) → slice_get fs k ≡ step_form_at T k) → MeansSteps T.opening fs T
printed_trace T fs w written forms =
    let long : length fs ≡ len T = same_length fs T.steps (λ k s. step_form T.opening (number_made s (born T k) (sent T k)) s) forms in
    record {
      opening = refl;
      count = sym long;
      few = omega (arith, w.few_steps);
      each = λ k f s at stands. printed_step T w k f s (written k) (sym (forms k) ∙ at) stands;
    }

-- what a form means as an item of a role
item_in : Opening → ℕ → Role → Tree → Option Item
item_in o b role.transactor f = option_map item.transactor (named_at o.names b f)
item_in o b role.message f = option_map item.message (count_at f)
item_in o b (role.next n) f = option_map item.next (count_at f)
item_in o b role.behaviour f = option_map item.behaviour (place_at o.behaviours f)
item_in o b role.node f = option_map item.node (count_at f)
item_in o b role.code f = option_map item.code (count_at f)
item_in o b role.truth f = option_map item.truth (truth_at f)
item_in o b role.value f = Some (item.value (counted o.names b f))

-- that is the item that the form means
item_is : (o : Opening) (b m : ℕ) (i : Item) (f : Tree) → MeansItem o b m i f → item_in o b (role_of i) f ≡ Some i
unfolding item_in
item_is o b m (item.transactor t) f h = ap (option_map item.transactor) h
item_is o b m (item.message n) f h = ap (option_map item.message) h.0
item_is o b m (item.next n) f h = ap (option_map item.next) h
item_is o b m (item.behaviour n) f h = ap (option_map item.behaviour) h
item_is o b m (item.node n) f h = ap (option_map item.node) h.0
item_is o b m (item.code c) f h = ap (option_map item.code) h.0
item_is o b m (item.truth a) f h = ap (option_map item.truth) h
item_is o b m (item.value v) f h = ap (λ w. Some (item.value w)) h.value

-- forms mean one item each, where the roles are given
same_item : (o : Opening) (b m : ℕ) (i j : Item) (f : Tree) → role_of i ≡ role_of j → MeansItem o b m i f → MeansItem o b m j f → i ≡ j
same_item o b m i j f e hi hj = same_some (sym (item_is o b m i f hi) ∙ ap (λ r. item_in o b r f) e ∙ item_is o b m j f hj)

-- equal lists begin with the same role
head_role : (r q : Role) (rs qs : List Role) → r ∷ rs ≡ q ∷ qs → r ≡ q
head_role r q rs qs e = cc

-- and go on with the same roles
tail_roles : (r q : Role) (rs qs : List Role) → r ∷ rs ≡ q ∷ qs → rs ≡ qs
tail_roles r q rs qs e = cc

-- the same for lists of items
same_items : (o : Opening) (b m : ℕ) (is js : List Item) (fs : Trees) → map role_of is ≡ map role_of js → MeansItems o b m is fs → MeansItems o b m js fs → is ≡ js
same_items o b m [] [] fs e hi hj = refl
same_items o b m [] (j ∷ js) fs e hi hj = absurd (let g : [] ≡ role_of j ∷ map role_of js = e in cc)
same_items o b m (i ∷ is) [] fs e hi hj = absurd (let g : role_of i ∷ map role_of is ≡ [] = e in cc)
same_items o b m (i ∷ is) (j ∷ js) none e hi hj = absurd hi
same_items o b m (i ∷ is) (j ∷ js) (more f fs) e hi hj =
    let one = same_item o b m i j f (head_role (role_of i) (role_of j) (map role_of is) (map role_of js) e) hi.0 hj.0 in
    let rest = same_items o b m is js fs (tail_roles (role_of i) (role_of j) (map role_of is) (map role_of js) e) hi.1 hj.1 in
    λ x. one x ∷ rest x

-- a step by its kind and items
step_in : Kind → List Item → Step
step_in (kinds.OfMessage k) (item.transactor t ∷ item.message x ∷ []) = message_step k t x
step_in (kinds.Alone k) (item.transactor t ∷ []) = alone_step k t
step_in kinds.Set (item.transactor t ∷ item.value v ∷ []) = Set t (value_at v)
step_in kinds.Send (item.transactor t ∷ item.next n ∷ item.transactor u ∷ item.value v ∷ []) = Send t u (value_at v)
step_in kinds.New (item.transactor t ∷ item.next n ∷ item.behaviour c ∷ item.node k ∷ item.value v ∷ []) = New t c k (value_at v)
step_in kinds.Ask (item.transactor t ∷ item.truth a ∷ []) = Ask t a
step_in kinds.Trap (item.transactor t ∷ item.code c ∷ []) = Trap t c
step_in kinds.Lose (item.message x ∷ []) = Lose x
step_in kinds.Echo (item.transactor t ∷ item.next n ∷ item.message x ∷ []) = Echo t x
step_in kinds.Repeat (item.next n ∷ item.message x ∷ []) = Repeat x
step_in k is = Lose 0

-- that is the step
step_is : (b m : ℕ) (s : Step) → step_in (kind_of s) (items_of b m s) ≡ s
unfolding step_in
step_is b m (Take t x) = refl
step_is b m (Set t v) = ap (Set t) (value_at-val_of v)
step_is b m (Send t u v) = ap (Send t u) (value_at-val_of v)
step_is b m (New t c n v) = ap (New t c n) (value_at-val_of v)
step_is b m s = refl

-- a form means one step at most
same_step : (o : Opening) (b m : ℕ) (f : Tree) (r s : Step) → MeansStep o b m f r → MeansStep o b m f s → r ≡ s
same_step o b m (list (more (word h) fs)) r s hr hs =
    let kind : kind_of r ≡ kind_of s = sym (kind_of-word r) ∙ ap kind_in (sym hr.0 ∙ hs.0) ∙ kind_of-word s in
    let roles : map role_of (items_of b m r) ≡ map role_of (items_of b m s) = same_some (sym (roles-step b m r) ∙ ap (roles_of b m) kind ∙ roles-step b m s) in
    let items = same_items o b m (items_of b m r) (items_of b m s) fs roles hr.1 hs.1 in
    sym (step_is b m r) ∙ (λ x. step_in (kind x) (items x)) ∙ step_is b m s
same_step o b m (list (more (text w) fs)) r s hr hs = absurd hr
same_step o b m (list (more (list gs) fs)) r s hr hs = absurd hr
same_step o b m (list none) r s hr hs = absurd hr
same_step o b m (text w) r s hr hs = absurd hr
same_step o b m (word w) r s hr hs = absurd hr

-- forms mean one run at most
module _ (o : Opening) (fs : List Tree) (T U : Run) (mt : MeansSteps o fs T) (mu : MeansSteps o fs U) where
  same_at : (k : ℕ) → step_at T k ≡ step_at U k
  same_at k = ⊎_elim below past (cases k (length fs))
    where
      cases : (i j : ℕ) → (i < j) ⊎ (j ≤ i)
      cases i j = grind arith

      below : k < length fs → step_at T k ≡ step_at U k
      below l =
          let f = element fs k l in
          let r = element T.steps k (omega (arith, mt.count)) in
          let s = element U.steps k (omega (arith, mu.count)) in
          let whole = length fs in
          let b : born U k ≡ born T k = born_told o fs (length fs) U (omega arith) (whole_read o fs U mu) k (omega arith) ∙ sym (born_told o fs (length fs) T (omega arith) (whole_read o fs T mt) k (omega arith)) in
          let m : sent U k ≡ sent T k = sent_told o fs (length fs) U (omega arith) (whole_read o fs U mu) k (omega arith) ∙ sym (sent_told o fs (length fs) T (omega arith) (whole_read o fs T mt) k (omega arith)) in
          let B : ℕ → Type 0 = λ x. MeansStep o x (sent U k) f.0 s.0 in
          let M : ℕ → Type 0 = λ x. MeansStep o (born T k) x f.0 s.0 in
          let other = subst M m (subst B b (mu.each k f.0 s.0 f.1 s.1)) in
          r.1 ∙ ap Some (same_step o (born T k) (sent T k) f.0 r.0 s.0 (mt.each k f.0 r.0 f.1 r.1) other) ∙ sym s.1

      past : length fs ≤ k → step_at T k ≡ step_at U k
      past l = slice_get_past T.steps k (omega (arith, mt.count)) ∙ sym (slice_get_past U.steps k (omega (arith, mu.count)))

  -- so the runs are equal
  pub one_run : T ≡ U
  one_run =
      let opening : T.opening ≡ U.opening = mt.opening ∙ sym mu.opening in
      let steps : T.steps ≡ U.steps = same_elements T.steps U.steps same_at in
      λ i. record { opening = opening i; steps = steps i }

-- a printed trace is read back
pub read_back : (T U : Run) (fs : List Tree) → WellFormed T → ((k : ℕ) → IsWrittenAt T k) → ((k : ℕ) → slice_get fs k ≡ step_form_at T k) → MeansSteps T.opening fs U → U ≡ T
read_back T U fs w written forms means = one_run T.opening fs U T means (printed_trace T fs w written forms)
