-- What is told of the form of a step, and that what a step names exists.
use Rattle.std.proofs.Common.{◌≡◌, ℕ, ◌<◌, ◌≤◌, ◌-◌, take, drop, List, [], ◌∷◌, length, map, get_or, Option, Some, None, Result, Ok, Err, refl, sym, ap, ◌∙◌, subst, arith}
use Rattle.std.specs.Option.{option_or, option_and_then}
use Rattle.std.proofs.lemmas.List.Quantifiers.{position-Some}
use Rattle.std.proofs.Math.Seq.{take-length}
use Rattle.std.specs.Str.{bytes_eq}
use Rattle.tau_sexpr.specs.Form.{tree_of}
use Rattle.tau_sexpr.specs.declared.trees.Form.{Form}
use Rattle.tau_sexpr.specs.declared.trees.Form.TheVariants as forms
use Rattle.tau_sexpr.specs.declared.words.Word.{Word}
use Rattle.tau_sexpr.specs.Tree.{Tree, Trees, word, text, list, none, more, inside}
use Rattle.tau_value.specs.Val.{Val}
use Rattle.tau_value.specs.Value.{val_of}
use Rattle.tau_value.specs.declared.shared.Value.{Value}
use Rattle.tau_value.specs.Names.{place_of}
use Rattle.tau_value.specs.Numbers.{count_in}
use Rattle.tau_value.specs.Sizes.{IsInBounds, NamesBelow}
use Rattle.tau_value.specs.Meaning.{Fault, shape, counted, between, Means, too_large}
use Rattle.tau_value.proofs.MeaningLemmas.{counted-names_below, between-lt, bounded_from}
use Rattle.tau_trace.specs.declared.opening.Opening.{Opening}
use Rattle.tau_trace.specs.declared.step.Step.{Step}
use Rattle.tau_trace.specs.declared.step.Step.TheVariants.{Take, Drop, Fall, Void, Get, Set, Skip, Send, New, Stabilize, Ask, Checkpoint, Hold, Rollback, Stay, Done, Trap, Fail, Lose, Echo, Heed, Repeat}
use Rattle.tau_trace.specs.Known.{IsKnown, IsKnownValue, IsInVersion}
use Rattle.tau_steps.specs.declared.errors.ItemError.{ItemError}
use Rattle.tau_steps.specs.declared.errors.ItemError.TheVariants as items
use Rattle.tau_steps.specs.declared.items.Place.{Place}
use Rattle.tau_steps.specs.declared.kinds.Kind.{Kind}
use Rattle.tau_steps.specs.Kinds.{kind_in, kind_at, kind_of}
use Rattle.tau_steps.specs.Meaning as item
use Rattle.tau_steps.specs.Meaning.{Item, items_of, named_at, place_at, MeansItem, MeansItems, MeansStep}
use Rattle.tau_steps.specs.Faults.{Role, roles_of, RowFault, FormFault}
use Rattle.tau_steps.specs.Inner.Reading.{TellsRow, TellsStep}
use Rattle.tau_steps.proofs.KindLemmas.{word_of_kind, kind_of-word, kind_at-step, in_version}
use Rattle.tau_steps.proofs.TellsLemmas.{role_of, clean_items}

-- what is told of a form, by what is told of its other items
told_row : (p : Place) (h : List ℕ) (fs : Trees) (answer : Result Step ItemError) → TellsRow p (kind_at p.opening.now.version (kind_in h)) fs answer → TellsStep p (list (more (word h) fs)) answer
told_row p h fs (Ok s) t =
    let kind = in_version p.opening.now.version (kind_in h) s t.0 in
    (word_of_kind h s kind.0, t.1, kind.1)
told_row p h fs (Err items.Shape) t = t
told_row p h fs (Err items.Unknown) t = t
told_row p h fs (Err items.NoMemory) t = t

-- the kind that a word tells in a version
pub kind_told : (v : ℕ) (k : Kind) (h : List ℕ) (j : Kind) → j ≡ kind_at v k → k ≡ kind_in h → j ≡ kind_at v (kind_in h)
kind_told v k h j e f = e ∙ ap (kind_at v) f

-- the same of a form that is equal to such a list
pub told_step : (p : Place) (f : Tree) (h : List ℕ) (k : Kind) (fs : Trees) (answer : Result Step ItemError) → f ≡ list (more (word h) fs) → k ≡ kind_at p.opening.now.version (kind_in h) → TellsRow p k fs answer → TellsStep p f answer
told_step p f h k fs answer e ek t =
    let P : Tree → Type 0 = λ g. TellsStep p g answer in
    let Q : Kind → Type 0 = λ j. TellsRow p j fs answer in
    subst P (sym e) (told_row p h fs answer (subst Q ek t))

-- the roles of a step's items are those of its kind
pub roles-step : (b m : ℕ) (s : Step) → roles_of b m (kind_of s) ≡ Some (map role_of (items_of b m s))
roles-step b m (Take t x) = refl
roles-step b m s = refl

-- a form that means a step has no fault
pub clean_step : (o : Opening) (b m : ℕ) (f : Tree) (s : Step) (e : Fault) → MeansStep o b m f s → ¬ FormFault o b m f e
clean_step o b m (list (more (word h) fs)) s e means fault =
    let kind : kind_at o.version (kind_in h) ≡ kind_of s = ap (λ w. kind_at o.version (kind_in w)) means.0 ∙ ap (kind_at o.version) (kind_of-word s) ∙ kind_at-step o.version s means.2 in
    let same : roles_of b m (kind_at o.version (kind_in h)) ≡ Some (map role_of (items_of b m s)) = ap (roles_of b m) kind ∙ roles-step b m s in
    let P : Option (List Role) → Type 0 = λ r. RowFault o b m r fs e in
    clean_items o b m (items_of b m s) fs e means.1 (subst P same fault)
clean_step o b m (list (more (text w) fs)) s e means fault = means
clean_step o b m (list (more (list gs) fs)) s e means fault = means
clean_step o b m (list none) s e means fault = means
clean_step o b m (text w) s e means fault = means
clean_step o b m (word w) s e means fault = means

-- a word that is a count below a bound
count_below : (low high t : ℕ) (c : Option ℕ) → option_and_then (between low high) c ≡ Some t → t < high
count_below low high t None h = cc
count_below low high t (Some n) h = between-lt low high n t h

-- the place of a word is below the number of words
place_below : (names : List (List ℕ)) (w : List ℕ) (t : ℕ) → place_of names w ≡ Some t → t < length names
place_below names w t h = (position-Some (bytes_eq w) names t [] h).0

-- a word names a start or a number below the bound
word_below : (names : List (List ℕ)) (bound t : ℕ) (w : List ℕ) (place : Option ℕ) → place_of names w ≡ place → length names ≤ bound → option_or place (option_and_then (between (length names) bound) (count_in w)) ≡ Some t → t < bound
word_below names bound t w None e le h = count_below (length names) bound t (count_in w) h
word_below names bound t w (Some k) e le h =
    let same : k ≡ t = cc in
    omega (arith, place_below names w k e)

-- a form names a transactor that exists
named_below : (names : List (List ℕ)) (bound t : ℕ) (f : Tree) → length names ≤ bound → named_at names bound f ≡ Some t → t < bound
named_below names bound t (word w) le h = word_below names bound t w (place_of names w) refl le h
named_below names bound t (text w) le h = cc
named_below names bound t (list fs) le h = cc

-- a form names a behaviour that exists
behaviour_below : (names : List (List ℕ)) (t : ℕ) (f : Tree) → place_at names f ≡ Some t → t < length names
behaviour_below names t (word w) h = place_below names w t h
behaviour_below names t (text w) h = cc
behaviour_below names t (list fs) h = cc

-- a value that a form means is known
known_value : (names : List (List ℕ)) (bound : ℕ) (f : Tree) (v : Val) → length names ≤ bound → Means names bound f v → IsInBounds v × NamesBelow bound v
known_value names bound f v le means =
    let P : Val → Type 0 = λ w. IsInBounds w × NamesBelow bound w in
    subst P means.value (bounded_from (counted names bound f) (λ n. means.faultless 0 shape (too_large refl n)), counted-names_below names bound f le)

-- what an item means exists
module _ (o : Opening) (b m : ℕ) (starts : length o.names ≤ b) where
  abbrev KnownItem : Item → Type 0
  KnownItem (item.transactor t) = t < b
  KnownItem (item.message n) = n < m
  KnownItem (item.next n) = Unit {0}
  KnownItem (item.behaviour n) = n < length o.behaviours
  KnownItem (item.node n) = n < o.nodes
  KnownItem (item.code c) = (1 ≤ c) × (c ≤ 8)
  KnownItem (item.truth a) = Unit {0}
  KnownItem (item.value v) = IsInBounds v × NamesBelow b v

  -- the same of each item
  abbrev KnownItems : List Item → Type 0
  KnownItems [] = Unit {0}
  KnownItems (i ∷ is) = KnownItem i × KnownItems is

  -- an item that a form means is known
  known_item : (i : Item) (f : Tree) → MeansItem o b m i f → KnownItem i
  known_item (item.transactor t) f h = named_below o.names b t f starts h
  known_item (item.message n) f h = h.1
  known_item (item.next n) f h = tt
  known_item (item.behaviour n) f h = behaviour_below o.behaviours n f h
  known_item (item.node n) f h = h.1
  known_item (item.code c) f h = (h.1, h.2)
  known_item (item.truth a) f h = tt
  known_item (item.value v) f h = known_value o.names b f v starts h

  -- so are all items
  known_items : (is : List Item) (fs : Trees) → MeansItems o b m is fs → KnownItems is
  known_items [] none h = tt
  known_items [] (more f fs) h = tt
  known_items (i ∷ is) none h = absurd h
  known_items (i ∷ is) (more f fs) h = (known_item i f h.0, known_items is fs h.1)

  -- a known value, by its two parts
  value_is : (v : Value) → IsInBounds (val_of v) × NamesBelow b (val_of v) → IsKnownValue b v
  value_is v h = record { in_bounds = h.0; names = h.1 }

  -- a step is known where its items are
  known_by_items : (s : Step) → KnownItems (items_of b m s) → IsKnown o b m s
  known_by_items (Take t x) k = (k.0, k.1.0)
  known_by_items (Drop t x) k = (k.0, k.1.0)
  known_by_items (Fall t x) k = (k.0, k.1.0)
  known_by_items (Void t x) k = (k.0, k.1.0)
  known_by_items (Get t) k = k.0
  known_by_items (Set t v) k = (k.0, value_is v k.1.0)
  known_by_items (Skip t) k = k.0
  known_by_items (Send t u v) k = (k.0, k.1.1.0, value_is v k.1.1.1.0)
  known_by_items (New t c n v) k = (k.0, k.1.1.0, k.1.1.1.0, value_is v k.1.1.1.1.0)
  known_by_items (Stabilize t) k = k.0
  known_by_items (Ask t a) k = k.0
  known_by_items (Checkpoint t) k = k.0
  known_by_items (Hold t) k = k.0
  known_by_items (Rollback t) k = k.0
  known_by_items (Stay t) k = k.0
  known_by_items (Done t) k = k.0
  known_by_items (Trap t c) k = (k.0, k.1.0.0, k.1.0.1)
  known_by_items (Fail t) k = k.0
  known_by_items (Lose x) k = k.0
  known_by_items (Echo t x) k = (k.0, k.1.1.0)
  known_by_items (Heed t x) k = (k.0, k.1.0)
  known_by_items (Repeat x) k = k.1.0

  -- what a step names that a form means exists
  pub step_known : (f : Tree) (s : Step) → MeansStep o b m f s → IsKnown o b m s
  step_known (list (more (word h) fs)) s means = known_by_items s (known_items (items_of b m s) fs means.1)
  step_known (list (more (text w) fs)) s means = absurd means
  step_known (list (more (list gs) fs)) s means = absurd means
  step_known (list none) s means = absurd means
  step_known (text w) s means = absurd means
  step_known (word w) s means = absurd means

-- a step that a form means is of a kind of the version
pub step_in_version : (o : Opening) (b m : ℕ) (f : Tree) (s : Step) → MeansStep o b m f s → IsInVersion o.version s
step_in_version o b m (list (more (word h) fs)) s means = means.2
step_in_version o b m (list (more (text w) fs)) s means = absurd means
step_in_version o b m (list (more (list gs) fs)) s means = absurd means
step_in_version o b m (list none) s means = absurd means
step_in_version o b m (text w) s means = absurd means
step_in_version o b m (word w) s means = absurd means

-- the items of a form whose first is a word
pub headed : (fs : List Form) (first : Form) (h : Word) → 1 ≤ length fs → first ≡ get_or fs 0 first → first ≡ forms.Word h → inside (map tree_of fs) ≡ more (word h) (inside (map tree_of (take (length fs - 1) (drop 1 fs))))
headed [] first h n e w = absurd (omega arith)
headed (x ∷ xs) first h n e w =
    let long : length (x ∷ xs) - 1 ≡ length xs = omega arith in
    let rest : take (length (x ∷ xs) - 1) xs ≡ xs = ap (λ k. take k xs) long ∙ take-length xs in
    λ i. more (tree_of ((sym e ∙ w) i)) (inside (map tree_of (sym rest i)))
