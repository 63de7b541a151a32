-- What the parts of the reader tell: of both of two answers, and of the items of a form one by one.
use Rattle.std.proofs.Common.{◌≡◌, ◌≢◌, ◌⊎◌, inl, inr, ⊎_elim, ℕ, Bool, true, false, cond, nat_lt, nat_le, ◌==◌, ◌||◌, ◌&&◌, List, [], ◌∷◌, length, map, Option, Some, None, is_some, Result, Ok, Err, refl, ap, ◌∙◌, subst, arith}
use Rattle.std.specs.Option.{option_map_or}
use Rattle.std.proofs.lemmas.Bool.{lt-ltb, le-leb, and_from, eq-eqb}
use Rattle.tau_sexpr.specs.Form.{tree_of}
use Rattle.tau_sexpr.specs.declared.trees.Form.{Form}
use Rattle.tau_sexpr.specs.Tree.{Tree, Trees, word, text, list, none, more, inside}
use Rattle.tau_value.specs.Names.{is_name, place_of}
use Rattle.tau_value.specs.Numbers.{count_in}
use Rattle.tau_value.specs.Meaning.{Fault, shape, unknown, number_named}
use Rattle.tau_trace.specs.declared.opening.Opening.{Opening}
use Rattle.tau_steps.specs.declared.errors.ItemError.{ItemError}
use Rattle.tau_steps.specs.declared.errors.ItemError.TheVariants as items
use Rattle.tau_steps.specs.declared.items.Place.{Place}
use Rattle.tau_steps.specs.Meaning as item
use Rattle.tau_steps.specs.Meaning.{Item, count_at, truth_at, MeansItem, MeansItems}
use Rattle.tau_steps.specs.Faults as role
use Rattle.tau_steps.specs.Faults.{Role, count_fault, behaviour_fault, truth_fault, ItemFault, FaultIn}
use Rattle.tau_steps.specs.Inner.Reading.{TellsMeaning, TellsItem, both_of}

-- what is wanted where an item is meant
abbrev pub role_of : Item → Role
role_of (item.transactor t) = role.transactor
role_of (item.message m) = role.message
role_of (item.next n) = role.next n
role_of (item.behaviour b) = role.behaviour
role_of (item.node n) = role.node
role_of (item.code c) = role.code
role_of (item.truth a) = role.truth
role_of (item.value v) = role.value

-- what an answer tells where it is known
pub told_ok : {X : Type 0} (M : X → Type 0) (F : Fault → Type 0) (a : Result X ItemError) (x : X) → a ≡ Ok x → TellsMeaning M F a → M x
told_ok M F a x e h = subst (TellsMeaning M F) e h

-- an error tells the same whatever is meant
error_of : {X Y : Type 0} (M : X → Type 0) (N : Y → Type 0) (F : Fault → Type 0) (e : ItemError) → TellsMeaning M F (Err e) → TellsMeaning N F (Err e)
error_of M N F items.Shape h = h
error_of M N F items.Unknown h = h
error_of M N F items.NoMemory h = h

-- what an answer tells where it is an error
pub told_err : {X Y : Type 0} (M : X → Type 0) (N : Y → Type 0) (F : Fault → Type 0) (a : Result X ItemError) (e : ItemError) → a ≡ Err e → TellsMeaning M F a → TellsMeaning N F (Err e)
told_err M N F a e is h = error_of M N F e (subst (TellsMeaning M F) is h)

-- both of two answers
pub tells_both : {X Y : Type 0} (M : X → Type 0) (N : Y → Type 0) (F G : Fault → Type 0) (a : Result X ItemError) (b : Result Y ItemError) → ((x : X) (f : Fault) → M x → ¬ F f) → ((y : Y) (f : Fault) → N y → ¬ G f) → TellsMeaning M F a → TellsMeaning N G b → TellsMeaning (λ p. M p.0 × N p.1) (λ f. F f ⊎ G f) (both_of a b)
tells_both M N F G (Ok x) (Ok y) cm cn h k = (h, k)
tells_both M N F G (Ok x) (Err items.Shape) cm cn h k = inr k
tells_both M N F G (Ok x) (Err items.Unknown) cm cn h k = (inr k.0, λ z. ⊎_elim (cm x shape h) k.1 z)
tells_both M N F G (Ok x) (Err items.NoMemory) cm cn h k = tt
tells_both M N F G (Err items.Shape) (Ok y) cm cn h k = inl h
tells_both M N F G (Err items.Unknown) (Ok y) cm cn h k = (inl h.0, λ z. ⊎_elim h.1 (cn y shape k) z)
tells_both M N F G (Err items.NoMemory) (Ok y) cm cn h k = tt
tells_both M N F G (Err items.Unknown) (Err items.Shape) cm cn h k = inr k
tells_both M N F G (Err items.Unknown) (Err items.Unknown) cm cn h k = (inl h.0, λ z. ⊎_elim h.1 k.1 z)
tells_both M N F G (Err items.Unknown) (Err items.NoMemory) cm cn h k = tt
tells_both M N F G (Err items.Shape) (Err e) cm cn h k = inl h
tells_both M N F G (Err items.NoMemory) (Err e) cm cn h k = tt

-- a number that passes the test has no fault
clean_if : (b : Bool) (g e : Fault) → b ≡ true → cond b None (Some g) ≡ Some e → ⊥
clean_if true g e t h = cc
clean_if false g e t h = cc

-- a count that passes the test has no fault
clean_count : (test : ℕ → Bool) (g e : Fault) (o : Option ℕ) (n : ℕ) → o ≡ Some n → test n ≡ true → option_map_or (λ k. cond (test k) None (Some g)) o (Some shape) ≡ Some e → ⊥
clean_count test g e None n is t h = cc
clean_count test g e (Some k) n is t h =
    let same : k ≡ n = cc in
    clean_if (test k) g e (ap test same ∙ t) h

-- nor has a word with a meaning
clean_some : {X : Type 0} (o : Option X) (x : X) (g e : Fault) → o ≡ Some x → cond (is_some o) None (Some g) ≡ Some e → ⊥
clean_some None x g e is h = cc
clean_some (Some y) x g e is h = cc

module _ (o : Opening) (b m : ℕ) where
  clean_name : (t : ℕ) (f : Tree) (e : Fault) → MeansItem o b m (item.transactor t) f → ¬ ItemFault o b m role.transactor f e
  clean_name t (word w) e h k = clean_some (number_named o.names b w) t (cond (is_name w || is_some (count_in w)) unknown shape) e h k
  clean_name t (text w) e h k = cc
  clean_name t (list fs) e h k = cc

  -- nor has the name of a behaviour
  clean_behaviour : (t : ℕ) (f : Tree) (e : Fault) → MeansItem o b m (item.behaviour t) f → ¬ ItemFault o b m role.behaviour f e
  clean_behaviour t (word w) e h k = clean_some (place_of o.behaviours w) t (cond (is_name w || is_some (count_in w)) unknown shape) e h k
  clean_behaviour t (text w) e h k = cc
  clean_behaviour t (list fs) e h k = cc

  -- what means an item has no fault
  pub clean_item : (i : Item) (f : Tree) (e : Fault) → MeansItem o b m i f → ¬ ItemFault o b m (role_of i) f e
  clean_item (item.transactor t) f e h k = clean_name t f e h k
  clean_item (item.message n) f e h k = clean_count (λ x. nat_lt x m) unknown e (count_at f) n h.0 (lt-ltb n m h.1) k
  clean_item (item.next n) f e h k = clean_count (λ x. x == n) unknown e (count_at f) n h (eq-eqb n n refl) k
  clean_item (item.behaviour n) f e h k = clean_behaviour n f e h k
  clean_item (item.node n) f e h k = clean_count (λ x. nat_lt x o.nodes) shape e (count_at f) n h.0 (lt-ltb n o.nodes h.1) k
  clean_item (item.code n) f e h k = clean_count (λ x. nat_le 1 x && nat_le x 8) shape e (count_at f) n h.0 (and_from (nat_le 1 n) (nat_le n 8) (le-leb 1 n h.1) (le-leb n 8 h.2)) k
  clean_item (item.truth a) f e h k = clean_some (truth_at f) a shape e h k
  clean_item (item.value v) f e h k = h.faultless k.0 e k.1.fault

  -- the same for lists of items
  pub clean_items : (is : List Item) (fs : Trees) (e : Fault) → MeansItems o b m is fs → ¬ FaultIn o b m (map role_of is) fs e
  clean_items [] none e h k = k
  clean_items [] (more f fs) e h k = h
  clean_items (i ∷ is) none e h k = h
  clean_items (i ∷ is) (more f fs) e h k = ⊎_elim (clean_item i f e h.0) (clean_items is fs e h.1) k

-- a wrong number of items is a shape
pub wrong_number : (o : Opening) (b m : ℕ) (rs : List Role) (fs : List Form) → length rs ≢ length fs → FaultIn o b m rs (inside (map tree_of fs)) shape
wrong_number o b m [] [] ne = ne refl
wrong_number o b m [] (f ∷ fs) ne = refl
wrong_number o b m (r ∷ rs) [] ne = refl
wrong_number o b m (r ∷ rs) (f ∷ fs) ne = inr (wrong_number o b m rs fs (λ e. ne (omega (arith, e))))

module _ (p : Place) where
  -- one item
  pub tells_one : {X : Type 0} (r : Role) (i : X → Item) (f : Tree) (a : Result X ItemError) → TellsItem p r i f a → TellsMeaning (λ x. MeansItems p.opening.now p.transactors p.messages (i x ∷ []) (more f none)) (FaultIn p.opening.now p.transactors p.messages (r ∷ []) (more f none)) a
  tells_one r i f (Ok x) h = (h, tt)
  tells_one r i f (Err items.Shape) h = inl h
  tells_one r i f (Err items.Unknown) h = (inl h.0, λ z. ⊎_elim h.1 (λ n. n) z)
  tells_one r i f (Err items.NoMemory) h = tt

  -- one item, and the items after it
  pub tells_more : {X Y : Type 0} (r : Role) (rs : List Role) (i : X → Item) (is : Y → List Item) (f : Tree) (fs : Trees) (a : Result X ItemError) (c : Result Y ItemError) → ((x : X) → role_of (i x) ≡ r) → ((y : Y) → map role_of (is y) ≡ rs) → TellsItem p r i f a → TellsMeaning (λ y. MeansItems p.opening.now p.transactors p.messages (is y) fs) (FaultIn p.opening.now p.transactors p.messages rs fs) c → TellsMeaning (λ z. MeansItems p.opening.now p.transactors p.messages (i z.0 ∷ is z.1) (more f fs)) (FaultIn p.opening.now p.transactors p.messages (r ∷ rs) (more f fs)) (both_of a c)
  tells_more {X = X} {Y = Y} r rs i is f fs a c er es h k =
      tells_both (λ (x : X). MeansItem p.opening.now p.transactors p.messages (i x) f) (λ (y : Y). MeansItems p.opening.now p.transactors p.messages (is y) fs) (λ e. ItemFault p.opening.now p.transactors p.messages r f e) (λ e. FaultIn p.opening.now p.transactors p.messages rs fs e) a c
      (λ x e z. let P : Role → Type 0 = λ q. ¬ ItemFault p.opening.now p.transactors p.messages q f e in subst P (er x) (clean_item p.opening.now p.transactors p.messages (i x) f e z))
      (λ y e z. let P : List Role → Type 0 = λ qs. ¬ FaultIn p.opening.now p.transactors p.messages qs fs e in subst P (es y) (clean_items p.opening.now p.transactors p.messages (is y) fs e z))
      h k
