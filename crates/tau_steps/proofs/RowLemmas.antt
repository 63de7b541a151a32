-- What the items of the forms of each kind tell together.
use Rattle.std.proofs.Common.{◌≡◌, ℕ, Bool, List, [], ◌∷◌, length, get_or, map, Option, Some, Result, Ok, Err, refl, sym, ap, ◌∙◌, subst, arith}
use Rattle.tau_sexpr.specs.Form.{tree_of}
use Rattle.tau_sexpr.specs.declared.trees.Form.{Form}
use Rattle.tau_sexpr.specs.Tree.{Trees, none, more, inside}
use Rattle.tau_value.specs.Value.{val_of}
use Rattle.tau_value.specs.declared.shared.Value.{Value}
use Rattle.tau_steps.specs.declared.errors.ItemError.{ItemError}
use Rattle.tau_steps.specs.declared.items.Place.{Place}
use Rattle.tau_trace.specs.declared.step.Step.{Step}
use Rattle.tau_trace.specs.declared.step.Step.TheVariants as steps
use Rattle.tau_steps.specs.declared.kinds.Kind.{Kind}
use Rattle.tau_steps.specs.declared.kinds.Kind.TheVariants as kinds
use Rattle.tau_steps.specs.declared.kinds.MessageKind.{MessageKind}
use Rattle.tau_steps.specs.declared.kinds.MessageKind.TheVariants as messages
use Rattle.tau_steps.specs.Kinds.{kind_of, message_step}
use Rattle.tau_steps.specs.Meaning as item
use Rattle.tau_steps.specs.Meaning.{Item, MeansItems, items_of}
use Rattle.tau_steps.specs.Faults as role
use Rattle.tau_steps.specs.Faults.{Role, roles_of, FaultIn, RowFault}
use Rattle.tau_steps.specs.Inner.Reading.{TellsMeaning, TellsItem, TellsRow, both_of}
use Rattle.tau_steps.proofs.TellsLemmas.{role_of, told_ok, told_err, tells_one, tells_more}

-- a list of so many items
abbrev trees_of : List Form → Trees
trees_of fs = inside (map tree_of fs)

-- the items of a list of one
pub one_item : (fs : List Form) (a : Form) → length fs ≡ 1 → a ≡ get_or fs 0 a → trees_of fs ≡ more (tree_of a) none
one_item [] a n e = absurd (omega arith)
one_item (x ∷ []) a n e = ap (λ y. more (tree_of y) none) (sym e)
one_item (x ∷ y ∷ fs) a n e = absurd (omega arith)

-- of two
pub two_items : (fs : List Form) (a b : Form) → length fs ≡ 2 → a ≡ get_or fs 0 a → b ≡ get_or fs 1 b → trees_of fs ≡ more (tree_of a) (more (tree_of b) none)
two_items [] a b n e f = absurd (omega arith)
two_items (x ∷ xs) a b n e f = λ i. more (tree_of (sym e i)) (one_item xs b (omega arith) f i)

-- of three
pub three_items : (fs : List Form) (a b c : Form) → length fs ≡ 3 → a ≡ get_or fs 0 a → b ≡ get_or fs 1 b → c ≡ get_or fs 2 c → trees_of fs ≡ more (tree_of a) (more (tree_of b) (more (tree_of c) none))
three_items [] a b c n e f g = absurd (omega arith)
three_items (x ∷ xs) a b c n e f g = λ i. more (tree_of (sym e i)) (two_items xs b c (omega arith) f g i)

-- of four
pub four_items : (fs : List Form) (a b c d : Form) → length fs ≡ 4 → a ≡ get_or fs 0 a → b ≡ get_or fs 1 b → c ≡ get_or fs 2 c → d ≡ get_or fs 3 d → trees_of fs ≡ more (tree_of a) (more (tree_of b) (more (tree_of c) (more (tree_of d) none)))
four_items [] a b c d n e f g h = absurd (omega arith)
four_items (x ∷ xs) a b c d n e f g h = λ i. more (tree_of (sym e i)) (three_items xs b c d (omega arith) f g h i)

-- of five
pub five_items : (fs : List Form) (a b c d v : Form) → length fs ≡ 5 → a ≡ get_or fs 0 a → b ≡ get_or fs 1 b → c ≡ get_or fs 2 c → d ≡ get_or fs 3 d → v ≡ get_or fs 4 v → trees_of fs ≡ more (tree_of a) (more (tree_of b) (more (tree_of c) (more (tree_of d) (more (tree_of v) none))))
five_items [] a b c d v n e f g h j = absurd (omega arith)
five_items (x ∷ xs) a b c d v n e f g h j = λ i. more (tree_of (sym e i)) (four_items xs b c d v (omega arith) f g h j i)

-- the kinds of steps that name a message
message_kind : (k : MessageKind) (t x : ℕ) → kind_of (message_step k t x) ≡ kinds.OfMessage k
message_kind messages.Take t x = refl
message_kind messages.Drop t x = refl
message_kind messages.Fall t x = refl
message_kind messages.Void t x = refl
message_kind messages.Heed t x = refl

-- such a step has two items
message_items : (b m : ℕ) (k : MessageKind) (t x : ℕ) → items_of b m (message_step k t x) ≡ item.transactor t ∷ item.message x ∷ []
message_items b m messages.Take t x = refl
message_items b m messages.Drop t x = refl
message_items b m messages.Fall t x = refl
message_items b m messages.Void t x = refl
message_items b m messages.Heed t x = refl

module _ (p : Place) where
  -- what items tell that have these roles
  abbrev pub TellsItems : {X : Type 0} → List Role → (X → List Item) → Trees → Result X ItemError → Type 0
  TellsItems rs is fs answer = TellsMeaning (λ x. MeansItems p.opening.now p.transactors p.messages (is x) fs) (FaultIn p.opening.now p.transactors p.messages rs fs) answer

  -- what a reader of one kind makes of what its items tell
  pub record IsRow {X : Type 0} (k : Kind) (fs : Trees) (step : X → Step) (all : Result X ItemError) : Type 0 where
    pub ok : (x : X) → all ≡ Ok x → TellsRow p k fs (Ok (step x))
    pub err : (e : ItemError) → all ≡ Err e → TellsRow p k fs (Err e)

  -- what the items of one kind tell is what its reader makes of them
  is_row : {X : Type 0} (k : Kind) (rs : List Role) (fs : Trees) (step : X → Step) (all : Result X ItemError) → roles_of p.transactors p.messages k ≡ Some rs → ((x : X) → kind_of (step x) ≡ k) → TellsItems rs (λ x. items_of p.transactors p.messages (step x)) fs all → IsRow k fs step all
  is_row {X = X} k rs fs step all er ek h = record {
    ok = λ x e. (ek x, told_ok (λ (y : X). MeansItems p.opening.now p.transactors p.messages (items_of p.transactors p.messages (step y)) fs) (FaultIn p.opening.now p.transactors p.messages rs fs) all x e h);
    err = λ e is. let P : Option (List Role) → Type 0 = λ o. TellsMeaning (λ s. (kind_of s ≡ k) × MeansItems p.opening.now p.transactors p.messages (items_of p.transactors p.messages s) fs) (RowFault p.opening.now p.transactors p.messages o fs) (Err e) in
        subst P (sym er) (told_err (λ (y : X). MeansItems p.opening.now p.transactors p.messages (items_of p.transactors p.messages (step y)) fs) (λ s. (kind_of s ≡ k) × MeansItems p.opening.now p.transactors p.messages (items_of p.transactors p.messages s) fs) (FaultIn p.opening.now p.transactors p.messages rs fs) all e is h);
  }

  -- the same of other forms and of another answer that are these
  moved : {X : Type 0} (rs : List Role) (is : X → List Item) (ts us : Trees) (all whole : Result X ItemError) → ts ≡ us → all ≡ whole → TellsItems rs is us whole → TellsItems rs is ts all
  moved {X = X} rs is ts us all whole et ea h =
      let P : Trees → Type 0 = λ xs. TellsItems rs is xs all in
      let Q : Result X ItemError → Type 0 = λ c. TellsItems rs is us c in
      subst P (sym et) (subst Q (sym ea) h)

  -- a transactor and another item
  is_two : {X : Type 0} (k : Kind) (r : Role) (i : X → Item) (step : ℕ × X → Step) (fs : List Form) (a b : Form) (who : Result ℕ ItemError) (other : Result X ItemError) (all : Result (ℕ × X) ItemError) → roles_of p.transactors p.messages k ≡ Some (role.transactor ∷ r ∷ []) → ((z : ℕ × X) → kind_of (step z) ≡ k) → ((z : ℕ × X) → items_of p.transactors p.messages (step z) ≡ item.transactor z.0 ∷ i z.1 ∷ []) → ((x : X) → role_of (i x) ≡ r)
      → length fs ≡ 2 → a ≡ get_or fs 0 a → b ≡ get_or fs 1 b → TellsItem p role.transactor item.transactor (tree_of a) who → TellsItem p r i (tree_of b) other → all ≡ both_of who other → IsRow k (trees_of fs) step all
  is_two {X = X} k r i step fs a b who other all er ek ei eo n ea eb ha hb is =
      let P : (ℕ × X → List Item) → Type 0 = λ f. TellsItems (role.transactor ∷ r ∷ []) f (more (tree_of a) (more (tree_of b) none)) (both_of who other) in
      let same : (λ (z : ℕ × X). item.transactor z.0 ∷ i z.1 ∷ []) ≡ (λ (z : ℕ × X). items_of p.transactors p.messages (step z)) = λ j z. sym (ei z) j in
      is_row k (role.transactor ∷ r ∷ []) (trees_of fs) step all er ek
      (moved (role.transactor ∷ r ∷ []) (λ z. items_of p.transactors p.messages (step z)) (trees_of fs) (more (tree_of a) (more (tree_of b) none)) all (both_of who other) (two_items fs a b n ea eb) is
      (subst P same
      (tells_more p role.transactor (r ∷ []) item.transactor (λ x. i x ∷ []) (tree_of a) (more (tree_of b) none) who other (λ x. refl) (λ x. ap (λ q. q ∷ []) (eo x)) ha
      (tells_one p r i (tree_of b) other hb))))

  -- the items of (KIND WHO M)
  pub tells_of_message : (k : MessageKind) (fs : List Form) (a b : Form) (who message : Result ℕ ItemError) (all : Result (ℕ × ℕ) ItemError) → length fs ≡ 2 → a ≡ get_or fs 0 a → b ≡ get_or fs 1 b → TellsItem p role.transactor item.transactor (tree_of a) who → TellsItem p role.message item.message (tree_of b) message → all ≡ both_of who message → IsRow (kinds.OfMessage k) (trees_of fs) (λ (z : ℕ × ℕ). message_step k z.0 z.1) all
  tells_of_message k fs a b who message all n ea eb ha hb is = is_two (kinds.OfMessage k) role.message item.message (λ (z : ℕ × ℕ). message_step k z.0 z.1) fs a b who message all refl (λ z. message_kind k z.0 z.1) (λ z. message_items p.transactors p.messages k z.0 z.1) (λ x. refl) n ea eb ha hb is

  -- the items of (set WHO VALUE)
  pub tells_set : (fs : List Form) (a b : Form) (who : Result ℕ ItemError) (value : Result Value ItemError) (all : Result (ℕ × Value) ItemError) → length fs ≡ 2 → a ≡ get_or fs 0 a → b ≡ get_or fs 1 b → TellsItem p role.transactor item.transactor (tree_of a) who → TellsItem p role.value (λ v. item.value (val_of v)) (tree_of b) value → all ≡ both_of who value → IsRow kinds.Set (trees_of fs) (λ (z : ℕ × Value). steps.Set z.0 z.1) all
  tells_set fs a b who value all n ea eb ha hb is = is_two kinds.Set role.value (λ v. item.value (val_of v)) (λ (z : ℕ × Value). steps.Set z.0 z.1) fs a b who value all refl (λ z. refl) (λ z. refl) (λ x. refl) n ea eb ha hb is

  -- the items of (ask WHO TRUTH)
  pub tells_ask : (fs : List Form) (a b : Form) (who : Result ℕ ItemError) (truth : Result Bool ItemError) (all : Result (ℕ × Bool) ItemError) → length fs ≡ 2 → a ≡ get_or fs 0 a → b ≡ get_or fs 1 b → TellsItem p role.transactor item.transactor (tree_of a) who → TellsItem p role.truth item.truth (tree_of b) truth → all ≡ both_of who truth → IsRow kinds.Ask (trees_of fs) (λ (z : ℕ × Bool). steps.Ask z.0 z.1) all
  tells_ask fs a b who truth all n ea eb ha hb is = is_two kinds.Ask role.truth item.truth (λ (z : ℕ × Bool). steps.Ask z.0 z.1) fs a b who truth all refl (λ z. refl) (λ z. refl) (λ x. refl) n ea eb ha hb is

  -- the items of (trap WHO CODE)
  pub tells_trap : (fs : List Form) (a b : Form) (who code : Result ℕ ItemError) (all : Result (ℕ × ℕ) ItemError) → length fs ≡ 2 → a ≡ get_or fs 0 a → b ≡ get_or fs 1 b → TellsItem p role.transactor item.transactor (tree_of a) who → TellsItem p role.code item.code (tree_of b) code → all ≡ both_of who code → IsRow kinds.Trap (trees_of fs) (λ (z : ℕ × ℕ). steps.Trap z.0 z.1) all
  tells_trap fs a b who code all n ea eb ha hb is = is_two kinds.Trap role.code item.code (λ (z : ℕ × ℕ). steps.Trap z.0 z.1) fs a b who code all refl (λ z. refl) (λ z. refl) (λ x. refl) n ea eb ha hb is

  -- the items of (send WHO N TO VALUE)
  pub tells_send : (fs : List Form) (a b c d : Form) (who : Result ℕ ItemError) (number : Result (Unit {0}) ItemError) (to : Result ℕ ItemError) (value : Result Value ItemError) (content : Result (ℕ × Value) ItemError) (made : Result (Unit {0} × (ℕ × Value)) ItemError) (all : Result (ℕ × (Unit {0} × (ℕ × Value))) ItemError) → length fs ≡ 4 → a ≡ get_or fs 0 a → b ≡ get_or fs 1 b → c ≡ get_or fs 2 c → d ≡ get_or fs 3 d
      → TellsItem p role.transactor item.transactor (tree_of a) who → TellsItem p (role.next p.messages) (λ _. item.next p.messages) (tree_of b) number → TellsItem p role.transactor item.transactor (tree_of c) to → TellsItem p role.value (λ v. item.value (val_of v)) (tree_of d) value
      → content ≡ both_of to value → made ≡ both_of number content → all ≡ both_of who made
      → IsRow kinds.Send (trees_of fs) (λ (z : ℕ × (Unit {0} × (ℕ × Value))). steps.Send z.0 z.1.1.0 z.1.1.1) all
  tells_send fs a b c d who number to value content made all n ea eb ec ed ha hb hc hd ic im ia =
      let rs : List Role = role.transactor ∷ role.next p.messages ∷ role.transactor ∷ role.value ∷ [] in
      is_row kinds.Send rs (trees_of fs) (λ (z : ℕ × (Unit {0} × (ℕ × Value))). steps.Send z.0 z.1.1.0 z.1.1.1) all refl (λ z. refl)
      (moved rs (λ (z : ℕ × (Unit {0} × (ℕ × Value))). item.transactor z.0 ∷ item.next p.messages ∷ item.transactor z.1.1.0 ∷ item.value (val_of z.1.1.1) ∷ []) (trees_of fs) (more (tree_of a) (more (tree_of b) (more (tree_of c) (more (tree_of d) none)))) all (both_of who (both_of number (both_of to value))) (four_items fs a b c d n ea eb ec ed) (ia ∙ ap (both_of who) (im ∙ ap (both_of number) ic))
      (tells_more p role.transactor (role.next p.messages ∷ role.transactor ∷ role.value ∷ []) item.transactor (λ (y : Unit {0} × (ℕ × Value)). item.next p.messages ∷ item.transactor y.1.0 ∷ item.value (val_of y.1.1) ∷ []) (tree_of a) (more (tree_of b) (more (tree_of c) (more (tree_of d) none))) who (both_of number (both_of to value)) (λ x. refl) (λ y. refl) ha
      (tells_more p (role.next p.messages) (role.transactor ∷ role.value ∷ []) (λ _. item.next p.messages) (λ (y : ℕ × Value). item.transactor y.0 ∷ item.value (val_of y.1) ∷ []) (tree_of b) (more (tree_of c) (more (tree_of d) none)) number (both_of to value) (λ x. refl) (λ y. refl) hb
      (tells_more p role.transactor (role.value ∷ []) item.transactor (λ v. item.value (val_of v) ∷ []) (tree_of c) (more (tree_of d) none) to value (λ x. refl) (λ y. refl) hc
      (tells_one p role.value (λ v. item.value (val_of v)) (tree_of d) value hd)))))

  -- the items of (new WHO N BEHAVIOUR NODE VALUE)
  pub tells_new : (fs : List Form) (a b c d f : Form) (who : Result ℕ ItemError) (number : Result (Unit {0}) ItemError) (behaviour node : Result ℕ ItemError) (state : Result Value ItemError) (home : Result (ℕ × Value) ItemError) (content : Result (ℕ × (ℕ × Value)) ItemError) (made : Result (Unit {0} × (ℕ × (ℕ × Value))) ItemError) (all : Result (ℕ × (Unit {0} × (ℕ × (ℕ × Value)))) ItemError) → length fs ≡ 5 → a ≡ get_or fs 0 a → b ≡ get_or fs 1 b → c ≡ get_or fs 2 c → d ≡ get_or fs 3 d → f ≡ get_or fs 4 f
      → TellsItem p role.transactor item.transactor (tree_of a) who → TellsItem p (role.next p.transactors) (λ _. item.next p.transactors) (tree_of b) number → TellsItem p role.behaviour item.behaviour (tree_of c) behaviour → TellsItem p role.node item.node (tree_of d) node → TellsItem p role.value (λ v. item.value (val_of v)) (tree_of f) state
      → home ≡ both_of node state → content ≡ both_of behaviour home → made ≡ both_of number content → all ≡ both_of who made
      → IsRow kinds.New (trees_of fs) (λ (z : ℕ × (Unit {0} × (ℕ × (ℕ × Value)))). steps.New z.0 z.1.1.0 z.1.1.1.0 z.1.1.1.1) all
  tells_new fs a b c d f who number behaviour node state home content made all n ea eb ec ed ef ha hb hc hd hf ih ic im ia =
      let rs : List Role = role.transactor ∷ role.next p.transactors ∷ role.behaviour ∷ role.node ∷ role.value ∷ [] in
      is_row kinds.New rs (trees_of fs) (λ (z : ℕ × (Unit {0} × (ℕ × (ℕ × Value)))). steps.New z.0 z.1.1.0 z.1.1.1.0 z.1.1.1.1) all refl (λ z. refl)
      (moved rs (λ (z : ℕ × (Unit {0} × (ℕ × (ℕ × Value)))). item.transactor z.0 ∷ item.next p.transactors ∷ item.behaviour z.1.1.0 ∷ item.node z.1.1.1.0 ∷ item.value (val_of z.1.1.1.1) ∷ []) (trees_of fs) (more (tree_of a) (more (tree_of b) (more (tree_of c) (more (tree_of d) (more (tree_of f) none))))) all (both_of who (both_of number (both_of behaviour (both_of node state)))) (five_items fs a b c d f n ea eb ec ed ef) (ia ∙ ap (both_of who) (im ∙ ap (both_of number) (ic ∙ ap (both_of behaviour) ih)))
      (tells_more p role.transactor (role.next p.transactors ∷ role.behaviour ∷ role.node ∷ role.value ∷ []) item.transactor (λ (y : Unit {0} × (ℕ × (ℕ × Value))). item.next p.transactors ∷ item.behaviour y.1.0 ∷ item.node y.1.1.0 ∷ item.value (val_of y.1.1.1) ∷ []) (tree_of a) (more (tree_of b) (more (tree_of c) (more (tree_of d) (more (tree_of f) none)))) who (both_of number (both_of behaviour (both_of node state))) (λ x. refl) (λ y. refl) ha
      (tells_more p (role.next p.transactors) (role.behaviour ∷ role.node ∷ role.value ∷ []) (λ _. item.next p.transactors) (λ (y : ℕ × (ℕ × Value)). item.behaviour y.0 ∷ item.node y.1.0 ∷ item.value (val_of y.1.1) ∷ []) (tree_of b) (more (tree_of c) (more (tree_of d) (more (tree_of f) none))) number (both_of behaviour (both_of node state)) (λ x. refl) (λ y. refl) hb
      (tells_more p role.behaviour (role.node ∷ role.value ∷ []) item.behaviour (λ (y : ℕ × Value). item.node y.0 ∷ item.value (val_of y.1) ∷ []) (tree_of c) (more (tree_of d) (more (tree_of f) none)) behaviour (both_of node state) (λ x. refl) (λ y. refl) hc
      (tells_more p role.node (role.value ∷ []) item.node (λ v. item.value (val_of v) ∷ []) (tree_of d) (more (tree_of f) none) node state (λ x. refl) (λ y. refl) hd
      (tells_one p role.value (λ v. item.value (val_of v)) (tree_of f) state hf))))))

  -- the items of (echo WHO N M)
  pub tells_echo : (fs : List Form) (a b c : Form) (who : Result ℕ ItemError) (number : Result (Unit {0}) ItemError) (message : Result ℕ ItemError) (made : Result (Unit {0} × ℕ) ItemError) (all : Result (ℕ × (Unit {0} × ℕ)) ItemError) → length fs ≡ 3 → a ≡ get_or fs 0 a → b ≡ get_or fs 1 b → c ≡ get_or fs 2 c
      → TellsItem p role.transactor item.transactor (tree_of a) who → TellsItem p (role.next p.messages) (λ _. item.next p.messages) (tree_of b) number → TellsItem p role.message item.message (tree_of c) message
      → made ≡ both_of number message → all ≡ both_of who made
      → IsRow kinds.Echo (trees_of fs) (λ (z : ℕ × (Unit {0} × ℕ)). steps.Echo z.0 z.1.1) all
  tells_echo fs a b c who number message made all n ea eb ec ha hb hc im ia =
      let rs : List Role = role.transactor ∷ role.next p.messages ∷ role.message ∷ [] in
      is_row kinds.Echo rs (trees_of fs) (λ (z : ℕ × (Unit {0} × ℕ)). steps.Echo z.0 z.1.1) all refl (λ z. refl)
      (moved rs (λ (z : ℕ × (Unit {0} × ℕ)). item.transactor z.0 ∷ item.next p.messages ∷ item.message z.1.1 ∷ []) (trees_of fs) (more (tree_of a) (more (tree_of b) (more (tree_of c) none))) all (both_of who (both_of number message)) (three_items fs a b c n ea eb ec) (ia ∙ ap (both_of who) im)
      (tells_more p role.transactor (role.next p.messages ∷ role.message ∷ []) item.transactor (λ (y : Unit {0} × ℕ). item.next p.messages ∷ item.message y.1 ∷ []) (tree_of a) (more (tree_of b) (more (tree_of c) none)) who (both_of number message) (λ x. refl) (λ y. refl) ha
      (tells_more p (role.next p.messages) (role.message ∷ []) (λ _. item.next p.messages) (λ (y : ℕ). item.message y ∷ []) (tree_of b) (more (tree_of c) none) number message (λ x. refl) (λ y. refl) hb
      (tells_one p role.message item.message (tree_of c) message hc))))

  -- the items of (repeat N M)
  pub tells_repeat : (fs : List Form) (a b : Form) (number : Result (Unit {0}) ItemError) (message : Result ℕ ItemError) (all : Result (Unit {0} × ℕ) ItemError) → length fs ≡ 2 → a ≡ get_or fs 0 a → b ≡ get_or fs 1 b
      → TellsItem p (role.next p.messages) (λ _. item.next p.messages) (tree_of a) number → TellsItem p role.message item.message (tree_of b) message → all ≡ both_of number message
      → IsRow kinds.Repeat (trees_of fs) (λ (z : Unit {0} × ℕ). steps.Repeat z.1) all
  tells_repeat fs a b number message all n ea eb ha hb ia =
      let rs : List Role = role.next p.messages ∷ role.message ∷ [] in
      is_row kinds.Repeat rs (trees_of fs) (λ (z : Unit {0} × ℕ). steps.Repeat z.1) all refl (λ z. refl)
      (moved rs (λ (z : Unit {0} × ℕ). item.next p.messages ∷ item.message z.1 ∷ []) (trees_of fs) (more (tree_of a) (more (tree_of b) none)) all (both_of number message) (two_items fs a b n ea eb) ia
      (tells_more p (role.next p.messages) (role.message ∷ []) (λ _. item.next p.messages) (λ (y : ℕ). item.message y ∷ []) (tree_of a) (more (tree_of b) none) number message (λ x. refl) (λ y. refl) ha
      (tells_one p role.message item.message (tree_of b) message hb)))
