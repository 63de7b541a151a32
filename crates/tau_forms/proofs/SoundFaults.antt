-- What it says of a form that none of its nodes is faulty, node by node.
use Rattle.std.proofs.Common.{◌≡◌, ◌≢◌, ℕ, ◌+◌, ◌<◌, Bool, true, false, cond, not, List, [], ◌∷◌, length, Option, Some, None, is_some, refl, sym, ap, ◌∙◌, arith, ◌||◌, zero, suc}
use Rattle.std.specs.List.{Contains, position_or_len}
use Rattle.std.specs.Str.{bytes_eq}
use Rattle.std.proofs.lemmas.Bool.{false≢true, lt-ltb}
use Rattle.std.proofs.lemmas.Slice.Eq.{bytes_eq-Decides}
use Rattle.tau_sexpr.specs.Tree.{Tree, Trees, word, text, list, none, more, size_of}
use Rattle.tau_value.specs.Names.{is_name, IsName}
use Rattle.tau_value.specs.Meaning as values
use Rattle.tau_forms.specs.declared.keywords.Keyword.{Keyword}
use Rattle.tau_forms.specs.declared.tables.Tables.{Tables}
use Rattle.tau_forms.specs.Keywords.{keyword_in}
use Rattle.tau_forms.specs.Tops.{has}
use Rattle.tau_forms.specs.Roles.{Role, first, known, fresh, value, expression, two_names, count_of, with_first, has_items, parts_of, word_of, row}
use Rattle.tau_forms.specs.Faults.{Fault, shape, unknown, twice, unless, own_fault, FaultAt, FaultIn, itself, in_value, in_item, here, later, of_value, IsClean}
use Rattle.tau_forms.specs.Meaning.{number_of}

none_from : {X : Type 0} (o : Option X) → ((x : X) → o ≡ Some x → ⊥) → o ≡ None
none_from None h = refl
none_from (Some x) h = absurd (h x refl)

pub own_clean : (tb : Tables) (r : Role) (t : Tree) → IsClean (FaultAt tb r t) → own_fault tb r t ≡ None
own_clean tb r t clean = none_from (own_fault tb r t) (λ f e. clean 0 f (itself refl e))

pub items_clean : (tb : Tables) (r : Role) (ts : Trees) (rs : List Role) → row tb r ts ≡ Some rs → IsClean (FaultAt tb r (list ts)) → IsClean (FaultIn tb rs ts)
items_clean tb r ts rs e clean = λ n f h. clean (1 + n) f (in_item refl e refl h)

pub head_clean : (tb : Tables) (r : Role) (rs : List Role) (t : Tree) (ts : Trees) → IsClean (FaultIn tb (r ∷ rs) (more t ts)) → IsClean (FaultAt tb r t)
head_clean tb r rs t ts clean = λ n f h. clean n f (here h)

pub tail_clean : (tb : Tables) (r : Role) (rs : List Role) (t : Tree) (ts : Trees) → IsClean (FaultIn tb (r ∷ rs) (more t ts)) → IsClean (FaultIn tb rs ts)
tail_clean tb r rs t ts clean = λ n f h. clean (size_of t + n) f (later refl h)

pub value_clean : (tb : Tables) (t : Tree) → IsClean (FaultAt tb value t) → (n : ℕ) (g : values.Fault) → ¬ values.FaultAt tb.starts (length tb.starts) t n g
value_clean tb t clean = λ n g h. clean n (of_value g) (in_value refl refl h)

pub passes : (b : Bool) (f : Fault) → unless b f ≡ None → b ≡ true
passes true f e = refl
passes false f e = cc

-- an expression that is a list has the number of items of its word, and these have no fault
abbrev choice : Bool → List Role → Option (List Role)
choice b ps = with_first first (cond b (Some ps) None)

chosen : (b : Bool) (ps : List Role) → unless (is_some (choice b ps)) shape ≡ None → b ≡ true
chosen true ps e = refl
chosen false ps e = cc

pub record IsCleanList (tb : Tables) (scope : List (List ℕ)) (k : Keyword) (ts : Trees) : Type 0 where
  pub number : has_items k (count_of ts) ≡ true
  pub items : IsClean (FaultIn tb (parts_of tb scope k ts) ts)

pub expression_clean : (tb : Tables) (scope : List (List ℕ)) (h : List ℕ) (ts : Trees) → IsClean (FaultAt tb (expression scope) (list (more (word h) ts))) → IsCleanList tb scope (keyword_in h) ts
expression_clean tb scope h ts clean =
    let k = keyword_in h in
    let ps = parts_of tb scope k ts in
    let number : has_items k (count_of ts) ≡ true = chosen (has_items k (count_of ts)) ps (own_clean tb (expression scope) (list (more (word h) ts)) clean) in
    let is : row tb (expression scope) (more (word h) ts) ≡ Some (first ∷ ps) = ap (λ b. choice b ps) number in
    record {
      number = number;
      items = tail_clean tb first ps (word h) ts (items_clean tb (expression scope) (more (word h) ts) (first ∷ ps) is clean);
    }

-- a name that is defined
known_by : (b c : Bool) → cond b (unless c unknown) (Some shape) ≡ None → (b ≡ true) × (c ≡ true)
known_by true true e = (refl, refl)
known_by true false e = cc
known_by false c e = cc

pub record IsKnown (names : List (List ℕ)) (t : Tree) : Type 0 where
  pub name : List ℕ
  pub is : t ≡ word name
  pub named : IsName name
  pub has : has names name ≡ true

pub known_clean : (tb : Tables) (names : List (List ℕ)) (t : Tree) → IsClean (FaultAt tb (known names) t) → IsKnown names t
known_clean tb names (word w) clean =
    let both = known_by (is_name w) (has names w) (own_clean tb (known names) (word w) clean) in
    record { name = w; is = refl; named = both.0; has = both.1 }
known_clean tb names (text t) clean = let e = own_clean tb (known names) (text t) clean in cc
known_clean tb names (list ts) clean = let e = own_clean tb (known names) (list ts) clean in cc

-- a name that isn't one of others
fresh_by : (b c : Bool) → cond b (cond c (Some twice) None) (Some shape) ≡ None → (b ≡ true) × (c ≡ false)
fresh_by true true e = cc
fresh_by true false e = (refl, refl)
fresh_by false c e = cc

pub record IsFresh (names : List (List ℕ)) (t : Tree) : Type 0 where
  pub name : List ℕ
  pub is : t ≡ word name
  pub named : IsName name
  pub new : has names name ≡ false

pub fresh_clean : (tb : Tables) (names : List (List ℕ)) (t : Tree) → IsClean (FaultAt tb (fresh names) t) → IsFresh names t
fresh_clean tb names (word w) clean =
    let both = fresh_by (is_name w) (has names w) (own_clean tb (fresh names) (word w) clean) in
    record { name = w; is = refl; named = both.0; new = both.1 }
fresh_clean tb names (text t) clean = let e = own_clean tb (fresh names) (text t) clean in cc
fresh_clean tb names (list ts) clean = let e = own_clean tb (fresh names) (list ts) clean in cc

-- the two names of a fold
pub record AreTwoNames (t : Tree) : Type 0 where
  pub sum : List ℕ
  pub item : List ℕ
  pub is : t ≡ list (more (word sum) (more (word item) none))
  pub sum_named : IsName sum
  pub item_named : IsName item
  pub apart : sum ≢ item

apart_from : (s i : List ℕ) → has (s ∷ []) i ≡ false → s ≢ i
apart_from s i new same =
    let there : bytes_eq i s ≡ true = (bytes_eq-Decides i s).1 (sym same) in
    false≢true (sym new ∙ ap (λ b. b || false) there)

two_from : (s i : Tree) → IsFresh [] s → IsFresh (word_of s) i → AreTwoNames (list (more s (more i none)))
two_from (word s) i f g =
    let same : f.name ≡ s = cc in
    record {
      sum = s;
      item = g.name;
      is = ap (λ x. list (more (word s) (more x none))) g.is;
      sum_named = rw same at f.named;
      item_named = g.named;
      apart = apart_from s g.name g.new;
    }
two_from (text s) i f g = let e = f.is in cc
two_from (list s) i f g = let e = f.is in cc

pub two_names_clean : (tb : Tables) (t : Tree) → IsClean (FaultAt tb two_names t) → AreTwoNames t
two_names_clean tb (word w) clean = let e = own_clean tb two_names (word w) clean in cc
two_names_clean tb (text t) clean = let e = own_clean tb two_names (text t) clean in cc
two_names_clean tb (list none) clean = let e = own_clean tb two_names (list none) clean in cc
two_names_clean tb (list (more s none)) clean = let e = own_clean tb two_names (list (more s none)) clean in cc
two_names_clean tb (list (more s (more i none))) clean =
    let items = items_clean tb two_names (more s (more i none)) (fresh [] ∷ fresh (word_of s) ∷ []) refl clean in
    let rest = tail_clean tb (fresh []) (fresh (word_of s) ∷ []) s (more i none) items in
    two_from s i (fresh_clean tb [] s (head_clean tb (fresh []) (fresh (word_of s) ∷ []) s (more i none) items)) (fresh_clean tb (word_of s) i (head_clean tb (fresh (word_of s)) [] i none rest))
two_names_clean tb (list (more s (more i (more x ts)))) clean =
    let e = own_clean tb two_names (list (more s (more i (more x ts)))) clean in cc

-- a word that is among names
contains_more : (x : List ℕ) (xs : List (List ℕ)) (w : List ℕ) (b : Bool) → bytes_eq w x ≡ b → (b || has xs w) ≡ true → (has xs w ≡ true → Contains xs w) → Contains (x ∷ xs) w
contains_more x xs w true f g rest = (zero, omega arith, sym ((bytes_eq-Decides w x).0 f))
contains_more x xs w false f g rest = let c = rest g in (suc c.0, omega arith, c.2)

pub contains_from_has : (names : List (List ℕ)) (w : List ℕ) → has names w ≡ true → Contains names w
contains_from_has [] w e = absurd (false≢true e)
contains_from_has (x ∷ xs) w e = contains_more x xs w (bytes_eq w x) refl e (contains_from_has xs w)

found_more : (x : List ℕ) (xs : List (List ℕ)) (w : List ℕ) (b : Bool) → (b || has xs w) ≡ true → (has xs w ≡ true → position_or_len (bytes_eq w) xs < length xs) → cond (not b) (1 + position_or_len (bytes_eq w) xs) 0 < length (x ∷ xs)
found_more x xs w true g rest = omega arith
found_more x xs w false g rest = omega (arith, rest g)

found : (names : List (List ℕ)) (w : List ℕ) → has names w ≡ true → position_or_len (bytes_eq w) names < length names
found [] w e = absurd (false≢true e)
found (x ∷ xs) w e = found_more x xs w (bytes_eq w x) e (found xs w)

pub number_of-lt : (names : List (List ℕ)) (w : List ℕ) → has names w ≡ true → number_of names w < length names
number_of-lt names w e =
    let there = found names w e in
    rw (lt-ltb (position_or_len (bytes_eq w) names) (length names) there) there
