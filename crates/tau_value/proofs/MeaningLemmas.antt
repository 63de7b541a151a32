-- The first fault that the reader finds is the first by the definition, and a form without one means what it counts as.
use Rattle.std.proofs.Common.{◌≡◌, ℕ, ◌+◌, ◌*◌, ◌<◌, ◌≤◌, Bool, true, false, cond, ◌&&◌, nat_le, nat_lt, ℤ, List, [], length, Option, Some, None, option_map, option_and_then, is_some, unwrap_or, refl, sym, ap, subst, ◌∙◌, arith, codes, ⊎_elim}
use Rattle.std.specs.Option.{option_or, option_map_or}
use Rattle.std.specs.Str.{bytes_eq}
use Rattle.std.proofs.lemmas.Bool.{false≢true, ltb-true, and_parts, cases_lt}
use Rattle.std.proofs.lemmas.List.Quantifiers.{position-Some}
use Rattle.std.proofs.lemmas.Slice.Eq.{bytes_eq-Decides}
use Rattle.tau_sexpr.specs.Tree.{Tree, Trees, word, text, list, none, more, size_of, size_of_all}
use Rattle.tau_value.specs.Val as val
use Rattle.tau_value.specs.Val.{Val}
use Rattle.tau_value.specs.Names.{place_of}
use Rattle.tau_value.specs.Numbers.{count_in, integer_in}
use Rattle.tau_value.specs.Sizes.{parts_of, parts_of_all, levels_of_all, IsInBounds, NamesBelow, AllNamesBelow, levels_of}
use Rattle.tau_value.specs.Meaning.{name_word, list_word, word_value, between, number_named, named, counted, counted_all, has_row, name_fault, Fault, shape, FaultAt, FaultIn, too_large, no_row, in_name, in_list, here, later, IsFirstFault}
use Rattle.tau_value.specs.Inner.Reading.{scan, scan_all, later_by}
use Rattle.tau_value.proofs.ReadingLemmas.{small_word, parts_of-named, scan-no_row}

-- a form has a node
pub size_positive : (t : Tree) → 1 ≤ size_of t
size_positive (word w) = omega arith
size_positive (text t) = omega arith
size_positive (list ts) = omega arith

-- a faulty node is one of the form's
mutual
  pub FaultAt-lt : (names : List (List ℕ)) (bound : ℕ) (t : Tree) (n : ℕ) (f : Fault) → FaultAt names bound t n f → n < size_of t
  FaultAt-lt names bound t n f (too_large z h) = omega (arith, size_positive t)
  FaultAt-lt names bound t n f (no_row z h) = omega (arith, size_positive t)
  FaultAt-lt names bound t n f (in_name {x = x} e z h) = omega (arith, ap size_of e, size_positive x)
  FaultAt-lt names bound t n f (in_list {ts = ts} {m = m} e z h) = omega (arith, ap size_of e, FaultIn-lt names bound ts m f h)

  pub FaultIn-lt : (names : List (List ℕ)) (bound : ℕ) (ts : Trees) (n : ℕ) (f : Fault) → FaultIn names bound ts n f → n < size_of_all ts
  FaultIn-lt names bound none n f h = elim h [ ]
  FaultIn-lt names bound (more t ts) n f (here h) = omega (arith, FaultAt-lt names bound t n f h)
  FaultIn-lt names bound (more t ts) n f (later {m = m} z h) = omega (arith, FaultIn-lt names bound ts m f h)

-- the only fault at a form's own node is its shape
root_fault : (names : List (List ℕ)) (bound : ℕ) (t : Tree) (n : ℕ) (g : Fault) → n ≡ 0 → FaultAt names bound t n g → shape ≡ g
root_fault names bound t n g z (too_large y h) = refl
root_fault names bound t n g z (no_row y h) = refl
root_fault names bound t n g z (in_name e y h) = absurd (omega arith)
root_fault names bound t n g z (in_list e y h) = absurd (omega arith)

pub at_root : (names : List (List ℕ)) (bound : ℕ) (t : Tree) → FaultAt names bound t 0 shape → IsFirstFault names bound t 0 shape
at_root names bound t h = record { fault = h; least = λ m g k. omega arith; only = λ g k. root_fault names bound t 0 g refl k }

-- what a first fault found, or none, says of a form that is in bounds
pub record IsClean (names : List (List ℕ)) (bound : ℕ) (t : Tree) : Type 0 where
  pub faultless : (n : ℕ) (f : Fault) → ¬ FaultAt names bound t n f
  pub small : size_of t ≤ 3 * parts_of (counted names bound t)

pub record IsFound (names : List (List ℕ)) (bound : ℕ) (t : Tree) (n : ℕ) (f : Fault) : Type 0 where
  pub first : IsFirstFault names bound t n f
  pub near : n ≤ 3 * parts_of (counted names bound t)

abbrev pub Agrees : List (List ℕ) → ℕ → Tree → Option (ℕ × Fault) → Type 0
Agrees names bound t None = IsClean names bound t
Agrees names bound t (Some p) = IsFound names bound t p.0 p.1

record IsCleanAll (names : List (List ℕ)) (bound : ℕ) (ts : Trees) : Type 0 where
  faultless : (n : ℕ) (f : Fault) → ¬ FaultIn names bound ts n f
  small : size_of_all ts ≤ 3 * parts_of_all (counted_all names bound ts)

record IsFoundIn (names : List (List ℕ)) (bound : ℕ) (ts : Trees) (n : ℕ) (f : Fault) : Type 0 where
  fault : FaultIn names bound ts n f
  least : (m : ℕ) (g : Fault) → FaultIn names bound ts m g → n ≤ m
  only : (g : Fault) → FaultIn names bound ts n g → f ≡ g
  near : n ≤ 3 * parts_of_all (counted_all names bound ts)

abbrev AgreesIn : List (List ℕ) → ℕ → Trees → Option (ℕ × Fault) → Type 0
AgreesIn names bound ts None = IsCleanAll names bound ts
AgreesIn names bound ts (Some p) = IsFoundIn names bound ts p.0 p.1

-- a form in no row
agrees-no_row : (names : List (List ℕ)) (bound : ℕ) (ts : Trees) → has_row (list ts) ≡ false → Agrees names bound (list ts) (scan names bound (list ts))
agrees-no_row names bound ts h = rw (scan-no_row names bound ts h) (record { first = at_root names bound (list ts) (no_row refl h); near = omega arith })

agrees-word : (names : List (List ℕ)) (bound : ℕ) (w : List ℕ) → Agrees names bound (word w) (scan names bound (word w))
agrees-word names bound w = by (is_some (word_value w)) refl
  where
    clean : is_some (word_value w) ≡ true → (n : ℕ) (f : Fault) → ¬ FaultAt names bound (word w) n f
    clean e n f (too_large z h) = h (omega (arith, (small_word names bound w).parts), omega (arith, (small_word names bound w).levels))
    clean e n f (no_row z h) = false≢true (sym h ∙ e)
    clean e n f (in_name is z h) = cc
    clean e n f (in_list is z h) = cc

    by : (b : Bool) → is_some (word_value w) ≡ b → Agrees names bound (word w) (cond b None (Some (0, shape)))
    by true e = record { faultless = clean e; small = omega (arith, (small_word names bound w).parts) }
    by false e = record { first = at_root names bound (word w) (no_row refl e); near = omega arith }

agrees-text : (names : List (List ℕ)) (bound : ℕ) (t : List ℕ) → IsInBounds (counted names bound (text t)) → Agrees names bound (text t) None
agrees-text names bound t within = record { faultless = clean; small = omega arith }
  where
    clean : (n : ℕ) (f : Fault) → ¬ FaultAt names bound (text t) n f
    clean n f (too_large z h) = h within
    clean n f (no_row z h) = cc
    clean n f (in_name is z h) = cc
    clean n f (in_list is z h) = cc

-- the forms of lists and names begin with different words
abbrev begins_list : Tree → Bool
begins_list (list (more (word h) us)) = bytes_eq h list_word
begins_list t = false

apart : (us : Trees) (x : Tree) → list (more (word list_word) us) ≡ list (more (word name_word) (more x none)) → ⊥
apart us x e = false≢true (sym (ap begins_list e))

-- (list ..), by its items
agrees-list : (names : List (List ℕ)) (bound : ℕ) (us : Trees) (o : Option (ℕ × Fault)) → AgreesIn names bound us o → IsInBounds (counted names bound (list (more (word list_word) us))) → Agrees names bound (list (more (word list_word) us)) (option_map (later_by 2) o)
agrees-list names bound us None items within = record { faultless = clean; small = omega (arith, items.small) }
  where
    clean : (n : ℕ) (f : Fault) → ¬ FaultAt names bound (list (more (word list_word) us)) n f
    clean n f (too_large z h) = h within
    clean n f (no_row z h) = cc
    clean n f (in_name {x = x} is z h) = apart us x is
    clean n f (in_list {ts = ts} {m = m} is z h) =
        let same : ts ≡ us = cc in
        items.faultless m f (subst (λ xs. FaultIn names bound xs m f) same h)
agrees-list names bound us (Some p) items within = record {
  first = record { fault = in_list refl refl items.fault; least = least; only = λ g k. only (2 + p.0) g refl k };
  near = omega (arith, items.near);
}
  where
    least : (n : ℕ) (g : Fault) → FaultAt names bound (list (more (word list_word) us)) n g → 2 + p.0 ≤ n
    least n g (too_large z h) = absurd (h within)
    least n g (no_row z h) = cc
    least n g (in_name {x = x} is z h) = absurd (apart us x is)
    least n g (in_list {ts = ts} {m = m} is z h) =
        let same : ts ≡ us = cc in
        omega (arith, items.least m g (subst (λ xs. FaultIn names bound xs m g) same h))

    only : (n : ℕ) (g : Fault) → n ≡ 2 + p.0 → FaultAt names bound (list (more (word list_word) us)) n g → p.1 ≡ g
    only n g e (too_large z h) = absurd (h within)
    only n g e (no_row z h) = cc
    only n g e (in_name {x = x} is z h) = absurd (apart us x is)
    only n g e (in_list {ts = ts} {m = m} is z h) =
        let same : ts ≡ us = cc in
        let there : m ≡ p.0 = omega arith in
        items.only g (subst (λ k. FaultIn names bound us k g) there (subst (λ xs. FaultIn names bound xs m g) same h))

-- X of (name X) has no fault only where it is a word
name_small : (names : List (List ℕ)) (bound : ℕ) (x : Tree) → name_fault names bound x ≡ None → size_of x ≡ 1
name_small names bound (word w) e = refl
name_small names bound (text t) e = cc
name_small names bound (list ts) e = cc

-- (name X), by X
agrees-name : (names : List (List ℕ)) (bound : ℕ) (x : Tree) (o : Option Fault) → name_fault names bound x ≡ o → IsInBounds (counted names bound (list (more (word name_word) (more x none)))) → Agrees names bound (list (more (word name_word) (more x none))) (option_map (λ f. (2, f)) o)
agrees-name names bound x None e within = record { faultless = clean; small = omega (arith, name_small names bound x e, parts_of-named names bound x) }
  where
    clean : (n : ℕ) (f : Fault) → ¬ FaultAt names bound (list (more (word name_word) (more x none))) n f
    clean n f (too_large z h) = h within
    clean n f (no_row z h) = cc
    clean n f (in_name {x = y} is z h) =
        let same : y ≡ x = cc in
        let fault : name_fault names bound x ≡ Some f = subst (λ w. name_fault names bound w ≡ Some f) same h in
        cc
    clean n f (in_list {ts = ts} is z h) = apart ts x (sym is)
agrees-name names bound x (Some f) e within = record {
  first = record { fault = in_name refl refl e; least = least; only = only };
  near = omega (arith, parts_of-named names bound x);
}
  where
    least : (n : ℕ) (g : Fault) → FaultAt names bound (list (more (word name_word) (more x none))) n g → 2 ≤ n
    least n g (too_large z h) = absurd (h within)
    least n g (no_row z h) = cc
    least n g (in_name is z h) = omega arith
    least n g (in_list {ts = ts} is z h) = absurd (apart ts x (sym is))

    only : (g : Fault) → FaultAt names bound (list (more (word name_word) (more x none))) 2 g → f ≡ g
    only g (too_large z h) = absurd (h within)
    only g (no_row z h) = cc
    only g (in_name {x = y} is z h) =
        let same : y ≡ x = cc in
        let fault : name_fault names bound x ≡ Some g = subst (λ w. name_fault names bound w ≡ Some g) same h in
        cc
    only g (in_list {ts = ts} is z h) = absurd (apart ts x (sym is))

agrees-named : (names : List (List ℕ)) (bound : ℕ) (us : Trees) → IsInBounds (counted names bound (list (more (word name_word) us))) → Agrees names bound (list (more (word name_word) us)) (scan names bound (list (more (word name_word) us)))
agrees-named names bound none within = agrees-no_row names bound (more (word name_word) none) refl
agrees-named names bound (more x none) within = agrees-name names bound x (name_fault names bound x) refl within
agrees-named names bound (more x (more y us)) within = agrees-no_row names bound (more (word name_word) (more x (more y us))) refl

agrees-items : (names : List (List ℕ)) (bound : ℕ) (t : Tree) (us : Trees) (o q : Option (ℕ × Fault)) → Agrees names bound t o → AgreesIn names bound us q → AgreesIn names bound (more t us) (option_or o (option_map (later_by (size_of t)) q))
agrees-items names bound t us None None one rest = record { faultless = clean; small = omega (arith, one.small, rest.small) }
  where
    clean : (n : ℕ) (f : Fault) → ¬ FaultIn names bound (more t us) n f
    clean n f (here h) = one.faultless n f h
    clean n f (later {m = m} z h) = rest.faultless m f h
agrees-items names bound t us None (Some q) one rest = record { fault = later refl rest.fault; least = least; only = λ g k. only (size_of t + q.0) g refl k; near = omega (arith, one.small, rest.near) }
  where
    least : (n : ℕ) (g : Fault) → FaultIn names bound (more t us) n g → size_of t + q.0 ≤ n
    least n g (here h) = absurd (one.faultless n g h)
    least n g (later {m = m} z h) = omega (arith, rest.least m g h)

    only : (n : ℕ) (g : Fault) → n ≡ size_of t + q.0 → FaultIn names bound (more t us) n g → q.1 ≡ g
    only n g e (here h) = absurd (one.faultless n g h)
    only n g e (later {m = m} z h) =
        let there : m ≡ q.0 = omega arith in
        rest.only g (subst (λ k. FaultIn names bound us k g) there h)
agrees-items names bound t us (Some p) q one rest = record { fault = here one.first.fault; least = least; only = λ g k. only p.0 g refl k; near = omega (arith, one.near) }
  where
    least : (n : ℕ) (g : Fault) → FaultIn names bound (more t us) n g → p.0 ≤ n
    least n g (here h) = one.first.least n g h
    least n g (later z h) = omega (arith, FaultAt-lt names bound t p.0 p.1 one.first.fault)

    only : (n : ℕ) (g : Fault) → n ≡ p.0 → FaultIn names bound (more t us) n g → p.1 ≡ g
    only n g e (here h) = one.first.only g (subst (λ k. FaultAt names bound t k g) e h)
    only n g e (later z h) = absurd (omega (arith, FaultAt-lt names bound t p.0 p.1 one.first.fault))

-- a list that begins with a word
agrees-headed : (names : List (List ℕ)) (bound : ℕ) (h : List ℕ) (us : Trees) → ((parts_of_all (counted_all names bound us) ≤ 65536) × (levels_of_all (counted_all names bound us) ≤ 64) → AgreesIn names bound us (scan_all names bound us)) → IsInBounds (counted names bound (list (more (word h) us))) → Agrees names bound (list (more (word h) us)) (scan names bound (list (more (word h) us)))
agrees-headed names bound h us items = by (bytes_eq h list_word) refl (bytes_eq h name_word) refl
  where
    by : (b : Bool) → bytes_eq h list_word ≡ b → (c : Bool) → bytes_eq h name_word ≡ c → IsInBounds (counted names bound (list (more (word h) us))) → Agrees names bound (list (more (word h) us)) (scan names bound (list (more (word h) us)))
    by true e c f =
        let is : h ≡ list_word = (bytes_eq-Decides h list_word).0 e in
        let P : List ℕ → Type 0 = λ w. IsInBounds (counted names bound (list (more (word w) us))) → Agrees names bound (list (more (word w) us)) (scan names bound (list (more (word w) us))) in
        subst P (sym is) (λ within. agrees-list names bound us (scan_all names bound us) (items (omega arith, omega arith)) within)
    by false e true f =
        let is : h ≡ name_word = (bytes_eq-Decides h name_word).0 f in
        let P : List ℕ → Type 0 = λ w. IsInBounds (counted names bound (list (more (word w) us))) → Agrees names bound (list (more (word w) us)) (scan names bound (list (more (word w) us))) in
        subst P (sym is) (agrees-named names bound us)
    by false e false f = λ within. agrees-no_row names bound (more (word h) us) (rw (e, f) refl)

-- the first fault found in a form that is in bounds is the first by the definition, and where none is found there is none
mutual
  pub agrees : (names : List (List ℕ)) (bound : ℕ) (t : Tree) → IsInBounds (counted names bound t) → Agrees names bound t (scan names bound t)
  agrees names bound (word w) within = agrees-word names bound w
  agrees names bound (text t) within = agrees-text names bound t within
  agrees names bound (list none) within = agrees-no_row names bound none refl
  agrees names bound (list (more (word h) us)) within = agrees-headed names bound h us (agrees-all names bound us) within
  agrees names bound (list (more (text t) us)) within = agrees-no_row names bound (more (text t) us) refl
  agrees names bound (list (more (list ts) us)) within = agrees-no_row names bound (more (list ts) us) refl

  agrees-all : (names : List (List ℕ)) (bound : ℕ) (ts : Trees) → (parts_of_all (counted_all names bound ts) ≤ 65536) × (levels_of_all (counted_all names bound ts) ≤ 64) → AgreesIn names bound ts (scan_all names bound ts)
  agrees-all names bound none within = record { faultless = λ n f h. elim h [ ]; small = omega arith }
  agrees-all names bound (more t ts) within =
      agrees-items names bound t ts (scan names bound t) (scan_all names bound ts) (agrees names bound t (omega arith, omega arith)) (agrees-all names bound ts (omega arith, omega arith))

-- the number of a name is below the bound
pub between-lt : (low high n k : ℕ) → between low high n ≡ Some k → k < high
between-lt low high n k e = by (nat_le low n && nat_lt n high) refl e
  where
    by : (b : Bool) → (nat_le low n && nat_lt n high) ≡ b → cond b (Some n) None ≡ Some k → k < high
    by true h f =
        let same : n ≡ k = cc in
        omega (arith, ltb-true n high (and_parts (nat_le low n) (nat_lt n high) h).1)
    by false h f = cc

number_named-lt : (names : List (List ℕ)) (bound : ℕ) (x : List ℕ) (k : ℕ) → length names ≤ bound → number_named names bound x ≡ Some k → k < bound
number_named-lt names bound x k le e = by (place_of names x) refl (count_in x) e
  where
    by : (o : Option ℕ) → place_of names x ≡ o → (q : Option ℕ) → option_or o (option_and_then (between (length names) bound) q) ≡ Some k → k < bound
    by (Some j) h q f =
        let same : j ≡ k = cc in
        omega (arith, (position-Some (bytes_eq x) names j [] h).0)
    by None h None f = cc
    by None h (Some n) f = between-lt (length names) bound n k f

named-names_below : (names : List (List ℕ)) (bound : ℕ) (ts : Trees) → length names ≤ bound → NamesBelow bound (named names bound ts)
named-names_below names bound none le = tt
named-names_below names bound (more (word x) none) le = by (number_named names bound x) refl
  where
    by : (o : Option ℕ) → number_named names bound x ≡ o → NamesBelow bound (option_map_or val.name o val.unit)
    by (Some k) e = number_named-lt names bound x k le e
    by None e = tt
named-names_below names bound (more (word x) (more y ts)) le = tt
named-names_below names bound (more (text x) none) le = tt
named-names_below names bound (more (text x) (more y ts)) le = tt
named-names_below names bound (more (list x) none) le = tt
named-names_below names bound (more (list x) (more y ts)) le = tt

below_if : (bound : ℕ) (b : Bool) (v : Val) (o : Option Val) → NamesBelow bound v → NamesBelow bound (unwrap_or o val.unit) → NamesBelow bound (unwrap_or (cond b (Some v) o) val.unit)
below_if bound true v o h k = h
below_if bound false v o h k = k

below_integer : (bound : ℕ) (o : Option ℤ) → NamesBelow bound (unwrap_or (option_map val.int o) val.unit)
below_integer bound (Some z) = tt
below_integer bound None = tt

word_names_below : (bound : ℕ) (w : List ℕ) → NamesBelow bound (unwrap_or (word_value w) val.unit)
word_names_below bound w =
    let integer : Option Val = option_map val.int (integer_in w) in
    let last : Option Val = cond (bytes_eq w (codes "false")) (Some (val.truth false)) integer in
    let second : Option Val = cond (bytes_eq w (codes "true")) (Some (val.truth true)) last in
    let at_last = below_if bound (bytes_eq w (codes "false")) (val.truth false) integer tt (below_integer bound (integer_in w)) in
    let at_second = below_if bound (bytes_eq w (codes "true")) (val.truth true) last tt at_last in
    below_if bound (bytes_eq w (codes "unit")) val.unit second tt at_second

-- each name in what a form counts as is below the bound
mutual
  pub counted-names_below : (names : List (List ℕ)) (bound : ℕ) (t : Tree) → length names ≤ bound → NamesBelow bound (counted names bound t)
  counted-names_below names bound (word w) le = word_names_below bound w
  counted-names_below names bound (text t) le = tt
  counted-names_below names bound (list none) le = tt
  counted-names_below names bound (list (more (word h) us)) le = by (bytes_eq h list_word) (bytes_eq h name_word) (counted_all-names_below names bound us le) (named-names_below names bound us le)
    where
      by : (b c : Bool) → AllNamesBelow bound (counted_all names bound us) → NamesBelow bound (named names bound us) → NamesBelow bound (cond b (val.list (counted_all names bound us)) (cond c (named names bound us) val.unit))
      by true c h k = h
      by false true h k = k
      by false false h k = tt
  counted-names_below names bound (list (more (text t) us)) le = tt
  counted-names_below names bound (list (more (list ts) us)) le = tt

  counted_all-names_below : (names : List (List ℕ)) (bound : ℕ) (ts : Trees) → length names ≤ bound → AllNamesBelow bound (counted_all names bound ts)
  counted_all-names_below names bound none le = tt
  counted_all-names_below names bound (more t ts) le = (counted-names_below names bound t le, counted_all-names_below names bound ts le)

-- bounds are decided
decided : (a b : ℕ) → ¬ ¬ (a ≤ b) → a ≤ b
decided a b h = ⊎_elim (λ (above : b < a). absurd (h (λ le. omega arith))) (λ le. le) (cases_lt b a)

pub bounded_from : (v : Val) → ¬ ¬ IsInBounds v → IsInBounds v
bounded_from v h = (decided (parts_of v) 65536 (λ n. h (λ w. n w.0)), decided (levels_of v) 64 (λ n. h (λ w. n w.1)))
