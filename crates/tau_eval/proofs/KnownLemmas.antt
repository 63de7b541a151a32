-- Values that are in bounds and name only what exists give such values.
use Rattle.std.proofs.Common.{◌≡◌, ℕ, zero, suc, ◌+◌, ◌<◌, ◌≤◌, ℤ, pos, negsuc, Bool, true, false, List, [], ◌∷◌, ◌++◌, Option, Some, None, refl, sym, ap, ◌∙◌, subst, arith}
use Rattle.std.specs.Prelude.{not, nat_lt, nat_le, ◌&&◌, is_some, if◌then◌else◌, length, slice_get, unwrap_or, int_lt, int_div, int_rem, ◌+ℤ◌, ◌-ℤ◌, ◌*ℤ◌, max, Ok, Err}
use Rattle.std.specs.Option.{option_or}
use Rattle.std.specs.Str.{bytes_eq}
use Rattle.tau_value.specs.Val as val
use Rattle.tau_value.specs.Val.{Val, Vals, inside, items_of}
use Rattle.tau_value.specs.Numbers.{in_i64}
use Rattle.tau_value.specs.Sizes.{IsInBounds, NamesBelow, AllNamesBelow, parts_of, parts_of_all, levels_of, levels_of_all}
use Rattle.tau_tree.specs.declared.expressions.Operation.{Operation}
use Rattle.tau_tree.specs.declared.expressions.Operation.TheVariants as prims
use Rattle.tau_tree.specs.Code.{Code, unit, truth, int, text, msg, own, var, start, list, let_in, if_else, seq, fold, apply, get, set, send, new, stabilize, checkpoint, rollback, dependent, Codes, none, more}
use Rattle.tau_tree.specs.Parts.{Throughout, AllThroughout, NamesStart, NamesBehaviour, HasShortText}
use Rattle.tau_eval.specs.Eff as eff
use Rattle.tau_eval.specs.Eff.{Eff}
use Rattle.tau_eval.specs.Same.{same_values}
use Rattle.tau_eval.specs.Operations.{Answer, where_fits, integer, bounded, quotient, remainder, found, item_at, of_one, of_integers, item, pushed, joined, integers, of_two}
use Rattle.tau_eval.specs.Outcome.{Outcome, After, gives, stops, and_then, begun, finished, asks, effect_of}
use Rattle.tau_eval.specs.Meaning.{Setting, Scope, nearest, chooses, sends, node_at, creates_on, creates, for_each, folds, meaning, operation, items, last, next}
use Rattle.tau_eval.specs.Known.{IsKnown, AreKnown, IsKnownEffect, KeepsNames, EffectsAreKnown}

-- a choice has a property that both sides have
either : {A : Type 0} (P : A → Type 0) (b : Bool) (x y : A) → P x → P y → P (if b then x else y)
either P true x y p q = p
either P false x y p q = q

-- a choice by a test, where the first side may use that it holds
where_true : {A : Type 0} (P : A → Type 0) (b : Bool) (x y : A) → (b ≡ true → P x) → P y → P (if b then x else y)
where_true P true x y p q = p refl
where_true P false x y p q = q

module _ (n : ℕ) where
  known_int : (z : ℤ) → IsKnown n (val.int z)
  known_int z = ((omega arith, omega arith), tt)

  known_truth : (b : Bool) → IsKnown n (val.truth b)
  known_truth b = ((omega arith, omega arith), tt)

  known_unit : IsKnown n val.unit
  known_unit = ((omega arith, omega arith), tt)

  known_name : (t : ℕ) → t < n → IsKnown n (val.name t)
  known_name t lt = ((omega arith, omega arith), lt)

  -- the values of a list that is known
  at_item : (vs : Vals) → parts_of_all vs ≤ 65536 → levels_of_all vs ≤ 64 → AllNamesBelow n vs → (k : ℕ) (v : Val) → slice_get (items_of vs) k ≡ Some v → IsKnown n v
  at_item val.none p l b k v e = absurd (cc)
  at_item (val.more u us) p l b zero v e =
      let same : u ≡ v = cc in
      subst (IsKnown n) same ((omega arith, omega arith), b.0)
  at_item (val.more u us) p l b (suc k) v e = at_item us (omega arith) (omega arith) b.1 k v e

  names-append : (us ws : List Val) → AllNamesBelow n (inside us) → AllNamesBelow n (inside ws) → AllNamesBelow n (inside (us ++ ws))
  names-append [] ws a b = b
  names-append (u ∷ us) ws a b = (a.0, names-append us ws a.1 b)

  names-items : (vs : Vals) → AllNamesBelow n vs → AllNamesBelow n (inside (items_of vs))
  names-items val.none a = tt
  names-items (val.more v vs) a = (a.0, names-items vs a.1)

  -- answers
  abbrev KnownAnswer : Answer → Type 0
  KnownAnswer (Ok v) = IsKnown n v
  KnownAnswer (Err code) = (1 ≤ code) × (code ≤ 8)

  bounds_of : (v : Val) → (nat_le (parts_of v) 65536 && nat_le (levels_of v) 64) ≡ true → IsInBounds v
  bounds_of v e = (search arith, search arith)

  bounded_known : (v : Val) → NamesBelow n v → KnownAnswer (bounded v)
  bounded_known v b =
      where_true KnownAnswer (nat_le (parts_of v) 65536 && nat_le (levels_of v) 64) (Ok v) (Err 5) (λ e. (bounds_of v e, b)) (omega arith, omega arith)

  where_fits_known : (z : ℤ) (v : Val) → IsKnown n v → KnownAnswer (where_fits z v)
  where_fits_known z v h = either KnownAnswer (is_some (in_i64 z)) (Ok v) (Err 2) h (omega arith, omega arith)

  integer_known : (z : ℤ) → KnownAnswer (integer z)
  integer_known z = where_fits_known z (val.int z) (known_int z)

  quotient_known : (x y : ℤ) → KnownAnswer (quotient x y)
  quotient_known x (pos zero) = (omega arith, omega arith)
  quotient_known x (pos (suc k)) = integer_known (int_div x (pos (suc k)))
  quotient_known x (negsuc k) = integer_known (int_div x (negsuc k))

  remainder_known : (x y : ℤ) → KnownAnswer (remainder x y)
  remainder_known x (pos zero) = (omega arith, omega arith)
  remainder_known x (pos (suc k)) = where_fits_known (int_div x (pos (suc k))) (val.int (int_rem x (pos (suc k)))) (known_int (int_rem x (pos (suc k))))
  remainder_known x (negsuc k) = where_fits_known (int_div x (negsuc k)) (val.int (int_rem x (negsuc k))) (known_int (int_rem x (negsuc k)))

  of_integers_known : (p : Operation) (x y : ℤ) → KnownAnswer (of_integers p x y)
  of_integers_known prims.Add x y = integer_known (x +ℤ y)
  of_integers_known prims.Sub x y = integer_known (x -ℤ y)
  of_integers_known prims.Mul x y = integer_known (x *ℤ y)
  of_integers_known prims.Div x y = quotient_known x y
  of_integers_known prims.Rem x y = remainder_known x y
  of_integers_known prims.Less x y = known_truth (int_lt x y)
  of_integers_known prims.Same x y = (omega arith, omega arith)
  of_integers_known prims.Not x y = (omega arith, omega arith)
  of_integers_known prims.Len x y = (omega arith, omega arith)
  of_integers_known prims.Item x y = (omega arith, omega arith)
  of_integers_known prims.Push x y = (omega arith, omega arith)
  of_integers_known prims.Cat x y = (omega arith, omega arith)

  of_one_known : (p : Operation) (v : Val) → IsKnown n v → KnownAnswer (of_one p v)
  of_one_known prims.Not (val.truth b) h = known_truth (not b)
  of_one_known prims.Len (val.list vs) h = integer_known (pos (length (items_of vs)))
  of_one_known prims.Len (val.text t) h = integer_known (pos (length t))
  of_one_known prims.Not val.unit h = (omega arith, omega arith)
  of_one_known prims.Not (val.int z) h = (omega arith, omega arith)
  of_one_known prims.Not (val.text t) h = (omega arith, omega arith)
  of_one_known prims.Not (val.name t) h = (omega arith, omega arith)
  of_one_known prims.Not (val.list vs) h = (omega arith, omega arith)
  of_one_known prims.Len val.unit h = (omega arith, omega arith)
  of_one_known prims.Len (val.truth b) h = (omega arith, omega arith)
  of_one_known prims.Len (val.int z) h = (omega arith, omega arith)
  of_one_known prims.Len (val.name t) h = (omega arith, omega arith)
  of_one_known prims.Add v h = (omega arith, omega arith)
  of_one_known prims.Sub v h = (omega arith, omega arith)
  of_one_known prims.Mul v h = (omega arith, omega arith)
  of_one_known prims.Div v h = (omega arith, omega arith)
  of_one_known prims.Rem v h = (omega arith, omega arith)
  of_one_known prims.Less v h = (omega arith, omega arith)
  of_one_known prims.Same v h = (omega arith, omega arith)
  of_one_known prims.Item v h = (omega arith, omega arith)
  of_one_known prims.Push v h = (omega arith, omega arith)
  of_one_known prims.Cat v h = (omega arith, omega arith)

  found_known : (o : Option Val) → ((v : Val) → o ≡ Some v → IsKnown n v) → KnownAnswer (found o)
  found_known None h = (omega arith, omega arith)
  found_known (Some v) h = h v refl

  item_known : (v w : Val) → IsKnown n v → KnownAnswer (item v w)
  item_known (val.list vs) (val.int (pos k)) h = found_known (slice_get (items_of vs) k) (λ v e. at_item vs (omega (arith, h.0.0)) (omega (arith, h.0.1)) h.1 k v e)
  item_known (val.list vs) (val.int (negsuc k)) h = (omega arith, omega arith)
  item_known (val.list vs) val.unit h = (omega arith, omega arith)
  item_known (val.list vs) (val.truth b) h = (omega arith, omega arith)
  item_known (val.list vs) (val.text t) h = (omega arith, omega arith)
  item_known (val.list vs) (val.name t) h = (omega arith, omega arith)
  item_known (val.list vs) (val.list ws) h = (omega arith, omega arith)
  item_known val.unit w h = (omega arith, omega arith)
  item_known (val.truth b) w h = (omega arith, omega arith)
  item_known (val.int z) w h = (omega arith, omega arith)
  item_known (val.text t) w h = (omega arith, omega arith)
  item_known (val.name t) w h = (omega arith, omega arith)

  pushed_known : (v w : Val) → IsKnown n v → IsKnown n w → KnownAnswer (pushed v w)
  pushed_known (val.list vs) w h g = bounded_known (val.list (inside (items_of vs ++ w ∷ []))) (names-append (items_of vs) (w ∷ []) (names-items vs h.1) (g.1, tt))
  pushed_known val.unit w h g = (omega arith, omega arith)
  pushed_known (val.truth b) w h g = (omega arith, omega arith)
  pushed_known (val.int z) w h g = (omega arith, omega arith)
  pushed_known (val.text t) w h g = (omega arith, omega arith)
  pushed_known (val.name t) w h g = (omega arith, omega arith)

  joined_known : (v w : Val) → IsKnown n v → IsKnown n w → KnownAnswer (joined v w)
  joined_known (val.list vs) (val.list ws) h g = bounded_known (val.list (inside (items_of vs ++ items_of ws))) (names-append (items_of vs) (items_of ws) (names-items vs h.1) (names-items ws g.1))
  joined_known (val.text t) (val.text u) h g = bounded_known (val.text (t ++ u)) tt
  joined_known (val.list vs) val.unit h g = (omega arith, omega arith)
  joined_known (val.list vs) (val.truth b) h g = (omega arith, omega arith)
  joined_known (val.list vs) (val.int z) h g = (omega arith, omega arith)
  joined_known (val.list vs) (val.text t) h g = (omega arith, omega arith)
  joined_known (val.list vs) (val.name t) h g = (omega arith, omega arith)
  joined_known (val.text t) val.unit h g = (omega arith, omega arith)
  joined_known (val.text t) (val.truth b) h g = (omega arith, omega arith)
  joined_known (val.text t) (val.int z) h g = (omega arith, omega arith)
  joined_known (val.text t) (val.name m) h g = (omega arith, omega arith)
  joined_known (val.text t) (val.list ws) h g = (omega arith, omega arith)
  joined_known val.unit w h g = (omega arith, omega arith)
  joined_known (val.truth b) w h g = (omega arith, omega arith)
  joined_known (val.int z) w h g = (omega arith, omega arith)
  joined_known (val.name t) w h g = (omega arith, omega arith)

  integers_known : (p : Operation) (v w : Val) → KnownAnswer (integers p v w)
  integers_known p (val.int x) (val.int y) = of_integers_known p x y
  integers_known p (val.int x) val.unit = (omega arith, omega arith)
  integers_known p (val.int x) (val.truth b) = (omega arith, omega arith)
  integers_known p (val.int x) (val.text t) = (omega arith, omega arith)
  integers_known p (val.int x) (val.name t) = (omega arith, omega arith)
  integers_known p (val.int x) (val.list vs) = (omega arith, omega arith)
  integers_known p val.unit w = (omega arith, omega arith)
  integers_known p (val.truth b) w = (omega arith, omega arith)
  integers_known p (val.text t) w = (omega arith, omega arith)
  integers_known p (val.name t) w = (omega arith, omega arith)
  integers_known p (val.list vs) w = (omega arith, omega arith)

  of_two_known : (p : Operation) (v w : Val) → IsKnown n v → IsKnown n w → KnownAnswer (of_two p v w)
  of_two_known prims.Same v w h g = known_truth (same_values v w)
  of_two_known prims.Item v w h g = item_known v w h
  of_two_known prims.Push v w h g = pushed_known v w h g
  of_two_known prims.Cat v w h g = joined_known v w h g
  of_two_known prims.Add v w h g = integers_known prims.Add v w
  of_two_known prims.Sub v w h g = integers_known prims.Sub v w
  of_two_known prims.Mul v w h g = integers_known prims.Mul v w
  of_two_known prims.Div v w h g = integers_known prims.Div v w
  of_two_known prims.Rem v w h g = integers_known prims.Rem v w
  of_two_known prims.Less v w h g = integers_known prims.Less v w
  of_two_known prims.Not v w h g = integers_known prims.Not v w
  of_two_known prims.Len v w h g = integers_known prims.Len v w

module _ (n behaviours nodes : ℕ) where
  abbrev KnownOutcome : Outcome → Type 0
  KnownOutcome (gives v k rs) = IsKnown n v × AreKnown n rs
  KnownOutcome (stops e) = IsKnownEffect n behaviours nodes e

  -- known replies lead to a known outcome
  abbrev KnownAfter : After → Type 0
  KnownAfter f = (k : ℕ) (rs : List Val) → AreKnown n rs → KnownOutcome (f k rs)

  then_known : (o : Outcome) (f : Val → After) → KnownOutcome o → ((v : Val) → IsKnown n v → KnownAfter (f v)) → KnownOutcome (and_then o f)
  then_known (gives v k rs) f h g = g v h.0 k rs h.1
  then_known (stops e) f h g = h

  begun_known : (k : ℕ) (f : ℕ → Outcome) → ((m : ℕ) → KnownOutcome (f m)) → KnownOutcome (begun k f)
  begun_known k f h = either KnownOutcome (nat_lt k 100000) (f (k + 1)) (stops (eff.trap 6)) (h (k + 1)) (omega arith, omega arith)

  finished_known : (a : Answer) → KnownAnswer n a → KnownAfter (finished a)
  finished_known (Ok v) h k rs r = (h, r)
  finished_known (Err code) h k rs r = h

  asks_known : (e : Eff) → IsKnownEffect n behaviours nodes e → KnownAfter (asks e)
  asks_known e h k [] r = h
  asks_known e h k (v ∷ rs) r = r

  trap_one : KnownOutcome (stops (eff.trap 1))
  trap_one = (omega arith, omega arith)

  sends_known : (v w : Val) → IsKnown n v → IsKnown n w → KnownAfter (sends v w)
  sends_known (val.name t) w h g k rs r = asks_known (eff.send t w) (h.1, g) k rs r
  sends_known val.unit w h g k rs r = trap_one
  sends_known (val.truth b) w h g k rs r = trap_one
  sends_known (val.int z) w h g k rs r = trap_one
  sends_known (val.text t) w h g k rs r = trap_one
  sends_known (val.list vs) w h g k rs r = trap_one

  creates_on_known : (b : ℕ) (o : Option ℕ) (w : Val) → b < behaviours → ((i : ℕ) → o ≡ Some i → i < nodes) → IsKnown n w → KnownAfter (creates_on o b w)
  creates_on_known b None w lt f g k rs r = (omega arith, omega arith)
  creates_on_known b (Some i) w lt f g k rs r = asks_known (eff.new b i w) (lt, f i refl, g) k rs r

  node_below : (z : ℤ) (i : ℕ) → node_at nodes z ≡ Some i → i < nodes
  node_below (pos k) i e = search arith
  node_below (negsuc k) i e = absurd (cc)

  creates_known : (b : ℕ) (v w : Val) → b < behaviours → IsKnown n w → KnownAfter (creates nodes b v w)
  creates_known b (val.int z) w lt g k rs r = creates_on_known b (node_at nodes z) w lt (node_below z) g k rs r
  creates_known b val.unit w lt g k rs r = trap_one
  creates_known b (val.truth t) w lt g k rs r = trap_one
  creates_known b (val.text t) w lt g k rs r = trap_one
  creates_known b (val.name t) w lt g k rs r = trap_one
  creates_known b (val.list vs) w lt g k rs r = trap_one

  chooses_known : (v : Val) (f g : After) → KnownAfter f → KnownAfter g → KnownAfter (chooses v f g)
  chooses_known (val.truth b) f g h l k rs r = either KnownOutcome b (f k rs) (g k rs) (h k rs r) (l k rs r)
  chooses_known val.unit f g h l k rs r = trap_one
  chooses_known (val.int z) f g h l k rs r = trap_one
  chooses_known (val.text t) f g h l k rs r = trap_one
  chooses_known (val.name t) f g h l k rs r = trap_one
  chooses_known (val.list vs) f g h l k rs r = trap_one

  for_each_known : (vs : Vals) (sum : Val) (body : Val → Val → After) → parts_of_all vs ≤ 65536 → levels_of_all vs ≤ 64 → AllNamesBelow n vs → IsKnown n sum
      → ((v w : Val) → IsKnown n v → IsKnown n w → KnownAfter (body v w)) → KnownAfter (for_each vs sum body)
  for_each_known val.none sum body p l b h f k rs r = (h, r)
  for_each_known (val.more v vs) sum body p l b h f k rs r =
      then_known (body sum v k rs) (λ w m ss. for_each vs w body m ss) (f sum v h ((omega arith, omega arith), b.0) k rs r) (λ w g. for_each_known vs w body (omega arith) (omega arith) b.1 g f)

  folds_known : (v first : Val) (body : Val → Val → After) → IsKnown n v → IsKnown n first → ((u w : Val) → IsKnown n u → IsKnown n w → KnownAfter (body u w)) → KnownAfter (folds v first body)
  folds_known (val.list vs) first body h g f k rs r = for_each_known vs first body (omega (arith, h.0.0)) (omega (arith, h.0.1)) h.1 g f k rs r
  folds_known val.unit first body h g f k rs r = trap_one
  folds_known (val.truth b) first body h g f k rs r = trap_one
  folds_known (val.int z) first body h g f k rs r = trap_one
  folds_known (val.text t) first body h g f k rs r = trap_one
  folds_known (val.name t) first body h g f k rs r = trap_one

-- each variable of a scope has a known value
abbrev KnownScope : ℕ → Scope → Type 0
KnownScope n [] = Unit {0}
KnownScope n (b ∷ env) = IsKnown n b.1 × KnownScope n env

scope-append : (n : ℕ) (env others : Scope) → KnownScope n env → KnownScope n others → KnownScope n (env ++ others)
scope-append n [] others h g = g
scope-append n (b ∷ env) others h g = (h.0, scope-append n env others h.1 g)

nearest_known : (n : ℕ) (x : List ℕ) (env : Scope) → KnownScope n env → (v : Val) → nearest x env ≡ Some v → IsKnown n v
nearest_known n x [] h v e = absurd (cc)
nearest_known n x (b ∷ env) h v e = by (nearest_known n x env h.1) (nearest x env) refl where
  this : (t : Bool) → (if t then Some b.1 else None) ≡ Some v → IsKnown n v
  this true f =
      let same : b.1 ≡ v = cc in
      subst (IsKnown n) same h.0
  this false f = absurd (cc)

  by : ((w : Val) → nearest x env ≡ Some w → IsKnown n w) → (o : Option Val) → nearest x env ≡ o → IsKnown n v
  by inner (Some w) f =
      let same : w ≡ v = cc in
      subst (IsKnown n) same (inner w f)
  by inner None f = this (bytes_eq b.0 x) (ap (λ o. option_or o (if bytes_eq b.0 x then Some b.1 else None)) (sym f) ∙ e)

variable_known : (n : ℕ) (o : Option Val) → ((v : Val) → o ≡ Some v → IsKnown n v) → IsKnown n (unwrap_or o val.unit)
variable_known n None h = known_unit n
variable_known n (Some v) h = h v refl

-- what is asked of a body and of its parts
record Keeps (starts behaviours : ℕ) (c : Code) : Type 0 where
  starts_named : Throughout (NamesStart starts) c
  behaviours_named : Throughout (NamesBehaviour behaviours) c
  short_texts : Throughout HasShortText c

record AllKeep (starts behaviours : ℕ) (cs : Codes) : Type 0 where
  starts_named : AllThroughout (NamesStart starts) cs
  behaviours_named : AllThroughout (NamesBehaviour behaviours) cs
  short_texts : AllThroughout HasShortText cs

-- the first of several parts, and the others
front : {starts behaviours : ℕ} {c : Code} {cs : Codes} → AllKeep starts behaviours (more c cs) → Keeps starts behaviours c
front h = record { starts_named = h.starts_named.0; behaviours_named = h.behaviours_named.0; short_texts = h.short_texts.0 }

back : {starts behaviours : ℕ} {c : Code} {cs : Codes} → AllKeep starts behaviours (more c cs) → AllKeep starts behaviours cs
back h = record { starts_named = h.starts_named.1; behaviours_named = h.behaviours_named.1; short_texts = h.short_texts.1 }

module _ (n starts behaviours : ℕ) (s : Setting) (few : starts ≤ n) (own_known : s.own < n) (message_known : IsKnown n s.message) where
  abbrev Holds : After → Type 0
  Holds f = KnownAfter n behaviours s.nodes f

  mutual
    meaning_known : (c : Code) (env : Scope) → Keeps starts behaviours c → KnownScope n env → (k : ℕ) (rs : List Val) → AreKnown n rs → KnownOutcome n behaviours s.nodes (meaning c s env k rs)
    meaning_known unit env h e k rs r = begun_known n behaviours s.nodes k (λ m. gives val.unit m rs) (λ m. (known_unit n, r))
    meaning_known (truth b) env h e k rs r = begun_known n behaviours s.nodes k (λ m. gives (val.truth b) m rs) (λ m. (known_truth n b, r))
    meaning_known (int z) env h e k rs r = begun_known n behaviours s.nodes k (λ m. gives (val.int z) m rs) (λ m. (known_int n z, r))
    meaning_known (text t) env h e k rs r = begun_known n behaviours s.nodes k (λ m. gives (val.text t) m rs) (λ m. ((h.short_texts, tt), r))
    meaning_known msg env h e k rs r = begun_known n behaviours s.nodes k (λ m. gives s.message m rs) (λ m. (message_known, r))
    meaning_known own env h e k rs r = begun_known n behaviours s.nodes k (λ m. gives (val.name s.own) m rs) (λ m. (known_name n s.own own_known, r))
    meaning_known (var x) env h e k rs r =
        begun_known n behaviours s.nodes k (λ m. gives (unwrap_or (nearest x env) val.unit) m rs) (λ m. (variable_known n (nearest x env) (nearest_known n x env e), r))
    meaning_known (start t) env h e k rs r = begun_known n behaviours s.nodes k (λ m. gives (val.name t) m rs) (λ m. (known_name n t (omega (arith, h.starts_named, few)), r))
    meaning_known (list cs) env h e k rs r =
        begun_known n behaviours s.nodes k (λ m. items cs s env [] m rs) (λ m. items_known cs env [] (record { starts_named = h.starts_named.1; behaviours_named = h.behaviours_named.1; short_texts = h.short_texts.1 }) e tt m rs r)
    meaning_known (let_in x c body) env h e k rs r =
        begun_known n behaviours s.nodes k (λ m. and_then (meaning c s env m rs) (λ v l ss. meaning body s (env ++ (x, v) ∷ []) l ss)) (λ m.
        then_known n behaviours s.nodes (meaning c s env m rs) (λ v l ss. meaning body s (env ++ (x, v) ∷ []) l ss) (meaning_known c env (record { starts_named = h.starts_named.1; behaviours_named = h.behaviours_named.1; short_texts = h.short_texts.1 }) e m rs r) (λ v g.
        meaning_known body (env ++ (x, v) ∷ []) (record { starts_named = h.starts_named.2; behaviours_named = h.behaviours_named.2; short_texts = h.short_texts.2 }) (scope-append n env ((x, v) ∷ []) e (g, tt))))
    meaning_known (if_else c a b) env h e k rs r =
        begun_known n behaviours s.nodes k (λ m. and_then (meaning c s env m rs) (λ v. chooses v (meaning a s env) (meaning b s env))) (λ m.
        then_known n behaviours s.nodes (meaning c s env m rs) (λ v. chooses v (meaning a s env) (meaning b s env)) (meaning_known c env (record { starts_named = h.starts_named.1; behaviours_named = h.behaviours_named.1; short_texts = h.short_texts.1 }) e m rs r) (λ v g.
        chooses_known n behaviours s.nodes v (meaning a s env) (meaning b s env)
        (meaning_known a env (record { starts_named = h.starts_named.2; behaviours_named = h.behaviours_named.2; short_texts = h.short_texts.2 }) e)
        (meaning_known b env (record { starts_named = h.starts_named.3; behaviours_named = h.behaviours_named.3; short_texts = h.short_texts.3 }) e)))
    meaning_known (seq cs) env h e k rs r =
        begun_known n behaviours s.nodes k (λ m. last cs s env val.unit m rs) (λ m. last_known cs env val.unit (record { starts_named = h.starts_named.1; behaviours_named = h.behaviours_named.1; short_texts = h.short_texts.1 }) e (known_unit n) m rs r)
    meaning_known (fold l first sum item body) env h e k rs r =
        begun_known n behaviours s.nodes k (λ m. and_then (meaning l s env m rs) (λ v i ss. and_then (meaning first s env i ss) (λ w. folds v w (λ a b. meaning body s (env ++ (sum, a) ∷ (item, b) ∷ []))))) (λ m.
        then_known n behaviours s.nodes (meaning l s env m rs) (λ v i ss. and_then (meaning first s env i ss) (λ w. folds v w (λ a b. meaning body s (env ++ (sum, a) ∷ (item, b) ∷ [])))) (meaning_known l env (record { starts_named = h.starts_named.1; behaviours_named = h.behaviours_named.1; short_texts = h.short_texts.1 }) e m rs r) (λ v g i ss q.
        then_known n behaviours s.nodes (meaning first s env i ss) (λ w. folds v w (λ a b. meaning body s (env ++ (sum, a) ∷ (item, b) ∷ []))) (meaning_known first env (record { starts_named = h.starts_named.2; behaviours_named = h.behaviours_named.2; short_texts = h.short_texts.2 }) e i ss q) (λ w d.
        folds_known n behaviours s.nodes v w (λ a b. meaning body s (env ++ (sum, a) ∷ (item, b) ∷ [])) g d (λ a b f c.
        meaning_known body (env ++ (sum, a) ∷ (item, b) ∷ []) (record { starts_named = h.starts_named.3; behaviours_named = h.behaviours_named.3; short_texts = h.short_texts.3 }) (scope-append n env ((sum, a) ∷ (item, b) ∷ []) e (f, (c, tt)))))))
    meaning_known (apply p cs) env h e k rs r =
        begun_known n behaviours s.nodes k (λ m. operation p cs s env m rs) (λ m. operation_known p cs env (record { starts_named = h.starts_named.1; behaviours_named = h.behaviours_named.1; short_texts = h.short_texts.1 }) e m rs r)
    meaning_known get env h e k rs r = begun_known n behaviours s.nodes k (λ m. asks eff.get m rs) (λ m. asks_known n behaviours s.nodes eff.get tt m rs r)
    meaning_known (set c) env h e k rs r =
        begun_known n behaviours s.nodes k (λ m. and_then (meaning c s env m rs) (λ v. asks (eff.set v))) (λ m.
        then_known n behaviours s.nodes (meaning c s env m rs) (λ v. asks (eff.set v)) (meaning_known c env (record { starts_named = h.starts_named.1; behaviours_named = h.behaviours_named.1; short_texts = h.short_texts.1 }) e m rs r) (λ v g. asks_known n behaviours s.nodes (eff.set v) g))
    meaning_known (send c d) env h e k rs r =
        begun_known n behaviours s.nodes k (λ m. and_then (meaning c s env m rs) (λ w i ss. and_then (meaning d s env i ss) (λ v. sends w v))) (λ m.
        then_known n behaviours s.nodes (meaning c s env m rs) (λ w i ss. and_then (meaning d s env i ss) (λ v. sends w v)) (meaning_known c env (record { starts_named = h.starts_named.1; behaviours_named = h.behaviours_named.1; short_texts = h.short_texts.1 }) e m rs r) (λ w g i ss q.
        then_known n behaviours s.nodes (meaning d s env i ss) (λ v. sends w v) (meaning_known d env (record { starts_named = h.starts_named.2; behaviours_named = h.behaviours_named.2; short_texts = h.short_texts.2 }) e i ss q) (λ v f. sends_known n behaviours s.nodes w v g f)))
    meaning_known (new b c d) env h e k rs r =
        begun_known n behaviours s.nodes k (λ m. and_then (meaning c s env m rs) (λ w i ss. and_then (meaning d s env i ss) (λ v. creates s.nodes b w v))) (λ m.
        then_known n behaviours s.nodes (meaning c s env m rs) (λ w i ss. and_then (meaning d s env i ss) (λ v. creates s.nodes b w v)) (meaning_known c env (record { starts_named = h.starts_named.1; behaviours_named = h.behaviours_named.1; short_texts = h.short_texts.1 }) e m rs r) (λ w g i ss q.
        then_known n behaviours s.nodes (meaning d s env i ss) (λ v. creates s.nodes b w v) (meaning_known d env (record { starts_named = h.starts_named.2; behaviours_named = h.behaviours_named.2; short_texts = h.short_texts.2 }) e i ss q) (λ v f. creates_known n behaviours s.nodes b w v h.behaviours_named.0 f)))
    meaning_known stabilize env h e k rs r = begun_known n behaviours s.nodes k (λ m. asks eff.stabilize m rs) (λ m. asks_known n behaviours s.nodes eff.stabilize tt m rs r)
    meaning_known checkpoint env h e k rs r = begun_known n behaviours s.nodes k (λ m. stops eff.checkpoint) (λ m. tt)
    meaning_known rollback env h e k rs r = begun_known n behaviours s.nodes k (λ m. stops eff.rollback) (λ m. tt)
    meaning_known dependent env h e k rs r = begun_known n behaviours s.nodes k (λ m. asks eff.ask m rs) (λ m. asks_known n behaviours s.nodes eff.ask tt m rs r)

    operation_known : (p : Operation) (cs : Codes) (env : Scope) → AllKeep starts behaviours cs → KnownScope n env → (k : ℕ) (rs : List Val) → AreKnown n rs → KnownOutcome n behaviours s.nodes (operation p cs s env k rs)
    operation_known p none env h e k rs r = trap_one n behaviours s.nodes
    operation_known p (more c none) env h e k rs r =
        then_known n behaviours s.nodes (meaning c s env k rs) (λ v. finished (of_one p v)) (meaning_known c env (front h) e k rs r) (λ v g. finished_known n behaviours s.nodes (of_one p v) (of_one_known n p v g))
    operation_known p (more c (more d none)) env h e k rs r =
        then_known n behaviours s.nodes (meaning c s env k rs) (λ v i ss. and_then (meaning d s env i ss) (λ w. finished (of_two p v w))) (meaning_known c env (front h) e k rs r) (λ v g i ss q.
        then_known n behaviours s.nodes (meaning d s env i ss) (λ w. finished (of_two p v w)) (meaning_known d env (front (back h)) e i ss q) (λ w f. finished_known n behaviours s.nodes (of_two p v w) (of_two_known n p v w g f)))
    operation_known p (more c (more d (more b cs))) env h e k rs r = trap_one n behaviours s.nodes

    items_known : (cs : Codes) (env : Scope) (vs : List Val) → AllKeep starts behaviours cs → KnownScope n env → AllNamesBelow n (inside vs) → (k : ℕ) (rs : List Val) → AreKnown n rs → KnownOutcome n behaviours s.nodes (items cs s env vs k rs)
    items_known none env vs h e a k rs r = finished_known n behaviours s.nodes (bounded (val.list (inside vs))) (bounded_known n (val.list (inside vs)) a) k rs r
    items_known (more c cs) env vs h e a k rs r =
        then_known n behaviours s.nodes (meaning c s env k rs) (λ v. items cs s env (vs ++ v ∷ [])) (meaning_known c env (front h) e k rs r) (λ v g. items_known cs env (vs ++ v ∷ []) (back h) e (names-append n vs (v ∷ []) a (g.1, tt)))

    last_known : (cs : Codes) (env : Scope) (v : Val) → AllKeep starts behaviours cs → KnownScope n env → IsKnown n v → (k : ℕ) (rs : List Val) → AreKnown n rs → KnownOutcome n behaviours s.nodes (last cs s env v k rs)
    last_known none env v h e a k rs r = (a, r)
    last_known (more c cs) env v h e a k rs r =
        then_known n behaviours s.nodes (meaning c s env k rs) (λ w. last cs s env w) (meaning_known c env (front h) e k rs r) (λ w g. last_known cs env w (back h) e g)

effect_known : (n behaviours nodes : ℕ) (o : Outcome) → KnownOutcome n behaviours nodes o → IsKnownEffect n behaviours nodes (effect_of o)
effect_known n behaviours nodes (gives v k rs) h = tt
effect_known n behaviours nodes (stops e) h = h

pub effects_known : EffectsAreKnown
effects_known n starts behaviours body s rs few keeps lt message known =
    effect_known n behaviours s.nodes (meaning body s [] 0 rs) (meaning_known n starts behaviours s few lt message body [] (record { starts_named = keeps.starts_named; behaviours_named = keeps.behaviours_named; short_texts = keeps.short_texts }) tt 0 rs known)
