-- The forms that are written of values are read back as these values.
use Rattle.std.proofs.Common.{◌≡◌, ◌≢◌, ℕ, ◌^◌, ◌<◌, ◌≤◌, ℤ, pos, negsuc, Bool, true, false, nat_le, nat_lt, ◌&&◌, List, [], ◌∷◌, ◌++◌, length, get_or, map, Some, None, option_map, slice_get, All, refl, sym, ap, ap₂, subst, ◌∙◌, arith, codes, not, Result, Ok, Err, IfOk, OnOk, ⊎_elim, max}
use Rattle.std.specs.Fmt.{decimal, signed_decimal}
use Rattle.std.specs.Str.{bytes_eq, all_ascii_digits}
use Rattle.std.specs.List.{list_all, position_or_len}
use Rattle.std.specs.declared.alloc.AllocError.{AllocError}
use Rattle.std.proofs.lemmas.Bool.{ne_eqb, leb-true, le-leb, lt-ltb, ltb-true, and_parts}
use Rattle.std.proofs.lemmas.List.Sums.{position_or_len_is}
use Rattle.std.proofs.lemmas.Fmt.{decimal_nonempty}
use Rattle.std.proofs.lemmas.Option.{slice_get_cases}
use Rattle.std.proofs.lemmas.Str.Parse.{tells_all_ascii_digits}
use Rattle.tau_sexpr.specs.Bytes.{is_word_byte, is_letter_or_digit, is_word_sign, IsWordByte}
use Rattle.tau_sexpr.specs.Tree.{more, inside, depth_of, depth_of_all, HasWords, AllHaveWords}
use Rattle.tau_sexpr.specs.Form.{tree_of}
use Rattle.tau_sexpr.specs.declared.trees.Form.{Form}
use Rattle.tau_sexpr.proofs.Literals.{word_literal}
use Rattle.tau_value.specs.Val as val
use Rattle.tau_value.specs.Val.{Val, Vals}
use Rattle.tau_value.specs.Names.{is_small_letter, is_name_byte, is_reserved, IsName, AreNames, place_of}
use Rattle.tau_value.specs.Numbers.{in_i64, integer_in}
use Rattle.tau_value.specs.Sizes.{levels_of, levels_of_all, IsInBounds, NamesBelow, AllNamesBelow}
use Rattle.tau_value.specs.Meaning.{word_value, number_named, counted, counted_all}
use Rattle.tau_value.specs.Inner.Reading.{scan, scan_all, later_by}
use Rattle.tau_value.specs.Written.{name_written, written, written_all, NumbersFit, AllNumbersFit, ReadsBack}
use Rattle.tau_value.proofs.NameLemmas.{apart_bytes, place_of-at}
use Rattle.tau_value.proofs.NumberLemmas.{decimal_digits, count_in-decimal, integer_in-decimal, pos_fits}
use Rattle.tau_value.proofs.MeaningLemmas.{agrees, Agrees, IsClean}

-- the words of the table are words
pub unit_bytes : All IsWordByte (codes "unit")
unfolding is_word_byte is_letter_or_digit is_word_sign
unit_bytes = word_literal (codes "unit") refl

pub true_bytes : All IsWordByte (codes "true")
unfolding is_word_byte is_letter_or_digit is_word_sign
true_bytes = word_literal (codes "true") refl

pub false_bytes : All IsWordByte (codes "false")
unfolding is_word_byte is_letter_or_digit is_word_sign
false_bytes = word_literal (codes "false") refl

pub name_bytes : All IsWordByte (codes "name")
unfolding is_word_byte is_letter_or_digit is_word_sign
name_bytes = word_literal (codes "name") refl

pub list_bytes : All IsWordByte (codes "list")
unfolding is_word_byte is_letter_or_digit is_word_sign
list_bytes = word_literal (codes "list") refl

-- the forms of the items of a list, one by one
pub written_all-inside : (names : List (List ℕ)) (vs : List Val) → written_all names (val.inside vs) ≡ inside (map (written names) vs)
written_all-inside names [] = refl
written_all-inside names (v ∷ vs) = ap (more (written names v)) (written_all-inside names vs)

pub numbers-push : (vs : List Val) (v : Val) → AllNumbersFit (val.inside vs) → NumbersFit v → AllNumbersFit (val.inside (vs ++ v ∷ []))
numbers-push [] v h k = (k, tt)
numbers-push (u ∷ us) v h k = (h.0, numbers-push us v h.1 k)

-- a number word begins with no letter
digits_first : (ds : List ℕ) → all_ascii_digits ds ≡ true → get_or ds 0 0 ≤ 57
digits_first [] h = omega arith
digits_first (c ∷ cs) h = (tells_all_ascii_digits.parts c cs h).0.1

pub signed_first : (z : ℤ) → in_i64 z ≡ Some z → get_or (signed_decimal z) 0 0 ≤ 57
signed_first (pos n) fits = digits_first (decimal n) (decimal_digits n (pos_fits n fits))
signed_first (negsuc n) fits = omega arith

-- a word that begins with no letter is no constant
word_value-number : (w : List ℕ) → get_or w 0 0 ≤ 57 → word_value w ≡ option_map val.int (integer_in w)
word_value-number [] h = refl
word_value-number (c ∷ cs) h = rw (ne_eqb c 117 (λ e. omega arith), ne_eqb c 116 (λ e. omega arith), ne_eqb c 102 (λ e. omega arith)) refl

-- a name begins with a letter
pub name_first : (w : List ℕ) → IsName w → 97 ≤ get_or w 0 0
name_first w h =
    let all = and_parts (nat_le (length w) 64 && is_small_letter (get_or w 0 0) && list_all is_name_byte w) (not (is_reserved w)) h in
    let begins = and_parts (nat_le (length w) 64 && is_small_letter (get_or w 0 0)) (list_all is_name_byte w) all.0 in
    let letter = and_parts (nat_le (length w) 64) (is_small_letter (get_or w 0 0)) begins.0 in
    leb-true 97 (get_or w 0 0) (and_parts (nat_le 97 (get_or w 0 0)) (nat_le (get_or w 0 0) 122) letter.1).0

not_below : (l : ℕ) → nat_lt l l ≡ false
not_below l = by (nat_lt l l) refl
  where
    by : (b : Bool) → nat_lt l l ≡ b → b ≡ false
    by true e = absurd (omega (arith, ltb-true l l e))
    by false e = refl

-- a count is no start's name
place_of-count : (names : List (List ℕ)) (w : List ℕ) → All IsName names → get_or w 0 0 ≤ 57 → place_of names w ≡ None
place_of-count names w named first =
    let l = length names in
    let none_at : (k : ℕ) → k < l → bytes_eq w (get_or names k []) ≡ false = λ k below. apart_bytes w (get_or names k []) (λ e. omega (arith, name_first (get_or names k []) (named k [] below), ap (λ v. get_or v 0 0) e)) in
    let place : position_or_len (bytes_eq w) names ≡ l = position_or_len_is (bytes_eq w) names l [] (omega arith) none_at (λ h. absurd (omega arith)) in
    rw (place, not_below l) refl

number_written : (names : List (List ℕ)) (bound n : ℕ) → AreNames names → n < 2 ^ 32 → n < bound → number_named names bound (name_written names n) ≡ Some n
number_written names bound n are small below = ⊎_elim start other (slice_get_cases names n).1
  where
    start : (w : List ℕ) × (n < length names) × (slice_get names n ≡ Some w) × (get_or names n w ≡ w) → number_named names bound (name_written names n) ≡ Some n
    start (w, lt, e, is) = rw (e, place_of-at names n w are.distinct lt is) refl

    other : (length names ≤ n) × (slice_get names n ≡ None) → number_named names bound (name_written names n) ≡ Some n
    other (le, e) =
        let fits : n < 2 ^ 64 = omega arith in
        let first = digits_first (decimal n) (decimal_digits n fits) in
        rw (e, place_of-count names (decimal n) are.named first, count_in-decimal n fits, le-leb (length names) n le, lt-ltb n bound below) refl

-- what is written counts as the value, and has no fault
record IsTold (names : List (List ℕ)) (bound : ℕ) (v : Val) : Type 0 where
  counts : counted names bound (written names v) ≡ v
  clean : scan names bound (written names v) ≡ None

record AreTold (names : List (List ℕ)) (bound : ℕ) (vs : Vals) : Type 0 where
  counts : counted_all names bound (written_all names vs) ≡ vs
  clean : scan_all names bound (written_all names vs) ≡ None

told_integer : (names : List (List ℕ)) (bound : ℕ) (z : ℤ) → in_i64 z ≡ Some z → IsTold names bound (val.int z)
told_integer names bound z fits =
    let value : word_value (signed_decimal z) ≡ Some (val.int z) = word_value-number (signed_decimal z) (signed_first z fits) ∙ ap (option_map val.int) (integer_in-decimal z fits) in
    record { counts = rw value refl; clean = rw value refl }

told_name : (names : List (List ℕ)) (bound n : ℕ) → number_named names bound (name_written names n) ≡ Some n → IsTold names bound (val.name n)
told_name names bound n e = record { counts = rw e refl; clean = rw e refl }

module _ (names : List (List ℕ)) (bound : ℕ) (are : AreNames names) where
  mutual
    told : (v : Val) → NamesBelow bound v → NumbersFit v → IsTold names bound v
    told val.unit below fit = record { counts = refl; clean = refl }
    told (val.truth true) below fit = record { counts = refl; clean = refl }
    told (val.truth false) below fit = record { counts = refl; clean = refl }
    told (val.int z) below fit = told_integer names bound z fit
    told (val.text t) below fit = record { counts = refl; clean = refl }
    told (val.name n) below fit = told_name names bound n (number_written names bound n are fit below)
    told (val.list vs) below fit =
        let all = told_all vs below fit in
        record { counts = ap val.list all.counts; clean = ap (option_map (later_by 2)) all.clean }

    told_all : (vs : Vals) → AllNamesBelow bound vs → AllNumbersFit vs → AreTold names bound vs
    told_all val.none below fit = record { counts = refl; clean = refl }
    told_all (val.more v vs) below fit =
        let one = told v below.0 fit.0 in
        let rest = told_all vs below.1 fit.1 in
        record { counts = ap₂ val.more one.counts rest.counts; clean = rw (one.clean, rest.clean) refl }

pub reads_back : (names : List (List ℕ)) (v : Val) → AreNames names → NumbersFit v → ReadsBack names v (written names v)
reads_back names v are fit bound within below =
    let all = told names bound are v below fit in
    let t = written names v in
    let counted_within : IsInBounds (counted names bound t) = subst IsInBounds (sym all.counts) within in
    let found : IsClean names bound t = subst (Agrees names bound t) all.clean (agrees names bound t counted_within) in
    record { value = all.counts; faultless = found.faultless }

-- the form is as deep as the value has levels
mutual
  depth_of-written : (names : List (List ℕ)) (v : Val) → depth_of (written names v) ≡ levels_of v
  depth_of-written names val.unit = refl
  depth_of-written names (val.truth b) = refl
  depth_of-written names (val.int z) = refl
  depth_of-written names (val.text t) = refl
  depth_of-written names (val.name n) = refl
  depth_of-written names (val.list vs) = omega (arith, depth_of_all-written names vs)

  depth_of_all-written : (names : List (List ℕ)) (vs : Vals) → depth_of_all (written_all names vs) ≡ levels_of_all vs
  depth_of_all-written names val.none = refl
  depth_of_all-written names (val.more v vs) = ap₂ max (depth_of-written names v) (depth_of_all-written names vs)

-- no word of the form is empty
nonempty : (w : List ℕ) → 0 < length w → w ≢ []
nonempty [] h e = omega arith
nonempty (c ∷ cs) h e = cc

pub decimal_filled : (n : ℕ) → n < 2 ^ 64 → decimal n ≢ []
decimal_filled n small = nonempty (decimal n) (decimal_nonempty n small)

pub name_nonempty : (w : List ℕ) → IsName w → w ≢ []
name_nonempty w named e = omega (arith, name_first w named, ap (λ v. get_or v 0 0) e)

pub number_nonempty : (names : List (List ℕ)) (n : ℕ) → AreNames names → n < 2 ^ 64 → name_written names n ≢ []
number_nonempty names n are fits = ⊎_elim start other (slice_get_cases names n).1
  where
    start : (w : List ℕ) × (n < length names) × (slice_get names n ≡ Some w) × (get_or names n w ≡ w) → name_written names n ≢ []
    start (w, lt, e, is) = let named : IsName w = subst IsName is (are.named n w lt) in rw e (name_nonempty w named)

    other : (length names ≤ n) × (slice_get names n ≡ None) → name_written names n ≢ []
    other (le, e) = rw e (decimal_filled n fits)

pub signed_nonempty : (z : ℤ) → in_i64 z ≡ Some z → signed_decimal z ≢ []
signed_nonempty (pos n) fits = decimal_filled n (pos_fits n fits)
signed_nonempty (negsuc n) fits = λ e. cc

module _ (names : List (List ℕ)) (are : AreNames names) where
  mutual
    has_words : (v : Val) → NumbersFit v → HasWords (written names v)
    has_words val.unit fit = λ e. cc
    has_words (val.truth true) fit = λ e. cc
    has_words (val.truth false) fit = λ e. cc
    has_words (val.int z) fit = signed_nonempty z fit
    has_words (val.text t) fit = tt
    has_words (val.name n) fit = let small : n < 2 ^ 32 = fit in (λ e. cc, (number_nonempty names n are (omega arith), tt))
    has_words (val.list vs) fit = (λ e. cc, all_have_words vs fit)

    all_have_words : (vs : Vals) → AllNumbersFit vs → AllHaveWords (written_all names vs)
    all_have_words val.none fit = tt
    all_have_words (val.more v vs) fit = (has_words v fit.0, all_have_words vs fit.1)

-- what a writer of forms gives is read back, and can be printed
module _ (names : List (List ℕ)) (v : Val) where
  pub read_back_from : (r : Result Form AllocError) → AreNames names → IfOk r (λ f. tree_of f ≡ written names v) → OnOk r (NumbersFit v) → IfOk r (λ f. ReadsBack names v (tree_of f))
  read_back_from (Ok f) are form fit = subst (ReadsBack names v) (sym form) (reads_back names v are fit)
  read_back_from (Err e) are form fit = tt

  pub depth_from : (r : Result Form AllocError) → IfOk r (λ f. tree_of f ≡ written names v) → IfOk r (λ f. depth_of (tree_of f) ≡ levels_of v)
  depth_from (Ok f) form = ap depth_of form ∙ depth_of-written names v
  depth_from (Err e) form = tt

  pub words_from : (r : Result Form AllocError) → AreNames names → IfOk r (λ f. tree_of f ≡ written names v) → OnOk r (NumbersFit v) → IfOk r (λ f. HasWords (tree_of f))
  words_from (Ok f) are form fit = subst HasWords (sym form) (has_words names are v fit)
  words_from (Err e) are form fit = tt
