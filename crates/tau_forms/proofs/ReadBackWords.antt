-- The words that names and numbers are printed as.
use Rattle.std.proofs.Common.{◌≡◌, ◌≢◌, ℕ, ◌^◌, ◌<◌, ◌≤◌, ℤ, Bool, true, false, cond, ◌&&◌, ◌||◌, not, nat_le, nat_lt, List, [], ◌∷◌, length, get_or, Option, Some, None, is_some, unwrap_or, slice_get, refl, ap, subst, ◌∙◌, ⊎_elim, arith, codes}
use Rattle.std.specs.Fmt.{decimal, signed_decimal}
use Rattle.std.specs.List.{list_all}
use Rattle.std.specs.Option.{option_map_or}
use Rattle.std.specs.Str.{bytes_eq, all_ascii_digits}
use Rattle.std.proofs.lemmas.Bool.{ne_eqb, le-leb, lt-ltb, and_parts, and_from, or_parts, or_right, not-true}
use Rattle.std.proofs.lemmas.Option.{slice_get_cases}
use Rattle.std.proofs.lemmas.Str.Parse.{tells_all_ascii_digits}
use Rattle.tau_value.specs.Names.{is_small_letter, is_name_byte, is_reserved, IsName, AreNames}
use Rattle.tau_value.specs.Numbers.{in_i64, integer_in}
use Rattle.tau_value.proofs.NameLemmas.{place_of-at}
use Rattle.tau_value.proofs.NumberLemmas.{count_in-decimal, integer_in-decimal}
use Rattle.tau_value.proofs.WrittenLemmas.{name_first, signed_first, name_nonempty}
use Rattle.tau_tree.specs.Code.{unit, truth, int, msg, own, var}
use Rattle.tau_forms.specs.Tops.{has, is_count_in}
use Rattle.tau_forms.specs.Faults.{is_constant}
use Rattle.tau_forms.specs.Meaning.{number_of, count_of, word_code}
use Rattle.tau_forms.proofs.SoundNames.{has_at}

-- what a name is made of
record NameParts (w : List ℕ) : Type 0 where
  first : 97 ≤ get_or w 0 0
  free : is_reserved w ≡ false

name_parts : (w : List ℕ) → IsName w → NameParts w
name_parts w h =
    let all = and_parts (nat_le (length w) 64 && is_small_letter (get_or w 0 0) && list_all is_name_byte w) (not (is_reserved w)) h in
    record { first = name_first w h; free = not-true (is_reserved w) all.1 }

-- a name is no number
letters : (c : ℕ) (cs : List ℕ) → 97 ≤ c → all_ascii_digits (c ∷ cs) ≡ false
letters c cs low = by (all_ascii_digits (c ∷ cs)) refl
  where
    by : (b : Bool) → all_ascii_digits (c ∷ cs) ≡ b → b ≡ false
    by true e = absurd (omega (arith, (tells_all_ascii_digits.parts c cs e).0.1))
    by false e = refl

integer_in-name : (w : List ℕ) → 97 ≤ get_or w 0 0 → integer_in w ≡ None
integer_in-name [] low = absurd (omega arith)
integer_in-name (c ∷ cs) low =
    rw (ne_eqb c 45 (λ e. omega arith), ne_eqb c 48 (λ e. omega arith), letters c cs low) refl

-- a name is no reserved word
record IsFree (w : List ℕ) : Type 0 where
  no_unit : bytes_eq w (codes "unit") ≡ false
  no_true : bytes_eq w (codes "true") ≡ false
  no_false : bytes_eq w (codes "false") ≡ false
  no_msg : bytes_eq w (codes "msg") ≡ false
  no_self : bytes_eq w (codes "self") ≡ false

free_from : (w : List ℕ) → is_reserved w ≡ false → IsFree w
free_from w h =
    let a = or_parts (bytes_eq w (codes "unit")) (bytes_eq w (codes "true") || (bytes_eq w (codes "false") || (bytes_eq w (codes "msg") || (bytes_eq w (codes "self") || false)))) h in
    let b = or_parts (bytes_eq w (codes "true")) (bytes_eq w (codes "false") || (bytes_eq w (codes "msg") || (bytes_eq w (codes "self") || false))) a.1 in
    let c = or_parts (bytes_eq w (codes "false")) (bytes_eq w (codes "msg") || (bytes_eq w (codes "self") || false)) b.1 in
    let d = or_parts (bytes_eq w (codes "msg")) (bytes_eq w (codes "self") || false) c.1 in
    let e = or_parts (bytes_eq w (codes "self")) false d.1 in
    record { no_unit = a.0; no_true = b.0; no_false = c.0; no_msg = d.0; no_self = e.0 }

-- a word that is a variable
code_by : (w : List ℕ) (a b c d e : Bool) (o : Option ℤ) → a ≡ false → b ≡ false → c ≡ false → d ≡ false → e ≡ false → cond a unit (cond b (truth true) (cond c (truth false) (cond d msg (cond e own (option_map_or int o (var w)))))) ≡ option_map_or int o (var w)
code_by w a b c d e o ea eb ec ed ee = rw (ea, eb, ec, ed, ee) refl

pub word_code-name : (w : List ℕ) → IsName w → word_code w ≡ var w
word_code-name w named =
    let parts = name_parts w named in
    let free = free_from w parts.free in
    code_by w (bytes_eq w (codes "unit")) (bytes_eq w (codes "true")) (bytes_eq w (codes "false")) (bytes_eq w (codes "msg")) (bytes_eq w (codes "self")) (integer_in w) free.no_unit free.no_true free.no_false free.no_msg free.no_self ∙ ap (λ o. option_map_or int o (var w)) (integer_in-name w parts.first)

-- a word that is a number
word_code-number : (w : List ℕ) → get_or w 0 0 ≤ 57 → word_code w ≡ option_map_or int (integer_in w) (var w)
word_code-number [] h = refl
word_code-number (c ∷ cs) h =
    rw (ne_eqb c 117 (λ e. omega arith), ne_eqb c 116 (λ e. omega arith), ne_eqb c 102 (λ e. omega arith), ne_eqb c 109 (λ e. omega arith), ne_eqb c 115 (λ e. omega arith)) refl

pub word_code-integer : (z : ℤ) → in_i64 z ≡ Some z → word_code (signed_decimal z) ≡ int z
word_code-integer z fits =
    word_code-number (signed_decimal z) (signed_first z fits) ∙ ap (λ o. option_map_or int o (var (signed_decimal z))) (integer_in-decimal z fits)

pub is_constant-integer : (z : ℤ) → in_i64 z ≡ Some z → is_constant (signed_decimal z) ≡ true
is_constant-integer z fits =
    let w = signed_decimal z in
    or_right (bytes_eq w (codes "unit") || bytes_eq w (codes "true") || bytes_eq w (codes "false") || bytes_eq w (codes "msg") || bytes_eq w (codes "self")) (is_some (integer_in w)) (ap is_some (integer_in-decimal z fits))

-- a count
pub count_of-decimal : (n : ℕ) → n < 2 ^ 64 → count_of (decimal n) ≡ n
count_of-decimal n small = ap (λ o. unwrap_or o 0) (count_in-decimal n small)

pub is_count_in-decimal : (low end n : ℕ) → low ≤ n → n < end → n < 2 ^ 64 → is_count_in low end (decimal n) ≡ true
is_count_in-decimal low end n le lt small =
    ap (λ o. option_map_or (λ k. nat_le low k && nat_lt k end) o false) (count_in-decimal n small) ∙ and_from (nat_le low n) (nat_lt n end) (le-leb low n le) (lt-ltb n end lt)

-- the name with a number
pub record IsNameAt (names : List (List ℕ)) (n : ℕ) : Type 0 where
  pub name : List ℕ
  pub is : unwrap_or (slice_get names n) [] ≡ name
  pub named : IsName name
  pub has : has names name ≡ true
  pub number : number_of names name ≡ n

pub name_at : (names : List (List ℕ)) (n : ℕ) → AreNames names → n < length names → IsNameAt names n
name_at names n are lt = ⊎_elim start other (slice_get_cases names n).1
  where
    start : (w : List ℕ) × (n < length names) × (slice_get names n ≡ Some w) × (get_or names n w ≡ w) → IsNameAt names n
    start (w, below, e, is) = record {
      name = w;
      is = ap (λ o. unwrap_or o []) e;
      named = subst IsName is (are.named n w below);
      has = has_at names w n w below is;
      number = ap (λ o. unwrap_or o 0) (place_of-at names n w are.distinct below is);
    }

    other : (length names ≤ n) × (slice_get names n ≡ None) → IsNameAt names n
    other (le, e) = absurd (omega arith)

pub name_filled : (names : List (List ℕ)) (n : ℕ) → IsNameAt names n → unwrap_or (slice_get names n) [] ≢ []
name_filled names n w = rw w.is (name_nonempty w.name w.named)
