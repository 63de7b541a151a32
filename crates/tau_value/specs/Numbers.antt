-- Number words: what decimal digits mean.
use Rattle.std.specs.Prelude.{ℕ, zero, suc, ◌+◌, ◌-◌, ◌*◌, ◌^◌, ℤ, pos, negsuc, Bool, false, ◌==◌, nat_lt, List, [], ◌∷◌, length, min, Option, Some, None, option_map, option_and_then, if◌then◌else◌}
use Rattle.std.specs.Str.{all_ascii_digits}

-- the number that decimal digits mean, after a number that the digits before them mean
abbrev pub number_after : ℕ → List ℕ → ℕ
number_after n [] = n
number_after n (d ∷ ds) = number_after (10 * n + (d - 48)) ds

-- a count: `0`, or digits of which the first isn't 0
abbrev pub is_count : List ℕ → Bool
is_count [] = false
is_count (c ∷ cs) = if c == 48 then length cs == 0 else all_ascii_digits (c ∷ cs)

-- the number of a count
abbrev pub count_in : List ℕ → Option ℕ
count_in w = if is_count w then Some (number_after 0 w) else None

-- minus a number other than 0
abbrev pub negated : ℕ → Option ℤ
negated zero = None
negated (suc n) = Some (negsuc n)

-- the integer of a number word: a count, or `-` before a count other than 0
abbrev pub number_in : List ℕ → Option ℤ
number_in [] = None
number_in (c ∷ cs) = if c == 45 then option_and_then negated (count_in cs) else option_map pos (count_in (c ∷ cs))

-- the integer, if it is in the range of i64
abbrev pub in_i64 : ℤ → Option ℤ
in_i64 (pos n) = if nat_lt n (2 ^ 63) then Some (pos n) else None
in_i64 (negsuc n) = if nat_lt n (2 ^ 63) then Some (negsuc n) else None

-- the integer of a number word in the range of i64
abbrev pub integer_in : List ℕ → Option ℤ
integer_in w = option_and_then in_i64 (number_in w)

-- a count as it is answered in 64 bits: u64's last value where it is greater
abbrev pub capped : ℕ → ℕ
capped n = min n (2 ^ 64 - 1)
