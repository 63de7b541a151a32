-- The bounds of what a program's forms define, and what the reader tells of them.
use Rattle.std.proofs.Common.{◌≡◌, ℕ, ◌+◌, ◌≤◌, Bool, true, false, cond, ◌&&◌, nat_le, nat_lt, List, [], ◌∷◌, ◌++◌, length, filter, Option, Some, None, unwrap_or, Result, Ok, Err, refl, sym, subst, ◌∙◌, arith}
use Rattle.std.specs.Option.{option_or, option_map_or}
use Rattle.std.specs.Result.{IfErr}
use Rattle.std.proofs.lemmas.Bool.{ltb-true, ltb-false}
use Rattle.std.proofs.lemmas.List.{length_push}
use Rattle.tau_sexpr.specs.Tree.{Tree, word, list, none, more}
use Rattle.tau_value.specs.Numbers.{count_in}
use Rattle.tau_tree.specs.declared.programs.Program.{Program}
use Rattle.tau_forms.specs.declared.faults.ProgramError.{ProgramError}
use Rattle.tau_forms.specs.declared.faults.ProgramError.TheVariants as errors
use Rattle.tau_forms.specs.declared.keywords.Sort.{Sort}
use Rattle.tau_forms.specs.declared.tables.Tables.{Tables}
use Rattle.tau_forms.specs.Faults.{shape, unknown, twice, ProgramFaultAt, IsFirst, IsFault}
use Rattle.tau_forms.specs.Keywords.{sort_in}
use Rattle.tau_forms.specs.Meaning.{Means, plain_of, program_in}
use Rattle.tau_forms.specs.Inner.Passing.{TellsFault, AreAdmitted}
use Rattle.tau_forms.specs.Tops.{sort_of, is_nodes, is_behaviour, is_start, is_post, is_entry, has, name_in, named_by, with_name, defined_after, starts_of, nodes_in, nodes_of, count_of, limit_of}

-- there are at most 64 nodes
in_range : (b : Bool) (o : Option ℕ) → unwrap_or (cond (b && option_map_or (λ n. nat_le 1 n && nat_lt n 65) o false) o None) 64 ≤ 64
in_range true None = omega arith
in_range true (Some n) = by (nat_le 1 n) (nat_lt n 65) refl
  where
    by : (c d : Bool) → nat_lt n 65 ≡ d → unwrap_or (cond (c && d) (Some n) None) 64 ≤ 64
    by true true e = omega (arith, ltb-true n 65 e)
    by true false e = omega arith
    by false d e = omega arith
in_range false None = omega arith
in_range false (Some n) = omega arith

nodes_in_le : (t : Tree) → unwrap_or (nodes_in t) 64 ≤ 64
nodes_in_le (list (more (word h) (more (word k) none))) = in_range (is_nodes (sort_in h)) (count_in k)
nodes_in_le t = omega arith

pub nodes_le : (ts : List Tree) → unwrap_or (nodes_of ts) 64 ≤ 64
nodes_le [] = omega arith
nodes_le (t ∷ ts) = by (nodes_in t) (nodes_in_le t) (nodes_le ts)
  where
    by : (o : Option ℕ) → unwrap_or o 64 ≤ 64 → unwrap_or (nodes_of ts) 64 ≤ 64 → unwrap_or (option_or o (nodes_of ts)) 64 ≤ 64
    by None h k = k
    by (Some n) h k = h

-- there are at most as many names as lists that define one
with_name_le : (ws : List (List ℕ)) (o : Option (List ℕ)) → length (with_name ws o) ≤ length ws + 1
with_name_le ws None = omega arith
with_name_le ws (Some w) = by (has ws w)
  where
    by : (b : Bool) → length (cond b ws (ws ++ w ∷ [])) ≤ length ws + 1
    by true = omega arith
    by false = omega (arith, length_push ws w)

named_if : (ws : List (List ℕ)) (b : Bool) (o : Option (List ℕ)) → length (with_name ws (cond b o None)) ≤ length ws + cond b 1 0
named_if ws true o = with_name_le ws o
named_if ws false o = omega arith

same_if : (n : ℕ) (b : Bool) → n ≤ n + cond b 1 0
same_if n true = omega arith
same_if n false = omega arith

named_le : (is : Sort → Bool) (ws : List (List ℕ)) (t : Tree) → length (with_name ws (named_by is t)) ≤ length ws + cond (is (sort_of t)) 1 0
named_le is ws (list (more (word h) (more (word w) ts))) = named_if ws (is (sort_in h)) (name_in w)
named_le is ws t = same_if (length ws) (is (sort_of t))

count_cons : (is : Sort → Bool) (t : Tree) (ts : List Tree) → count_of is (t ∷ ts) ≡ cond (is (sort_of t)) 1 0 + count_of is ts
count_cons is t ts = by (is (sort_of t)) (filter (λ u. is (sort_of u)) ts)
  where
    by : (b : Bool) (us : List Tree) → length (cond b (t ∷ us) us) ≡ cond b 1 0 + length us
    by true us = omega arith
    by false us = omega arith

pub defined_le : (is : Sort → Bool) (ws : List (List ℕ)) (ts : List Tree) → length (defined_after is ws ts) ≤ length ws + count_of is ts
defined_le is ws [] = omega arith
defined_le is ws (t ∷ ts) =
    let rest = defined_le is (with_name ws (named_by is t)) ts in
    let one = named_le is ws t in
    let both = count_cons is t ts in
    omega (arith, rest, one, both)

starts_few : (a b c d : Bool) (n : ℕ) → nat_lt 1024 n ≡ b → cond {A = Option ℕ} a (Some 1) (cond {A = Option ℕ} b (Some 2) (cond {A = Option ℕ} c (Some 3) (cond {A = Option ℕ} d (Some 4) None))) ≡ None → n ≤ 1024
starts_few true b c d n e h = absurd (cc)
starts_few false true c d n e h = absurd (cc)
starts_few false false c d n e h = omega (arith, ltb-false 1024 n e)

pub starts_le : (ts : List Tree) → limit_of ts ≡ None → length (starts_of ts) ≤ 1024
starts_le ts h = omega (arith, defined_le is_start [] ts, starts_few (nat_lt 256 (count_of is_behaviour ts)) (nat_lt 1024 (count_of is_start ts)) (nat_lt 4096 (count_of is_post ts)) (nat_lt 4096 (count_of is_entry ts)) (count_of is_start ts) refl h)

-- what the reader tells of forms
pub means_admitted : (ts : List Tree) (tb : Tables) (p : Program) → AreAdmitted ts tb → plain_of p ≡ program_in ts → Means ts p
means_admitted ts tb p a is = record { limits = a.limits; faultless = a.faultless; is = is }

pub nodes_admitted : (ts : List Tree) (tb : Tables) → AreAdmitted ts tb → tb.nodes ≤ 64
nodes_admitted ts tb a = subst (λ t. t.nodes ≤ 64) (sym a.tables) (nodes_le ts)

pub starts_admitted : (ts : List Tree) (tb : Tables) → AreAdmitted ts tb → length tb.starts ≤ 1024
starts_admitted ts tb a = subst (λ t. length t.starts ≤ 1024) (sym a.tables) (starts_le ts a.limits)

-- the checks tell the fault of forms that keep the limits
pub told : (ts : List Tree) (e : ProgramError) → limit_of ts ≡ None → TellsFault (ProgramFaultAt ts) 0 e → IsFault ts e
told ts (errors.Shape n) limits h = let z : h.0 ≡ n = omega (arith, h.1) in (limits, subst (λ k. IsFirst (ProgramFaultAt ts) k shape) z h.2)
told ts (errors.Unknown n) limits h = let z : h.0 ≡ n = omega (arith, h.1) in (limits, subst (λ k. IsFirst (ProgramFaultAt ts) k unknown) z h.2)
told ts (errors.Twice n) limits h = let z : h.0 ≡ n = omega (arith, h.1) in (limits, subst (λ k. IsFirst (ProgramFaultAt ts) k twice) z h.2)
told ts (errors.Limit n) limits h = elim h [ ]
told ts errors.NoMemory limits h = tt

-- forms that mean a program have no fault
pub none_faulty : (ts : List Tree) (p : Program) (r : Result Program ProgramError) → Means ts p → IfErr r (IsFault ts) → IfErr r (λ e. e ≡ errors.NoMemory)
none_faulty ts p (Ok q) means h = tt
none_faulty ts p (Err (errors.Shape n)) means h = absurd (means.faultless n shape h.1.fault)
none_faulty ts p (Err (errors.Unknown n)) means h = absurd (means.faultless n unknown h.1.fault)
none_faulty ts p (Err (errors.Twice n)) means h = absurd (means.faultless n twice h.1.fault)
none_faulty ts p (Err (errors.Limit n)) means h = let is : Some n ≡ None = sym h ∙ means.limits in absurd (cc)
none_faulty ts p (Err errors.NoMemory) means h = refl
