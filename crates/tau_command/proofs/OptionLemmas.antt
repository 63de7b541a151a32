-- The numbers of options lie in their ranges.
use Rattle.std.proofs.Common.{◌≡◌, ◌≢◌, ◌∙◌, ◌&&◌, ◌<◌, ◌≤◌, ◌^◌, ap, refl, sym, subst, inl, inr, ℕ, Bool, true, false, cond, List, [], Option, Some, None, codes, lit<}
use Rattle.std.specs.Prelude.{nat_lt, option_and_then, pos}
use Rattle.std.specs.Str.Parse.{ParsesUnsigned, digits_value, without_leading_plus}
use Rattle.clap.specs.Kinds.{Kinds, value_kinds}
use Rattle.clap.specs.Lexer.{without_minus}
use Rattle.clap.specs.ValueTests.{accepts, is_numeral}
use Rattle.clap.specs.Values.{IsSignedIn}
use Rattle.clap.specs.Simple.{built}
use Rattle.clap.specs.Words.{ReadsOne, Text, fault_of, matches_of, one_of}
use Rattle.clap.specs.declared.builder.value_parser.ValueParser.TheVariants.{Signed}
use Rattle.clap.proofs.CallerReads.{signed_reads}
use Rattle.clap.proofs.OnLiterals.{clap_on_literals}
use Rattle.clap.proofs.ValueTestLemmas.{accepts-Accepts}
use Rattle.tau_command.specs.Arguments.{tau_command}
use Rattle.tau_command.specs.Numbers.{number_in, number_of}
use Rattle.tau_command.proofs.NumberLemmas.{passed, passes}
use Rattle.tau_command.proofs.PassingLemmas.{AllOwn, RowsPass, matches_pass, one_read}

-- each argument is the one of its id, and is set; but help asks for help
all_own : AllOwn (built tau_command).top.rules (built tau_command).top.rules
unfolding clap_on_literals tau_command
all_own = ((refl, inl refl), ((refl, inl refl), ((refl, inl refl), ((refl, inl refl), ((refl, inl refl), ((refl, inl refl), ((refl, inl refl), ((refl, inl refl), ((refl, inl refl), ((refl, inl refl), ((refl, inl refl), ((refl, inl refl), ((refl, inl refl), ((refl, inl refl), ((refl, inl refl), ((refl, inr refl), tt))))))))))))))))

-- what is found for the arguments passes
rows_pass : (words : List Text) → fault_of tau_command words ≡ [] → RowsPass (built tau_command).top.rules (matches_of tau_command words)
rows_pass words e = matches_pass tau_command words all_own e

-- a number is read from a text as `parse` reads it
reads_one : (bits : ℕ) (text : Text) → ReadsOne {E = Unit {0}} (λ u r. ParsesUnsigned bits 10 u r) text (number_in bits text)
reads_one bits text = go (is_numeral (without_leading_plus text) && nat_lt (digits_value 10 (without_leading_plus text)) (2 ^ bits)) refl
  where
    go : (b : Bool) → (is_numeral (without_leading_plus text) && nat_lt (digits_value 10 (without_leading_plus text)) (2 ^ bits)) ≡ b
        → ReadsOne {E = Unit {0}} (λ u r. ParsesUnsigned bits 10 u r) text (cond b (Some (digits_value 10 (without_leading_plus text))) None)
    go true e = (passed (2 ^ bits) (without_leading_plus text) e, refl)
    go false e = (tt, λ p. let yes = passes (2 ^ bits) (without_leading_plus text) p.0 p.1 in absurd (cc))

-- a text that has no fault is accepted
accepted : (b : Bool) (kinds : Kinds) → cond b [] kinds ≡ [] → kinds ≢ [] → b ≡ true
accepted true kinds e some = refl
accepted false kinds e some = absurd (some e)

-- the number of a text that passed lies in the range of the parser
number_in_range : (bits low high : ℕ) (i : Bool) (written : Text) (n : ℕ) → high < 2 ^ bits → value_kinds i (Signed (pos low) (pos high)) written ≡ [] → number_in bits (without_minus written) ≡ Some n
    → (low ≤ n) × (n ≤ high)
number_in_range bits low high i written n fits passes e =
    let text_accepted : accepts i (Signed (pos low) (pos high)) written ≡ true = accepted (accepts i (Signed (pos low) (pos high)) written) _ passes (λ none. cc) in
    let is_in : IsSignedIn (pos low) (pos high) written = accepts-Accepts i (Signed (pos low) (pos high)) written text_accepted in
    let read = signed_reads (Unit {0}) (λ u r. ParsesUnsigned bits 10 u r) bits low high written (number_in bits (without_minus written)) (reads_one bits (without_minus written)) (λ u x h. h) fits is_in in
    let some : Some read.0 ≡ Some n = sym read.1 ∙ e in
    let same : read.0 ≡ n = cc in
    (subst (λ m. low ≤ m) same read.2, subst (λ m. m ≤ high) same read.3)

-- the number of an option of the matches
some_number : (bits low high : ℕ) (i : Bool) (text : Option Text) (n : ℕ) → high < 2 ^ bits
    → ((t : Text) → text ≡ Some t → (w : Text) × (value_kinds i (Signed (pos low) (pos high)) w ≡ []) × (t ≡ without_minus w)) → option_and_then (number_in bits) text ≡ Some n → (low ≤ n) × (n ≤ high)
some_number bits low high i None n fits read e = absurd (cc)
some_number bits low high i (Some t) n fits read e =
    let r = read t refl in
    number_in_range bits low high i r.0 n fits r.1 (ap (number_in bits) (sym r.2) ∙ e)

pub workers_in_range : (words : List Text) (n : ℕ) → fault_of tau_command words ≡ [] → number_of 32 (codes "workers") (matches_of tau_command words) ≡ Some n → (1 ≤ n) × (n ≤ 32)
unfolding clap_on_literals tau_command
workers_in_range words n none e =
    some_number 32 1 32 false (one_of (codes "workers") (matches_of tau_command words)) n (lit< tt)
    (λ t found. let r = one_read (built tau_command).top.rules (codes "workers") (matches_of tau_command words) _ t (rows_pass words none) refl found in (r.written, r.passes, r.is)) e

pub jobs_in_range : (words : List Text) (n : ℕ) → fault_of tau_command words ≡ [] → number_of 32 (codes "jobs") (matches_of tau_command words) ≡ Some n → (1 ≤ n) × (n ≤ 16)
unfolding clap_on_literals tau_command
jobs_in_range words n none e =
    some_number 32 1 16 false (one_of (codes "jobs") (matches_of tau_command words)) n (lit< tt)
    (λ t found. let r = one_read (built tau_command).top.rules (codes "jobs") (matches_of tau_command words) _ t (rows_pass words none) refl found in (r.written, r.passes, r.is)) e

pub steps_in_range : (words : List Text) (n : ℕ) → fault_of tau_command words ≡ [] → number_of 32 (codes "steps") (matches_of tau_command words) ≡ Some n → (0 ≤ n) × (n ≤ 200000)
unfolding clap_on_literals tau_command
steps_in_range words n none e =
    some_number 32 0 200000 false (one_of (codes "steps") (matches_of tau_command words)) n (lit< tt)
    (λ t found. let r = one_read (built tau_command).top.rules (codes "steps") (matches_of tau_command words) _ t (rows_pass words none) refl found in (r.written, r.passes, r.is)) e

pub seeds_in_range : (words : List Text) (n : ℕ) → fault_of tau_command words ≡ [] → number_of 32 (codes "seeds") (matches_of tau_command words) ≡ Some n → (1 ≤ n) × (n ≤ 1000000000)
unfolding clap_on_literals tau_command
seeds_in_range words n none e =
    some_number 32 1 1000000000 false (one_of (codes "seeds") (matches_of tau_command words)) n (lit< tt)
    (λ t found. let r = one_read (built tau_command).top.rules (codes "seeds") (matches_of tau_command words) _ t (rows_pass words none) refl found in (r.written, r.passes, r.is)) e

pub fails_in_range : (words : List Text) (n : ℕ) → fault_of tau_command words ≡ [] → number_of 32 (codes "fails") (matches_of tau_command words) ≡ Some n → (0 ≤ n) × (n ≤ 16)
unfolding clap_on_literals tau_command
fails_in_range words n none e =
    some_number 32 0 16 false (one_of (codes "fails") (matches_of tau_command words)) n (lit< tt)
    (λ t found. let r = one_read (built tau_command).top.rules (codes "fails") (matches_of tau_command words) _ t (rows_pass words none) refl found in (r.written, r.passes, r.is)) e

pub losses_in_range : (words : List Text) (n : ℕ) → fault_of tau_command words ≡ [] → number_of 32 (codes "losses") (matches_of tau_command words) ≡ Some n → (0 ≤ n) × (n ≤ 16)
unfolding clap_on_literals tau_command
losses_in_range words n none e =
    some_number 32 0 16 false (one_of (codes "losses") (matches_of tau_command words)) n (lit< tt)
    (λ t found. let r = one_read (built tau_command).top.rules (codes "losses") (matches_of tau_command words) _ t (rows_pass words none) refl found in (r.written, r.passes, r.is)) e

pub repeats_in_range : (words : List Text) (n : ℕ) → fault_of tau_command words ≡ [] → number_of 32 (codes "repeats") (matches_of tau_command words) ≡ Some n → (0 ≤ n) × (n ≤ 16)
unfolding clap_on_literals tau_command
repeats_in_range words n none e =
    some_number 32 0 16 false (one_of (codes "repeats") (matches_of tau_command words)) n (lit< tt)
    (λ t found. let r = one_read (built tau_command).top.rules (codes "repeats") (matches_of tau_command words) _ t (rows_pass words none) refl found in (r.written, r.passes, r.is)) e

pub every_in_range : (words : List Text) (n : ℕ) → fault_of tau_command words ≡ [] → number_of 32 (codes "every") (matches_of tau_command words) ≡ Some n → (1 ≤ n) × (n ≤ 200000)
unfolding clap_on_literals tau_command
every_in_range words n none e =
    some_number 32 1 200000 false (one_of (codes "every") (matches_of tau_command words)) n (lit< tt)
    (λ t found. let r = one_read (built tau_command).top.rules (codes "every") (matches_of tau_command words) _ t (rows_pass words none) refl found in (r.written, r.passes, r.is)) e
