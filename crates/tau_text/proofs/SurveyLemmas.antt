-- An input that is read some forms at a time.
use Rattle.std.proofs.Common.{◌≡◌, ℕ, ◌≤◌, Bool, true, false, ◌||◌, nat_lt, List, [], ◌∷◌, ◌++◌, length, codes, Result, Ok, Err, refl, sym, ap, subst, ◌∙◌, arith, append_assoc, append-nil}
use Rattle.std.proofs.lemmas.Bool.{ltb-true, ltb-false}
use Rattle.std.proofs.lemmas.Grind.{flat_map-append}
use Rattle.tau_sexpr.specs.Tree.{Tree}
use Rattle.tau_sexpr.specs.Spelling.{IsSpelling}
use Rattle.tau_sexpr.specs.Faults.{IsFirstFault}
use Rattle.tau_sexpr.specs.Rest.{IsReading, forms_from, behind}
use Rattle.tau_sexpr.specs.declared.faults.FormError.{FormError}
use Rattle.tau_sexpr.proofs.FrontLemmas.{from_start, from_end, from_here}
use Rattle.tau_sexpr.proofs.LawLemmas.{once, spelled_read}
use Rattle.tau_tree.specs.declared.programs.Program.{Program}
use Rattle.tau_script.specs.Openings.{program_opening}
use Rattle.tau_text.specs.Faults.{HasFault, of_bytes, of_forms, ProgramFault, IsProgramFault, IsPrintFault, MarkedFault, no_trace, in_parts, PartsFault, in_program}
use Rattle.tau_text.specs.Meaning.{IsProgram, IsPrintInput}
use Rattle.tau_text.specs.Inner.Surveyed.{joined, NoFault}
use Rattle.tau_text.specs.Parts.{is_mark, is_marked, before, has_trace}
use Rattle.tau_text.proofs.PartLemmas.{before_le, marked_below, unmarked_all, all_before}
use Rattle.tau_text.proofs.ReadBack.{empty_run, unmarked_run}

-- marks among more forms
or_then : (a b c : Bool) → (a || (b || c)) ≡ ((a || b) || c)
or_then true b c = refl
or_then false b c = refl

pub marked_more : (w : List ℕ) (ts us : List Tree) → is_marked w (ts ++ us) ≡ (is_marked w ts || is_marked w us)
marked_more w [] us = refl
marked_more w (t ∷ ts) us = ap (λ b. is_mark w t || b) (marked_more w ts us) ∙ or_then (is_mark w t) (is_marked w ts) (is_marked w us)

-- a mark is there where not all forms stand before one
pub marked_by : (w : List ℕ) (ts : List Tree) → nat_lt (length (before w ts)) (length ts) ≡ is_marked w ts
marked_by w ts = by (nat_lt (length (before w ts)) (length ts)) refl
  where
    by : (b : Bool) → nat_lt (length (before w ts)) (length ts) ≡ b → b ≡ is_marked w ts
    by true e = sym (marked_below w ts (ltb-true (length (before w ts)) (length ts) e))
    by false e = sym (unmarked_all w ts (omega (arith, before_le w ts, ltb-false (length (before w ts)) (length ts) e)))

pub all_unmarked : (w : List ℕ) (ts : List Tree) → is_marked w ts ≡ false → length (before w ts) ≡ length ts
all_unmarked w ts none = omega (arith, before_le w ts, ltb-false (length (before w ts)) (length ts) (marked_by w ts ∙ none))

-- forms behind others
behind_both : (front fs : List Tree) (r : Result (List Tree) FormError) → behind front (behind fs r) ≡ behind (front ++ fs) r
behind_both front fs (Ok ts) = ap (λ us. Ok us) (sym (append_assoc front fs ts))
behind_both front fs (Err e) = refl

pub reads_on : (bs : List ℕ) (start at next : ℕ) (front fs : List Tree) → forms_from bs start ≡ behind front (forms_from bs at) → forms_from bs at ≡ behind fs (forms_from bs next) → forms_from bs start ≡ behind (front ++ fs) (forms_from bs next)
reads_on bs start at next front fs read more = read ∙ ap (behind front) more ∙ behind_both front fs (forms_from bs next)

nothing_before : (r : Result (List Tree) FormError) → r ≡ behind [] r
nothing_before (Ok ts) = refl
nothing_before (Err e) = refl

pub reads_first : (bs : List ℕ) (start : ℕ) → forms_from bs start ≡ behind [] (forms_from bs start)
reads_first bs start = nothing_before (forms_from bs start)

-- a fault at a place is the first of all bytes
pub first_fault : (bs : List ℕ) (at : ℕ) (front : List Tree) (e : FormError) → forms_from bs 0 ≡ behind front (forms_from bs at) → forms_from bs at ≡ Err e → IsFirstFault bs e
first_fault bs at front e read fault = subst (IsReading bs) (read ∙ ap (behind front) fault) (from_start bs)

-- what was read up to the end is spelled
pub all_spelled : (bs : List ℕ) (at : ℕ) (front : List Tree) → length bs ≤ at → forms_from bs 0 ≡ behind front (forms_from bs at) → IsSpelling bs front
all_spelled bs at front le read = subst (IsReading bs) (read ∙ ap (behind front) (from_end bs at le) ∙ ap (λ ts. Ok ts) (append-nil front)) (from_start bs)

-- the forms that are left of those that bytes spell
record Left (fs ts : List Tree) : Type 0 where
  pub rest : List Tree
  pub is : ts ≡ fs ++ rest

left_of : (fs ts : List Tree) (r : Result (List Tree) FormError) → Ok ts ≡ behind fs r → Left fs ts
left_of fs ts (Ok us) e = record { rest = us; is = cc }
left_of fs ts (Err f) e = absurd (cc)

pub left_behind : (bs : List ℕ) (at : ℕ) (front ts : List Tree) → forms_from bs 0 ≡ behind front (forms_from bs at) → IsSpelling bs ts → (rest : List Tree) × (ts ≡ front ++ rest)
left_behind bs at front ts read spelled =
    let l = left_of front ts (forms_from bs at) (sym (from_here bs 0 ∙ spelled_read bs ts spelled) ∙ read) in
    (l.rest, l.is)

pub what_is_left : (bs : List ℕ) (at next : ℕ) (front fs ts : List Tree) → forms_from bs 0 ≡ behind front (forms_from bs at) → forms_from bs at ≡ behind fs (forms_from bs next) → IsSpelling bs ts → (rest : List Tree) × (ts ≡ front ++ (fs ++ rest))
what_is_left bs at next front fs ts read more spelled =
    let l = left_behind bs next (front ++ fs) ts (reads_on bs 0 at next front fs read more) spelled in
    (l.0, l.1 ∙ append_assoc front fs l.0)

-- the forms of pieces, with one piece more
pub joined_more : (pieces : List (List Tree)) (fs : List Tree) → joined (pieces ++ fs ∷ []) ≡ joined pieces ++ fs
joined_more pieces fs = flat_map-append (λ ts. ts) pieces (fs ∷ []) ∙ ap (λ ts. joined pieces ++ ts) (append-nil fs)

-- the next piece of those that were kept
pub piece_next : (pieces done rest : List (List Tree)) (fs before after ts : List Tree) → done ++ fs ∷ rest ≡ pieces → ts ≡ before ++ (joined pieces ++ after) → ts ≡ (before ++ joined done) ++ (fs ++ (joined rest ++ after))
piece_next pieces done rest fs before after ts is all =
    let parts : joined pieces ≡ joined done ++ (fs ++ joined rest) = sym (ap joined is) ∙ flat_map-append (λ us. us) done (fs ∷ rest) in
    all
    ∙ ap (λ us. before ++ (us ++ after)) parts
    ∙ ap (λ us. before ++ us) (append_assoc (joined done) (fs ++ joined rest) after ∙ ap (λ us. joined done ++ us) (append_assoc fs (joined rest) after))
    ∙ sym (append_assoc before (joined done) (fs ++ (joined rest ++ after)))

pub same_forms : (bs : List ℕ) (ts us : List Tree) → IsSpelling bs ts → IsSpelling bs us → ts ≡ us
same_forms bs ts us one two = once bs ts us one two

-- where `(trace)` stands among forms, their fault is that of their parts
pub parts_fault : (ts : List Tree) → has_trace ts ≡ true → (a b : ℕ) → MarkedFault ts a b → PartsFault ts a b
parts_fault ts there a b (no_trace none x y) = absurd (cc)
parts_fault ts there a b (in_parts x f) = f

-- a fault of the bytes is one whatever faults forms can have
pub any_fault : (F : List Tree → ℕ → ℕ → Type 0) (bs : List ℕ) (a b : ℕ) → HasFault NoFault bs a b → HasFault F bs a b
any_fault F bs a b (of_bytes e is first) = of_bytes e is first
any_fault F bs a b (of_forms forms spelled none) = absurd none

-- where no `(trace)` stands among forms, they are those of a program alone
pub unmarked_program : (bs : List ℕ) (ts : List Tree) → IsSpelling bs ts → has_trace ts ≡ false → (p : Program) → IsProgram bs p → IsPrintInput bs p
unmarked_program bs ts spelled none p h =
    let same : has_trace h.forms ≡ false = ap has_trace (same_forms bs h.forms ts h.spelled spelled) ∙ none in
    record { forms = h.forms; spelled = h.spelled; run = empty_run (program_opening p); means = unmarked_run h.forms p (all_unmarked (codes "trace") h.forms same) h.means }

pub unmarked_fault : (bs : List ℕ) (ts : List Tree) → IsSpelling bs ts → has_trace ts ≡ false → (a b : ℕ) → IsProgramFault bs a b → IsPrintFault bs a b
unmarked_fault bs ts spelled none a b (of_bytes e is first) = of_bytes e is first
unmarked_fault bs ts spelled none a b (of_forms forms there f) =
    let same : has_trace forms ≡ false = ap has_trace (same_forms bs forms ts there spelled) ∙ none in
    of_forms forms there (in_program (subst (λ us. ProgramFault us a b) (sym (all_before (codes "trace") forms (all_unmarked (codes "trace") forms same))) f))
