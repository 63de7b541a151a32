-- What is read further on: the same, with the places further on.
use Rattle.std.proofs.Common.{◌≡◌, ℕ, ◌+◌, ◌==◌, Bool, true, false, nat_lt, if◌then◌else◌, List, [], ◌∷◌, ◌++◌, length, drop, Option, Some, None, Result, Ok, Err, refl, sym, ap, ◌∙◌, arith}
use Rattle.tau_sexpr.specs.Tree.{Tree, word, text, list, inside}
use Rattle.tau_sexpr.specs.Kinds.{kind_of, is_plain, meaning}
use Rattle.tau_sexpr.specs.Rest.{forms_from, further, given_further}
use Rattle.tau_sexpr.specs.Laws.{ReadsFromPlace}
use Rattle.tau_sexpr.specs.Inner.Reader.{Stack, stack, Reader, reader, Mode, outside, comment, in_word, in_text, in_pair, with_form, closed, step_outside, step_word, step_text, step_pair, step, ended, finish, and_then, run}
use Rattle.tau_sexpr.specs.declared.bytes.ByteKind.{ByteKind}
use Rattle.tau_sexpr.specs.declared.bytes.ByteKind.TheVariants.{Blank, Semicolon, Opening, Closing, Quote, OfWord, Other}
use Rattle.tau_sexpr.specs.declared.faults.FormError.{FormError}
use Rattle.tau_sexpr.specs.declared.faults.FormError.TheVariants.{BadText, TooDeep}
use Rattle.tau_sexpr.proofs.RunLemmas.{go_on}
use Rattle.tau_sexpr.proofs.FrontLemmas.{from_start}

-- the same step, further on
abbrev step_further : ℕ → Result Reader FormError → Result Reader FormError
step_further n (Ok r) = Ok (reader (n + r.at) r.mode r.held)
step_further n (Err e) = Err (further n e)

taken : (n at : ℕ) (mode : Mode) (s : Stack) → Ok (reader ((n + at) + 1) mode s) ≡ step_further n (Ok (reader (at + 1) mode s))
taken n at mode s = ap (λ a. Ok (reader a mode s)) (omega arith)

closed_further : (n at : ℕ) (lists : List (List Tree)) (gs : List Tree) → closed (n + at) lists gs ≡ step_further n (closed at lists gs)
closed_further n at [] gs = refl
closed_further n at (o ∷ os) gs = taken n at outside (stack os (o ++ list (inside gs) ∷ []))

opened_further : (n at : ℕ) (s : Stack) (t : Bool) → (if t then Ok (reader ((n + at) + 1) outside s) else Err (TooDeep (n + at))) ≡ step_further n (if t then Ok (reader (at + 1) outside s) else Err (TooDeep at))
opened_further n at s true = taken n at outside s
opened_further n at s false = refl

outside_further : (k : ByteKind) (n b at : ℕ) (s : Stack) → step_outside k b (n + at) s ≡ step_further n (step_outside k b at s)
outside_further Blank n b at s = taken n at outside s
outside_further Semicolon n b at s = taken n at comment s
outside_further Opening n b at s = opened_further n at (stack (s.forms ∷ s.lists) []) (nat_lt (length s.lists) 200)
outside_further Closing n b at s = closed_further n at s.lists s.forms
outside_further Quote n b at s = taken n at (in_text []) s
outside_further OfWord n b at s = taken n at (in_word (b ∷ [])) s
outside_further Other n b at s = refl

word_further : (k : ByteKind) (w : List ℕ) (n b at : ℕ) (s : Stack) → step_word k w b (n + at) s ≡ step_further n (step_word k w b at s)
word_further Blank w n b at s = outside_further Blank n b at (with_form s (word w))
word_further Semicolon w n b at s = outside_further Semicolon n b at (with_form s (word w))
word_further Opening w n b at s = outside_further Opening n b at (with_form s (word w))
word_further Closing w n b at s = outside_further Closing n b at (with_form s (word w))
word_further Quote w n b at s = outside_further Quote n b at (with_form s (word w))
word_further OfWord w n b at s = taken n at (in_word (w ++ b ∷ [])) s
word_further Other w n b at s = outside_further Other n b at (with_form s (word w))

text_by : (t : List ℕ) (n b at : ℕ) (s : Stack) (x y z : Bool)
    → (if x then Ok (reader ((n + at) + 1) outside (with_form s (text t))) else if y then Ok (reader ((n + at) + 1) (in_pair t) s) else if z then Ok (reader ((n + at) + 1) (in_text (t ++ b ∷ [])) s) else Err (BadText (n + at)))
    ≡ step_further n (if x then Ok (reader (at + 1) outside (with_form s (text t))) else if y then Ok (reader (at + 1) (in_pair t) s) else if z then Ok (reader (at + 1) (in_text (t ++ b ∷ [])) s) else Err (BadText at))
text_by t n b at s true y z = taken n at outside (with_form s (text t))
text_by t n b at s false true z = taken n at (in_pair t) s
text_by t n b at s false false true = taken n at (in_text (t ++ b ∷ [])) s
text_by t n b at s false false false = refl

pair_further : (o : Option ℕ) (t : List ℕ) (n at : ℕ) (s : Stack) → step_pair o t (n + at) s ≡ step_further n (step_pair o t at s)
pair_further None t n at s = refl
pair_further (Some c) t n at s = taken n at (in_text (t ++ c ∷ [])) s

one_further : (n b at : ℕ) (mode : Mode) (s : Stack) → step b (n + at) mode s ≡ step_further n (step b at mode s)
unfolding step
one_further n b at outside s = outside_further (kind_of b) n b at s
one_further n b at comment s = taken n at (if b == 10 then outside else comment) s
one_further n b at (in_word w) s = word_further (kind_of b) w n b at s
one_further n b at (in_text t) s = text_by t n b at s (b == 34) (b == 92) (is_plain b)
one_further n b at (in_pair t) s = pair_further (meaning b) t n at s

end_further : (n at : ℕ) (lists : List (List Tree)) (gs : List Tree) → ended (n + at) lists gs ≡ given_further n (ended at lists gs)
end_further n at [] gs = refl
end_further n at (o ∷ os) gs = refl

finish_further : (n at : ℕ) (mode : Mode) (s : Stack) → finish (n + at) mode s ≡ given_further n (finish at mode s)
unfolding finish
finish_further n at outside s = end_further n at s.lists s.forms
finish_further n at comment s = end_further n at s.lists s.forms
finish_further n at (in_word w) s = end_further n at s.lists (s.forms ++ word w ∷ [])
finish_further n at (in_text t) s = refl
finish_further n at (in_pair t) s = refl

-- what follows a step
goes_on : (bs : List ℕ) (n : ℕ) → ((at : ℕ) (mode : Mode) (s : Stack) → run bs (n + at) mode s ≡ given_further n (run bs at mode s))
    → (r : Result Reader FormError) → and_then (step_further n r) (go_on bs) ≡ given_further n (and_then r (go_on bs))
goes_on bs n h (Ok r) = h r.at r.mode r.held
goes_on bs n h (Err e) = refl

run_further : (bs : List ℕ) (n at : ℕ) (mode : Mode) (s : Stack) → run bs (n + at) mode s ≡ given_further n (run bs at mode s)
unfolding run
run_further [] n at mode s = finish_further n at mode s
run_further (b ∷ bs) n at mode s =
    ap (λ r. and_then r (go_on bs)) (one_further n b at mode s)
    ∙ goes_on bs n (λ at mode s. run_further bs n at mode s) (step b at mode s)

pub from_place : (bs : List ℕ) → ReadsFromPlace bs
unfolding forms_from
from_place bs at =
    let same : at ≡ at + 0 = omega arith in (
      forms_from (drop at bs) 0,
      from_start (drop at bs),
      ap (λ a. run (drop at bs) a outside (stack [] [])) same ∙ run_further (drop at bs) at 0 outside (stack [] []),
    )
