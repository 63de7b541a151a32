-- What is read behind forms that stand in front: the same, with these before it.
use Rattle.std.proofs.Common.{◌≡◌, ◌≢◌, ◌⊎◌, ⊎_elim, ℕ, suc, ◌+◌, ◌<◌, ◌≤◌, ◌==◌, Bool, true, false, nat_lt, if◌then◌else◌, List, [], ◌∷◌, ◌++◌, length, drop, Option, Some, None, Result, Ok, Err, refl, sym, ap, ◌∙◌, arith, append_assoc, append-nil}
use Rattle.tau_sexpr.specs.Tree.{Tree, word, text, list, inside}
use Rattle.tau_sexpr.specs.Kinds.{kind_of, is_plain, meaning}
use Rattle.tau_sexpr.specs.Rest.{IsReading, forms_from, behind}
use Rattle.tau_sexpr.specs.Laws.{ReadsFromStart, ReadsNothingBehind}
use Rattle.tau_sexpr.specs.Inner.Reader.{Stack, stack, Reader, reader, Mode, outside, comment, in_word, in_text, in_pair, with_form, closed, step_outside, step_word, step_text, step_pair, step, ended, finish, and_then, run, read_all, TellsFormFault}
use Rattle.tau_sexpr.specs.declared.bytes.ByteKind.{ByteKind}
use Rattle.tau_sexpr.specs.declared.bytes.ByteKind.TheVariants.{Blank, Semicolon, Opening, Closing, Quote, OfWord, Other}
use Rattle.tau_sexpr.specs.declared.faults.FormError.{FormError}
use Rattle.tau_sexpr.specs.declared.faults.FormError.TheVariants.{BadByte, Unopened, Unclosed, BadText, TooDeep, NoMemory}
use Rattle.tau_sexpr.proofs.RunLemmas.{go_on}
use Rattle.tau_sexpr.proofs.SoundLemmas.{read_spells}
use Rattle.tau_sexpr.proofs.LawLemmas.{read_fault, tells}
use Rattle.tau_sexpr.proofs.PlaceLemmas.{run_end}

-- forms before those of the outermost list that is open
abbrev under : List Tree → List (List Tree) → List (List Tree)
under fs [] = []
under fs (o ∷ []) = (fs ++ o) ∷ []
under fs (o ∷ p ∷ ps) = o ∷ under fs (p ∷ ps)

-- forms before those at hand, where no list is open
abbrev bottom : List Tree → List (List Tree) → List Tree → List Tree
bottom fs [] gs = fs ++ gs
bottom fs (o ∷ os) gs = gs

-- the same reader behind forms
abbrev raised : List Tree → Stack → Stack
raised fs s = stack (under fs s.lists) (bottom fs s.lists s.forms)

abbrev moved : List Tree → Result Reader FormError → Result Reader FormError
moved fs (Ok r) = Ok (reader r.at r.mode (raised fs r.held))
moved fs (Err e) = Err e

under_length : (fs : List Tree) (lists : List (List Tree)) → length (under fs lists) ≡ length lists
under_length fs [] = refl
under_length fs (o ∷ []) = refl
under_length fs (o ∷ p ∷ ps) = ap suc (under_length fs (p ∷ ps))

raised_form : (fs : List Tree) (lists : List (List Tree)) (gs : List Tree) (t : Tree) → with_form (raised fs (stack lists gs)) t ≡ raised fs (with_form (stack lists gs) t)
raised_form fs [] gs t = ap (λ ts. stack [] ts) (append_assoc fs gs (t ∷ []))
raised_form fs (o ∷ os) gs t = refl

raised_open : (fs : List Tree) (lists : List (List Tree)) (gs : List Tree) → stack (bottom fs lists gs ∷ under fs lists) [] ≡ raised fs (stack (gs ∷ lists) [])
raised_open fs [] gs = refl
raised_open fs (o ∷ os) gs = refl

closed_moved : (at : ℕ) (fs : List Tree) (lists : List (List Tree)) (gs : List Tree) → closed at (under fs lists) (bottom fs lists gs) ≡ moved fs (closed at lists gs)
closed_moved at fs [] gs = refl
closed_moved at fs (o ∷ []) gs = ap (λ ts. Ok (reader (at + 1) outside (stack [] ts))) (append_assoc fs o (list (inside gs) ∷ []))
closed_moved at fs (o ∷ p ∷ ps) gs = refl

opened_moved : (at : ℕ) (fs : List Tree) (lists : List (List Tree)) (gs : List Tree) (t : Bool)
    → (if t then Ok (reader (at + 1) outside (stack (bottom fs lists gs ∷ under fs lists) [])) else Err (TooDeep at)) ≡ moved fs (if t then Ok (reader (at + 1) outside (stack (gs ∷ lists) [])) else Err (TooDeep at))
opened_moved at fs lists gs true = ap (λ s. Ok (reader (at + 1) outside s)) (raised_open fs lists gs)
opened_moved at fs lists gs false = refl

outside_moved : (k : ByteKind) (b at : ℕ) (fs : List Tree) (lists : List (List Tree)) (gs : List Tree) → step_outside k b at (raised fs (stack lists gs)) ≡ moved fs (step_outside k b at (stack lists gs))
outside_moved Blank b at fs lists gs = refl
outside_moved Semicolon b at fs lists gs = refl
outside_moved Opening b at fs lists gs =
    ap (λ n. if nat_lt n 200 then Ok (reader (at + 1) outside (stack (bottom fs lists gs ∷ under fs lists) [])) else Err (TooDeep at)) (under_length fs lists)
    ∙ opened_moved at fs lists gs (nat_lt (length lists) 200)
outside_moved Closing b at fs lists gs = closed_moved at fs lists gs
outside_moved Quote b at fs lists gs = refl
outside_moved OfWord b at fs lists gs = refl
outside_moved Other b at fs lists gs = refl

-- a byte that ends a word
ended_moved : (k : ByteKind) (w : List ℕ) (b at : ℕ) (fs : List Tree) (lists : List (List Tree)) (gs : List Tree) → step_outside k b at (with_form (raised fs (stack lists gs)) (word w)) ≡ moved fs (step_outside k b at (with_form (stack lists gs) (word w)))
ended_moved k w b at fs lists gs = ap (step_outside k b at) (raised_form fs lists gs (word w)) ∙ outside_moved k b at fs lists (gs ++ word w ∷ [])

word_moved : (k : ByteKind) (w : List ℕ) (b at : ℕ) (fs : List Tree) (lists : List (List Tree)) (gs : List Tree) → step_word k w b at (raised fs (stack lists gs)) ≡ moved fs (step_word k w b at (stack lists gs))
word_moved Blank w b at fs lists gs = ended_moved Blank w b at fs lists gs
word_moved Semicolon w b at fs lists gs = ended_moved Semicolon w b at fs lists gs
word_moved Opening w b at fs lists gs = ended_moved Opening w b at fs lists gs
word_moved Closing w b at fs lists gs = ended_moved Closing w b at fs lists gs
word_moved Quote w b at fs lists gs = ended_moved Quote w b at fs lists gs
word_moved OfWord w b at fs lists gs = refl
word_moved Other w b at fs lists gs = ended_moved Other w b at fs lists gs

text_by : (t : List ℕ) (b at : ℕ) (fs : List Tree) (lists : List (List Tree)) (gs : List Tree) (x y z : Bool)
    → (if x then Ok (reader (at + 1) outside (with_form (raised fs (stack lists gs)) (text t))) else if y then Ok (reader (at + 1) (in_pair t) (raised fs (stack lists gs))) else if z then Ok (reader (at + 1) (in_text (t ++ b ∷ [])) (raised fs (stack lists gs))) else Err (FormError.BadText at))
    ≡ moved fs (if x then Ok (reader (at + 1) outside (with_form (stack lists gs) (text t))) else if y then Ok (reader (at + 1) (in_pair t) (stack lists gs)) else if z then Ok (reader (at + 1) (in_text (t ++ b ∷ [])) (stack lists gs)) else Err (FormError.BadText at))
text_by t b at fs lists gs true y z = ap (λ s. Ok (reader (at + 1) outside s)) (raised_form fs lists gs (text t))
text_by t b at fs lists gs false true z = refl
text_by t b at fs lists gs false false true = refl
text_by t b at fs lists gs false false false = refl

text_moved : (t : List ℕ) (b at : ℕ) (fs : List Tree) (lists : List (List Tree)) (gs : List Tree) → step_text t b at (raised fs (stack lists gs)) ≡ moved fs (step_text t b at (stack lists gs))
text_moved t b at fs lists gs = text_by t b at fs lists gs (b == 34) (b == 92) (is_plain b)

pair_moved : (o : Option ℕ) (t : List ℕ) (at : ℕ) (fs : List Tree) (s : Stack) → step_pair o t at (raised fs s) ≡ moved fs (step_pair o t at s)
pair_moved None t at fs s = refl
pair_moved (Some c) t at fs s = refl

step_moved : (b at : ℕ) (mode : Mode) (fs : List Tree) (lists : List (List Tree)) (gs : List Tree) → step b at mode (raised fs (stack lists gs)) ≡ moved fs (step b at mode (stack lists gs))
unfolding step
step_moved b at outside fs lists gs = outside_moved (kind_of b) b at fs lists gs
step_moved b at comment fs lists gs = refl
step_moved b at (in_word w) fs lists gs = word_moved (kind_of b) w b at fs lists gs
step_moved b at (in_text t) fs lists gs = text_moved t b at fs lists gs
step_moved b at (in_pair t) fs lists gs = pair_moved (meaning b) t at fs (stack lists gs)

end_moved : (at : ℕ) (fs : List Tree) (lists : List (List Tree)) (gs : List Tree) → ended at (under fs lists) (bottom fs lists gs) ≡ behind fs (ended at lists gs)
end_moved at fs [] gs = refl
end_moved at fs (o ∷ []) gs = refl
end_moved at fs (o ∷ p ∷ ps) gs = refl

word_end_moved : (at : ℕ) (w : List ℕ) (fs : List Tree) (lists : List (List Tree)) (gs : List Tree) → ended at (under fs lists) (bottom fs lists gs ++ word w ∷ []) ≡ behind fs (ended at lists (gs ++ word w ∷ []))
word_end_moved at w fs [] gs = ap (λ ts. Ok ts) (append_assoc fs gs (word w ∷ []))
word_end_moved at w fs (o ∷ []) gs = refl
word_end_moved at w fs (o ∷ p ∷ ps) gs = refl

finish_moved : (at : ℕ) (mode : Mode) (fs : List Tree) (lists : List (List Tree)) (gs : List Tree) → finish at mode (raised fs (stack lists gs)) ≡ behind fs (finish at mode (stack lists gs))
unfolding finish
finish_moved at outside fs lists gs = end_moved at fs lists gs
finish_moved at comment fs lists gs = end_moved at fs lists gs
finish_moved at (in_word w) fs lists gs = word_end_moved at w fs lists gs
finish_moved at (in_text t) fs lists gs = refl
finish_moved at (in_pair t) fs lists gs = refl

-- what follows a step
goes_on : (bs : List ℕ) (fs : List Tree) → ((at : ℕ) (mode : Mode) (s : Stack) → run bs at mode (raised fs s) ≡ behind fs (run bs at mode s))
    → (r : Result Reader FormError) → and_then (moved fs r) (go_on bs) ≡ behind fs (and_then r (go_on bs))
goes_on bs fs h (Ok r) = h r.at r.mode r.held
goes_on bs fs h (Err e) = refl

-- reading is the same whatever stands in front
pub run_behind : (bs : List ℕ) (at : ℕ) (mode : Mode) (fs : List Tree) (s : Stack) → run bs at mode (raised fs s) ≡ behind fs (run bs at mode s)
unfolding run
run_behind [] at mode fs s = finish_moved at mode fs s.lists s.forms
run_behind (b ∷ bs) at mode fs s =
    ap (λ r. and_then r (go_on bs)) (step_moved b at mode fs s.lists s.forms)
    ∙ goes_on bs fs (λ at mode s. run_behind bs at mode fs s) (step b at mode s)

-- where no list is open, what was read stands in front of what is left
pub read_behind : (bs : List ℕ) (at : ℕ) (fs : List Tree) → run (drop at bs) at outside (stack [] fs) ≡ behind fs (forms_from bs at)
unfolding forms_from
read_behind bs at fs = ap (λ ts. run (drop at bs) at outside (stack [] ts)) (sym (append-nil fs)) ∙ run_behind (drop at bs) at outside fs (stack [] [])

pub from_here : (bs : List ℕ) (at : ℕ) → forms_from bs at ≡ run (drop at bs) at outside (stack [] [])
unfolding forms_from
from_here bs at = refl

-- an answer at a place outside of lists
pub gives_behind : (bs : List ℕ) (at : ℕ) (lists : List (List Tree)) (forms fs : List Tree) → ended at lists forms ≡ Ok fs → run (drop at bs) at outside (stack lists forms) ≡ behind fs (forms_from bs at)
gives_behind bs at [] forms fs e =
    let same : forms ≡ fs = cc in
    ap (λ ts. run (drop at bs) at outside (stack [] ts)) same ∙ read_behind bs at fs
gives_behind bs at (o ∷ os) forms fs e = absurd (cc)

-- a fault is told at the end of the bytes alone
pub told_closed : (e : FormError) (at : ℕ) (lists : List (List Tree)) (forms : List Tree) (z : Result (List Tree) FormError) → lists ≡ [] → TellsFormFault e (ended at lists forms) → e ≢ NoMemory → z ≡ Err e
told_closed e at [] forms z is h some = let no : Ok forms ≡ Err e = tells e (Ok forms) h some in absurd (cc)
told_closed e at (o ∷ os) forms z is h some = absurd (cc)

pub told_at_end : (e : FormError) (bs : List ℕ) (start at : ℕ) (s : Stack) → forms_from bs start ≡ run (drop at bs) at outside s → length bs ≤ at → TellsFormFault e (ended at s.lists s.forms) → e ≢ NoMemory → forms_from bs start ≡ Err e
told_at_end e bs start at s read le h some = read ∙ run_end bs at s le ∙ tells e (ended at s.lists s.forms) h some

pub from_start : (bs : List ℕ) → ReadsFromStart bs
unfolding forms_from
from_start bs = by (read_all bs) refl
  where
    by : (r : Result (List Tree) FormError) → read_all bs ≡ r → IsReading bs r
    by (Ok ts) e = read_spells bs ts e
    by (Err f) e = read_fault bs f e

pub from_end : (bs : List ℕ) (at : ℕ) → length bs ≤ at → forms_from bs at ≡ Ok []
unfolding forms_from
from_end bs at le = run_end bs at (stack [] []) le

pub nothing_behind : (bs : List ℕ) → ReadsNothingBehind bs
nothing_behind bs = from_end bs (length bs) (omega arith)

-- what is read where all bytes are wanted is all that they give
pub whole_read : (bs : List ℕ) (at : ℕ) (fs : List Tree) → forms_from bs 0 ≡ behind fs (forms_from bs at) → (at < length bs → 0 + length bs ≤ at) → read_all bs ≡ Ok fs
whole_read bs at fs read least = sym (from_here bs 0) ∙ read ∙ ap (behind fs) (from_end bs at (⊎_elim (λ lt. omega (arith, least lt)) (λ le. le) (sides at (length bs)))) ∙ ap (λ ts. Ok ts) (append-nil fs)
  where
    sides : (a b : ℕ) → (a < b) ⊎ (b ≤ a)
    sides a b = grind arith

-- a fault that is told but for want of memory
told_or_none : (e : FormError) (r : Result (List Tree) FormError) → (e ≢ NoMemory → r ≡ Err e) → TellsFormFault e r
told_or_none (BadByte p) r h = h (λ is. cc)
told_or_none (Unopened p) r h = h (λ is. cc)
told_or_none (Unclosed p) r h = h (λ is. cc)
told_or_none (BadText p) r h = h (λ is. cc)
told_or_none (TooDeep p) r h = h (λ is. cc)
told_or_none NoMemory r h = tt

pub whole_told : (bs : List ℕ) (e : FormError) → (e ≢ NoMemory → forms_from bs 0 ≡ Err e) → TellsFormFault e (read_all bs)
whole_told bs e h = told_or_none e (read_all bs) (λ some. sym (from_here bs 0) ∙ h some)
