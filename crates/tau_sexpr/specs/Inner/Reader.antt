-- The reader byte by byte, of which its private functions speak. Public clauses cite of this file what `forms_from` is alone.
use Rattle.std.specs.Prelude.{◌≡◌, ℕ, ◌+◌, ◌==◌, nat_lt, List, [], ◌∷◌, ◌++◌, length, drop, ◌<◌, ◌≤◌, reverse, Result, Ok, Err, Option, Some, None, if◌then◌else◌}
use Rattle.tau_sexpr.specs.Tree.{Tree, word, text, list, inside}
use Rattle.tau_sexpr.specs.Bytes.{IsTextByte}
use Rattle.tau_sexpr.specs.Kinds.{kind_of, is_plain, meaning}
use Rattle.tau_sexpr.specs.declared.bytes.ByteKind.{ByteKind}
use Rattle.tau_sexpr.specs.declared.bytes.ByteKind.TheVariants.{Blank, Semicolon, Opening, Closing, Quote, OfWord, Other}
use Rattle.tau_sexpr.specs.declared.reader.OpenLists.{OpenLists}
use Rattle.tau_sexpr.specs.declared.faults.FormError.{FormError}
use Rattle.tau_sexpr.specs.declared.faults.FormError.TheVariants.{BadByte, Unopened, Unclosed, BadText, TooDeep, NoMemory}

-- the lists that are open, innermost first, each by its forms so far, and the forms at hand
pub record Stack : Type 0 where
  pub lists : List (List Tree)
  pub forms : List Tree

abbrev pub stack : List (List Tree) → List Tree → Stack
stack lists forms = record { lists = lists; forms = forms }

-- what the reader is in, with the bytes of the word or the text so far
pub data Mode : Type 0 where
  outside comment : Mode
  in_word in_text in_pair : List ℕ → Mode

-- the reader at a place
pub record Reader : Type 0 where
  pub at : ℕ
  pub mode : Mode
  pub held : Stack

abbrev pub reader : ℕ → Mode → Stack → Reader
reader at mode held = record { at = at; mode = mode; held = held }

-- one form more at hand
abbrev pub with_form : Stack → Tree → Stack
with_form s t = stack s.lists (s.forms ++ t ∷ [])

-- a closing bracket
abbrev pub closed : ℕ → List (List Tree) → List Tree → Result Reader FormError
closed at [] forms = Err (Unopened at)
closed at (o ∷ os) forms = Ok (reader (at + 1) outside (stack os (o ++ list (inside forms) ∷ [])))

-- a byte outside, by its kind
abbrev pub step_outside : ByteKind → ℕ → ℕ → Stack → Result Reader FormError
step_outside Blank b at s = Ok (reader (at + 1) outside s)
step_outside Semicolon b at s = Ok (reader (at + 1) comment s)
step_outside Opening b at s = if nat_lt (length s.lists) 200 then Ok (reader (at + 1) outside (stack (s.forms ∷ s.lists) [])) else Err (TooDeep at)
step_outside Closing b at s = closed at s.lists s.forms
step_outside Quote b at s = Ok (reader (at + 1) (in_text []) s)
step_outside OfWord b at s = Ok (reader (at + 1) (in_word (b ∷ [])) s)
step_outside Other b at s = Err (BadByte at)

-- a byte after a word that has begun, by its kind: one byte more, or the end of the word
abbrev pub step_word : ByteKind → List ℕ → ℕ → ℕ → Stack → Result Reader FormError
step_word OfWord w b at s = Ok (reader (at + 1) (in_word (w ++ b ∷ [])) s)
step_word kind w b at s = step_outside kind b at (with_form s (word w))

-- a byte in a text
abbrev pub step_text : List ℕ → ℕ → ℕ → Stack → Result Reader FormError
step_text t b at s =
    if b == 34 then Ok (reader (at + 1) outside (with_form s (text t)))
    else if b == 92 then Ok (reader (at + 1) (in_pair t) s)
    else if is_plain b then Ok (reader (at + 1) (in_text (t ++ b ∷ [])) s)
    else Err (BadText at)

-- a byte after a backslash, by its meaning
abbrev pub step_pair : Option ℕ → List ℕ → ℕ → Stack → Result Reader FormError
step_pair None t at s = Err (BadText at)
step_pair (Some c) t at s = Ok (reader (at + 1) (in_text (t ++ c ∷ [])) s)

unfoldable pub step : ℕ → ℕ → Mode → Stack → Result Reader FormError
step b at outside s = step_outside (kind_of b) b at s
step b at comment s = Ok (reader (at + 1) (if b == 10 then outside else comment) s)
step b at (in_word w) s = step_word (kind_of b) w b at s
step b at (in_text t) s = step_text t b at s
step b at (in_pair t) s = step_pair (meaning b) t at s

-- the end outside: no list may be open
abbrev pub ended : ℕ → List (List Tree) → List Tree → Result (List Tree) FormError
ended at [] forms = Ok forms
ended at (o ∷ os) forms = Err (Unclosed at)

unfoldable pub finish : ℕ → Mode → Stack → Result (List Tree) FormError
finish at outside s = ended at s.lists s.forms
finish at comment s = ended at s.lists s.forms
finish at (in_word w) s = ended at s.lists (s.forms ++ word w ∷ [])
finish at (in_text t) s = Err (Unclosed at)
finish at (in_pair t) s = Err (Unclosed at)

abbrev pub and_then : {A B E : Type 0} → Result A E → (A → Result B E) → Result B E
and_then (Ok x) f = f x
and_then (Err e) f = Err e

-- what the bytes that are left give
unfoldable pub run : List ℕ → ℕ → Mode → Stack → Result (List Tree) FormError
run [] at mode s = finish at mode s
run (b ∷ bs) at mode s = and_then (step b at mode s) (λ r. run bs r.at r.mode r.held)

-- what the bytes from a place on give
abbrev pub reading : List ℕ → ℕ → Mode → Stack → Result (List Tree) FormError
reading bs at mode s = run (drop at bs) at mode s

-- what stands at a place: a pair after its backslash, a pair, a closing quote
abbrev pub IsPairRest : List ℕ → ℕ → ℕ → Type 0
IsPairRest bs at c = (at < length bs) × IsTextByte c × ((u : List ℕ) (s : Stack) → reading bs at (in_pair u) s ≡ reading bs (at + 1) (in_text (u ++ c ∷ [])) s)

abbrev pub IsPair : List ℕ → ℕ → ℕ → Type 0
IsPair bs at c = (at + 1 < length bs) × IsTextByte c × ((u : List ℕ) (s : Stack) → reading bs at (in_text u) s ≡ reading bs (at + 2) (in_text (u ++ c ∷ [])) s)

abbrev pub IsClosing : List ℕ → ℕ → Type 0
IsClosing bs at = (at < length bs) × ((u : List ℕ) (s : Stack) → reading bs at (in_text u) s ≡ reading bs (at + 1) outside (with_form s (text u)))

-- from one place to the next stand bytes that stand for themselves, the rest of a text, a word
abbrev pub ArePlain : List ℕ → ℕ → ℕ → List ℕ → List ℕ → Type 0
ArePlain bs at next old new = (s : Stack) → reading bs at (in_text old) s ≡ reading bs next (in_text new) s

abbrev pub IsText : List ℕ → ℕ → ℕ → List ℕ → Type 0
IsText bs at next t = (at < next) × (next ≤ length bs) × ((s : Stack) → reading bs at (in_text []) s ≡ reading bs next outside (with_form s (text t)))

abbrev pub IsWord : List ℕ → ℕ → ℕ → List ℕ → Type 0
IsWord bs at next w = (at < next) × (next ≤ length bs) × ((s : Stack) → reading bs at outside s ≡ reading bs next outside (with_form s (word w)))

-- what all bytes give
abbrev pub read_all : List ℕ → Result (List Tree) FormError
read_all bs = reading bs 0 outside (stack [] [])

-- what a call that takes one byte answers, but for want of memory
abbrev pub TellsStep : FormError → Result Reader FormError → Type 0
TellsStep NoMemory r = Unit {0}
TellsStep e r = r ≡ Err e

abbrev pub Steps : {U : Type 0} → Result U FormError → ℕ → Stack → Result Reader FormError → Type 0
Steps (Ok u) at s r = r ≡ Ok (reader (at + 1) outside s)
Steps (Err e) at s r = TellsStep e r

-- what is held by the program
abbrev pub stack_of : OpenLists → Stack
stack_of o = stack (reverse o.outer.items) o.forms

-- an error says what the reader gives, but for want of memory
abbrev pub TellsFormFault : FormError → Result (List Tree) FormError → Type 0
TellsFormFault NoMemory r = Unit {0}
TellsFormFault e r = r ≡ Err e

-- an answer is what the reader gives, but for want of memory
abbrev pub Gives : Result (List Tree) FormError → Result (List Tree) FormError → Type 0
Gives (Ok ts) r = r ≡ Ok ts
Gives (Err e) r = TellsFormFault e r
