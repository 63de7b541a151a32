-- What is wrong with bytes, and where: each fault by the state that its byte stands in.
-- 10 is the line feed, 34 the quote, 92 the backslash.
use Rattle.std.specs.Prelude.{◌≡◌, ℕ, zero, suc, ◌+◌, ◌-◌, ◌<◌, ◌≤◌, ◌==◌, List, length, slice_get, Option, Some, None, if◌then◌else◌, ◌≢◌, IsTrue}
use Rattle.tau_sexpr.specs.Kinds.{kind_of, is_plain, meaning}
use Rattle.tau_sexpr.specs.declared.bytes.ByteKind.{ByteKind}
use Rattle.tau_sexpr.specs.declared.bytes.ByteKind.TheVariants.{Blank, Semicolon, Opening, Closing, Quote, OfWord, Other}
use Rattle.tau_sexpr.specs.declared.faults.FormError.{FormError}
use Rattle.tau_sexpr.specs.declared.faults.FormError.TheVariants.{BadByte, Unopened, Unclosed, BadText, TooDeep, NoMemory}

-- what a place lies in
pub data Part : Type 0 where
  outside in_comment in_quotes after_backslash : Part

-- the state at a place: what it lies in, and how many lists are open
pub record Lexical : Type 0 where
  pub part : Part
  pub depth : ℕ

abbrev pub lexical : Part → ℕ → Lexical
lexical part depth = record { part = part; depth = depth }

-- the state after a byte that stands outside
abbrev pub moved_outside : ByteKind → ℕ → Lexical
moved_outside Blank n = lexical outside n
moved_outside Semicolon n = lexical in_comment n
moved_outside Opening n = lexical outside (n + 1)
moved_outside Closing n = lexical outside (n - 1)
moved_outside Quote n = lexical in_quotes n
moved_outside OfWord n = lexical outside n
moved_outside Other n = lexical outside n

-- the state after a byte
abbrev pub moved : ℕ → Part → ℕ → Lexical
moved b outside n = moved_outside (kind_of b) n
moved b in_comment n = lexical (if b == 10 then outside else in_comment) n
moved b in_quotes n = lexical (if b == 34 then outside else if b == 92 then after_backslash else in_quotes) n
moved b after_backslash n = lexical in_quotes n

abbrev pub moved_by : Option ℕ → Lexical → Lexical
moved_by None s = s
moved_by (Some b) s = moved b s.part s.depth

-- the state at a place, which the bytes before it make
unfoldable pub state_at : List ℕ → ℕ → Lexical
state_at bs zero = lexical outside 0
state_at bs (suc p) = moved_by (slice_get bs p) (state_at bs p)

-- the place that a fault names
abbrev pub place_of : FormError → ℕ
place_of (BadByte p) = p
place_of (Unopened p) = p
place_of (Unclosed p) = p
place_of (BadText p) = p
place_of (TooDeep p) = p
place_of NoMemory = 0

-- a byte that may not stand in quotes, or after a backslash there
abbrev pub IsBadInQuotes : Part → ℕ → Type 0
IsBadInQuotes outside b = ⊥
IsBadInQuotes in_comment b = ⊥
IsBadInQuotes in_quotes b = (b ≢ 34) × (b ≢ 92) × ¬ IsTrue (is_plain b)
IsBadInQuotes after_backslash b = meaning b ≡ None

-- a byte in a state is this fault
abbrev pub IsBad : Lexical → ℕ → FormError → Type 0
IsBad s b (BadByte p) = (s.part ≡ outside) × (kind_of b ≡ Other)
IsBad s b (Unopened p) = (s.part ≡ outside) × (kind_of b ≡ Closing) × (s.depth ≡ 0)
IsBad s b (Unclosed p) = ⊥
IsBad s b (BadText p) = IsBadInQuotes s.part b
IsBad s b (TooDeep p) = (s.part ≡ outside) × (kind_of b ≡ Opening) × (s.depth ≡ 200)
IsBad s b NoMemory = ⊥

-- a list or a text in quotes is open
abbrev pub IsOpen : Part → ℕ → Type 0
IsOpen outside n = 0 < n
IsOpen in_comment n = 0 < n
IsOpen in_quotes n = Unit {0}
IsOpen after_backslash n = Unit {0}

-- a fault of the bytes: a byte at its place, or the end
pub data IsFault (bs : List ℕ) (e : FormError) : Type 0 where
  a_byte : {b : ℕ} → slice_get bs (place_of e) ≡ Some b → IsBad (state_at bs (place_of e)) b e → IsFault bs e
  the_end : e ≡ Unclosed (length bs) → IsOpen (state_at bs (length bs)).part (state_at bs (length bs)).depth → IsFault bs e

-- the fault with the least place
pub record IsFirstFault (bs : List ℕ) (e : FormError) : Type 0 where
  pub fault : IsFault bs e
  pub first : (f : FormError) → IsFault bs f → place_of e ≤ place_of f
