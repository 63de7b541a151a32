-- How bytes spell forms: their tokens in order, with blanks and comments between them.
-- 10 is the line feed, 34 the quote, 92 the backslash, 40 and 41 the brackets, 59 the semicolon.
use Rattle.std.specs.Prelude.{◌≡◌, ◌≢◌, ℕ, suc, List, [], ◌∷◌, ◌++◌, Some, IsTrue, false, Result, Err, ◌⊎◌}
use Rattle.tau_sexpr.specs.declared.faults.FormError.{FormError}
use Rattle.tau_sexpr.specs.declared.faults.FormError.TheVariants.{NoMemory}
use Rattle.std.specs.List.{All}
use Rattle.tau_sexpr.specs.Bytes.{is_blank, IsWordByte}
use Rattle.tau_sexpr.specs.Kinds.{is_plain, meaning}
use Rattle.tau_sexpr.specs.Tree.{Tree, Trees, word, text, list, none, more, inside}

-- a word that stands before these bytes ends there
abbrev pub EndsWord : List ℕ → Type 0
EndsWord [] = Unit {0}
EndsWord (b ∷ bs) = ¬ IsWordByte b

-- a comment that stands before these bytes ends there: at the end, or at a line feed
abbrev pub EndsLine : List ℕ → Type 0
EndsLine [] = Unit {0}
EndsLine (b ∷ bs) = b ≡ 10

-- bytes in quotes that stand for themselves end there
abbrev pub EndsPlain : List ℕ → Type 0
EndsPlain [] = Unit {0}
EndsPlain (b ∷ bs) = is_plain b ≡ false

-- the bytes after an opening quote mean this text, up to its closing quote, and the rest is left
pub data Quotes : List ℕ → List ℕ → List ℕ → Type 0 where
  closing : {rest : List ℕ} → Quotes (34 ∷ rest) [] rest
  plain : {b : ℕ} {bs t rest : List ℕ} → IsTrue (is_plain b) → Quotes bs t rest → Quotes (b ∷ bs) (b ∷ t) rest
  pair : {b c : ℕ} {bs t rest : List ℕ} → meaning b ≡ Some c → Quotes bs t rest → Quotes (92 ∷ b ∷ bs) (c ∷ t) rest

-- the bytes spell these forms, in which d lists may stand inside one another, and the rest is left:
-- nothing, or a closing bracket and what follows it
pub data Spells : ℕ → List ℕ → Trees → List ℕ → Type 0 where
  at_end : {d : ℕ} → Spells d [] none []
  at_closing : {d : ℕ} {bs : List ℕ} → Spells d (41 ∷ bs) none (41 ∷ bs)
  a_blank : {d b : ℕ} {bs rest : List ℕ} {ts : Trees} → IsTrue (is_blank b) → Spells d bs ts rest → Spells d (b ∷ bs) ts rest
  a_comment : {d : ℕ} (line bs : List ℕ) {rest : List ℕ} {ts : Trees} → All (λ b. b ≢ 10) line → EndsLine bs → Spells d bs ts rest → Spells d (59 ∷ (line ++ bs)) ts rest
  a_word : {d b : ℕ} (w bs : List ℕ) {rest : List ℕ} {ts : Trees} → All IsWordByte (b ∷ w) → EndsWord bs → Spells d bs ts rest → Spells d (b ∷ (w ++ bs)) (more (word (b ∷ w)) ts) rest
  a_text : {d : ℕ} {bs t after rest : List ℕ} {ts : Trees} → Quotes bs t after → Spells d after ts rest → Spells d (34 ∷ bs) (more (text t) ts) rest
  a_list : {d : ℕ} {bs after rest : List ℕ} {us ts : Trees} → Spells d bs us (41 ∷ after) → Spells (suc d) after ts rest → Spells (suc d) (40 ∷ bs) (more (list us) ts) rest

-- the bytes, all of them, spell these forms, and no list is deeper than 200
abbrev pub IsSpelling : List ℕ → List Tree → Type 0
IsSpelling bs ts = Spells 200 bs (inside ts) []

-- the answer, or want of memory in its place
abbrev pub IsUnlessNoMemory : Result (List Tree) FormError → Result (List Tree) FormError → Type 0
IsUnlessNoMemory result answer = (result ≡ answer) ⊎ (result ≡ Err NoMemory)
