-- The titles of message lines (docs/formats.md, "Pictures").
use Rattle.std.specs.Prelude.{ℕ, Bool, if◌then◌else◌, List, [], ◌∷◌, ◌++◌, codes}
use Rattle.tau_svg.specs.Markup.Texts.{cut}
use Rattle.tau_svg.specs.Markup.Lines.{Piece, plain, number, said}
use Rattle.tau_value.specs.Val.{Val}
use Rattle.tau_trace.specs.declared.step.Step.{Step}
use Rattle.tau_trace.specs.declared.step.Step.TheVariants.{Drop, Fall, Void, Lose, Echo, Heed, Repeat}
use Rattle.tau_scene.specs.Words.Texts.{who_text, value_text}
use Rattle.tau_layout.specs.declared.paths.senders.Origin.{Origin}
use Rattle.tau_layout.specs.declared.paths.sources.Source.{Source}
use Rattle.tau_layout.specs.declared.paths.sources.Source.TheVariants.{Post, Earlier, Drawn}

-- message m to t, with its value, of which at most 400 bytes stand
abbrev pub message_words : List (List ℕ) → ℕ → ℕ → Val → List Piece
message_words names m t v =
    plain (codes "message ") ∷ number m ∷ plain (codes " to ") ∷ said (who_text names t) ∷ plain (codes ", ") ∷ said (cut (value_text names v) 400) ∷ []

-- who sent it, and where
abbrev pub sent_words : List (List ℕ) → Origin → List Piece
sent_words names o = plain (codes ", sent by ") ∷ said (who_text names o.who) ∷ plain (codes " at ") ∷ number o.place ∷ []

abbrev pub source_words : List (List ℕ) → Source → List Piece
source_words names Post = plain (codes ", posted") ∷ []
source_words names (Earlier o) = sent_words names o
source_words names (Drawn s) = sent_words names s.origin

-- what becomes of it by the step that receives or loses it
abbrev pub receipt_word : Step → List ℕ
receipt_word (Drop t m) = codes ", dropped at "
receipt_word (Fall t m) = codes ", forces a fall at "
receipt_word (Void t m) = codes ", to an ended transactor at "
receipt_word (Echo t m) = codes ", to an ended transactor at "
receipt_word (Lose m) = codes ", lost at "
receipt_word (Heed t m) = codes ", heeded at "
receipt_word s = codes ", taken at "

-- the title of message m to t, which the step s at place k receives or loses
abbrev pub receipt_title : List (List ℕ) → ℕ → Step → ℕ → ℕ → Val → Source → List Piece
receipt_title names k s m t v source = message_words names m t v ++ (source_words names source ++ plain (receipt_word s) ∷ number k ∷ [])

abbrev pub send_word : Step → List ℕ
send_word (Repeat n) = codes ", repeated at "
send_word s = codes ", sent at "

abbrev pub later_word : Bool → List ℕ
later_word flies = if flies then codes ", in flight at the end" else codes ", received further on"

-- the title of message m to t, which the step s at place k makes and no drawn step receives or loses; whether it flies at the end
abbrev pub sent_title : List (List ℕ) → ℕ → Step → ℕ → ℕ → Val → Bool → List Piece
sent_title names k s m t v flies = message_words names m t v ++ plain (send_word s) ∷ number k ∷ plain (later_word flies) ∷ []

-- the title of the line from t to u, whom t creates at place k
abbrev pub new_title : List (List ℕ) → ℕ → ℕ → ℕ → List Piece
new_title names k t u = said (who_text names t) ∷ plain (codes " creates ") ∷ said (who_text names u) ∷ plain (codes " at ") ∷ number k ∷ []
