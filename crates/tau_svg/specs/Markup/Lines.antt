-- Lines of markup: one element each (docs/formats.md, "Pictures").
-- 10 is the line feed, 32 the space, 34 the quote, 47 the slash, 60 `<`, 61 `=`, 62 `>`.
use Rattle.std.specs.Prelude.{ℕ, List, [], ◌∷◌, ◌++◌, codes}
use Rattle.std.specs.List.{flat_map}
use Rattle.std.specs.Fmt.{decimal}
use Rattle.tau_svg.specs.Markup.Texts.{escaped}

-- a piece of a text or of the value of an attribute: bytes as they are, a number in decimal, or a text that is escaped
pub data Piece : Type 0 where
  plain : List ℕ → Piece
  number : ℕ → Piece
  said : List ℕ → Piece

pub record Attribute : Type 0 where
  pub name : List ℕ
  pub value : List Piece

-- what stands within an element: nothing, a text, or a title
pub data Content : Type 0 where
  empty : Content
  text : List Piece → Content
  titled : List Piece → Content

pub record Element : Type 0 where
  pub tag : List ℕ
  pub attributes : List Attribute
  pub content : Content

-- a line is an element, the begin or the end of one that holds the lines between the two, or constant: bytes as they are, one
-- or more lines
pub data Line : Type 0 where
  whole : Element → Line
  begins : List ℕ → List Attribute → Line
  ends : List ℕ → Line
  constant : List ℕ → Line

abbrev pub piece_bytes : Piece → List ℕ
piece_bytes (plain w) = w
piece_bytes (number n) = decimal n
piece_bytes (said s) = escaped s

abbrev pub pieces_bytes : List Piece → List ℕ
pieces_bytes ps = flat_map piece_bytes ps

-- ` name="value"`
abbrev pub attribute_bytes : Attribute → List ℕ
attribute_bytes a = 32 ∷ (a.name ++ 61 ∷ 34 ∷ (pieces_bytes a.value ++ 34 ∷ []))

abbrev pub attributes_bytes : List Attribute → List ℕ
attributes_bytes list = flat_map attribute_bytes list

-- `/>`, or `>`, the text and `</tag>`
abbrev pub content_bytes : List ℕ → Content → List ℕ
content_bytes tag empty = 47 ∷ 62 ∷ []
content_bytes tag (text ps) = 62 ∷ (pieces_bytes ps ++ 60 ∷ 47 ∷ (tag ++ 62 ∷ []))
content_bytes tag (titled ps) = codes "><title>" ++ (pieces_bytes ps ++ (codes "</title></" ++ (tag ++ 62 ∷ [])))

abbrev pub element_bytes : Element → List ℕ
element_bytes e = 60 ∷ (e.tag ++ (attributes_bytes e.attributes ++ content_bytes e.tag e.content))

abbrev pub line_bytes : Line → List ℕ
line_bytes (whole e) = element_bytes e
line_bytes (begins tag list) = 60 ∷ (tag ++ (attributes_bytes list ++ 62 ∷ []))
line_bytes (ends tag) = 60 ∷ 47 ∷ (tag ++ 62 ∷ [])
line_bytes (constant bytes) = bytes

-- the bytes of lines, each followed by a line feed
abbrev pub line_of : Line → List ℕ
line_of l = line_bytes l ++ 10 ∷ []

abbrev pub text_of : List Line → List ℕ
text_of ls = flat_map line_of ls

-- Lines behind what is written, from here on; each definition is what one call writes.

unfoldable pub with_tag : List ℕ → List ℕ → List ℕ
with_tag out tag = out ++ 60 ∷ tag

unfoldable pub with_name : List ℕ → List ℕ → List ℕ
with_name out name = out ++ 32 ∷ (name ++ 61 ∷ 34 ∷ [])

unfoldable pub with_piece : List ℕ → Piece → List ℕ
with_piece out p = out ++ piece_bytes p

unfoldable pub with_quote : List ℕ → List ℕ
with_quote out = out ++ 34 ∷ []

unfoldable pub with_end : List ℕ → List ℕ
with_end out = out ++ 47 ∷ 62 ∷ 10 ∷ []

unfoldable pub with_open : List ℕ → List ℕ
with_open out = out ++ 62 ∷ []

unfoldable pub with_close : List ℕ → List ℕ → List ℕ
with_close out tag = out ++ 60 ∷ 47 ∷ (tag ++ 62 ∷ 10 ∷ [])

unfoldable pub with_title : List ℕ → List ℕ
with_title out = out ++ codes "><title>"

unfoldable pub with_title_close : List ℕ → List ℕ → List ℕ
with_title_close out tag = out ++ (codes "</title></" ++ (tag ++ 62 ∷ 10 ∷ []))

unfoldable pub with_constant : List ℕ → List ℕ → List ℕ
with_constant out bytes = out ++ (bytes ++ 10 ∷ [])

unfoldable pub with_break : List ℕ → List ℕ
with_break out = out ++ 62 ∷ 10 ∷ []

abbrev pub with_pieces : List ℕ → List Piece → List ℕ
with_pieces out [] = out
with_pieces out (p ∷ ps) = with_pieces (with_piece out p) ps

abbrev pub with_attribute : List ℕ → Attribute → List ℕ
with_attribute out a = with_quote (with_pieces (with_name out a.name) a.value)

abbrev pub with_attributes : List ℕ → List Attribute → List ℕ
with_attributes out [] = out
with_attributes out (a ∷ list) = with_attributes (with_attribute out a) list

abbrev pub with_content : List ℕ → List ℕ → Content → List ℕ
with_content out tag empty = with_end out
with_content out tag (text ps) = with_close (with_pieces (with_open out) ps) tag
with_content out tag (titled ps) = with_title_close (with_pieces (with_title out) ps) tag

abbrev pub with_line : List ℕ → Line → List ℕ
with_line out (whole e) = with_content (with_attributes (with_tag out e.tag) e.attributes) e.tag e.content
with_line out (begins tag list) = with_break (with_attributes (with_tag out tag) list)
with_line out (ends tag) = with_close out tag
with_line out (constant bytes) = with_constant out bytes

abbrev pub with_lines : List ℕ → List Line → List ℕ
with_lines out [] = out
with_lines out (l ∷ ls) = with_lines (with_line out l) ls
