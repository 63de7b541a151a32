-- Lines that are markup, whatever the texts in them (docs/formats.md, "Pictures").
-- 34 is the quote, 38 `&`, 60 `<`, 62 `>`.
use Rattle.std.specs.Prelude.{◌≡◌, ℕ, Bool, true, false, not, ◌==◌, ◌&&◌, ◌||◌, List, [], ◌∷◌, ◌++◌, All}
use Rattle.tau_svg.specs.Markup.Lines.{Piece, plain, number, said, Attribute, Content, empty, text, titled, Line, whole}
use Rattle.tau_svg.specs.Shapes.Shapes.{begin_line, title_line, legend_line, end_lines}
use Rattle.tau_svg.specs.Shapes.Fixed.{style_lines, symbol_lines, legend_lines}

-- bytes that may stand as they are in a name, in a value and in a text
abbrev pub is_plain : List ℕ → Bool
is_plain [] = true
is_plain (b ∷ bs) = not (b == 34 || (b == 38 || (b == 60 || b == 62))) && is_plain bs

-- the value of an attribute has such bytes and numbers, and no text
abbrev pub is_value : List Piece → Bool
is_value [] = true
is_value (plain w ∷ ps) = is_plain w && is_value ps
is_value (number n ∷ ps) = is_value ps
is_value (said s ∷ ps) = false

abbrev pub are_attributes : List Attribute → Bool
are_attributes [] = true
are_attributes (a ∷ list) = is_plain a.name && (is_value a.value && are_attributes list)

-- what stands within an element has such bytes, numbers, and texts, which are escaped
abbrev pub is_text : List Piece → Bool
is_text [] = true
is_text (plain w ∷ ps) = is_plain w && is_text ps
is_text (number n ∷ ps) = is_text ps
is_text (said s ∷ ps) = is_text ps

abbrev pub is_content : Content → Bool
is_content empty = true
is_content (text ps) = is_text ps
is_content (titled ps) = is_text ps

-- the line is one element
abbrev pub is_element : Line → Bool
is_element (whole e) = is_plain e.tag && (are_attributes e.attributes && is_content e.content)
is_element l = false

abbrev pub IsElement : Line → Type 0
IsElement l = is_element l ≡ true

-- the lines are one element, the picture: its begin, the title, the style sheet and the symbols, lines that are one element each, the
-- legend, and the ends of what was begun
pub record IsMarkup (lines : List Line) : Type 0 where
  pub width : ℕ
  pub height : ℕ
  pub steps : ℕ
  pub key : ℕ
  pub body : List Line
  pub elements : All IsElement body
  pub is : lines ≡ begin_line width height ∷ title_line steps ∷ (style_lines ++ (symbol_lines ++ (body ++ legend_line key ∷ (legend_lines ++ end_lines))))
