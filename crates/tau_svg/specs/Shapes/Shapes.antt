-- Elements of pictures.
use Rattle.std.specs.Prelude.{ℕ, ◌+◌, ◌-◌, Bool, if◌then◌else◌, List, [], ◌∷◌, codes}
use Rattle.tau_svg.specs.Markup.Lines.{Piece, plain, number, Attribute, Content, text, Line, whole, begins, ends, empty}

-- an attribute whose value is a word, or a number
abbrev pub is_word : List ℕ → List ℕ → Attribute
is_word name value = record { name = name; value = plain value ∷ [] }

abbrev pub is_number : List ℕ → ℕ → Attribute
is_number name value = record { name = name; value = number value ∷ [] }

abbrev pub class : List ℕ → Attribute
class value = is_word (codes "class") value

abbrev pub line : List ℕ → List Attribute → Content → Line
line tag attributes content = whole (record { tag = tag; attributes = attributes; content = content })

-- the place and the size of a rectangle
abbrev pub box : ℕ → ℕ → ℕ → ℕ → List Attribute → List Attribute
box x y width height more = is_number (codes "x") x ∷ is_number (codes "y") y ∷ is_number (codes "width") width ∷ is_number (codes "height") height ∷ more

abbrev pub rect : List ℕ → ℕ → ℕ → ℕ → ℕ → List Attribute → Content → Line
rect name x y width height more content = line (codes "rect") (class name ∷ box x y width height more) content

-- a rectangle whose class has an ending
abbrev pub rect_of : List ℕ → List ℕ → ℕ → ℕ → ℕ → ℕ → Content → Line
rect_of name ending x y width height content =
    line (codes "rect") (record { name = codes "class"; value = plain name ∷ plain ending ∷ [] } ∷ box x y width height []) content

-- round corners
abbrev pub rounded : ℕ → List Attribute
rounded radius = is_number (codes "rx") radius ∷ []

-- a text at a place
abbrev pub text_at : List ℕ → ℕ → ℕ → List Piece → Line
text_at name x y pieces = line (codes "text") (class name ∷ is_number (codes "x") x ∷ is_number (codes "y") y ∷ []) (text pieces)

-- a symbol at a place
abbrev pub symbol_at : List ℕ → List ℕ → ℕ → ℕ → List Attribute
symbol_at prefix symbol x y = record { name = codes "xlink:href"; value = plain prefix ∷ plain symbol ∷ [] } ∷ is_number (codes "x") x ∷ is_number (codes "y") y ∷ []

-- a path
abbrev pub path : List Piece → List Piece → Content → Line
path name data_of content = line (codes "path") (record { name = codes "class"; value = name } ∷ record { name = codes "d"; value = data_of } ∷ []) content

-- a letter or a space and a number, and a letter and two numbers
abbrev pub go : List ℕ → ℕ → List Piece
go letter x = plain letter ∷ number x ∷ []

abbrev pub go_to : List ℕ → ℕ → ℕ → List Piece
go_to letter x y = plain letter ∷ number x ∷ plain (codes " ") ∷ number y ∷ []

-- a number to the right of another, or to the left of it
abbrev pub beside : Bool → ℕ → ℕ → ℕ
beside right x off = if right then x + off else x - off

-- the part of the plane that is seen
abbrev pub view_box : ℕ → ℕ → Attribute
view_box width height = record { name = codes "viewBox"; value = plain (codes "0 0 ") ∷ number width ∷ plain (codes " ") ∷ number height ∷ [] }

-- the begin of a picture so wide and so high
abbrev pub begin_line : ℕ → ℕ → Line
begin_line width height = begins (codes "svg") (is_word (codes "xmlns") (codes "http://www.w3.org/2000/svg") ∷ is_word (codes "xmlns:xlink") (codes "http://www.w3.org/1999/xlink") ∷ is_word (codes "version") (codes "1.1") ∷ class (codes "tau") ∷ is_number (codes "width") width ∷ is_number (codes "height") height ∷ view_box width height ∷ is_word (codes "xml:space") (codes "preserve") ∷ [])

abbrev pub title_line : ℕ → Line
title_line steps = line (codes "title") [] (text (plain (codes "A run of ") ∷ number steps ∷ plain (codes " steps") ∷ []))

abbrev pub paper_line : ℕ → ℕ → Line
paper_line width height = rect (codes "paper") 0 0 width height [] empty

-- the begin of the legend
abbrev pub moved_by : ℕ → Attribute
moved_by y = record { name = codes "transform"; value = plain (codes "translate(24 ") ∷ number y ∷ plain (codes ")") ∷ [] }

abbrev pub legend_line : ℕ → Line
legend_line y = begins (codes "g") (moved_by y ∷ [])

-- the end of the group of the legend, and of the picture
abbrev pub end_lines : List Line
end_lines = ends (codes "g") ∷ ends (codes "svg") ∷ []
