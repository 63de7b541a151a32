-- Lines that are written stand behind what was written.
use Rattle.std.proofs.Common.{◌≡◌, ℕ, List, [], ◌∷◌, ◌++◌, refl, sym, ap, ◌∙◌, append_assoc, append-nil}
use Rattle.tau_svg.specs.Markup.Lines.{Piece, Attribute, Content, empty, text, titled, Line, whole, begins, ends, constant, piece_bytes, pieces_bytes, attribute_bytes, attributes_bytes, content_bytes, line_of, text_of, with_tag, with_name, with_piece, with_quote, with_end, with_open, with_close, with_title, with_title_close, with_constant, with_break, with_pieces, with_attribute, with_attributes, with_content, with_line, with_lines}

pub pieces_appended : (out : List ℕ) (ps : List Piece) → with_pieces out ps ≡ out ++ pieces_bytes ps
unfolding with_piece
pieces_appended out [] = sym (append-nil out)
pieces_appended out (p ∷ ps) = pieces_appended (out ++ piece_bytes p) ps ∙ append_assoc out (piece_bytes p) (pieces_bytes ps)

pub attribute_appended : (out : List ℕ) (a : Attribute) → with_attribute out a ≡ out ++ attribute_bytes a
unfolding with_quote with_name
attribute_appended out a = rw (pieces_appended (with_name out a.name) a.value) (simp append_assoc)

pub attributes_appended : (out : List ℕ) (list : List Attribute) → with_attributes out list ≡ out ++ attributes_bytes list
attributes_appended out [] = sym (append-nil out)
attributes_appended out (a ∷ list) = attributes_appended (with_attribute out a) list ∙ ap (λ x. x ++ attributes_bytes list) (attribute_appended out a) ∙ append_assoc out (attribute_bytes a) (attributes_bytes list)

pub content_appended : (out tag : List ℕ) (c : Content) → with_content out tag c ≡ out ++ (content_bytes tag c ++ 10 ∷ [])
unfolding with_end with_open with_close with_title with_title_close
content_appended out tag empty = refl
content_appended out tag (text ps) = rw (pieces_appended (with_open out) ps) (simp append_assoc)
content_appended out tag (titled ps) = rw (pieces_appended (with_title out) ps) (simp append_assoc)

pub line_appended : (out : List ℕ) (l : Line) → with_line out l ≡ out ++ line_of l
unfolding with_tag with_close with_constant with_break
line_appended out (whole e) = rw (content_appended (with_attributes (with_tag out e.tag) e.attributes) e.tag e.content, attributes_appended (with_tag out e.tag) e.attributes) (simp append_assoc)
line_appended out (begins tag list) = rw (attributes_appended (with_tag out tag) list) (simp append_assoc)
line_appended out (ends tag) = simp append_assoc
line_appended out (constant bytes) = refl

pub lines_appended : (out : List ℕ) (ls : List Line) → with_lines out ls ≡ out ++ text_of ls
lines_appended out [] = sym (append-nil out)
lines_appended out (l ∷ ls) = lines_appended (with_line out l) ls ∙ ap (λ x. x ++ text_of ls) (line_appended out l) ∙ append_assoc out (line_of l) (text_of ls)

pub lines_joined : (out : List ℕ) (ls ks : List Line) → with_lines out (ls ++ ks) ≡ with_lines (with_lines out ls) ks
lines_joined out [] ks = refl
lines_joined out (l ∷ ls) ks = lines_joined (with_line out l) ls ks
