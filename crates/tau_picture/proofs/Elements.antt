-- Lines that are one element each.
use Rattle.std.proofs.Common.{◌≡◌, ℕ, suc, ◌-◌, ◌<◌, Bool, true, false, cond, ◌&&◌, List, [], ◌∷◌, ◌++◌, refl, sym, subst, arith}
use Rattle.std.specs.Prelude.{codes}
use Rattle.std.specs.List.{AllByRecursion, flat_map}
use Rattle.tau_svg.specs.Markup.Lines.{Piece, plain, number, said, empty, titled, Line}
use Rattle.tau_points.proofs.Membership.{all_append}
use Rattle.tau_trace.specs.declared.step.Step.{Step}
use Rattle.tau_trace.specs.declared.step.Step.TheVariants.{Drop, Lose, Repeat}
use Rattle.tau_svg.specs.Shapes.Shapes.{beside, line, rect, rect_of, rounded, path, symbol_at, text_at}
use Rattle.tau_svg.specs.Shapes.Each.{EachPlace, no_place, next_place, EachItem, no_item, next_item}
use Rattle.tau_scene.specs.declared.looks.kinds.StateLook.{StateLook}
use Rattle.tau_scene.specs.declared.looks.kinds.StateLook.TheVariants as states
use Rattle.tau_scene.specs.declared.looks.kinds.MarkLook.{MarkLook}
use Rattle.tau_scene.specs.declared.looks.kinds.MarkLook.TheVariants as marks
use Rattle.tau_scene.specs.declared.looks.kinds.RowLook.{RowLook}
use Rattle.tau_scene.specs.declared.looks.kinds.RowLook.TheVariants as rows
use Rattle.tau_scene.specs.declared.looks.kinds.EndLook.{EndLook}
use Rattle.tau_scene.specs.declared.looks.kinds.EndLook.TheVariants as ends
use Rattle.tau_layout.specs.declared.paths.spots.Spot.{Spot}
use Rattle.tau_layout.specs.declared.paths.sources.Source.{Source}
use Rattle.tau_layout.specs.declared.paths.sources.Source.TheVariants.{Post, Earlier, Drawn}
use Rattle.tau_layout.specs.Paths.Paths.{offset, line_end, receipt_path}
use Rattle.tau_drawing.specs.Marks.Marks.{symbol_word, undone_class}
use Rattle.tau_drawing.specs.Marks.Rows.{row_word}
use Rattle.tau_drawing.specs.States.Names.{state_class, end_symbol, end_class}
use Rattle.tau_value.specs.Val.{Val}
use Rattle.tau_drawing.specs.Messages.Titles.{receipt_word, send_word, later_word, receipt_title, sent_title}
use Rattle.tau_drawing.specs.Messages.Arrows.{line_kind, is_long, receipt_class, sent_class}
use Rattle.tau_picture.specs.Markup.{is_plain, is_value, is_text, is_element, IsElement}

abbrev pub Elements : List Line → Type 0
Elements ls = AllByRecursion IsElement ls

-- lines of places, of items, and of the items of a list

pub each_element : (P : ℕ → List Line → Type 0) (a b n : ℕ) → b < suc n → ((k : ℕ) (ls : List Line) → k < n → P k ls → Elements ls) → (ls : List Line) → EachPlace P a b ls → Elements ls
each_element P a b n le good ls no_place = tt
each_element P a b n le good ls (next_place {b = c} {ls = l} {ks = m} x p) =
    all_append IsElement l m (each_element P a c n (omega (arith, le)) good l x) (good c m (omega (arith, le)) p)

pub item_elements : {A : Type 0} (P : A → List Line → Type 0) → ((x : A) (ls : List Line) → P x ls → Elements ls) → (xs : List A) (ls : List Line) → EachItem P xs ls → Elements ls
item_elements P good xs ls no_item = tt
item_elements P good xs ls (next_item {xs = front} {x = x} {ls = l} {ks = m} more p) = all_append IsElement l m (item_elements P good front l more) (good x m p)

pub flat_elements : {A : Type 0} (f : A → List Line) → ((x : A) → Elements (f x)) → (xs : List A) → Elements (flat_map f xs)
flat_elements f good [] = tt
flat_elements f good (x ∷ xs) = all_append IsElement (f x) (flat_map f xs) (good x) (flat_elements f good xs)

pub as_elements : (ls ks : List Line) → ls ≡ ks → Elements ks → Elements ls
as_elements ls ks e good = subst Elements (sym e) good

pub cond_elements : (b : Bool) (ls ks : List Line) → Elements ls → Elements ks → Elements (cond b ls ks)
cond_elements true ls ks x y = x
cond_elements false ls ks x y = y

pub cond_element : (b : Bool) (l k : Line) → IsElement l → IsElement k → IsElement (cond b l k)
cond_element true l k x y = x
cond_element false l k x y = y

-- elements by the look of what they show

pub state_box : (look : StateLook) (x y width height radius : ℕ) (label : List ℕ) → is_element (rect (state_class look) x y width height (rounded radius) (titled (said label ∷ []))) ≡ true
state_box states.Fallen x y width height radius label = refl
state_box look x y width height radius label = refl

pub state_part : (look : StateLook) (x y width height : ℕ) → is_element (rect_of (state_class look) (codes "-s") x y width height empty) ≡ true
state_part states.Fallen x y width height = refl
state_part look x y width height = refl

pub state_span : (look : StateLook) (x y width height : ℕ) → is_element (rect_of (state_class look) (codes " flat") x y width height empty) ≡ true
state_span states.Fallen x y width height = refl
state_span look x y width height = refl

pub mark_use : (undone : Bool) (mark : MarkLook) (x y k : ℕ) (label : List ℕ) → is_element (line (codes "use") (undone_class undone ++ symbol_at (codes "#tau-") (symbol_word mark) x y) (titled (number k ∷ plain (codes " ") ∷ said label ∷ []))) ≡ true
mark_use true marks.Take x y k label = refl
mark_use true mark x y k label = refl
mark_use false marks.Take x y k label = refl
mark_use false mark x y k label = refl

pub row_text : (row : RowLook) (x y : ℕ) (label : List ℕ) → is_element (text_at (row_word row) x y (said label ∷ [])) ≡ true
row_text rows.Good x y label = refl
row_text row x y label = refl

pub end_use : (look : EndLook) (x y : ℕ) (label : List ℕ) → is_element (line (codes "use") (symbol_at (codes "#tau-end-") (end_symbol look) x y) (titled (said label ∷ []))) ≡ true
end_use ends.Kept x y label = refl
end_use look x y label = refl

pub end_mark : (look : EndLook) (x y : ℕ) → is_element (line (codes "use") (symbol_at (codes "#tau-end-") (end_symbol look) x y) empty) ≡ true
end_mark ends.Kept x y = refl
end_mark look x y = refl

pub end_text : (look : EndLook) (x y : ℕ) (label : List ℕ) → is_element (text_at (end_class look) x y (said label ∷ [])) ≡ true
end_text ends.Kept x y label = refl
end_text look x y label = refl

-- the lines of messages

and_true : (a b : Bool) → a ≡ true → b ≡ true → (a && b) ≡ true
and_true true b e f = f
and_true false b e f = cc

pub path_element : (kind way title : List Piece) → is_value kind ≡ true → is_value way ≡ true → is_text title ≡ true → is_element (path kind way (titled title)) ≡ true
path_element kind way title a b c =
    and_true (is_value kind && (is_value way && true)) (is_text title) (and_true (is_value kind) (is_value way && true) a (and_true (is_value way) true b refl)) c

kind_plain : (s : Step) → is_plain (line_kind s) ≡ true
kind_plain (Drop t m) = refl
kind_plain s = refl

long_value : (long : Bool) → is_value (cond long (plain (codes " long") ∷ []) []) ≡ true
long_value true = refl
long_value false = refl

pub receipt_kind : (k : ℕ) (s : Step) (source : Source) → is_value (receipt_class k s source) ≡ true
receipt_kind k s source = and_true (is_plain (line_kind s)) (is_value (cond (is_long k source) (plain (codes " long") ∷ []) [])) (kind_plain s) (long_value (is_long k source))

end_value : (s : Step) (right : Bool) (at : ℕ) (p : Spot) → is_value (line_end s right at p) ≡ true
end_value (Lose m) right at p = refl
end_value s right at p = refl

pub receipt_way : (wide : Bool) (top : ℕ) (s : Step) (m : ℕ) (source : Source) (p : Spot) → is_value (receipt_path wide top s m source p) ≡ true
receipt_way wide top s m Post p = refl
receipt_way wide top s m (Earlier o) p = end_value s false (p.x - offset wide s m) p
receipt_way wide top s m (Drawn q) p = end_value s q.right (beside q.right p.x (offset wide s m)) p

receipt_plain : (s : Step) → is_plain (receipt_word s) ≡ true
receipt_plain (Drop t m) = refl
receipt_plain s = refl

pub receipt_said : (names : List (List ℕ)) (k : ℕ) (s : Step) (m t : ℕ) (v : Val) (source : Source) → is_text (receipt_title names k s m t v source) ≡ true
receipt_said names k s m t v Post = and_true (is_plain (receipt_word s)) true (receipt_plain s) refl
receipt_said names k s m t v (Earlier o) = and_true (is_plain (receipt_word s)) true (receipt_plain s) refl
receipt_said names k s m t v (Drawn q) = and_true (is_plain (receipt_word s)) true (receipt_plain s) refl

send_plain : (s : Step) → is_plain (send_word s) ≡ true
send_plain (Repeat m) = refl
send_plain s = refl

later_plain : (flies : Bool) → is_plain (later_word flies) ≡ true
later_plain true = refl
later_plain false = refl

pub sent_kind : (flies : Bool) → is_value (plain (sent_class flies) ∷ []) ≡ true
sent_kind true = refl
sent_kind false = refl

pub sent_said : (names : List (List ℕ)) (k : ℕ) (s : Step) (m t : ℕ) (v : Val) (flies : Bool) → is_text (sent_title names k s m t v flies) ≡ true
sent_said names k s m t v flies = and_true (is_plain (send_word s)) (is_plain (later_word flies) && true) (send_plain s) (and_true (is_plain (later_word flies)) true (later_plain flies) refl)
