-- Parts that are written one behind the other.
use Rattle.std.proofs.Common.{◌≡◌, ℕ, List, [], ◌∷◌, ◌++◌, refl, sym, ap, ◌∙◌}
use Rattle.tau_svg.specs.Markup.Lines.{with_line, with_lines}
use Rattle.tau_svg.proofs.LineLemmas.{lines_joined}
use Rattle.tau_svg.specs.declared.shapes.grid.Grid.{Grid}
use Rattle.tau_svg.specs.Shapes.Shapes.{begin_line, title_line, paper_line}
use Rattle.tau_svg.specs.Shapes.Fixed.{style_lines, symbol_lines}
use Rattle.tau_svg.specs.Markup.Lines.{Line}
use Rattle.tau_svg.specs.Shapes.Each.{EachItem, Writes}
use Rattle.tau_svg.proofs.Writing.{both, told_as}
use Rattle.tau_tree.specs.declared.programs.Program.{Program}
use Rattle.tau_trace.specs.Run.{Run, len}
use Rattle.tau_layout.specs.Plans.{Plan, grid}
use Rattle.tau_scene.specs.declared.looks.looks.Looks.{Looks}
use Rattle.tau_drawing.specs.Lanes.Bands.{AreNodeBands}
use Rattle.tau_drawing.specs.Lanes.LaneLines.{AreLaneLines}
use Rattle.tau_drawing.specs.Lanes.NameLines.{AreNameLines}
use Rattle.tau_layout.specs.Paths.Guides.{AreGuides}
use Rattle.tau_drawing.specs.Messages.Messages.{AreMessageLines}
use Rattle.tau_drawing.specs.Marks.Marks.{AreMarks}
use Rattle.tau_drawing.specs.Marks.Rows.{AreRows}
use Rattle.tau_drawing.specs.States.StripLines.{AreStripLines}
use Rattle.tau_drawing.specs.States.StateLines.{AreStateLines}
use Rattle.tau_drawing.specs.States.EndLines.{AreEndLines}
use Rattle.tau_explain.specs.declared.chains.chained.Chained.{Chained}
use Rattle.tau_picture.specs.Chains.{FrameLines, AreLinkLines, RingLines, AreChainLines}
use Rattle.tau_picture.specs.declared.asking.Asked.{Asked}
use Rattle.tau_picture.specs.Pictures.{begin_lines, key_lines, AreCauseLines}
use Rattle.tau_picture.specs.Inner.Asked.{place_asked, cause_asked}
use Rattle.tau_picture.specs.Inner.Drawing.{AreMiddle, AreRest}

-- lines that P tells, and behind them lines that Q tells
record Then (P Q : List Line → Type 0) (lines : List Line) : Type 0 where
  front : List Line
  front_is : P front
  rest : List Line
  rest_is : Q rest
  is : lines ≡ front ++ rest

behind : (P Q : List Line → Type 0) (out middle new : List ℕ) → Writes P out middle → Writes Q middle new → Writes (Then P Q) out new
behind P Q out middle new a b = both P Q (Then P Q) out middle new a b (λ ls ks p q. record { front = ls; front_is = p; rest = ks; rest_is = q; is = refl })

pub middle_parts : (P : Program) (T : Run) (plan : Plan) (looks : Looks) (o0 o1 o2 o3 o4 o5 o6 o7 o8 : List ℕ)
    → Writes (AreStripLines T plan looks) o0 o1 → Writes (AreNodeBands T plan) o1 o2 → Writes (AreLaneLines T plan) o2 o3 → Writes (AreGuides T plan) o3 o4
    → Writes (AreStateLines T plan looks) o4 o5 → Writes (AreMessageLines P T plan) o5 o6 → Writes (AreMarks T plan looks.steps.items) o6 o7
    → Writes (AreNameLines T plan) o7 o8 → Writes (AreMiddle P T plan looks) o0 o8
middle_parts P T plan looks o0 o1 o2 o3 o4 o5 o6 o7 o8 a b c d e f g h =
    let A = AreStripLines T plan looks in
    let B = AreNodeBands T plan in
    let C = AreLaneLines T plan in
    let D = AreGuides T plan in
    let E = AreStateLines T plan looks in
    let F = AreMessageLines P T plan in
    let G = AreMarks T plan looks.steps.items in
    let H = AreNameLines T plan in
    let g' = behind G H o6 o7 o8 g h in
    let f' = behind F (Then G H) o5 o6 o8 f g' in
    let e' = behind E (Then F (Then G H)) o4 o5 o8 e f' in
    let d' = behind D (Then E (Then F (Then G H))) o3 o4 o8 d e' in
    let c' = behind C (Then D (Then E (Then F (Then G H)))) o2 o3 o8 c d' in
    let b' = behind B (Then C (Then D (Then E (Then F (Then G H))))) o1 o2 o8 b c' in
    let a' = behind A (Then B (Then C (Then D (Then E (Then F (Then G H)))))) o0 o1 o8 a b' in
    told_as (Then A (Then B (Then C (Then D (Then E (Then F (Then G H))))))) (AreMiddle P T plan looks) o0 o8
    (λ ls t0. let t1 = t0.rest_is in let t2 = t1.rest_is in let t3 = t2.rest_is in let t4 = t3.rest_is in let t5 = t4.rest_is in let t6 = t5.rest_is in
    record {
      strip = t0.front;
      strip_is = t0.front_is;
      nodes = t1.front;
      nodes_are = t1.front_is;
      lanes = t2.front;
      lanes_are = t2.front_is;
      guides = t3.front;
      guides_are = t3.front_is;
      states = t4.front;
      states_are = t4.front_is;
      messages = t5.front;
      messages_are = t5.front_is;
      marks = t6.front;
      marks_are = t6.front_is;
      names = t6.rest;
      names_are = t6.rest_is;
      is = t0.is ∙ ap (λ x. t0.front ++ x) (t1.is ∙ ap (λ x. t1.front ++ x) (t2.is ∙ ap (λ x. t2.front ++ x) (t3.is ∙ ap (λ x. t3.front ++ x) (t4.is ∙ ap (λ x. t4.front ++ x) (t5.is ∙ ap (λ x. t5.front ++ x) t6.is)))));
    }) a'

pub rest_parts : (T : Run) (plan : Plan) (looks : Looks) (a : Asked) (o0 o1 o2 o3 o4 : List ℕ)
    → Writes (AreCauseLines T plan looks (place_asked a) (cause_asked a)) o0 o1 → Writes (AreRows T plan looks.steps.items) o1 o2 → Writes (AreEndLines T plan looks) o2 o3 → Writes (λ ls. ls ≡ key_lines plan) o3 o4
    → Writes (AreRest T plan looks a) o0 o4
rest_parts T plan looks asked o0 o1 o2 o3 o4 a b c d =
    let A = AreCauseLines T plan looks (place_asked asked) (cause_asked asked) in
    let B = AreRows T plan looks.steps.items in
    let C = AreEndLines T plan looks in
    let D : List Line → Type 0 = λ ls. ls ≡ key_lines plan in
    let c' = behind C D o2 o3 o4 c d in
    let b' = behind B (Then C D) o1 o2 o4 b c' in
    let a' = behind A (Then B (Then C D)) o0 o1 o4 a b' in
    told_as (Then A (Then B (Then C D))) (AreRest T plan looks asked) o0 o4
    (λ ls t0. let t1 = t0.rest_is in let t2 = t1.rest_is in
    record {
      chain = t0.front;
      chain_is = t0.front_is;
      rows = t1.front;
      rows_are = t1.front_is;
      ends = t2.front;
      ends_are = t2.front_is;
      is = t0.is ∙ ap (λ x. t0.front ++ x) (t1.is ∙ ap (λ x. t1.front ++ x) (t2.is ∙ ap (λ x. t2.front ++ x) t2.rest_is));
    }) a'

pub chain_parts : (T : Run) (plan : Plan) (looks : Looks) (k : ℕ) (chain : List Chained) (o0 o1 o2 o3 : List ℕ)
    → Writes (EachItem (FrameLines plan looks) chain) o0 o1 → Writes (AreLinkLines T plan looks chain) o1 o2 → Writes (RingLines T plan k) o2 o3
    → Writes (AreChainLines T plan looks k chain) o0 o3
chain_parts T plan looks k chain o0 o1 o2 o3 a b c =
    let A = EachItem (FrameLines plan looks) chain in
    let B = AreLinkLines T plan looks chain in
    let C = RingLines T plan k in
    let b' = behind B C o1 o2 o3 b c in
    let a' = behind A (Then B C) o0 o1 o3 a b' in
    told_as (Then A (Then B C)) (AreChainLines T plan looks k chain) o0 o3
    (λ ls t0. let t1 = t0.rest_is in
    record {
      frames = t0.front;
      frames_are = t0.front_is;
      links = t1.front;
      links_are = t1.front_is;
      ring = t1.rest;
      ring_is = t1.rest_is;
      is = t0.is ∙ ap (λ x. t0.front ++ x) t1.is;
    }) a'

pub begin_parts : (T : Run) (plan : Plan) (g : Grid) (n : ℕ) → g ≡ grid plan → n ≡ len T → (o0 o1 o2 o3 o4 o5 : List ℕ)
    → o1 ≡ with_line o0 (begin_line g.width g.height) → o2 ≡ with_line o1 (title_line n) → o3 ≡ with_lines o2 style_lines → o4 ≡ with_lines o3 symbol_lines → o5 ≡ with_line o4 (paper_line g.width g.height)
    → o5 ≡ with_lines o0 (begin_lines T plan)
begin_parts T plan g n eg en o0 o1 o2 o3 o4 o5 a b c d e =
    let paper = paper_line g.width g.height in
    let front = with_line (with_line o0 (begin_line g.width g.height)) (title_line n) in
    e ∙ ap (λ x. with_line x paper) (d ∙ ap (λ x. with_lines x symbol_lines) (c ∙ ap (λ x. with_lines x style_lines) (b ∙ ap (λ x. with_line x (title_line n)) a)))
    ∙ sym (lines_joined (with_lines front style_lines) symbol_lines (paper ∷ []))
    ∙ sym (lines_joined front style_lines (symbol_lines ++ paper ∷ []))
    ∙ (λ i. with_lines o0 (begin_line (eg i).width (eg i).height ∷ title_line (en i) ∷ (style_lines ++ (symbol_lines ++ paper_line (eg i).width (eg i).height ∷ []))))

pub three_parts : (a b c : List Line) (o0 o1 o2 o3 : List ℕ) → o1 ≡ with_lines o0 a → o2 ≡ with_lines o1 b → o3 ≡ with_lines o2 c → o3 ≡ with_lines o0 (a ++ (b ++ c))
three_parts a b c o0 o1 o2 o3 ea eb ec =
    ec ∙ ap (λ x. with_lines x c) (eb ∙ ap (λ x. with_lines x b) ea) ∙ sym (lines_joined (with_lines o0 a) b c) ∙ sym (lines_joined o0 a (b ++ c))
