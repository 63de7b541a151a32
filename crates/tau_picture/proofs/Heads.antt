-- The colour of the heads of links stands where a link is drawn.
use Rattle.std.proofs.Common.{◌≡◌, ℕ, ◌+◌, ◌≤◌, ◌<◌, List, [], ◌∷◌, ◌++◌, length, length-append, refl, sym, ap, ◌∙◌, subst, arith}
use Rattle.tau_svg.specs.Markup.Lines.{Line, line_bytes, line_of, text_of, with_line, with_lines}
use Rattle.tau_svg.proofs.LineLemmas.{lines_appended, lines_joined}
use Rattle.tau_explain.specs.declared.chains.chained.Chained.{Chained}
use Rattle.tau_trace.specs.Run.{Run}
use Rattle.tau_svg.specs.Shapes.Each.{EachItem, Writes}
use Rattle.tau_layout.specs.Plans.{Plan}
use Rattle.tau_scene.specs.declared.looks.looks.Looks.{Looks}
use Rattle.tau_picture.specs.Chains.{LinkLines, head_line, head_lines, AreLinkLines}

-- a text grows by lines
grows : (out : List ℕ) (l : Line) (ls : List Line) → length out < length (with_lines out (l ∷ ls))
grows out l ls =
    let all : length (with_lines out (l ∷ ls)) ≡ length (out ++ text_of (l ∷ ls)) = ap length (lines_appended out (l ∷ ls)) in
    let line : length (line_of l) ≡ length (line_bytes l) + 1 = length-append (line_bytes l) (10 ∷ []) in
    omega (arith, all, length-append out (text_of (l ∷ ls)), length-append (line_of l) (text_of ls), line)

no_head : (out : List ℕ) (ls : List Line) → length (with_lines out ls) ≤ length out → ls ≡ ls ++ head_lines ls
no_head out [] le = refl
no_head out (l ∷ ls) le = absurd (omega (arith, le, grows out l ls))

one_head : (out : List ℕ) (ls : List Line) → length out < length (with_lines out ls) → head_lines ls ≡ head_line ∷ []
one_head out [] lt = absurd (omega (arith, lt))
one_head out (l ∷ ls) lt = refl

module _ (T : Run) (plan : Plan) (looks : Looks) (chain : List Chained) where
  pub without_head : (old new : List ℕ) → Writes (EachItem (LinkLines T plan looks) chain) old new → length new ≤ length old → Writes (AreLinkLines T plan looks chain) old new
  without_head old new w le = record {
    lines = w.lines;
    told = record { links = w.lines; links_are = w.told; are = no_head old w.lines (subst (λ (x : List ℕ). length x ≤ length old) w.are le) };
    are = w.are;
  }

  pub with_head : (old middle new : List ℕ) → Writes (EachItem (LinkLines T plan looks) chain) old middle → length old < length middle → new ≡ with_line middle head_line → Writes (AreLinkLines T plan looks chain) old new
  with_head old middle new w lt e = record {
    lines = w.lines ++ head_lines w.lines;
    told = record { links = w.lines; links_are = w.told; are = refl };
    are = e ∙ ap (λ x. with_lines x (head_line ∷ [])) w.are ∙ sym (lines_joined old w.lines (head_line ∷ []))
        ∙ ap (λ h. with_lines old (w.lines ++ h)) (sym (one_head old w.lines (subst (λ (x : List ℕ). length old < length x) w.are lt)));
  }
