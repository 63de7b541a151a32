use Rattle.std.proofs.Common.{◌≡◌, length, map, codes, sym, ap, ◌∙◌, arith}
use Rattle.std.proofs.lemmas.List.{length-map}
use Rattle.tau_sexpr.specs.Form.{tree_of}
use Rattle.tau_text.specs.Parts.{before, is_marked}
use Rattle.tau_text.proofs.PartLemmas.{before_le, marked_below}
use Rattle.tau_text.proofs.PartialLemmas.{none_behind_last}
use Rattle.tau_text.proofs.by_parts.PartialText.begin.Goals as goal

pub overflow_sub-items : goal.overflow_sub-items
overflow_sub-items c =
    let items = c.items-items.result.now in
    omega (arith, c.place_of_mark-mark.ensures, before_le (codes "trace") (map tree_of items), length-map items tree_of)

pub returns : goal.returns
returns c =
    let forms = c.in_ok-forms.forms in
    let items = c.items-items.result.now in
    let mark : c.place_of_mark-mark.result ≡ length (before (codes "trace") forms) = c.place_of_mark-mark.ensures ∙ ap (λ ts. length (before (codes "trace") ts)) c.items-items.ensures in
    let all : length items ≡ length forms = sym (length-map items tree_of) ∙ ap length c.items-items.ensures in
    record {
      forms = forms;
      spelled = c.in_ok-forms.ensures.spelled;
      means = (marked_below (codes "trace") forms (omega (arith, c.if-items-mark-ne1.false, mark, all)), c.in_ok-text.ensures.means);
      sound = c.in_ok-text.ensures.sound;
      over = ap (is_marked (codes "report")) (sym (none_behind_last (codes "trace") forms (omega (arith, c.if-items-mark-ne1.false, mark, all))));
    }
