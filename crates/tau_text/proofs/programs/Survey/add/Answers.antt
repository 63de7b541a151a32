use Rattle.std.proofs.Common.{◌≡◌, ◌||◌, ◌++◌, nat_lt, length, codes, sym, ap, ap₂, subst, ◌∙◌}
use Rattle.std.proofs.lemmas.List.{length-map}
use Rattle.tau_sexpr.specs.Form.{tree_of}
use Rattle.tau_forms.specs.Readings.{IsOutline}
use Rattle.tau_text.specs.Parts.{before}
use Rattle.tau_text.proofs.SurveyLemmas.{marked_more, marked_by}
use Rattle.tau_text.proofs.programs.Survey.add.Goals as goal

pub returns : goal.returns
returns c front s =
    let items = c.items-items.result.now in
    let forms = c.args.forms.now in
    let place : c.place_of_mark.result ≡ length (before (codes "trace") forms) = c.place_of_mark.ensures ∙ ap (λ ts. length (before (codes "trace") ts)) c.items-items.ensures in
    let len : length items ≡ length forms = sym (length-map items tree_of) ∙ ap length c.items-items.ensures in
    record {
      outline = subst (λ ts. IsOutline (front ++ ts) c.add.new.self) c.items-items.ensures (c.in_ok-add.ensures front s.outline);
      marked = c.or_marked-self.ensures ∙ ap₂ (λ a b. a || b) s.marked (ap₂ nat_lt place len ∙ marked_by (codes "trace") forms) ∙ sym (marked_more (codes "trace") front forms);
    }
