use Rattle.std.proofs.Common.{◌≡◌, ◌++◌, nat_lt, length, map, codes, refl, sym, ap, ◌∙◌, subst, arith}
use Rattle.std.proofs.lemmas.List.{length-map, length-take-le}
use Rattle.tau_sexpr.specs.Form.{tree_of}
use Rattle.tau_script.specs.Openings.{program_opening}
use Rattle.tau_steps.specs.Meaning.{MeansSteps}
use Rattle.tau_text.specs.Parts.{before, is_marked, step_forms}
use Rattle.tau_text.proofs.PartLemmas.{before_le}
use Rattle.tau_text.proofs.PartialLemmas.{forms_before, marked_tells, over_more, steps_more}
use Rattle.tau_text.proofs.by_parts.PartialText.add_part.Goals as goal

pub returns-then-self : goal.returns-then-self
returns-then-self c front lines read =
    over_more front c.args.part.now c.args.self.now c.in_ok-forms.forms lines read c.if-self.true c.in_ok-forms.ensures.spelled

pub slice_bounds-add_steps-end : goal.slice_bounds-add_steps-end
slice_bounds-add_steps-end c =
    let items = c.items-items.result.now in
    sym (length-take-le c.place_of_mark-end.result items (omega (arith, c.place_of_mark-end.ensures, before_le (codes "report") (map tree_of items), length-map items tree_of)))

pub returns : goal.returns
returns c front lines read =
    let items = c.items-items.result.now in
    let forms = c.in_ok-forms.forms in
    let end = c.place_of_mark-end.result in
    let told = forms_before (codes "report") items forms end c.items-items.ensures c.place_of_mark-end.ensures in
    let number : nat_lt end (length items) ≡ is_marked (codes "report") forms =
    ap (λ n. nat_lt n (length items)) c.place_of_mark-end.ensures ∙ ap (nat_lt (length (before (codes "report") (map tree_of items)))) (sym (length-map items tree_of)) ∙ marked_tells (codes "report") (map tree_of items) ∙ ap (is_marked (codes "report")) c.items-items.ensures in
    let o = program_opening c.args.self.now.text.program in
    let more = c.in_ok-add_steps.ensures.steps o (step_forms read.forms) read.means.1.steps in
    steps_more front c.args.part.now c.args.self.now _ forms lines read c.if-self.false c.in_ok-forms.ensures.spelled refl number (subst (λ x. MeansSteps o (step_forms read.forms ++ x) c.add_steps.new.trace.run) told more)
