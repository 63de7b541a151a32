use Rattle.std.proofs.Common.{◌≡◌, ◌++◌, [], map, sym, subst, arith, append_assoc, append-nil}
use Rattle.tau_sexpr.specs.Form.{tree_of}
use Rattle.tau_sexpr.specs.Rest.{forms_from, behind}
use Rattle.tau_forms.specs.Readings.{HasTaken}
use Rattle.tau_text.specs.Faults.{ProgramFault}
use Rattle.tau_text.proofs.AnswerLemmas.{from_bytes, from_forms, from_program}
use Rattle.tau_text.proofs.SurveyLemmas.{reads_first, reads_on, first_fault, all_spelled, what_is_left, same_forms}
use Rattle.tau_text.proofs.programs.add_rest.Goals as goal

pub loop-at-init : goal.loop-at-init
loop-at-init c = record {
  high = c.requires.within;
  more = [];
  read = reads_first c.args.bytes.now c.args.start;
  taken = λ ts front spelled read taken. subst (λ us. HasTaken ts us c.args.builder.now) (sym (append-nil front)) taken;
}

pub add-requires : goal.add-requires
add-requires c =
    let bs = c.args.bytes.now in
    let i = c.loop-at.invariant in
    let r = c.requires in
    let fs = map tree_of c.items.result.now in
    let next = subst (λ fs. forms_from bs c.loop-at.at ≡ behind fs (forms_from bs c.in_ok-forms.next)) (sym c.items.ensures) c.in_ok-forms.ensures.read in
    let whole = reads_on bs 0 c.args.start c.loop-at.at r.front i.more r.read i.read in
    let left = what_is_left bs c.loop-at.at c.in_ok-forms.next (r.front ++ i.more) fs r.forms whole next r.spelled in
    record { ts = r.forms; before = r.front ++ i.more; after = left.0; is = left.1; taken = i.taken r.forms r.front r.spelled r.read r.taken }

pub loop-at-preserved : goal.loop-at-preserved
loop-at-preserved c =
    let bs = c.args.bytes.now in
    let i = c.loop-at.invariant in
    let fs = map tree_of c.items.result.now in
    let next = subst (λ fs. forms_from bs c.loop-at.at ≡ behind fs (forms_from bs c.in_ok-forms.next)) (sym c.items.ensures) c.in_ok-forms.ensures.read in
    record {
      high = c.in_ok-forms.ensures.within;
      more = i.more ++ fs;
      read = reads_on bs c.args.start c.loop-at.at c.in_ok-forms.next i.more fs i.read next;
      taken = λ ts front spelled read taken.
          let whole = reads_on bs 0 c.args.start c.loop-at.at front i.more read i.read in
          let left = what_is_left bs c.loop-at.at c.in_ok-forms.next (front ++ i.more) fs ts whole next spelled in
          subst (λ us. HasTaken ts us c.add.new.self) (append_assoc front i.more fs) (c.in_ok-add.ensures.taken ts (front ++ i.more) left.0 left.1 (i.taken ts front spelled read taken));
    }

pub returns-in_err-forms-clause-fault : goal.returns-in_err-forms-clause-fault
returns-in_err-forms-clause-fault c =
    let bs = c.args.bytes.now in
    let i = c.loop-at.invariant in
    let r = c.requires in
    let e = c.in_err-forms.field-0.0 in
    let whole = reads_on bs 0 c.args.start c.loop-at.at r.front i.more r.read i.read in
    from_bytes ProgramFault c.from_residual.result bs e c.from_residual.ensures.1 (λ some. first_fault bs c.loop-at.at (r.front ++ i.more) e whole (c.in_err-forms.ensures.fault some))

pub returns-in_err-add-clause-fault : goal.returns-in_err-add-clause-fault
returns-in_err-add-clause-fault c =
    let bs = c.args.bytes.now in
    let i = c.loop-at.invariant in
    let r = c.requires in
    let e = c.in_err-add.field-0.0 in
    let fs = map tree_of c.items.result.now in
    let next = subst (λ fs. forms_from bs c.loop-at.at ≡ behind fs (forms_from bs c.in_ok-forms.next)) (sym c.items.ensures) c.in_ok-forms.ensures.read in
    let whole = reads_on bs 0 c.args.start c.loop-at.at r.front i.more r.read i.read in
    let left = what_is_left bs c.loop-at.at c.in_ok-forms.next (r.front ++ i.more) fs r.forms whole next r.spelled in
    from_forms ProgramFault c.from_residual-in_err-add.result bs r.forms r.spelled
    (from_program c.from_residual-in_err-add.result r.forms e c.from_residual-in_err-add.ensures.1 (c.in_err-add.ensures.fault r.forms (r.front ++ i.more) left.0 left.1 (i.taken r.forms r.front r.spelled r.read r.taken)))

pub returns-clause-taken : goal.returns-clause-taken
returns-clause-taken c ts front spelled read begun =
    let bs = c.args.bytes.now in
    let i = c.loop-at.invariant in
    let whole = reads_on bs 0 c.args.start c.loop-at.at front i.more read i.read in
    let all = all_spelled bs c.loop-at.at (front ++ i.more) (omega arith) whole in
    subst (λ us. HasTaken ts us c.loop-at.builder) (same_forms bs (front ++ i.more) ts all spelled) (i.taken ts front spelled read begun)
