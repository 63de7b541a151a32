use Rattle.std.proofs.Common.{◌≡◌, ap, sym, subst, ◌∙◌}
use Rattle.tau_sexpr.specs.Rest.{forms_from, behind}
use Rattle.tau_text.specs.Inner.Surveyed.{joined}
use Rattle.tau_text.proofs.SurveyLemmas.{reads_on, joined_more}
use Rattle.tau_text.proofs.front.Front.keep.Goals as goal

pub returns-in_ok-push : goal.returns-in_ok-push
returns-in_ok-push c bytes within more f =
    let front = c.args.self.now in
    let forms = c.args.forms in
    let next = subst (λ n. forms_from bytes n ≡ behind forms (forms_from bytes c.args.to)) (sym c.if-self-from.true) more in
    record {
      within = within;
      read = reads_on bytes 0 front.end c.args.to (joined front.pieces.items) forms f.read next
          ∙ ap (λ ts. behind ts (forms_from bytes c.args.to)) (sym (ap joined c.in_ok-push.ensures.items ∙ joined_more front.pieces.items forms));
    }

pub returns-else-self-from : goal.returns-else-self-from
returns-else-self-from c bytes within more f = f
