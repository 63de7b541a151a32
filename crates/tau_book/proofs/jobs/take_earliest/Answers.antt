use Rattle.std.proofs.Common.{◌≡◌, ◌<◌, ◌∙◌, List, length, sym, subst}
use Rattle.std.specs.Prelude.{slice_get}
use Rattle.tau_eval.specs.Turn.{TurnSoFar}
use Rattle.tau_book.specs.Offers.{earliest}
use Rattle.tau_book.proofs.JobLists.{without_earliest}
use Rattle.tau_book.proofs.jobs.take_earliest.Goals as goal

pub returns-clause-others : goal.returns-clause-others
returns-clause-others c =
    let jobs : List TurnSoFar = c.args.jobs.now.items in
    let is = subst (λ (js : List TurnSoFar). (c.in_ok-place.place < length js) × (earliest js ≡ slice_get js c.in_ok-place.place)) c.deref.ensures.value c.in_ok-place.ensures in
    c.remove.ensures.items ∙ sym (without_earliest jobs c.in_ok-place.place c.remove.result is.0 c.requires is.1)
