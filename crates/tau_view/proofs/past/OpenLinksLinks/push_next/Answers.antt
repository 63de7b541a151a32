use Rattle.std.proofs.Common.{sym, ◌∙◌}
use Rattle.std.proofs.lemmas.Result.{IfOk-weaker}
use Rattle.tau_points.specs.Members.{AddsAll}
use Rattle.tau_view.specs.Past.{Link, OpenLink}
use Rattle.tau_view.specs.Stored.{held}
use Rattle.tau_view.proofs.Links.{open_links}
use Rattle.tau_view.proofs.past.OpenLinksLinks.push_next.Goals as goal

pub returns-in_default : goal.returns-in_default
returns-in_default c =
    let v = held c.args.self.now.facts.now in
    let p = c.args.point.now in
    let old = c.args.stack.now.items in
    let new = c.push_next.new.stack.items in
    IfOk-weaker c.push_next.result (λ _. AddsAll (Link v p) old new) (λ _. AddsAll (OpenLink v p) old new)
    (λ _ a. open_links v p old new (λ closed. c.in_default.not-Closed (c.fate_of.ensures ∙ closed)) a) c.push_next.ensures
