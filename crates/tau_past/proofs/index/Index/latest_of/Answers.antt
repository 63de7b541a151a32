use Rattle.std.proofs.Common.{subst, sym, ◌∙◌, Option, ℕ, ◌≡◌}
use Rattle.std.specs.HashMap.{get}
use Rattle.tau_trace.specs.Run.{len}
use Rattle.tau_past.specs.Tables.{TakesAt, IsLast, same_point}
use Rattle.tau_past.proofs.index.Index.latest_of.Goals as goal

pub returns : goal.returns
returns c =
    let R = c.self.inside.trace.now.run in
    let p = c.args.point.now in
    let is : c.copied.result ≡ get same_point c.self.inside.latest p = c.copied.ensures ∙ c.get.ensures.value in
    subst (λ r. IsLast (TakesAt r p) (len r) c.copied.result) c.self.view_is (subst (λ (o : Option ℕ). IsLast (TakesAt R p) (len R) o) (sym is) (c.self.invariant.latest p))
