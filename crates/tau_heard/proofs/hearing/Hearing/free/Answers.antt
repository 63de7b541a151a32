use Rattle.std.proofs.Common.{◌↔◌, ℕ, [], ◌∷◌, List, IsTrue, subst}
use Rattle.std.specs.Prelude.{Contains}
use Rattle.tau_versions.specs.Logs.Told.{Told}
use Rattle.tau_versions.specs.Search.Numbered.{with_version}
use Rattle.tau_versions.specs.Search.Searching.{Finds, is_not_firm}
use Rattle.tau_heard.proofs.Decisions.{freedom}
use Rattle.tau_heard.proofs.hearing.Hearing.free.Goals as goal

pub returns : goal.returns
returns c =
    let own : ℕ → ℕ = with_version c.heard_of-heard.result.who c.heard_of-heard.result.version c.heard_of-heard.result.numbers.now in
    let F : List Told → Type 0 = λ logs. IsTrue c.in_ok-found.found ↔ Finds is_not_firm logs own (Contains (c.point_of-me.result ∷ [])) in
    freedom c.args.trace.now.run c.args.self.now c.requires.knows c.args.who c.requires.exists c.len-steps.ensures.well_formed c.requires.rules own c.heard_of-heard.ensures c.point_of-me.result c.point_of-me.ensures
    c.in_ok-found.found (subst F c.deref.ensures.value c.in_ok-found.ensures)
