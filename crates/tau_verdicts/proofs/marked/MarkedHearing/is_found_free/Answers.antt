use Rattle.std.proofs.Common.{◌↔◌, [], ◌∷◌, List, IsTrue, subst}
use Rattle.std.specs.Prelude.{Contains}
use Rattle.tau_versions.specs.Logs.Told.{Told}
use Rattle.tau_versions.specs.Search.Numbered.{with_version}
use Rattle.tau_versions.specs.Search.Searching.{Finds, is_not_firm}
use Rattle.tau_verdicts.specs.Latest.{latest}
use Rattle.tau_verdicts.proofs.Lasting.{found_free}
use Rattle.tau_verdicts.proofs.marked.MarkedHearing.is_found_free.Goals as goal

pub returns : goal.returns
returns c =
    let me = c.point_of-me.result in
    let own = c.kept_of-own.result.now in
    let F : List Told → Type 0 = λ ls. IsTrue c.in_ok-found.found ↔ Finds is_not_firm ls (with_version me.who (latest ls me.who) own.numbers.numbers) (Contains (me ∷ [])) in
    found_free c.args.trace.now.run c.args.self.now.hearing c.requires.knows c.len-steps.ensures.well_formed c.args.who c.requires.exists own c.kept_of-own.ensures me c.point_of-me.ensures c.in_ok-found.found
    (subst F c.deref.ensures.value c.in_ok-found.ensures)
