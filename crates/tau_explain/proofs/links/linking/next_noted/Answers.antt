use Rattle.std.proofs.Common.{sym, ◌∙◌}
use Rattle.std.specs.HashMap.{get}
use Rattle.tau_past.specs.Tables.{same_point}
use Rattle.tau_explain.proofs.SourceLemmas.{next_known}
use Rattle.tau_explain.proofs.links.linking.next_noted.Goals as goal

pub returns-in-Some-clause-next : goal.returns-in-Some-clause-next
returns-in-Some-clause-next c =
    let l = c.args.levels.now in
    next_known l.index.now l.marks.now (get same_point l.far) (get same_point c.args.nexts.now) c.args.point.now c.in-Some.next c.args.distance c.requires.nexts c.requires.from (sym (c.copied.ensures ∙ c.get.ensures.value) ∙ c.in-Some.is)
