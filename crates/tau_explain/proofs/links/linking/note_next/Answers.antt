use Rattle.std.specs.HashMap.{get}
use Rattle.tau_past.specs.Tables.{same_point}
use Rattle.tau_explain.proofs.SourceLemmas.{nexts_put}
use Rattle.tau_explain.proofs.links.linking.note_next.Goals as goal

pub returns-clause-nexts : goal.returns-clause-nexts
returns-clause-nexts c =
    let l = c.args.levels.now in
    nexts_put l.index.now l.marks.now (get same_point l.far) (get same_point c.args.nexts.now) (get same_point c.insert.new.self) c.args.point.now c.next_link-next.result c.args.distance c.requires.nexts c.next_link-next.ensures c.in_ok-insert.ensures.updates.0
