use Rattle.std.specs.HashMap.{get}
use Rattle.tau_past.specs.Tables.{same_point}
use Rattle.tau_past.proofs.NextTables.{takes_latest, takes_earlier}
use Rattle.tau_past.proofs.noting.note_takes.Goals as goal

pub returns-clause-latest : goal.returns-clause-latest
returns-clause-latest c =
    takes_latest c.args.trace.now.run c.args.place c.args.taker (get same_point c.args.latest.now) (get same_point c.put_latest.new.latest) c.requires.taker c.in_ok-before.ensures.puts c.requires.latest

pub returns-clause-earlier : goal.returns-clause-earlier
returns-clause-earlier c =
    takes_earlier c.args.trace.now.run c.args.place c.args.taker (get same_point c.args.latest.now) c.in_ok-before.before _ _ c.requires.taker c.in_ok-before.ensures.before c.in_ok-push.ensures.items c.requires.latest c.requires.earlier
