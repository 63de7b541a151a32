use Rattle.std.proofs.Common.{map}
use Rattle.tau_sexpr.specs.Form.{tree_of}
use Rattle.tau_sexpr.specs.Tree.{inside}
use Rattle.tau_forms.proofs.DefinedLemmas.{version_long}
use Rattle.tau_forms.proofs.tables.version_told.Goals as goal

pub returns-then-not-is_empty : goal.returns-then-not-is_empty
returns-then-not-is_empty c = version_long (inside (map tree_of c.args.items.now)) c.in_ok-list.list.head.now c.in_ok-list.list.rest.now c.is_empty.result c.in_ok-list.ensures c.is_empty.ensures c.if-not-is_empty.true
