-- What threads share of a storm, and what they give, may cross to them and back.
use denote.Param.Send.{IsSync, sendable}
use Rattle.std.proofs.Crossing.{crosses}
use Rattle.tau_value.proofs.shared.Values.TheLaws.TheKnot.{both_sync-Values}
use Rattle.tau_tree.proofs.expressions.Expr.TheLaws.TheKnot.{both_sync-Expr}
use Rattle.tau_sexpr.specs.contracts.words.Word as word
use Rattle.tau_value.specs.contracts.shared.Value as value
use Rattle.tau_tree.specs.contracts.expressions.Expr as expr
use Rattle.tau_tree.specs.contracts.programs.Program as program

expr_sync : IsSync (expr.the_field).row
expr_sync = search (crosses, sendable, both_sync-Expr) depth 60

word_sync : IsSync (word.the_field).row
word_sync = search (crosses, sendable) depth 60

value_sync : IsSync (value.the_field).row
value_sync = search (crosses, sendable, both_sync-Values) depth 60

pub program_sync : IsSync (program.the_field).row
program_sync = search (crosses, sendable, expr_sync, value_sync, word_sync) depth 200 fits 100000
