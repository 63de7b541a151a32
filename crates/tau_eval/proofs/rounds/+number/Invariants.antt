use Rattle.std.proofs.Common.{◌+◌, ◌*◌}
use Rattle.tau_eval.proofs.rounds.+number.Given as goal

abbrev pub decreases-number_in_round : goal.decreases-number_in_round
decreases-number_in_round l = 2 * l.depth

abbrev pub decreases-operation_in_round : goal.decreases-operation_in_round
decreases-operation_in_round l = 2 * l.depth + 1
