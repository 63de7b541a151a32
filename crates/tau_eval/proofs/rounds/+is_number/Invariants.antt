use Rattle.tau_eval.proofs.rounds.+is_number.Given as goal

abbrev pub decreases-is_number : goal.decreases-is_number
decreases-is_number l = l.depth
