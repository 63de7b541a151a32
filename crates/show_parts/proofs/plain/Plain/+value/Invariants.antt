use Rattle.std.proofs.Common.{◌+◌, ◌*◌}
use Rattle.show_parts.proofs.plain.Plain.+value.Given as goal

abbrev pub decreases-value : goal.decreases-value
decreases-value l = 4 * l.depth

abbrev pub decreases-list : goal.decreases-list
decreases-list l = 4 * l.depth + 2

abbrev pub decreases-push_values : goal.decreases-push_values
decreases-push_values l = 4 * l.depth + 1

abbrev pub decreases-bound : goal.decreases-bound
decreases-bound l = 4 * l.depth + 1

abbrev pub decreases-seq : goal.decreases-seq
decreases-seq l = 4 * l.depth + 1

abbrev pub decreases-fold : goal.decreases-fold
decreases-fold l = 4 * l.depth + 3

abbrev pub decreases-fold_list : goal.decreases-fold_list
decreases-fold_list l = 4 * l.depth + 2

abbrev pub decreases-fold_items : goal.decreases-fold_items
decreases-fold_items l = 4 * l.depth + 1

abbrev pub decreases-apply : goal.decreases-apply
decreases-apply l = 4 * l.depth + 1

abbrev pub decreases-send : goal.decreases-send
decreases-send l = 4 * l.depth + 1

abbrev pub decreases-create : goal.decreases-create
decreases-create l = 4 * l.depth + 1

abbrev pub decreases-choice : goal.decreases-choice
decreases-choice l = 4 * l.depth + 1

abbrev pub decreases-set : goal.decreases-set
decreases-set l = 4 * l.depth + 1
