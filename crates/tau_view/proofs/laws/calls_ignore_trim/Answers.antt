use Rattle.tau_view.proofs.Trimming.{note_ignores_trim, touch_ignores_trim, depend_ignores_trim, merge_ignores_trim, taking_roots_ignores_trim, clearing_roots_ignores_trim}
use Rattle.tau_view.proofs.laws.calls_ignore_trim.Goals as goal

pub returns-clause-note : goal.returns-clause-note
returns-clause-note g c = note_ignores_trim g.V.View.drops_edge g.V.View.drops_root g.met.V.View.drops_for_good

pub returns-clause-touch : goal.returns-clause-touch
returns-clause-touch g c = touch_ignores_trim g.V.View.drops_edge g.V.View.drops_root

pub returns-clause-depend : goal.returns-clause-depend
returns-clause-depend g c = depend_ignores_trim g.V.View.drops_edge g.V.View.drops_root g.met.V.View.drops_closed_roots

pub returns-clause-merge : goal.returns-clause-merge
returns-clause-merge g c = merge_ignores_trim g.V.View.drops_edge g.V.View.drops_root g.met.V.View.drops_for_good

pub returns-clause-take_roots : goal.returns-clause-take_roots
returns-clause-take_roots g c = taking_roots_ignores_trim g.V.View.drops_edge g.V.View.drops_root g.met.V.View.drops_for_good

pub returns-clause-clear_roots : goal.returns-clause-clear_roots
returns-clause-clear_roots g c = clearing_roots_ignores_trim g.V.View.drops_edge g.V.View.drops_root
