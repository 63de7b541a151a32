use Rattle.tau_points.proofs.Tables.{Adds-table, known_from_table}
use Rattle.tau_past.proofs.PastSearch.{fresh_from_table}
use Rattle.tau_past.proofs.found.Found.insert.Goals as goal

pub returns-clause-members : goal.returns-clause-members
returns-clause-members c = rw (← c.self.view_is) (Adds-table _ _ _ c.in_ok-added.ensures.updates.0)

pub returns-clause-known : goal.returns-clause-known
returns-clause-known c = rw (← c.self.view_is) (known_from_table _ _ _ c.in_ok-added.ensures.added)

pub returns-clause-fresh : goal.returns-clause-fresh
returns-clause-fresh c = rw (← c.self.view_is) (fresh_from_table _ _ _ c.in_ok-added.ensures.added)
