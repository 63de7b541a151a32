use Rattle.std.proofs.Common.{List, inl, inr, ⊎_elim, sym, subst}
use Rattle.std.specs.Prelude.{Contains}
use Rattle.tau_points.specs.declared.point.Point.{Point}
use Rattle.tau_points.proofs.Tables.{Adds-table, known_from_table}
use Rattle.tau_view.proofs.seen.Seen.insert.Goals as goal

pub invariant_of-self : goal.invariant_of-self
invariant_of-self c = λ p h. subst (λ (points : List Point). Contains points p) (sym c.in_err-added.ensures.err) (c.self.invariant p h)

pub invariant_of-self-2 : goal.invariant_of-self-2
invariant_of-self-2 c = λ p h.
    (Adds-table c.self.inside.table.keys c.insert.new.self.keys c.args.point c.in_ok-added.ensures.updates.0 p).1
    (⊎_elim (λ k. inl (c.self.invariant p k)) (λ e. inr e) (c.remember.ensures p h))

pub returns-clause-members : goal.returns-clause-members
returns-clause-members c = rw (← c.self.view_is) (Adds-table _ _ _ c.in_ok-added.ensures.updates.0)

pub returns-clause-known : goal.returns-clause-known
returns-clause-known c = rw (← c.self.view_is) (known_from_table _ _ _ c.in_ok-added.ensures.added)
