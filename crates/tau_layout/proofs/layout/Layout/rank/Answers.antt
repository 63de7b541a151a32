use Rattle.std.proofs.Common.{◌∙◌, sym, ap}
use Rattle.std.specs.Prelude.{slice_get}
use Rattle.tau_layout.proofs.RankLemmas.{rank_told, rank_past}
use Rattle.tau_layout.proofs.layout.Layout.rank.Goals as goal

pub returns-in-Some : goal.returns-in-Some
returns-in-Some c =
    rank_told c.args.self.now c.self.inside.columns.items c.self.inside.ranks.items (ap (λ p. p.lanes) (sym c.self.view_is)) c.self.invariant.ranks_are c.args.who c.in-Some.rank
    (ap (λ rs. slice_get rs c.args.who) (sym c.deref.ensures.value) ∙ sym c.rank_in.ensures ∙ c.in-Some.is)

pub returns-in-None : goal.returns-in-None
returns-in-None c =
    rank_past c.args.self.now c.self.inside.columns.items c.self.inside.ranks.items (ap (λ p. p.lanes) (sym c.self.view_is)) c.self.invariant.ranks_are c.args.who c.self.invariant.known
    (ap (λ rs. slice_get rs c.args.who) (sym c.deref.ensures.value) ∙ sym c.rank_in.ensures ∙ c.in-None.is)
