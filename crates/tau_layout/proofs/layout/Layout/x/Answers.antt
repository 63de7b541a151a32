use Rattle.std.proofs.Common.{◌∙◌, sym, ap}
use Rattle.std.specs.Prelude.{slice_get, option_map}
use Rattle.tau_layout.specs.declared.columns.Column.{Column}
use Rattle.tau_layout.proofs.RankLemmas.{x_is}
use Rattle.tau_layout.proofs.Seen.{columns_seen}
use Rattle.tau_layout.proofs.layout.Layout.x.Goals as goal

pub returns-in-Some : goal.returns-in-Some
returns-in-Some c =
    let inside = c.self.inside in
    x_is c.args.self.now inside.columns.items inside.ranks.items (ap (λ p. p.lanes) (sym c.self.view_is)) c.self.invariant.ranks_are c.args.who c.in-Some.rank c.x_in.result
    (λ r d at. (columns_seen c.args.self.now inside.window inside.grid inside.columns.items inside.ranks.items inside.nodes inside.longest c.self.invariant (sym c.self.view_is) inside.columns.items (λ i. inside.columns.items) r d at).0)
    c.in-Some.ensures
    (c.x_in.ensures ∙ ap (λ cs. option_map (λ (d : Column). d.x) (slice_get cs c.in-Some.rank)) c.deref.ensures.value)

pub returns-in-None : goal.returns-in-None
returns-in-None c = λ x h. c.in-None.ensures h.rank h.ranked
