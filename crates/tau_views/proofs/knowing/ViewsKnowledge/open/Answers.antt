use Rattle.std.proofs.Common.{sym, subst}
use Rattle.tau_views.specs.Inner.Opened.{AreStarts, ArePosts}
use Rattle.tau_views.specs.Kept.{held_of, letters_of}
use Rattle.tau_views.proofs.Opens.{opens}
use Rattle.tau_views.proofs.knowing.ViewsKnowledge.open.Goals as goal

pub returns : goal.returns
returns g c o sound starts posts =
    let de = g.V.View.drops_edge in
    let dr = g.V.View.drops_root in
    opens de dr o (held_of g.V.View.held c.in_ok-start_views.field-0.items) (letters_of g.V.View.held c.in_ok-post_views.field-0.items) sound
    (subst (AreStarts de dr (held_of g.V.View.held c.in_ok-start_views.field-0.items)) (sym starts) c.in_ok-start_views.ensures)
    (subst (ArePosts de dr (letters_of g.V.View.held c.in_ok-post_views.field-0.items)) (sym posts) c.in_ok-post_views.ensures)
