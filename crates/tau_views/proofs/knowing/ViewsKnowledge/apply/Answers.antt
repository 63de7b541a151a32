use Rattle.tau_views.proofs.knowing.ViewsKnowledge.apply.Goals as goal

pub change-requires : goal.change-requires
change-requires g c = c.requires.1.0
