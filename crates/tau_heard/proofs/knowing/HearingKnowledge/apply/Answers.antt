use Rattle.tau_heard.proofs.knowing.HearingKnowledge.apply.Goals as goal

pub change-requires : goal.change-requires
change-requires c = c.requires.1.room
