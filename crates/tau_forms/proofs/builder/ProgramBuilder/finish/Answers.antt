use Rattle.std.proofs.Common.{◌≤◌, sym, subst}
use Rattle.tau_forms.proofs.ProgramLemmas.{nodes_le}
use Rattle.tau_forms.proofs.ReadingLemmas.{whole_clean, whole_missing}
use Rattle.tau_forms.proofs.SoundLemmas.{sound_of}
use Rattle.tau_forms.proofs.builder.ProgramBuilder.finish.Goals as goal

pub finish-requires : goal.finish-requires
finish-requires c = subst (λ tb. tb.nodes ≤ 64) (sym c.requires.taken.tables) (nodes_le c.requires.ts)

pub returns-in-Some-clause-program : goal.returns-in-Some-clause-program
returns-in-Some-clause-program c ts h = c.finish.ensures ts (whole_clean ts c.args.self c.in-Some.field-0 h c.in-Some.is) h.built

pub returns-in-Some-clause-sound : goal.returns-in-Some-clause-sound
returns-in-Some-clause-sound c ts h deep = sound_of ts c.finish.result deep (c.finish.ensures ts (whole_clean ts c.args.self c.in-Some.field-0 h c.in-Some.is) h.built)

pub returns-in-None-clause-fault : goal.returns-in-None-clause-fault
returns-in-None-clause-fault c ts h = whole_missing ts c.args.self h c.in-None.is
