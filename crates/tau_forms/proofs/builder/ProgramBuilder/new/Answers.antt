use Rattle.std.proofs.Common.{refl}
use Rattle.tau_forms.proofs.ReadingLemmas.{none_taken}
use Rattle.tau_forms.proofs.builder.ProgramBuilder.new.Goals as goal

pub returns : goal.returns
returns c ts limits range tables = none_taken ts _ limits range tables c.new.ensures refl (c.new-2.ensures c.args.tables)
