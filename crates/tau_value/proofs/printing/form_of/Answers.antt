use Rattle.tau_value.specs.Value.{val_of}
use Rattle.tau_value.proofs.WrittenLemmas.{read_back_from, depth_from, words_from}
use Rattle.tau_value.proofs.printing.form_of.Goals as goal

pub returns-clause-read_back : goal.returns-clause-read_back
returns-clause-read_back c = read_back_from c.args.names.now (val_of c.args.value.now) c.write.result c.requires c.write.ensures.form c.write.ensures.numbers

pub returns-clause-depth : goal.returns-clause-depth
returns-clause-depth c = depth_from c.args.names.now (val_of c.args.value.now) c.write.result c.write.ensures.form

pub returns-clause-words : goal.returns-clause-words
returns-clause-words c = words_from c.args.names.now (val_of c.args.value.now) c.write.result c.requires c.write.ensures.form c.write.ensures.numbers
