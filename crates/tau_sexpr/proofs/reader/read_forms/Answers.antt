use Rattle.tau_sexpr.proofs.LawLemmas.{answer_spelled, answer_read, answer_faulty, answer_first, answer_depth, answer_words}
use Rattle.tau_sexpr.proofs.reader.read_forms.Goals as goal

pub returns : goal.returns
returns c =
    let r = c.read_whole.result in
    record {
      spelled = answer_spelled r c.args.bytes.now c.read_whole.ensures;
      read = answer_read r c.args.bytes.now c.read_whole.ensures;
      faulty = answer_faulty r c.args.bytes.now c.read_whole.ensures;
      first_fault = answer_first r c.args.bytes.now c.read_whole.ensures;
      depth = answer_depth r c.args.bytes.now c.read_whole.ensures;
      words = answer_words r c.args.bytes.now c.read_whole.ensures;
    }
