use Rattle.tau_forms.specs.Printed.{printed}
use Rattle.tau_text.proofs.ReadBack.{alone_spelled, program_read_back}
use Rattle.tau_text.proofs.printing.program_text.Goals as goal

pub returns-clause-read_back : goal.returns-clause-read_back
returns-clause-read_back c =
    let ts = printed c.args.program.now in
    record {
      forms = ts;
      spelled = alone_spelled ts c.new-text.result.items c.put_program.new.out.items c.new-text.ensures.items c.in_ok-put_program.ensures.text c.in_ok-put_program.ensures.spells;
      means = c.in_ok-put_program.ensures.read_back;
    }

pub returns-clause-printed_back : goal.returns-clause-printed_back
returns-clause-printed_back c =
    let ts = printed c.args.program.now in
    program_read_back c.args.program.now c.put_program.new.out.items c.in_ok-put_program.ensures.read_back
    (alone_spelled ts c.new-text.result.items c.put_program.new.out.items c.new-text.ensures.items c.in_ok-put_program.ensures.text c.in_ok-put_program.ensures.spells)
