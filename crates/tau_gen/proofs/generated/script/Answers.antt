use Rattle.tau_gen.proofs.WordLemmas.{script_drawn}
use Rattle.tau_gen.proofs.generated.script.Goals as goal

pub returns : goal.returns
returns c = λ number at.
    rw (c.in_ok-add_entry-3.ensures, c.in_ok-add_entry-2.ensures, c.in_ok-add_entry.ensures, c.new-script.ensures) (script_drawn number _ _ _ _ _ at c.next_u32-first.ensures c.next_u32-second.ensures)
