use Rattle.std.proofs.lemmas.Result.{on_ok_weaker}
use Rattle.tau_forms.proofs.PrintedLemmas.{text_from, bytes_from, fitting_from}
use Rattle.tau_forms.proofs.printing.put_lines.Goals as goal

pub returns-clause-text : goal.returns-clause-text
returns-clause-text c =
    on_ok_weaker c.put_entries.result
    (text_from c.args.program.now c.args.tables.now.behaviours c.args.tables.now.starts c.items.result.now c.items-2.result.now c.items-3.result.now c.items-4.result.now c.requires.behaviours c.requires.starts c.items.ensures c.items-2.ensures c.items-3.ensures c.items-4.ensures
    c.args.out.now.items c.put_version.new.out.items c.put_nodes.new.out.items c.put_behaviours.new.out.items c.put_starts.new.out.items c.put_posts.new.out.items c.put_entries.new.out.items
    c.in_ok-put_version.ensures.text c.in_ok-put_nodes.ensures.text c.in_ok-put_behaviours.ensures.text c.in_ok-put_starts.ensures.text c.in_ok-put_posts.ensures.text)
    c.put_entries.ensures.text

pub returns-clause-bytes : goal.returns-clause-bytes
returns-clause-bytes c =
    on_ok_weaker c.put_entries.result
    (bytes_from c.args.program.now c.args.tables.now.behaviours c.args.tables.now.starts c.items.result.now c.items-2.result.now c.items-3.result.now c.items-4.result.now c.requires.behaviours c.requires.starts c.items.ensures c.items-2.ensures c.items-3.ensures c.items-4.ensures
    c.in_ok-put_version.ensures.bytes c.in_ok-put_nodes.ensures.bytes c.in_ok-put_behaviours.ensures.bytes c.in_ok-put_starts.ensures.bytes c.in_ok-put_posts.ensures.bytes)
    c.put_entries.ensures.bytes

pub returns-clause-fitting : goal.returns-clause-fitting
returns-clause-fitting c =
    on_ok_weaker c.put_entries.result
    (fitting_from c.args.program.now c.args.tables.now.behaviours c.args.tables.now.starts c.items.result.now c.items-2.result.now c.items-3.result.now c.items-4.result.now c.requires.behaviours c.requires.starts c.items.ensures c.items-2.ensures c.items-3.ensures c.items-4.ensures
    c.requires.names c.in_ok-put_behaviours.ensures.integers c.in_ok-put_starts.ensures.states c.in_ok-put_posts.ensures.values)
    c.put_entries.ensures.numbers
