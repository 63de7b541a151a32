use Rattle.std.proofs.Common.{◌≡◌, ◌+◌, ◌<◌, length, sym, ◌∙◌, rules}
use Rattle.std.specs.Prelude.{get_or}
use Rattle.std.proofs.lemmas.List.{get_or_read}
use Rattle.tau_journal.proofs.Reading.{read_more, gate_more, short_more, whole_more}
use Rattle.tau_journal.proofs.records.scan.Goals as goal

pub loop-bytes-preserved : goal.loop-bytes-preserved
loop-bytes-preserved c =
    let file = c.args.bytes.items in
    let ps = c.loop-bytes.places.items in
    let gate = c.loop-bytes.gate in
    let n = c.in-Some.length in
    let push = c.in_ok-push.ensures.items in
    let within : gate + 5 + n < length file = search rules in
    let opens : get_or file gate 0 ≡ 1 = sym (get_or_read file gate c.index.result.now c.loop-bytes.invariant.in_bytes c.index.ensures 0) ∙ search rules in
    record {
      in_bytes = within;
      so_far = read_more file ps c.push.new.self.items gate n push within c.loop-bytes.invariant.so_far opens (search rules);
      gate_is = gate_more file ps c.push.new.self.items gate n push within c.loop-bytes.invariant.gate_is;
      short = short_more file ps c.push.new.self.items gate n push within (search rules) c.loop-bytes.invariant.short;
      whole = whole_more file ps c.push.new.self.items gate n push within c.loop-bytes.invariant.whole;
    }
