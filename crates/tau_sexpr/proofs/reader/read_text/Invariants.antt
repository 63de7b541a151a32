use Rattle.std.proofs.Common.{◌≡◌, ◌-◌, ◌≤◌, [], length, drop}
use Rattle.std.specs.List.{All}
use Rattle.tau_sexpr.specs.Bytes.{IsTextByte}
use Rattle.tau_sexpr.specs.Inner.Reader.{Stack, in_text, run}
use Rattle.tau_sexpr.proofs.reader.read_text.Given as goal

abbrev pub invariant-loop-text : goal.invariant-loop-text
invariant-loop-text l = record {
  from : l.start ≤ l.at;
  within : l.at ≤ length l.bytes;
  text_bytes : All IsTextByte l.text.items;
  left : (s : Stack) → run (drop l.start l.bytes) l.start (in_text []) s ≡ run (drop l.at l.bytes) l.at (in_text l.text.items) s;
}

abbrev pub decreases-loop-text : goal.decreases-loop-text
decreases-loop-text l = length l.bytes - l.at
