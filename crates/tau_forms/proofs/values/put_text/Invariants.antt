use Rattle.std.proofs.Common.{◌≡◌, ◌++◌, take}
use Rattle.std.specs.List.{flat_map}
use Rattle.tau_sexpr.specs.Printing.{quoted_byte}
use Rattle.tau_forms.proofs.values.put_text.Given as goal

abbrev pub invariant-loop-byte : goal.invariant-loop-byte
invariant-loop-byte l = l.out.items ≡ l.initial.out.items ++ flat_map quoted_byte (take l.byte-index l.bytes)
