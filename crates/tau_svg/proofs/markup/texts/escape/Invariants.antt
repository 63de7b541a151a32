use Rattle.std.proofs.Common.{◌≡◌, take, ◌++◌}
use Rattle.tau_svg.specs.Markup.Texts.{escaped}
use Rattle.tau_svg.proofs.markup.texts.escape.Given as goal

abbrev pub invariant-loop-byte : goal.invariant-loop-byte
invariant-loop-byte l = l.out.items ≡ l.initial.out.items ++ escaped (take l.byte-index l.text)
