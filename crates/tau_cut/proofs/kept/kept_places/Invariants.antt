use Rattle.std.proofs.Common.{◌≡◌, ◌↔◌, ℕ, length, take}
use Rattle.std.specs.Prelude.{Contains}
use Rattle.tau_trace.specs.Run.{len}
use Rattle.tau_explain.specs.Links.Marks.{IsMarked}
use Rattle.tau_cut.specs.declared.cut.Marked.TheVariants.{In}
use Rattle.tau_cut.proofs.kept.kept_places.Given as goal

abbrev pub invariant-loop-mark : goal.invariant-loop-mark
invariant-loop-mark l = record {
  count : length l.marks.items ≡ len l.fn.trace.run;
  told : (k : ℕ) → Contains (take l.mark-index l.mark-items) (In k) ↔ IsMarked l.marks.items k;
}
