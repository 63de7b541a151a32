use Rattle.std.proofs.Common.{◌+◌, ◌-◌, ◌*◌, ◌^◌, length, vec_len}
use Rattle.std.specs.Bool.{OnTrue, OnFalse}
use Rattle.tau_past.specs.Inner.Searching.{PastHasFallen, FoundNoFallen}
use Rattle.tau_past.proofs.PastSearch.{Searched}
use Rattle.tau_past.proofs.search.add_past.Given as goal

abbrev pub invariant-search : goal.invariant-search
invariant-search l = record {
  searched : Searched l.index l.fn.point l.fn.found l.found l.passed l.left.items;
  fallen : OnTrue l.fallen (PastHasFallen l.index l.fn.point);
  safe : OnFalse l.fallen (FoundNoFallen l.index l.fn.found l.found);
}

abbrev pub decreases-search : goal.decreases-search
decreases-search l = (2 ^ 63 - length l.found) * 2 ^ 64 + vec_len l.left
