use Rattle.std.proofs.Common.{[]}
use Rattle.tau_explain.specs.Inner.Causes.{AddsUnfirm}
use Rattle.tau_explain.proofs.CauseLemmas.{IsCandidateBelow}
use Rattle.tau_explain.proofs.causes.unfirm_points.Given as goal

abbrev pub invariant-loop-place : goal.invariant-loop-place
invariant-loop-place l = AddsUnfirm l.fallen l.stable (IsCandidateBelow l.index l.marks l.fn.own l.place) [] l.points.items
