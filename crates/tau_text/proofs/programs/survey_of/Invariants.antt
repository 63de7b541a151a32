use Rattle.std.proofs.Common.{◌≡◌, ◌-◌, ◌≤◌, List, length}
use Rattle.tau_sexpr.specs.Tree.{Tree}
use Rattle.tau_sexpr.specs.Rest.{forms_from, behind}
use Rattle.tau_text.specs.Inner.Surveyed.{IsSurvey, IsFront}
use Rattle.tau_text.proofs.programs.survey_of.Given as goal

abbrev pub invariant-loop-at : goal.invariant-loop-at
invariant-loop-at l = record {
  high : l.at ≤ length l.bytes;
  before : List Tree;
  read : forms_from l.bytes 0 ≡ behind before (forms_from l.bytes l.at);
  survey : IsSurvey before l.survey;
  front : IsFront l.bytes l.front;
}

abbrev pub decreases-loop-at : goal.decreases-loop-at
decreases-loop-at l = length l.bytes - l.at
