use Rattle.std.proofs.Common.{ap, ◌∙◌, ◌++◌, ◌∷◌, []}
use Rattle.std.proofs.lemmas.List.{map_push}
use Rattle.tau_storm.specs.declared.outcomes.Outcome.{Outcome}
use Rattle.tau_storm.specs.Inner.Counting.{outcome_of, outcomes_of}
use Rattle.tau_storm.proofs.Sorting.{told_more}
use Rattle.tau_storm.proofs.told.told.Goals as goal

pub loop-lines-preserved : goal.loop-lines-preserved
loop-lines-preserved c =
    let left = c.pop.new.self.entries in
    let lines = c.in-Some.lines in
    let row = c.in-Some.row in
    let o : Outcome = outcome_of lines.items row in
    told_more (outcomes_of c.args.rows.entries) (outcomes_of c.loop-lines.rows.entries) (outcomes_of left) c.loop-lines.outcomes.items c.push.new.self.items o c.loop-lines.invariant
    (ap outcomes_of c.in-Some.ensures.entries ∙ map_push (λ p. outcome_of p.0.items p.1) left (lines, row))
    (c.in_ok-push.ensures.items ∙ ap (λ (x : Outcome). c.loop-lines.outcomes.items ++ x ∷ []) c.outcome_of.ensures)
