use Rattle.std.proofs.Common.{◌≡◌, ◌++◌, ◌∷◌, [], List, sym, ap, ◌∙◌, subst, append-nil, append_assoc, rules}
use Rattle.std.proofs.lemmas.List.{nil_from_length}
use Rattle.tau_storm.specs.declared.outcomes.Outcome.{Outcome}
use Rattle.tau_storm.specs.Outcomes.{AreOutcomes}
use Rattle.tau_storm.specs.Inner.Counting.{outcome_of, outcomes_of}
use Rattle.tau_storm.proofs.OneOutcome.{lines_once}
use Rattle.tau_storm.proofs.Tables.{joined_none, joined_next, joined_all}
use Rattle.tau_storm.proofs.told.add_told.Goals as goal

pub loop-outcome-init : goal.loop-outcome-init
loop-outcome-init c = record {
  done = [];
  is = append-nil c.into_vec-left.result.items ∙ c.into_vec-left.ensures;
  joined = λ front back old later. joined_none front back (outcomes_of c.args.rows.now.entries) old;
}

pub loop-outcome-preserved : goal.loop-outcome-preserved
loop-outcome-preserved c =
    let i = c.loop-outcome.invariant in
    let lines = c.row_of-lines.result.0.items in
    let row = c.row_of-lines.result.1 in
    let left = c.pop.new.self.items in
    let o = c.in-Some.outcome in
    let whole : left ++ o ∷ i.done ≡ c.args.outcomes = sym (append_assoc left (o ∷ []) i.done) ∙ ap (λ (l : List Outcome). l ++ i.done) (sym c.in-Some.ensures.items) ∙ i.is in
    let next : left ++ outcome_of lines row ∷ i.done ≡ c.args.outcomes = ap (λ (p : Outcome). left ++ p ∷ i.done) c.row_of-lines.ensures ∙ whole in
    record {
      done = outcome_of lines row ∷ i.done;
      is = next;
      joined = λ front back old later.
          joined_next front back c.args.outcomes left i.done lines row c.loop-outcome.rows.entries c.add.new.rows.entries (λ e a b. lines_once e.program e.run a b) c.in_ok-add.ensures next later (i.joined front back old later);
    }

pub returns : goal.returns
returns c = λ front back old later.
    let i = c.loop-outcome.invariant in
    let empty : c.loop-outcome.left.items ≡ [] = nil_from_length c.loop-outcome.left.items (search (rules, c.in_default.ensures)) in
    let done : i.done ≡ c.args.outcomes = ap (λ (l : List Outcome). l ++ i.done) (sym empty) ∙ i.is in
    joined_all front back i.done (outcomes_of c.loop-outcome.rows.entries) (λ e a b. lines_once e.program e.run a b) (subst (AreOutcomes back) (sym done) later) (i.joined front back old later)
