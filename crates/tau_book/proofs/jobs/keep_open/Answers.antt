use Rattle.std.proofs.Common.{rules, eqb}
use Rattle.std.specs.List.{list_any}
use Rattle.std.proofs.lemmas.Fn.{filter_same}
use Rattle.tau_book.proofs.jobs.keep_open.Goals as goal

pub returns-clause-jobs : goal.returns-clause-jobs
returns-clause-jobs c = filter_same _ (λ j. list_any (λ p. eqb p j.place) c.args.turns.now) _ (λ x b f' k. search rules) _ _ c.retain.ensures.filtered
