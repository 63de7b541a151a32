use Rattle.std.proofs.Common.{None, ap, ◌∙◌}
use Rattle.std.specs.List.{last_or}
use Rattle.tau_value.specs.Value.{val_of}
use Rattle.tau_value.proofs.ValueLemmas.{last_is, last_exists}
use Rattle.tau_value.proofs.shared.with_one.Goals as goal

pub unreachable-requires : goal.unreachable-requires
unreachable-requires c =
    last_exists c.args.own (val_of c.args.item) (c.in-None.ensures ∙ ap (last_or None) (c.in-Err.ensures.value_returned ∙ c.in_ok-push.ensures.ok))

pub returns-in-Some-clause-err : goal.returns-in-Some-clause-err
returns-in-Some-clause-err c =
    last_is c.args.own c.args.item c.in-Some.item (c.in-Some.ensures ∙ ap (last_or None) (c.in-Err.ensures.value_returned ∙ c.in_ok-push.ensures.ok))
