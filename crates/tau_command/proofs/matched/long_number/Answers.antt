use Rattle.std.proofs.Common.{◌∙◌, ap}
use Rattle.std.specs.Prelude.{option_and_then}
use Rattle.std.specs.Str.Parse.{ExplainsUnsignedError, HasUnsignedDigitsIfOk, ParsesUnsigned}
use Rattle.clap.specs.Words.{found_of}
use Rattle.clap.proofs.WalkLemmas.{one_text-rows}
use Rattle.tau_command.specs.Numbers.{number_in}
use Rattle.tau_command.proofs.NumberLemmas.{number_got}
use Rattle.tau_command.proofs.matched.long_number.Goals as goal

pub returns : goal.returns
returns c =
    number_got _ (λ bs r. ParsesUnsigned 64 10 bs r × ExplainsUnsignedError 10 bs r × HasUnsignedDigitsIfOk bs r) 64 _ c.get_one.result
    (λ t x gives. gives.0) c.get_one.ensures.none c.get_one.ensures.value
    ∙ ap (option_and_then (number_in 64)) (one_text-rows (found_of c.args.matches.now) c.args.id.now)
