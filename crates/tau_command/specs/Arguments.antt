-- The simple command by which `clap` reads the words, as its data.
use Rattle.std.specs.Prelude.{[], ◌∷◌, Some, true, pos, codes}
use Rattle.clap.specs.Simple.{new_shape}
use Rattle.clap.specs.Words.{App, Rule, Text, new_rule}
use Rattle.clap.specs.declared.builder.value_parser.ValueParser.{ValueParser}
use Rattle.clap.specs.declared.builder.value_parser.ValueParser.TheVariants.{Signed, Unsigned}

-- the required positional
abbrev pub command_rule : Rule
command_rule = record (new_rule (codes "command")) { required = true }

-- the optional positional: a number of 64 bits
abbrev pub number_rule : Rule
number_rule = record (new_rule (codes "number")) { parser = Some (Unsigned 0 18446744073709551615) }

-- an option with one value, its parser and its default
abbrev pub option_rule : Text → ValueParser → Text → Rule
option_rule name parser default = record (new_rule name) {
  long = Some name;
  parser = Some parser;
  defaults = default ∷ [];
}

abbrev pub workers_rule : Rule
workers_rule = option_rule (codes "workers") (Signed (pos 1) (pos 32)) (codes "4")

abbrev pub jobs_rule : Rule
jobs_rule = option_rule (codes "jobs") (Signed (pos 1) (pos 16)) (codes "1")

abbrev pub seed_rule : Rule
seed_rule = option_rule (codes "seed") (Unsigned 0 18446744073709551615) (codes "0")

abbrev pub steps_rule : Rule
steps_rule = option_rule (codes "steps") (Signed (pos 0) (pos 200000)) (codes "1000")

abbrev pub from_rule : Rule
from_rule = option_rule (codes "from") (Signed (pos 0) (pos 4294967295)) (codes "0")

abbrev pub to_rule : Rule
to_rule = option_rule (codes "to") (Signed (pos 0) (pos 4294967295)) (codes "4294967295")

abbrev pub seeds_rule : Rule
seeds_rule = option_rule (codes "seeds") (Signed (pos 1) (pos 1000000000)) (codes "100")

abbrev pub fails_rule : Rule
fails_rule = option_rule (codes "fails") (Signed (pos 0) (pos 16)) (codes "1")

abbrev pub losses_rule : Rule
losses_rule = option_rule (codes "losses") (Signed (pos 0) (pos 16)) (codes "0")

abbrev pub repeats_rule : Rule
repeats_rule = option_rule (codes "repeats") (Signed (pos 0) (pos 16)) (codes "0")

abbrev pub every_rule : Rule
every_rule = option_rule (codes "every") (Signed (pos 1) (pos 200000)) (codes "1")

-- two options with no default: a text, and a number of 32 bits
abbrev pub claim_rule : Rule
claim_rule = record (new_rule (codes "claim")) { long = Some (codes "claim") }

abbrev pub show_rule : Rule
show_rule = record (new_rule (codes "show")) { long = Some (codes "show"); parser = Some (Signed (pos 0) (pos 4294967295)) }

-- two positionals and thirteen options, with no program name among the words
unfoldable pub tau_command : App
tau_command = record {
  top = record (new_shape (codes "tau")) {
    no_binary_name = true;
    rules = command_rule ∷ number_rule ∷ workers_rule ∷ jobs_rule ∷ seed_rule ∷ steps_rule ∷ from_rule ∷ to_rule ∷ seeds_rule ∷ fails_rule ∷ losses_rule ∷ repeats_rule ∷ every_rule ∷ claim_rule ∷ show_rule ∷ [];
  };
  subs = [];
}
