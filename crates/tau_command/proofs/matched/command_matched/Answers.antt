use Rattle.std.proofs.Common.{◌≡◌, ◌∙◌, List, Option, ap, sym, codes}
use Rattle.std.proofs.lemmas.Result.{IfOk-weaker}
use Rattle.std.specs.Prelude.{option_and_then, option_map}
use Rattle.std.specs.Borrow.{Bor}
use Rattle.clap.specs.Words.{Row, Text, first_of, found_of, rows_of}
use Rattle.clap.proofs.WalkLemmas.{first_value-rows}
use Rattle.tau_command.specs.Commands.{command_allowed, command_matched}
use Rattle.tau_command.proofs.matched.command_matched.Goals as goal

-- the command by the name that was found
by_name : (rows : List Row) (name o : Option (Bor Text)) → option_map (λ s. s.now) name ≡ first_of (codes "command") rows → name ≡ o
    → option_and_then (command_allowed rows) (option_map (λ s. s.now) o) ≡ command_matched rows
by_name rows name o found is =
    ap (λ (n : Option (Bor Text)). option_and_then (command_allowed rows) (option_map (λ s. s.now) n)) (sym is)
    ∙ ap (option_and_then (command_allowed rows)) found

pub returns-in-Some : goal.returns-in-Some
returns-in-Some c =
    let found = c.get_str.ensures ∙ first_value-rows (found_of c.args.matches.now) (codes "command") in
    IfOk-weaker c.command_allowed.result _ _ (λ o e. e ∙ by_name (rows_of (found_of c.args.matches.now)) _ _ found c.in-Some.is) c.command_allowed.ensures

pub returns-in-None : goal.returns-in-None
returns-in-None c =
    let found = c.get_str.ensures ∙ first_value-rows (found_of c.args.matches.now) (codes "command") in
    by_name (rows_of (found_of c.args.matches.now)) _ _ found c.in-None.is
