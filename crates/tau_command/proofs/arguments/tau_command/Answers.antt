use Rattle.std.proofs.Common.{◌≡◌, ◌∙◌, ap, ap₂, false, true, codes}
use Rattle.std.proofs.lemmas.Result.{IfOk-weaker}
use Rattle.clap.specs.Simple.{app_of_fields, on_top}
use Rattle.clap.specs.Words.{AddsArg, App, Rule, app_of, new_app, rule_of, with_rule}
use Rattle.clap.specs.declared.builder.arg.Arg.{Arg}
use Rattle.clap.specs.declared.builder.command.Command.{Command}
use Rattle.tau_command.specs.Arguments.{tau_command, command_rule, number_rule, workers_rule, jobs_rule, seed_rule, steps_rule, from_rule, to_rule, seeds_rule, fails_rule, losses_rule, repeats_rule, every_rule, claim_rule, show_rule}
use Rattle.tau_command.proofs.arguments.tau_command.Goals as goal

-- a command with one more argument
added : (old : Command) (a : Arg) (new : Command) (app : App) (rule : Rule) → AddsArg old a new → a.global ≡ false → rule_of a ≡ rule
    → app_of old ≡ app → app_of new ≡ with_rule app rule
added old a new app rule adds local is before = adds.shape local ∙ ap₂ with_rule before is

-- a command with no program name among its words
abbrev nameless : App → App
nameless = on_top (λ s. record s { no_binary_name = true })

pub returns : goal.returns
unfolding tau_command
returns c =
    let start : app_of c.no_binary_name.result ≡ nameless (new_app (codes "tau")) =
    ap app_of_fields c.no_binary_name.ensures ∙ ap nameless c.new.ensures.app in
    let first = added _ _ _ _ command_rule c.in_ok-arg.ensures c.command_argument.ensures.local c.command_argument.ensures.rule start in
    let second = added _ _ _ _ number_rule c.in_ok-arg-2.ensures c.number_argument.ensures.local c.number_argument.ensures.rule first in
    let third = added _ _ _ _ workers_rule c.in_ok-arg-3.ensures c.workers_argument.ensures.local c.workers_argument.ensures.rule second in
    let fourth = added _ _ _ _ jobs_rule c.in_ok-arg-4.ensures c.jobs_argument.ensures.local c.jobs_argument.ensures.rule third in
    let fifth = added _ _ _ _ seed_rule c.in_ok-arg-5.ensures c.seed_argument.ensures.local c.seed_argument.ensures.rule fourth in
    let sixth = added _ _ _ _ steps_rule c.in_ok-arg-6.ensures c.steps_argument.ensures.local c.steps_argument.ensures.rule fifth in
    let seventh = added _ _ _ _ from_rule c.in_ok-arg-7.ensures c.from_argument.ensures.local c.from_argument.ensures.rule sixth in
    let eighth = added _ _ _ _ to_rule c.in_ok-arg-8.ensures c.to_argument.ensures.local c.to_argument.ensures.rule seventh in
    let ninth = added _ _ _ _ seeds_rule c.in_ok-arg-9.ensures c.seeds_argument.ensures.local c.seeds_argument.ensures.rule eighth in
    let tenth = added _ _ _ _ fails_rule c.in_ok-arg-10.ensures c.fails_argument.ensures.local c.fails_argument.ensures.rule ninth in
    let eleventh = added _ _ _ _ losses_rule c.in_ok-arg-11.ensures c.losses_argument.ensures.local c.losses_argument.ensures.rule tenth in
    let twelfth = added _ _ _ _ repeats_rule c.in_ok-arg-12.ensures c.repeats_argument.ensures.local c.repeats_argument.ensures.rule eleventh in
    let thirteenth = added _ _ _ _ every_rule c.in_ok-arg-13.ensures c.every_argument.ensures.local c.every_argument.ensures.rule twelfth in
    let fourteenth = added _ _ _ _ claim_rule c.in_ok-arg-14.ensures c.claim_argument.ensures.local c.claim_argument.ensures.rule thirteenth in
    IfOk-weaker c.arg-15.result _ _
    (λ r adds. added _ _ r _ show_rule adds c.show_argument.ensures.local c.show_argument.ensures.rule fourteenth) c.arg-15.ensures
