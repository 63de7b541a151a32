use Rattle.std.proofs.Common.{◌≡◌, ◌∙◌, ℕ, List, Option, Some, ap, ap₂, sym, codes}
use Rattle.std.specs.Prelude.{option_map}
use Rattle.std.specs.Borrow.{Bor}
use Rattle.clap.specs.Words.{Row, Text, first_of, found_of, rows_of}
use Rattle.clap.proofs.WalkLemmas.{first_value-rows}
use Rattle.tau_command.specs.Numbers.{number_of}
use Rattle.tau_command.specs.Storms.{question_by, question_of}
use Rattle.tau_command.specs.declared.storms.Question.TheVariants.{Claim}
use Rattle.tau_command.proofs.storms.question_of.Goals as goal

-- what is asked by what was found
asked : (rows : List Row) (name o : Option (Bor Text)) (shown n : Option ℕ) → option_map (λ s. s.now) name ≡ first_of (codes "claim") rows → shown ≡ number_of 32 (codes "show") rows → name ≡ o → shown ≡ n
    → question_by (option_map (λ s. s.now) o) n ≡ question_of rows
asked rows name o shown n found number named numbered =
    ap₂ question_by (ap (λ (x : Option (Bor Text)). option_map (λ s. s.now) x) (sym named) ∙ found) (sym numbered ∙ number)

pub returns-in-None-None : goal.returns-in-None-None
returns-in-None-None c =
    let found = c.get_str.ensures ∙ first_value-rows (found_of c.args.matches.now) (codes "claim") in
    asked (rows_of (found_of c.args.matches.now)) _ _ _ _ found c.short_number.ensures c.in-None-None.is-0 c.in-None-None.is-1

pub returns-in-None-Some : goal.returns-in-None-Some
returns-in-None-Some c =
    let found = c.get_str.ensures ∙ first_value-rows (found_of c.args.matches.now) (codes "claim") in
    asked (rows_of (found_of c.args.matches.now)) _ _ _ _ found c.short_number.ensures c.in-None-Some.is-0 c.in-None-Some.is-1

pub returns-in_ok-name-in-Some-None : goal.returns-in_ok-name-in-Some-None
returns-in_ok-name-in-Some-None c =
    let found = c.get_str.ensures ∙ first_value-rows (found_of c.args.matches.now) (codes "claim") in
    ap (λ (n : Text). Some (Claim n)) c.in_ok-name-in-Some-None.ensures
    ∙ asked (rows_of (found_of c.args.matches.now)) _ _ _ _ found c.short_number.ensures c.in-Some-None.is-0 c.in-Some-None.is-1

pub returns-in-Some-Some : goal.returns-in-Some-Some
returns-in-Some-Some c =
    let found = c.get_str.ensures ∙ first_value-rows (found_of c.args.matches.now) (codes "claim") in
    asked (rows_of (found_of c.args.matches.now)) _ _ _ _ found c.short_number.ensures c.in-Some-Some.is-0 c.in-Some-Some.is-1
