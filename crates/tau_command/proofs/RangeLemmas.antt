-- The numbers of a command lie in the ranges of their options.
use Rattle.std.proofs.Common.{◌≡◌, ◌≤◌, sym, subst, refl, ℕ, Bool, true, false, cond, List, [], ◌∷◌, Option, Some, None, codes}
use Rattle.std.specs.Prelude.{IfOk, ok_or, option_and_then, option_map, Result}
use Rattle.std.specs.Str.{bytes_eq}
use Rattle.clap.specs.Kinds.{Kinds}
use Rattle.clap.specs.Words.{Text, fault_of, matches_of}
use Rattle.tau_command.specs.Arguments.{tau_command}
use Rattle.tau_command.specs.Numbers.{number_of}
use Rattle.tau_command.specs.Storms.{storm_of}
use Rattle.tau_command.specs.Commands.{command_allowed, command_matched, command_named, command_of, draw_of, plain_named, run_numbers, run_of, stands_amiss, text_named, where_faultless, IsInRange}
use Rattle.tau_command.specs.declared.commands.Command.{Command}
use Rattle.tau_command.specs.declared.commands.Command.TheVariants as commands
use Rattle.tau_command.specs.declared.commands.TextCommand.{TextCommand}
use Rattle.tau_command.specs.declared.commands.TextCommand.TheVariants.{Run, Check, Audit, Report, Print, Gen, Drill, Migrate, Why, Cut, Draw}
use Rattle.tau_command.specs.declared.commands.WordsError.{WordsError}
use Rattle.tau_command.specs.declared.matched.RunNumbers.{RunNumbers}
use Rattle.tau_command.proofs.OptionLemmas.{workers_in_range, jobs_in_range, steps_in_range}
use Rattle.tau_command.proofs.StormLemmas.{IsTextInRange, storm_in_range}

-- four numbers, of which three lie in their ranges
abbrev AreInRange : RunNumbers → Type 0
AreInRange n = (1 ≤ n.workers) × (n.workers ≤ 32) × (1 ≤ n.jobs) × (n.jobs ≤ 16) × (n.steps ≤ 200000)

numbers_at : (workers jobs seed steps : Option ℕ) (n : RunNumbers) → ((m : ℕ) → workers ≡ Some m → (1 ≤ m) × (m ≤ 32)) → ((m : ℕ) → jobs ≡ Some m → (1 ≤ m) × (m ≤ 16))
    → ((m : ℕ) → steps ≡ Some m → (0 ≤ m) × (m ≤ 200000))
    → option_and_then (λ w. option_and_then (λ j. option_and_then (λ s. option_map (λ m. record { workers = w; jobs = j; seed = s; steps = m }) steps) seed) jobs) workers ≡ Some n → AreInRange n
numbers_at None jobs seed steps n a b d e = absurd (cc)
numbers_at (Some w) None seed steps n a b d e = absurd (cc)
numbers_at (Some w) (Some j) None steps n a b d e = absurd (cc)
numbers_at (Some w) (Some j) (Some s) None n a b d e = absurd (cc)
numbers_at (Some w) (Some j) (Some s) (Some m) n a b d e =
    let same : record { workers = w; jobs = j; seed = s; steps = m } ≡ n = cc in
    let x = a w refl in
    let y = b j refl in
    subst AreInRange same (x.0, x.1, y.0, y.1, (d m refl).1)

numbers_in_range : (words : List Text) (n : RunNumbers) → fault_of tau_command words ≡ [] → run_numbers (matches_of tau_command words) ≡ Some n → AreInRange n
numbers_in_range words n none e =
    let rows = matches_of tau_command words in
    numbers_at (number_of 32 (codes "workers") rows) (number_of 32 (codes "jobs") rows) (number_of 64 (codes "seed") rows) (number_of 32 (codes "steps") rows) n
    (λ m. workers_in_range words m none) (λ m. jobs_in_range words m none) (λ m. steps_in_range words m none) e

-- `run` with such numbers
run_at : (o : Option RunNumbers) (c : TextCommand) → ((n : RunNumbers) → o ≡ Some n → AreInRange n) → option_map (λ n. Run n.workers n.jobs n.seed n.steps) o ≡ Some c → IsTextInRange c
run_at None c f e = absurd (cc)
run_at (Some n) c f e =
    let same : Run n.workers n.jobs n.seed n.steps ≡ c = cc in
    subst IsTextInRange same (f n refl)

run_in_range : (words : List Text) (c : TextCommand) → fault_of tau_command words ≡ [] → run_of (matches_of tau_command words) ≡ Some c → IsTextInRange c
run_in_range words c none e = run_at (run_numbers (matches_of tau_command words)) c (λ n. numbers_in_range words n none) e

-- another command has no range
gen_in_range : (o : Option ℕ) (c : TextCommand) → option_map (λ n. Gen n) o ≡ Some c → IsTextInRange c
gen_in_range None c e = absurd (cc)
gen_in_range (Some n) c e = let same : Gen n ≡ c = cc in subst IsTextInRange same tt

drill_in_range : (o : Option ℕ) (c : TextCommand) → option_map (λ n. Drill n) o ≡ Some c → IsTextInRange c
drill_in_range None c e = absurd (cc)
drill_in_range (Some n) c e = let same : Drill n ≡ c = cc in subst IsTextInRange same tt

why_in_range : (o : Option ℕ) (c : TextCommand) → option_map (λ n. Why n) o ≡ Some c → IsTextInRange c
why_in_range None c e = absurd (cc)
why_in_range (Some n) c e = let same : Why n ≡ c = cc in subst IsTextInRange same tt

draw_at : (from to ask : Option ℕ) (c : TextCommand) → option_and_then (λ a. option_map (λ b. Draw a b ask) to) from ≡ Some c → IsTextInRange c
draw_at None to ask c e = absurd (cc)
draw_at (Some a) None ask c e = absurd (cc)
draw_at (Some a) (Some b) ask c e = let same : Draw a b ask ≡ c = cc in subst IsTextInRange same tt

named_at : (runs checks audits reports prints gens drills migrates whys cuts draws : Bool) (run draw : Option TextCommand) (number : Option ℕ) (c : TextCommand) → (run ≡ Some c → IsTextInRange c) → (draw ≡ Some c → IsTextInRange c)
    → cond runs run (cond checks (Some Check) (cond audits (Some Audit) (cond reports (Some Report) (cond prints (Some Print) (cond gens (option_map (λ n. Gen n) number) (cond drills (option_map (λ n. Drill n) number) (cond migrates (Some Migrate) (cond whys (option_map (λ n. Why n) number) (cond cuts (Some Cut) (cond draws draw None)))))))))) ≡ Some c → IsTextInRange c
named_at true checks audits reports prints gens drills migrates whys cuts draws run draw number c f g e = f e
named_at false true audits reports prints gens drills migrates whys cuts draws run draw number c f g e = let same : Check ≡ c = cc in subst IsTextInRange same tt
named_at false false true reports prints gens drills migrates whys cuts draws run draw number c f g e = let same : Audit ≡ c = cc in subst IsTextInRange same tt
named_at false false false true prints gens drills migrates whys cuts draws run draw number c f g e = let same : Report ≡ c = cc in subst IsTextInRange same tt
named_at false false false false true gens drills migrates whys cuts draws run draw number c f g e = let same : Print ≡ c = cc in subst IsTextInRange same tt
named_at false false false false false true drills migrates whys cuts draws run draw number c f g e = gen_in_range number c e
named_at false false false false false false true migrates whys cuts draws run draw number c f g e = drill_in_range number c e
named_at false false false false false false false true whys cuts draws run draw number c f g e = let same : Migrate ≡ c = cc in subst IsTextInRange same tt
named_at false false false false false false false false true cuts draws run draw number c f g e = why_in_range number c e
named_at false false false false false false false false false true draws run draw number c f g e = let same : Cut ≡ c = cc in subst IsTextInRange same tt
named_at false false false false false false false false false false true run draw number c f g e = g e
named_at false false false false false false false false false false false run draw number c f g e = absurd (cc)

storm_or_plain : (storms : Bool) (storm plain : Option TextCommand) (c : TextCommand) → (storm ≡ Some c → IsTextInRange c) → (plain ≡ Some c → IsTextInRange c) → cond storms storm plain ≡ Some c → IsTextInRange c
storm_or_plain true storm plain c f g e = f e
storm_or_plain false storm plain c f g e = g e

text_at : (words : List Text) (name : Text) (c : TextCommand) → fault_of tau_command words ≡ [] → text_named name (matches_of tau_command words) ≡ Some c → IsTextInRange c
text_at words name c none e =
    let rows = matches_of tau_command words in
    storm_or_plain (bytes_eq name (codes "storm")) (storm_of rows) (plain_named name rows) c (storm_in_range words c none)
    (named_at (bytes_eq name (codes "run")) (bytes_eq name (codes "check")) (bytes_eq name (codes "audit")) (bytes_eq name (codes "report")) (bytes_eq name (codes "print")) (bytes_eq name (codes "gen")) (bytes_eq name (codes "drill")) (bytes_eq name (codes "migrate")) (bytes_eq name (codes "why")) (bytes_eq name (codes "cut")) (bytes_eq name (codes "draw"))
    (run_of rows) (draw_of rows) (number_of 64 (codes "number") rows) c (run_in_range words c none)
    (draw_at (number_of 32 (codes "from") rows) (number_of 32 (codes "to") rows) (number_of 64 (codes "number") rows) c)) e

-- and those of each command
command_at : (keeps resumes : Bool) (numbers : Option RunNumbers) (text : Option TextCommand) (c : Command) → ((n : RunNumbers) → numbers ≡ Some n → AreInRange n) → ((t : TextCommand) → text ≡ Some t → IsTextInRange t)
    → cond keeps (option_map (λ n. commands.Keep n.jobs n.seed n.steps) numbers) (cond resumes (option_map (λ n. commands.Resume n.jobs n.seed n.steps) numbers) (option_map (λ t. commands.Text t) text)) ≡ Some c → IsInRange c
command_at true resumes None text c f g e = absurd (cc)
command_at true resumes (Some n) text c f g e =
    let same : commands.Keep n.jobs n.seed n.steps ≡ c = cc in
    let h = f n refl in
    subst IsInRange same (h.2, h.3, h.4)
command_at false true None text c f g e = absurd (cc)
command_at false true (Some n) text c f g e =
    let same : commands.Resume n.jobs n.seed n.steps ≡ c = cc in
    let h = f n refl in
    subst IsInRange same (h.2, h.3, h.4)
command_at false false numbers None c f g e = absurd (cc)
command_at false false numbers (Some t) c f g e = let same : commands.Text t ≡ c = cc in subst IsInRange same (g t refl)

allowed_at : (amiss : Bool) (o : Option Command) (c : Command) → (o ≡ Some c → IsInRange c) → cond amiss None o ≡ Some c → IsInRange c
allowed_at true o c f e = absurd (cc)
allowed_at false o c f e = f e

matched_at : (words : List Text) (name : Option Text) (c : Command) → fault_of tau_command words ≡ [] → option_and_then (command_allowed (matches_of tau_command words)) name ≡ Some c → IsInRange c
matched_at words None c none e = absurd (cc)
matched_at words (Some name) c none e =
    let rows = matches_of tau_command words in
    allowed_at (stands_amiss name rows) (command_named name rows) c
    (command_at (bytes_eq name (codes "keep")) (bytes_eq name (codes "resume")) (run_numbers rows) (text_named name rows) c (λ n. numbers_in_range words n none) (λ t. text_at words name t none)) e

faultless_at : (kinds : Kinds) (o : Option Command) (c : Command) → (kinds ≡ [] → o ≡ Some c → IsInRange c) → where_faultless kinds o ≡ Some c → IsInRange c
faultless_at [] o c f e = f refl e
faultless_at (k ∷ kinds) o c f e = absurd (cc)

in_range : (words : List Text) (c : Command) → command_of words ≡ Some c → IsInRange c
unfolding command_of
in_range words c e = faultless_at (fault_of tau_command words) (command_matched (matches_of tau_command words)) c (λ none. matched_at words _ c none) e

-- and of the answer for words that name a command or none
pub ok_in_range : (words : List Text) (o : Option Command) (e : WordsError) (r : Result Command WordsError) → r ≡ ok_or o e → command_of words ≡ o → IfOk r IsInRange
ok_in_range words None e r is named = subst (λ x. IfOk x IsInRange) (sym is) tt
ok_in_range words (Some c) e r is named = subst (λ x. IfOk x IsInRange) (sym is) (in_range words c named)
