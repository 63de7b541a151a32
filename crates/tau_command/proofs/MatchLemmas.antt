-- The command of the words by what `clap` makes of them.
use Rattle.std.proofs.Common.{◌≡◌, ◌∙◌, ap, refl, sym, true, List, [], ◌∷◌, Option, Some, None}
use Rattle.std.specs.Prelude.{option_and_then, option_map, find, Result, Ok, Err, IsErrAnd, IsErrOf}
use Rattle.std.specs.Str.{bytes_eq}
use Rattle.clap.specs.Facts.{Entry}
use Rattle.clap.specs.Walk.{row_of}
use Rattle.clap.specs.Words.{Kinds, Row, Text, fault_of, is_simple, is_simple_and_free, matched_of, matches_of, rows_of}
use Rattle.clap.specs.declared.parser.matches.Found.{Found}
use Rattle.clap.specs.declared.parser.matches.MatchedArg.{MatchedArg}
use Rattle.clap.proofs.OnLiterals.{clap_on_literals}
use Rattle.clap.proofs.WalkLemmas.{find_row}
use Rattle.tau_command.specs.Arguments.{tau_command}
use Rattle.tau_command.specs.Commands.{command_matched, command_of, is_from_words, stands, where_faultless}
use Rattle.tau_command.specs.declared.commands.Command.{Command}
use Rattle.tau_command.specs.declared.commands.WordsError.{WordsError}
use Rattle.tau_command.specs.declared.commands.WordsError.TheVariants.{Words}

-- `clap` tells exactly what it makes of the command's words
pub tau_is_simple : is_simple tau_command ≡ true
unfolding clap_on_literals tau_command
tau_is_simple = refl

pub tau_is_free : is_simple_and_free tau_command ≡ true
unfolding clap_on_literals tau_command
tau_is_free = refl

-- words that `clap` refuses name no command
refused_at : (kinds : Kinds) (o : Option Command) → (kinds ≡ [] → ⊥) → where_faultless kinds o ≡ None
refused_at [] o faulty = absurd (faulty refl)
refused_at (k ∷ kinds) o faulty = refl

pub refused : (words : List Text) → (fault_of tau_command words ≡ [] → ⊥) → command_of words ≡ None
unfolding command_of
refused words faulty = refused_at (fault_of tau_command words) _ faulty

-- words that it accepts name the command of the matches
pub accepted : (words : List Text) → fault_of tau_command words ≡ [] → command_of words ≡ command_matched (matches_of tau_command words)
unfolding command_of
accepted words none = ap (λ (kinds : Kinds). where_faultless kinds (command_matched (matches_of tau_command words))) none

-- an error that is handed on is the one that came
pub same_error : (T : Type 0) (r : Result T WordsError) (x : WordsError) → IsErrAnd r (λ y. y ≡ x) → IsErrOf r Words → x ≡ Words
same_error T (Ok v) x handed is = absurd handed
same_error T (Err e) x handed is = cc

-- whether an argument stands on the line, by its entry
pub stands_by : (f : Found) (id : Text) → is_from_words (option_and_then (λ (a : MatchedArg). a.source) (matched_of f id)) ≡ stands id (rows_of f)
stands_by f id = ap is_from_words (go (find (λ (e : Entry). bytes_eq e.0.now id) f.entries.items)
    ∙ ap (option_and_then (λ (r : Row). r.source)) (sym (find_row f.entries.items id)))
  where
    go : (o : Option Entry) → option_and_then (λ (a : MatchedArg). a.source) (option_map (λ e. e.1) o)
        ≡ option_and_then (λ (r : Row). r.source) (option_map row_of o)
    go None = refl
    go (Some e) = refl
