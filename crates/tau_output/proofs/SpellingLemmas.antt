-- The text of a program that stands at the front of a run text spells it.
use Rattle.std.proofs.Common.{ℕ, List, [], ◌∷◌, ◌++◌, subst, arith}
use Rattle.std.specs.List.{All}
use Rattle.std.proofs.lemmas.List.Elements.{All-nil, All-cons}
use Rattle.tau_sexpr.specs.Tree.{Tree, inside, depth_of_all-inside, depths-append, HasWords, AllHaveWords}
use Rattle.tau_sexpr.specs.Printing.{printed, HasBytes, AllHaveBytes}
use Rattle.tau_sexpr.specs.Spelling.{IsSpelling}
use Rattle.tau_sexpr.proofs.PrintLemmas.{spells_printed}
use Rattle.tau_tree.specs.declared.programs.Program.{Program}
use Rattle.tau_forms.specs.Printed as program_forms
use Rattle.tau_trace.specs.Run.{Run}
use Rattle.tau_text.specs.RunText.{trace_mark, report_mark, IsReadBack}
use Rattle.tau_text.specs.Meaning.{IsProgram}
use Rattle.tau_text.proofs.SpellingLemmas.{printable}

-- a front of what is spelled can be printed
front_words : (xs ys : List Tree) → AllHaveWords (inside (xs ++ ys)) → All HasWords xs
front_words [] ys h = All-nil HasWords
front_words (x ∷ xs) ys h = All-cons HasWords x xs h.0 (front_words xs ys h.1)

front_bytes : (xs ys : List Tree) → AllHaveBytes (inside (xs ++ ys)) → All HasBytes xs
front_bytes [] ys h = All-nil HasBytes
front_bytes (x ∷ xs) ys h = All-cons HasBytes x xs h.0 (front_bytes xs ys h.1)

front_spelled : (bs : List ℕ) (xs ys : List Tree) → IsSpelling bs (xs ++ ys) → IsSpelling (printed xs) xs
front_spelled bs xs ys spelled =
    let h = printable spelled in
    spells_printed xs (omega (arith, h.0, depth_of_all-inside (xs ++ ys), depths-append xs ys)) (front_words xs ys h.1) (front_bytes xs ys h.2)

-- the program of a text that is read back
pub program_spelled : (P : Program) (T : Run) (bytes : List ℕ) → IsReadBack P T bytes → IsProgram (printed (program_forms.printed P)) P
program_spelled P T bytes back = record {
  forms = program_forms.printed P;
  spelled = front_spelled bytes (program_forms.printed P) (trace_mark ∷ (back.are.steps ++ (report_mark ∷ back.are.report))) (subst (λ fs. IsSpelling bytes fs) back.are.are back.spelled);
  means = back.program;
}
