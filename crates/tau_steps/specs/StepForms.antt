-- The forms that steps are written as (docs/formats.md, "Steps").
use Rattle.std.specs.Prelude.{◌≡◌, ℕ, Bool, List, [], ◌∷◌, Option, Some, option_map, codes, if◌then◌else◌}
use Rattle.tau_sexpr.specs.Tree.{Tree, word, list, inside}
use Rattle.tau_value.specs.declared.shared.Value.{Value}
use Rattle.tau_value.specs.Value.{val_of}
use Rattle.tau_value.specs.Written.{name_written, written, count_form, IsWritten}
use Rattle.tau_trace.specs.declared.opening.Opening.{Opening}
use Rattle.tau_trace.specs.declared.step.Step.{Step}
use Rattle.tau_trace.specs.declared.step.Step.TheVariants.{Take, Drop, Fall, Void, Get, Set, Skip, Send, New, Stabilize, Ask, Checkpoint, Hold, Rollback, Stay, Done, Trap, Fail, Lose, Echo, Heed, Repeat}
use Rattle.tau_trace.specs.Run.{Run, step_at}
use Rattle.tau_trace.specs.Numbering.{born, sent, number_made}

-- the word that begins the form of a step
abbrev pub kind_word : Step → List ℕ
kind_word (Take t m) = codes "take"
kind_word (Drop t m) = codes "drop"
kind_word (Fall t m) = codes "fall"
kind_word (Void t m) = codes "void"
kind_word (Get t) = codes "get"
kind_word (Set t v) = codes "set"
kind_word (Skip t) = codes "skip"
kind_word (Send t u v) = codes "send"
kind_word (New t b n v) = codes "new"
kind_word (Stabilize t) = codes "stabilize"
kind_word (Ask t a) = codes "ask"
kind_word (Checkpoint t) = codes "checkpoint"
kind_word (Hold t) = codes "hold"
kind_word (Rollback t) = codes "rollback"
kind_word (Stay t) = codes "stay"
kind_word (Done t) = codes "done"
kind_word (Trap t c) = codes "trap"
kind_word (Fail t) = codes "fail"
kind_word (Lose m) = codes "lose"
kind_word (Echo t m) = codes "echo"
kind_word (Heed t m) = codes "heed"
kind_word (Repeat m) = codes "repeat"

-- a start by its name and another transactor by its number; a number; a truth; a value
abbrev pub who_form : Opening → ℕ → Tree
who_form o t = word (name_written o.names t)

abbrev pub truth_form : Bool → Tree
truth_form a = word (if a then codes "true" else codes "false")

abbrev pub behaviour_form : Opening → ℕ → Tree
behaviour_form o b = word (name_written o.behaviours b)

abbrev pub value_form : Opening → Value → Tree
value_form o v = written o.names (val_of v)

-- the other items of the form of a step; `made` is the number that a Send, an Echo, a Repeat or a New makes
abbrev pub item_forms : Opening → ℕ → Step → List Tree
item_forms o made (Take t m) = who_form o t ∷ count_form m ∷ []
item_forms o made (Drop t m) = who_form o t ∷ count_form m ∷ []
item_forms o made (Fall t m) = who_form o t ∷ count_form m ∷ []
item_forms o made (Void t m) = who_form o t ∷ count_form m ∷ []
item_forms o made (Get t) = who_form o t ∷ []
item_forms o made (Set t v) = who_form o t ∷ value_form o v ∷ []
item_forms o made (Skip t) = who_form o t ∷ []
item_forms o made (Send t u v) = who_form o t ∷ count_form made ∷ who_form o u ∷ value_form o v ∷ []
item_forms o made (New t b n v) = who_form o t ∷ count_form made ∷ behaviour_form o b ∷ count_form n ∷ value_form o v ∷ []
item_forms o made (Stabilize t) = who_form o t ∷ []
item_forms o made (Ask t a) = who_form o t ∷ truth_form a ∷ []
item_forms o made (Checkpoint t) = who_form o t ∷ []
item_forms o made (Hold t) = who_form o t ∷ []
item_forms o made (Rollback t) = who_form o t ∷ []
item_forms o made (Stay t) = who_form o t ∷ []
item_forms o made (Done t) = who_form o t ∷ []
item_forms o made (Trap t c) = who_form o t ∷ count_form c ∷ []
item_forms o made (Fail t) = who_form o t ∷ []
item_forms o made (Lose m) = count_form m ∷ []
item_forms o made (Echo t m) = who_form o t ∷ count_form made ∷ count_form m ∷ []
item_forms o made (Heed t m) = who_form o t ∷ count_form m ∷ []
item_forms o made (Repeat m) = count_form made ∷ count_form m ∷ []

-- the form of a step
abbrev pub step_form : Opening → ℕ → Step → Tree
step_form o made s = list (inside (word (kind_word s) ∷ item_forms o made s))

-- the form of the step at place k
abbrev pub step_form_at : Run → ℕ → Option Tree
step_form_at T k = option_map (λ s. step_form T.opening (number_made s (born T k) (sent T k)) s) (step_at T k)

-- the value of a step, if it has one, has a form that is read back
abbrev pub ValueIsWritten : Opening → Step → Type 0
ValueIsWritten o (Set t v) = IsWritten o.names (val_of v)
ValueIsWritten o (Send t u v) = IsWritten o.names (val_of v)
ValueIsWritten o (New t b n v) = IsWritten o.names (val_of v)
ValueIsWritten o s = Unit {0}

-- and for the step at place k
abbrev pub IsWrittenAt : Run → ℕ → Type 0
IsWrittenAt T k = (s : Step) → step_at T k ≡ Some s → ValueIsWritten T.opening s
