-- The texts of a picture, in bytes (docs/formats.md, "Pictures"); nothing in them is escaped or cut.
-- 32 is the space.
use Rattle.std.specs.Prelude.{ℕ, List, [], ◌∷◌, ◌++◌, Option, Some, None, codes}
use Rattle.std.specs.Option.{option_map_or}
use Rattle.std.specs.Fmt.{decimal}
use Rattle.tau_sexpr.specs.Tree.{Tree, word, text, list}
use Rattle.tau_sexpr.specs.Printing.{print_of, print_items}
use Rattle.tau_value.specs.Val.{Val}
use Rattle.tau_value.specs.Written.{name_written, written}
use Rattle.tau_points.specs.declared.point.Point.{Point}
use Rattle.tau_trace.specs.Run.{Run}
use Rattle.tau_steps.specs.StepForms.{step_form_at}

-- a start by its name, and another transactor by its number
abbrev pub who_text : List (List ℕ) → ℕ → List ℕ
who_text names t = name_written names t

-- a point: its transactor, its interval and its incarnation
abbrev pub point_text : List (List ℕ) → Point → List ℕ
point_text names p = who_text names p.who ++ 32 ∷ (decimal p.interval ++ 32 ∷ decimal p.incarnation)

-- the printed form of a value
abbrev pub value_text : List (List ℕ) → Val → List ℕ
value_text names v = print_of (written names v)

-- a printed form without its outer brackets, if it is a list
abbrev pub bare_of : Tree → List ℕ
bare_of (word w) = print_of (word w)
bare_of (text t) = print_of (text t)
bare_of (list ts) = print_items ts

-- the printed form of the step at place k
abbrev pub step_text : Run → ℕ → List ℕ
step_text T k = option_map_or print_of (step_form_at T k) []

-- the same without its outer brackets
abbrev pub bare_text : Run → ℕ → List ℕ
bare_text T k = option_map_or bare_of (step_form_at T k) []

-- Parts of the note of a step: what a Checkpoint saves; the last point of a chain, which fell or isn't firm or saved; and
-- what a falling step leads back to, or that it ends the transactor.

abbrev pub saves_text : List (List ℕ) → Val → List ℕ
saves_text names v = codes ", saves " ++ value_text names v

abbrev pub fell_text : List (List ℕ) → Point → List ℕ
fell_text names p = codes ", " ++ (point_text names p ++ codes " fell")

abbrev pub needs_text : List (List ℕ) → Point → List ℕ
needs_text names p = codes ", needs " ++ point_text names p

abbrev pub back_text : List (List ℕ) → Val → List ℕ
back_text names v = codes ", back to " ++ value_text names v

abbrev pub ends_text : List ℕ
ends_text = codes ", ends"

-- The title of a state: its point, where it begins and where it ends, if it does, and what its look says.

abbrev pub up_to_text : Option ℕ → List ℕ
up_to_text None = []
up_to_text (Some k) = codes " up to " ++ decimal k

abbrev pub state_title : List (List ℕ) → Point → ℕ → Option ℕ → List ℕ → List ℕ
state_title names p begin end said = codes "state " ++ (point_text names p ++ (codes " from " ++ (decimal begin ++ (up_to_text end ++ (codes ", " ++ said)))))

-- What may be kept of a transactor if all else is lost, behind its name: what a Checkpoint at place k saved, the opening state, or
-- nothing.

abbrev pub kept_text : List (List ℕ) → Val → ℕ → List ℕ
kept_text names v k = 32 ∷ (value_text names v ++ (codes ", saved at " ++ decimal k))

abbrev pub opened_text : List (List ℕ) → Val → List ℕ
opened_text names v = 32 ∷ (value_text names v ++ codes ", as it opened")

abbrev pub nothing_text : List ℕ
nothing_text = codes ", nothing"
