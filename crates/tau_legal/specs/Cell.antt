-- The cell: it adds a message to its state, stabilizes, and saves the sum (docs/definitions.md, "Runs of the examples").
use Rattle.std.specs.Prelude.{pos, [], ◌∷◌, codes}
use Rattle.tau_value.specs.declared.shared.Value.{Value}
use Rattle.tau_value.specs.declared.shared.Value.TheVariants.{Int}
use Rattle.tau_tree.specs.declared.starts.Start.{Start}
use Rattle.tau_tree.specs.declared.posts.Post.{Post}
use Rattle.tau_tree.specs.declared.programs.Program.{Program}
use Rattle.tau_tree.specs.declared.expressions.Operation.TheVariants.{Add}
use Rattle.tau_tree.specs.Behaviour.{NamedCode}
use Rattle.tau_tree.specs.Code as code
use Rattle.tau_tree.specs.Code.{Code}
use Rattle.tau_trace.specs.declared.step.Step.TheVariants.{Take, Get, Set, Stabilize, Checkpoint}
use Rattle.tau_trace.specs.Run.{Run}
use Rattle.tau_script.specs.Openings.{program_opening}

-- (seq (set (+ (get) msg)) (stabilize) (checkpoint))
abbrev pub cell_body : Code
cell_body = code.seq (code.more (code.set (code.apply Add (code.more code.get (code.more code.msg code.none)))) (code.more code.stabilize (code.more code.checkpoint code.none)))

abbrev pub cell : NamedCode
cell = record { name = codes "cell"; body = cell_body }

abbrev pub five : Value
five = Int (pos 5)

abbrev pub ten : Value
ten = Int (pos 10)

abbrev pub fifteen : Value
fifteen = Int (pos 15)

-- transactor 0
abbrev pub cell_start : Start
cell_start = record { name = codes "acc"; behaviour = 0; node = 0; state = ten }

-- message 0
abbrev pub five_to_cell : Post
five_to_cell = record { to = 0; value = five }

abbrev pub adding_cell : Program
adding_cell = record {
  version = 1;
  nodes = 1;
  behaviours = cell ∷ [];
  starts = cell_start ∷ [];
  posts = five_to_cell ∷ [];
  script = [];
}

abbrev pub cell_run : Run
cell_run = record { opening = program_opening adding_cell; steps = Take 0 0 ∷ Get 0 ∷ Set 0 fifteen ∷ Stabilize 0 ∷ Checkpoint 0 ∷ [] }
