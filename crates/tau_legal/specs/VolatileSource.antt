-- The volatile source: a source that never stabilizes sends its state to a sink, which asks for a checkpoint
-- (docs/definitions.md, "Runs of the examples").
use Rattle.std.specs.Prelude.{pos, List, [], ◌∷◌, ◌++◌, codes}
use Rattle.tau_value.specs.declared.shared.Value.{Value}
use Rattle.tau_value.specs.declared.shared.Value.TheVariants.{Int}
use Rattle.tau_points.specs.declared.point.Point.{Point}
use Rattle.tau_tree.specs.declared.starts.Start.{Start}
use Rattle.tau_tree.specs.declared.posts.Post.{Post}
use Rattle.tau_tree.specs.declared.programs.Program.{Program}
use Rattle.tau_tree.specs.Behaviour.{NamedCode}
use Rattle.tau_tree.specs.Code as code
use Rattle.tau_tree.specs.Code.{Code}
use Rattle.tau_trace.specs.declared.step.Step.{Step}
use Rattle.tau_trace.specs.declared.step.Step.TheVariants.{Take, Get, Set, Send, Stabilize, Checkpoint, Hold, Done}
use Rattle.tau_trace.specs.Run.{Run}
use Rattle.tau_trace.specs.Points.{point_at}
use Rattle.tau_script.specs.Openings.{program_opening}
use Rattle.tau_past.specs.Heard.{Heard}
use Rattle.tau_past.specs.Pasts.{PastIn, Is, FirmIn}

-- (seq (set msg) (send (name k) (get)))
abbrev pub source_body : Code
source_body = code.seq (code.more (code.set code.msg) (code.more (code.send (code.start 1) code.get) code.none))

-- (seq (set msg) (stabilize) (checkpoint))
abbrev pub sink_body : Code
sink_body = code.seq (code.more (code.set code.msg) (code.more code.stabilize (code.more code.checkpoint code.none)))

abbrev pub source : NamedCode
source = record { name = codes "src"; body = source_body }

abbrev pub sink : NamedCode
sink = record { name = codes "sink"; body = sink_body }

abbrev pub zero_state : Value
zero_state = Int (pos 0)

abbrev pub seven : Value
seven = Int (pos 7)

-- transactors 0 and 1
abbrev pub source_start : Start
source_start = record { name = codes "s"; behaviour = 0; node = 0; state = zero_state }

abbrev pub sink_start : Start
sink_start = record { name = codes "k"; behaviour = 1; node = 0; state = zero_state }

-- message 0
abbrev pub seven_to_source : Post
seven_to_source = record { to = 0; value = seven }

abbrev pub volatile_source : Program
volatile_source = record {
  version = 1;
  nodes = 1;
  behaviours = source ∷ sink ∷ [];
  starts = source_start ∷ sink_start ∷ [];
  posts = seven_to_source ∷ [];
  script = [];
}

-- the first eight steps: the sink has stabilized and is about to ask for a checkpoint
abbrev pub before_request : List Step
before_request = Take 0 0 ∷ Set 0 seven ∷ Get 0 ∷ Send 0 1 seven ∷ Done 0 ∷ Take 1 1 ∷ Set 1 seven ∷ Stabilize 1 ∷ []

-- the run in which this step follows them
abbrev pub going_on_with : Step → Run
going_on_with s = record { opening = program_opening volatile_source; steps = before_request ++ s ∷ [] }

-- the sink's request is held, or a checkpoint comes of it
abbrev pub held_run : Run
held_run = going_on_with (Hold 1)

abbrev pub saved_run : Run
saved_run = going_on_with (Checkpoint 1)

-- the source's point
abbrev pub source_point : Point
source_point = record { who = 0; interval = 1; incarnation = 0 }

-- in what the sink had heard at its request, its past holds the source's point, which is not firm there
pub record DependsOnSource (T : Run) : Type 0 where
  pub in_past : PastIn T (Heard T 1 8) (Is (point_at T 1 8)) source_point
  pub not_firm : ¬ FirmIn T (Heard T 1 8) source_point
