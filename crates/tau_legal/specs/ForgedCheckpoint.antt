-- The forged checkpoint: as the volatile source, but the sink saves its state all the same, and then the source rolls back
-- (docs/definitions.md, "Runs of the examples").
use Rattle.std.specs.Prelude.{pos, [], ◌∷◌, codes}
use Rattle.tau_tree.specs.declared.posts.Post.{Post}
use Rattle.tau_tree.specs.declared.programs.Program.{Program}
use Rattle.tau_tree.specs.declared.expressions.Operation.TheVariants.{Same}
use Rattle.tau_tree.specs.Behaviour.{NamedCode}
use Rattle.tau_tree.specs.Code as code
use Rattle.tau_tree.specs.Code.{Code}
use Rattle.tau_trace.specs.declared.step.Step.TheVariants.{Take, Get, Set, Send, Stabilize, Checkpoint, Rollback, Done}
use Rattle.tau_trace.specs.Run.{Run}
use Rattle.tau_script.specs.Openings.{program_opening}
use Rattle.tau_legal.specs.VolatileSource.{sink, source_start, sink_start, seven, zero_state, seven_to_source}

-- (if (= msg 0) (rollback) (seq (set msg) (send (name k) (get))))
abbrev pub source_body : Code
source_body =
    code.if_else (code.apply Same (code.more code.msg (code.more (code.int (pos 0)) code.none))) code.rollback
    (code.seq (code.more (code.set code.msg) (code.more (code.send (code.start 1) code.get) code.none)))

abbrev pub source : NamedCode
source = record { name = codes "src"; body = source_body }

-- message 1
abbrev pub zero_to_source : Post
zero_to_source = record { to = 0; value = zero_state }

abbrev pub falling_source : Program
falling_source = record {
  version = 1;
  nodes = 1;
  behaviours = source ∷ sink ∷ [];
  starts = source_start ∷ sink_start ∷ [];
  posts = seven_to_source ∷ zero_to_source ∷ [];
  script = [];
}

abbrev pub forged_run : Run
forged_run = record {
  opening = program_opening falling_source;
  steps = Take 0 0 ∷ Set 0 seven ∷ Get 0 ∷ Send 0 1 seven ∷ Done 0 ∷ Take 1 2 ∷ Set 1 seven ∷ Stabilize 1 ∷ Checkpoint 1 ∷ Take 0 1 ∷ Rollback 0 ∷ [];
}
