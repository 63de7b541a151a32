-- The source that rolls back: it sends its state to a sink twice and rolls back. The sink takes the first message, hears of the
-- rollback by a later one, falls, and drops the second (docs/definitions.md, "Runs of the examples").
use Rattle.std.specs.Prelude.{pos, [], ◌∷◌, codes}
use Rattle.tau_value.specs.declared.shared.Value.{Value}
use Rattle.tau_value.specs.declared.shared.Value.TheVariants.{Int}
use Rattle.tau_tree.specs.declared.posts.Post.{Post}
use Rattle.tau_tree.specs.declared.programs.Program.{Program}
use Rattle.tau_tree.specs.declared.expressions.Operation.TheVariants.{Same}
use Rattle.tau_tree.specs.Behaviour.{NamedCode}
use Rattle.tau_tree.specs.Code as code
use Rattle.tau_tree.specs.Code.{Code}
use Rattle.tau_trace.specs.declared.step.Step.TheVariants.{Take, Drop, Fall, Set, Send, Rollback, Done}
use Rattle.tau_trace.specs.Run.{Run}
use Rattle.tau_script.specs.Openings.{program_opening}
use Rattle.tau_legal.specs.VolatileSource.{source_start, sink_start}

abbrev pub one : Value
one = Int (pos 1)

abbrev pub two : Value
two = Int (pos 2)

-- (send (name k) N)
abbrev pub send_to_sink : Code → Code
send_to_sink n = code.send (code.start 1) n

-- (if (= msg 1) (seq (set 1) (send (name k) 1) (send (name k) 1) (rollback)) (send (name k) 2))
abbrev pub source_body : Code
source_body =
    code.if_else (code.apply Same (code.more code.msg (code.more (code.int (pos 1)) code.none)))
    (code.seq (code.more (code.set (code.int (pos 1))) (code.more (send_to_sink (code.int (pos 1))) (code.more (send_to_sink (code.int (pos 1))) (code.more code.rollback code.none)))))
    (send_to_sink (code.int (pos 2)))

abbrev pub source : NamedCode
source = record { name = codes "src"; body = source_body }

-- (set msg)
abbrev pub sink : NamedCode
sink = record { name = codes "sink"; body = code.set code.msg }

-- messages 0 and 1
abbrev pub one_to_source : Post
one_to_source = record { to = 0; value = one }

abbrev pub two_to_source : Post
two_to_source = record { to = 0; value = two }

abbrev pub rolled_back_source : Program
rolled_back_source = record {
  version = 1;
  nodes = 1;
  behaviours = source ∷ sink ∷ [];
  starts = source_start ∷ sink_start ∷ [];
  posts = one_to_source ∷ two_to_source ∷ [];
  script = [];
}

abbrev pub dropping_run : Run
dropping_run = record {
  opening = program_opening rolled_back_source;
  steps = Take 0 0 ∷ Set 0 one ∷ Send 0 1 one ∷ Send 0 1 one ∷ Rollback 0 ∷ Take 1 2 ∷ Set 1 one ∷ Done 1 ∷ Take 0 1 ∷ Send 0 1 two ∷ Done 0 ∷ Fall 1 4 ∷ Drop 1 3 ∷ [];
}
