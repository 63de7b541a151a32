-- Programs in version 2, and what the other commands make of a text that `migrate` writes.
use Rattle.std.proofs.Common.{inl, inr, ℕ, get_or, refl, arith}
use Rattle.tau_tree.specs.declared.programs.Program.{Program}
use Rattle.tau_tree.specs.declared.entries.Failure.{Failure}
use Rattle.tau_tree.specs.declared.entries.Failure.TheVariants.{Fail, Lose, Repeat}
use Rattle.tau_tree.specs.Sound.{IsSoundFailure, Sound}
use Rattle.tau_trace.specs.Run.{second}
use Rattle.tau_text.specs.Laws.{TellsRun}
use Rattle.tau_text.proofs.ReadBack.{run_texts_read_back}
use Rattle.tau_output.specs.Migrating.{second_program}
use Rattle.tau_output.specs.Laws.{MigratedTextsAreAccepted}

-- a failure of a sound script is one in version 2
in_second : (nodes version : ℕ) (f : Failure) → IsSoundFailure nodes version f → IsSoundFailure nodes 2 f
in_second nodes version (Fail node) h = h
in_second nodes version (Lose message) h = tt
in_second nodes version (Repeat message) h = refl

-- a sound program is sound in version 2
pub second_sound : (P : Program) → Sound P → Sound (second_program P)
second_sound P s = record {
  some_version = omega arith;
  versions_limit = omega arith;
  some_nodes = s.some_nodes;
  nodes_limit = s.nodes_limit;
  behaviours_limit = s.behaviours_limit;
  starts_limit = s.starts_limit;
  posts_limit = s.posts_limit;
  entries_limit = s.entries_limit;
  behaviours_named = s.behaviours_named;
  behaviours_distinct = s.behaviours_distinct;
  starts_named = s.starts_named;
  starts_distinct = s.starts_distinct;
  start_behaviours = s.start_behaviours;
  start_nodes = s.start_nodes;
  state_names = s.state_names;
  receivers = s.receivers;
  post_names = s.post_names;
  sound_failures = λ k d l. in_second P.nodes P.version (get_or P.script k d).failure (s.sound_failures k d l);
  states_bounded = s.states_bounded;
  posts_bounded = s.posts_bounded;
  texts_bounded = s.texts_bounded;
  variables_bound = s.variables_bound;
  variables_named = s.variables_named;
  body_starts = s.body_starts;
  body_behaviours = s.body_behaviours;
  arities = s.arities;
  sequences = s.sequences;
  folds = s.folds;
  bodies_depth = s.bodies_depth;
  states_depth = s.states_depth;
  posts_depth = s.posts_depth;
}

pub migrated_texts_accepted : MigratedTextsAreAccepted
migrated_texts_accepted bytes text one l =
    let P = second_program one.program in
    let T = second one.run in
    let m = one.migrated in
    let tells : TellsRun P T text = record { well_formed = m.well_formed; opening = m.legal.opening; read_back = m.read_back } in
    let back = run_texts_read_back P T text tells in
    record {
      read = back.0;
      same_steps = refl;
      check = λ whole. record { few = λ reads. l; answers = record { program = P; run = T; read = back.0; checked = (m.legal, m.safe, inl (whole, refl)) } };
      check_open = λ not_whole. record { few = λ reads. l; answers = record { program = P; run = T; read = back.0; checked = (m.legal, m.safe, inr (not_whole, refl)) } };
      audit = record { few = λ reads. l; answers = record { program = P; run = T; read = back.0; audited = (m.safe, refl) } };
      print = record { few = λ reads. l; answers = (record { program = P; read = back.1; is_text = refl }, refl) };
      migrate = record { few = λ reads. l; answers = record { program = P; run = T; read = back.0; migrated = m } };
    }
