-- The sink of the volatile source is not free, and its request is held.
use Rattle.std.proofs.Common.{◌≡◌, ⊎_elim, pos, Bool, true, false, ◌==◌, [], ◌∷◌, refl, arith}
use Rattle.std.proofs.lemmas.Option.{slice_get_within}
use Rattle.tau_value.specs.Val as val
use Rattle.tau_points.specs.Reach as reach
use Rattle.tau_trace.specs.declared.step.Step.{Step}
use Rattle.tau_trace.specs.declared.step.Step.TheVariants.{Set, Stabilize, Checkpoint, Hold}
use Rattle.tau_trace.specs.Run.{Run}
use Rattle.tau_trace.specs.Places.{count_below}
use Rattle.tau_trace.specs.Histories.{history}
use Rattle.tau_past.specs.Heard.{Heard, own_step}
use Rattle.tau_past.specs.Pasts.{StabilizedIn, FirmIn}
use Rattle.tau_past.specs.Decisions.{Free}
use Rattle.tau_past.specs.Safety.{Safe}
use Rattle.tau_states.specs.Opening.{opening_states}
use Rattle.tau_eval.specs.Eff as eff
use Rattle.tau_legal.specs.Turns.{RepliesOf, TurnHas, start, message, before, reply}
use Rattle.tau_legal.specs.Fits.{Fits}
use Rattle.tau_legal.specs.VolatileSource.{sink_body, sink, seven, sink_start, volatile_source, going_on_with, held_run, saved_run, source_point, DependsOnSource}
use Rattle.tau_legal.proofs.Absence.{clash, passes_at, no_step, none_falls, FallsAs, falls_as}
use Rattle.tau_legal.proofs.Dependence.{sink_turn, depends}

-- a Stabilize of the source
abbrev stabilizes_source : Step → Bool
stabilizes_source (Stabilize t) = t == 0
stabilizes_source s = false

-- the source stabilizes nowhere in the run
abbrev SourceStaysVolatile : Step → Type 0
SourceStaysVolatile s = count_below (passes_at stabilizes_source (going_on_with s)) 9 ≡ 0

not_firm : (s : Step) → SourceStaysVolatile s → ¬ FirmIn (going_on_with s) (Heard (going_on_with s) 1 8) source_point
not_firm s none f = ⊎_elim never (λ o. absurd (omega (arith, o.interval_is))) f.settled where
  T : Run
  T = going_on_with s

  never : StabilizedIn T (Heard T 1 8) source_point → ⊥
  never z = clash true refl (no_step stabilizes_source T 9 none z.place (Stabilize 0) (slice_get_within T.steps z.place (Stabilize 0) z.stabilizes) z.stabilizes)

pub depends_on_source : (s : Step) → SourceStaysVolatile s → DependsOnSource (going_on_with s)
unfolding count_below history
depends_on_source s none = record {
  in_past = depends (going_on_with s).opening 1 (s ∷ []) (Heard (going_on_with s) 1 8) refl refl refl (reach.start (own_step refl (omega arith)));
  not_firm = not_firm s none;
}

not_free : (s : Step) → SourceStaysVolatile s → ¬ Free (going_on_with s) 1 8
not_free s none free = let d = depends_on_source s none in d.not_firm (free source_point d.in_past)

-- the sink's next effect at place 8
asks_for_checkpoint : (s : Step) → TurnHas volatile_source (going_on_with s) 1 8 eff.checkpoint
unfolding count_below
asks_for_checkpoint s = record {
  place = 5;
  message = 1;
  body = sink_body;
  value = val.int (pos 7);
  replies = val.unit ∷ val.unit ∷ [];
  turn = sink_turn (going_on_with s).opening 1 (s ∷ []);
  body_is = record { number = 1; behaviour = sink; has = start {s = sink_start} refl refl; stands = refl; is = refl };
  value_is = message {j = 3} {by = 0} (record { to = 1; value = seven; stands = refl; made = refl }) refl;
  replies_are = replied;
  effect_is = refl;
} where
  T : Run
  T = going_on_with s

  replied : RepliesOf T (opening_states volatile_source.starts) 1 6 8 (val.unit ∷ val.unit ∷ [])
  replied = reply {k = 7} {s = Stabilize 1} {rs = val.unit ∷ []} val.unit (omega arith) refl refl refl
      (reply {k = 6} {s = Set 1 seven} {rs = []} val.unit (omega arith) refl refl refl (before (omega arith)))

pub hold_fits : Fits volatile_source held_run 8 (Hold 1)
unfolding count_below
hold_fits = (asks_for_checkpoint (Hold 1), not_free (Hold 1) refl)

pub no_checkpoint : (s : Step) → SourceStaysVolatile s → ¬ Fits volatile_source (going_on_with s) 8 (Checkpoint 1)
no_checkpoint s none f = not_free s none f.1

pub held_at : SourceStaysVolatile (Hold 1)
unfolding count_below
held_at = refl

pub saved_at : SourceStaysVolatile (Checkpoint 1)
unfolding count_below
saved_at = refl

-- nothing falls in the run with the Checkpoint
pub saved_safe : Safe saved_run
unfolding count_below
saved_safe t c q closes past back = none_falls saved_run 9 refl q.who back.place (slice_get_within saved_run.steps back.place found.step found.stands) back.falls where
  found : FallsAs saved_run q.who back.place
  found = falls_as saved_run q.who back.place back.falls
