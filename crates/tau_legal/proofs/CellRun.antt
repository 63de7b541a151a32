-- The run of the cell is legal and complete, and the cell is free when it asks for a checkpoint.
use Rattle.std.proofs.Common.{◌≡◌, ◌⊎◌, inl, inr, ⊎_elim, ℕ, zero, suc, ◌<◌, ◌≤◌, ◌||◌, Bool, true, false, pos, IsTrue, IsFalse, Option, Some, None, [], ◌∷◌, refl, sym, ap, ◌∙◌, subst, arith}
use Rattle.std.specs.Prelude.{slice_get, option_and_then}
use Rattle.std.specs.Option.{option_map_or}
use Rattle.std.proofs.lemmas.Option.{slice_get_within}
use Rattle.tau_value.specs.Val as val
use Rattle.tau_value.specs.Val.{Val}
use Rattle.tau_points.specs.declared.point.Point.{Point}
use Rattle.tau_points.specs.Reach as reach
use Rattle.tau_points.proofs.Reach.{least}
use Rattle.tau_tree.specs.declared.entries.Entry.{Entry}
use Rattle.tau_trace.specs.declared.step.Step.{Step}
use Rattle.tau_trace.specs.declared.step.Step.TheVariants.{Take, Get, Set, New, Stabilize, Checkpoint}
use Rattle.tau_trace.specs.Steps.{actor, ends_turn, is_take, is_new, is_send, is_checkpoint}
use Rattle.tau_trace.specs.Run.{Run, step_at, Does}
use Rattle.tau_trace.specs.Places.{count_below}
use Rattle.tau_trace.specs.Numbering.{IsSendAt, InFlight, IsOrigin, direct, echoed, copied, post}
use Rattle.tau_trace.specs.Histories.{history, Closes}
use Rattle.tau_trace.specs.Points.{point_at}
use Rattle.tau_trace.specs.Turns.{Turn}
use Rattle.tau_trace.proofs.Lists.{same_some}
use Rattle.tau_past.specs.Carried.{is_set, Pending, touched, came, by_set, by_new}
use Rattle.tau_past.specs.Heard.{Heard, own_step}
use Rattle.tau_past.specs.Pasts.{Link, takes, closing, checkpoint, opening, Is, FellIn, FirmIn}
use Rattle.tau_past.specs.Decisions as decisions
use Rattle.tau_past.specs.Decisions.{Verdict, HasFallen, Free}
use Rattle.tau_past.specs.States.{StateAt, SavedWith, by_set as state_by_set, by_save, at_opening, at_checkpoint}
use Rattle.tau_script.specs.Scripts.{NoneDue, is_failure}
use Rattle.tau_script.proofs.Existing.{determined}
use Rattle.tau_states.specs.Opening.{opening_states}
use Rattle.tau_eval.specs.Eff as eff
use Rattle.tau_legal.specs.Turns as turns
use Rattle.tau_legal.specs.Turns.{HasBody, HasValue, RepliesOf, TurnHas, start, before, reply}
use Rattle.tau_legal.specs.Fits.{Fits}
use Rattle.tau_legal.specs.Traces.{Legal, Complete}
use Rattle.tau_legal.specs.Cell.{cell_body, cell, ten, fifteen, five_to_cell, cell_start, adding_cell, cell_run}
use Rattle.tau_legal.proofs.Absence.{clash, no_step, no_step_from, only_place, none_falls, FallsAs, falls_as}

-- nothing falls
nothing_fallen : (H : ℕ → Type 0) (q : Point) → ¬ FellIn cell_run H q
unfolding count_below
nothing_fallen H q f = none_falls cell_run 5 refl q.who f.place (slice_get_within cell_run.steps f.place found.step found.stands) f.falls where
  found : FallsAs cell_run q.who f.place
  found = falls_as cell_run q.who f.place f.falls

none_fallen : (H : ℕ → Type 0) (Q : Point → Type 0) → ¬ HasFallen cell_run H Q
none_fallen H Q h = nothing_fallen H h.cause h.fallen

-- the turn is open up to the Checkpoint
turn : (k : ℕ) → 0 < k → k ≤ 4 → Turn cell_run 0 k 0 0
unfolding count_below
turn k lt le = record { before = lt; takes = refl; goes_on = goes } where
  test : Step → Bool
  test s = ends_turn s || is_take s

  goes : (j : ℕ) → 0 < j → j < k → ¬ Does (λ s. ends_turn s || is_take s) cell_run 0 j
  goes j a b d = clash (test d.step) d.passes (no_step_from test cell_run 1 3 refl j d.step (omega arith) (omega arith) d.stands)

body_is : HasBody adding_cell cell_run 0 cell_body
body_is = record { number = 0; behaviour = cell; has = start {s = cell_start} refl refl; stands = refl; is = refl }

value_is : HasValue adding_cell cell_run 0 (val.int (pos 5))
value_is = turns.post {q = five_to_cell} refl refl

no_set_before : (j : ℕ) → j < 1 → ¬ Does is_set cell_run 0 j
unfolding count_below
no_set_before j lt d = clash (is_set d.step) d.passes (no_step is_set cell_run 1 refl j d.step lt d.stands)

state_at_get : StateAt cell_run (opening_states adding_cell.starts) (point_at cell_run 0 1) 1 ten
unfolding history
state_at_get = by_save {i = 0} refl (at_opening (omega arith) refl refl) (λ j a lt d _. no_set_before j lt d)

after_get : RepliesOf cell_run (opening_states adding_cell.starts) 0 1 2 (val.int (pos 10) ∷ [])
after_get = reply {k = 1} {s = Get 0} {rs = []} (val.int (pos 10)) (omega arith) refl refl (ten, state_at_get, refl) (before (omega arith))

after_set : RepliesOf cell_run (opening_states adding_cell.starts) 0 1 3 (val.int (pos 10) ∷ val.unit ∷ [])
after_set = reply {k = 2} {s = Set 0 fifteen} {rs = val.int (pos 10) ∷ []} val.unit (omega arith) refl refl refl after_get

after_stabilize : RepliesOf cell_run (opening_states adding_cell.starts) 0 1 4 (val.int (pos 10) ∷ val.unit ∷ val.unit ∷ [])
after_stabilize = reply {k = 3} {s = Stabilize 0} {rs = val.int (pos 10) ∷ val.unit ∷ []} val.unit (omega arith) refl refl refl after_set

-- the effects of the turn
has_get : TurnHas adding_cell cell_run 0 1 eff.get
has_get = record { place = 0; message = 0; body = cell_body; value = val.int (pos 5); replies = []; turn = turn 1 (omega arith) (omega arith); body_is = body_is; value_is = value_is; replies_are = before (omega arith); effect_is = refl }

has_set : TurnHas adding_cell cell_run 0 2 (eff.set (val.int (pos 15)))
has_set = record { place = 0; message = 0; body = cell_body; value = val.int (pos 5); replies = val.int (pos 10) ∷ []; turn = turn 2 (omega arith) (omega arith); body_is = body_is; value_is = value_is; replies_are = after_get; effect_is = refl }

has_stabilize : TurnHas adding_cell cell_run 0 3 eff.stabilize
has_stabilize = record { place = 0; message = 0; body = cell_body; value = val.int (pos 5); replies = val.int (pos 10) ∷ val.unit ∷ []; turn = turn 3 (omega arith) (omega arith); body_is = body_is; value_is = value_is; replies_are = after_set; effect_is = refl }

has_checkpoint : TurnHas adding_cell cell_run 0 4 eff.checkpoint
has_checkpoint = record { place = 0; message = 0; body = cell_body; value = val.int (pos 5); replies = val.int (pos 10) ∷ val.unit ∷ val.unit ∷ []; turn = turn 4 (omega arith) (omega arith); body_is = body_is; value_is = value_is; replies_are = after_stabilize; effect_is = refl }

-- the cell's point, and the point of its opening
abbrev own_point : Point
own_point = record { who = 0; interval = 1; incarnation = 0 }

abbrev opening_point : Point
opening_point = record { who = 0; interval = 0; incarnation = 0 }

abbrev IsOneOfTwo : Point → Type 0
IsOneOfTwo q = (q ≡ own_point) ⊎ (q ≡ opening_point)

-- the one Set is at place 2
set_there : (t j : ℕ) → Does is_set cell_run t j → (j ≡ 2) × (t ≡ 0)
unfolding count_below
set_there t j d = (at, sym (same_some (sym (ap actor same) ∙ d.by))) where
  at : j ≡ 2
  at = only_place is_set cell_run 2 2 refl refl j d.step (slice_get_within cell_run.steps j d.step d.stands) d.stands d.passes

  same : d.step ≡ Set 0 fifteen
  same = same_some (sym d.stands ∙ ap (step_at cell_run) at)

-- up to the Set the cell is at its point
at_own_point : (j : ℕ) → j ≤ 2 → point_at cell_run 0 j ≡ own_point
unfolding history
at_own_point zero le = refl
at_own_point (suc zero) le = refl
at_own_point (suc (suc zero)) le = refl
at_own_point (suc (suc (suc j))) le = absurd (omega arith)

-- no step of the run is a Send
not_send : (j : ℕ) → ¬ IsSendAt cell_run j
unfolding count_below
not_send j x = by (step_at cell_run j) refl x where
  by : (o : Option Step) → step_at cell_run j ≡ o → IsTrue (option_map_or is_send o false) → ⊥
  by None e h = absurd (cc)
  by (Some s) e h = clash (is_send s) h (no_step is_send cell_run 5 refl j s (slice_get_within cell_run.steps j s e) e)

-- what the Set carries is that point
set_carries : (t : ℕ) (q : Point) → t ≡ 0 → Pending cell_run t 2 q → q ≡ own_point
unfolding count_below
set_carries t q e (touched {j = j} u a b d at) = at ∙ ap (λ x. point_at cell_run x j) e ∙ at_own_point j (omega arith)
set_carries t q e (came {j = j} u o x p) = absurd (not_send j x)

-- the one Checkpoint is at place 4
closes_there : (t j : ℕ) → Closes cell_run t j → (j ≡ 4) × (t ≡ 0)
unfolding count_below
closes_there t j c = (at, sym (same_some (ap actor same))) where
  at : j ≡ 4
  at = only_place is_checkpoint cell_run 4 0 refl refl j (Checkpoint t) (slice_get_within cell_run.steps j (Checkpoint t) c) c refl

  same : Checkpoint 0 ≡ Checkpoint t
  same = same_some (ap (step_at cell_run) (sym at) ∙ c)

at_request : point_at cell_run 0 4 ≡ own_point
unfolding history
at_request = refl

first_intervals : (p : Point) → IsOneOfTwo p → p.interval ≤ 1
first_intervals p one = ⊎_elim (λ e. omega (arith, ap (λ x. x.interval) e)) (λ e. omega (arith, ap (λ x. x.interval) e)) one

of_cell : (p : Point) → IsOneOfTwo p → p.who ≡ 0
of_cell p one = ⊎_elim (λ e. ap (λ x. x.who) e) (λ e. ap (λ x. x.who) e) one

-- so the cell's point leads to no other than its opening's
leads : (H : ℕ → Type 0) (p q : Point) → IsOneOfTwo p → Link cell_run H p q → IsOneOfTwo q
unfolding count_below
leads H p q one (takes {j = j} h (by_set {t = t} d at c other)) =
    let there = set_there t j d in
    let here : p ≡ own_point = at ∙ ap (λ x. point_at cell_run t x) there.0 ∙ ap (λ x. point_at cell_run x 2) there.1 ∙ at_own_point 2 (omega arith) in
    let acts : Some c.by ≡ Some 0 = sym c.acts ∙ ap (λ x. option_and_then actor (step_at cell_run x)) there.0 in
    absurd (other (set_carries c.by q (same_some acts) (subst (λ x. Pending cell_run c.by x q) there.0 c.pending) ∙ sym here))
leads H p q one (takes {j = j} h (by_new {by = by} n at c other)) =
    absurd (clash true refl (no_step is_new cell_run 5 refl j (New by n.behaviour n.node n.state) (slice_get_within cell_run.steps j (New by n.behaviour n.node n.state) n.stands) n.stands))
leads H p q one (closing {i = i} e (checkpoint {j = j} h c at same)) =
    let there = closes_there p.who j c in
    let q_is : q ≡ own_point = at ∙ ap (λ x. point_at cell_run p.who x) there.0 ∙ ap (λ x. point_at cell_run x 4) there.1 ∙ at_request in
    absurd (omega (arith, e, same, ap (λ x. x.interval) q_is, first_intervals p one))
leads H p q one (closing {i = i} e (opening who is_first o)) = inr (λ z. record { who = (who ∙ of_cell p one) z; interval = o.interval_is z; incarnation = o.incarnation_is z })

pub free : Free cell_run 0 4
unfolding history
free q past = ⊎_elim own first (least (Link cell_run (Heard cell_run 0 4)) (Is (point_at cell_run 0 4)) IsOneOfTwo (record { starts = λ x e. inl e; follows = λ x y one l. leads (Heard cell_run 0 4) x y one l }) q past) where
  own : q ≡ own_point → FirmIn cell_run (Heard cell_run 0 4) q
  own e = subst (FirmIn cell_run (Heard cell_run 0 4)) (sym e) (record { not_fallen = nothing_fallen (Heard cell_run 0 4) own_point; settled = inl (record { place = 3; held = reach.start (own_step refl (omega arith)); stabilizes = refl; at_point = refl }) })

  first : q ≡ opening_point → FirmIn cell_run (Heard cell_run 0 4) q
  first e = subst (FirmIn cell_run (Heard cell_run 0 4)) (sym e) (record { not_fallen = nothing_fallen (Heard cell_run 0 4) opening_point; settled = inr (record { is_start = omega arith; interval_is = refl; incarnation_is = refl }) })

-- message 0 is a post, so it has no origin
no_origin : (j by : ℕ) → IsOrigin cell_run j by 0 → ⊥
unfolding count_below
no_origin j by (direct o) = omega (arith, o.made)
no_origin j by (echoed o) = omega (arith, o.earlier)
no_origin j by (copied o r) = omega (arith, o.earlier)

take_fits : Fits adding_cell cell_run 0 (Take 0 0)
unfolding count_below
take_fits = (record { in_flight = record { exists = omega arith; not_removed = λ j lt r. absurd (omega arith) }; receiver = post refl; living = λ j lt e. omega arith; idle = λ place m u. omega (arith, u.before) }, decisions.take (none_fallen _ _) (none_fallen _ _), λ n. no_origin n.place n.by n.origin)

set_fits : Fits adding_cell cell_run 2 (Set 0 fifteen)
unfolding history
set_fits = (has_set, refl)

fits : (k : ℕ) (s : Step) → step_at cell_run k ≡ Some s → Fits adding_cell cell_run k s
fits zero s e = subst (Fits adding_cell cell_run 0) (same_some e) take_fits
fits (suc zero) s e = subst (Fits adding_cell cell_run 1) (same_some e) has_get
fits (suc (suc zero)) s e = subst (Fits adding_cell cell_run 2) (same_some e) set_fits
fits (suc (suc (suc zero))) s e = subst (Fits adding_cell cell_run 3) (same_some e) has_stabilize
fits (suc (suc (suc (suc zero)))) s e = subst (Fits adding_cell cell_run 4) (same_some e) (has_checkpoint, free)
fits (suc (suc (suc (suc (suc k))))) s e = absurd (cc)

-- no step of the run is a Fail or a Lose, and a script without entries makes none due
no_failures : (k : ℕ) (s : Step) → step_at cell_run k ≡ Some s → IsFalse (is_failure s)
unfolding count_below
no_failures k s e = no_step is_failure cell_run 5 refl k s (slice_get_within cell_run.steps k s e) e

no_entry : (T : Run) (k i : ℕ) (x : Entry) → slice_get [] i ≡ Some x → NoneDue [] T k
no_entry T k i x e = absurd (cc)

none_due : (T : Run) (k : ℕ) → NoneDue [] T k
none_due T k = by (determined [] T k).step refl where
  by : (s : Option Step) → (determined [] T k).step ≡ s → NoneDue [] T k
  by None e = ((determined [] T k).step_is None).1 (sym e)
  by (Some s) e = let d = ((determined [] T k).step_is (Some s)).1 (sym e) in no_entry T k d.cursor.entry d.due.entry d.due.ripe.stands

pub legal : Legal adding_cell cell_run
legal = record { opening = refl; steps = λ k s e. record { fits = fits k s e; allowed = inr (none_due cell_run k, no_failures k s e) } }

-- the turn ended by the Checkpoint
no_turn : (t place m : ℕ) → ¬ Turn cell_run t 5 place m
unfolding count_below
no_turn t place m u = ⊎_elim first later (cases place) where
  cases : (a : ℕ) → (a ≡ 0) ⊎ (1 ≤ a)
  cases a = grind arith

  later : 1 ≤ place → ⊥
  later ge = clash true refl (no_step_from is_take cell_run 1 4 refl place (Take t m) ge (omega (arith, u.before)) u.takes)

  first : place ≡ 0 → ⊥
  first e =
      let same : Take 0 0 ≡ Take t m = same_some (ap (step_at cell_run) (sym e) ∙ u.takes) in
      u.goes_on 4 (omega arith) (omega arith) (record { step = Checkpoint 0; stands = refl; by = ap actor same; passes = refl })

none_in_flight : (m : ℕ) → ¬ InFlight cell_run m 5
unfolding count_below
none_in_flight m f =
    let first : 0 ≡ m = omega (arith, f.exists) in
    f.not_removed 0 (omega arith) (ap Some first)

pub complete : Complete adding_cell cell_run
complete = record { none_due = none_due cell_run 5; no_turn = no_turn; none_in_flight = none_in_flight }

-- the state that the Checkpoint saves is that of the Set
no_set_after : (j : ℕ) → 3 ≤ j → j < 4 → ¬ Does is_set cell_run 0 j
unfolding count_below
no_set_after j ge lt d = clash (is_set d.step) d.passes (no_step_from is_set cell_run 3 1 refl j d.step ge (omega arith) d.stands)

pub saved : SavedWith cell_run (opening_states adding_cell.starts) 0 1 fifteen
unfolding history
saved = at_checkpoint {j = 4} refl refl (state_by_set {j = 2} refl refl (omega arith) (λ j ge lt d _. no_set_after j ge lt d))
