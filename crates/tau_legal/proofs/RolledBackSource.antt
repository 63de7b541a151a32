-- The sink falls by the message that tells of the rollback, and drops the other message that was sent before it.
use Rattle.std.proofs.Common.{◌≡◌, ◌⊎◌, inl, inr, ⊎_elim, ℕ, ◌<◌, ◌≤◌, ◌||◌, ◌&&◌, ◌==◌, Bool, true, false, IsTrue, IsFalse, Option, Some, None, refl, sym, ap, ◌∙◌, subst, arith, eq-eqb}
use Rattle.std.specs.Prelude.{option_and_then}
use Rattle.std.specs.Option.{option_map_or}
use Rattle.std.proofs.lemmas.Option.{slice_get_within}
use Rattle.tau_points.specs.declared.point.Point.{Point}
use Rattle.tau_points.specs.Reach as reach
use Rattle.tau_points.proofs.Reach.{least}
use Rattle.tau_trace.specs.declared.step.Step.{Step}
use Rattle.tau_trace.specs.declared.step.Step.TheVariants.{Take, Drop, Fall, Set, New, Checkpoint, Done}
use Rattle.tau_trace.specs.Steps.{actor, removed_by, ends_turn, is_take, is_new, is_checkpoint}
use Rattle.tau_trace.specs.Run.{step_at, Does}
use Rattle.tau_trace.specs.Places.{count_below}
use Rattle.tau_trace.specs.Numbering.{IsSent, direct, InFlight, message, Removes}
use Rattle.tau_trace.specs.Histories.{history, is_by, Falls}
use Rattle.tau_trace.specs.Points.{point_at}
use Rattle.tau_trace.specs.Turns.{Turn, IsOpenTurn}
use Rattle.tau_past.specs.Carried.{is_set, Pending, touched, came, SentWith, by_set, by_new}
use Rattle.tau_past.specs.Heard.{HeardTogether, Needs, earlier, message as told, Own, own_step}
use Rattle.tau_past.specs.Pasts.{Link, takes, closing, checkpoint, opening, PastIn, Is, FellIn}
use Rattle.tau_past.specs.Decisions as decisions
use Rattle.tau_past.specs.Decisions.{HasFallen, FallsBy, DropsBy}
use Rattle.tau_legal.specs.Fits.{Fits}
use Rattle.tau_legal.specs.RolledBackSource.{one, two, rolled_back_source, dropping_run}
use Rattle.tau_legal.proofs.Absence.{clash, no_step, no_step_from, only_place, may_fall, FallsAs, falls_as, start_living}

-- the point at which the source was when it sent its state
abbrev source_point : Point
source_point = record { who = 0; interval = 1; incarnation = 0 }

-- the sink's turn, and the source's
sink_turn : Turn dropping_run 1 6 5 2
sink_turn = record { before = omega arith; takes = refl; goes_on = λ j a b d. absurd (omega arith) }

abbrev changes_turn : Step → Bool
changes_turn s = ends_turn s || is_take s

source_turn : (k : ℕ) → 0 < k → k ≤ 4 → Turn dropping_run 0 k 0 0
unfolding count_below
source_turn k lt le = record { before = lt; takes = refl; goes_on = goes } where
  goes : (j : ℕ) → 0 < j → j < k → ¬ Does (λ s. ends_turn s || is_take s) dropping_run 0 j
  goes j a b d = clash (changes_turn d.step) d.passes (no_step_from changes_turn dropping_run 1 3 refl j d.step (omega arith) (omega arith) d.stands)

-- messages 2, 3 and 4
first_sent : IsSent dropping_run 2 0 2
unfolding count_below
first_sent = record { to = 1; value = one; stands = refl; made = refl }

second_sent : IsSent dropping_run 3 0 3
unfolding count_below
second_sent = record { to = 1; value = one; stands = refl; made = refl }

third_sent : IsSent dropping_run 9 0 4
unfolding count_below
third_sent = record { to = 1; value = two; stands = refl; made = refl }

-- the first two carry the source's point
sets : Does is_set dropping_run 0 1
sets = record { step = Set 0 one; stands = refl; by = refl; passes = refl }

source_pending : (k : ℕ) → 1 < k → k ≤ 4 → Pending dropping_run 0 k source_point
unfolding history
source_pending k lt le = touched {j = 1} (source_turn k (omega arith) le) (omega arith) lt (record { step = Set 0 one; stands = refl; by = refl; passes = refl }) refl

second_carries : SentWith dropping_run 3 source_point
second_carries = record { place = 3; by = 0; origin = direct second_sent; send = refl; carried = record { by = 0; acts = refl; pending = source_pending 3 (omega arith) (omega arith) } }

-- by its Set at place 6 the sink's point takes the source's
sink_takes : (H : ℕ → Type 0) → H 6 → PastIn dropping_run H (Is (point_at dropping_run 1 11)) source_point
unfolding history
sink_takes H held =
    reach.next (reach.start refl) (takes {j = 6} held (by_set {t = 1} (record { step = Set 1 one; stands = refl; by = refl; passes = refl }) refl
    (record { by = 1; acts = refl; pending = came sink_turn (direct first_sent) refl (source_pending 2 (omega arith) (omega arith)) }) (λ e. omega (arith, ap (λ p. p.who) e))))

-- who has heard of the third message's Send has heard of the rollback
rollback_falls : Falls dropping_run 0 4
unfolding history
rollback_falls = refl

source_at_rollback : source_point ≡ point_at dropping_run 0 4
unfolding history
source_at_rollback = refl

fallen : (H : ℕ → Type 0) → H 4 → FellIn dropping_run H source_point
fallen H held = record { place = 4; held = held; falls = rollback_falls; at_point = source_at_rollback }

sent_after : Needs dropping_run 9 4
sent_after = earlier {t = 0} refl refl (omega arith)

falls_by : FallsBy dropping_run 1 11 4
falls_by = record {
  cause = source_point;
  in_past = sink_takes (HeardTogether dropping_run 1 11 4) (inl (reach.start (own_step refl (omega arith))));
  fallen = fallen (HeardTogether dropping_run 1 11 4) (inr (reach.next (reach.start (record { by = 0; origin = direct third_sent })) sent_after));
}

sink_falls : Own dropping_run 1 12 11
sink_falls = own_step refl (omega arith)

drops_by : DropsBy dropping_run 1 12 3
drops_by = record {
  cause = source_point;
  in_past = reach.start second_carries;
  fallen = fallen (HeardTogether dropping_run 1 12 3) (inl (reach.next (reach.next (reach.start sink_falls) (told refl (direct third_sent))) sent_after));
}

-- a message that no step took
abbrev takes_message : ℕ → Step → Bool
takes_message m s = option_map_or (λ n. n == m) (removed_by s) false

not_removed : (m n : ℕ) → ((j : ℕ) (s : Step) → j < n → step_at dropping_run j ≡ Some s → IsFalse (takes_message m s)) → (j : ℕ) → j < n → ¬ Removes dropping_run m j
not_removed m n none j lt r = by (step_at dropping_run j) refl where
  by : (o : Option Step) → step_at dropping_run j ≡ o → ⊥
  by None e = let f = sym (ap (option_and_then removed_by) e) ∙ r in absurd (cc)
  by (Some s) e =
      let removes : removed_by s ≡ Some m = sym (ap (option_and_then removed_by) e) ∙ r in
      clash (takes_message m s) (ap (λ o. option_map_or (λ n. n == m) o false) removes ∙ eq-eqb m m refl) (none j s lt e)

third_flies : InFlight dropping_run 4 11
unfolding count_below
third_flies = record { exists = omega arith; not_removed = not_removed 4 11 (no_step (takes_message 4) dropping_run 11 refl) }

second_flies : InFlight dropping_run 3 12
unfolding count_below
second_flies = record { exists = omega arith; not_removed = not_removed 3 12 (no_step (takes_message 3) dropping_run 12 refl) }

-- the sink's one turn ended at place 7
takes_for : ℕ → Step → Bool
takes_for t s = is_take s && is_by t s

sink_idle : (k : ℕ) → 8 ≤ k → k ≤ 12 → IsOpenTurn dropping_run 1 k None
unfolding count_below
sink_idle k ge le place m u = ⊎_elim early late (cases place) where
  cases : (a : ℕ) → (a < 7) ⊎ (7 ≤ a)
  cases a = grind arith

  early : place < 7 → ⊥
  early lt = u.goes_on 7 lt (omega arith) (record { step = Done 1; stands = refl; by = refl; passes = refl })

  late : 7 ≤ place → ⊥
  late l = clash true refl (no_step_from (λ s. is_take s && is_by 1 s) dropping_run 7 5 refl place (Take 1 m) l (omega (arith, u.before)) u.takes)

pub fall_fits : Fits rolled_back_source dropping_run 11 (Fall 1 4)
unfolding third_sent
fall_fits = (
  record { in_flight = third_flies; receiver = message third_sent refl; living = start_living dropping_run 1 11 refl; idle = sink_idle 11 (omega arith) (omega arith) },
  decisions.fall falls_by,
)

-- the sink's point after its Fall, and the point of its opening
abbrev own_point : Point
own_point = record { who = 1; interval = 1; incarnation = 1 }

abbrev opening_point : Point
opening_point = record { who = 1; interval = 0; incarnation = 0 }

abbrev IsOneOfTwo : Point → Type 0
IsOneOfTwo q = (q ≡ own_point) ⊎ (q ≡ opening_point)

of_sink : (p : Point) → IsOneOfTwo p → p.who ≡ 1
of_sink p both = ⊎_elim (λ e. ap (λ x. x.who) e) (λ e. ap (λ x. x.who) e) both

-- the sink's one Set and its one falling step
by_sink : (test : Step → Bool) (s : Step) → actor s ≡ Some 1 → IsTrue (test s) → IsTrue (is_by 1 s && test s)
by_sink test s by passes = ap (λ o. option_map_or (λ u. u == 1) o false && test s) by ∙ passes

set_there : (j : ℕ) → Does is_set dropping_run 1 j → j ≡ 6
unfolding count_below
set_there j d = only_place (λ s. is_by 1 s && is_set s) dropping_run 6 6 refl refl j d.step (slice_get_within dropping_run.steps j d.step d.stands) d.stands (by_sink is_set d.step d.by d.passes)

falls_there : (j : ℕ) → Falls dropping_run 1 j → j ≡ 11
unfolding count_below
falls_there j f = only_place (λ s. is_by 1 s && may_fall s) dropping_run 11 1 refl refl j found.step (slice_get_within dropping_run.steps j found.step found.stands) found.stands (by_sink may_fall found.step found.by found.passes) where
  found : FallsAs dropping_run 1 j
  found = falls_as dropping_run 1 j f

-- before its Fall the sink was at neither of the two points
abbrev earlier_point : Point
earlier_point = record { who = 1; interval = 1; incarnation = 0 }

at_set : point_at dropping_run 1 6 ≡ earlier_point
unfolding history
at_set = refl

at_fall : point_at dropping_run 1 11 ≡ earlier_point
unfolding history
at_fall = refl

not_earlier : (p : Point) → IsOneOfTwo p → ¬ (p ≡ earlier_point)
not_earlier p both at = ⊎_elim (λ e. omega (arith, ap (λ x. x.incarnation) (sym e ∙ at))) (λ e. omega (arith, ap (λ x. x.interval) (sym e ∙ at))) both

-- so the sink's point leads to no other than its opening's
leads : (H : ℕ → Type 0) (p q : Point) → IsOneOfTwo p → Link dropping_run H p q → IsOneOfTwo q
unfolding count_below
leads H p q both (takes {j = j} h (by_set {t = t} d at c other)) =
    let sink : t ≡ 1 = sym (ap (λ x. x.who) at) ∙ of_sink p both in
    let there : j ≡ 6 = set_there j (subst (λ x. Does is_set dropping_run x j) sink d) in
    absurd (not_earlier p both (at ∙ ap (λ x. point_at dropping_run x j) sink ∙ ap (λ x. point_at dropping_run 1 x) there ∙ at_set))
leads H p q both (takes {j = j} h (by_new {by = by} n at c other)) =
    absurd (clash true refl (no_step is_new dropping_run 13 refl j (New by n.behaviour n.node n.state) (slice_get_within dropping_run.steps j (New by n.behaviour n.node n.state) n.stands) n.stands))
leads H p q both (closing {i = i} e (checkpoint {j = j} h c at same)) =
    absurd (clash true refl (no_step is_checkpoint dropping_run 13 refl j (Checkpoint p.who) (slice_get_within dropping_run.steps j (Checkpoint p.who) c) c))
leads H p q both (closing {i = i} e (opening who is_first o)) = inr (λ z. record { who = (who ∙ of_sink p both) z; interval = o.interval_is z; incarnation = o.incarnation_is z })

at_drop : point_at dropping_run 1 12 ≡ own_point
unfolding history
at_drop = refl

not_fallen : ¬ FallsBy dropping_run 1 12 3
not_fallen h = not_earlier h.cause both (h.fallen.at_point ∙ ap (λ x. point_at dropping_run x h.fallen.place) sink ∙ ap (λ x. point_at dropping_run 1 x) there ∙ at_fall) where
  H : ℕ → Type 0
  H = HeardTogether dropping_run 1 12 3

  both : IsOneOfTwo h.cause
  both = least (Link dropping_run H) (Is (point_at dropping_run 1 12)) IsOneOfTwo (record { starts = λ x e. inl (e ∙ at_drop); follows = λ x y b l. leads H x y b l }) h.cause h.in_past

  sink : h.cause.who ≡ 1
  sink = of_sink h.cause both

  there : h.fallen.place ≡ 11
  there = falls_there h.fallen.place (subst (λ x. Falls dropping_run x h.fallen.place) sink h.fallen.falls)

pub drop_fits : Fits rolled_back_source dropping_run 12 (Drop 1 3)
unfolding second_sent
drop_fits = (
  record { in_flight = second_flies; receiver = message second_sent refl; living = start_living dropping_run 1 12 refl; idle = sink_idle 12 (omega arith) (omega arith) },
  decisions.drop not_fallen drops_by,
)
