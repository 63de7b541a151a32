-- An open turn of a fitting trace has a next effect.
use Rattle.std.proofs.Common.{◌≡◌, ◌⊎◌, ⊎_elim, ℕ, zero, suc, ◌<◌, ◌≤◌, Bool, true, false, IsFalse, Option, Some, None, List, [], ◌∷◌, ◌++◌, length, refl, sym, ap, ◌∙◌, subst, arith}
use Rattle.std.specs.Prelude.{option_and_then, ◌||◌}
use Rattle.std.specs.Option.{option_map_or}
use Rattle.std.proofs.lemmas.Bool.{cases_lt, cases_eq}
use Rattle.std.proofs.lemmas.List.{length-map}
use Rattle.tau_value.specs.Val as val
use Rattle.tau_value.specs.Val.{Val}
use Rattle.tau_value.specs.Value.{val_of}
use Rattle.tau_tree.specs.declared.programs.Program.{Program}
use Rattle.tau_tree.specs.Code.{Code}
use Rattle.tau_tree.specs.Sound.{Sound}
use Rattle.tau_trace.specs.declared.step.Step.{Step}
use Rattle.tau_trace.specs.declared.step.Step.TheVariants.{Take, Drop, Fall, Void, Get, Set, Skip, Send, New, Stabilize, Ask, Rollback, Trap, Fail, Echo, Heed, Repeat}
use Rattle.tau_trace.specs.Steps.{actor, ends_turn, is_take, is_new, makes_message}
use Rattle.tau_trace.specs.Run.{Run, step_at, len, starts, ActsAt, Does}
use Rattle.tau_trace.specs.Numbering.{born, sent, IsNew, HasSender, Receives, post, message, notice, copy}
use Rattle.tau_trace.specs.Histories.{Ended, IsFallingStep, by_fall, by_rollback, by_trap, by_fail}
use Rattle.tau_trace.specs.Turns.{Turn, IsOpenTurn}
use Rattle.tau_trace.specs.Known.{WellFormed}
use Rattle.tau_trace.proofs.Lists.{same_some}
use Rattle.tau_trace.proofs.Counts.{count-zero}
use Rattle.tau_trace.proofs.Counted.{falls_falling}
use Rattle.tau_trace.proofs.Indexing.{born-next, sent-next}
use Rattle.tau_trace.proofs.Agreement.{born-grows, sent_before, origin_before}
use Rattle.tau_trace.proofs.Once.{origin_acts}
use Rattle.tau_trace.proofs.Quiet.{acts_born}
use Rattle.tau_trace.proofs.Sequences.{cases_last}
use Rattle.tau_states.specs.Opening.{opening_states}
use Rattle.tau_eval.specs.Eff.{Eff}
use Rattle.tau_eval.specs.Meaning.{next}
use Rattle.tau_legal.specs.Turns as turns
use Rattle.tau_legal.specs.Turns.{HasBehaviour, start, created, HasBody, HasValue, Replies, RepliesOf, before, another, reply, TurnHas}
use Rattle.tau_legal.specs.Fits.{Fits}
use Rattle.tau_legal.specs.Traces.{Fitting}
use Rattle.tau_legal.proofs.ValueLemmas.{at_all}
use Rattle.tau_legal.proofs.StateLemmas.{element, state_exists}

-- a step makes t
record IsMaker (T : Run) (t : ℕ) : Type 0 where
  pub place : ℕ
  pub by : ℕ
  pub birth : IsNew T place by t

made_here : (T : Run) (t k : ℕ) (s : Step) → step_at T k ≡ Some s → born T k ≤ t → t < born T (suc k) → IsMaker T t
made_here T t k (New by b n v) e ge lt =
    let one = born-next T k (New by b n v) e in
    record { place = k; by = by; birth = record { behaviour = b; node = n; state = v; stands = e; made = omega (arith, one) } }
made_here T t k s e ge lt = absurd (omega (arith, born-next T k s e))

-- a transactor that is no start was made by a New
maker_exists : (T : Run) (t k : ℕ) → k ≤ len T → starts T ≤ t → t < born T k → IsMaker T t
maker_exists T t zero l ge lt = absurd (omega (arith, count-zero (λ j. option_map_or is_new (step_at T j) false)))
maker_exists T t (suc k) l ge lt =
    let here = element T.steps k (omega arith) in
    ⊎_elim (λ b. maker_exists T t k (omega arith) ge b) (λ le. made_here T t k here.0 here.1 le lt) (cases_lt t (born T k))

-- in a fitting trace each message has a receiver: a post and the message of a Send by them, a notice since what was echoed has a
-- sender, and a copy since what it repeats has one
module _ (P : Program) (T : Run) (fits : (k : ℕ) (s : Step) → step_at T k ≡ Some s → Fits P T k s) where
  receiver_here : (m k : ℕ) (s : Step) → step_at T k ≡ Some s → Fits P T k s → sent T k ≤ m → m < sent T (suc k) → ((n : ℕ) → n < sent T k → (t : ℕ) × Receives T n t) → (t : ℕ) × Receives T m t
  receiver_here m k (Send by to v) e f ge lt all =
      let one = sent-next T k (Send by to v) e in
      (to, message {j = k} {by = by} (record { to = to; value = v; stands = e; made = omega (arith, one) }) refl)
  receiver_here m k (Echo t n) e f ge lt all =
      let one = sent-next T k (Echo t n) e in
      let exists = f.0.in_flight.exists in
      (f.1.sender, notice {j = k} {by = t} {n = n} (record { stands = e; made = omega (arith, one); earlier = omega (arith, exists) }) f.1.has)
  receiver_here m k (Repeat n) e f ge lt all =
      let one = sent-next T k (Repeat n) e in
      let exists = f.0.exists in
      let r = all n exists in
      (r.0, copy {k = k} {n = n} (record { stands = e; made = omega (arith, one); earlier = omega (arith, exists) }) r.1)
  receiver_here m k s e f ge lt all = absurd (omega (arith, sent-next T k s e))

  receivers : (k : ℕ) → k ≤ len T → (m : ℕ) → m < sent T k → (t : ℕ) × Receives T m t
  receivers zero l m lt =
      let there = element T.opening.targets m (omega (arith, count-zero (λ j. option_map_or makes_message (step_at T j) false))) in
      (there.0, post there.1)
  receivers (suc k) l m lt =
      let here = element T.steps k (omega arith) in
      ⊎_elim (λ b. receivers k (omega arith) m b) (λ le. receiver_here m k here.0 here.1 (fits k here.0 here.1) le lt (λ n b. receivers k (omega arith) n b)) (cases_lt m (sent T k))

  -- a message that exists has a receiver
  pub receiver_exists : (m k : ℕ) → k ≤ len T → m < sent T k → (t : ℕ) × Receives T m t
  receiver_exists m k l lt = receivers k l m lt

-- the sender of a message exists
pub sender_known : (T : Run) → WellFormed T → (m t k : ℕ) → m < sent T k → HasSender T m t → t < born T k
sender_known T w m t k lt s =
    let before = origin_before T s.place t m k s.origin lt in
    omega (arith, acts_born T t s.place (w.known s.place) (origin_acts T s.place t m s.origin), born-grows T s.place k (omega (arith, before)))

-- and so does its receiver
pub receiver_known : (T : Run) → WellFormed T → (m t k : ℕ) → m < sent T k → Receives T m t → t < born T k
receiver_known T w m t k lt (post e) =
    let within = at_all (λ u. u < length T.opening.names) T.opening.targets m t w.opening.targets e in
    omega (arith, within)
receiver_known T w m t k lt (message {j = j} {by = by} o e) =
    let earlier = sent_before T j by m k o lt in
    let known = (w.known j (Send by o.to o.value) o.stands).1 in
    omega (arith, known, e, born-grows T j k (omega arith))
receiver_known T w m t k lt (notice {n = n} o s) = sender_known T w n t k (omega (arith, o.earlier, lt)) s
receiver_known T w m t k lt (copy {n = n} o r) = receiver_known T w n t k (omega (arith, o.earlier, lt)) r

-- a falling step ends its transactor's turn
falling_ends : (T : Run) (t k : ℕ) → IsFallingStep T t k → Does ends_turn T t k
falling_ends T t k (by_fall {m = m} e) = record { step = Fall t m; stands = e; by = refl; passes = refl }
falling_ends T t k (by_rollback e) = record { step = Rollback t; stands = e; by = refl; passes = refl }
falling_ends T t k (by_trap {c = c} e v) = record { step = Trap t c; stands = e; by = refl; passes = refl }
falling_ends T t k (by_fail e v) = record { step = Fail t; stands = e; by = refl; passes = refl }

module _ (P : Program) (T : Run) (sound : Sound P) (well : WellFormed T) (fitting : Fitting P T) where
  starts_are : length T.opening.names ≡ length P.starts
  starts_are = ap (λ o. length o.names) fitting.opening ∙ length-map P.starts (λ s. s.name)

  posts_are : length T.opening.targets ≡ length P.posts
  posts_are = ap (λ o. length o.targets) fitting.opening ∙ length-map P.posts (λ q. q.to)

  behaviours_are : length T.opening.behaviours ≡ length P.behaviours
  behaviours_are = ap (λ o. length o.behaviours) fitting.opening ∙ length-map P.behaviours (λ b. b.name)

  body_by : (t b : ℕ) → HasBehaviour P T t b → b < length P.behaviours → (body : Code) × HasBody P T t body
  body_by t b h lt = let there = element P.behaviours b lt in ((there.0).body, record { number = b; behaviour = there.0; has = h; stands = there.1; is = refl })

  -- a transactor that exists has a body
  body_exists : (t k : ℕ) → k ≤ len T → t < born T k → (body : Code) × HasBody P T t body
  body_exists t k l lt = ⊎_elim of_start of_new (cases_lt t (length P.starts)) where
    of_start : t < length P.starts → (body : Code) × HasBody P T t body
    of_start b =
        let there = element P.starts t b in
        body_by t (there.0).behaviour (start {s = there.0} there.1 refl) (at_all (λ s. s.behaviour < length P.behaviours) P.starts t there.0 sound.start_behaviours there.1)

    of_new : length P.starts ≤ t → (body : Code) × HasBody P T t body
    of_new ge =
        let maker = maker_exists T t k l (omega (arith, starts_are)) lt in
        let birth = maker.birth in
        let known = (well.known maker.place (New maker.by birth.behaviour birth.node birth.state) birth.stands).1 in
        body_by t birth.behaviour (created birth refl) (omega (arith, known, behaviours_are))

  -- a message that exists has a value
  value_here : (m k : ℕ) (s : Step) → step_at T k ≡ Some s → Fits P T k s → sent T k ≤ m → m < sent T (suc k) → ((n : ℕ) → n < sent T k → (v : Val) × HasValue P T n v) → (v : Val) × HasValue P T m v
  value_here m k (Send by to v) e f ge lt all =
      let one = sent-next T k (Send by to v) e in
      (val_of v, turns.message {j = k} {by = by} (record { to = to; value = v; stands = e; made = omega (arith, one) }) refl)
  value_here m k (Echo t n) e f ge lt all =
      let one = sent-next T k (Echo t n) e in
      let exists = f.0.in_flight.exists in
      (val.unit, turns.notice {j = k} {by = t} {n = n} (record { stands = e; made = omega (arith, one); earlier = omega (arith, exists) }) refl)
  value_here m k (Repeat n) e f ge lt all =
      let one = sent-next T k (Repeat n) e in
      let exists = f.0.exists in
      let r = all n exists in
      (r.0, turns.copy {k = k} {n = n} (record { stands = e; made = omega (arith, one); earlier = omega (arith, exists) }) r.1)
  value_here m k s e f ge lt all = absurd (omega (arith, sent-next T k s e))

  values : (k : ℕ) → k ≤ len T → (m : ℕ) → m < sent T k → (v : Val) × HasValue P T m v
  values zero l m lt =
      let there = element P.posts m (omega (arith, posts_are, count-zero (λ j. option_map_or makes_message (step_at T j) false))) in
      (val_of (there.0).value, turns.post {q = there.0} there.1 refl)
  values (suc k) l m lt =
      let here = element T.steps k (omega arith) in
      ⊎_elim (λ b. values k (omega arith) m b) (λ le. value_here m k here.0 here.1 (fitting.steps k here.0 here.1) le lt (λ n b. values k (omega arith) n b)) (cases_lt m (sent T k))

  value_exists : (m k : ℕ) → k ≤ len T → m < sent T k → (v : Val) × HasValue P T m v
  value_exists m k l lt = values k l m lt

  -- a transactor that has ended is in no turn
  ended_idle : (t k : ℕ) → Ended T t k → IsOpenTurn T t k None
  ended_idle t k e place m u = ⊎_elim earlier (λ x. ⊎_elim same later (cases_last place e.place (omega arith))) (cases_lt e.place place) where
    ends : Does ends_turn T t e.place
    ends = falling_ends T t e.place (falls_falling T t e.place e.ends.falls)

    earlier : e.place < place → ⊥
    earlier l = (fitting.steps place (Take t m) u.takes).0.living e.place l e.ends

    same : place ≡ e.place → ⊥
    same at =
        let is : Take t m ≡ ends.step = same_some (sym u.takes ∙ ap (step_at T) at ∙ ends.stands) in
        let both : false ≡ true = ap ends_turn is ∙ ends.passes in
        cc

    later : place < e.place → ⊥
    later l = u.goes_on e.place l e.before (record { step = ends.step; stands = ends.stands; by = ends.by; passes = ap (λ b. b || is_take ends.step) ends.passes })

  module _ (t k place m : ℕ) (within : k ≤ len T) (turn : Turn T t k place m) where
    -- the turn was open at each place since its Take
    open_at : (j : ℕ) → place < j → j < k → Turn T t j place m
    open_at j a b = record { before = a; takes = turn.takes; goes_on = λ i c d. turn.goes_on i c (omega arith) }

    idle_not : (u j n : ℕ) → place < j → j < k → u ≡ t → IsOpenTurn T u j None → ⊥
    idle_not u j n a b e idle = idle place m (subst (λ x. Turn T x j place m) (sym e) (open_at j a b))

    -- each of its steps gives a reply
    gives : (j : ℕ) (s : Step) → place < j → j < k → step_at T j ≡ Some s → actor s ≡ Some t → IsFalse (ends_turn s || is_take s) → (r : Val) × Replies T (opening_states P.starts) j s r
    gives j (Get u) a b e by goes =
        let state = state_exists T P.starts well starts_are u j (omega arith) (well.known j (Get u) e) in
        (val_of state.0, (state.0, state.1, refl))
    gives j (Ask u answer) a b e by goes = (val.truth answer, refl)
    gives j (New u c n v) a b e by goes = (val.name (born T j), refl)
    gives j (Set u v) a b e by goes = (val.unit, refl)
    gives j (Skip u) a b e by goes = (val.unit, refl)
    gives j (Send u w v) a b e by goes = (val.unit, refl)
    gives j (Stabilize u) a b e by goes = (val.unit, refl)
    gives j (Drop u n) a b e by goes = absurd (idle_not u j n a b (same_some by) (fitting.steps j (Drop u n) e).0.idle)
    gives j (Void u n) a b e by goes = absurd (idle_not u j n a b (same_some by) (ended_idle u j (fitting.steps j (Void u n) e).0.ended))
    gives j (Echo u n) a b e by goes = absurd (idle_not u j n a b (same_some by) (ended_idle u j (fitting.steps j (Echo u n) e).0.ended))
    gives j (Heed u n) a b e by goes = absurd (idle_not u j n a b (same_some by) (fitting.steps j (Heed u n) e).0.idle)
    gives j s a b e by goes = absurd (cc)

    goes_on_at : (j : ℕ) (s : Step) → place < j → j < k → step_at T j ≡ Some s → actor s ≡ Some t → IsFalse (ends_turn s || is_take s)
    goes_on_at j s a b e by = test (ends_turn s || is_take s) refl where
      test : (x : Bool) → (ends_turn s || is_take s) ≡ x → IsFalse (ends_turn s || is_take s)
      test true is = absurd (turn.goes_on j a b (record { step = s; stands = e; by = by; passes = is }))
      test false is = is

    -- so they have replies
    replies_exist : (i : ℕ) → i ≤ k → (rs : List Val) × RepliesOf T (opening_states P.starts) t (suc place) i rs
    replies_exist zero l = ([], before (omega arith))
    replies_exist (suc i) l = ⊎_elim (λ early. ([], before early)) (λ late. one_more late (replies_exist i (omega arith))) (at_or_past i) where
      at_or_past : (i : ℕ) → (suc i ≤ suc place) ⊎ (suc place ≤ i)
      at_or_past i = grind arith

      one_more : suc place ≤ i → (rs : List Val) × RepliesOf T (opening_states P.starts) t (suc place) i rs → (rs : List Val) × RepliesOf T (opening_states P.starts) t (suc place) (suc i) rs
      one_more late so_far = by_actor (actor here.0) refl where
        here : (s : Step) × (step_at T i ≡ Some s)
        here = element T.steps i (omega arith)

        not_by : (o : Option ℕ) → actor here.0 ≡ o → ¬ (o ≡ Some t) → ¬ ActsAt T t i
        not_by o e ne acts = ne (sym e ∙ ap (option_and_then actor) (sym here.1) ∙ acts)

        mine : actor here.0 ≡ Some t → (rs : List Val) × RepliesOf T (opening_states P.starts) t (suc place) (suc i) rs
        mine by =
            let given = gives i here.0 (omega arith) (omega arith) here.1 by (goes_on_at i here.0 (omega arith) (omega arith) here.1 by) in
            (so_far.0 ++ given.0 ∷ [], reply given.0 late (ap (option_and_then actor) here.1 ∙ by) here.1 given.1 so_far.1)

        by_actor : (o : Option ℕ) → actor here.0 ≡ o → (rs : List Val) × RepliesOf T (opening_states P.starts) t (suc place) (suc i) rs
        by_actor None e = (so_far.0, another late (not_by None e (λ x. cc)) so_far.1)
        by_actor (Some u) e = ⊎_elim
            (λ same. mine (e ∙ ap Some same))
            (λ ne. (so_far.0, another late (not_by (Some u) e (λ x. ne (same_some x))) so_far.1))
            (cases_eq u t)

    -- and the turn has an effect
    pub effect_exists : (e : Eff) × TurnHas P T t k e
    effect_exists =
        let known = well.known place (Take t m) turn.takes in
        let earlier = turn.before in
        let body = body_exists t place (omega arith) known.0 in
        let value = value_exists m place (omega arith) known.1 in
        let replies = replies_exist k (omega arith) in (
          next body.0 (record { nodes = P.nodes; own = t; message = value.0 }) replies.0,
          record {
            place = place;
            message = m;
            body = body.0;
            value = value.0;
            replies = replies.0;
            turn = turn;
            body_is = body.1;
            value_is = value.1;
            replies_are = replies.1;
            effect_is = refl;
          },
        )
