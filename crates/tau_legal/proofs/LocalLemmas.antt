-- Which step fits at a place reads the opening and the steps before it alone.
use Rattle.std.proofs.Common.{◌≡◌, ◌↔◌, inl, inr, ⊎_elim, ℕ, suc, ◌<◌, Bool, None, List, sym, ap, ◌∙◌, subst, arith}
use Rattle.std.specs.Prelude.{option_and_then, false}
use Rattle.std.specs.Option.{option_map_or}
use Rattle.std.proofs.lemmas.Bool.{cases_lt}
use Rattle.tau_value.specs.declared.shared.Value.{Value}
use Rattle.tau_value.specs.Val as val
use Rattle.tau_value.specs.Val.{Val}
use Rattle.tau_tree.specs.declared.programs.Program.{Program}
use Rattle.tau_tree.specs.Code.{Code}
use Rattle.tau_trace.specs.declared.step.Step.{Step}
use Rattle.tau_trace.specs.declared.step.Step.TheVariants.{Take, Drop, Fall, Void, Get, Set, Skip, Send, New, Stabilize, Ask, Checkpoint, Hold, Rollback, Stay, Done, Trap, Fail, Lose, Echo, Heed, Repeat}
use Rattle.tau_trace.specs.Steps.{actor, is_echo}
use Rattle.tau_trace.specs.Run.{Run, Agree}
use Rattle.tau_trace.specs.Numbering.{born, sent, HasSender, IsNotice}
use Rattle.tau_trace.specs.Histories.{history, IsLiving}
use Rattle.tau_trace.specs.Points.{point_at}
use Rattle.tau_trace.specs.Turns.{IsOpenTurn}
use Rattle.tau_trace.specs.Known.{WellFormed, IsKnownAt}
use Rattle.tau_trace.proofs.Agreement.{agree_sym, agree_below, born-same, sent-same, sent-grows, history-same, sent_before, origin_before, new_before, same_at}
use Rattle.tau_past.specs.Decisions.{Free}
use Rattle.tau_past.specs.States.{StateAt}
use Rattle.tau_past.specs.LocalLaws.{SameDecisionsAt}
use Rattle.tau_past.proofs.Agreement.{decisions_local, point-same}
use Rattle.tau_states.specs.Opening.{opening_states}
use Rattle.tau_eval.specs.Eff.{Eff}
use Rattle.tau_legal.specs.Turns.{HasBehaviour, start, created, HasBody, HasValue, post, message, notice, copy, Replies, RepliesOf, before, another, reply, TurnHas}
use Rattle.tau_legal.specs.Fits.{Arrives, ArrivesLate, Echoes, LacksNumber, Fits}

-- what is made below place k is made before it
made_earlier : (T : Run) (j m k : ℕ) → m ≡ sent T j → m < sent T k → j < k
made_earlier T j m k e h = ⊎_elim (λ l. l) (λ le. absurd (omega (arith, e, h, sent-grows T k j le))) (cases_lt j k)

module _ {T U : Run} where
  pub behaviour-same : (P : Program) (t k b : ℕ) → Agree T U k → t < born T k → HasBehaviour P T t b → HasBehaviour P U t b
  behaviour-same P t k b a lt (start {s = s} e f) = start e f
  behaviour-same P t k b a lt (created {j = j} {by = by} n e) =
      let earlier = new_before T j by t k n lt in
      created (record { behaviour = n.behaviour; node = n.node; state = n.state; stands = sym (a.steps j earlier) ∙ n.stands; made = n.made ∙ born-same j (agree_below j (omega arith) a) }) e

  pub body-same : (P : Program) (t k : ℕ) (body : Code) → Agree T U k → t < born T k → HasBody P T t body → HasBody P U t body
  body-same P t k body a lt h = record { number = h.number; behaviour = h.behaviour; has = behaviour-same P t k h.number a lt h.has; stands = h.stands; is = h.is }

  pub value-same : (P : Program) (m k : ℕ) (v : Val) → Agree T U k → m < sent T k → HasValue P T m v → HasValue P U m v
  value-same P m k v a lt (post {q = q} e f) = post e f
  value-same P m k v a lt (message {j = j} {by = by} o e) =
      let earlier = sent_before T j by m k o lt in
      message (record { to = o.to; value = o.value; stands = sym (a.steps j earlier) ∙ o.stands; made = o.made ∙ sent-same j (agree_below j (omega arith) a) }) e
  value-same P m k v a lt (notice {j = j} {by = by} {n = n} o e) =
      let earlier = made_earlier T j m k o.made lt in
      notice {j = j} {by = by} {n = n} (record { stands = sym (a.steps j earlier) ∙ o.stands; made = o.made ∙ sent-same j (agree_below j (omega arith) a); earlier = o.earlier }) e
  value-same P m k v a lt (copy {k = j} {n = n} o h) =
      let earlier = made_earlier T j m k o.made lt in
      copy {k = j} {n = n} (record { stands = sym (a.steps j earlier) ∙ o.stands; made = o.made ∙ sent-same j (agree_below j (omega arith) a); earlier = o.earlier }) (value-same P n k v a (omega (arith, o.earlier, lt)) h)

  pub replies-same : (opening : List Value) (j : ℕ) (s : Step) (r : Val) → WellFormed T → WellFormed U → Agree T U j → IsKnownAt T j s → Replies T opening j s r → Replies U opening j s r
  replies-same opening j (Get t) r v w a known h =
      let same : point_at T t j ≡ point_at U t j = point-same t j a in
      (h.0, subst (λ p. StateAt U opening p j h.0) same (((decisions_local T U j v w a).state opening (point_at T t j) h.0 known (omega arith)).0 h.1), h.2)
  replies-same opening j (Ask t answer) r v w a known h = h
  replies-same opening j (New t b n x) r v w a known h = h ∙ ap val.name (born-same j a)
  replies-same opening j (Set t x) r v w a known h = h
  replies-same opening j (Skip t) r v w a known h = h
  replies-same opening j (Send t u x) r v w a known h = h
  replies-same opening j (Stabilize t) r v w a known h = h
  replies-same opening j s r v w a known h = absurd h

  pub replies_of-same : (opening : List Value) (t a k : ℕ) (rs : List Val) → WellFormed T → WellFormed U → Agree T U k → RepliesOf T opening t a k rs → RepliesOf U opening t a k rs
  replies_of-same opening t a k rs v w g (before le) = before le
  replies_of-same opening t a (suc k) rs v w g (another le n r) =
      another le (λ acts. n (ap (option_and_then actor) (g.steps k (omega arith)) ∙ acts)) (replies_of-same opening t a k rs v w (agree_below k (omega arith) g) r)
  replies_of-same opening t a (suc k) rs v w g (reply {s = s} {rs = qs} r le acts stands gives so_far) =
      let below = agree_below k (omega arith) g in
      let here = g.steps k (omega arith) in
      reply r le (ap (option_and_then actor) (sym here) ∙ acts) (sym here ∙ stands) (replies-same opening k s r v w below (v.known k s stands) gives) (replies_of-same opening t a k qs v w below so_far)

  pub turn_has-same : (P : Program) (t k : ℕ) (e : Eff) → WellFormed T → WellFormed U → Agree T U k → TurnHas P T t k e → TurnHas P U t k e
  turn_has-same P t k e v w a h =
      let known = v.known h.place (Take t h.message) h.turn.takes in
      let within = agree_below h.place (omega (arith, h.turn.before)) a in
      record {
        place = h.place;
        message = h.message;
        body = h.body;
        value = h.value;
        replies = h.replies;
        turn = ((same_at T U k a).turn t h.place h.message).0 h.turn;
        body_is = body-same P t h.place h.body within known.0 h.body_is;
        value_is = value-same P h.message h.place h.value within known.1 h.value_is;
        replies_are = replies_of-same (opening_states P.starts) t (suc h.place) k h.replies v w a h.replies_are;
        effect_is = h.effect_is;
      }

  living-same : (t k : ℕ) → Agree T U k → IsLiving T t k → IsLiving U t k
  living-same t k a l j lt e =
      let ended = ((same_at T U k a).ended t).1 (record { place = j; before = lt; ends = e }) in
      l ended.place ended.before ended.ends

  idle-same : (t k : ℕ) → Agree T U k → IsOpenTurn T t k None → IsOpenTurn U t k None
  idle-same t k a i place m u = i place m (((same_at T U k a).turn t place m).1 u)

  arrives-same : (t m k : ℕ) → Agree T U k → m < sent T k → Arrives T t m k → Arrives U t m k
  arrives-same t m k a lt h =
      let same = same_at T U k a in
      record { in_flight = (same.in_flight m).0 h.in_flight; receiver = (same.receives m t lt).0 h.receiver; living = living-same t k a h.living; idle = idle-same t k a h.idle }

  late-same : (t m k : ℕ) → Agree T U k → m < sent T k → ArrivesLate T t m k → ArrivesLate U t m k
  late-same t m k a lt h =
      let same = same_at T U k a in
      record { in_flight = (same.in_flight m).0 h.in_flight; receiver = (same.receives m t lt).0 h.receiver; ended = (same.ended t).0 h.ended }

  lacks-same : (P : Program) (t k : ℕ) → WellFormed T → WellFormed U → Agree T U k → LacksNumber P T t k → LacksNumber P U t k
  lacks-same P t k v w a h = record { behaviour = h.behaviour; node = h.node; state = h.state; effect = turn_has-same P t k _ v w a h.effect; full = omega (arith, h.full, born-same k a) }

  stable-same : (t k : ℕ) → Agree T U k → (b : Bool) → (history T t k).stable ≡ b → (history U t k).stable ≡ b
  stable-same t k a b e = ap (λ h. h.stable) (sym (history-same t k a)) ∙ e

not_free-same : (T U : Run) (t k : ℕ) → SameDecisionsAt T U k → t < born T k → (¬ Free T t k) ↔ (¬ Free U t k)
not_free-same T U t k d lt = (λ n f. n ((d.free t lt).1 f), λ n f. n ((d.free t lt).0 f))

-- whether a message is a notice, and who its sender is
notice-same : (T U : Run) (m k : ℕ) → Agree T U k → m < sent T k → IsNotice T m → IsNotice U m
notice-same T U m k a lt h =
    let before = origin_before T h.place h.by m k h.origin lt in
    record { place = h.place; by = h.by; origin = ((same_at T U k a).origin m h.place h.by lt).0 h.origin; echo = ap (λ o. option_map_or is_echo o false) (sym (a.steps h.place before)) ∙ h.echo }

not_notice-same : (T U : Run) (m k : ℕ) → Agree T U k → m < sent T k → ¬ IsNotice T m → ¬ IsNotice U m
not_notice-same T U m k a lt n h = n (notice-same U T m k (agree_sym a) (omega (arith, lt, sent-same k a)) h)

sender-same : (T U : Run) (m u k : ℕ) → Agree T U k → m < sent T k → HasSender T m u → HasSender U m u
sender-same T U m u k a lt s = record { place = s.place; origin = ((same_at T U k a).origin m s.place u lt).0 s.origin }

echoes-same : (P : Program) (T U : Run) (m k : ℕ) → Agree T U k → m < sent T k → Echoes P T m k → Echoes P U m k
echoes-same P T U m k a lt e =
    record { version = e.version; not_notice = not_notice-same T U m k a lt e.not_notice; sender = e.sender; has = sender-same T U m e.sender k a lt e.has; living = living-same e.sender k a e.living }

pub fits_same : (P : Program) (T U : Run) (k : ℕ) (s : Step) → WellFormed T → WellFormed U → Agree T U k → IsKnownAt T k s → Fits P T k s → Fits P U k s
fits_same P T U k (Take t m) v w a known f = (arrives-same t m k a known.1 f.0, ((decisions_local T U k v w a).verdict t m _ known.0 known.1).0 f.1, not_notice-same T U m k a known.1 f.2)
fits_same P T U k (Drop t m) v w a known f = (arrives-same t m k a known.1 f.0, ((decisions_local T U k v w a).verdict t m _ known.0 known.1).0 f.1)
fits_same P T U k (Fall t m) v w a known f = (arrives-same t m k a known.1 f.0, ((decisions_local T U k v w a).verdict t m _ known.0 known.1).0 f.1)
fits_same P T U k (Void t m) v w a known f = (late-same t m k a known.1 f.0, λ e. f.1 (echoes-same P U T m k (agree_sym a) (omega (arith, known.1, sent-same k a)) e))
fits_same P T U k (Get t) v w a known f = turn_has-same P t k _ v w a f
fits_same P T U k (Set t x) v w a known f = (turn_has-same P t k _ v w a f.0, stable-same t k a _ f.1)
fits_same P T U k (Skip t) v w a known f = (f.0, turn_has-same P t k _ v w a f.1, stable-same t k a _ f.2)
fits_same P T U k (Send t u x) v w a known f = turn_has-same P t k _ v w a f
fits_same P T U k (New t b n x) v w a known f = (turn_has-same P t k _ v w a f.0, omega (arith, f.1, born-same k a))
fits_same P T U k (Stabilize t) v w a known f = turn_has-same P t k _ v w a f
fits_same P T U k (Ask t x) v w a known f =
    let same = not_free-same T U t k (decisions_local T U k v w a) known in
    (turn_has-same P t k _ v w a f.0, (λ h. same.0 (f.1.0 h), λ h. f.1.1 (same.1 h)))
fits_same P T U k (Checkpoint t) v w a known f = (turn_has-same P t k _ v w a f.0, ((decisions_local T U k v w a).free t known).0 f.1)
fits_same P T U k (Hold t) v w a known f = (turn_has-same P t k _ v w a f.0, (not_free-same T U t k (decisions_local T U k v w a) known).0 f.1)
fits_same P T U k (Rollback t) v w a known f = (turn_has-same P t k _ v w a f.0, stable-same t k a _ f.1)
fits_same P T U k (Stay t) v w a known f = (turn_has-same P t k _ v w a f.0, stable-same t k a _ f.1)
fits_same P T U k (Done t) v w a known f = turn_has-same P t k _ v w a f
fits_same P T U k (Trap t c) v w a known f = ⊎_elim (λ h. inl (turn_has-same P t k _ v w a h)) (λ h. inr (h.0, lacks-same P t k v w a h.1)) f
fits_same P T U k (Fail t) v w a known f = (omega (arith, f.0, born-same k a), living-same t k a f.1)
fits_same P T U k (Lose m) v w a known f = ((same_at T U k a).in_flight m).0 f
fits_same P T U k (Echo t m) v w a known f = (late-same t m k a known.1 f.0, echoes-same P T U m k a known.1 f.1)
fits_same P T U k (Heed t m) v w a known f = (arrives-same t m k a known.1 f.0, ((decisions_local T U k v w a).verdict t m _ known.0 known.1).0 f.1, notice-same T U m k a known.1 f.2)
fits_same P T U k (Repeat m) v w a known f = (((same_at T U k a).in_flight m).0 f.0, f.1)
