-- Each number is made once: a transactor has one node, a message one origin and one receiver.
use Rattle.std.proofs.Common.{◌≡◌, ◌⊎◌, ⊎_elim, ℕ, suc, ◌+◌, ◌<◌, Bool, true, cond, Some, length, refl, sym, ap, ◌∙◌, subst, arith}
use Rattle.std.specs.Prelude.{option_and_then}
use Rattle.std.proofs.lemmas.Option.{slice_get_within}
use Rattle.std.proofs.lemmas.Bool.{cases_order}
use Rattle.tau_value.specs.declared.shared.Value.{Value}
use Rattle.tau_trace.specs.declared.step.Step.{Step}
use Rattle.tau_trace.specs.declared.step.Step.TheVariants.{Send, New, Echo, Repeat}
use Rattle.tau_trace.specs.Steps.{actor, makes_message}
use Rattle.tau_trace.specs.Run.{Run, step_at, len, ActsAt}
use Rattle.tau_trace.specs.Numbering.{born, sent, IsNew, IsSent, IsEchoed, IsRepeated, IsOrigin, direct, echoed, copied, HasSender, Receives, post, message, notice, copy, IsHome, start, created}
use Rattle.tau_trace.specs.Known.{IsSound}
use Rattle.tau_trace.proofs.Lists.{same_some}
use Rattle.tau_trace.proofs.Agreement.{born-grows, sent-grows}
use Rattle.tau_trace.proofs.Indexing.{born-next, sent-next}

pub new-rises : (T : Run) (j by u : ℕ) → IsNew T j by u → born T (suc j) ≡ born T j + 1
new-rises T j by u n = born-next T j (New by n.behaviour n.node n.state) n.stands

-- a step that makes message m stands at place j
pub record IsMaker (T : Run) (j m : ℕ) : Type 0 where
  pub step : Step
  pub stands : step_at T j ≡ Some step
  pub makes : makes_message step ≡ true
  pub made : m ≡ sent T j

abbrev pub sent_maker : (T : Run) (j by m : ℕ) → IsSent T j by m → IsMaker T j m
sent_maker T j by m o = record { step = Send by o.to o.value; stands = o.stands; makes = refl; made = o.made }

abbrev pub echoed_maker : (T : Run) (j by n m : ℕ) → IsEchoed T j by n m → IsMaker T j m
echoed_maker T j by n m o = record { step = Echo by n; stands = o.stands; makes = refl; made = o.made }

abbrev pub repeated_maker : (T : Run) (j n m : ℕ) → IsRepeated T j n m → IsMaker T j m
repeated_maker T j n m o = record { step = Repeat n; stands = o.stands; makes = refl; made = o.made }

pub maker-rises : (T : Run) (j m : ℕ) → IsMaker T j m → sent T (suc j) ≡ sent T j + 1
maker-rises T j m a = sent-next T j a.step a.stands ∙ ap (λ b. sent T j + cond b 1 0) a.makes

pub sent-rises : (T : Run) (j by m : ℕ) → IsSent T j by m → sent T (suc j) ≡ sent T j + 1
sent-rises T j by m o = maker-rises T j m (sent_maker T j by m o)

-- one New makes a transactor
pub new_once : (T : Run) (i j by other u : ℕ) → IsNew T i by u → IsNew T j other u → i ≡ j
new_once T i j by other u a b = ⊎_elim
    (λ e. e)
    (λ r. ⊎_elim (λ l. absurd (omega (arith, a.made, b.made, new-rises T i by u a, born-grows T (suc i) j l))) (λ l. absurd (omega (arith, a.made, b.made, new-rises T j other u b, born-grows T (suc j) i l))) r)
    (cases_order i j)

-- one step makes a message
pub maker_once : (T : Run) (i j m : ℕ) → IsMaker T i m → IsMaker T j m → i ≡ j
maker_once T i j m a b = ⊎_elim
    (λ e. e)
    (λ r. ⊎_elim (λ l. absurd (omega (arith, a.made, b.made, maker-rises T i m a, sent-grows T (suc i) j l))) (λ l. absurd (omega (arith, a.made, b.made, maker-rises T j m b, sent-grows T (suc j) i l))) r)
    (cases_order i j)

pub sent_once : (T : Run) (i j by other m : ℕ) → IsSent T i by m → IsSent T j other m → i ≡ j
sent_once T i j by other m a b = maker_once T i j m (sent_maker T i by m a) (sent_maker T j other m b)

-- the step of a maker, where another tells it
same_step : (T : Run) (i j m : ℕ) (a : IsMaker T i m) (b : IsMaker T j m) → a.step ≡ b.step
same_step T i j m a b = same_some (sym a.stands ∙ ap (step_at T) (maker_once T i j m a b) ∙ b.stands)

same_node : (a b c d : ℕ) (v w : Value) (x y : ℕ) → New x a b v ≡ New y c d w → b ≡ d
same_node a b c d v w x y e = cc

-- the origin of the message that a step at place k makes
abbrev pub OriginMade : Run → ℕ → Step → ℕ → ℕ → Type 0
OriginMade T k (Send t u v) j by = (j ≡ k) × (by ≡ t)
OriginMade T k (Echo t n) j by = (j ≡ k) × (by ≡ t)
OriginMade T k (Repeat n) j by = IsOrigin T j by n
OriginMade T k s j by = ⊥

pub origin_made : (T : Run) (k j by m : ℕ) (a : IsMaker T k m) → IsOrigin T j by m → OriginMade T k a.step j by
origin_made T k j by m a (direct o) =
    let P : Step → Type 0 = λ x. OriginMade T k x j by in
    subst P (same_step T j k m (sent_maker T j by m o) a) (maker_once T j k m (sent_maker T j by m o) a, refl)
origin_made T k j by m a (echoed {n = n} o) =
    let P : Step → Type 0 = λ x. OriginMade T k x j by in
    subst P (same_step T j k m (echoed_maker T j by n m o) a) (maker_once T j k m (echoed_maker T j by n m o) a, refl)
origin_made T k j by m a (copied {k = i} {n = n} o r) =
    let P : Step → Type 0 = λ x. OriginMade T k x j by in
    subst P (same_step T i k m (repeated_maker T i n m o) a) r

-- a message has one origin
pub origin_is_one : (T : Run) (i j by other m : ℕ) → IsOrigin T i by m → IsOrigin T j other m → (i ≡ j) × (by ≡ other)
origin_is_one T i j by other m (direct a) b =
    let same : (j ≡ i) × (other ≡ by) = origin_made T i j other m (sent_maker T i by m a) b in
    (sym same.0, sym same.1)
origin_is_one T i j by other m (echoed {n = n} a) b =
    let same : (j ≡ i) × (other ≡ by) = origin_made T i j other m (echoed_maker T i by n m a) b in
    (sym same.0, sym same.1)
origin_is_one T i j by other m (copied {k = k} {n = n} a r) b =
    origin_is_one T i j by other n r (origin_made T k j other m (repeated_maker T k n m a) b)

pub origin_once : (T : Run) (i j by other m : ℕ) → IsOrigin T i by m → IsOrigin T j other m → i ≡ j
origin_once T i j by other m a b = (origin_is_one T i j by other m a b).0

pub sender_once : (T : Run) (m u w : ℕ) → HasSender T m u → HasSender T m w → u ≡ w
sender_once T m u w a b = (origin_is_one T a.place b.place u w m a.origin b.origin).1

-- a copy has the origin of the message that it repeats
pub copies_have_their_origin : (T : Run) (k n m j by : ℕ) → IsRepeated T k n m → (IsOrigin T j by m → IsOrigin T j by n) × (IsOrigin T j by n → IsOrigin T j by m)
copies_have_their_origin T k n m j by c = (λ o. origin_made T k j by m (repeated_maker T k n m c) o, λ o. copied {k = k} {n = n} c o)

-- a post has no origin
pub posts_have_no_origin : (T : Run) (j by m : ℕ) → m < length T.opening.targets → ¬ IsOrigin T j by m
posts_have_no_origin T j by m lt (direct o) = omega (arith, lt, o.made)
posts_have_no_origin T j by m lt (echoed o) = omega (arith, lt, o.made)
posts_have_no_origin T j by m lt (copied o r) = omega (arith, lt, o.made)

-- the step at the origin of a message is one of its sender
pub origin_acts : (T : Run) (j by m : ℕ) → IsOrigin T j by m → ActsAt T by j
origin_acts T j by m (direct o) = ap (option_and_then actor) o.stands
origin_acts T j by m (echoed o) = ap (option_and_then actor) o.stands
origin_acts T j by m (copied {n = n} o r) = origin_acts T j by n r

-- a message that has an origin or a receiver exists
maker_exists : (T : Run) (j m : ℕ) → IsMaker T j m → m < sent T (len T)
maker_exists T j m a =
    let within = slice_get_within T.steps j a.step a.stands in
    omega (arith, a.made, maker-rises T j m a, sent-grows T (suc j) (len T) (omega (arith, within)))

pub origin_exists : (T : Run) (j by m : ℕ) → IsOrigin T j by m → m < sent T (len T)
origin_exists T j by m (direct o) = maker_exists T j m (sent_maker T j by m o)
origin_exists T j by m (echoed {n = n} o) = maker_exists T j m (echoed_maker T j by n m o)
origin_exists T j by m (copied {k = k} {n = n} o r) = maker_exists T k m (repeated_maker T k n m o)

pub received_exists : (T : Run) (m u : ℕ) → Receives T m u → m < sent T (len T)
received_exists T m u (post e) = omega (arith, slice_get_within T.opening.targets m u e)
received_exists T m u (message {j = j} {by = by} o e) = maker_exists T j m (sent_maker T j by m o)
received_exists T m u (notice {j = j} {by = by} {n = n} o s) = maker_exists T j m (echoed_maker T j by n m o)
received_exists T m u (copy {k = k} {n = n} o r) = maker_exists T k m (repeated_maker T k n m o)

pub home_once : (T : Run) (t m n : ℕ) → IsSound T.opening → IsHome T t m → IsHome T t n → m ≡ n
home_once T t m n s (start e) (start f) = same_some (sym e ∙ f)
home_once T t m n s (start e) (created b f) = absurd (omega (arith, slice_get_within T.opening.homes t m e, s.a_home_each, b.made))
home_once T t m n s (created b f) (start e) = absurd (omega (arith, slice_get_within T.opening.homes t n e, s.a_home_each, b.made))
home_once T t m n s (created {j = i} {by = x} b f) (created {j = j} {by = y} c g) =
    let same = new_once T i j x y t b c in
    sym f ∙ same_node b.behaviour b.node c.behaviour c.node b.state c.state x y (same_some (sym b.stands ∙ ap (step_at T) same ∙ c.stands)) ∙ g

-- the receiver of the message that a step makes
abbrev pub ReceivedMade : Run → Step → ℕ → Type 0
ReceivedMade T (Send t w v) u = w ≡ u
ReceivedMade T (Echo t n) u = HasSender T n u
ReceivedMade T (Repeat n) u = Receives T n u
ReceivedMade T s u = ⊥

pub received_made : (T : Run) (k m u : ℕ) (a : IsMaker T k m) → Receives T m u → ReceivedMade T a.step u
received_made T k m u a (post e) = absurd (omega (arith, slice_get_within T.opening.targets m u e, a.made))
received_made T k m u a (message {j = j} {by = by} o e) =
    let P : Step → Type 0 = λ x. ReceivedMade T x u in
    subst P (same_step T j k m (sent_maker T j by m o) a) e
received_made T k m u a (notice {j = j} {by = by} {n = n} o s) =
    let P : Step → Type 0 = λ x. ReceivedMade T x u in
    subst P (same_step T j k m (echoed_maker T j by n m o) a) s
received_made T k m u a (copy {k = i} {n = n} o r) =
    let P : Step → Type 0 = λ x. ReceivedMade T x u in
    subst P (same_step T i k m (repeated_maker T i n m o) a) r

pub receives_once : (T : Run) (m u w : ℕ) → Receives T m u → Receives T m w → u ≡ w
receives_once T m u w (post e) (post f) = same_some (sym e ∙ f)
receives_once T m u w (post e) (message o f) = absurd (omega (arith, slice_get_within T.opening.targets m u e, o.made))
receives_once T m u w (post e) (notice o s) = absurd (omega (arith, slice_get_within T.opening.targets m u e, o.made))
receives_once T m u w (post e) (copy o r) = absurd (omega (arith, slice_get_within T.opening.targets m u e, o.made))
receives_once T m u w (message {j = j} {by = by} o e) r = sym e ∙ received_made T j m w (sent_maker T j by m o) r
receives_once T m u w (notice {j = j} {by = by} {n = n} o s) r = sender_once T n u w s (received_made T j m w (echoed_maker T j by n m o) r)
receives_once T m u w (copy {k = k} {n = n} o a) r = receives_once T n u w a (received_made T k m w (repeated_maker T k n m o) r)
