-- A transactor has one body, a message one value, and a turn one list of replies.
use Rattle.std.proofs.Common.{◌≡◌, ℕ, suc, List, [], ◌∷◌, ◌++◌, length, refl, sym, ap, ◌∙◌, subst, arith}
use Rattle.std.specs.Prelude.{slice_get, map}
use Rattle.std.proofs.lemmas.Option.{slice_get_within}
use Rattle.tau_value.specs.declared.shared.Value.{Value}
use Rattle.tau_value.specs.Val.{Val}
use Rattle.tau_value.specs.Value.{val_of}
use Rattle.tau_tree.specs.declared.posts.Post.{Post}
use Rattle.tau_tree.specs.declared.programs.Program.{Program}
use Rattle.tau_tree.specs.Behaviour.{NamedCode}
use Rattle.tau_tree.specs.Code.{Code}
use Rattle.tau_trace.specs.declared.step.Step.{Step}
use Rattle.tau_trace.specs.declared.step.Step.TheVariants.{Take, Get, Set, Skip, Send, New, Stabilize, Ask, Echo, Repeat}
use Rattle.tau_trace.specs.Run.{Run, step_at}
use Rattle.tau_trace.specs.Points.{point_at}
use Rattle.tau_trace.proofs.Lists.{same_some}
use Rattle.tau_trace.proofs.Once.{new_once, sent_once, IsMaker, sent_maker, echoed_maker, repeated_maker, maker_once}
use Rattle.tau_script.specs.Openings.{program_opening}
use Rattle.tau_states.proofs.Uniqueness.{state_once}
use Rattle.tau_legal.specs.Turns.{HasBehaviour, start, created, HasBody, HasValue, post, message, notice, copy, Replies, RepliesOf, before, another, reply}

same_behaviour : (a b c d x y : ℕ) (v w : Value) → New x a b v ≡ New y c d w → a ≡ c
same_behaviour a b c d x y v w e = cc

same_sent : (a b x y : ℕ) (v w : Value) → Send x a v ≡ Send y b w → v ≡ w
same_sent a b x y v w e = cc

-- a start is not made by a New, nor a post by a Send
length-map : {A B : Type 0} (f : A → B) (xs : List A) → length (map f xs) ≡ length xs
length-map f [] = refl
length-map f (x ∷ xs) = ap suc (length-map f xs)

module _ (P : Program) (T : Run) (opens : T.opening ≡ program_opening P) where
  few_starts : length P.starts ≡ length T.opening.names
  few_starts = sym (ap (λ o. length o.names) opens ∙ length-map (λ s. s.name) P.starts)

  few_posts : length P.posts ≡ length T.opening.targets
  few_posts = sym (ap (λ o. length o.targets) opens ∙ length-map (λ q. q.to) P.posts)

  -- a transactor has one behaviour
  behaviour_once : (t b c : ℕ) → HasBehaviour P T t b → HasBehaviour P T t c → b ≡ c
  behaviour_once t b c (start {s = s} e f) (start {s = r} g h) = sym f ∙ ap (λ x. x.behaviour) (same_some (sym e ∙ g)) ∙ h
  behaviour_once t b c (start {s = s} e f) (created n h) = absurd (omega (arith, slice_get_within P.starts t s e, few_starts, n.made))
  behaviour_once t b c (created n f) (start {s = s} e h) = absurd (omega (arith, slice_get_within P.starts t s e, few_starts, n.made))
  behaviour_once t b c (created {j = i} {by = x} n f) (created {j = j} {by = y} o h) =
      let same = new_once T i j x y t n o in
      sym f ∙ same_behaviour n.behaviour n.node o.behaviour o.node x y n.state o.state (same_some (sym n.stands ∙ ap (step_at T) same ∙ o.stands)) ∙ h

  -- and one body
  pub body_once : (t : ℕ) (a b : Code) → HasBody P T t a → HasBody P T t b → a ≡ b
  body_once t a b h g =
      let same : h.number ≡ g.number = behaviour_once t h.number g.number h.has g.has in
      sym h.is ∙ ap (λ (x : NamedCode). x.body) (same_some (sym h.stands ∙ ap (slice_get P.behaviours) same ∙ g.stands)) ∙ g.is

  -- one step makes a message
  same_maker : (i j m : ℕ) (a : IsMaker T i m) (b : IsMaker T j m) → a.step ≡ b.step
  same_maker i j m a b = same_some (sym a.stands ∙ ap (step_at T) (maker_once T i j m a b) ∙ b.stands)

  -- a message has one value
  pub value_once : (m : ℕ) (v w : Val) → HasValue P T m v → HasValue P T m w → v ≡ w
  value_once m v w (post e f) (post g h) = sym f ∙ ap (λ (q : Post). val_of q.value) (same_some (sym e ∙ g)) ∙ h
  value_once m v w (post {q = q} e f) (message o h) = absurd (omega (arith, slice_get_within P.posts m q e, few_posts, o.made))
  value_once m v w (message o f) (post {q = q} e h) = absurd (omega (arith, slice_get_within P.posts m q e, few_posts, o.made))
  value_once m v w (message {j = i} {by = x} o f) (message {j = j} {by = y} p h) =
      let same = sent_once T i j x y m o p in
      sym f ∙ ap val_of (same_sent o.to p.to x y o.value p.value (same_some (sym o.stands ∙ ap (step_at T) same ∙ p.stands))) ∙ h
  value_once m v w (post {q = q} e f) (notice o h) = absurd (omega (arith, slice_get_within P.posts m q e, few_posts, o.made))
  value_once m v w (post {q = q} e f) (copy o h) = absurd (omega (arith, slice_get_within P.posts m q e, few_posts, o.made))
  value_once m v w (notice o f) (post {q = q} e h) = absurd (omega (arith, slice_get_within P.posts m q e, few_posts, o.made))
  value_once m v w (copy o f) (post {q = q} e h) = absurd (omega (arith, slice_get_within P.posts m q e, few_posts, o.made))
  value_once m v w (message {j = i} {by = x} o f) (notice {j = j} {by = y} {n = n} p h) =
      let both : Send x o.to o.value ≡ Echo y n = same_maker i j m (sent_maker T i x m o) (echoed_maker T j y n m p) in absurd (cc)
  value_once m v w (message {j = i} {by = x} o f) (copy {k = j} {n = n} p h) =
      let both : Send x o.to o.value ≡ Repeat n = same_maker i j m (sent_maker T i x m o) (repeated_maker T j n m p) in absurd (cc)
  value_once m v w (notice {j = i} {by = x} {n = n} o f) (message {j = j} {by = y} p h) =
      let both : Echo x n ≡ Send y p.to p.value = same_maker i j m (echoed_maker T i x n m o) (sent_maker T j y m p) in absurd (cc)
  value_once m v w (copy {k = i} {n = n} o f) (message {j = j} {by = y} p h) =
      let both : Repeat n ≡ Send y p.to p.value = same_maker i j m (repeated_maker T i n m o) (sent_maker T j y m p) in absurd (cc)
  value_once m v w (notice o f) (notice p h) = sym f ∙ h
  value_once m v w (notice {j = i} {by = x} {n = n} o f) (copy {k = j} {n = l} p h) =
      let both : Echo x n ≡ Repeat l = same_maker i j m (echoed_maker T i x n m o) (repeated_maker T j l m p) in absurd (cc)
  value_once m v w (copy {k = i} {n = n} o f) (notice {j = j} {by = y} {n = l} p h) =
      let both : Repeat n ≡ Echo y l = same_maker i j m (repeated_maker T i n m o) (echoed_maker T j y l m p) in absurd (cc)
  value_once m v w (copy {k = i} {n = n} o f) (copy {k = j} {n = l} p h) =
      let both : Repeat n ≡ Repeat l = same_maker i j m (repeated_maker T i n m o) (repeated_maker T j l m p) in
      let same : n ≡ l = cc in
      value_once n v w f (subst (λ x. HasValue P T x w) (sym same) h)

-- a step has one reply
reply_once : (T : Run) (opening : List Value) (j : ℕ) (s : Step) (q r : Val) → Replies T opening j s q → Replies T opening j s r → q ≡ r
reply_once T opening j (Get t) q r f g = f.2 ∙ ap val_of (state_once T opening (point_at T t j) j f.0 g.0 f.1 g.1) ∙ sym g.2
reply_once T opening j (Ask t answer) q r f g = f ∙ sym g
reply_once T opening j (New t b n v) q r f g = f ∙ sym g
reply_once T opening j (Set t v) q r f g = f ∙ sym g
reply_once T opening j (Skip t) q r f g = f ∙ sym g
reply_once T opening j (Send t u v) q r f g = f ∙ sym g
reply_once T opening j (Stabilize t) q r f g = f ∙ sym g
reply_once T opening j s q r f g = absurd f

-- a turn has one list of replies
pub replies_once : (T : Run) (opening : List Value) (t a k : ℕ) (qs rs : List Val) → RepliesOf T opening t a k qs → RepliesOf T opening t a k rs → qs ≡ rs
replies_once T opening t a k qs rs (before l) (before h) = refl
replies_once T opening t a (suc k) qs rs (before l) (another h n g) = absurd (omega arith)
replies_once T opening t a (suc k) qs rs (before l) (reply r h acts stands gives g) = absurd (omega arith)
replies_once T opening t a (suc k) qs rs (another l n f) (before h) = absurd (omega arith)
replies_once T opening t a (suc k) qs rs (another l n f) (another h o g) = replies_once T opening t a k qs rs f g
replies_once T opening t a (suc k) qs rs (another l n f) (reply r h acts stands gives g) = absurd (n acts)
replies_once T opening t a (suc k) qs rs (reply q l acts stands gives f) (before h) = absurd (omega arith)
replies_once T opening t a (suc k) qs rs (reply q l acts stands gives f) (another h n g) = absurd (n acts)
replies_once T opening t a (suc k) qs rs (reply {s = s} {rs = xs} q l acts stands gives f) (reply {s = o} {rs = ys} r h does there has g) =
    let same : o ≡ s = same_some (sym there ∙ stands) in
    let front : xs ≡ ys = replies_once T opening t a k xs ys f g in
    let last : q ≡ r = reply_once T opening k s q r gives (subst (λ x. Replies T opening k x r) same has) in
    λ i. front i ++ last i ∷ []

-- a Take names one transactor and one message
pub same_taker : (t u m n : ℕ) → Take t m ≡ Take u n → t ≡ u
same_taker t u m n e = cc

pub same_taken : (t u m n : ℕ) → Take t m ≡ Take u n → m ≡ n
same_taken t u m n e = cc
