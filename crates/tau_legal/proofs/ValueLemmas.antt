-- The values of a run are in bounds and name only transactors that exist.
use Rattle.std.proofs.Common.{◌≡◌, ℕ, zero, suc, ◌+◌, ◌<◌, ◌≤◌, Some, List, [], ◌∷◌, ◌++◌, length, refl, sym, ap, subst, arith}
use Rattle.std.specs.Prelude.{slice_get, option_map, map, All, true, false, cond}
use Rattle.std.specs.Option.{option_map_or}
use Rattle.std.proofs.lemmas.List.Elements.{All-head, All-tail}
use Rattle.tau_value.specs.declared.shared.Value.{Value}
use Rattle.tau_value.specs.Val.{Val}
use Rattle.tau_value.specs.Value.{val_of}
use Rattle.tau_value.specs.Sizes.{IsInBounds, NamesBelow, names_below-from_end, names_end-le}
use Rattle.tau_tree.specs.declared.starts.Start.{Start}
use Rattle.tau_tree.specs.declared.programs.Program.{Program}
use Rattle.tau_tree.specs.Behaviour.{NamedCode}
use Rattle.tau_tree.specs.Code.{Code}
use Rattle.tau_tree.specs.Sound.{Sound, bodies}
use Rattle.tau_trace.specs.declared.step.Step.{Step}
use Rattle.tau_trace.specs.declared.step.Step.TheVariants.{Take, Drop, Fall, Void, Get, Set, Skip, Send, New, Stabilize, Ask, Checkpoint, Hold, Rollback, Stay, Done, Trap, Fail, Lose}
use Rattle.tau_trace.specs.Run.{Run, step_at, len}
use Rattle.tau_trace.specs.Numbering.{born, sent}
use Rattle.tau_trace.specs.Points.{point_at}
use Rattle.tau_trace.specs.Known.{WellFormed, IsKnownValue}
use Rattle.tau_trace.proofs.Agreement.{born-grows, sent_before}
use Rattle.tau_points.specs.declared.point.Point.{Point}
use Rattle.tau_past.specs.States as states
use Rattle.tau_past.specs.States.{StateAt, SavedWith}
use Rattle.tau_script.specs.Openings.{program_opening}
use Rattle.tau_states.specs.Opening.{opening_states}
use Rattle.tau_eval.specs.Eff.{Eff}
use Rattle.tau_eval.specs.Known.{IsKnown, AreKnown, IsKnownEffect, KeepsNames}
use Rattle.tau_eval.proofs.KnownLemmas.{effects_known}
use Rattle.tau_tree.specs.Parts.{Throughout, NamesStart, NamesBehaviour, HasShortText}
use Rattle.tau_trace.specs.Steps.{is_new}
use Rattle.tau_trace.proofs.Counts.{count-suc}
use Rattle.tau_legal.proofs.TraceLemmas.{below_length}
use Rattle.tau_legal.specs.Turns.{HasValue, post, message, notice, copy, Replies, RepliesOf, before, another, reply, TurnHas}

-- an item of a list has what all items have
pub at_all : {A : Type 0} (P : A → Type 0) (xs : List A) (k : ℕ) (x : A) → All P xs → slice_get xs k ≡ Some x → P x
at_all P [] k x h e = absurd (cc)
at_all P (y ∷ ys) zero x h e =
    let same : y ≡ x = cc in
    subst P same (All-head P y ys h)
at_all P (y ∷ ys) (suc k) x h e = at_all P ys k x (All-tail P y ys h) e

-- what names the first transactors names the first of more
names_more : (m n : ℕ) (v : Val) → m ≤ n → NamesBelow m v → NamesBelow n v
names_more m n v le h = names_below-from_end n v (omega (arith, names_end-le m v h))

known_more : (m n : ℕ) (v : Val) → m ≤ n → IsKnown m v → IsKnown n v
known_more m n v le h = (h.0, names_more m n v le h.1)

known_of : (n : ℕ) (v : Value) → IsKnownValue n v → IsKnown n (val_of v)
known_of n v k = (k.in_bounds, k.names)

-- the value of a start by its place
opening_at : (ss : List Start) (k : ℕ) (v : Value) → slice_get (opening_states ss) k ≡ Some v → (s : Start) × (slice_get ss k ≡ Some s) × (s.state ≡ v)
opening_at [] k v e = absurd (cc)
opening_at (s ∷ ss) zero v e =
    let same : s.state ≡ v = cc in
    (s, refl, same)
opening_at (s ∷ ss) (suc k) v e = opening_at ss k v e

-- a New makes one transactor more
born_after_new : (T : Run) (j t b n : ℕ) (x : Value) → step_at T j ≡ Some (New t b n x) → born T (suc j) ≡ born T j + 1
born_after_new T j t b n x e =
    let test : option_map_or is_new (step_at T j) false ≡ true = ap (λ o. option_map_or is_new o false) e in
    let one : cond (option_map_or is_new (step_at T j) false) 1 0 ≡ cond true 1 0 = ap {B = ℕ} (λ c. cond c 1 0) test in
    omega (arith, count-suc (λ i. option_map_or is_new (step_at T i) false) j, one)

module _ (P : Program) (T : Run) (sound : Sound P) (well : WellFormed T) (opens : T.opening ≡ program_opening P) where
  -- the starts of the program exist at each place
  few_starts : (k : ℕ) → length P.starts ≤ born T k
  few_starts k = omega (arith, ap (λ o. length o.names) opens, length-names P.starts) where
    length-names : (ss : List Start) → length (map (λ s. s.name) ss) ≡ length ss
    length-names [] = refl
    length-names (s ∷ ss) = ap suc (length-names ss)

  opening_known : (t : ℕ) (v : Value) → slice_get (opening_states P.starts) t ≡ Some v → IsKnown (length P.starts) (val_of v)
  opening_known t v e =
      let at = opening_at P.starts t v e in
      let bounded = at_all (λ s. IsInBounds (val_of s.state)) P.starts t at.0 sound.states_bounded at.1 in
      let names = at_all (λ s. NamesBelow (length P.starts) (val_of s.state)) P.starts t at.0 sound.state_names at.1 in
      subst (λ x. IsKnown (length P.starts) (val_of x)) at.2 (bounded, names)

  -- the value of a message
  pub message_known : (m k : ℕ) (v : Val) → m < sent T k → HasValue P T m v → IsKnown (born T k) v
  message_known m k v lt (post {q = q} e is) =
      let bounded = at_all (λ q. IsInBounds (val_of q.value)) P.posts m q sound.posts_bounded e in
      let names = at_all (λ q. NamesBelow (length P.starts) (val_of q.value)) P.posts m q sound.post_names e in
      known_more (length P.starts) (born T k) v (few_starts k) (subst (IsKnown (length P.starts)) is (bounded, names))
  message_known m k v lt (message {j = j} {by = by} o is) =
      let earlier = sent_before T j by m k o lt in
      let known = (well.known j (Send by o.to o.value) o.stands).2 in
      known_more (born T j) (born T k) v (born-grows T j k (omega arith)) (subst (IsKnown (born T j)) is (known_of (born T j) o.value known))
  message_known m k v lt (notice o is) = subst (IsKnown (born T k)) is ((omega arith, omega arith), tt)
  message_known m k v lt (copy {n = n} o h) = message_known n k v (omega (arith, o.earlier, lt)) h

  -- a value that a step at a place gave, is known at the end
  at_end : (j : ℕ) (s : Step) (v : Value) → step_at T j ≡ Some s → IsKnownValue (born T j) v → IsKnown (born T (len T)) (val_of v)
  at_end j s v e known =
      let lt = below_length T.steps j s e in
      known_more (born T j) (born T (len T)) (val_of v) (born-grows T j (len T) (omega arith)) (known_of (born T j) v known)

  -- states and saved states
  mutual
    pub state_known : (q : Point) (k : ℕ) (v : Value) → StateAt T (opening_states P.starts) q k v → IsKnown (born T (len T)) (val_of v)
    state_known q k v (states.by_set {j = j} s e lower none) = at_end j (Set q.who v) v s (well.known j (Set q.who v) s).1
    state_known q k v (states.by_new {j = j} {by = by} b is z none) =
        subst (λ x. IsKnown (born T (len T)) (val_of x)) is (at_end j (New by b.behaviour b.node b.state) b.state b.stands (well.known j (New by b.behaviour b.node b.state) b.stands).3)
    state_known q k v (states.by_save {i = i} e s none) = saved_known q.who i v s

    saved_known : (t i : ℕ) (v : Value) → SavedWith T (opening_states P.starts) t i v → IsKnown (born T (len T)) (val_of v)
    saved_known t i v (states.at_opening s z e) = known_more (length P.starts) (born T (len T)) (val_of v) (few_starts (len T)) (opening_known t v e)
    saved_known t i v (states.at_checkpoint {j = j} c e s) = state_known (point_at T t j) j v s

  -- a reply
  reply_known : (j : ℕ) (s : Step) (r : Val) → step_at T j ≡ Some s → Replies T (opening_states P.starts) j s r → IsKnown (born T (len T)) r
  reply_known j (Get t) r e h = subst (IsKnown (born T (len T))) (sym h.2) (state_known (point_at T t j) j h.0 h.1)
  reply_known j (Ask t a) r e h = subst (IsKnown (born T (len T))) (sym h) ((omega arith, omega arith), tt)
  reply_known j (New t b n x) r e h =
      let lt = below_length T.steps j (New t b n x) e in
      let more = born_after_new T j t b n x e in
      subst (IsKnown (born T (len T))) (sym h) ((omega arith, omega arith), omega (arith, more, born-grows T (suc j) (len T) (omega arith)))
  reply_known j (Set t x) r e h = subst (IsKnown (born T (len T))) (sym h) ((omega arith, omega arith), tt)
  reply_known j (Skip t) r e h = subst (IsKnown (born T (len T))) (sym h) ((omega arith, omega arith), tt)
  reply_known j (Send t u x) r e h = subst (IsKnown (born T (len T))) (sym h) ((omega arith, omega arith), tt)
  reply_known j (Stabilize t) r e h = subst (IsKnown (born T (len T))) (sym h) ((omega arith, omega arith), tt)
  reply_known j s r e h = absurd h

  -- the replies of a turn
  replies_known : (t a k : ℕ) (rs : List Val) → RepliesOf T (opening_states P.starts) t a k rs → AreKnown (born T (len T)) rs
  replies_known t a k rs (before le) = tt
  replies_known t a (suc k) rs (another le n r) = replies_known t a k rs r
  replies_known t a (suc k) rs (reply {s = s} {rs = qs} r le acts stands gives so_far) =
      known-append qs (r ∷ []) (replies_known t a k qs so_far) (reply_known k s r stands gives, tt) where
        known-append : (us vs : List Val) → AreKnown (born T (len T)) us → AreKnown (born T (len T)) vs → AreKnown (born T (len T)) (us ++ vs)
        known-append [] vs g h = h
        known-append (u ∷ us) vs g h = (g.0, known-append us vs g.1 h)

  -- the body of a behaviour
  body_kept : (b : ℕ) (c : NamedCode) → slice_get P.behaviours b ≡ Some c → KeepsNames (length P.starts) (length P.behaviours) c.body
  body_kept b c e = record {
    starts_named = at_body (Throughout (NamesStart (length P.starts))) sound.body_starts;
    behaviours_named = at_body (Throughout (NamesBehaviour (length P.behaviours))) sound.body_behaviours;
    short_texts = at_body (Throughout HasShortText) sound.texts_bounded;
  } where
    body_at : (bs : List NamedCode) (k : ℕ) → slice_get bs k ≡ Some c → slice_get (map (λ x. x.body) bs) k ≡ Some c.body
    body_at [] k f = absurd (cc)
    body_at (x ∷ xs) zero f = ap (option_map (λ x. x.body)) f
    body_at (x ∷ xs) (suc k) f = body_at xs k f

    at_body : (Q : Code → Type 0) → All Q (bodies P) → Q c.body
    at_body Q h = at_all Q (bodies P) b c.body h (body_at P.behaviours b e)

  -- the next effect of an open turn names what exists, and its values are in bounds
  pub turn_effect_known : (t : ℕ) (e : Eff) → TurnHas P T t (len T) e → IsKnownEffect (born T (len T)) (length P.behaviours) P.nodes e
  turn_effect_known t e h =
      let takes = well.known h.place (Take t h.message) h.turn.takes in
      let within = h.turn.before in
      let message = known_more (born T h.place) (born T (len T)) h.value (born-grows T h.place (len T) (omega arith)) (message_known h.message h.place h.value takes.1 h.value_is) in
      let keeps = subst (KeepsNames (length P.starts) (length P.behaviours)) h.body_is.is (body_kept h.body_is.number h.body_is.behaviour h.body_is.stands) in
      subst (IsKnownEffect (born T (len T)) (length P.behaviours) P.nodes) h.effect_is (effects_known (born T (len T)) (length P.starts) (length P.behaviours) h.body (record { nodes = P.nodes; own = t; message = h.value }) h.replies (few_starts (len T)) keeps (omega (arith, takes.0, born-grows T h.place (len T) (omega arith))) message (replies_known t (suc h.place) (len T) h.replies h.replies_are))
