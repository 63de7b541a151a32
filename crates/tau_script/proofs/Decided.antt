-- What a script asks of a place is so or not: the messages in flight, and the least living transactor of a node.
use Rattle.std.proofs.Common.{◌≡◌, ◌⊎◌, inl, inr, ⊎_elim, ℕ, zero, suc, ◌<◌, ◌≤◌, Option, Some, None, refl, sym, ap, subst, ◌∙◌, arith}
use Rattle.std.specs.Prelude.{slice_get, option_and_then}
use Rattle.std.proofs.lemmas.Bool.{cases_eq}
use Rattle.tau_history.specs.Timeline.{interval, Move, keep, stabilize, close, fall}
use Rattle.tau_trace.specs.declared.step.Step.{Step}
use Rattle.tau_trace.specs.declared.step.Step.TheVariants.{New}
use Rattle.tau_trace.specs.Steps.{removed_by}
use Rattle.tau_trace.specs.Run.{Run, step_at}
use Rattle.tau_trace.specs.Places.{IsLeastFrom}
use Rattle.tau_trace.specs.Numbering.{born, sent, IsNew, IsHome, start, created, Removes, InFlight}
use Rattle.tau_trace.specs.Histories.{history, move_at, EndsAt, IsLiving}
use Rattle.tau_trace.specs.Nodes.{LivesAt, IsNextLiving}
use Rattle.tau_trace.proofs.Lists.{same_some}
use Rattle.tau_trace.proofs.Agreement.{new_before}
use Rattle.tau_trace.proofs.Sequences.{cases_last}

-- the fact holds, or it does not
abbrev pub Decided : Type 0 → Type 0
Decided P = P ⊎ (¬ P)

pub le_or_above : (m n : ℕ) → (m ≤ n) ⊎ (n < m)
le_or_above m n = grind arith

some_or_not : (o : Option ℕ) (m : ℕ) → Decided (o ≡ Some m)
some_or_not None m = inr (λ e. absurd (cc))
some_or_not (Some n) m = ⊎_elim (λ e. inl (ap Some e)) (λ d. inr (λ e. d (same_some e))) (cases_eq n m)

fall_or_not : (m : Move) → Decided (m ≡ fall)
fall_or_not keep = inr (λ e. absurd (cc))
fall_or_not stabilize = inr (λ e. absurd (cc))
fall_or_not close = inr (λ e. absurd (cc))
fall_or_not fall = inl refl

-- a place below k at which P holds
abbrev SomeBelow : (ℕ → Type 0) → ℕ → Type 0
SomeBelow P k = (j : ℕ) × (j < k) × P j

abbrev NoneBelow : (ℕ → Type 0) → ℕ → Type 0
NoneBelow P k = (j : ℕ) → j < k → ¬ P j

none_more : (P : ℕ → Type 0) (k : ℕ) → NoneBelow P k → ¬ P k → NoneBelow P (suc k)
none_more P k h n = λ j l p. ⊎_elim (λ e. n (subst P e p)) (λ b. h j b p) (cases_last j k l)

some_below : (P : ℕ → Type 0) → ((j : ℕ) → Decided (P j)) → (k : ℕ) → SomeBelow P k ⊎ NoneBelow P k
some_below P d zero = inr (λ j l p. omega arith)
some_below P d (suc k) =
    ⊎_elim
    (λ s. inl (s.0, omega (arith, s.1), s.2))
    (λ h. ⊎_elim (λ p. inl (k, omega arith, p)) (λ n. inr (none_more P k h n)) (d k))
    (some_below P d k)

pub in_flight : (T : Run) (m k : ℕ) → Decided (InFlight T m k)
in_flight T m k =
    ⊎_elim
    (λ a. inr (λ f. omega (arith, f.exists)))
    (λ l. ⊎_elim
    (λ s. inr (λ f. f.not_removed s.0 s.1 s.2))
    (λ h. inl (record { exists = l; not_removed = h }))
    (some_below (Removes T m) (λ j. some_or_not (option_and_then removed_by (step_at T j)) m) k))
    (le_or_above (sent T k) m)

ends : (T : Run) (t k : ℕ) → Decided (EndsAt T t k)
ends T t k =
    ⊎_elim
    (λ f. ⊎_elim
    (λ e. inl (record { falls = f; at_opening = e }))
    (λ n. inr (λ x. n x.at_opening))
    (cases_eq (interval (history T t k)) 0))
    (λ n. inr (λ x. n x.falls))
    (fall_or_not (move_at T t k))

living : (T : Run) (t k : ℕ) → Decided (IsLiving T t k)
living T t k = ⊎_elim (λ s. inr (λ l. l s.0 s.1 s.2)) (λ h. inl h) (some_below (EndsAt T t) (ends T t) k)

-- a New at place j makes transactor t at node n
record MadeAtNode (T : Run) (t n j : ℕ) : Type 0 where
  by : ℕ
  birth : IsNew T j by t
  node_is : birth.node ≡ n

made_or_not : (T : Run) (t n j : ℕ) (o : Option Step) → step_at T j ≡ o → Decided (MadeAtNode T t n j)
made_or_not T t n j None e = inr (λ x. let f = sym e ∙ x.birth.stands in absurd (cc))
made_or_not T t n j (Some (New by b node v)) e =
    ⊎_elim
    (λ made. ⊎_elim
    (λ same. inl (record { by = by; birth = record { behaviour = b; node = node; state = v; stands = e; made = made }; node_is = same }))
    (λ d. inr (λ x. d (let f = sym e ∙ x.birth.stands in let g : node ≡ x.birth.node = cc in g ∙ x.node_is)))
    (cases_eq node n))
    (λ d. inr (λ x. d x.birth.made))
    (cases_eq t (born T j))
made_or_not T t n j (Some s) e = inr (λ x. let f = sym e ∙ x.birth.stands in absurd (cc))

not_home : (T : Run) (t n k : ℕ) → t < born T k → ¬ (slice_get T.opening.homes t ≡ Some n) → NoneBelow (MadeAtNode T t n) k → IsHome T t n → ⊥
not_home T t n k l d h (start e) = d e
not_home T t n k l d h (created {j = j} {by = by} b f) = h j (new_before T j by t k b l) (record { by = by; birth = b; node_is = f })

home : (T : Run) (t n k : ℕ) → t < born T k → Decided (IsHome T t n)
home T t n k l =
    ⊎_elim
    (λ e. inl (start e))
    (λ d. ⊎_elim
    (λ s. inl (created s.2.birth s.2.node_is))
    (λ h. inr (not_home T t n k l d h))
    (some_below (MadeAtNode T t n) (λ j. made_or_not T t n j (step_at T j) refl) k))
    (some_or_not (slice_get T.opening.homes t) n)

lives : (T : Run) (n t k : ℕ) → Decided (LivesAt T n t k)
lives T n t k =
    ⊎_elim
    (λ a. inr (λ x. omega (arith, x.exists)))
    (λ l. ⊎_elim
    (λ h. ⊎_elim (λ v. inl (record { exists = l; home = h; living = v })) (λ d. inr (λ x. d x.living)) (living T t k))
    (λ d. inr (λ x. d x.home))
    (home T t n k l))
    (le_or_above (born T k) t)

least_more : (P : ℕ → Type 0) (a k : ℕ) → Decided (P k) → (r : Option ℕ) → IsLeastFrom a P k r → (s : Option ℕ) × IsLeastFrom a P (suc k) s
least_more P a k d (Some r) h = (Some r, (h.0, omega (arith, h.1), h.2, h.3))
least_more P a k (inl p) None h =
    ⊎_elim
    (λ l. (Some k, (l, omega arith, p, h)))
    (λ g. (None, λ j f l q. omega arith))
    (le_or_above a k)
least_more P a k (inr n) None h =
    (None, λ j f l q. ⊎_elim (λ e. n (subst P e q)) (λ b. h j f b q) (cases_last j k l))

least : (P : ℕ → Type 0) → ((j : ℕ) → Decided (P j)) → (a k : ℕ) → (r : Option ℕ) × IsLeastFrom a P k r
least P d a zero = (None, λ j f l p. omega arith)
least P d a (suc k) = let b = least P d a k in least_more P a k (d k) b.0 b.1

to_next : (T : Run) (n k from : ℕ) (r : Option ℕ) → IsLeastFrom from (λ t. LivesAt T n t k) (born T k) r → IsNextLiving T n k from r
to_next T n k from None h = λ t l. ⊎_elim (λ f. absurd (h t f l.exists l)) (λ g. g) (le_or_above from t)
to_next T n k from (Some r) h =
    (h.0, h.2, λ t l f. ⊎_elim (λ le. le) (λ g. absurd (h.3 t f g l)) (le_or_above r t))

pub next_living : (T : Run) (n k from : ℕ) → (r : Option ℕ) × IsNextLiving T n k from r
next_living T n k from =
    let b = least (λ t. LivesAt T n t k) (λ t. lives T n t k) from (born T k) in (b.0, to_next T n k from b.0 b.1)
