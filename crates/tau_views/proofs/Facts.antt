-- The facts of a view, told for each transactor and each pair of points.
use Rattle.std.proofs.Common.{◌≡◌, ◌↔◌, inl, inr, ⊎_elim, ℕ, IsTrue, Option, Some, None, refl, sym, ap, ◌∙◌, subst, arith}
use Rattle.tau_history.specs.Timeline.{Timeline}
use Rattle.tau_points.specs.declared.point.Point.{Point}
use Rattle.tau_points.specs.Reach.{IsWithin}
use Rattle.tau_view.specs.Held.{Held, Histories, Edges}
use Rattle.tau_trace.specs.Run.{Run, ActsAt}
use Rattle.tau_trace.specs.Histories.{history}
use Rattle.tau_trace.proofs.Lists.{same_some}
use Rattle.tau_past.specs.KnownLaws.{IsSame}
use Rattle.tau_past.proofs.BoundLemmas.{bound_once, bound_history}
use Rattle.tau_past.specs.Heard.{HoldsStepsBefore, Bound}
use Rattle.tau_views.specs.Views.{IsPresent, is_owner, by_step, by_birth, IsKnownHistory, TakesIn, IsView}

-- what the set of places H, for an owner, tells of u: nothing where u isn't present, and else the history at its bound
pub data Told (T : Run) (H : ℕ → Type 0) (owner : Option ℕ) (u : ℕ) (told : Option Timeline) : Type 0 where
  absent : told ≡ None → ¬ IsPresent T H owner u → Told T H owner u told
  present : {a : ℕ} → told ≡ Some (history T u a) → IsPresent T H owner u → Bound T H u a → Told T H owner u told

-- histories and edges are those of the set of places H, for an owner
pub record Knows (T : Run) (H : ℕ → Type 0) (owner : Option ℕ) (hs : Histories) (es : Edges) : Type 0 where
  pub told : (u : ℕ) → Told T H owner u (hs u)
  pub edge : (p q : Point) → IsTrue (es p q) ↔ TakesIn T H p q

-- H has a bound at each transactor
abbrev pub IsBounded : Run → (ℕ → Type 0) → Type 0
IsBounded T H = (u : ℕ) → (a : ℕ) × Bound T H u a

-- a place of one set of which the other holds all
pub present_within : (T : Run) (H G : ℕ → Type 0) (owner : Option ℕ) (u : ℕ) → IsWithin H G → IsPresent T H owner u → IsPresent T G owner u
present_within T H G owner u within (is_owner e) = is_owner e
present_within T H G owner u within (by_step {j = j} h a) = by_step (within j h) a
present_within T H G owner u within (by_birth {j = j} h n) = by_birth (within j h) n

-- where no step of u is in H, its bound is 0
pub zero_bound : (T : Run) (H : ℕ → Type 0) (u : ℕ) → ((j : ℕ) → H j → ¬ ActsAt T u j) → Bound T H u 0
zero_bound T H u none = record { steps = λ j acts. (λ h. absurd (none j h acts), λ l. absurd (omega (arith, l))); last = inl refl }

-- a history that stands exactly where it is known, and what is told
pub told_of : (T : Run) (H : ℕ → Type 0) (owner : Option ℕ) (u : ℕ) (o : Option Timeline) → ((h : Timeline) → (o ≡ Some h) ↔ IsKnownHistory T H owner u h) → (a : ℕ) × Bound T H u a → Told T H owner u o
told_of T H owner u None f b = absent refl (λ p. let e : None ≡ Some (history T u b.0) = (f (history T u b.0)).1 (record { present = p; bound = b.0; is_bound = b.1; is = refl }) in cc)
told_of T H owner u (Some h) f b =
    let k : IsKnownHistory T H owner u h = (f h).0 refl in
    present {a = k.bound} (ap Some k.is) k.present k.is_bound

-- and what is told stands exactly where it is known
known_of : (T : Run) (H : ℕ → Type 0) (owner : Option ℕ) (u : ℕ) (o : Option Timeline) → Told T H owner u o → (h : Timeline) → (o ≡ Some h) ↔ IsKnownHistory T H owner u h
known_of T H owner u o (absent e n) h = (λ f. let both : None ≡ Some h = sym e ∙ f in absurd (cc), λ k. absurd (n k.present))
known_of T H owner u o (present {a = a} e p b) h = (
  λ f. record { present = p; bound = a; is_bound = b; is = same_some (sym f ∙ e) },
  λ k. e ∙ ap Some (ap (history T u) (bound_once H T u a k.bound b k.is_bound) ∙ sym k.is),
)

-- a view tells the facts of its places
pub knows : (T : Run) (H : ℕ → Type 0) (owner : Option ℕ) (roots : Point → Type 0) (x : Held) → IsBounded T H → IsView T H owner roots x → Knows T H owner x.history x.edge
knows T H owner roots x bounded v = record { told = λ u. told_of T H owner u (x.history u) (v.history u) (bounded u); edge = v.edge }

-- and with roots such facts make a view
pub view_of : (T : Run) (H : ℕ → Type 0) (owner : Option ℕ) (roots : Point → Type 0) (x : Held) → Knows T H owner x.history x.edge → ((q : Point) → IsTrue (x.root q) ↔ roots q) → IsView T H owner roots x
view_of T H owner roots x k r = record { history = λ u h. known_of T H owner u (x.history u) (k.told u) h; edge = k.edge; root = r }

-- the same histories in other words
pub told_as : (T : Run) (H : ℕ → Type 0) (owner : Option ℕ) (u : ℕ) (m n : Option Timeline) → m ≡ n → Told T H owner u n → Told T H owner u m
told_as T H owner u m n e d = subst (Told T H owner u) (sym e) d

-- another owner, with whom the same transactors are present
pub with_owner : (T : Run) (H : ℕ → Type 0) (owner other : Option ℕ) (hs : Histories) (es : Edges) → ((u : ℕ) → IsPresent T H owner u ↔ IsPresent T H other u) → Knows T H owner hs es → Knows T H other hs es
with_owner T H owner other hs es same k = record { told = λ u. by u (hs u) (k.told u); edge = k.edge } where
  by : (u : ℕ) (o : Option Timeline) → Told T H owner u o → Told T H other u o
  by u o (absent e n) = absent e (λ p. n ((same u).1 p))
  by u o (present {a = a} e p b) = present {a = a} e ((same u).0 p) b

-- the owner's history, where its steps in H are those before place k
pub told_own : (T : Run) (H : ℕ → Type 0) (t k : ℕ) (o : Option Timeline) → HoldsStepsBefore T H t k → Told T H (Some t) t o → o ≡ Some (history T t k)
told_own T H t k o before (absent e n) = absurd (n (is_owner refl))
told_own T H t k o before (present {a = a} e p b) = e ∙ ap Some (bound_history H T t a k before b)

-- a view is one of each set of the same places, with roots that are the same points
pub view_same : (T : Run) (H G : ℕ → Type 0) (owner : Option ℕ) (roots others : Point → Type 0) (x : Held) → IsSame G H → ((q : Point) → others q ↔ roots q) → IsView T H owner roots x → IsView T G owner others x
view_same T H G owner roots others x same alike v = record {
  history = λ u h. (λ e. known u h H G (λ j. (same j).1) (λ j. (same j).0) ((v.history u h).0 e), λ k. (v.history u h).1 (known u h G H (λ j. (same j).0) (λ j. (same j).1) k));
  edge = λ p q. (λ e. taken p q H G (λ j. (same j).1) ((v.edge p q).0 e), λ t. (v.edge p q).1 (taken p q G H (λ j. (same j).0) t));
  root = λ q. (λ e. (alike q).1 ((v.root q).0 e), λ r. (v.root q).1 ((alike q).0 r));
} where
  known : (u : ℕ) (h : Timeline) (A B : ℕ → Type 0) → IsWithin A B → IsWithin B A → IsKnownHistory T A owner u h → IsKnownHistory T B owner u h
  known u h A B to from k = record {
    present = present_within T A B owner u to k.present;
    bound = k.bound;
    is_bound = record {
      steps = λ j acts. (λ b. (k.is_bound.steps j acts).0 (from j b), λ l. to j ((k.is_bound.steps j acts).1 l));
      last = ⊎_elim (λ z. inl z) (λ s. inr (s.0, s.1, s.2, to s.0 s.3)) k.is_bound.last;
    };
    is = k.is;
  }

  taken : (p q : Point) (A B : ℕ → Type 0) → IsWithin A B → TakesIn T A p q → TakesIn T B p q
  taken p q A B to t = record { place = t.place; held = to t.place t.held; takes = t.takes }
