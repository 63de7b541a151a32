-- Chains over what a decision has heard, and chains by marked steps.
use Rattle.std.proofs.Common.{◌≡◌, ◌⊎◌, ◌↔◌, inl, inr, ⊎_elim, ℕ, suc, ◌<◌, Bool, List, [], ◌∷◌, refl, sym, ap, ◌∙◌, subst, arith}
use Rattle.std.specs.Prelude.{Contains}
use Rattle.tau_points.specs.declared.point.Point.{Point}
use Rattle.tau_points.specs.Reach.{Reach, start, next, LeadsAlong}
use Rattle.tau_points.proofs.Reach.{path_of}
use Rattle.tau_explain.specs.declared.chains.chained.Chained.{Chained}
use Rattle.tau_explain.specs.Chains.Chains.{IsChain, HasNoChain}
use Rattle.tau_trace.specs.declared.step.Step.TheVariants.{Checkpoint}
use Rattle.tau_trace.specs.Run.{Run, len, ActsAt}
use Rattle.tau_trace.specs.Points.{point_at, IsOpeningPoint}
use Rattle.tau_trace.proofs.Quiet.{acts}
use Rattle.tau_past.specs.Heard.{IsCausallyClosed}
use Rattle.tau_past.specs.KnownLaws.{TouchedIn}
use Rattle.tau_past.specs.Pasts.{Link, takes, closing, ClosesAt, checkpoint, opening, Everywhere}
use Rattle.tau_past.proofs.HeardLemmas.{carried_touched}
use Rattle.tau_past.proofs.Safety.{no_link}
use Rattle.tau_explain.specs.Links.Links.{Makes, IsLeastMaker, HaveMakers, IsTold, IsFirstTold}
use Rattle.tau_explain.specs.Links.Links as links
use Rattle.tau_explain.specs.Links.Marks.{IsMarked}
use Rattle.tau_explain.specs.Links.Inner.Dependents.{CameTo, IsLinked}
use Rattle.tau_explain.specs.Links.Inner.Linking.{IsFirstByMarks}
use Rattle.tau_explain.proofs.PushLemmas.{came_at, takes_of, acts_within, makes_within}

-- a step in H was made at q
pub record StoodIn (T : Run) (H : ℕ → Type 0) (q : Point) : Type 0 where
  pub place : ℕ
  pub held : H place
  pub acts : ActsAt T q.who place
  pub at_point : q ≡ point_at T q.who place

pub stood_touched : (T : Run) (H : ℕ → Type 0) (q : Point) → TouchedIn T H q → StoodIn T H q
stood_touched T H q t = record { place = t.place; held = t.held; acts = acts T q.who t.place t.touching.step t.touching.stands t.touching.by; at_point = t.at_point }

pub stood_came : (T : Run) (H : ℕ → Type 0) (q : Point) → StoodIn T H q → CameTo T q
stood_came T H q s = came_at T q s.place s.at_point (let lt = acts_within T s.place q.who s.acts in omega (arith, lt))

module _ (T : Run) (H : ℕ → Type 0) (marks : List Bool) (held : (j : ℕ) → IsMarked marks j → H j) (marked : (j : ℕ) → j < len T → H j → IsMarked marks j) where
  linked_link : (p q : Point) → IsLinked T marks p q → Link T H p q
  linked_link p q l = by l.makes where
    by : Makes T l.place p q → Link T H p q
    by (links.takes t) = takes (held l.place l.marked) t
    by (links.closes c e i) = closing i (checkpoint (held l.place l.marked) c e refl)

  least_same : (p q : Point) (k : ℕ) → IsLeastMaker T (IsMarked marks) p q k → IsLeastMaker T H p q k
  least_same p q k l = record { held = held k l.held; makes = l.makes; least = λ j h m. l.least j (marked j (makes_within T j p q m) h) m }

  makers_same : (p : Point) (cs : List Chained) → HaveMakers T (IsMarked marks) p cs → HaveMakers T H p cs
  makers_same p [] m = tt
  makers_same p (c ∷ cs) m = ((m.0.0, m.0.1, least_same p c.point m.0.0 m.0.2), makers_same c.point cs m.1)

  told_same : (cs : List Chained) → IsTold T (IsMarked marks) cs → IsTold T H cs
  told_same [] t = absurd t
  told_same (c ∷ cs) t = (t.0, makers_same c.point cs t.1)

  module _ (closed : IsCausallyClosed T H) where
    -- what a link leads to is an opening point, or a step in H was made there
    leads_to : (x z : Point) → Link T H x z → IsOpeningPoint T z ⊎ StoodIn T H z
    leads_to x z (takes {j = j} h t) = inr (stood_touched T H z (carried_touched H T j z closed h (takes_of T x z j t).1))
    leads_to x z (closing {i = i} e c) = by c where
      by : ClosesAt T H x.who i z → IsOpeningPoint T z ⊎ StoodIn T H z
      by (checkpoint {j = j} h c at f) =
          let who : x.who ≡ z.who = sym (ap (λ (q : Point). q.who) at) in
          inr (record {
            place = j;
            held = h;
            acts = subst (λ u. ActsAt T u j) who (acts T x.who j (Checkpoint x.who) c refl);
            at_point = subst (λ u. z ≡ point_at T u j) who at;
          })
      by (opening w f o) = inl o

    linked_by : (x z : Point) → CameTo T x → Link T H x z → IsLinked T marks x z ⊎ IsOpeningPoint T z
    linked_by x z came (takes {j = j} h t) = inl (record { came = came; place = j; marked = marked j (makes_within T j x z (links.takes t)) h; makes = links.takes t })
    linked_by x z came (closing {i = i} e c) = by c where
      by : ClosesAt T H x.who i z → IsLinked T marks x z ⊎ IsOpeningPoint T z
      by (checkpoint {j = j} h c at f) = let m : Makes T j x z = links.closes c at (e ∙ ap suc (sym f)) in inl (record { came = came; place = j; marked = marked j (makes_within T j x z m) h; makes = m })
      by (opening w f o) = inr o

    link_everywhere : (x z : Point) → Link T H x z → Link T Everywhere x z
    link_everywhere x z (takes h t) = takes tt t
    link_everywhere x z (closing {i = i} e c) = by c where
      by : ClosesAt T H x.who i z → Link T Everywhere x z
      by (checkpoint h c at f) = closing e (checkpoint tt c at f)
      by (opening w f o) = closing e (opening w f o)

    -- no link leaves an opening point
    leaves_none : (z v : Point) → IsOpeningPoint T z → ¬ Link T H z v
    leaves_none z v o l = no_link T z v o (link_everywhere z v l)

    -- what is reached is an opening point, begins, or a step in H was made there
    pub past_cases : (S : Point → Type 0) (q : Point) → Reach (Link T H) S q → IsOpeningPoint T q ⊎ (S q ⊎ StoodIn T H q)
    past_cases S q (start s) = inr (inl s)
    past_cases S q (next {x = x} r l) = ⊎_elim (λ o. inl o) (λ s. inr (inr s)) (leads_to x q l)

    module _ (S C : Point → Type 0) (from to : List Point) (from_is : (q : Point) → Contains from q ↔ S q) (source_came : (q : Point) → S q → CameTo T q) (to_cause : (q : Point) → Contains to q → C q)
        (cause_to : (q : Point) → C q → S q ⊎ StoodIn T H q → Contains to q) (no_opening : (q : Point) → IsOpeningPoint T q → ¬ C q) where
      ends_at : (z : Point) (zs : List Point) (y : Point) → IsOpeningPoint T z → LeadsAlong (Link T H) z zs y → ¬ C y
      ends_at z [] y o e c = no_opening z o (subst C (sym e) c)
      ends_at z (v ∷ vs) y o a c = leaves_none z v o a.0

      along : (x : Point) (xs : List Point) (y : Point) → CameTo T x → S x ⊎ StoodIn T H x → LeadsAlong (Link T H) x xs y → C y → LeadsAlong (IsLinked T marks) x xs y × Contains to y
      along x [] y came s e c = (e, cause_to y c (subst (λ z. S z ⊎ StoodIn T H z) e s))
      along x (z ∷ zs) y came s a c =
          ⊎_elim
          (λ l. ⊎_elim (λ o. absurd (ends_at z zs y o a.1 c)) (λ m. let rest = along z zs y (stood_came T H z m) (inr m) a.1 c in ((l, rest.0), rest.1)) (leads_to x z a.0))
          (λ o. absurd (ends_at z zs y o a.1 c))
          (linked_by x z came a.0)

      back_along : (x : Point) (xs : List Point) (y : Point) → LeadsAlong (IsLinked T marks) x xs y → LeadsAlong (Link T H) x xs y
      back_along x [] y e = e
      back_along x (z ∷ zs) y a = (linked_link x z a.0, back_along z zs y a.1)

      chain_by_marks : (points : List Point) → IsChain (Link T H) S C points → IsChain (IsLinked T marks) (Contains from) (Contains to) points
      chain_by_marks points c =
          let rest = along c.first c.rest c.last (source_came c.first c.begins) (inl c.begins) c.leads c.ends in
          record { first = c.first; rest = c.rest; last = c.last; is = c.is; begins = (from_is c.first).1 c.begins; leads = rest.0; ends = rest.1 }

      chain_of_marks : (points : List Point) → IsChain (IsLinked T marks) (Contains from) (Contains to) points → IsChain (Link T H) S C points
      chain_of_marks points c = record { first = c.first; rest = c.rest; last = c.last; is = c.is; begins = (from_is c.first).0 c.begins; leads = back_along c.first c.rest c.last c.leads; ends = to_cause c.last c.ends }

      pub first_told : (chain : List Chained) → IsFirstByMarks T marks (Contains from) (Contains to) chain → IsFirstTold T H S C chain
      first_told chain f = record {
        told = told_same chain f.told;
        first = record {
          chain = chain_of_marks _ f.first.chain;
          shortest = λ other c. f.first.shortest other (chain_by_marks other c);
          first = λ other c s. f.first.first other (chain_by_marks other c) s;
        };
      }

      pub none_told : HasNoChain (IsLinked T marks) (Contains from) (Contains to) → (points : List Point) → ¬ IsChain (Link T H) S C points
      none_told none points c = none points (chain_by_marks points c)

      -- without a chain nothing that is reached is a cause
      pub no_cause : HasNoChain (IsLinked T marks) (Contains from) (Contains to) → (q : Point) → Reach (Link T H) S q → ¬ C q
      no_cause none q r c =
          let p = path_of (Link T H) S q r in
          none_told none (p.first ∷ p.rest) (record { first = p.first; rest = p.rest; last = q; is = refl; begins = p.begins; leads = p.leads; ends = c })
