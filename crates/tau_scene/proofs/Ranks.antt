-- The ranks of transactors: each has one lane.
use Rattle.std.proofs.Common.{◌≡◌, ⊎_elim, ℕ, ◌<◌, get_or, Option, Some, None, sym, ap, ◌∙◌, subst, arith}
use Rattle.std.specs.Prelude.{slice_get}
use Rattle.std.proofs.lemmas.Bool.{cases_lt}
use Rattle.std.proofs.lemmas.Option.{slice_get_within, get_or_from_slice_get}
use Rattle.tau_trace.specs.Run.{Run}
use Rattle.tau_trace.specs.Known.{WellFormed}
use Rattle.tau_trace.specs.Numbering.{IsHome}
use Rattle.tau_trace.proofs.Lists.{same_some}
use Rattle.tau_trace.proofs.Once.{home_once}
use Rattle.tau_layout.specs.declared.lanes.Lane.{Lane}
use Rattle.tau_layout.specs.Lanes.{AreLanes, ComesBefore}
use Rattle.tau_layout.specs.Plans.{Plan, IsRank}

module _ (T : Run) (w : WellFormed T) (plan : Plan) (is : AreLanes T plan.window plan.lanes) where
  apart : (q r : ℕ) (l m : Lane) → slice_get plan.lanes q ≡ Some l → slice_get plan.lanes r ≡ Some m → l.who ≡ m.who → q < r → ⊥
  apart q r l m e f who lt =
      let before = is.ascending q r l lt (slice_get_within plan.lanes r m f) in
      let first = get_or_from_slice_get plan.lanes q l l e in
      let second = get_or_from_slice_get plan.lanes r m l f in
      let at = subst (λ (x : Lane). ComesBefore x m) first (subst (λ (x : Lane). ComesBefore (get_or plan.lanes q l) x) second before) in
      ⊎_elim (λ n. omega (arith, n, nodes)) (λ p. omega (arith, p.1, who)) at
    where
      nodes : l.node ≡ m.node
      nodes = home_once T l.who l.node m.node w.opening (is.only l (q, slice_get_within plan.lanes q l e, get_or_from_slice_get plan.lanes q l l e)).1 (subst (λ (t : ℕ). IsHome T t m.node) (sym who) (is.only m (r, slice_get_within plan.lanes r m f, get_or_from_slice_get plan.lanes r m m f)).1)

  one_rank : (q r : ℕ) (l m : Lane) → slice_get plan.lanes q ≡ Some l → slice_get plan.lanes r ≡ Some m → l.who ≡ m.who → q ≡ r
  one_rank q r l m e f who = ⊎_elim (λ a. absurd (apart q r l m e f who a)) (λ ge. ⊎_elim (λ b. absurd (apart r q m l f e (sym who) b)) (λ le. omega (arith, ge, le)) (cases_lt r q)) (cases_lt q r)

  -- the rank that is told of a transactor is that of its lane
  pub rank_is : (t r : ℕ) (l : Lane) (o : Option ℕ) → IsRank plan t o → slice_get plan.lanes r ≡ Some l → l.who ≡ t → o ≡ Some r
  rank_is t r l None h e who = absurd (h r (record { lane = l; at_rank = e; of = who }))
  rank_is t r l (Some q) h e who = ap Some (one_rank q r h.lane l h.at_rank e (h.of ∙ sym who))

-- and that lane is its own
pub rank_who : (plan : Plan) (t r : ℕ) (l : Lane) → IsRank plan t (Some r) → slice_get plan.lanes r ≡ Some l → l.who ≡ t
rank_who plan t r l h e = ap (λ (x : Lane). x.who) (same_some (sym e ∙ h.at_rank)) ∙ h.of
