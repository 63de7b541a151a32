-- A transactor has one rank.
use Rattle.std.proofs.Common.{◌≡◌, ◌⊎◌, ⊎_elim, ℕ, zero, suc, ◌<◌, ◌≤◌, List, [], ◌∷◌, get_or, Some, sym, subst, arith, ◌∙◌}
use Rattle.std.specs.Prelude.{slice_get}
use Rattle.std.proofs.lemmas.Option.{slice_get_within}
use Rattle.tau_trace.specs.Run.{Run}
use Rattle.tau_trace.specs.Known.{IsSound}
use Rattle.tau_trace.specs.Numbering.{IsHome}
use Rattle.tau_trace.proofs.Lists.{same_some}
use Rattle.tau_trace.proofs.Once.{home_once}
use Rattle.tau_layout.specs.declared.lanes.Lane.{Lane}
use Rattle.tau_layout.specs.Lanes.{AreLanes, ComesBefore}
use Rattle.tau_layout.specs.Plans.{Plan}
use Rattle.tau_layout.specs.Paths.Inner.Ranks.{HasOneRank}

cases_lt : (a b : ℕ) → (a < b) ⊎ (b ≤ a)
cases_lt a b = grind arith

get_is : (ls : List Lane) (k : ℕ) (l d : Lane) → slice_get ls k ≡ Some l → get_or ls k d ≡ l
get_is [] k l d e = absurd (cc)
get_is (x ∷ xs) zero l d e = same_some e
get_is (x ∷ xs) (suc k) l d e = get_is xs k l d e

module _ (T : Run) (sound : IsSound T.opening) (plan : Plan) (is : AreLanes T plan.window plan.lanes) where
  apart : (q r : ℕ) (l m : Lane) → slice_get plan.lanes q ≡ Some l → slice_get plan.lanes r ≡ Some m → l.who ≡ m.who → q < r → ⊥
  apart q r l m e f who lt =
      let before = is.ascending q r l lt (slice_get_within plan.lanes r m f) in
      let first = get_is plan.lanes q l l e in
      let second = get_is plan.lanes r m l f in
      let at = subst (λ (x : Lane). ComesBefore x m) first (subst (λ (x : Lane). ComesBefore (get_or plan.lanes q l) x) second before) in
      ⊎_elim (λ n. omega (arith, n, nodes)) (λ p. omega (arith, p.1, who)) at
    where
      nodes : l.node ≡ m.node
      nodes = home_once T l.who l.node m.node sound (is.only l (q, slice_get_within plan.lanes q l e, get_is plan.lanes q l l e)).1 (subst (λ (t : ℕ). IsHome T t m.node) (sym who) (is.only m (r, slice_get_within plan.lanes r m f, get_is plan.lanes r m m f)).1)

  one_rank : (q r : ℕ) (l m : Lane) → slice_get plan.lanes q ≡ Some l → slice_get plan.lanes r ≡ Some m → l.who ≡ m.who → q ≡ r
  one_rank q r l m e f who = ⊎_elim (λ a. absurd (apart q r l m e f who a)) (λ ge. ⊎_elim (λ b. absurd (apart r q m l f e (sym who) b)) (λ le. omega (arith, ge, le)) (cases_lt r q)) (cases_lt q r)

  pub has_one_rank : HasOneRank plan
  has_one_rank = λ t q r a b. one_rank q r a.lane b.lane a.at_rank b.at_rank (a.of ∙ sym b.of)
