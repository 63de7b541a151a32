-- Views at the opening.
use Rattle.std.proofs.Common.{◌≡◌, ◌↔◌, ⊎_elim, ℕ, ◌<◌, Bool, true, false, ltb, cond, length, IsTrue, Option, Some, None, refl, sym, ap, ◌∙◌, subst, arith}
use Rattle.std.proofs.lemmas.Bool.Decides.{nat_tests}
use Rattle.std.proofs.lemmas.Bool.{cases_eq}
use Rattle.tau_history.specs.Timeline.{opening, newborn}
use Rattle.tau_points.specs.declared.point.Point.{Point}
use Rattle.tau_points.proofs.Reach.{least}
use Rattle.tau_view.specs.Rules.{nothing, noted, noted_in}
use Rattle.tau_trace.specs.Run.{Run, starts}
use Rattle.tau_trace.specs.Histories.{history}
use Rattle.tau_trace.proofs.Counted.{history-zero}
use Rattle.tau_trace.proofs.Lists.{same_some}
use Rattle.tau_trace.specs.Turns.{HasOpenTurn}
use Rattle.tau_trace.proofs.Once.{posts_have_no_origin}
use Rattle.tau_past.specs.Carried.{Pending, SentWith}
use Rattle.tau_past.specs.Heard.{Needs, OriginOf, Heard, HeardBy}
use Rattle.tau_past.proofs.Expected.{nothing_at_first, posts_carry_nothing}
use Rattle.tau_past.proofs.PendingLemmas.{pending_turn}
use Rattle.tau_views.specs.Views.{IsPresent, is_owner, by_step, by_birth, TakesIn}
use Rattle.tau_views.specs.Laws.{StartsOpenAlone, PostsHaveHeardNothing}
use Rattle.tau_views.proofs.Facts.{Told, absent, present, zero_bound, view_of}
use Rattle.tau_views.proofs.OwnSteps.{noted-same, noted-other}

-- in a set without places the owner alone is present
empty_present : (T : Run) (H : ℕ → Type 0) (owner : Option ℕ) (u : ℕ) → ((j : ℕ) → ¬ H j) → IsPresent T H owner u → owner ≡ Some u
empty_present T H owner u none (is_owner e) = e
empty_present T H owner u none (by_step {j = j} h a) = absurd (none j h)
empty_present T H owner u none (by_birth {j = j} h n) = absurd (none j h)

-- and there is no edge
empty_edge : (T : Run) (H : ℕ → Type 0) (p q : Point) → ((j : ℕ) → ¬ H j) → IsTrue false ↔ TakesIn T H p q
empty_edge T H p q none = (λ h. absurd (cc), λ t. absurd (none t.place t.held))

-- the history with which a start opens
start_history : (T : Run) (t : ℕ) → t < starts T → history T t 0 ≡ opening
start_history T t lt = history-zero T t ∙ by (ltb t (starts T)) refl where
  by : (b : Bool) → ltb t (starts T) ≡ b → cond b opening newborn ≡ opening
  by true e = refl
  by false e = absurd (grind (arith, nat_tests))

-- at the opening a start has heard of itself alone
pub starts_open_alone : StartsOpenAlone
starts_open_alone T t w lt =
    view_of T (Heard T t 0) (Some t) (Pending T t 0) (noted t opening nothing)
    (record { told = told; edge = λ p q. empty_edge T (Heard T t 0) p q none })
    (λ q. (λ h. absurd (cc), λ p. absurd (no_turn (pending_turn T t 0 q p)))) where
      none : (j : ℕ) → ¬ Heard T t 0 j
      none j = nothing_at_first T t j w lt

      no_turn : ¬ HasOpenTurn T t 0
      no_turn turn = omega (arith, turn.1.1.before)

      told : (u : ℕ) → Told T (Heard T t 0) (Some t) u (noted_in t opening nothing.history u)
      told u = ⊎_elim
          (λ (i : u ≡ t). subst (λ z. Told T (Heard T t 0) (Some t) z (noted_in t opening nothing.history z)) (sym i) own)
          (λ ne. absent (noted-other u t opening nothing.history ne) (λ p. ne (sym (same_some (empty_present T (Heard T t 0) (Some t) u none p)))))
          (cases_eq u t) where
            own : Told T (Heard T t 0) (Some t) t (noted_in t opening nothing.history t)
            own = present {a = 0} (noted-same t opening nothing.history ∙ ap Some (sym (start_history T t lt))) (is_owner refl) (zero_bound T (Heard T t 0) t (λ j h a. none j h))

-- a post has heard nothing
post_heard_nothing : (T : Run) (m : ℕ) → m < length T.opening.targets → (j : ℕ) → ¬ HeardBy T m j
post_heard_nothing T m lt = least (Needs T) (OriginOf T m) (λ i. ⊥) (record { starts = λ i o. posts_have_no_origin T i o.by m lt o.origin; follows = λ x y h n. h })

-- the view of a post is empty
pub posts_have_heard_nothing : PostsHaveHeardNothing
posts_have_heard_nothing T m lt =
    view_of T (HeardBy T m) None (SentWith T m) nothing
    (record { told = told; edge = λ p q. empty_edge T (HeardBy T m) p q none })
    (λ q. (λ h. absurd (cc), λ s. absurd (posts_carry_nothing T m q lt s))) where
      none : (j : ℕ) → ¬ HeardBy T m j
      none = post_heard_nothing T m lt

      told : (u : ℕ) → Told T (HeardBy T m) None u None
      told u = absent refl (λ p. let e : None ≡ Some u = empty_present T (HeardBy T m) None u none p in cc)
