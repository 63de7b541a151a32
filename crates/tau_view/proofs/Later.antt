-- Histories that precede those of a view after a call.
use Rattle.std.proofs.Common.{◌≡◌, ℕ, refl, Bool, true, false, Option, Some, None, sym, ap, ap₂, ◌∙◌, arith, eqb, cond}
use Rattle.std.proofs.lemmas.Bool.Decides.{nat_tests}
use Rattle.tau_history.specs.Timeline.{Timeline}
use Rattle.tau_history.specs.Order.{here, ranks_before, later_of}
use Rattle.tau_history.proofs.Before.{later_preceded}
use Rattle.tau_view.specs.Rules.{later_history}
use Rattle.tau_view.specs.Held.{Histories, AllPrecede, PrecedesIn, AllComparable}
use Rattle.tau_view.specs.Laws.{MayNote}

if_true : {A : Type 0} (b : Bool) (x y : A) → b ≡ true → cond b x y ≡ x
if_true true x y e = refl
if_true false x y e = cc

if_false : {A : Type 0} (b : Bool) (x y : A) → b ≡ false → cond b x y ≡ y
if_false true x y e = cc
if_false false x y e = refl

-- which of two histories is the later one
pub later-then : (a b : Timeline) → ranks_before a b ≡ true → later_of a b ≡ b
later-then a b e = if_true (ranks_before a b) b a e

pub later-else : (a b : Timeline) → ranks_before a b ≡ false → later_of a b ≡ a
later-else a b e = if_false (ranks_before a b) b a e

-- each history precedes the one of a merge
pub left_precedes : (hs ks : Histories) → AllComparable hs ks → AllPrecede hs (λ u. later_history (hs u) (ks u))
left_precedes hs ks c u h e = by_other (ks u) refl where
  by_other : (o : Option Timeline) → ks u ≡ o → PrecedesIn (λ w. later_history (hs w) (ks w)) u h
  by_other None f = record { later = h; is = ap₂ later_history e f; precedes = here }
  by_other (Some k) f = record { later = later_of h k; is = ap₂ later_history e f; precedes = (later_preceded h k (c u h k e f)).0 }

pub right_precedes : (hs ks : Histories) → AllComparable hs ks → AllPrecede ks (λ u. later_history (hs u) (ks u))
right_precedes hs ks c u k f = by_other (hs u) refl where
  by_other : (o : Option Timeline) → hs u ≡ o → PrecedesIn (λ w. later_history (hs w) (ks w)) u k
  by_other None e = record { later = k; is = ap₂ later_history e f; precedes = here }
  by_other (Some h) e = record { later = later_of h k; is = ap₂ later_history e f; precedes = (later_preceded h k (c u h k e f)).1 }

-- each history precedes the one of its transactor once a later one is noted
pub noted_precedes : (who : ℕ) (k : Timeline) (hs : Histories) → MayNote who k hs → AllPrecede hs (λ u. cond (eqb u who) (Some k) (hs u))
noted_precedes who k hs may u h e = by_test (eqb u who) refl where
  by_test : (b : Bool) → eqb u who ≡ b → PrecedesIn (λ w. cond (eqb w who) (Some k) (hs w)) u h
  by_test true t = record { later = k; is = if_true _ (Some k) (hs u) t; precedes = may h (ap hs (sym (grind (arith, nat_tests))) ∙ e) }
  by_test false t = record { later = h; is = if_false _ (Some k) (hs u) t ∙ e; precedes = here }
