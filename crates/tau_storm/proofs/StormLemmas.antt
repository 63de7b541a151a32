-- What a visitor tells of the ends that it was shown, and what is told of a storm and of a trial.
use Rattle.std.proofs.Common.{◌≡◌, ℕ, ◌+◌, List, [], ◌∷◌, ◌++◌, append-nil, append_assoc, add-one, refl, sym, ◌∙◌, subst, arith, Option, Some, None, All}
use Rattle.std.specs.Prelude.{slice_get}
use Rattle.std.proofs.lemmas.List.Elements.{All-push}
use Rattle.tau_points.proofs.Membership.{Contains-head, Contains-none}
use Rattle.tau_tree.specs.declared.programs.Program.{Program}
use Rattle.tau_faults.specs.declared.setting.Setting.{Setting}
use Rattle.tau_faults.specs.Ends.{End, AreEnds}
use Rattle.tau_faults.specs.Visits as visits
use Rattle.tau_faults.specs.Visits.{Visited, HasSeenAll}
use Rattle.tau_faults.specs.Inner.Walking.{HasSeen}
use Rattle.tau_faults.proofs.SeenLemmas.{seen_then}
use Rattle.tau_storm.specs.declared.outcomes.Outcome.{Outcome}
use Rattle.tau_storm.specs.declared.storms.Told.{Told}
use Rattle.tau_storm.specs.declared.storms.Tried.{Tried}
use Rattle.tau_storm.specs.declared.trials.Trial.{Trial}
use Rattle.tau_storm.specs.declared.trials.TrialTold.{TrialTold}
use Rattle.tau_storm.specs.Seeds.{seed_from, AreEndsOfSeeds, more}
use Rattle.tau_storm.specs.Outcomes.{AreOutcomes, AreTotals}
use Rattle.tau_storm.specs.Order.{AreOrdered}
use Rattle.tau_storm.specs.Tables.{Tally, IsTable}
use Rattle.tau_storm.specs.Claims.{Holds, AreBroken, no_end, holds, breaks, IsTried}
use Rattle.tau_storm.specs.Inner.Telling.{TellsEnds, TellsSeeds}
use Rattle.tau_storm.specs.Inner.Claiming.{IsTrial, TellsTrial, IsFirstOf}
use Rattle.tau_storm.specs.Storms.{HasOutcomes, HasTried}
use Rattle.tau_storm.proofs.OneStorm.{push_some}

-- the ends of one seed more were shown
pub seen_next : {V : Type 0} (visits : V → End → V → Type 0) (S : Setting) (O P : Program) (seed n at : ℕ) (u v w : V) → P ≡ O → at ≡ seed_from seed n → HasSeen visits (AreEndsOfSeeds S O seed n) u v → HasSeenAll visits S at P v w
    → HasSeen visits (AreEndsOfSeeds S O seed (n + 1)) u w
seen_next visits S O P seed n at u v w same is before seen =
    let first : AreEnds S at O seen.ends = subst (λ (Q : Program). AreEnds S at Q seen.ends) same seen.are in
    let here : AreEnds S (seed_from seed n) O seen.ends = subst (λ (k : ℕ). AreEnds S k O seen.ends) is first in
    seen_then visits (AreEndsOfSeeds S O seed n) (AreEnds S (seed_from seed n) O) (AreEndsOfSeeds S O seed (n + 1)) u v w before (record { ends = seen.ends; are = here; visited = seen.visited })
    (λ xs ys a b. subst (λ (k : ℕ). AreEndsOfSeeds S O seed k (xs ++ ys)) (sym (add-one n)) (more a b))

-- each visit adds its end to those that are told
module _ {V : Type 0} (Tells : List End → V → Type 0) (shows : V → End → V → Type 0) (adds : (old new : V) (e : End) (ends : List End) → shows old e new → Tells ends old → Tells (ends ++ e ∷ []) new) where
  tells_all : (ends : List End) (old new : V) → Visited shows old ends new → Tells [] old → Tells ends new
  tells_all ends old new visits.none is = is
  tells_all ends old new (visits.more {w = w} {e = e} {ends = es} seen one) is = adds w new e es one (tells_all es old w seen is)

  pub tells_seen : (S : Setting) (O : Program) (seed n : ℕ) (old new : V) → Tells [] old → HasSeen shows (AreEndsOfSeeds S O seed n) old new → TellsSeeds Tells S O seed n new
  tells_seen S O seed n old new is seen = record { ends = seen.ends; are = seen.are; tells = tells_all seen.ends old new seen.visited is }

-- what is told of the ends is told in other words
pub tells_weaker : {V W : Type 0} (Tells : List End → V → Type 0) (Says : List End → W → Type 0) (S : Setting) (O : Program) (seed n : ℕ) (v : V) (w : W) → ((ends : List End) → Tells ends v → Says ends w) → TellsSeeds Tells S O seed n v → TellsSeeds Says S O seed n w
tells_weaker Tells Says S O seed n v w says told = record { ends = told.ends; are = told.are; tells = says told.ends told.tells }

-- what a storm comes to
pub told_outcomes : (S : Setting) (O : Program) (seed seeds : ℕ) (t : Told) → TellsSeeds TellsEnds S O seed seeds t → HasOutcomes S O seed seeds t.outcomes t.totals
told_outcomes S O seed seeds t told = record { ends = told.ends; are = told.are; outcomes_are = told.tells.0; totals_are = told.tells.1 }

pub outcomes_told : (S : Setting) (O : Program) (seed seeds : ℕ) (t : Told) → HasOutcomes S O seed seeds t.outcomes t.totals → TellsSeeds TellsEnds S O seed seeds t
outcomes_told S O seed seeds t has = record { ends = has.ends; are = has.are; tells = (has.outcomes_are, has.totals_are) }

-- a claim that is broken at no end holds at each
none_broken : (behaviour : ℕ) (ends broken : List End) → AreBroken behaviour ends broken → broken ≡ [] → All (Holds behaviour) ends
none_broken behaviour ends broken no_end empty = λ k d l. absurd (omega (arith, l))
none_broken behaviour ends broken (holds {e = e} {ends = es} are is) empty = All-push (Holds behaviour) es e (none_broken behaviour es broken are empty) is
none_broken behaviour ends broken (breaks {e = e} {broken = bs} are broke) empty = absurd (push_some bs e empty)

-- ends with no outcome are none
no_ends : (ends : List End) → AreOrdered ends [] → ends ≡ []
no_ends [] is = refl
no_ends (e ∷ ends) is =
    let there = is.are.whole e (Contains-head e ends) in
    absurd (Contains-none there.0 there.1)

tried_of : (behaviour : ℕ) (ends broken : List End) (first : Option Outcome) → AreBroken behaviour ends broken → IsFirstOf broken first → IsTried behaviour ends first
tried_of behaviour ends broken None are is = none_broken behaviour ends broken are (no_ends broken is)
tried_of behaviour ends broken (Some first) are is = record { broken = broken; broken_are = are; others = is.0; outcomes_are = is.1 }

-- those of some ends, and of others behind them, at which a claim is broken
broken_append : (behaviour : ℕ) (front back us vs : List End) → AreBroken behaviour front us → AreBroken behaviour back vs → AreBroken behaviour (front ++ back) (us ++ vs)
broken_append behaviour front back us vs a no_end =
    subst (λ (l : List End). AreBroken behaviour (front ++ []) l) (sym (append-nil us)) (subst (λ (l : List End). AreBroken behaviour l us) (sym (append-nil front)) a)
broken_append behaviour front back us vs a (holds {e = e} {ends = es} b is) =
    subst (λ (l : List End). AreBroken behaviour l (us ++ vs)) (append_assoc front es (e ∷ [])) (holds (broken_append behaviour front es us vs a b) is)
broken_append behaviour front back us vs a (breaks {e = e} {ends = es} {broken = ws} b broke) =
    subst (λ (l : List End). AreBroken behaviour l (us ++ (ws ++ e ∷ []))) (append_assoc front es (e ∷ []))
    (subst (λ (l : List End). AreBroken behaviour ((front ++ es) ++ e ∷ []) l) (append_assoc us ws (e ∷ [])) (breaks (broken_append behaviour front es us ws a b) broke))

-- what a trial comes to
pub trial_tried : (behaviour : ℕ) (ends : List End) (trial : Trial) (t : Told) (first : Option Outcome) → IsTrial behaviour ends trial → ((es : List End) → IsTable es trial.all → TellsEnds es t) → ((es : List End) → IsTable es trial.broken → IsFirstOf es first)
    → TellsEnds ends t × IsTried behaviour ends first
trial_tried behaviour ends trial t first is all broken = (all ends is.all, tried_of behaviour ends is.broken first is.broken_are (broken is.broken is.broken_table))

pub told_tried : (S : Setting) (O : Program) (seed seeds behaviour : ℕ) (trial : Trial) (t : Tried) → TellsSeeds (IsTrial behaviour) S O seed seeds trial → ((ends : List End) → IsTrial behaviour ends trial → TellsEnds ends t.told × IsTried behaviour ends t.broken)
    → HasTried S O seed seeds behaviour t.told.outcomes t.told.totals t.broken
told_tried S O seed seeds behaviour trial t told says =
    let is = says told.ends told.tells in
    record { ends = told.ends; are = told.are; outcomes_are = is.0.0; totals_are = is.0.1; tried = is.1 }

-- a trial with an end more, at which the claim holds, or is broken
module _ (behaviour : ℕ) (ends : List End) (e : End) (old new : Trial) (same : new.behaviour ≡ old.behaviour) (all : (es : List End) → IsTable es old.all → IsTable (es ++ e ∷ []) new.all) (is : IsTrial behaviour ends old) where
  pub trial_holds : new.broken ≡ old.broken → Holds old.behaviour e → IsTrial behaviour (ends ++ e ∷ []) new
  trial_holds kept h = record {
    number = same ∙ is.number;
    all = all ends is.all;
    broken = is.broken;
    broken_are = holds is.broken_are (subst (λ (b : ℕ). Holds b e) is.number h);
    broken_table = subst (λ (t : Tally). IsTable is.broken t) (sym kept) is.broken_table;
  }

  pub trial_breaks : ((es : List End) → IsTable es old.broken → IsTable (es ++ e ∷ []) new.broken) → (¬ Holds old.behaviour e) → IsTrial behaviour (ends ++ e ∷ []) new
  trial_breaks breaking broke = record {
    number = same ∙ is.number;
    all = all ends is.all;
    broken = is.broken ++ e ∷ [];
    broken_are = breaks is.broken_are (subst (λ (b : ℕ). ¬ Holds b e) is.number broke);
    broken_table = breaking is.broken is.broken_table;
  }

-- the first of the outcomes
pub first_is : (ends : List End) (outcomes : List Outcome) (first : Option Outcome) → AreOrdered ends outcomes → first ≡ slice_get outcomes 0 → IsFirstOf ends first
first_is ends [] first are is = subst (IsFirstOf ends) (sym is) are
first_is ends (o ∷ others) first are is = subst (IsFirstOf ends) (sym is) (others, are)

-- what is told of a trial
pub trial_told : (behaviour : ℕ) (ends : List End) (trial : Trial) (t : TrialTold) → IsTrial behaviour ends trial → ((es : List End) → IsTable es trial.all → TellsEnds es t.all) → ((es : List End) → IsTable es trial.broken → TellsEnds es t.broken) → TellsTrial behaviour ends t
trial_told behaviour ends trial t is all broken = record { all = all ends is.all; broken = is.broken; broken_are = is.broken_are; broken_told = broken is.broken is.broken_table }

-- a trial to which that is added which is told of ends behind its own
pub trial_joined : (behaviour : ℕ) (front back : List End) (old new : Trial) (t : TrialTold) → new.behaviour ≡ old.behaviour
    → ((es more : List End) → IsTable es old.all → AreOutcomes more t.all.outcomes → AreTotals more t.all.totals → IsTable (es ++ more) new.all)
    → ((es more : List End) → IsTable es old.broken → AreOutcomes more t.broken.outcomes → AreTotals more t.broken.totals → IsTable (es ++ more) new.broken)
    → IsTrial behaviour front old → TellsTrial behaviour back t → IsTrial behaviour (front ++ back) new
trial_joined behaviour front back old new t same all broken is told = record {
  number = same ∙ is.number;
  all = all front back is.all told.all.0.are told.all.1;
  broken = is.broken ++ told.broken;
  broken_are = broken_append behaviour front back is.broken told.broken is.broken_are told.broken_are;
  broken_table = broken is.broken told.broken is.broken_table told.broken_told.0.are told.broken_told.1;
}
