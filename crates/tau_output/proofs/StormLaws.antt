-- What `storm` writes for an input is determined.
use Rattle.std.proofs.Common.{◌≡◌, ◌≢◌, ◌≤◌, ℕ, zero, suc, List, [], ◌∷◌, length, Some, All, AllPairs, refl, sym, ap, subst, ◌∙◌, arith}
use Rattle.std.specs.Prelude.{slice_get, Contains}
use Rattle.std.proofs.lemmas.List.Elements.{All-contains}
use Rattle.tau_tree.specs.declared.programs.Program.{Program}
use Rattle.tau_tree.specs.Sound.{Sound, behaviour_names}
use Rattle.tau_trace.proofs.Lists.{same_some}
use Rattle.tau_text.proofs.FaultLemmas.{program_unique}
use Rattle.tau_command.specs.declared.storms.StormNumbers.{StormNumbers}
use Rattle.tau_command.specs.declared.storms.Question.{Question}
use Rattle.tau_command.specs.declared.storms.Question.TheVariants.{Outcomes, Claim, Show}
use Rattle.tau_faults.specs.Ends.{End as RunEnd}
use Rattle.tau_storm.specs.declared.outcomes.Outcome.{Outcome}
use Rattle.tau_storm.specs.declared.totals.Totals.{Totals}
use Rattle.tau_storm.specs.Seeds.{AreEndsOfSeeds}
use Rattle.tau_storm.specs.Outcomes.{HasLines, IsSimplest, AreTotals}
use Rattle.tau_storm.specs.Order.{AreOrdered}
use Rattle.tau_storm.specs.Lines.{storm_text}
use Rattle.tau_storm.specs.Claims.{Holds}
use Rattle.tau_storm.proofs.OneOutcome.{outcomes_once, simplest_once}
use Rattle.tau_storm.proofs.OneStorm.{contains_at, seeds_once, totals_once, broken_once, broken_among}
use Rattle.tau_output.specs.declared.outputs.End.{End}
use Rattle.tau_output.specs.declared.outputs.End.TheVariants.{Done, Stopped, Bad, Broken, Claimed}
use Rattle.tau_output.specs.Asking.{IsProgramWithout}
use Rattle.tau_output.specs.Storming.{setting_of, HasOutcomes, IsTextOf, ShowsOutcome, TriesClaim, IsKept, IsBroken, IsClaimEnd, StormsAs, LacksOutcome}
use Rattle.tau_output.proofs.SerialLemmas.{text_of_same}

-- two tellings of the storm of an input tell the same
record IsSameStorm {numbers : StormNumbers} {bytes : List ℕ} (v w : HasOutcomes numbers bytes) : Type 0 where
  pub program : v.storm.program ≡ w.storm.program
  pub ends : v.storm.ends ≡ w.storm.ends
  pub outcomes : v.outcomes ≡ w.outcomes
  pub totals : v.totals ≡ w.totals

same_storm : (numbers : StormNumbers) (bytes : List ℕ) (v w : HasOutcomes numbers bytes) → IsSameStorm v w
same_storm numbers bytes v w =
    let program = (program_unique bytes).one_meaning v.storm.program w.storm.program v.storm.spelled w.storm.spelled in
    let there = subst (λ (P : Program). AreEndsOfSeeds (setting_of numbers) P numbers.seed numbers.seeds w.storm.ends) (sym program) w.storm.are in
    let ends = seeds_once (setting_of numbers) v.storm.program numbers.seed numbers.seeds v.storm.ends w.storm.ends v.storm.are there in
    record {
      program = program;
      ends = ends;
      outcomes = outcomes_once v.storm.ends v.outcomes w.outcomes v.outcomes_are (subst (λ (es : List RunEnd). AreOrdered es w.outcomes) (sym ends) w.outcomes_are);
      totals = totals_once v.storm.ends v.totals w.totals v.totals_are (subst (λ (es : List RunEnd). AreTotals es w.totals) (sym ends) w.totals_are);
    }

-- nothing stands behind the end of a list
none_behind : {A : Type 0} (xs : List A) (k : ℕ) (x : A) → length xs ≤ k → slice_get xs k ≡ Some x → ⊥
none_behind [] k x l e = absurd (cc)
none_behind (y ∷ ys) zero x l e = absurd (omega arith)
none_behind (y ∷ ys) (suc k) x l e = none_behind ys k x (omega arith) e

-- a behaviour that was tried is one of the program
pub claim_is_there : (numbers : StormNumbers) (name bytes : List ℕ) (end : End) (text : List ℕ) → TriesClaim numbers name bytes end text → IsProgramWithout name bytes → ⊥
claim_is_there numbers name bytes end text w n =
    let same = (program_unique bytes).one_meaning w.has.storm.program n.program w.has.storm.spelled n.spelled in
    n.none (subst (λ (P : Program). Contains (behaviour_names P) name) same (contains_at (behaviour_names w.has.storm.program) w.behaviour name w.named))

-- and an outcome that was shown is one of the storm
pub outcome_is_there : (numbers : StormNumbers) (outcome : ℕ) (bytes : List ℕ) (end : End) (text : List ℕ) → ShowsOutcome numbers outcome bytes end text → LacksOutcome numbers outcome bytes → ⊥
outcome_is_there numbers outcome bytes end text w n =
    let same = same_storm numbers bytes w.has n.has in
    none_behind n.has.outcomes outcome w.shown n.none (subst (λ (os : List Outcome). slice_get os outcome ≡ Some w.shown) same.outcomes w.stands)

-- an end has one run text
shown_once : (steps : ℕ) (e d : RunEnd) (text other : List ℕ) → e ≡ d → IsTextOf steps e text → IsTextOf steps d other → text ≡ other
shown_once steps e d text other same v w =
    let program : v.runs.program ≡ w.runs.program = v.program ∙ ap (λ (x : RunEnd). x.program) same ∙ sym w.program in
    let run : v.runs.run ≡ w.runs.run = v.run ∙ ap (λ (x : RunEnd). x.run) same ∙ sym w.run in
    text_of_same v.runs.program w.runs.program v.runs.run w.runs.run text other program run v.runs.is_text w.runs.is_text

-- behaviours have names of their own
named_once : (P : Program) → Sound P → (name : List ℕ) (b c : ℕ) → slice_get (behaviour_names P) b ≡ Some name → slice_get (behaviour_names P) c ≡ Some name → b ≡ c
named_once P sound name b c one two = go (behaviour_names P) sound.behaviours_distinct b c one two where
  later : (x : List ℕ) (xs : List (List ℕ)) → AllPairs (λ v w. v ≢ w) (x ∷ xs) → AllPairs (λ v w. v ≢ w) xs
  later x xs apart i j d l m = apart (suc i) (suc j) d (omega arith) (omega arith)

  apart_first : (x y : List ℕ) (xs : List (List ℕ)) (k : ℕ) → AllPairs (λ v w. v ≢ w) (x ∷ xs) → slice_get xs k ≡ Some y → x ≢ y
  apart_first x y xs k apart at same =
      let h = contains_at xs k y at in
      apart 0 (suc h.0) y (omega arith) (omega (arith, h.1)) (same ∙ sym h.2)

  go : (xs : List (List ℕ)) → AllPairs (λ v w. v ≢ w) xs → (i j : ℕ) → slice_get xs i ≡ Some name → slice_get xs j ≡ Some name → i ≡ j
  go [] apart i j e f = absurd (cc)
  go (x ∷ xs) apart zero zero e f = refl
  go (x ∷ xs) apart zero (suc j) e f = absurd (apart_first x name xs j apart f (same_some e))
  go (x ∷ xs) apart (suc i) zero e f = absurd (apart_first x name xs i apart e (same_some f))
  go (x ∷ xs) apart (suc i) (suc j) e f = ap suc (go xs (later x xs apart) i j e f)

-- a claim that holds at each end is broken at none
never_both : (numbers : StormNumbers) (behaviour : ℕ) (ends : List RunEnd) (outcomes : List Outcome) (totals : Totals) (text other : List ℕ) → IsKept numbers.seeds behaviour ends outcomes totals text → IsBroken numbers.steps behaviour ends other → ⊥
never_both numbers behaviour ends outcomes totals text other v w =
    let among = broken_among behaviour ends w.broken w.simplest w.broken_are w.is_simplest in
    among.1 (All-contains (Holds behaviour) ends w.simplest v.holds among.0)

claim_once : (numbers : StormNumbers) (behaviour : ℕ) (ends : List RunEnd) (outcomes : List Outcome) (totals : Totals) (end another : End) (text other : List ℕ) → IsClaimEnd numbers behaviour ends outcomes totals end text
    → IsClaimEnd numbers behaviour ends outcomes totals another other → (end ≡ another) × (text ≡ other)
claim_once numbers behaviour ends outcomes totals Done Done text other v w = (refl, v.is_text ∙ sym w.is_text)
claim_once numbers behaviour ends outcomes totals Done Claimed text other v w = absurd (never_both numbers behaviour ends outcomes totals text other v w)
claim_once numbers behaviour ends outcomes totals Claimed Done text other v w = absurd (never_both numbers behaviour ends outcomes totals other text w v)
claim_once numbers behaviour ends outcomes totals Claimed Claimed text other v w =
    let broken = broken_once behaviour ends v.broken w.broken v.broken_are w.broken_are in
    let all : (v.first ∷ v.others) ≡ (w.first ∷ w.others) = outcomes_once v.broken (v.first ∷ v.others) (w.first ∷ w.others) v.outcomes_are (subst (λ (es : List RunEnd). AreOrdered es (w.first ∷ w.others)) (sym broken) w.outcomes_are) in
    let first : v.first ≡ w.first = cc in
    let there = subst (λ (o : Outcome). IsSimplest (HasLines o.lines) v.broken w.simplest) (sym first) (subst (λ (es : List RunEnd). IsSimplest (HasLines w.first.lines) es w.simplest) (sym broken) w.is_simplest) in
    let simplest = simplest_once (HasLines v.first.lines) v.broken v.simplest w.simplest v.is_simplest there in
    (refl, shown_once numbers.steps v.simplest w.simplest text other simplest v.is_text w.is_text)
claim_once numbers behaviour ends outcomes totals Done Stopped text other v w = absurd w
claim_once numbers behaviour ends outcomes totals Done (Bad k) text other v w = absurd w
claim_once numbers behaviour ends outcomes totals Done (Broken c p f) text other v w = absurd w
claim_once numbers behaviour ends outcomes totals Claimed Stopped text other v w = absurd w
claim_once numbers behaviour ends outcomes totals Claimed (Bad k) text other v w = absurd w
claim_once numbers behaviour ends outcomes totals Claimed (Broken c p f) text other v w = absurd w
claim_once numbers behaviour ends outcomes totals Stopped another text other v w = absurd v
claim_once numbers behaviour ends outcomes totals (Bad k) another text other v w = absurd v
claim_once numbers behaviour ends outcomes totals (Broken c p f) another text other v w = absurd v

pub storms_once : (numbers : StormNumbers) (question : Question) (bytes : List ℕ) (end another : End) (text other : List ℕ) → StormsAs numbers question bytes end text → StormsAs numbers question bytes another other
    → (end ≡ another) × (text ≡ other)
storms_once numbers Outcomes bytes end another text other v w =
    let same = same_storm numbers bytes v.has w.has in
    (v.ends ∙ sym w.ends, v.is_text ∙ (λ i. storm_text numbers.seeds (same.totals i) (same.outcomes i)) ∙ sym w.is_text)
storms_once numbers (Show outcome) bytes end another text other v w =
    let same = same_storm numbers bytes v.has w.has in
    let shown : v.shown ≡ w.shown = same_some (sym v.stands ∙ ap (λ (os : List Outcome). slice_get os outcome) same.outcomes ∙ w.stands) in
    let there = subst (λ (o : Outcome). IsSimplest (HasLines o.lines) v.has.storm.ends w.simplest) (sym shown) (subst (λ (es : List RunEnd). IsSimplest (HasLines w.shown.lines) es w.simplest) (sym same.ends) w.is_simplest) in
    let simplest = simplest_once (HasLines v.shown.lines) v.has.storm.ends v.simplest w.simplest v.is_simplest there in
    (v.ends ∙ sym w.ends, shown_once numbers.steps v.simplest w.simplest text other simplest v.is_text w.is_text)
storms_once numbers (Claim name) bytes end another text other v w =
    let same = same_storm numbers bytes v.has w.has in
    let named = subst (λ (P : Program). slice_get (behaviour_names P) w.behaviour ≡ Some name) (sym same.program) w.named in
    let behaviour = named_once v.has.storm.program v.has.storm.sound name v.behaviour w.behaviour v.named named in
    let one = subst (λ (b : ℕ). IsClaimEnd numbers b w.has.storm.ends w.has.outcomes w.has.totals another other) (sym behaviour) w.tried in
    let two = subst (λ (es : List RunEnd). IsClaimEnd numbers v.behaviour es w.has.outcomes w.has.totals another other) (sym same.ends) one in
    let three = subst (λ (os : List Outcome). IsClaimEnd numbers v.behaviour v.has.storm.ends os w.has.totals another other) (sym same.outcomes) two in
    let four = subst (λ (t : Totals). IsClaimEnd numbers v.behaviour v.has.storm.ends v.has.outcomes t another other) (sym same.totals) three in
    claim_once numbers v.behaviour v.has.storm.ends v.has.outcomes v.has.totals end another text other v.tried four
