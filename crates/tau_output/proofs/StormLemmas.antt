-- What the command `storm` writes: the ends of the seeds, and the run texts of ends.
use Rattle.std.proofs.Common.{◌≡◌, ◌≢◌, ◌⊎◌, inl, inr, ⊎_elim, Bool, ℕ, zero, suc, ◌<◌, ◌≤◌, ◌+◌, ◌∷◌, List, [], length, get_or, All, Option, Some, None, IfSome, refl, sym, ap, ◌∙◌, subst, arith}
use Rattle.std.specs.Prelude.{slice_get, Contains, option_map}
use Rattle.std.proofs.lemmas.Option.{slice_get-map, slice_get-get_or}
use Rattle.std.proofs.lemmas.List.Elements.{All-contains, All-map, All-weaker, All-contains_itself, Contains-append_left, Contains-append_right, Contains-append_cases}
use Rattle.tau_points.proofs.Membership.{Contains-head}
use Rattle.tau_sexpr.specs.Printing.{printed}
use Rattle.tau_tree.specs.declared.entries.Entry.{Entry}
use Rattle.tau_tree.specs.declared.programs.Program.{Program}
use Rattle.tau_tree.specs.Behaviour.{NamedCode}
use Rattle.tau_tree.specs.Sound.{Sound, behaviour_names}
use Rattle.tau_forms.specs.Printed as forms
use Rattle.tau_trace.specs.Run.{Run}
use Rattle.tau_trace.proofs.Lists.{same_some}
use Rattle.tau_text.specs.Meaning.{IsProgram}
use Rattle.tau_command.specs.declared.storms.StormNumbers.{StormNumbers}
use Rattle.tau_script.proofs.Existing.{determined}
use Rattle.tau_script.proofs.Same.{same_script}
use Rattle.tau_legal.specs.Ends.{EndsAt}
use Rattle.tau_legal.proofs.TraceLemmas.{legal_safe}
use Rattle.tau_book.specs.SerialRun.{IsSerialRun}
use Rattle.tau_book.proofs.OneRun.{one_serial_run}
use Rattle.tau_faults.specs.declared.setting.Setting.{Setting}
use Rattle.tau_faults.specs.Ends.{End as RunEnd, IsEnd, itself}
use Rattle.tau_faults.specs.Visits.{IsSetting}
use Rattle.tau_faults.proofs.Left.{left_first}
use Rattle.tau_faults.proofs.Listed.{IsOf, from_ends, listed}
use Rattle.tau_faults.proofs.EndRuns.{ends_run}
use Rattle.tau_storm.specs.declared.outcomes.Outcome.{Outcome}
use Rattle.tau_storm.specs.declared.totals.Totals.{Totals}
use Rattle.tau_storm.specs.Seeds.{seed_from, AreEndsOfSeeds, none, more}
use Rattle.tau_storm.specs.Outcomes.{IsSimplest, IsOutcome, HasLines, AreTotals}
use Rattle.tau_storm.specs.Order.{AreOrdered}
use Rattle.tau_storm.specs.Lines.{totals_form, storm_text}
use Rattle.tau_storm.specs.Claims.{IsFirstBroken}
use Rattle.tau_storm.specs.Storms as storms
use Rattle.tau_storm.specs.Storms.{HasTried}
use Rattle.tau_storm.proofs.OneStorm.{contains_at, broken_each}
use Rattle.tau_output.specs.declared.outputs.End.{End}
use Rattle.tau_output.specs.declared.outputs.End.TheVariants.{Done, Claimed}
use Rattle.tau_output.specs.Storming.{setting_of, IsRunOfStorm, HasEnds, HasOutcomes, IsTextOf, TellsOutcomes, ShowsOutcome, TriesClaim, LacksOutcome}
use Rattle.tau_output.specs.Runs.{RunsAs}
use Rattle.tau_output.specs.Inner.Storms.{IsSerialText}
use Rattle.tau_output.proofs.RunLemmas.{decided}

-- ---- the ends of so many seeds

abbrev IsWithinSeeds : Setting → Program → ℕ → ℕ → RunEnd → Type 0
IsWithinSeeds S O seed n e = (k : ℕ) × (k < n) × (e.seed ≡ seed_from seed k) × IsEnd O S e

-- each end in the list has one of the seeds
within_seeds : (S : Setting) (O : Program) (seed n : ℕ) (ends : List RunEnd) → AreEndsOfSeeds S O seed n ends → (e : RunEnd) → Contains ends e → IsWithinSeeds S O seed n e
within_seeds S O seed n ends none e h = absurd (omega (arith, h.1))
within_seeds S O seed n ends (more {n = m} {before = bs} {ends = es} before are) e h =
    ⊎_elim
    (λ old. let w = within_seeds S O seed m bs before e old in (w.0, omega (arith, w.1), w.2, w.3))
    (λ new.
    let is = All-contains (IsOf O S (seed_from seed m)) es e (from_ends O S (seed_from seed m) S.faults 0 [] O es are itself (left_first S.faults)) new in
    (m, omega arith, is.0, is.1))
    (Contains-append_cases bs es e h)

-- the number of a seed is one of those before, or the last one
before_or_last : (k m : ℕ) → k < suc m → (k < m) ⊎ (k ≡ m)
before_or_last zero zero l = inr refl
before_or_last zero (suc m) l = inl (omega arith)
before_or_last (suc k) zero l = absurd (omega (arith, l))
before_or_last (suc k) (suc m) l = ⊎_elim (λ lt. inl (omega (arith, lt))) (λ same. inr (ap suc same)) (before_or_last k m (omega (arith, l)))

-- and each end with one of them is in the list
in_seeds : (S : Setting) (O : Program) (seed n : ℕ) (ends : List RunEnd) → AreEndsOfSeeds S O seed n ends → (e : RunEnd) → IsWithinSeeds S O seed n e → Contains ends e
in_seeds S O seed n ends none e w = absurd (omega (arith, w.1))
in_seeds S O seed n ends (more {n = m} {before = bs} {ends = es} before are) e w =
    ⊎_elim
    (λ lt. Contains-append_left bs es e (in_seeds S O seed m bs before e (w.0, lt, w.2, w.3)))
    (λ same. Contains-append_right bs es e (listed S (seed_from seed m) one_serial_run determined O es are e (w.2 ∙ ap (seed_from seed) same, w.3)))
    (before_or_last w.0 m w.1)

-- ---- what the storm of a program has

-- the run of an end is a run as every other
run_of_storm : (numbers : StormNumbers) (P : Program) (e : RunEnd) → Sound P → IsSetting (setting_of numbers) → IsEnd P (setting_of numbers) e → IsRunOfStorm numbers P e
run_of_storm numbers P e sound setting is =
    let r = ends_run one_serial_run determined same_script legal_safe P (setting_of numbers) e sound setting.limit is in
    record { program = r.0; run = r.1; decided = decided e.program e.run r.1.legal }

abbrev has_ends : (numbers : StormNumbers) (bytes : List ℕ) (P : Program) (ends : List RunEnd) → IsProgram bytes P → Sound P → IsSetting (setting_of numbers) → AreEndsOfSeeds (setting_of numbers) P numbers.seed numbers.seeds ends → HasEnds numbers bytes
has_ends numbers bytes P ends spelled sound setting are =
    let S = setting_of numbers in
    record {
      program = P;
      spelled = spelled;
      sound = sound;
      ends = ends;
      are = are;
      all = λ e. (
        (λ h. let w = within_seeds S P numbers.seed numbers.seeds ends are e h in record { number = w.0; within = w.1; seed = w.2; is_end = w.3 }),
        (λ h. in_seeds S P numbers.seed numbers.seeds ends are e (h.number, h.within, h.seed, h.is_end)),
      );
      runs = All-weaker (Contains ends) (IsRunOfStorm numbers P) (λ e h. run_of_storm numbers P e sound setting (within_seeds S P numbers.seed numbers.seeds ends are e h).3) ends (All-contains_itself ends);
    }

abbrev has_outcomes : (numbers : StormNumbers) (bytes : List ℕ) (P : Program) (ends : List RunEnd) (outcomes : List Outcome) (totals : Totals) → IsProgram bytes P → Sound P → IsSetting (setting_of numbers)
    → AreEndsOfSeeds (setting_of numbers) P numbers.seed numbers.seeds ends → AreOrdered ends outcomes → AreTotals ends totals → HasOutcomes numbers bytes
has_outcomes numbers bytes P ends outcomes totals spelled sound setting are ordered counted = record {
  storm = has_ends numbers bytes P ends spelled sound setting are;
  outcomes = outcomes;
  outcomes_are = ordered;
  totals = totals;
  totals_are = counted;
}

-- ---- the run text of an end

-- the simplest of the ends is one of them
simplest_among : (ends : List RunEnd) (e : RunEnd) (Passes : RunEnd → Type 0) → IsSimplest Passes ends e → Contains ends e
simplest_among ends e Passes is = subst (λ (l : List RunEnd). Contains l e) (sym is.stands) (Contains-append_right is.front (e ∷ is.back) e (Contains-head e is.back))

-- an end whose program is one with this script, and whose run is the serial one with this seed
record IsMadeOf (numbers : StormNumbers) (P : Program) (seed : ℕ) (script : List Entry) (e : RunEnd) : Type 0 where
  seed_is : seed ≡ e.seed
  program_is : record P { script = script } ≡ e.program
  is_end : IsEnd P (setting_of numbers) e
  sound : Sound e.program

made_of : (numbers : StormNumbers) (P : Program) (ends : List RunEnd) (e : RunEnd) (seed : ℕ) (script : List Entry) → Sound P → IsSetting (setting_of numbers) → AreEndsOfSeeds (setting_of numbers) P numbers.seed numbers.seeds ends → Contains ends e
    → seed ≡ e.seed → script ≡ e.program.script → IsMadeOf numbers P seed script e
made_of numbers P ends e seed script sound setting are among seed_is script_is =
    let is = (within_seeds (setting_of numbers) P numbers.seed numbers.seeds ends are e among).3 in
    let r = (run_of_storm numbers P e sound setting is).program in
    record {
      seed_is = seed_is;
      program_is = ap (λ (s : List Entry). record P { script = s }) script_is ∙ sym r.parts;
      is_end = is;
      sound = r.sound;
    }

text_of : (numbers : StormNumbers) (P : Program) (e : RunEnd) (seed : ℕ) (script : List Entry) (text : List ℕ) → IsMadeOf numbers P seed script e → IsSerialText numbers seed (record P { script = script }) text → IsTextOf numbers.steps e text
text_of numbers P e seed script text m t =
    let same : IsSerialText numbers seed e.program text = subst (λ (Q : Program). IsSerialText numbers seed Q text) m.program_is t in
    let here : IsSerialText numbers e.seed e.program text = subst (λ (n : ℕ). IsSerialText numbers n e.program text) m.seed_is same in
    record {
      end = here.end;
      runs = here.runs;
      program = here.program_is;
      run = here.run_is ∙ one_serial_run e.program numbers.jobs e.seed numbers.steps here.run e.run here.serial m.is_end.serial;
    }

-- the simplest of these ends, all of the storm, with an outcome
record IsShown (numbers : StormNumbers) (P : Program) (some : List RunEnd) (o : Outcome) : Type 0 where
  simplest : RunEnd
  is_simplest : IsSimplest (HasLines o.lines) some simplest
  made : IsMadeOf numbers P o.seed o.script simplest

shown_of : (numbers : StormNumbers) (P : Program) (ends some : List RunEnd) (outcomes : List Outcome) (number : ℕ) (o : Outcome) → Sound P → IsSetting (setting_of numbers) → AreEndsOfSeeds (setting_of numbers) P numbers.seed numbers.seeds ends
    → ((e : RunEnd) → Contains some e → Contains ends e) → AreOrdered some outcomes → slice_get outcomes number ≡ Some o → IsShown numbers P some o
shown_of numbers P ends some outcomes number o sound setting are among ordered stands =
    let is = All-contains (IsOutcome some) outcomes o ordered.are.each (contains_at outcomes number o stands) in
    record {
      simplest = is.simplest;
      is_simplest = is.is_simplest;
      made = made_of numbers P ends is.simplest o.seed o.script sound setting are (among is.simplest (simplest_among some is.simplest (HasLines o.lines) is.is_simplest)) is.seed is.script;
    }

sound_with : (numbers : StormNumbers) (P : Program) (some : List RunEnd) (o : Outcome) → IsShown numbers P some o → Sound (record P { script = o.script })
sound_with numbers P some o s = subst Sound (sym s.made.program_is) s.made.sound

-- the program with the script of an outcome is sound
pub sound_shown : (numbers : StormNumbers) (P : Program) (outcomes : List Outcome) (totals : Totals) (number : ℕ) (o : Outcome) → Sound P → IsSetting (setting_of numbers)
    → storms.HasOutcomes (setting_of numbers) P numbers.seed numbers.seeds outcomes totals → slice_get outcomes number ≡ Some o → Sound (record P { script = o.script })
sound_shown numbers P outcomes totals number o sound setting h stands =
    sound_with numbers P h.ends o (shown_of numbers P h.ends h.ends outcomes number o sound setting h.are (λ e c. c) h.outcomes_are stands)

-- ---- what is written

pub tells : (numbers : StormNumbers) (P : Program) (outcomes : List Outcome) (totals : Totals) (bytes text : List ℕ) → Sound P → IsSetting (setting_of numbers)
    → storms.HasOutcomes (setting_of numbers) P numbers.seed numbers.seeds outcomes totals → text ≡ storm_text numbers.seeds totals outcomes → IsProgram bytes P → TellsOutcomes numbers bytes Done text
tells numbers P outcomes totals bytes text sound setting h is_text spelled =
    record { has = has_outcomes numbers bytes P h.ends outcomes totals spelled sound setting h.are h.outcomes_are h.totals_are; is_text = is_text; ends = refl }

pub lacks : (numbers : StormNumbers) (P : Program) (outcomes : List Outcome) (totals : Totals) (number : ℕ) (bytes : List ℕ) → Sound P → IsSetting (setting_of numbers)
    → storms.HasOutcomes (setting_of numbers) P numbers.seed numbers.seeds outcomes totals → length outcomes ≤ number → IsProgram bytes P → LacksOutcome numbers number bytes
lacks numbers P outcomes totals number bytes sound setting h few spelled =
    record { has = has_outcomes numbers bytes P h.ends outcomes totals spelled sound setting h.are h.outcomes_are h.totals_are; none = few }

pub shows : (numbers : StormNumbers) (P : Program) (outcomes : List Outcome) (totals : Totals) (number : ℕ) (o : Outcome) (bytes text : List ℕ) → Sound P → IsSetting (setting_of numbers)
    → storms.HasOutcomes (setting_of numbers) P numbers.seed numbers.seeds outcomes totals → slice_get outcomes number ≡ Some o → IsSerialText numbers o.seed (record P { script = o.script }) text → IsProgram bytes P → ShowsOutcome numbers number bytes Done text
shows numbers P outcomes totals number o bytes text sound setting h stands serial spelled =
    let shown = shown_of numbers P h.ends h.ends outcomes number o sound setting h.are (λ e c. c) h.outcomes_are stands in
    record {
      has = has_outcomes numbers bytes P h.ends outcomes totals spelled sound setting h.are h.outcomes_are h.totals_are;
      shown = o;
      stands = stands;
      simplest = shown.simplest;
      is_simplest = shown.is_simplest;
      is_text = text_of numbers P shown.simplest o.seed o.script text shown.made serial;
      ends = refl;
    }

-- ---- what is written of a claim

first_shown : (numbers : StormNumbers) (P : Program) (behaviour : ℕ) (ends : List RunEnd) (first : Outcome) → Sound P → IsSetting (setting_of numbers) → AreEndsOfSeeds (setting_of numbers) P numbers.seed numbers.seeds ends
    → (b : IsFirstBroken behaviour ends first) → IsShown numbers P b.broken first
first_shown numbers P behaviour ends first sound setting are b =
    shown_of numbers P ends b.broken (first ∷ b.others) 0 first sound setting are (λ e c. (broken_each behaviour ends b.broken e b.broken_are c).0) b.outcomes_are refl

-- the program with the script of the first outcome at which the claim is broken is sound
sound_broken : (numbers : StormNumbers) (P : Program) (behaviour : ℕ) (outcomes : List Outcome) (totals : Totals) (first : Outcome) → Sound P → IsSetting (setting_of numbers)
    → HasTried (setting_of numbers) P numbers.seed numbers.seeds behaviour outcomes totals (Some first) → Sound (record P { script = first.script })
sound_broken numbers P behaviour outcomes totals first sound setting h =
    sound_with numbers P h.tried.broken first (first_shown numbers P behaviour h.ends first sound setting h.are h.tried)

-- so it is with the first broken outcome, if there is one
pub sound_first : (numbers : StormNumbers) (P : Program) (behaviour : ℕ) (outcomes : List Outcome) (totals : Totals) (first : Option Outcome) → Sound P → IsSetting (setting_of numbers)
    → HasTried (setting_of numbers) P numbers.seed numbers.seeds behaviour outcomes totals first → IfSome first (λ o. Sound (record P { script = o.script }))
sound_first numbers P behaviour outcomes totals None sound setting h = tt
sound_first numbers P behaviour outcomes totals (Some first) sound setting h = sound_broken numbers P behaviour outcomes totals first sound setting h

pub breaks_claim : (numbers : StormNumbers) (P : Program) (behaviour : ℕ) (outcomes : List Outcome) (totals : Totals) (first : Outcome) (name bytes text : List ℕ) → Sound P → IsSetting (setting_of numbers)
    → slice_get (behaviour_names P) behaviour ≡ Some name → HasTried (setting_of numbers) P numbers.seed numbers.seeds behaviour outcomes totals (Some first) → IsSerialText numbers first.seed (record P { script = first.script }) text → IsProgram bytes P
    → TriesClaim numbers name bytes Claimed text
breaks_claim numbers P behaviour outcomes totals first name bytes text sound setting named h serial spelled =
    let b = h.tried in
    let shown = first_shown numbers P behaviour h.ends first sound setting h.are b in
    record {
      has = has_outcomes numbers bytes P h.ends outcomes totals spelled sound setting h.are h.outcomes_are h.totals_are;
      behaviour = behaviour;
      named = named;
      tried = record {
        broken = b.broken;
        broken_are = b.broken_are;
        first = first;
        others = b.others;
        outcomes_are = b.outcomes_are;
        simplest = shown.simplest;
        is_simplest = shown.is_simplest;
        is_text = text_of numbers P shown.simplest first.seed first.script text shown.made serial;
      };
    }

pub keeps_claim : (numbers : StormNumbers) (P : Program) (behaviour : ℕ) (outcomes : List Outcome) (totals : Totals) (name bytes text : List ℕ) → Sound P → IsSetting (setting_of numbers)
    → slice_get (behaviour_names P) behaviour ≡ Some name → HasTried (setting_of numbers) P numbers.seed numbers.seeds behaviour outcomes totals None → text ≡ printed (totals_form numbers.seeds totals (length outcomes) ∷ []) → IsProgram bytes P
    → TriesClaim numbers name bytes Done text
keeps_claim numbers P behaviour outcomes totals name bytes text sound setting named h is_text spelled =
    record {
      has = has_outcomes numbers bytes P h.ends outcomes totals spelled sound setting h.are h.outcomes_are h.totals_are;
      behaviour = behaviour;
      named = named;
      tried = record { holds = h.tried; is_text = is_text };
    }

-- ---- the behaviour with a name

-- none of the first so many behaviours has the name
abbrev pub IsUnnamed : Program → List ℕ → ℕ → Type 0
IsUnnamed P name n = (k : ℕ) (b : NamedCode) → k < n → slice_get P.behaviours k ≡ Some b → b.name ≢ name

pub unnamed_more : (P : Program) (name : List ℕ) (n : ℕ) (b : NamedCode) → slice_get P.behaviours n ≡ Some b → b.name ≢ name → IsUnnamed P name n → IsUnnamed P name (n + 1)
unnamed_more P name n b at other before k c l there same =
    ⊎_elim
    (λ lt. before k c lt there same)
    (λ here. let one : b ≡ c = same_some (sym at ∙ ap (slice_get P.behaviours) (sym here) ∙ there) in other (ap (λ (d : NamedCode). d.name) one ∙ same))
    (before_or_last k n (omega (arith, l)))

pub is_unnamed : (P : Program) (name : List ℕ) (n : ℕ) → length P.behaviours ≤ n → IsUnnamed P name n → Contains (behaviour_names P) name → ⊥
is_unnamed P name n few unnamed h =
    let each : All (λ (b : NamedCode). b.name ≢ name) P.behaviours = λ k d l. unnamed k (get_or P.behaviours k d) (omega (arith, l, few)) (slice_get-get_or P.behaviours k d l) in
    All-contains (λ (m : List ℕ). m ≢ name) (behaviour_names P) name (All-map (λ (m : List ℕ). m ≢ name) (λ (b : NamedCode). b.name) P.behaviours each) h refl

pub is_named : (P : Program) (name : List ℕ) (k : ℕ) (b : NamedCode) → slice_get P.behaviours k ≡ Some b → b.name ≡ name → slice_get (behaviour_names P) k ≡ Some name
is_named P name k b at same = slice_get-map (λ (b : NamedCode). b.name) P.behaviours k ∙ ap (option_map (λ (b : NamedCode). b.name)) at ∙ ap Some same

-- ---- the run text of a program

pub serial_text : (numbers : StormNumbers) (seed : ℕ) (P Q : Program) (T : Run) (b : Bool) (end : End) (text : List ℕ) → Q ≡ P → IsSerialRun Q numbers.jobs seed numbers.steps T → IsProgram (printed (forms.printed Q)) Q → EndsAt numbers.steps Q T b
    → ((limit : ℕ) (bytes : List ℕ) → IsProgram bytes Q → EndsAt limit Q T b → (r : RunsAs limit bytes end text) × (r.program ≡ Q) × (r.run ≡ T)) → IsSerialText numbers seed P text
serial_text numbers seed P Q T b end text same serial spelled ends told =
    let r = told numbers.steps (printed (forms.printed Q)) spelled ends in
    subst (λ (X : Program). IsSerialText numbers seed X text) same (record { run = T; serial = serial; end = end; runs = r.0; program_is = r.1; run_is = r.2 })
