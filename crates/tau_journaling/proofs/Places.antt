-- Each step of a run stands in a record.
use Rattle.std.proofs.Common.{◌≡◌, ⊎_elim, ℕ, ◌+◌, ◌<◌, List, [], ◌∷◌, ◌++◌, length, take, Some, refl, sym, ap, ◌∙◌, subst, arith, length-take}
use Rattle.std.proofs.lemmas.List.{take_at, take_more, take-append-le, take-take}
use Rattle.std.proofs.lemmas.Option.{slice_get_within, get_or_from_slice_get}
use Rattle.tau_tree.specs.declared.programs.Program.{Program}
use Rattle.tau_trace.specs.declared.step.Step.{Step}
use Rattle.tau_trace.specs.Run.{Run, len, step_at, appended}
use Rattle.tau_trace.proofs.Lists.{slice_get-front, slice_get-last, slice_get-push_cases, slice_get-take}
use Rattle.tau_run_journal.specs.Standing.{IsStepText, opened, StandsFor, begins, stepped, resumed}
use Rattle.tau_run_journal.specs.Reading.{StandsTo}

-- a record is the text of step j, behind those that stand for the steps before it
pub record StandsIn (rs : List (List ℕ)) (j : ℕ) (s : Step) : Type 0 where
  pub program : Program
  pub run : Run
  pub place : ℕ
  pub text : List ℕ
  pub stand : StandsTo rs place program run text
  pub is_text : IsStepText run s text
  pub count : len run ≡ j

-- with one record more
in_more : (rs : List (List ℕ)) (r : List ℕ) (j : ℕ) (s : Step) → StandsIn rs j s → StandsIn (rs ++ r ∷ []) j s
in_more rs r j s b =
    let lt : b.place < length rs = slice_get_within rs b.place b.text b.stand.next in
    record {
      program = b.program;
      run = b.run;
      place = b.place;
      text = b.text;
      stand = record {
        stand = subst (λ (l : List (List ℕ)). StandsFor l b.program b.run) (sym (take-append-le b.place rs (r ∷ []) (omega (arith, lt)))) b.stand.stand;
        next = sym (slice_get-front rs r b.place lt) ∙ b.stand.next;
      };
      is_text = b.is_text;
      count = b.count;
    }

in_last : (rs : List (List ℕ)) (P : Program) (V : Run) (u : Step) (r : List ℕ) → StandsFor rs P V → IsStepText V u r → (j : ℕ) (s : Step) → j ≡ len V → u ≡ s → StandsIn (rs ++ r ∷ []) j s
in_last rs P V u r before text j s place same = record {
  program = P;
  run = V;
  place = length rs;
  text = r;
  stand = record { stand = subst (λ (l : List (List ℕ)). StandsFor l P V) (sym (take_at rs (r ∷ []) (length rs) refl)) before; next = slice_get-last rs r };
  is_text = subst (λ (x : Step). IsStepText V x r) same text;
  count = sym place;
}

pub stands_in : (rs : List (List ℕ)) (P : Program) (T : Run) → StandsFor rs P T → (j : ℕ) (s : Step) → step_at T j ≡ Some s → StandsIn rs j s
stands_in all P T (begins text) j s stands = absurd (omega (arith, slice_get_within (opened P).steps j s stands))
stands_in all P T (stepped {rs = rs} {T = V} {s = u} {r = r} before text) j s stands =
    ⊎_elim (λ earlier. in_more rs r j s (stands_in rs P V before j s earlier)) (λ last. in_last rs P V u r before text j s last.0 last.1) (slice_get-push_cases V.steps u s j stands)
stands_in all P T (resumed {rs = rs} {P = Q} {r = r} before is revival) j s stands = in_more rs r j s (stands_in rs Q T before j s stands)

-- records up to one, and that one
pub stands_with : (rs : List (List ℕ)) (k : ℕ) (Q : Program) (U : Run) (r : List ℕ) (s : Step) → StandsTo rs k Q U r → IsStepText U s r → StandsFor (take (k + 1) rs) Q (appended U s)
stands_with rs k Q U r s to text =
    let more : take (k + 1) rs ≡ take k rs ++ r ∷ [] = take_more rs k r (slice_get_within rs k r to.next) ∙ ap (λ (q : List ℕ). take k rs ++ q ∷ []) (get_or_from_slice_get rs k r r to.next) in
    subst (λ (l : List (List ℕ)). StandsFor l Q (appended U s)) (sym more) (stepped to.stand text)

-- the same of the first n records, and of all
pub to_front : (rs : List (List ℕ)) (n k : ℕ) (Q : Program) (U : Run) (r : List ℕ) → k < n → StandsTo rs k Q U r → StandsTo (take n rs) k Q U r
to_front rs n k Q U r lt to = record {
  stand = subst (λ (l : List (List ℕ)). StandsFor l Q U) (sym (take-take k n rs (omega (arith, lt)))) to.stand;
  next = slice_get-take n rs k lt ∙ to.next;
}

pub to_all : (rs : List (List ℕ)) (n k : ℕ) (Q : Program) (U : Run) (r : List ℕ) → StandsTo (take n rs) k Q U r → StandsTo rs k Q U r
to_all rs n k Q U r to =
    let lt : k < n = omega (arith, length-take n rs, slice_get_within (take n rs) k r to.next) in
    record {
      stand = subst (λ (l : List (List ℕ)). StandsFor l Q U) (take-take k n rs (omega (arith, lt))) to.stand;
      next = sym (slice_get-take n rs k lt) ∙ to.next;
    }
