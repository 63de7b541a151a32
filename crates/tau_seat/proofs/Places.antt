-- Places on seats, and the end that they were told.
use Rattle.std.proofs.Common.{◌≡◌, ◌<◌, ℕ, Bool, true, false, true≢false, List, [], ◌∷◌, ◌++◌, length, append-nil, append_assoc, refl, sym, ap, ◌∙◌, subst}
use Rattle.std.specs.Prelude.{Result, Ok, Err, IsErr}
use Rattle.tau_trace.specs.declared.step.Step.{Step}
use Rattle.tau_book.specs.declared.answers.Next.{Next}
use Rattle.tau_book.specs.declared.answers.Next.TheVariants as nexts
use Rattle.tau_seat.specs.Lists.{times, Begins}
use Rattle.tau_seat.specs.Seated.{Seated, mine_of, Stays, Watches, Grows, EndsWith}
use Rattle.tau_seat.specs.Answers.{appends, has_stepped}
use Rattle.tau_seat.specs.SeatPlaces.{HasEnded, completeness_told}

pub stays_itself : (s : Seated) → Stays s s
stays_itself s = record { table_is = refl; program_is = refl; limit_is = refl; numbers_are = refl }

pub stays_longer : (a b c : Seated) → Stays a b → Stays b c → Stays a c
stays_longer a b c first second = record {
  table_is = second.table_is ∙ first.table_is;
  program_is = second.program_is ∙ first.program_is;
  limit_is = second.limit_is ∙ first.limit_is;
  numbers_are = second.numbers_are ∙ first.numbers_are;
}

pub begins_itself : (xs : List (Step × ℕ)) → Begins xs xs
begins_itself xs = ([], sym (append-nil xs))

pub begins_longer : (xs ys zs : List (Step × ℕ)) → Begins xs ys → Begins ys zs → Begins xs zs
begins_longer xs ys zs a b = (a.0 ++ b.0, b.1 ∙ ap (λ l. l ++ b.0) a.1 ∙ append_assoc xs a.0 b.0)

pub told_end : (s : Seated) (a : Next) → EndsWith s a → HasEnded s (completeness_told a)
told_end s nexts.Complete h = h
told_end s nexts.Stopped h = h
told_end s (nexts.Idle out) h = tt
told_end s (nexts.Work job) h = tt
told_end s nexts.Stepped h = tt

pub watches_itself : (s : Seated) → Watches s s
watches_itself s = record { others = []; seen_is = sym (append-nil s.seen); mine_is = refl }

-- what a seat makes after it has watched, it makes in all
pub grows_longer : (g : Bool) (a b c : Seated) → b.numbers ≡ a.numbers → Watches a b → Grows g b c → Grows g a c
grows_longer true a b c same w m =
    let seen : b.seen ++ m.others ≡ a.seen ++ (w.others ++ m.others) = ap (λ l. l ++ m.others) w.seen_is ∙ append_assoc a.seen w.others m.others in
    record {
      others = w.others ++ m.others;
      step = m.step;
      owner = m.owner;
      seen_is = m.seen_is ∙ ap (λ l. l ++ (m.step, m.owner) ∷ []) seen;
      owner_is = subst (λ (ns : List ℕ). 0 < times m.owner ns) same m.owner_is;
      mine_is = m.mine_is ∙ ap (λ l. l ++ length (b.seen ++ m.others) ∷ []) w.mine_is ∙ ap (λ l. mine_of a ++ length l ∷ []) seen;
    }
grows_longer false a b c same w v = record {
  others = w.others ++ v.others;
  seen_is = v.seen_is ∙ ap (λ l. l ++ v.others) w.seen_is ∙ append_assoc a.seen w.others v.others;
  mine_is = v.mine_is ∙ w.mine_is;
}

-- a seat that is told Idle has made nothing
pub idle_watches : (a b c : Seated) (answer : Next) (out : ℕ) → b.numbers ≡ a.numbers → answer ≡ nexts.Idle out → Watches a b → Grows (appends answer) b c → Watches a c
idle_watches a b c answer out same is w g = grows_longer false a b c same w (subst (λ (n : Next). Grows (appends n) b c) is g)

-- an error tells no step
pub err_watches : {E : Type 0} (r : Result Next E) (old new : Seated) → IsErr r → Watches old new → Grows (has_stepped r) old new
err_watches (Ok a) old new h w = absurd (true≢false (sym h))
err_watches (Err e) old new h w = w
