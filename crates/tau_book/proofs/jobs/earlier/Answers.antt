use Rattle.std.proofs.Common.{◌≡◌, ◌≤◌, ◌+◌, ◌∙◌, ℕ, Option, length, get_or, List, ap, subst, arith}
use Rattle.tau_eval.specs.Turn.{TurnSoFar}
use Rattle.tau_book.specs.Inner.Jobs.{IsEarliestFrom}
use Rattle.tau_book.proofs.JobLists.{earliest_at_end, earliest_kept, earliest_taken, same_default}
use Rattle.tau_book.proofs.jobs.earlier.Goals as goal

pub returns-then-turn : goal.returns-then-turn
returns-then-turn c =
    let jobs : List TurnSoFar = c.args.jobs.now in
    let d : TurnSoFar = c.index-jobs-place.result in
    let best : ℕ = c.in-Some.best in
    let h = subst (λ (o : Option ℕ). IsEarliestFrom jobs (c.args.place + 1) o) c.in-Some.is c.requires.best in
    let there : c.turn.result ≡ (get_or jobs best d).place = c.turn.ensures ∙ ap (λ (j : TurnSoFar). j.place) (c.index-jobs-best.is ∙ same_default jobs best c.index-jobs-best.result d h.0) in
    let here : c.turn-in-Some.result ≡ (get_or jobs c.args.place d).place = c.turn-in-Some.ensures ∙ ap (λ (j : TurnSoFar). j.place) c.index-jobs-place.is in
    (h.0, earliest_kept jobs c.args.place d c.requires.within best h.0 h.1 (omega (arith, c.if-turn.true, there, here)))

pub returns-else-turn : goal.returns-else-turn
returns-else-turn c =
    let jobs : List TurnSoFar = c.args.jobs.now in
    let d : TurnSoFar = c.index-jobs-place.result in
    let best : ℕ = c.in-Some.best in
    let h = subst (λ (o : Option ℕ). IsEarliestFrom jobs (c.args.place + 1) o) c.in-Some.is c.requires.best in
    let there : c.turn.result ≡ (get_or jobs best d).place = c.turn.ensures ∙ ap (λ (j : TurnSoFar). j.place) (c.index-jobs-best.is ∙ same_default jobs best c.index-jobs-best.result d h.0) in
    let here : c.turn-in-Some.result ≡ (get_or jobs c.args.place d).place = c.turn-in-Some.ensures ∙ ap (λ (j : TurnSoFar). j.place) c.index-jobs-place.is in
    (c.requires.within, earliest_taken jobs c.args.place d c.requires.within best h.0 h.1 (omega (arith, c.if-turn.false, there, here)))

pub returns-in-None : goal.returns-in-None
returns-in-None c =
    let jobs : List TurnSoFar = c.args.jobs.now in
    let last : length jobs ≤ c.args.place + 1 = subst (λ (o : Option ℕ). IsEarliestFrom jobs (c.args.place + 1) o) c.in-None.is c.requires.best in
    (c.requires.within, earliest_at_end jobs c.args.place c.requires.within last)
