use Rattle.std.proofs.Common.{refl, sym, subst, List, Option, ℕ, []}
use Rattle.std.specs.HashMap.{get}
use Rattle.tau_past.specs.Tables.{same_point}
use Rattle.tau_explain.specs.Links.Inner.Rows.{HasRows}
use Rattle.tau_explain.proofs.RowLemmas.{rows_none}
use Rattle.tau_explain.proofs.links.rows.Rows.of.Goals as goal

pub loop-place-init : goal.loop-place-init
loop-place-init c =
    let T = c.args.index.now in
    let last = get same_point c.new.result in
    subst (λ (l : List (Option ℕ)). HasRows T 0 last l c.new-3.result.items c.new-4.result.items) (sym c.new-2.ensures.items)
    (subst (λ (l : List (Option ℕ)). HasRows T 0 last [] l c.new-4.result.items) (sym c.new-3.ensures.items)
    (subst (λ (l : List (Option ℕ)). HasRows T 0 last [] [] l) (sym c.new-4.ensures.items) (rows_none T last (λ p. rw c.new.ensures.empty refl))))
