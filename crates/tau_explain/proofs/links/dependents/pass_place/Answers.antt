use Rattle.std.proofs.Common.{arith, subst, sym, refl, List, Option, ℕ}
use Rattle.std.proofs.lemmas.Result.{IfOk-weaker}
use Rattle.tau_explain.specs.Links.Inner.Rows.{IsRow}
use Rattle.tau_explain.proofs.DependentLemmas.{passes_fresh, last_read}
use Rattle.tau_explain.proofs.PushLemmas.{unmarked_read}
use Rattle.tau_explain.proofs.links.dependents.pass_place.Goals as goal

pub push_row-requires : goal.push_row-requires
push_row-requires c =
    let rows = c.requires.rows.rows in
    let at = last_read c.args.rows.now.last_resting.items c.args.place c.index.result.now (omega (arith, c.requires.place, rows.last_count)) c.index.ensures in
    let row = rows.resting c.args.place c.index.result.now at in
    (row.places, subst (λ (l : List (Option ℕ)). IsRow l c.index.result.now row.places) (sym c.deref.ensures.value) row.row)

pub returns : goal.returns
returns c =
    let rows = c.requires.rows.rows in
    let at = last_read c.args.rows.now.last_resting.items c.args.place c.index.result.now (omega (arith, c.requires.place, rows.last_count)) c.index.ensures in
    IfOk-weaker c.push_row.result _ _
    (λ _ pushed carrying told. passes_fresh c.args.index.now _ c.args.marks.now carrying _ _ _ _ c.args.place c.index.result.now c.args.passed.now _ c.args.left.now.items c.push_row.new.into.items c.args.into.now.items c.push_taker.new.into.items told at
    (unmarked_read c.args.passed.now c.args.place _ (omega (arith, c.requires.place, c.requires.passed)) c.if-passed-place.false) refl
    (λ places row. pushed places (subst (λ (l : List (Option ℕ)). IsRow l c.index.result.now places) (sym c.deref.ensures.value) row)) c.in_ok-push_taker.ensures)
    c.push_row.ensures
