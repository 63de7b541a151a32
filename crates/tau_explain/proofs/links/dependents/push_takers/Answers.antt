use Rattle.std.proofs.Common.{arith, sym, ◌∙◌, subst, List, Option, ℕ, length}
use Rattle.std.proofs.Common.{rules}
use Rattle.std.proofs.lemmas.List.{nil_from_length}
use Rattle.tau_explain.specs.Links.Inner.Rows.{IsRow}
use Rattle.tau_explain.proofs.DependentLemmas.{spreads_start, spreads_on, left_within, spread_all, smaller_told}
use Rattle.tau_explain.proofs.PushLemmas.{carried_within}
use Rattle.tau_explain.proofs.links.dependents.push_takers.Goals as goal

pub push_row-requires : goal.push_row-requires
push_row-requires c =
    let row = c.requires.ready.rows.touching c.args.point.now in
    (row.places, subst (λ (l : List (Option ℕ)). IsRow l c.copied.result row.places) (sym c.deref.ensures.value) (subst (λ o. IsRow c.args.rows.now.earlier_touching.items o row.places) (sym (c.copied.ensures ∙ c.get.ensures.value)) row.row))

pub loop-place-init : goal.loop-place-init
loop-place-init c = (
  c.requires.ready.count,
  λ carrying rows on.
      let row = rows.touching c.args.point.now in
      spreads_start c.args.index.now c.args.marks.now carrying c.args.point.now rows.tells c.args.passed.now c.args.left.now.items c.push_row.new.into.items row.places c.args.into.now.items on c.requires.left
      (c.in_ok-push_row.ensures row.places (subst (λ (l : List (Option ℕ)). IsRow l c.copied.result row.places) (sym c.deref.ensures.value) (subst (λ o. IsRow c.args.rows.now.earlier_touching.items o row.places) (sym (c.copied.ensures ∙ c.get.ensures.value)) row.row))) row.all,
)

pub pass_place-requires-clause-place : goal.pass_place-requires-clause-place
pass_place-requires-clause-place c =
    let r = c.requires.ready in
    let T = c.args.index.now in
    left_within T c.args.marks.now r.carrying c.args.point.now r.rows.tells c.args.passed.now c.loop-place.passed c.loop-place.passed c.loop-place.left.items c.pop.new.self.items c.pop.new.self.items c.args.into.now.items c.loop-place.into.items c.loop-place.into.items c.in-Some.place c.in-Some.ensures.items
    (c.loop-place.invariant.1 r.carrying r.rows r.on) (length T.steps) (λ j h. carried_within T j c.args.point.now h)

pub loop-place-smaller : goal.loop-place-smaller
loop-place-smaller c =
    let r = c.requires.ready in
    let T = c.args.index.now in
    smaller_told T c.args.marks.now r.carrying c.in-Some.place c.loop-place.passed c.pass_place.new.passed c.loop-place.left.items c.pop.new.self.items c.pass_place.new.left.items c.loop-place.into.items c.pass_place.new.into.items c.loop-place.left.len c.pass_place.new.left.len (omega (arith, c.loop-place.left.ok.0)) (omega (arith, c.pass_place.new.left.ok.0)) c.in-Some.ensures.items
    (left_within T c.args.marks.now r.carrying c.args.point.now r.rows.tells c.args.passed.now c.loop-place.passed c.loop-place.passed c.loop-place.left.items c.pop.new.self.items c.pop.new.self.items c.args.into.now.items c.loop-place.into.items c.loop-place.into.items c.in-Some.place c.in-Some.ensures.items
    (c.loop-place.invariant.1 r.carrying r.rows r.on) (length c.loop-place.passed) (λ j h. let lt = carried_within T j c.args.point.now h in omega (arith, lt, c.loop-place.invariant.0)))
    (search rules) (c.in_ok-pass_place.ensures r.carrying r.rows)

pub loop-place-preserved : goal.loop-place-preserved
loop-place-preserved c = (
  search (rules, c.loop-place.invariant.0, c.pass_place.auto.passed),
  λ carrying rows on.
      let T = c.args.index.now in
      let s = c.loop-place.invariant.1 carrying rows on in
      let lt = left_within T c.args.marks.now carrying c.args.point.now rows.tells c.args.passed.now c.loop-place.passed c.loop-place.passed c.loop-place.left.items c.pop.new.self.items c.pop.new.self.items c.args.into.now.items c.loop-place.into.items c.loop-place.into.items c.in-Some.place c.in-Some.ensures.items
      s (length c.loop-place.passed) (λ j h. let lt = carried_within T j c.args.point.now h in omega (arith, lt, c.loop-place.invariant.0)) in
      spreads_on T c.args.marks.now carrying c.args.point.now rows.tells c.args.passed.now c.loop-place.passed c.pass_place.new.passed c.loop-place.left.items c.pop.new.self.items c.pass_place.new.left.items c.args.into.now.items c.loop-place.into.items c.pass_place.new.into.items c.in-Some.place c.in-Some.ensures.items s lt (c.in_ok-pass_place.ensures carrying rows),
)

pub returns-clause-adds : goal.returns-clause-adds
returns-clause-adds c =
    let r = c.requires.ready in
    let T = c.args.index.now in
    spread_all T c.args.marks.now r.carrying c.args.point.now r.rows.tells c.args.passed.now c.loop-place.passed c.loop-place.left.items c.args.into.now.items c.loop-place.into.items (nil_from_length c.loop-place.left.items (search (rules, c.in_default.ensures)))
    (c.loop-place.invariant.1 r.carrying r.rows r.on) (λ j h. carried_within T j c.args.point.now h)
