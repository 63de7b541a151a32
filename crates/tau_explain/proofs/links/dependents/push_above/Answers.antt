use Rattle.std.proofs.Common.{arith, sym, ◌∙◌}
use Rattle.std.specs.HashMap.{get}
use Rattle.std.proofs.lemmas.Result.{IfOk-weaker}
use Rattle.tau_past.specs.Tables.{same_point}
use Rattle.tau_explain.proofs.PushLemmas.{adds_none, none_above, none_of, above_up_to, checks_born, checks_interval, told_some}
use Rattle.tau_explain.specs.Links.Inner.Dependents.{IsAbove}
use Rattle.tau_explain.proofs.links.dependents.push_above.Goals as goal

pub returns-then-not-contains_key : goal.returns-then-not-contains_key
returns-then-not-contains_key c =
    let q = c.args.point.now in
    let o = get same_point c.args.checkpoints.now q in
    adds_none (IsAbove c.args.index.now c.args.marks.now q) c.args.into.now.items (none_above c.args.index.now c.args.marks.now q o (none_of o (sym c.contains_key.ensures ∙ c.if-not-contains_key.true)) (c.requires.told q))

pub overflow_add-interval : goal.overflow_add-interval
overflow_add-interval c =
    let q = c.args.point.now in
    let t = told_some c.args.index.now c.args.marks.now q (get same_point c.args.checkpoints.now q) (sym c.contains_key.ensures ∙ c.if-not-contains_key.false) (c.requires.told q) in
    let small = checks_interval c.args.index.now t.0 q c.requires.well_formed t.2 in
    omega (arith, small)

pub number_of-requires : goal.number_of-requires
number_of-requires c =
    let q = c.args.point.now in
    let t = told_some c.args.index.now c.args.marks.now q (get same_point c.args.checkpoints.now q) (sym c.contains_key.ensures ∙ c.if-not-contains_key.false) (c.requires.told q) in
    checks_born c.args.index.now t.0 q c.requires.well_formed t.2

pub returns-in-Some : goal.returns-in-Some
returns-in-Some c =
    let q = c.args.point.now in
    let t = told_some c.args.index.now c.args.marks.now q (get same_point c.args.checkpoints.now q) (sym c.contains_key.ensures ∙ c.if-not-contains_key.false) (c.requires.told q) in
    IfOk-weaker c.push_incarnations.result _ _
    (λ _ adds. above_up_to c.args.index.now c.args.marks.now q t.0 c.in-Some.number c.args.into.now.items c.push_incarnations.new.into.items t.1 t.2 (sym c.in-Some.is ∙ c.number_of.ensures) adds) c.push_incarnations.ensures
