use Rattle.std.proofs.Common.{◌≡◌, ◌≤◌, ◌<◌, ◌^◌, ◌∙◌, ℕ, ◌+◌, ◌-◌, List, get_or, ap, arith}
use Rattle.std.proofs.lemmas.Result.{on_ok_weaker}
use Rattle.tau_layout.specs.declared.columns.Column.{Column}
use Rattle.tau_layout.specs.declared.lanes.Lane.{Lane}
use Rattle.tau_layout.specs.Lanes.{ComesBefore}
use Rattle.tau_layout.specs.Plans.{Plan}
use Rattle.tau_layout.specs.Inner.Laying.{lanes_of, IsColumnOf}
use Rattle.std.specs.List.{AllPairs}
use Rattle.tau_drawing.specs.Lanes.Bands.{lanes_below, first_x, last_x}
use Rattle.tau_drawing.proofs.BandLemmas.{rises, first_is, last_is, band_told}
use Rattle.tau_drawing.proofs.lanes.nodes.put_node.Goals as goal

abbrev none : Column
none = record { who = 0; node = 0; x = 0 }

-- the first and the last column of a node, where the counts of lanes below it and below the next one differ
record Ends (plan : Plan) (cs : List Column) (n begin end : ℕ) : Type 0 where
  some : lanes_below plan.lanes n < lanes_below plan.lanes (n + 1)
  first : (get_or cs begin none).x ≡ first_x plan n
  first_left : 386 ≤ (get_or cs begin none).x
  first_right : (get_or cs begin none).x < 2 ^ 50
  last : (get_or cs (end - 1) none).x ≡ last_x plan n
  last_right : (get_or cs (end - 1) none).x < 2 ^ 50

ends : (plan : Plan) (cs : List Column) (n begin end : ℕ) → lanes_of cs ≡ plan.lanes → IsColumnOf plan cs → AllPairs ComesBefore plan.lanes → begin ≡ lanes_below (lanes_of cs) n → end ≡ lanes_below (lanes_of cs) (n + 1) → begin < end → Ends plan cs n begin end
ends plan cs n begin end are each sorted eb ee lt =
    let r = rises plan.lanes sorted in
    let b : begin ≡ lanes_below plan.lanes n = eb ∙ ap (λ (ls : List Lane). lanes_below ls n) are in
    let e : end ≡ lanes_below plan.lanes (n + 1) = ee ∙ ap (λ (ls : List Lane). lanes_below ls (n + 1)) are in
    let f = first_is plan cs are each r n begin none b (omega (arith, lt, e)) in
    let l = last_is plan cs are each r n end none e (omega (arith, lt, b)) in
    record { some = omega (arith, lt, b, e); first = f.0; first_left = f.1; first_right = f.2; last = l.0; last_right = l.2 }

pub put_band-requires-clause-left : goal.put_band-requires-clause-left
put_band-requires-clause-left c = (ends c.args.layout.now c.columns-columns.result.now c.args.node c.lanes_before-begin.result c.lanes_before-end.result c.columns-columns.ensures.lanes c.columns-columns.ensures.columns c.requires.lanes c.lanes_before-begin.ensures c.lanes_before-end.ensures c.if-end-begin.false).first_left

pub put_band-requires-clause-first : goal.put_band-requires-clause-first
put_band-requires-clause-first c = (ends c.args.layout.now c.columns-columns.result.now c.args.node c.lanes_before-begin.result c.lanes_before-end.result c.columns-columns.ensures.lanes c.columns-columns.ensures.columns c.requires.lanes c.lanes_before-begin.ensures c.lanes_before-end.ensures c.if-end-begin.false).first_right

pub put_band-requires-clause-last : goal.put_band-requires-clause-last
put_band-requires-clause-last c = (ends c.args.layout.now c.columns-columns.result.now c.args.node c.lanes_before-begin.result c.lanes_before-end.result c.columns-columns.ensures.lanes c.columns-columns.ensures.columns c.requires.lanes c.lanes_before-begin.ensures c.lanes_before-end.ensures c.if-end-begin.false).last_right

pub put_text-requires-clause-left : goal.put_text-requires-clause-left
put_text-requires-clause-left c = (ends c.args.layout.now c.columns-columns.result.now c.args.node c.lanes_before-begin.result c.lanes_before-end.result c.columns-columns.ensures.lanes c.columns-columns.ensures.columns c.requires.lanes c.lanes_before-begin.ensures c.lanes_before-end.ensures c.if-end-begin.false).first_left

pub put_text-requires-clause-first : goal.put_text-requires-clause-first
put_text-requires-clause-first c = (ends c.args.layout.now c.columns-columns.result.now c.args.node c.lanes_before-begin.result c.lanes_before-end.result c.columns-columns.ensures.lanes c.columns-columns.ensures.columns c.requires.lanes c.lanes_before-begin.ensures c.lanes_before-end.ensures c.if-end-begin.false).first_right

pub put_text-requires-clause-last : goal.put_text-requires-clause-last
put_text-requires-clause-last c = (ends c.args.layout.now c.columns-columns.result.now c.args.node c.lanes_before-begin.result c.lanes_before-end.result c.columns-columns.ensures.lanes c.columns-columns.ensures.columns c.requires.lanes c.lanes_before-begin.ensures c.lanes_before-end.ensures c.if-end-begin.false).last_right

pub returns : goal.returns
returns c =
    let columns = c.columns-columns.result.now in
    let begin = c.lanes_before-begin.result in
    let end = c.lanes_before-end.result in
    let e = ends c.args.layout.now columns c.args.node begin end c.columns-columns.ensures.lanes c.columns-columns.ensures.columns c.requires.lanes c.lanes_before-begin.ensures c.lanes_before-end.ensures c.if-end-begin.false in
    on_ok_weaker c.put_text.result
    (λ w. band_told c.args.layout.now c.args.node (get_or columns begin none).x (get_or columns (end - 1) none).x c.grid-grid.result c.args.out.now.items c.put_band.new.out.items c.put_text.new.out.items c.grid-grid.ensures.grid e.some e.first e.last c.in_ok-put_band.ensures w)
    c.put_text.ensures
