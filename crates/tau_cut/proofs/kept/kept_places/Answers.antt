use Rattle.std.proofs.Common.{◌∙◌, ◌↔◌, ◌<◌, ℕ, List, All, get_or, length, sym, subst, arith, rules}
use Rattle.std.specs.Prelude.{Contains}
use Rattle.tau_trace.specs.Run.{len}
use Rattle.tau_explain.specs.Links.Marks.{IsMarked}
use Rattle.tau_cut.specs.declared.cut.Marked.{Marked}
use Rattle.tau_cut.specs.Cuts.{places_in}
use Rattle.tau_cut.specs.Inner.Marking.{MarksIn}
use Rattle.tau_cut.proofs.LineLemmas.{ins_none, ins_more, ins_length, ins_within, ins_all, ins_fit}
use Rattle.tau_cut.proofs.kept.kept_places.Goals as goal

pub loop-mark-init : goal.loop-mark-init
loop-mark-init c = record {
  count = search (rules, c.in_ok-marks.ensures.len, c.len.ensures.len);
  told = ins_none c.items-mark-items.result.now c.in_ok-marks.marks.items _ (c.in_ok-marks.ensures.items_if_clones_equal (λ y h. h));
}

pub mark_in-requires : goal.mark_in-requires
mark_in-requires c k e =
    let T = c.args.trace.now.run in
    let ms = c.items-mark-items.result.now in
    let all = subst (λ (l : List Marked). All (λ j. j < len T) (places_in l)) (sym c.items-mark-items.ensures) (ins_fit T c.args.cut.now c.requires) in
    let lt = ins_within ms (len T) c.loop-mark.mark-index k c.mark-item.result all (omega (arith, c.loop-mark-test.true)) (sym c.mark-item.is ∙ e) in
    omega (arith, lt, c.loop-mark.invariant.count)

pub loop-mark-preserved : goal.loop-mark-preserved
loop-mark-preserved c =
    let T = c.args.trace.now.run in
    let ms = c.items-mark-items.result.now in
    let all = subst (λ (l : List Marked). All (λ j. j < len T) (places_in l)) (sym c.items-mark-items.ensures) (ins_fit T c.args.cut.now c.requires) in
    let lt : c.loop-mark.mark-index < length ms = omega (arith, c.loop-mark-test.true) in
    let marked : MarksIn (get_or ms c.loop-mark.mark-index c.mark-item.result) c.loop-mark.marks.items c.mark_in.new.marks.items = subst (λ (m : Marked). MarksIn m c.loop-mark.marks.items c.mark_in.new.marks.items) c.mark-item.is c.mark_in.ensures in
    record {
      count = ins_length _ c.loop-mark.marks.items c.mark_in.new.marks.items c.mark_in.ensures ∙ c.loop-mark.invariant.count;
      told = ins_more ms c.loop-mark.mark-index c.mark-item.result c.loop-mark.marks.items c.mark_in.new.marks.items lt
          (λ j e. let within = ins_within ms (len T) c.loop-mark.mark-index j c.mark-item.result all lt e in omega (arith, within, c.loop-mark.invariant.count)) marked c.loop-mark.invariant.told;
    }

pub returns-clause-marked : goal.returns-clause-marked
returns-clause-marked c = subst (λ (l : List Marked). (k : ℕ) → Contains (places_in l) k ↔ IsMarked c.loop-mark.marks.items k) c.items-mark-items.ensures (ins_all c.items-mark-items.result.now c.loop-mark.mark-index c.loop-mark.marks.items c.loop-mark-test.false c.loop-mark.invariant.told)
