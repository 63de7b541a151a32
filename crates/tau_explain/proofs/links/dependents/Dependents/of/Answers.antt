use Rattle.std.proofs.Common.{rules}
use Rattle.tau_explain.proofs.DependentLemmas.{none_marked}
use Rattle.tau_explain.proofs.links.dependents.Dependents.of.Goals as goal

pub returns-clause-ready : goal.returns-clause-ready
returns-clause-ready c = record {
  well_formed = c.requires.well_formed;
  marks_count = c.requires.marks;
  told = c.requires.checkpoints;
  ready = record {
    carrying = c.in_ok-of.ensures.carrying;
    rows = c.in_ok-of.ensures.rows;
    count = search (rules, c.in_ok-vec.ensures.len, c.len.ensures);
    on = λ i j m r. absurd (none_marked _ c.in_ok-vec.field-0.items (c.in_ok-vec.ensures.items_if_clones_equal (λ y h. h)) i m);
  };
  none_left = c.new.ensures.items;
}

pub returns-clause-none : goal.returns-clause-none
returns-clause-none c = none_marked _ c.in_ok-vec.field-0.items (c.in_ok-vec.ensures.items_if_clones_equal (λ y h. h))
