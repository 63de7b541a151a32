use Rattle.std.proofs.Common.{◌∙◌, ap, ◌++◌, ◌∷◌, [], List}
use Rattle.std.proofs.lemmas.List.{nil_from_length}
use Rattle.std.proofs.Common.{rules}
use Rattle.tau_points.specs.declared.point.Point.{Point}
use Rattle.tau_past.proofs.PastSearch.{searched_start, searched_on, searched_end, fallen_on, safe_on}
use Rattle.tau_past.proofs.search.add_past.Goals as goal

pub search-init : goal.search-init
search-init c = record {
  searched = searched_start c.args.index.now c.args.point c.args.found.now c.args.passed.now c.push.new.self.items (c.in_ok-push.ensures.items ∙ ap (λ (l : List Point). l ++ c.args.point ∷ []) c.new-left.ensures.items) c.requires.complete;
  fallen = tt;
  safe = λ q h r. h;
}

pub search-preserved : goal.search-preserved
search-preserved c =
    let T = c.args.index.now in
    let s = c.search.invariant.searched in
    let v = c.in_ok-fallen.ensures.visits in
    record {
      searched = searched_on T c.args.point c.in-Some.next c.args.found.now c.search.found c.visit.new.found c.search.passed c.visit.new.passed c.search.left.items c.pop.new.self.items c.visit.new.left.items c.in-Some.ensures.items s v;
      fallen = fallen_on T c.args.point c.in-Some.next c.args.found.now c.search.found c.visit.new.found c.search.passed c.visit.new.passed c.search.left.items c.pop.new.self.items c.visit.new.left.items c.in-Some.ensures.items s c.search.fallen c.in_ok-fallen.field-0 v c.search.invariant.fallen c.in_ok-fallen.ensures.fallen;
      safe = safe_on T c.args.point c.in-Some.next c.args.found.now c.search.found c.visit.new.found c.search.passed c.visit.new.passed c.search.left.items c.pop.new.self.items c.visit.new.left.items c.in-Some.ensures.items s c.search.fallen c.in_ok-fallen.field-0 v c.search.invariant.safe c.in_ok-fallen.ensures.safe;
    }

pub returns-clause-complete : goal.returns-clause-complete
returns-clause-complete c =
    (searched_end c.args.index.now c.args.point c.args.found.now c.search.found c.search.passed c.search.left.items (nil_from_length c.search.left.items (search (rules, c.in_default.ensures))) c.search.invariant.searched).0

pub returns-clause-past : goal.returns-clause-past
returns-clause-past c =
    (searched_end c.args.index.now c.args.point c.args.found.now c.search.found c.search.passed c.search.left.items (nil_from_length c.search.left.items (search (rules, c.in_default.ensures))) c.search.invariant.searched).1
