use Rattle.std.proofs.Common.{◌≡◌, ◌≤◌, ◌<◌, ◌+◌, ◌⊎◌, inl, inr, ◌∷◌, ◌++◌, [], length, drop, sym, ap, ◌∙◌, subst, arith}
use Rattle.tau_history.specs.Order.{AreComparable, later_of}
use Rattle.tau_view.specs.Entries.{entry_of, entries_of}
use Rattle.tau_view.proofs.Merging.{at, read_as, pushed, State, less_at, greater_at, equal_at, less_step, greater_step, equal_step, comparable_at, finished}
use Rattle.tau_view.proofs.histories.merged.Goals as goal
use Rattle.tau_view.proofs.histories.merged.Goals.{then-merge-test+else-j-theirs, else-merge-test}

pub merge-preserved-in-Less : goal.merge-preserved-in-Less
merge-preserved-in-Less c =
    let ours = c.args.ours.now in
    let theirs = c.args.theirs.now in
    let p : c.merge.i < length ours = omega arith in
    let q : c.merge.j < length theirs = omega arith in
    let less = less_at ours theirs c.merge.i c.merge.j c.index-ours-i.result c.index-theirs-j.result p q c.in-Less.ensures in
    let e = read_as ours c.merge.i c.index-ours-i-in-Less.result p c.index-ours-i-in-Less.is in
    let all = pushed c.merge.all.items _ _ (at ours c.merge.i) c.in_ok-push-in-Less.ensures.items
    (c.in_ok-copy-in-Less.ensures.who ∙ ap (λ x. x.0) e) (c.in_ok-copy-in-Less.ensures.history ∙ ap (λ x. x.1) e) in
    record {
      ours = omega arith;
      theirs = omega arith;
      merging = subst (λ out. State ours theirs out (c.merge.i + 1) c.merge.j) (sym all)
          (less_step ours theirs (entries_of c.merge.all.items) c.merge.i c.merge.j p q less c.merge.invariant.merging);
    }

pub later_entry-requires : goal.later_entry-requires
later_entry-requires c =
    let ours = c.args.ours.now in
    let theirs = c.args.theirs.now in
    let p : c.merge.i < length ours = omega arith in
    let q : c.merge.j < length theirs = omega arith in
    let same = equal_at ours theirs c.merge.i c.merge.j c.index-ours-i.result c.index-theirs-j.result p q c.in-Equal.ensures in
    let e = read_as ours c.merge.i c.index-ours-i-in-Equal.result p c.index-ours-i-in-Equal.is in
    let f = read_as theirs c.merge.j c.index-theirs-j-in-Equal.result q c.index-theirs-j-in-Equal.is in
    subst (λ h. AreComparable h c.index-theirs-j-in-Equal.result.history.history) (ap (λ x. x.1) (sym e))
    (subst (AreComparable (at ours c.merge.i).1) (ap (λ x. x.1) (sym f))
    (comparable_at ours theirs c.merge.i c.merge.j p q c.requires.ours c.requires.theirs same c.requires.comparable))

pub merge-preserved-in-Equal : goal.merge-preserved-in-Equal
merge-preserved-in-Equal c =
    let ours = c.args.ours.now in
    let theirs = c.args.theirs.now in
    let p : c.merge.i < length ours = omega arith in
    let q : c.merge.j < length theirs = omega arith in
    let same = equal_at ours theirs c.merge.i c.merge.j c.index-ours-i.result c.index-theirs-j.result p q c.in-Equal.ensures in
    let e = read_as ours c.merge.i c.index-ours-i-in-Equal.result p c.index-ours-i-in-Equal.is in
    let f = read_as theirs c.merge.j c.index-theirs-j-in-Equal.result q c.index-theirs-j-in-Equal.is in
    let all = pushed c.merge.all.items _ _ ((at ours c.merge.i).0, later_of (at ours c.merge.i).1 (at theirs c.merge.j).1) c.in_ok-push-in-Equal.ensures.items
    (c.in_ok-later_entry-in-Equal.ensures.who ∙ ap (λ x. x.0) e)
    (c.in_ok-later_entry-in-Equal.ensures.history ∙ (λ i. later_of (e i).1 (f i).1)) in
    record {
      ours = omega arith;
      theirs = omega arith;
      merging = subst (λ out. State ours theirs out (c.merge.i + 1) (c.merge.j + 1)) (sym all)
          (equal_step ours theirs (entries_of c.merge.all.items) c.merge.i c.merge.j p q same c.merge.invariant.merging);
    }

pub merge-preserved : goal.merge-preserved
merge-preserved c =
    let ours = c.args.ours.now in
    let theirs = c.args.theirs.now in
    let p : c.merge.i < length ours = omega arith in
    let q : c.merge.j < length theirs = omega arith in
    let greater = greater_at ours theirs c.merge.i c.merge.j c.index-ours-i.result c.index-theirs-j.result p q c.in-Greater.ensures in
    let f = read_as theirs c.merge.j c.index-theirs-j-in-Greater.result q c.index-theirs-j-in-Greater.is in
    let all = pushed c.merge.all.items _ _ (at theirs c.merge.j) c.in_ok-push-in-Greater.ensures.items
    (c.in_ok-copy-in-Greater.ensures.who ∙ ap (λ x. x.0) f) (c.in_ok-copy-in-Greater.ensures.history ∙ ap (λ x. x.1) f) in
    record {
      ours = omega arith;
      theirs = omega arith;
      merging = subst (λ out. State ours theirs out c.merge.i (c.merge.j + 1)) (sym all)
          (greater_step ours theirs (entries_of c.merge.all.items) c.merge.i c.merge.j p q greater c.merge.invariant.merging);
    }

pub returns-clause-ascends : goal.returns-clause-ascends
returns-clause-ascends c =
    let ours = c.args.ours.now in
    let theirs = c.args.theirs.now in
    let through : (length ours ≤ c.merge.i) ⊎ (length theirs ≤ c.merge.j) = elim c.merge-test.branch [ then-merge-test+else-j-theirs w ↦ inr (omega arith) | else-merge-test w ↦ inl (omega arith) ] in
    (finished ours theirs c.merge.all.items c.append.new.all.items c.append-2.new.all.items c.merge.i c.merge.j through c.merge.invariant.merging c.in_ok-append.ensures c.in_ok-append-2.ensures).ascends

pub returns-clause-histories : goal.returns-clause-histories
returns-clause-histories c =
    let ours = c.args.ours.now in
    let theirs = c.args.theirs.now in
    let through : (length ours ≤ c.merge.i) ⊎ (length theirs ≤ c.merge.j) = elim c.merge-test.branch [ then-merge-test+else-j-theirs w ↦ inr (omega arith) | else-merge-test w ↦ inl (omega arith) ] in
    (finished ours theirs c.merge.all.items c.append.new.all.items c.append-2.new.all.items c.merge.i c.merge.j through c.merge.invariant.merging c.in_ok-append.ensures c.in_ok-append-2.ensures).histories
