use Rattle.std.proofs.Common.{◌≡◌, ◌<◌, false, length, get_or, eqb, sym, ap, ◌∙◌, subst, arith}
use Rattle.std.proofs.lemmas.Bool.Decides.{nat_tests}
use Rattle.std.proofs.lemmas.Bool.{OnTrue_from}
use Rattle.tau_history.specs.Order.{AreComparable, later_of}
use Rattle.tau_view.specs.Entries.{entries_of}
use Rattle.tau_view.specs.Rules.{merged_in}
use Rattle.tau_view.specs.Stored.{history_in}
use Rattle.tau_view.proofs.Later.{later-else}
use Rattle.tau_view.proofs.Merging.{at, read_at, equal_at, comparable_at, covered_more, covered_all}
use Rattle.tau_view.proofs.histories.covers.Goals as goal

pub is_before-requires : goal.is_before-requires
is_before-requires c =
    let ours = c.args.ours.now in
    let theirs = c.args.theirs.now in
    let p : c.compare.i < length ours = omega arith in
    let q : c.compare.j < length theirs = omega arith in
    let same = equal_at ours theirs c.compare.i c.compare.j c.index-ours-i.result c.index-theirs-j.result p q c.in-Equal.ensures in
    let e = read_at ours c.compare.i c.index-ours-i-in-Equal.result p in
    let f = read_at theirs c.compare.j c.index-theirs-j-in-Equal.result q in
    subst (λ h. AreComparable h (get_or theirs c.compare.j c.index-theirs-j-in-Equal.result).history.history) (ap (λ x. x.1) (sym e))
    (subst (AreComparable (at ours c.compare.i).1) (ap (λ x. x.1) (sym f))
    (comparable_at ours theirs c.compare.i c.compare.j p q c.requires.ours c.requires.theirs same c.requires.comparable))

pub compare-preserved : goal.compare-preserved
compare-preserved c =
    let ours = c.args.ours.now in
    let theirs = c.args.theirs.now in
    let p : c.compare.i < length ours = omega arith in
    let q : c.compare.j < length theirs = omega arith in
    let same = equal_at ours theirs c.compare.i c.compare.j c.index-ours-i.result c.index-theirs-j.result p q c.in-Equal.ensures in
    let e = ap (λ x. x.1) (read_at ours c.compare.i c.index-ours-i-in-Equal.result p) in
    let f = ap (λ x. x.1) (read_at theirs c.compare.j c.index-theirs-j-in-Equal.result q) in
    let kept : later_of (at ours c.compare.i).1 (at theirs c.compare.j).1 ≡ (at ours c.compare.i).1 =
    (λ i. later_of (sym e i) (sym f i)) ∙ later-else _ _ (sym c.is_before.ensures.rank ∙ c.if-is_before.false) ∙ e in
    record {
      ours = omega arith;
      theirs = omega arith;
      covered = covered_more ours theirs c.compare.i c.compare.j p q c.requires.ours same kept c.compare.invariant.covered;
    }

pub returns : goal.returns
returns c =
    let ours = c.args.ours.now in
    let theirs = c.args.theirs.now in
    OnTrue_from (eqb c.compare.j (length theirs)) (merged_in (history_in (entries_of ours)) (history_in (entries_of theirs)) ≡ history_in (entries_of ours))
    (λ t. covered_all ours theirs c.compare.j (grind (arith, nat_tests)) c.compare.invariant.covered)
