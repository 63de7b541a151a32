use Rattle.std.proofs.Common.{◌∷◌, [], List, ℕ}
use Rattle.std.specs.Prelude.{codes}
use Rattle.tau_sexpr.specs.Tree.{Tree}
use Rattle.tau_report.specs.Report.{count_of}
use Rattle.tau_storm.proofs.LineLemmas.{item_then, headed_then}
use Rattle.tau_storm.proofs.writing.put_totals.Goals as goal

pub returns : goal.returns
returns c =
    let t0 : Tree = count_of (codes "seeds") c.args.seeds in
    let t1 : Tree = count_of (codes "runs") c.args.totals.runs in
    let t2 : Tree = count_of (codes "complete") c.args.totals.complete in
    let t3 : Tree = count_of (codes "open") c.args.totals.stopped in
    let t4 : Tree = count_of (codes "steps") c.args.totals.steps in
    let t5 : Tree = count_of (codes "outcomes") c.args.outcomes in
    let end : List ℕ = 41 ∷ 10 ∷ [] in
    headed_then (codes "storm") (t0 ∷ t1 ∷ t2 ∷ t3 ∷ t4 ∷ t5 ∷ []) c.args.out.now.items c.extend_from_slice.new.self.items c.extend_from_slice-2.new.self.items c.in_ok-extend_from_slice.ensures.items
    (item_then t0 (t1 ∷ t2 ∷ t3 ∷ t4 ∷ t5 ∷ []) end c.extend_from_slice.new.self.items c.put_named.new.out.items c.extend_from_slice-2.new.self.items c.in_ok-put_named.ensures
    (item_then t1 (t2 ∷ t3 ∷ t4 ∷ t5 ∷ []) end c.put_named.new.out.items c.put_named-2.new.out.items c.extend_from_slice-2.new.self.items c.in_ok-put_named-2.ensures
    (item_then t2 (t3 ∷ t4 ∷ t5 ∷ []) end c.put_named-2.new.out.items c.put_named-3.new.out.items c.extend_from_slice-2.new.self.items c.in_ok-put_named-3.ensures
    (item_then t3 (t4 ∷ t5 ∷ []) end c.put_named-3.new.out.items c.put_named-4.new.out.items c.extend_from_slice-2.new.self.items c.in_ok-put_named-4.ensures
    (item_then t4 (t5 ∷ []) end c.put_named-4.new.out.items c.put_named-5.new.out.items c.extend_from_slice-2.new.self.items c.in_ok-put_named-5.ensures
    (item_then t5 [] end c.put_named-5.new.out.items c.put_named-6.new.out.items c.extend_from_slice-2.new.self.items c.in_ok-put_named-6.ensures
    c.in_ok-extend_from_slice-2.ensures.items))))))
