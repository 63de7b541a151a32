use Rattle.std.proofs.Common.{◌∷◌, ◌++◌, ◌∙◌, [], List, ℕ, ap}
use Rattle.std.specs.Prelude.{codes}
use Rattle.tau_sexpr.specs.Tree.{Tree}
use Rattle.tau_sexpr.specs.Printing.{print_of}
use Rattle.tau_report.specs.Report.{count_of}
use Rattle.tau_value.specs.Written.{count_form}
use Rattle.tau_storm.proofs.LineLemmas.{item_then, headed_then}
use Rattle.tau_storm.proofs.writing.put_front.Goals as goal

pub returns : goal.returns
returns c =
    let t0 : Tree = count_form c.args.number in
    let t1 : Tree = count_of (codes "runs") c.args.outcome.now.runs in
    let t2 : Tree = count_of (codes "seed") c.args.outcome.now.seed in
    let t3 : Tree = count_of (codes "faults") c.args.outcome.now.faults in
    let t4 : Tree = count_of (codes "steps") c.args.outcome.now.steps in
    let end : List ℕ = 41 ∷ 10 ∷ [] in
    headed_then (codes "outcome") (t0 ∷ t1 ∷ t2 ∷ t3 ∷ t4 ∷ []) c.args.out.now.items c.extend_from_slice.new.self.items c.extend_from_slice-2.new.self.items c.in_ok-extend_from_slice.ensures.items
    (item_then t0 (t1 ∷ t2 ∷ t3 ∷ t4 ∷ []) end c.extend_from_slice.new.self.items c.put_count.new.out.items c.extend_from_slice-2.new.self.items c.in_ok-put_count.ensures
    (item_then t1 (t2 ∷ t3 ∷ t4 ∷ []) end c.put_count.new.out.items c.put_named.new.out.items c.extend_from_slice-2.new.self.items c.in_ok-put_named.ensures
    (item_then t2 (t3 ∷ t4 ∷ []) end c.put_named.new.out.items c.put_named-2.new.out.items c.extend_from_slice-2.new.self.items c.in_ok-put_named-2.ensures
    (item_then t3 (t4 ∷ []) end c.put_named-2.new.out.items c.put_named-3.new.out.items c.extend_from_slice-2.new.self.items (c.in_ok-put_named-3.ensures ∙ ap (λ (n : ℕ). c.put_named-2.new.out.items ++ 32 ∷ print_of (count_of (codes "faults") n)) c.from.ensures)
    (item_then t4 [] end c.put_named-3.new.out.items c.put_named-4.new.out.items c.extend_from_slice-2.new.self.items (c.in_ok-put_named-4.ensures ∙ ap (λ (n : ℕ). c.put_named-3.new.out.items ++ 32 ∷ print_of (count_of (codes "steps") n)) c.from-2.ensures)
    c.in_ok-extend_from_slice-2.ensures.items)))))
