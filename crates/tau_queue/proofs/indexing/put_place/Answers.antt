use Rattle.std.proofs.Common.{◌+◌, false, true, ◌≡◌, ◌∙◌, sym, subst}
use Rattle.tau_trace.specs.Run.{Run}
use Rattle.tau_queue.specs.OpenTurns.{IsOpenFrom}
use Rattle.tau_queue.specs.Inner.Scans.{AreOpenBelow}
use Rattle.tau_queue.proofs.ScanLemmas.{one_found, one_passed}
use Rattle.tau_queue.proofs.indexing.put_place.Goals as goal

pub returns-in_ok-push : goal.returns-in_ok-push
returns-in_ok-push c =
    let T : Run = c.args.trace.now.run in
    subst (AreOpenBelow T (c.args.place + 1)) (sym c.in_ok-push.ensures.items)
    (one_found (IsOpenFrom T) c.args.place c.args.turns.now.items c.requires (c.is_open_from.ensures.0 c.if-is_open_from.true))

pub returns-else-is_open_from : goal.returns-else-is_open_from
returns-else-is_open_from c =
    let T : Run = c.args.trace.now.run in
    one_passed (IsOpenFrom T) c.args.place c.args.turns.now.items c.requires (λ f. let both : false ≡ true = sym c.if-is_open_from.false ∙ c.is_open_from.ensures.1 f in absurd (cc))
