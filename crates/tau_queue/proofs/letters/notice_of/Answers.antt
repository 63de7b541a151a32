use Rattle.std.proofs.Common.{◌≡◌, ℕ, ◌<◌, Bool, true, false, not, Option, Some, None, ap, ◌∙◌, subst}
use Rattle.std.specs.Option.{IsSome, is_some}
use Rattle.tau_trace.specs.Run.{Run, len}
use Rattle.tau_trace.specs.Places.{IsFirst}
use Rattle.tau_trace.specs.Numbering.{born}
use Rattle.tau_trace.specs.Histories.{EndsAt, Ended}
use Rattle.tau_legal.proofs.TurnLemmas.{sender_known}
use Rattle.tau_queue.proofs.Homes.{home_below}
use Rattle.tau_queue.proofs.letters.notice_of.Goals as goal

-- one without an end hasn't ended
not_ended : (T : Run) (t : ℕ) (end : Option ℕ) (b : Bool) → IsFirst (EndsAt T t) (len T) end → is_some end ≡ not b → b ≡ true → ¬ Ended T t (len T)
not_ended T t None b none is says e = none e.place e.before e.ends
not_ended T t (Some place) b ends is says e =
    let clash : true ≡ false = is ∙ ap not says in
    cc

pub returns-then-is_none-clause-tells : goal.returns-then-is_none-clause-tells
returns-then-is_none-clause-tells c = λ e u h. not_ended c.args.trace.now.run c.args.letter.who c.end_of.result c.is_none.result c.end_of.ensures c.is_none.ensures c.if-is_none.true e

pub returns-in_default-clause-tells : goal.returns-in_default-clause-tells
returns-in_default-clause-tells c = λ e u h. c.in_default.ensures u h

pub unreachable-requires : goal.unreachable-requires
unreachable-requires c =
    let T : Run = c.args.trace.now.run in
    let exists : c.in-Some.who < born T (len T) = sender_known T c.len-len.ensures.well_formed c.args.letter.message c.in-Some.who (len T) c.requires c.in-Some.ensures in
    let some : false ≡ true = subst IsSome c.in_default-home.is (c.home.ensures.exists.1 exists) in
    cc

pub returns-clause-tells : goal.returns-clause-tells
returns-clause-tells c = (c.sent.ensures, c.in-Some.ensures, c.in-Some-home.ensures.home)

pub returns-clause-node : goal.returns-clause-node
returns-clause-node c = home_below c.args.trace.now.run c.len-len.ensures.well_formed c.in-Some.who c.in-Some-home.node c.in-Some-home.ensures.home
