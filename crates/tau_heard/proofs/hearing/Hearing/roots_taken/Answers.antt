use Rattle.std.proofs.Common.{◌≡◌, suc, List, filter, sym, ap, ◌∙◌, subst}
use Rattle.tau_points.specs.declared.point.Point.{Point}
use Rattle.tau_trace.specs.Run.{len, appended}
use Rattle.tau_trace.proofs.Lists.{same_some}
use Rattle.tau_past.specs.Heard.{Heard, HeardTogether}
use Rattle.tau_versions.specs.Logs.Told.{Told}
use Rattle.tau_versions.specs.Search.Numbered.{with_version, later}
use Rattle.tau_heard.specs.declared.letter.Letter.{Letter}
use Rattle.tau_versions.specs.Roots.Closing.{is_unclosed}
use Rattle.tau_heard.specs.Laws.{WithoutClosed}
use Rattle.tau_heard.proofs.LeavingOut.{unclosed_without, together_on}
use Rattle.tau_heard.proofs.Leading.{kept, known, acting, hears_of}
use Rattle.tau_heard.proofs.hearing.Hearing.roots_taken.Goals as goal

pub returns : goal.returns
returns c = λ l e.
    let T = c.args.trace.now.run in
    let s = c.args.step.now in
    let U = appended T s in
    let n = len T in
    let h = c.args.self.now in
    let heard = c.heard_together-heard.result in
    let numbers = later (with_version heard.own.who heard.own.version heard.own.numbers.now) (with_version heard.message.who heard.message.version heard.message.numbers.now) in
    let letter = c.letter-letter.result.now in
    let same : letter ≡ l = same_some (same_some (sym c.letter-letter.ensures ∙ e)) in
    let without = unclosed_without U (HeardTogether U c.args.who n c.args.message) n h.logs.items numbers (kept h T s c.requires.next).logs_are c.heard_together-heard.ensures letter.roots in
    let F : List Point → Type 0 = WithoutClosed U (HeardTogether U c.args.who n c.args.message) letter.roots in
    let G : Letter → Type 0 = λ y. WithoutClosed U (Heard U c.args.who (suc n)) y.roots c.in_ok-roots.roots in
    let K : List Told → List Point = λ L. filter (is_unclosed L numbers) letter.roots in
    subst G same
    (together_on U c.args.who n c.args.message letter.roots c.in_ok-roots.roots (known h T s c.requires.next) (acting h T s c.requires.next c.args.who c.requires.by) (hears_of h T s c.requires.next c.args.message c.requires.hears)
    (subst F (sym (c.in_ok-roots.ensures ∙ ap K c.deref.ensures.value)) without))
