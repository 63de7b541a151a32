use Rattle.std.proofs.Common.{ℕ, List, sym, subst}
use Rattle.tau_trace.specs.Run.{len, appended}
use Rattle.tau_past.specs.Heard.{Heard}
use Rattle.tau_versions.specs.Search.Logs.{TellBounds}
use Rattle.tau_versions.specs.Search.Numbered.{with_version}
use Rattle.tau_heard.specs.Bounds.{last_number}
use Rattle.tau_heard.proofs.Decisions.{search_bounds}
use Rattle.tau_heard.proofs.Leading.{kept}
use Rattle.tau_heard.proofs.hearing.Hearing.heard_before.Goals as goal

pub returns : goal.returns
returns c =
    let U = appended c.args.trace.now.run c.args.step.now in
    let n = len c.args.trace.now.run in
    let logs = c.args.self.now.logs.items in
    let F : ℕ → Type 0 = λ v. TellBounds U (Heard U c.args.who n) n logs (with_version c.args.who v c.items.result.now) in
    let G : List ℕ → Type 0 = λ xs. TellBounds U (Heard U c.args.who n) n logs (with_version c.args.who (last_number logs c.args.who) xs) in
    let tells = (kept c.args.self.now c.args.trace.now.run c.args.step.now c.requires.next).each c.args.who c.own_of-own.result.now c.own_of-own.ensures in
    subst F (sym c.last_number-version.ensures) (subst G (sym c.items.ensures) (search_bounds U (Heard U c.args.who n) n c.args.who (last_number logs c.args.who) logs c.own_of-own.result.now.numbers.numbers tells.heard))
