use Rattle.std.proofs.Common.{ℕ, List, sym, subst}
use Rattle.tau_trace.specs.Run.{len}
use Rattle.tau_past.specs.Heard.{Heard}
use Rattle.tau_versions.specs.Search.Logs.{TellBounds}
use Rattle.tau_versions.specs.Search.Numbered.{with_version}
use Rattle.tau_heard.specs.Bounds.{last_number}
use Rattle.tau_heard.proofs.Decisions.{own_bounds}
use Rattle.tau_heard.proofs.hearing.Hearing.heard_of.Goals as goal

pub returns : goal.returns
returns c =
    let T = c.args.trace.now.run in
    let logs = c.args.self.now.logs.items in
    let F : ℕ → Type 0 = λ v. TellBounds T (Heard T c.args.who (len T)) (len T) logs (with_version c.args.who v c.items.result.now) in
    let G : List ℕ → Type 0 = λ xs. TellBounds T (Heard T c.args.who (len T)) (len T) logs (with_version c.args.who (last_number logs c.args.who) xs) in
    subst F (sym c.last_number-version.ensures) (subst G (sym c.items.ensures) (own_bounds T c.args.self.now c.requires.knows c.args.who c.requires.exists c.kept_of-own.result.now c.kept_of-own.ensures))
