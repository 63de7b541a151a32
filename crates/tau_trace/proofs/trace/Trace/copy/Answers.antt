use Rattle.std.proofs.Common.{◌≡◌, ℕ, inl, ap, subst, IfOk}
use Rattle.tau_trace.specs.Run.{versioned}
use Rattle.tau_trace.specs.Stored.{Stored}
use Rattle.tau_trace.proofs.trace.Trace.copy.Goals as goal

pub with_version-requires : goal.with_version-requires
with_version-requires c = inl (ap (λ (x : Stored). x.run.opening.version) c.self.view_is)

pub returns : goal.returns
returns c =
    let same : c.self.inside.opening.version ≡ c.args.self.now.run.opening.version = ap (λ (x : Stored). x.run.opening.version) c.self.view_is in
    let P : ℕ → Type 0 = λ v. IfOk c.with_version.result (λ t. t.run ≡ versioned v c.args.self.now.run) in
    subst P same c.with_version.ensures
