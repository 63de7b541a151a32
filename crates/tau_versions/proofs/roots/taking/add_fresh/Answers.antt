use Rattle.std.proofs.Common.{sym, ◌∙◌}
use Rattle.tau_versions.proofs.Ranges.{next_fresh, next_passed, root_there}
use Rattle.tau_versions.proofs.roots.taking.add_fresh.Goals as goal

pub returns-in_ok-push-in-Some : goal.returns-in_ok-push-in-Some
returns-in_ok-push-in-Some c = λ x.
    next_fresh c.args.roots.now c.args.number c.args.me c.in-Some.root c.args.taken.now c.args.fresh.now.items c.push.new.self.items (sym c.in-Some.ensures) c.if-is_fresh.ensures.fresh c.in_ok-push-in-Some.ensures.items x

pub returns-in_default : goal.returns-in_default
returns-in_default c = λ x. next_passed c.args.roots.now c.args.number c.args.me c.in-Some.root c.args.taken.now c.args.fresh.now.items (sym c.in-Some.ensures) c.if-is_fresh.ensures.passed x

pub returns-in_default-2 : goal.returns-in_default-2
returns-in_default-2 c = λ x. absurd (let both = c.in_default.ensures ∙ (root_there c.args.roots.now c.args.number c.requires.there).1 in cc)
