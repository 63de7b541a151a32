use Rattle.std.proofs.Common.{◌≡◌, ℕ, subst, arith}
use Rattle.tau_drawing.specs.Messages.Inner.Bearers.{ArePosted}
use Rattle.tau_drawing.proofs.BearerLemmas.{posted_none, posted_next}
use Rattle.tau_drawing.proofs.messages.bearers.posted.Goals as goal

pub loop-post-init : goal.loop-post-init
loop-post-init c = posted_none c.new-bearers.result.items c.new-bearers.ensures.items

pub loop-post-preserved : goal.loop-post-preserved
loop-post-preserved c = posted_next c.loop-post.post c.loop-post.bearers.items c.push.new.self.items c.in_ok-push.ensures.items c.loop-post.invariant

pub returns : goal.returns
returns c =
    let end : c.loop-post.post ≡ c.args.posts = omega arith in
    subst (λ (n : ℕ). ArePosted n c.loop-post.bearers.items) end c.loop-post.invariant
