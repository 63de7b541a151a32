use Rattle.std.proofs.Common.{◌≡◌, sym, ◌∙◌, subst}
use Rattle.tau_tree.specs.Sound.{Sound}
use Rattle.tau_gen.specs.Generated.{after}
use Rattle.tau_gen.proofs.WordLemmas.{after_none}
use Rattle.tau_gen.proofs.SoundLemmas.{generated_sound}
use Rattle.tau_gen.proofs.generated.generate.Goals as goal

pub returns-clause-program : goal.returns-clause-program
returns-clause-program c =
    let n = c.args.number in
    let at : c.seed_from_u64-words.result ≡ after n 0 = c.seed_from_u64-words.ensures ∙ after_none n in
    let posts = c.in_ok-posts.ensures.posts n at in
    let script = c.in_ok-script.ensures n (c.in_ok-posts.ensures.words n at) in
    λ i. record {
      version = 1;
      nodes = 4;
      behaviours = c.in_ok-behaviours.ensures i;
      starts = c.in_ok-starts.ensures i;
      posts = posts i;
      script = script i;
    }

pub returns-clause-sound : goal.returns-clause-sound
returns-clause-sound c =
    subst Sound (sym (returns-clause-program c)) (generated_sound c.args.number)
