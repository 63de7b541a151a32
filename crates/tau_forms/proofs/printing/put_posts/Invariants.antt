use Rattle.std.proofs.Common.{◌≡◌, ◌++◌, map, take, All}
use Rattle.tau_sexpr.specs.Printing.{printed, HasBytes}
use Rattle.tau_value.specs.Value.{val_of}
use Rattle.tau_value.specs.Written.{NumbersFit}
use Rattle.tau_forms.specs.Printed.{post_form}
use Rattle.tau_forms.proofs.printing.put_posts.Given as goal

abbrev pub invariant-loop-post : goal.invariant-loop-post
invariant-loop-post l = record {
  text : l.out.items ≡ l.initial.out.items ++ printed (map (post_form l.starts) (take l.post-index l.posts));
  bytes : All (λ q. HasBytes (post_form l.starts q)) (take l.post-index l.posts);
  values : All (λ q. NumbersFit (val_of q.value)) (take l.post-index l.posts);
}
