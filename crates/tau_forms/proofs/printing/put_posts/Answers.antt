use Rattle.std.proofs.Common.{◌<◌, length, subst, arith}
use Rattle.std.proofs.lemmas.List.Elements.{All-more}
use Rattle.tau_sexpr.specs.Printing.{HasBytes}
use Rattle.tau_value.specs.Value.{val_of}
use Rattle.tau_value.specs.Written.{NumbersFit}
use Rattle.tau_forms.specs.Printed.{post_form}
use Rattle.tau_forms.proofs.LineTexts.{lines_more}
use Rattle.tau_forms.proofs.printing.put_posts.Goals as goal

pub loop-post-preserved : goal.loop-post-preserved
loop-post-preserved c =
    let xs = c.args.posts.now in
    let k = c.loop-post.post-index in
    let lt : k < length xs = omega arith in
    let item = c.post-item.result in
    let form = post_form c.args.starts.now in
    record {
      text = lines_more form xs k item c.args.out.now.items c.loop-post.out.items c.put_post.new.out.items lt c.post-item.is c.loop-post.invariant.text c.in_ok-put_post.ensures.text;
      bytes = All-more (λ q. HasBytes (form q)) xs k item lt c.loop-post.invariant.bytes (subst (λ q. HasBytes (form q)) c.post-item.is c.in_ok-put_post.ensures.bytes);
      values = All-more (λ q. NumbersFit (val_of q.value)) xs k item lt c.loop-post.invariant.values (subst (λ q. NumbersFit (val_of q.value)) c.post-item.is c.in_ok-put_post.ensures.value);
    }
