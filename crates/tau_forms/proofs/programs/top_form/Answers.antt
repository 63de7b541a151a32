use Rattle.std.proofs.Common.{◌≡◌, map, sym, ap, ◌∙◌}
use Rattle.tau_sexpr.specs.Form.{tree_of}
use Rattle.tau_sexpr.specs.Tree.{list, inside}
use Rattle.tau_forms.proofs.BuildingLemmas.{top_behaviour, top_start, top_post}
use Rattle.tau_forms.proofs.programs.top_form.Goals as goal

pub returns-in-Behaviour : goal.returns-in-Behaviour
returns-in-Behaviour c =
    let ts = inside (map tree_of c.items.result.now) in
    let us = inside (map tree_of c.in-Some.list.rest.now) in
    let whole : tree_of c.args.form.now ≡ list ts = ap tree_of c.in-List.is ∙ ap (λ q. list (inside q)) (sym c.items.ensures) in
    λ t. top_behaviour t (tree_of c.args.form.now) ts us c.in-Some.list.head.now c.behaviour_form.result whole c.in-Some.ensures c.in-Behaviour.ensures (c.behaviour_form.ensures t)

pub returns-in-Start : goal.returns-in-Start
returns-in-Start c =
    let ts = inside (map tree_of c.items.result.now) in
    let us = inside (map tree_of c.in-Some.list.rest.now) in
    let whole : tree_of c.args.form.now ≡ list ts = ap tree_of c.in-List.is ∙ ap (λ q. list (inside q)) (sym c.items.ensures) in
    λ t. top_start t (tree_of c.args.form.now) ts us c.in-Some.list.head.now c.start_form.result whole c.in-Some.ensures c.in-Start.ensures (c.start_form.ensures t)

pub returns-in-Post : goal.returns-in-Post
returns-in-Post c =
    let ts = inside (map tree_of c.items.result.now) in
    let us = inside (map tree_of c.in-Some.list.rest.now) in
    let whole : tree_of c.args.form.now ≡ list ts = ap tree_of c.in-List.is ∙ ap (λ q. list (inside q)) (sym c.items.ensures) in
    λ t. top_post t (tree_of c.args.form.now) ts us c.in-Some.list.head.now c.post_form.result whole c.in-Some.ensures c.in-Post.ensures (c.post_form.ensures t)
