use Rattle.std.proofs.Common.{arith, List, Option, ℕ, subst, ap, ◌∙◌, ◌++◌, ◌∷◌, [], None}
use Rattle.std.specs.HashMap.{get}
use Rattle.tau_past.specs.Tables.{same_point}
use Rattle.tau_explain.specs.Links.Inner.Rows.{PutsResting}
use Rattle.tau_explain.proofs.RowLemmas.{rows_next, written, puts_length}
use Rattle.tau_explain.proofs.links.rows.add.Goals as goal

pub returns : goal.returns
returns c =
    let last0 = c.args.rows.now.last_resting in
    let puts : PutsResting c.carried_at-carrying.result.rest c.args.place last0.items c.put_resting-resting.new.last c.put_resting-resting.result = subst (λ (l : List (Option ℕ)). PutsResting c.carried_at-carrying.result.rest c.args.place l c.put_resting-resting.new.last c.put_resting-resting.result) c.deref_mut.ensures.value c.put_resting-resting.ensures in
    let same = puts_length c.carried_at-carrying.result.rest c.args.place last0.items c.put_resting-resting.new.last c.put_resting-resting.result puts in
    let is = written last0.len c.put_resting-resting.new.last last0.items same (omega (arith, last0.ok.0)) in
    rows_next c.args.index.now c.args.place c.carried_at-carrying.result (get same_point c.args.rows.now.last_touching) (get same_point c.put_touching.new.last) c.args.rows.now.earlier_touching.items c.push.new.self.items last0.items c.put_resting-resting.new.last c.push-3.new.self.items c.args.rows.now.earlier_resting.items c.push-2.new.self.items c.put_resting-resting.result c.requires.rows
    c.carried_at-carrying.ensures c.in_ok-touching.ensures.puts (c.in_ok-push.ensures.items ∙ ap (λ o. c.args.rows.now.earlier_touching.items ++ o ∷ []) c.in_ok-touching.ensures.before) puts c.in_ok-push-2.ensures.items (c.in_ok-push-3.ensures.items ∙ ap (λ (l : List (Option ℕ)). l ++ None ∷ []) is) same
