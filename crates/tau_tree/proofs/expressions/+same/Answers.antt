use Rattle.std.proofs.Common.{rules, ◌≡◌, ◌<◌, map, get_or, length, arith, sym, ◌∙◌}
use denote.Enum.Bare.{same_true}
use Rattle.tau_tree.specs.contracts.expressions.Operation.{the_type}
use Rattle.tau_tree.specs.Expr.{code_of}
use Rattle.tau_tree.proofs.SameLemmas.{same_lists, same_seqs, same_applies, same_at}
use Rattle.tau_tree.proofs.expressions.+same.Goals as goal

pub Expr::same-returns-in-List-List : goal.Expr::same-returns-in-List-List
Expr::same-returns-in-List-List t c = same_lists _ _ _ _ _ c.in-List-List.is-0 c.in-List-List.is-1 c.same-in-List-List.ensures

pub Expr::same-returns-in-Seq-Seq : goal.Expr::same-returns-in-Seq-Seq
Expr::same-returns-in-Seq-Seq t c = same_seqs _ _ _ _ _ c.in-Seq-Seq.is-0 c.in-Seq-Seq.is-1 c.same-in-Seq-Seq.ensures

pub Expr::same-returns-then-eq : goal.Expr::same-returns-then-eq
Expr::same-returns-then-eq t c =
    let one = c.in-Apply-Apply.prim in
    let equal : one ≡ c.in-Apply-Apply.other_prim = same_true the_type (search rules) _ _ (sym c.if-eq.ensures) in
    same_applies _ _ _ _ _ _ _ c.in-Apply-Apply.is-0 c.in-Apply-Apply.is-1 equal c.same-then-eq.ensures

pub Exprs::same-returns-then-not-same : goal.Exprs::same-returns-then-not-same
Exprs::same-returns-then-not-same t c = (
  λ h. cc,
  λ h. let one = c.args.self.now.items.items in
      let two = c.args.other.now.items.items in
      let equal : map code_of one ≡ map code_of two = h in
      let in_one : c.loop-k.k < length one = omega arith in
      let in_two : c.loop-k.k < length two = omega arith in
      let first : c.item-item.result ≡ get_or one c.loop-k.k c.item-item.result = cc in
      sym c.if-not-same.true ∙ c.same.ensures.1 (same_at one two c.loop-k.k c.item-item.result c.index.result.now equal in_one in_two first c.index.ensures),
)
