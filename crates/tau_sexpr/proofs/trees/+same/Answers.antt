use Rattle.std.proofs.Common.{◌≡◌, ◌<◌, map, get_or, length, arith, sym, ◌∙◌}
use Rattle.tau_sexpr.specs.Form.{tree_of}
use Rattle.tau_sexpr.proofs.FormLemmas.{same_lists, same_at}
use Rattle.tau_sexpr.proofs.trees.+same.Goals as goal

pub Form::same-returns-in-List-List : goal.Form::same-returns-in-List-List
Form::same-returns-in-List-List t c = same_lists _ _ _ _ _ c.in-List-List.is-0 c.in-List-List.is-1 c.same-in-List-List.ensures

pub Forms::same-returns-then-not-same : goal.Forms::same-returns-then-not-same
Forms::same-returns-then-not-same t c = (
  λ h. cc,
  λ h. let one = c.self.inside.items.items in
      let two = c.other.inside.items.items in
      let equal : map tree_of one ≡ map tree_of two = c.self.view_is ∙ h ∙ sym c.other.view_is in
      let in_one : c.loop-k.k < length one = omega arith in
      let in_two : c.loop-k.k < length two = omega arith in
      let first : c.item-item.result ≡ get_or one c.loop-k.k c.item-item.result = cc in
      sym c.if-not-same.true ∙ c.same.ensures.1 (same_at one two c.loop-k.k c.item-item.result c.index.result.now equal in_one in_two first c.index.ensures),
)
