use Rattle.std.proofs.Common.{◌≡◌, ◌<◌, false, length, get_or, sym, ap, ap₂, ◌∙◌, arith, length-drop}
use Rattle.std.proofs.lemmas.List.{length-take}
use Rattle.std.specs.Str.{bytes_eq}
use Rattle.tau_sexpr.specs.Tree.{list, inside}
use Rattle.tau_value.specs.Meaning.{list_word, has_row}
use Rattle.tau_value.proofs.ReadingLemmas.{no_row_long}
use Rattle.tau_value.proofs.reading.head_of.Goals as goal

pub returns-in-len2-up : goal.returns-in-len2-up
returns-in-len2-up c =
    let fs = c.items.result.now in
    let first = c.first-item.result in
    let is : first ≡ get_or fs 0 first = c.first-item.is in
    let long : 2 < length fs = omega (arith, simp (length-take, length-drop) at c.in-len2-up.len_at_least) in
    let other : bytes_eq c.in-Word.head list_word ≡ false = ap₂ bytes_eq (sym c.bytes.ensures.value) (sym c.as_slice.ensures) ∙ sym c.eq.ensures ∙ c.if-eq.false in
    ap (λ ts. has_row (list (inside ts))) (sym c.items.ensures) ∙ no_row_long fs first c.in-Word.head is c.in-Word.is long other
