use Rattle.std.proofs.Common.{◌≡◌, ◌∷◌, [], ◌++◌, length, refl, arith, sym, ap, ◌∙◌}
use Rattle.tau_value.specs.Names.{place_of}
use Rattle.tau_value.proofs.NameLemmas.{place-push}
use Rattle.tau_value.proofs.name_list.Names.push.Goals as goal

pub invariant_of-self-2 : goal.invariant_of-self-2
invariant_of-self-2 c =
    λ word. let before = c.self.inside.items.items in
    let after : c.push_reserved.new.self.items ≡ before ++ c.args.item ∷ [] = c.push_reserved.ensures.items ∙ ap (λ ws. ws ++ c.args.item ∷ []) c.reserve.ensures.items in
    let number : c.len.result ≡ length before = omega (arith, c.self.inside.items.ok.0) in
    c.in_default.ensures.ok word ∙ rw (c.self.invariant word, c.bytes.ensures.value, number) refl ∙ sym (ap (λ ws. place_of ws word) after ∙ place-push before c.args.item word)
