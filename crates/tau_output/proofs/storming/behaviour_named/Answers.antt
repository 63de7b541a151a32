use Rattle.std.proofs.Common.{◌≡◌, ◌∙◌, List, Some, length, refl, sym, ap, arith}
use Rattle.std.specs.Prelude.{slice_get}
use Rattle.std.proofs.lemmas.Option.{slice_get_read}
use Rattle.tau_tree.specs.Behaviour.{NamedCode}
use Rattle.tau_output.proofs.StormLemmas.{unnamed_more, is_unnamed, is_named}
use Rattle.tau_output.proofs.storming.behaviour_named.Goals as goal

pub loop-number-init : goal.loop-number-init
loop-number-init c = λ k b l at. absurd (omega (arith, l))

pub returns-then-is_named-clause-named : goal.returns-then-is_named-clause-named
returns-then-is_named-clause-named c =
    let bs = c.items-behaviours.result.now in
    let k = c.loop-number.number in
    let b = c.index-behaviours-number.result in
    let read : slice_get bs k ≡ Some b = slice_get_read bs (length bs) k b refl (omega (arith, c.loop-number-test.true)) c.index-behaviours-number.is in
    let here : slice_get c.args.program.now.behaviours k ≡ Some b = sym (ap (λ (l : List NamedCode). slice_get l k) c.items-behaviours.ensures) ∙ read in
    is_named c.args.program.now c.args.name.now k b here (c.is_named.ensures.0 c.if-is_named.true)

pub loop-number-preserved : goal.loop-number-preserved
loop-number-preserved c =
    let bs = c.items-behaviours.result.now in
    let k = c.loop-number.number in
    let b = c.index-behaviours-number.result in
    let read : slice_get bs k ≡ Some b = slice_get_read bs (length bs) k b refl (omega (arith, c.loop-number-test.true)) c.index-behaviours-number.is in
    let here : slice_get c.args.program.now.behaviours k ≡ Some b = sym (ap (λ (l : List NamedCode). slice_get l k) c.items-behaviours.ensures) ∙ read in
    unnamed_more c.args.program.now c.args.name.now k b here (λ same. let yes = c.is_named.ensures.1 same in let no = c.if-is_named.false in absurd (cc)) c.loop-number.invariant

pub returns-clause-none : goal.returns-clause-none
returns-clause-none c = λ none. is_unnamed c.args.program.now c.args.name.now c.loop-number.number (omega (arith, c.loop-number-test.false, ap length c.items-behaviours.ensures)) c.loop-number.invariant
