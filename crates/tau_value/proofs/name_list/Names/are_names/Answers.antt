use Rattle.std.proofs.Common.{◌≡◌, ◌<◌, Some, false, eqb, not, length, get_or, arith, ap, sym, ◌∙◌, refl}
use Rattle.std.specs.Option.{option_eq}
use Rattle.std.proofs.lemmas.Bool.{eq-eqb, not-false}
use Rattle.tau_value.proofs.NameLemmas.{are_names-found, AreFound-more, place_of-at, some_from_eq}
use Rattle.tau_value.proofs.name_list.Names.are_names.Goals as goal

pub loop-k-init : goal.loop-k-init
loop-k-init c = record { named = λ j d lt. absurd (omega arith); found = λ j d lt. absurd (omega arith) }

pub returns-then-ne : goal.returns-then-ne
returns-then-ne c = (
  λ h. cc,
  λ are. let names = c.args.self.now in
      let k = c.loop-k.k in
      let item = c.item-item.result in
      let slice : c.deref-item-items.result.now ≡ names = c.deref-item-items.ensures.value ∙ c.self.view_is in
      let lt : k < length names = omega (arith, ap length slice) in
      let is : get_or names k item ≡ item = ap (λ xs. get_or xs k item) (sym slice) ∙ sym c.item-item.is in
      let found : c.find.result ≡ Some k = c.find.ensures ∙ place_of-at names k item are.distinct lt is in
      let no : c.ne.result ≡ false = c.ne.ensures ∙ ap (λ o. not (option_eq eqb o (Some k))) found ∙ ap not (eq-eqb k k refl) in
      sym no ∙ c.if-ne.true,
)

pub loop-k-preserved : goal.loop-k-preserved
loop-k-preserved c =
    let names = c.args.self.now in
    let k = c.loop-k.k in
    let item = c.item-item.result in
    let slice : c.deref-item-items.result.now ≡ names = c.deref-item-items.ensures.value ∙ c.self.view_is in
    let lt : k < length names = omega (arith, ap length slice) in
    let is : get_or names k item ≡ item = ap (λ xs. get_or xs k item) (sym slice) ∙ sym c.item-item.is in
    let found = some_from_eq c.find.result k (not-false _ (sym c.ne.ensures ∙ c.if-ne.false)) in
    AreFound-more names k item c.loop-k.invariant lt is (sym c.is_name.ensures ∙ c.if-not-is_name.false) (sym c.find.ensures ∙ found)

pub returns : goal.returns
returns c =
    let slice : c.deref-item-items.result.now ≡ c.args.self.now = c.deref-item-items.ensures.value ∙ c.self.view_is in
    (λ h. are_names-found c.args.self.now c.loop-k.k (omega (arith, ap length slice)) c.loop-k.invariant, λ h. refl)
