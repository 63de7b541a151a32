use Rattle.std.proofs.Common.{◌≡◌, rules, refl, ap, sym, ◌∙◌, Some, subst}
use Rattle.std.specs.Prelude.{IsSome, unwrap_or}
use Rattle.tau_seat.proofs.Turns.{gives_back}
use Rattle.tau_seat.proofs.table.SeatTable.close.Goals as goal

pub unwrap-requires : goal.unwrap-requires
unwrap-requires g c =
    let k = g.B.Kept in
    let back = gives_back k.key_of k.entries k.is_sound c.args.self.table.shared.key c.args.seat.id c.args.seat.me.0 _ _ c.take-kept.result c.close_with-closed.ensures.values.2 c.requires.all c.requires.idle.0 c.requires.some c.take-kept.ensures.value in
    subst (λ o. IsSome o) (sym back.1) refl

pub returns-clause-value : goal.returns-clause-value
returns-clause-value g c =
    let k = g.B.Kept in
    let back = gives_back k.key_of k.entries k.is_sound c.args.self.table.shared.key c.args.seat.id c.args.seat.me.0 _ _ c.take-kept.result c.close_with-closed.ensures.values.2 c.requires.all c.requires.idle.0 c.requires.some c.take-kept.ensures.value in
    let un : c.take-kept.result ≡ Some c.unwrap.result = search rules in
    let same : back.0 ≡ c.unwrap.result = ap (λ o. unwrap_or o c.unwrap.result) (sym back.1 ∙ un) in
    ap k.entries (sym same) ∙ back.3

pub returns-clause-names : goal.returns-clause-names
returns-clause-names g c =
    let k = g.B.Kept in
    let back = gives_back k.key_of k.entries k.is_sound c.args.self.table.shared.key c.args.seat.id c.args.seat.me.0 _ _ c.take-kept.result c.close_with-closed.ensures.values.2 c.requires.all c.requires.idle.0 c.requires.some c.take-kept.ensures.value in
    let un : c.take-kept.result ≡ Some c.unwrap.result = search rules in
    let same : back.0 ≡ c.unwrap.result = ap (λ o. unwrap_or o c.unwrap.result) (sym back.1 ∙ un) in
    back.5 ∙ ap Some (sym back.2) ∙ ap (λ b. Some (k.key_of b)) same

pub returns-clause-places : goal.returns-clause-places
returns-clause-places g c =
    let k = g.B.Kept in
    let back = gives_back k.key_of k.entries k.is_sound c.args.self.table.shared.key c.args.seat.id c.args.seat.me.0 _ _ c.take-kept.result c.close_with-closed.ensures.values.2 c.requires.all c.requires.idle.0 c.requires.some c.take-kept.ensures.value in
    back.4

pub returns-clause-owners : goal.returns-clause-owners
returns-clause-owners g c =
    let k = g.B.Kept in
    let back = gives_back k.key_of k.entries k.is_sound c.args.self.table.shared.key c.args.seat.id c.args.seat.me.0 _ _ c.take-kept.result c.close_with-closed.ensures.values.2 c.requires.all c.requires.idle.0 c.requires.some c.take-kept.ensures.value in
    back.6
