use Rattle.std.proofs.Common.{◌≡◌, ℕ, ◌+◌, rules, subst, sym, ap, ◌∙◌, ◌≤◌, ◌<◌, length}
use Rattle.tau_seat.specs.Lists.{Behind, times, total}
use Rattle.tau_seat.specs.Plays.{cleared, both_of, HasSeenSound}
use Rattle.tau_seat.proofs.Sums.{short_told, mine_both, longer_numbers}
use Rattle.tau_seat.specs.Turns.{mine}
use Rattle.tau_seat.proofs.Keeps.{joins, learns}
use Rattle.tau_seat.proofs.table.SeatTable.join.Goals as goal

pub join_seat-requires : goal.join_seat-requires
join_seat-requires g c = (search rules, search rules, search rules, search rules, joins _ _ _ _ _ _ _ _ (search rules) (search rules) (search rules) (search rules) (search rules))

pub load-requires : goal.load-requires
load-requires g c = (
  search rules,
  search rules,
  learns _ _ _ _ g.met.B.Kept.prefixes _ _ c.join_seat.new.seat.me (search rules) (subst (λ v. length v.told ≤ length v.seen) (sym (ap (λ m. m.0) c.join_seat.ensures.2)) (short_told c.args.seat.now.me.0.seen c.args.from.me.0.seen))
      (subst (λ v. 0 < length v.numbers) (sym (ap (λ m. m.0) c.join_seat.ensures.2)) (longer_numbers c.args.seat.now.me.0.numbers c.args.from.me.0.numbers c.requires.idle.2)),
)

pub returns-clause-sound : goal.returns-clause-sound
returns-clause-sound g c =
    let k = g.B.Kept in
    let s = c.load.ensures.2.3 in
    subst (λ v. HasSeenSound k.key_of k.entries k.is_sound v) (sym (ap (λ m. m.0) c.load.ensures.2.0)) (s.0, s.1, s.2)

pub returns-clause-begins : goal.returns-clause-begins
returns-clause-begins g c = subst (λ v. Behind v.teller v.told v.seen) (ap (λ m. m.0) c.join_seat.ensures.2) c.load.ensures.2.1

pub returns-clause-both : goal.returns-clause-both
returns-clause-both g c = c.load.ensures.2.0 ∙ ap (λ m. (cleared m.0, m.1)) c.join_seat.ensures.2 ∙ ap (λ l. (cleared (both_of c.args.seat.now.me.0 c.args.from.me.0), l)) c.requires.idle.0.2

pub returns-clause-apart : goal.returns-clause-apart
returns-clause-apart g c = λ x. subst (λ ns. times x ns ≤ 1) (sym (ap (λ m. m.0.numbers) c.load.ensures.2.0)) (c.load.ensures.2.2 x)

pub returns-clause-places : goal.returns-clause-places
returns-clause-places g c =
    let v = c.args.seat.now.me.0 in
    let w = c.args.from.me.0 in
    let told = subst (λ u. Behind u.teller u.told u.seen) (ap (λ m. m.0) c.join_seat.ensures.2) c.load.ensures.2.1 in
    let apart = subst (λ u. (x : ℕ) → times x u.numbers ≤ 1) (ap (λ m. m.0) c.join_seat.ensures.2) c.load.ensures.2.2 in
    λ f. subst (λ u. total f (mine u) ≡ total f (mine v) + total f (mine w)) (sym (ap (λ m. m.0) (c.load.ensures.2.0 ∙ ap (λ m. (cleared m.0, m.1)) c.join_seat.ensures.2)))
    (mine_both v.numbers w.numbers v.seen w.seen f apart told)
