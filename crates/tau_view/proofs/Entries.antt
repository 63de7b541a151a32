-- Entries that were read, as pairs of a transactor and its history.
use Rattle.std.proofs.Common.{◌≡◌, ℕ, ◌+◌, ◌<◌, List, ◌∷◌, ◌++◌, map, take, drop, set, eqb, cond, take-append-drop, length, get_or, Some, Less, Greater, sym, ap, ◌∙◌, subst, arith, add-one}
use Rattle.std.specs.Ordering.{nat_cmp}
use Rattle.std.specs.Cmp.{ranked}
use Rattle.std.proofs.lemmas.List.{get_or-map, length-map, map-append, map-set, take-map, drop-map}
use Rattle.tau_view.specs.declared.entry.Entry.{Entry}
use Rattle.tau_view.specs.Entries.{entry_of, entries_of}
use Rattle.tau_view.specs.Inner.Places.{Between, IsAt, IsGap, blank}
use Rattle.std.specs.List.{insert}
use Rattle.tau_view.specs.Rules.{noted_in}
use Rattle.tau_view.specs.Stored.{AscendsFrom, history_in}
use Rattle.tau_view.proofs.Ascending.{below_at, above_at, place_history, ascends_set, history_in-set, ascends_between, history_in-between}

module _ (es : List Entry) (m : ℕ) (e : Entry) (within : m < length es) where
  pub read : get_or (map entry_of es) m blank ≡ entry_of (get_or es m e)
  read = get_or-map entry_of es m e blank within

  in_map : m < length (map entry_of es)
  in_map = omega (arith, length-map es entry_of)

  pub below_read : (who : ℕ) → AscendsFrom 0 (map entry_of es) → Less ≡ nat_cmp (get_or es m e).who who → Between 0 who (take (m + 1) (map entry_of es))
  below_read who a c =
      let less : (get_or es m e).who < who = ranked (get_or es m e).who who Less c in
      let at : (get_or (map entry_of es) m blank).0 < who = rw read less in
      rw add-one (below_at blank 0 who m (map entry_of es) a in_map at)

  pub above_read : (who : ℕ) → AscendsFrom 0 (map entry_of es) → Greater ≡ nat_cmp (get_or es m e).who who → AscendsFrom (who + 1) (drop m (map entry_of es))
  above_read who a c =
      let more : who < (get_or es m e).who = ranked (get_or es m e).who who Greater c in
      let at : who < (get_or (map entry_of es) m blank).0 = rw read more in
      above_at blank 0 who m (map entry_of es) a in_map at

pub got : (es : List Entry) (who k : ℕ) (e : Entry) → AscendsFrom 0 (map entry_of es) → IsAt who (map entry_of es) k → e ≡ get_or es k e → history_in (map entry_of es) who ≡ Some e.history.history
got es who k e a p is =
    let within : k < length es = omega (arith, length-map es entry_of, p.within) in
    place_history who k (map entry_of es) a p ∙ ap (λ x. Some x.1) (get_or-map entry_of es k e blank within) ∙ ap (λ x. Some x.history.history) (sym is)

-- the entry of a transactor is put in the place of the one there
pub set_entries : (es : List Entry) (who k : ℕ) (e : Entry) → IsAt who (entries_of es) k → e.who ≡ who → entries_of (set es k e) ≡ set (entries_of es) k ((get_or (entries_of es) k blank).0, e.history.history)
set_entries es who k e at is = map-set entry_of es k e ∙ ap (λ w. set (entries_of es) k (w, e.history.history)) (is ∙ sym at.is)

pub put_in_place : (es : List Entry) (who k : ℕ) (e : Entry) → AscendsFrom 0 (entries_of es) → IsAt who (entries_of es) k → e.who ≡ who → AscendsFrom 0 (entries_of (set es k e)) × (history_in (entries_of (set es k e)) ≡ noted_in who e.history.history (history_in (entries_of es)))
put_in_place es who k e a at is =
    let same = set_entries es who k e at is in (
      subst (AscendsFrom 0) (sym same) (ascends_set blank 0 k (entries_of es) e.history.history a at.within),
      ap history_in same ∙ (λ i u. (history_in-set blank 0 k (entries_of es) e.history.history u a at.within ∙ ap (λ w. cond (eqb u w) (Some e.history.history) (history_in (entries_of es) u)) at.is) i),
    )

-- or where it would stand
pub insert_entries : (es : List Entry) (who k : ℕ) (e : Entry) → e.who ≡ who → entries_of (insert es k e) ≡ take k (entries_of es) ++ (who, e.history.history) ∷ drop k (entries_of es)
insert_entries es who k e is =
    map-append entry_of (take k es) (e ∷ drop k es)
    ∙ λ i. sym (take-map entry_of k es) i ++ (is i, e.history.history) ∷ sym (drop-map entry_of k es) i

pub put_in_gap : (es : List Entry) (who k : ℕ) (e : Entry) → AscendsFrom 0 (entries_of es) → IsGap who (entries_of es) k → e.who ≡ who → AscendsFrom 0 (entries_of (insert es k e)) × (history_in (entries_of (insert es k e)) ≡ noted_in who e.history.history (history_in (entries_of es)))
put_in_gap es who k e a gap is =
    let xs = take k (entries_of es) in
    let ys = drop k (entries_of es) in
    let same = insert_entries es who k e is in (
      subst (AscendsFrom 0) (sym same) (ascends_between 0 who xs ys e.history.history gap.below gap.above),
      ap history_in same ∙ (λ i u. (history_in-between 0 who xs ys e.history.history u gap.below gap.above ∙ ap (λ zs. cond (eqb u who) (Some e.history.history) (history_in zs u)) (take-append-drop k (entries_of es))) i),
    )
