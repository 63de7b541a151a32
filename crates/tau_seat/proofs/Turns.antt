-- What whole calls do to a seat.
use Rattle.std.proofs.Common.{◌≡◌, ℕ, ◌+◌, ◌<◌, List, [], ◌∷◌, ◌++◌, length, get_or, Option, Some, None, sym, refl, ap, ◌∙◌, subst, arith, length-append}
use Rattle.std.specs.Prelude.{unwrap_or, nat_le}
use Rattle.atomic_table.specs.Table.{Me, rest, Final, Seen}
use mathlib.Core.Option.{some, some-injective}
use lib.ListN.{get_elem?}
use Rattle.tau_seat.specs.declared.view.Named.{Named}
use Rattle.tau_seat.specs.Rule.{Orderly}
use Rattle.tau_seat.proofs.Keeps.{closes}
use Rattle.tau_seat.specs.declared.view.SeatView.{SeatView}
use Rattle.tau_seat.specs.Lists.{bare, places, upto, total, bit}
use Rattle.tau_seat.specs.Plays.{waiting, grown, resting, Begun, Takes}
use Rattle.tau_seat.specs.Turns.{Watches, Makes, mine}
use Rattle.tau_seat.proofs.Sums.{places_watch, places_grow, times_head}
use Rattle.std.specs.Prelude.{slice_index}

module _ {B G E : Type 0} where
  -- what is read is what lay there
  pub was_there : (m n : Me (Option B) (SeatView G E)) (b : B) (old : Option B) {v : SeatView G E} → n ≡ (v, (0, Some b) ∷ m.1) → n.1 ≡ (0, old) ∷ rest n.1 → old ≡ Some b
  was_there m n b old e at = ap (λ (c : List (ℕ × Option B)). (get_or c 0 (0, old)).1) (sym at ∙ ap (λ (x : Me (Option B) (SeatView G E)). x.1) e)

module _ {B G E : Type 0} (key_of : B → G) (entries : B → List E) (is_sound : G → List E → Type 0) where
  pub takes_out : (v : SeatView G E) (m n n' : Me (Option B) (SeatView G E)) (t : ℕ) (old : Option B) (b : B) → m ≡ (waiting v t, []) → Begun key_of entries is_sound m n
      → n.1 ≡ (0, old) ∷ rest n.1 → old ≡ Some b → n' ≡ (n.0, (0, None) ∷ rest n.1) → Takes key_of entries is_sound v b n'
  takes_out v m n n' t old b is begun at some_b after =
      let g = subst (λ x. Begun key_of entries is_sound x n) is begun in
      let same : g.0 ≡ b = ap (λ o. unwrap_or o b) (sym (was_there (waiting v t, []) n g.0 old g.2 at) ∙ some_b) in
      subst (λ x. Takes key_of entries is_sound v x n') same
      (t, g.1, after ∙ ap (λ (x : Me (Option B) (SeatView G E)). (x.0, (0, None) ∷ rest x.1)) g.2, g.3, g.4, g.5, g.6)

  pub gives_back : (key : Named G) (id : ℕ) (v : SeatView G E) (ws : List ℕ) (xs : List (Option B)) (kept : Option B) → Final (Seen (Orderly key_of entries is_sound key) id v) ws xs
      → length v.numbers ≡ key.count → v.tickets ≡ 0 → 0 < length v.numbers → get_elem? xs 0 ≡ some kept
      → (b : B) × (kept ≡ Some b) × (key_of b ≡ key.key) × (entries b ≡ bare v.seen) × (places v.numbers 0 v.seen ≡ upto 0 (length v.seen)) × (v.names ≡ Some key.key) × (total (λ (x : E × ℕ). bit (nat_le key.count x.1)) v.seen ≡ 0)
  gives_back key id v ws xs kept f every none_held some_number there =
      let c = closes key_of entries is_sound key f.0 id v f.1.0 f.1.1 every none_held some_number in
      let home = c.0 in
      (home.0, some-injective kept (Some home.0) (sym there ∙ f.4 0 (Some home.0) home.1), home.2, home.3, c.1, c.2, c.3)

  pub watches : (v : SeatView G E) (b : B) (n n' : Me (Option B) (SeatView G E)) → Takes key_of entries is_sound v b n → n' ≡ (resting n.0, []) → Watches v n'.0
  watches v b n n' t after =
      subst (λ (x : Me (Option B) (SeatView G E)). Watches v x.0) (sym (after ∙ ap (λ (x : Me (Option B) (SeatView G E)). (resting x.0, [])) t.2))
      ((refl, refl), (t.3.0, t.3.1, ap (places v.numbers 0) t.3.1 ∙ places_watch v.numbers v.seen t.3.0 t.3.2))

  pub makes : (v : SeatView G E) (b : B) (n n' : Me (Option B) (SeatView G E)) (e : E) → 0 < length v.numbers → Takes key_of entries is_sound v b n → n' ≡ (resting (grown n.0 e), []) → Makes v n'.0 e
  makes v b n n' e some_number t after =
      let has = times_head v.numbers some_number in
      let o : ℕ = slice_index v.numbers 0 in
      subst (λ (x : Me (Option B) (SeatView G E)). Makes v x.0 e) (sym (after ∙ ap (λ (x : Me (Option B) (SeatView G E)). (resting (grown x.0 e), [])) t.2)) (
        (refl, refl),
        (
          t.3.0,
          o,
          ap (λ l. l ++ (e, o) ∷ []) t.3.1,
          has,
          places_grow v.numbers t.1 e o has ∙ ap (λ l. places v.numbers 0 l ++ length l ∷ []) t.3.1 ∙ ap (λ p. p ++ length (v.seen ++ t.3.0) ∷ []) (places_watch v.numbers v.seen t.3.0 t.3.2),
        ),
      )
