-- Each step keeps the rule.
use Rattle.std.proofs.Common.{◌≡◌, ℕ, zero, suc, ◌+◌, ◌%◌, ◌^◌, ◌<◌, ◌≤◌, ◌≢◌, List, [], ◌∷◌, ◌++◌, length, set, true, false, true≢false, Option, Some, sym, refl, ap, ◌∙◌, subst, inl, inr, ⊎_elim, arith, length-append, append-nil, append_assoc}
use Rattle.std.specs.Prelude.{slice_index, slice_set, nat_lt, nat_le, nat_eq, unwrap_or}
use mathlib.Core.Logic.{dite}
use native.Mathlib.Decide.{ℕ_discrete}
use mathlib.Core.Option.{some, none, some-injective, some-ne-none}
use lib.ListN.{get_elem?}
use Rattle.atomic_table.specs.Table.{State, Me, Act, Allows, opening, Splits, Joins, Valid, carried_after, stepped, step, keeps, takes, gives}
use Rattle.atomic_table.proofs.Lists.{at_set, at_snoc, at_longer, set_here, set_else, set_again, one_turn}
use Rattle.tau_seat.specs.declared.view.SeatView.{SeatView}
use Rattle.tau_seat.specs.declared.view.Named.{Named}
use Rattle.tau_seat.specs.Lists.{total, times, bit, upto, places, bare}
use Rattle.tau_seat.specs.Rule.{turn_of_word, first_view, Fits, Apart, AtHome, Out, Orderly}
use Rattle.tau_seat.specs.Plays.{cleared, waiting, serving, grown, resting, served, Holds, HoldsMore, counted, learned, front_of, back_of, both_of, spent, drawn, looked}
use Rattle.tau_seat.proofs.Sums.{total_mono, total-append, total-set, term_le, terms_le, cut_total, length_cut, length_upto, times_first, no_owner, owned_part, behind_both, behind_longer, bit_le_one, bits_add, times_head, bare_snoc, bare_append, total_only, no_numbers, owns_all, every_place}

module _ {G E : Type 0} where
  fits_set : (key : G) (sv out : ℕ) (log : List (E × ℕ)) (views : List (SeatView G E)) (id : ℕ) (w : SeatView G E)
      → ((j : ℕ) (u : SeatView G E) → j ≢ id → get_elem? views j ≡ some u → Fits key sv out log u) → Fits key sv out log w
      → (j : ℕ) (u : SeatView G E) → get_elem? (set views id w) j ≡ some u → Fits key sv out log u
  fits_set key sv out log views id w others here j u e =
      ⊎_elim (λ t. subst (λ (x : SeatView G E). Fits key sv out log x) t.1 here) (λ t. others j u t.0 t.1) (at_set views id j w u e)

  apart_set : (views : List (SeatView G E)) (id : ℕ) (w : SeatView G E) → Apart views
      → ((j : ℕ) (u : SeatView G E) → j ≢ id → get_elem? views j ≡ some u → 0 < u.tickets → 0 < w.tickets → u.ticket ≢ w.ticket) → Apart (set views id w)
  apart_set views id w old new j k u x eu ex tu tx same =
      ⊎_elim
      (λ t. ⊎_elim
      (λ t'. t.0 ∙ sym t'.0)
      (λ t'. absurd (new k x t'.0 t'.1 tx (subst (λ (y : SeatView G E). 0 < y.tickets) (sym t.1) tu) (sym same ∙ sym (ap (λ (y : SeatView G E). y.ticket) t.1))))
      (at_set views id k w x ex))
      (λ t. ⊎_elim
      (λ t'. absurd (new j u t.0 t.1 tu (subst (λ (y : SeatView G E). 0 < y.tickets) (sym t'.1) tx) (same ∙ sym (ap (λ (y : SeatView G E). y.ticket) t'.1))))
      (λ t'. old j k u x t.1 t'.1 tu tx same)
      (at_set views id k w x ex))
      (at_set views id j w u eu)

  off : {P : Type 0} → (v : SeatView G E) → v.turn ≡ false → v.turn ≡ true → P
  off v is_off is_on = absurd (true≢false (sym is_on ∙ is_off))

  -- the seat that has the turn is another
  out_set : (views : List (SeatView G E)) (id : ℕ) (v w : SeatView G E) → get_elem? views id ≡ some v → v.turn ≡ false → Out views → Out (set views id w)
  out_set views id v w at is_off (j, u, e, is_on) =
      dite (ℕ_discrete j id)
      (λ same. off v is_off (subst (λ (x : SeatView G E). x.turn ≡ true) (some-injective u v (sym e ∙ ap (get_elem? views) same ∙ at)) is_on))
      (λ other. (j, u, set_else views id j w other ∙ e, is_on))

at_below : {A : Type 0} (l : List A) (i : ℕ) (a : A) → get_elem? l i ≡ some a → i < length l
at_below [] i a e = absurd (some-ne-none a (sym e))
at_below (x ∷ xs) zero a e = omega arith
at_below (x ∷ xs) (suc i) a e = let b = at_below xs i a e in omega (arith, b)

module _ {B G E : Type 0} (key_of : B → G) (entries : B → List E) (is_sound : G → List E → Type 0) (key : Named G) where
  abbrev Rule : State (Option B) (SeatView G E) → Type 0
  Rule s = Orderly key_of entries is_sound key s

  pub draws : (n id : ℕ) (m : Me (Option B) (SeatView G E)) → 0 < length m.0.numbers → m.0.tickets ≡ 0 → m.0.turn ≡ false
      → Allows (Orderly key_of entries is_sound key) n id m 0 (λ k. (k + 1) % 2 ^ 64) (drawn (step n 0 1 0 none) m)
  draws n id m some_number no_ticket no_turn s h wide at _ =
      let v = m.0 in
      let w = waiting v h.out in
      let mine = h.fits id v at in (
        w,
        keeps,
        tt,
        record {
          serving = h.serving;
          out = h.out + 1;
          log = h.log;
          words = ap (λ ws. slice_set ws 0 ((slice_index ws 0 + 1) % 2 ^ 64)) h.words ∙ ap (λ k. k ∷ h.serving % turn_of_word ∷ length h.log % turn_of_word ∷ []) (omega arith);
          small = h.small;
          sizes = (let t = total-set (λ (u : SeatView G E). length u.numbers) s.views id v w at in let z = h.sizes in omega (arith, t, z));
          held = (let t = total-set (λ (u : SeatView G E). u.tickets) s.views id v w at in let z = h.held in omega (arith, t, z, no_ticket));
          shared = (λ x. let t = total-set (λ (u : SeatView G E). times x u.numbers) s.views id v w at in let z = h.shared x in omega (arith, t, z));
          owners = h.owners;
          sound = h.sound;
          home = ⊎_elim inl (λ o. inr (out_set s.views id v w at no_turn o)) h.home;
          fits = fits_set key.key h.serving (h.out + 1) h.log s.views id w
              (λ j u apart e. let f = h.fits j u e in record { named = f.named; behind = f.behind; hears = f.hears; tells = f.tells; few = f.few; one = f.one; between = (λ has. ((f.between has).0, (let b = (f.between has).1 in omega (arith, b)))); at_turn = f.at_turn })
              record { named = mine.named; behind = mine.behind; hears = (h.log, refl, no_owner h.log); tells = (λ x. omega arith); few = some_number; one = omega arith; between = (λ _. ((let z = h.held in omega (arith, z)), omega arith)); at_turn = (λ is_on. absurd (true≢false (sym is_on))) };
          apart = apart_set s.views id w h.apart (λ j u apart e has _ same. let b = ((h.fits j u e).between has).1 in absurd (omega (arith, b, same)));
        },
        (h.out, refl, ap (λ ws. slice_index ws 0) h.words),
      )

  -- a step that changes nothing
  still : (s : State (Option B) (SeatView G E)) (id : ℕ) (v : SeatView G E) → Rule s → get_elem? s.views id ≡ some v
      → Rule record { words = slice_set s.words 1 (slice_index s.words 1); homes = s.homes; views = set s.views id v }
  still s id v h at = subst (λ vs. Rule record { words = slice_set s.words 1 (slice_index s.words 1); homes = s.homes; views = vs }) (sym (set_again s.views id v at))
      record {
        serving = h.serving;
        out = h.out;
        log = h.log;
        words = ap (λ ws. slice_set ws 1 (slice_index ws 1)) h.words;
        small = h.small;
        sizes = h.sizes;
        held = h.held;
        shared = h.shared;
        owners = h.owners;
        sound = h.sound;
        home = h.home;
        fits = h.fits;
        apart = h.apart;
      }

  -- fewer tickets are out than a word counts
  few_out : (s : State (Option B) (SeatView G E)) (h : Rule s) → h.out < h.serving + turn_of_word
  few_out s h = let t = total_mono (λ (u : SeatView G E). u.tickets) (λ u. length u.numbers) s.views (λ j u e. (h.fits j u e).few) in
      let a = h.held in let z = h.sizes in let c = h.small in omega (arith, t, a, z, c)

  -- two seats whose ticket is served are one
  one_served : (s : State (Option B) (SeatView G E)) (h : Rule s) (j id : ℕ) (u v : SeatView G E) → get_elem? s.views j ≡ some u → get_elem? s.views id ≡ some v
      → u.turn ≡ true → 0 < v.tickets → v.ticket ≡ h.serving → u ≡ v
  one_served s h j id u v e at is_on has here =
      let t = (h.fits j u e).at_turn is_on in
      let same = h.apart j id u v e at t.0 has (t.1 ∙ sym here) in
      some-injective u v (sym e ∙ ap (get_elem? s.views) same ∙ at)

  abbrev Seen_by : (n id : ℕ) (m : Me (Option B) (SeatView G E)) (s : State (Option B) (SeatView G E)) → Type 0
  Seen_by n id m s = (w : SeatView G E) × (a : Act (Option B)) × Valid s.homes m.1 a × Rule (stepped s 1 (slice_index s.words 1) id m.1 w a)
      × looked key_of entries is_sound (step n 1 0 0 none) m (slice_index s.words 1) (w, carried_after m.1 a)

  missed : (n id : ℕ) (m : Me (Option B) (SeatView G E)) (s : State (Option B) (SeatView G E)) → Rule s → get_elem? s.views id ≡ some m.0
      → slice_index s.words 1 ≢ m.0.ticket % turn_of_word → Seen_by n id m s
  missed n id m s h at miss = (m.0, keeps, tt, still s id m.0 h at, ((λ hit. absurd (miss hit)), (λ _. refl)))

  hits : (n id : ℕ) (m : Me (Option B) (SeatView G E)) (s : State (Option B) (SeatView G E)) (h : Rule s) → get_elem? s.views id ≡ some m.0
      → 0 < m.0.tickets → h.serving ≡ m.0.ticket → slice_index s.words 1 ≡ m.0.ticket % turn_of_word → AtHome key_of entries is_sound key.key h.log s.homes → Seen_by n id m s
  hits n id m s h at has here hit (b, at_home, its_key, its_entries) =
      let v = m.0 in
      let w = serving v h.log in
      let mine = h.fits id v at in (
        w,
        takes 0 (Some b),
        at_home,
        record {
          serving = h.serving;
          out = h.out;
          log = h.log;
          words = ap (λ ws. slice_set ws 1 (slice_index ws 1)) h.words;
          small = h.small;
          sizes = (let t = total-set (λ (u : SeatView G E). length u.numbers) s.views id v w at in let z = h.sizes in omega (arith, t, z));
          held = (let t = total-set (λ (u : SeatView G E). u.tickets) s.views id v w at in let z = h.held in omega (arith, t, z));
          shared = (λ x. let t = total-set (λ (u : SeatView G E). times x u.numbers) s.views id v w at in let z = h.shared x in omega (arith, t, z));
          owners = h.owners;
          sound = h.sound;
          home = inr (id, w, set_here s.views id w (at_below s.views id v at), refl);
          fits = fits_set key.key h.serving h.out h.log s.views id w (λ j u apart e. h.fits j u e)
              record { named = mine.named; behind = ([], sym (append-nil h.log), refl); hears = (h.log, refl, no_owner h.log); tells = (λ x. omega arith); few = mine.few; one = mine.one; between = mine.between; at_turn = (λ _. (has, sym here, refl)) };
          apart = apart_set s.views id w h.apart (λ j u apart e tu _ same. absurd (apart (h.apart j id u v e at tu has same)));
        },
        ((λ _. (b, h.log, refl, mine.behind, mine.named (let f = mine.few in omega (arith, f, has)) ∙ ap Some (sym its_key), its_entries, subst (λ k. is_sound k (bare h.log)) (sym its_key) h.sound)), (λ miss. absurd (miss hit))),
      )

  pub looks : (n id : ℕ) (m : Me (Option B) (SeatView G E)) → 0 < m.0.tickets → m.0.turn ≡ false
      → Allows (Orderly key_of entries is_sound key) n id m 1 (λ k. k) (looked key_of entries is_sound (step n 1 0 0 none) m)
  looks n id m has no_turn s h _ at _ =
      dite (ℕ_discrete (slice_index s.words 1) (m.0.ticket % turn_of_word))
      (λ hit.
      let mine = h.fits id m.0 at in
      let b = mine.between has in
      let o = few_out s h in
      let here = one_turn h.serving m.0.ticket turn_of_word b.0 (let c = b.1 in omega (arith, c, o)) (sym (ap (λ ws. slice_index ws 1) h.words) ∙ hit) in
      ⊎_elim (hits n id m s h at has here hit) (λ (t : Out s.views). off m.0 no_turn (subst (λ (x : SeatView G E). x.turn ≡ true) (one_served s h t.0 id t.1 m.0 t.2 at t.3 has (sym here)) t.3)) h.home)
      (λ miss. missed n id m s h at miss)

  pub opens : (b : B) → key_of b ≡ key.key → entries b ≡ [] → is_sound key.key [] → key.count < 4294967296
      → Orderly key_of entries is_sound key (opening (0 ∷ 0 ∷ 0 ∷ []) (Some b ∷ []) (first_view key))
  opens b its_key none_yet sound small =
      record {
        serving = 0;
        out = 0;
        log = [];
        words = refl;
        small = small;
        sizes = omega (arith, length_upto 0 key.count);
        held = refl;
        shared = (λ x. omega (arith, times_first x key.count));
        owners = refl;
        sound = sound;
        home = inl (b, refl, its_key, none_yet);
        fits = one;
        apart = both_one;
      }
    where
      one : (j : ℕ) (u : SeatView G E) → get_elem? {A = SeatView G E} (first_view key ∷ []) j ≡ some u → Fits key.key 0 0 [] u
      one zero u e = subst (λ (x : SeatView G E). Fits key.key 0 0 [] x) (some-injective _ _ e)
          record { named = (λ _. refl); behind = ([], refl, refl); hears = ([], refl, refl); tells = (λ x. omega arith); few = omega arith; one = omega arith; between = (λ h. absurd (omega arith)); at_turn = (λ is_on. absurd (true≢false (sym is_on))) }
      one (suc j) u e = absurd (some-ne-none u (sym e))

      both_one : Apart {G = G} {E = E} (first_view key ∷ [])
      both_one zero zero u v eu ev tu tv same = refl
      both_one zero (suc k) u v eu ev tu tv same = absurd (some-ne-none v (sym ev))
      both_one (suc j) k u v eu ev tu tv same = absurd (some-ne-none u (sym eu))

  pub opens_at : (b : B) (xs : List (Option B)) → xs ≡ Some b ∷ [] → key_of b ≡ key.key → entries b ≡ [] → is_sound key.key [] → key.count < 4294967296
      → Orderly key_of entries is_sound key (opening (0 ∷ 0 ∷ 0 ∷ []) xs (first_view key))
  opens_at b xs is its_key none_yet sound small =
      subst (λ ys. Orderly key_of entries is_sound key (opening (0 ∷ 0 ∷ 0 ∷ []) ys (first_view key))) (sym is) (opens b its_key none_yet sound small)

  out_snoc : (views : List (SeatView G E)) (r : SeatView G E) → Out views → Out (views ++ r ∷ [])
  out_snoc views r (j, u, e, is_on) = (j, u, at_longer views (r ∷ []) j u e, is_on)

  apart_snoc : (views : List (SeatView G E)) (r : SeatView G E) → Apart views → r.tickets ≡ 0 → Apart (views ++ r ∷ [])
  apart_snoc views r old none_held j k u v eu ev tu tv same =
      ⊎_elim
      (λ a. ⊎_elim (λ b. old j k u v a b tu tv same) (λ b. let t = ap (λ (x : SeatView G E). x.tickets) b in absurd (omega (arith, t, none_held, tv))) (at_snoc views r v k ev))
      (λ a. let t = ap (λ (x : SeatView G E). x.tickets) a in absurd (omega (arith, t, none_held, tu)))
      (at_snoc views r u j eu)

  pub splits : (k id : ℕ) (v : SeatView G E) → v.tickets ≡ 0 → v.turn ≡ false → Splits (Orderly key_of entries is_sound key) id v (front_of k v) (back_of k v)
  splits k id v no_ticket no_turn s h at =
      let l = front_of k v in
      let r = back_of k v in
      let mine = h.fits id v at in
      let cut = length_cut k v.numbers in
      record {
        serving = h.serving;
        out = h.out;
        log = h.log;
        words = h.words;
        small = h.small;
        sizes = (let f : SeatView G E → ℕ = λ u. length u.numbers in let t = total-set f s.views id v l at in let a = total-append f (set s.views id l) (r ∷ []) in let z = h.sizes in omega (arith, t, a, z, cut));
        held = (let f : SeatView G E → ℕ = λ u. u.tickets in let t = total-set f s.views id v l at in let a = total-append f (set s.views id l) (r ∷ []) in let z = h.held in omega (arith, t, a, z));
        shared = (λ x. let f : SeatView G E → ℕ = λ u. times x u.numbers in let t = total-set f s.views id v l at in let a = total-append f (set s.views id l) (r ∷ []) in let z = h.shared x in
            let c = cut_total (λ y. bit (Rattle.std.specs.Prelude.nat_eq y x)) k v.numbers in omega (arith, t, a, z, c));
        owners = h.owners;
        sound = h.sound;
        home = ⊎_elim inl (λ o. inr (out_snoc (set s.views id l) r (out_set s.views id v l at no_turn o))) h.home;
        fits = (λ j u e. ⊎_elim
            (λ was. fits_set key.key h.serving h.out h.log s.views id l (λ i x apart there. h.fits i x there)
            record {
              named = (λ some_number. mine.named (omega (arith, some_number, cut)));
              behind = (mine.behind.0, mine.behind.1, (owned_part k v.numbers mine.behind.0 mine.behind.2).0);
              hears = (h.log, refl, no_owner h.log);
              tells = (λ x. omega arith);
              few = omega (arith, no_ticket);
              one = mine.one;
              between = mine.between;
              at_turn = mine.at_turn;
            } j u was)
            (λ same. subst (λ (x : SeatView G E). Fits key.key h.serving h.out h.log x) same
            record {
              named = (λ some_number. mine.named (omega (arith, some_number, cut)));
              behind = (mine.behind.0, mine.behind.1, (owned_part k v.numbers mine.behind.0 mine.behind.2).1);
              hears = (h.log, refl, no_owner h.log);
              tells = (λ x. omega arith);
              few = omega arith;
              one = omega arith;
              between = (λ has. absurd (omega (arith, has)));
              at_turn = (λ is_on. absurd (true≢false (sym is_on)));
            })
            (at_snoc (set s.views id l) r u j e));
        apart = apart_snoc (set s.views id l) r (apart_set s.views id l h.apart (λ j u apart e tu tw same. absurd (omega (arith, tw, no_ticket)))) refl;
      }

  pub joins : (id : ℕ) (v : SeatView G E) (other : ℕ) (w : SeatView G E) → 0 < length v.numbers → v.tickets ≡ 0 → v.turn ≡ false → w.tickets ≡ 0 → w.turn ≡ false
      → Joins (Orderly key_of entries is_sound key) id v other w (both_of v w) spent
  joins id v other w some_number no_ticket no_turn no_ticket' no_turn' s h at differ at_other =
      let b = both_of v w in
      let mine = h.fits id v at in
      let there : get_elem? s.views other ≡ some w = sym (set_else s.views id other b differ) ∙ at_other in
      let theirs = h.fits other w there in
      let views1 = set s.views id b in
      let pieces = behind_both v.numbers w.numbers v.seen w.seen h.log mine.behind theirs.behind in
      record {
        serving = h.serving;
        out = h.out;
        log = h.log;
        words = h.words;
        small = h.small;
        sizes = (let f : SeatView G E → ℕ = λ u. length u.numbers in let t = total-set f s.views id v b at in let a = total-set f views1 other w spent at_other in let z = h.sizes in let c = length-append v.numbers w.numbers in omega (arith, t, a, z, c));
        held = (let f : SeatView G E → ℕ = λ u. u.tickets in let t = total-set f s.views id v b at in let a = total-set f views1 other w spent at_other in let z = h.held in omega (arith, t, a, z, no_ticket'));
        shared = (λ x. let f : SeatView G E → ℕ = λ u. times x u.numbers in let t = total-set f s.views id v b at in let a = total-set f views1 other w spent at_other in let z = h.shared x in
            let c = total-append (λ y. bit (Rattle.std.specs.Prelude.nat_eq y x)) v.numbers w.numbers in omega (arith, t, a, z, c));
        owners = h.owners;
        sound = h.sound;
        home = ⊎_elim inl (λ o. inr (out_set views1 other w spent at_other no_turn' (out_set s.views id v b at no_turn o))) h.home;
        fits = fits_set key.key h.serving h.out h.log views1 other spent
            (λ j u apart e. fits_set key.key h.serving h.out h.log s.views id b (λ i x _ e'. h.fits i x e')
            record {
              named = (λ _. mine.named some_number);
              behind = pieces.0;
              hears = pieces.1;
              tells = pieces.2;
              few = omega (arith, no_ticket);
              one = mine.one;
              between = mine.between;
              at_turn = (λ is_on. absurd (true≢false (sym is_on ∙ no_turn)));
            } j u e)
            record {
              named = (λ n. absurd (omega (arith, n)));
              behind = (h.log, refl, no_owner h.log);
              hears = (h.log, refl, no_owner h.log);
              tells = (λ x. omega arith);
              few = omega arith;
              one = omega arith;
              between = (λ has. absurd (omega (arith, has)));
              at_turn = (λ is_on. absurd (true≢false (sym is_on)));
            };
        apart = apart_set views1 other spent (apart_set s.views id b h.apart (λ j u apart e tu tw same. absurd (omega (arith, tw, no_ticket)))) (λ j u apart e tu tw same. absurd (omega (arith, tw)));
      }

  pub learns : ((k : G) (xs ys : List E) → is_sound k (xs ++ ys) → is_sound k xs) → (n id : ℕ) (m : Me (Option B) (SeatView G E)) → m.0.turn ≡ false → length m.0.told ≤ length m.0.seen
      → 0 < length m.0.numbers → Allows (Orderly key_of entries is_sound key) n id m 1 (λ k. k) (learned key_of entries is_sound (step n 1 0 0 none) m)
  learns prefixes n id m no_turn short some_number s h _ at _ =
      let v = m.0 in
      let w = cleared v in
      let f = h.fits id v at in (
        w,
        keeps,
        tt,
        record {
          serving = h.serving;
          out = h.out;
          log = h.log;
          words = ap (λ ws. slice_set ws 1 (slice_index ws 1)) h.words;
          small = h.small;
          sizes = (let t = total-set (λ (u : SeatView G E). length u.numbers) s.views id v w at in let z = h.sizes in omega (arith, t, z));
          held = (let t = total-set (λ (u : SeatView G E). u.tickets) s.views id v w at in let z = h.held in omega (arith, t, z));
          shared = (λ x. let t = total-set (λ (u : SeatView G E). times x u.numbers) s.views id v w at in let z = h.shared x in omega (arith, t, z));
          owners = h.owners;
          sound = h.sound;
          home = ⊎_elim inl (λ o. inr (out_set s.views id v w at no_turn o)) h.home;
          fits = fits_set key.key h.serving h.out h.log s.views id w (λ j u apart e. h.fits j u e)
              record { named = f.named; behind = f.behind; hears = (h.log, refl, no_owner h.log); tells = (λ x. omega arith); few = f.few; one = f.one; between = f.between; at_turn = f.at_turn };
          apart = apart_set s.views id w h.apart (λ j u apart e tu tw same. absurd (apart (h.apart j id u v e at tu tw same)));
        },
        (
          refl,
          behind_longer v.teller v.told v.seen h.log f.hears (f.behind.0, f.behind.1) short,
          (λ x. let t = term_le (λ (u : SeatView G E). times x u.numbers) s.views id v at in let z = h.shared x in let o = bit_le_one x key.count in omega (arith, t, z, o)),
          (key.key, f.named some_number, prefixes key.key (bare v.seen) (bare f.behind.0) (subst (is_sound key.key) (ap bare f.behind.1 ∙ bare_append v.seen f.behind.0) h.sound)),
        ),
      )

  pub counts : (n id : ℕ) (m : Me (Option B) (SeatView G E)) → m.0.turn ≡ true → 0 < length m.0.numbers → HoldsMore key_of entries is_sound m
      → Allows (Orderly key_of entries is_sound key) n id m 2 (λ k. (k + 1) % 2 ^ 64) (counted key_of entries is_sound (step n 2 1 0 none) m)
  counts n id m my_turn some_number more s h _ at _ =
      let v = m.0 in
      let e = more.0 in
      let its = more.1 in
      let o : ℕ = slice_index v.numbers 0 in
      let w = grown v e in
      let mine = h.fits id v at in
      let t = mine.at_turn my_turn in
      let log = h.log ++ (e, o) ∷ [] in
      let its_key : key_of its.0 ≡ key.key = ap (λ k. unwrap_or k key.key) (sym its.2 ∙ mine.named some_number) in
      let one_of_mine : 0 < times o v.numbers = times_head v.numbers some_number in
      let all_of_it = h.shared o in
      let at_most = bit_le_one o key.count in
      let is_one : bit (nat_lt o key.count) ≡ 1 = (let z = term_le (λ (u : SeatView G E). times o u.numbers) s.views id v at in omega (arith, one_of_mine, all_of_it, at_most, z)) in (
        w,
        keeps,
        tt,
        record {
          serving = h.serving;
          out = h.out;
          log = log;
          words = ap (λ ws. slice_set ws 2 ((slice_index ws 2 + 1) % 2 ^ 64)) h.words ∙ ap (λ k. h.out % turn_of_word ∷ h.serving % turn_of_word ∷ k ∷ []) (let l = length-append h.log ((e, o) ∷ []) in omega (arith, l));
          small = h.small;
          sizes = (let f : SeatView G E → ℕ = λ u. length u.numbers in let z = total-set f s.views id v w at in let y = h.sizes in omega (arith, z, y));
          held = (let f : SeatView G E → ℕ = λ u. u.tickets in let z = total-set f s.views id v w at in let y = h.held in omega (arith, z, y));
          shared = (λ x. let f : SeatView G E → ℕ = λ u. times x u.numbers in let z = total-set f s.views id v w at in let y = h.shared x in omega (arith, z, y));
          owners = (let z = total-append (λ (x : E × ℕ). bit (nat_le key.count x.1)) h.log ((e, o) ∷ []) in let y = bits_add o key.count in let x = h.owners in omega (arith, z, y, x, is_one));
          sound = subst (λ k. is_sound k (bare log)) its_key (subst (λ xs. is_sound (key_of its.0) xs) (ap (λ (l : List (E × ℕ)). bare l ++ e ∷ []) t.2 ∙ sym (bare_snoc h.log e o)) its.4);
          home = inr (id, w, set_here s.views id w (at_below s.views id v at), my_turn);
          fits = fits_set key.key h.serving h.out log s.views id w
              (λ j u apart there.
              let f = h.fits j u there in
              let z = terms_le (λ (x : SeatView G E). times o x.numbers) s.views id j v u apart at there in
              let a = total-append (λ (x : E × ℕ). times x.1 u.numbers) f.behind.0 ((e, o) ∷ []) in
              let b = f.behind.2 in
              record {
                named = f.named;
                behind = (f.behind.0 ++ (e, o) ∷ [], ap (λ l. l ++ (e, o) ∷ []) f.behind.1 ∙ append_assoc u.seen f.behind.0 ((e, o) ∷ []), omega (arith, z, a, b, one_of_mine, all_of_it, at_most));
                hears = (f.hears.0 ++ (e, o) ∷ [], ap (λ l. l ++ (e, o) ∷ []) f.hears.1 ∙ append_assoc u.told f.hears.0 ((e, o) ∷ []), (let c = total-append (λ (x : E × ℕ). times x.1 u.teller) f.hears.0 ((e, o) ∷ []) in let d = f.hears.2 in let g = f.tells o in omega (arith, z, c, d, g, one_of_mine, all_of_it, at_most)));
                tells = f.tells;
                few = f.few;
                one = f.one;
                between = f.between;
                at_turn = (λ is_on. absurd (apart (let t' = f.at_turn is_on in h.apart j id u v there at t'.0 t.0 (t'.1 ∙ sym t.1))));
              })
              record {
                named = mine.named;
                behind = ([], ap (λ l. l ++ (e, o) ∷ []) (sym t.2) ∙ sym (append-nil (v.seen ++ (e, o) ∷ [])), refl);
                hears = (log, refl, no_owner log);
                tells = (λ x. omega arith);
                few = mine.few;
                one = mine.one;
                between = mine.between;
                at_turn = (λ _. (t.0, t.1, ap (λ l. l ++ (e, o) ∷ []) t.2));
              };
          apart = apart_set s.views id w h.apart (λ j u apart there tu _ same. absurd (apart (h.apart j id u v there at tu t.0 same)));
        },
        (e, its, refl),
      )

  serves_at : (n id : ℕ) (v : SeatView G E) (b : B) → 0 < n → v.turn ≡ true → 0 < length v.numbers → v.names ≡ Some (key_of b) → entries b ≡ bare v.seen
      → Allows (Orderly key_of entries is_sound key) n id (v, (0, Some b) ∷ []) 1 (λ k. (k + 1) % 2 ^ 64) (served (step n 1 1 0 none) (v, (0, Some b) ∷ []))
  serves_at n id v b some_slot my_turn some_number its_name its_entries s h wide at _ =
      let w = resting v in
      let mine = h.fits id v at in
      let t = mine.at_turn my_turn in
      let its_key : key_of b ≡ key.key = ap (λ k. unwrap_or k key.key) (sym its_name ∙ mine.named some_number) in (
        w,
        gives,
        tt,
        record {
          serving = h.serving + 1;
          out = h.out;
          log = h.log;
          words = ap (λ ws. slice_set ws 1 ((slice_index ws 1 + 1) % 2 ^ 64)) h.words ∙ ap (λ k. h.out % turn_of_word ∷ k ∷ length h.log % turn_of_word ∷ []) (omega arith);
          small = h.small;
          sizes = (let f : SeatView G E → ℕ = λ u. length u.numbers in let z = total-set f s.views id v w at in let y = h.sizes in omega (arith, z, y));
          held = (let f : SeatView G E → ℕ = λ u. u.tickets in let z = total-set f s.views id v w at in let y = h.held in let one = mine.one in let has = t.0 in omega (arith, z, y, one, has));
          shared = (λ x. let f : SeatView G E → ℕ = λ u. times x u.numbers in let z = total-set f s.views id v w at in let y = h.shared x in omega (arith, z, y));
          owners = h.owners;
          sound = h.sound;
          home = inl (b, set_here s.homes 0 (some (Some b)) (omega (arith, wide, some_slot)), its_key, its_entries ∙ ap bare t.2);
          fits = fits_set key.key (h.serving + 1) h.out h.log s.views id w
              (λ j u apart there.
              let f = h.fits j u there in
              let other : 0 < u.tickets → u.ticket ≢ h.serving = λ has same. apart (h.apart j id u v there at has t.0 (same ∙ sym t.1)) in
              record {
                named = f.named;
                behind = f.behind;
                hears = f.hears;
                tells = f.tells;
                few = f.few;
                one = f.one;
                between = (λ has. let z = f.between has in let a = z.0 in let ne = other has in ((omega (arith, a, ne)), z.1));
                at_turn = (λ is_on. let t' = f.at_turn is_on in absurd (other t'.0 t'.1));
              })
              record {
                named = mine.named;
                behind = mine.behind;
                hears = (h.log, refl, no_owner h.log);
                tells = (λ x. omega arith);
                few = omega arith;
                one = omega arith;
                between = (λ has. absurd (omega (arith, has)));
                at_turn = (λ is_on. absurd (true≢false (sym is_on)));
              };
          apart = apart_set s.views id w h.apart (λ j u apart there tu tw same. absurd (omega (arith, tw)));
        },
        refl,
      )

  pub serves : (n id : ℕ) (m : Me (Option B) (SeatView G E)) → 0 < n → m.0.turn ≡ true → 0 < length m.0.numbers → Holds key_of entries is_sound m (bare m.0.seen)
      → Allows (Orderly key_of entries is_sound key) n id m 1 (λ k. (k + 1) % 2 ^ 64) (served (step n 1 1 0 none) m)
  serves n id m some_slot my_turn some_number its =
      subst (λ c. Allows (Orderly key_of entries is_sound key) n id (m.0, c) 1 (λ k. (k + 1) % 2 ^ 64) (served (step n 1 1 0 none) (m.0, c))) (sym its.1)
      (serves_at n id m.0 its.0 some_slot my_turn some_number its.2 its.3)

  -- the seat with every number has seen all, and the kept value is at home
  pub closes : (s : State (Option B) (SeatView G E)) (id : ℕ) (v : SeatView G E) → Rule s → get_elem? s.views id ≡ some v → length v.numbers ≡ key.count → v.tickets ≡ 0
      → 0 < length v.numbers
      → AtHome key_of entries is_sound key.key v.seen s.homes × (places v.numbers 0 v.seen ≡ upto 0 (length v.seen)) × (v.names ≡ Some key.key) × (total (λ (x : E × ℕ). bit (nat_le key.count x.1)) v.seen ≡ 0)
  closes s id v h at every no_ticket some_number =
      let z = h.sizes in
      let bare_others : (j : ℕ) (u : SeatView G E) → j ≢ id → get_elem? s.views j ≡ some u → length u.numbers ≡ 0
      = λ j u apart there. (let t = terms_le (λ (x : SeatView G E). length x.numbers) s.views id j v u apart at there in omega (arith, t, z, every)) in
      let all : (x : ℕ) → times x v.numbers ≡ bit (nat_lt x key.count)
      = λ x. sym (total_only (λ (u : SeatView G E). times x u.numbers) s.views id v at (λ j u apart there. no_numbers u.numbers (bare_others j u apart there) x)) ∙ h.shared x in
      let mine = h.fits id v at in
      let r = mine.behind.0 in
      let parts = total-append (λ (x : E × ℕ). bit (nat_le key.count x.1)) v.seen r in
      let cut = ap (total (λ (x : E × ℕ). bit (nat_le key.count x.1))) mine.behind.1 in
      let owners = h.owners in
      let rest_owned = owns_all v.numbers key.count r all (omega (arith, parts, cut, owners)) in
      let foreign = mine.behind.2 in
      let none_left : r ≡ [] = empty_of r (omega (arith, rest_owned, foreign)) in
      let whole : h.log ≡ v.seen = mine.behind.1 ∙ ap (λ l. v.seen ++ l) none_left ∙ append-nil v.seen in (
        subst (λ l. AtHome key_of entries is_sound key.key l s.homes) whole
            (⊎_elim (λ home. home)
            (λ (t : Out s.views). absurd (
            let a = (h.fits t.0 t.1 t.2).at_turn t.3 in
            let f = (h.fits t.0 t.1 t.2).few in
            dite (ℕ_discrete t.0 id)
            (λ same. let n = ap (λ (x : SeatView G E). x.tickets) (some-injective t.1 v (sym t.2 ∙ ap (get_elem? s.views) same ∙ at)) in let has = a.0 in omega (arith, n, has, no_ticket))
            (λ other. let n = bare_others t.0 t.1 other t.2 in let has = a.0 in omega (arith, n, has, f))))
            h.home),
        every_place v.numbers key.count 0 v.seen all (omega (arith, parts, cut, owners)),
        mine.named some_number,
        omega (arith, parts, cut, owners),
      )
    where
      empty_of : (xs : List (E × ℕ)) → length xs ≡ 0 → xs ≡ []
      empty_of [] e = refl
      empty_of (x ∷ xs) e = absurd (omega (arith, e))
