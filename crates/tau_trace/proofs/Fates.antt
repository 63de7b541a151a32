-- Fates of points in any sequence of histories, each of which is the one before after a move.
use Rattle.std.proofs.Common.{◌≡◌, ◌⊎◌, ◌↔◌, inl, inr, ⊎_elim, ℕ, zero, suc, ◌+◌, ◌<◌, ◌≤◌, Bool, true, false, IsTrue, List, [], ◌∷◌, ◌++◌, length, get_or, refl, sym, ap, ◌∙◌, subst, arith, length-append}
use Rattle.std.proofs.Math.ListN.{get_or-append}
use Rattle.std.proofs.Math.Seq.{get_or-append_seam}
use Rattle.tau_history.specs.Timeline.{Timeline, numbers, interval, Move, keep, stabilize, close, fall, moved}
use Rattle.tau_history.specs.Fates.{IsOwn, IsClosed, IsFallen, IsStable, IsOpen, IsAhead}
use Rattle.tau_history.specs.Order.{Precedes}
use Rattle.tau_history.proofs.Order.{IsBelow, fallen, same_point, later_interval, below_moved, precedes_of, RanksBelow, by_interval, by_incarnation, by_mode, rank_of}
use Rattle.tau_trace.proofs.Counts.{last_or_below}
use Rattle.tau_trace.proofs.Sequences.{Goes, cases_last}

-- the number of the present interval, and those of closed ones
own_number : (a : Timeline) → get_or (numbers a) (interval a) 0 ≡ a.last
own_number a = get_or-append_seam a.closed a.last [] 0

closed_number : (a : Timeline) (n i : ℕ) → i < interval a → get_or (a.closed ++ n ∷ []) i 0 ≡ get_or (numbers a) i 0
closed_number a n i h = get_or-append a.closed (n ∷ []) 0 i h ∙ sym (get_or-append a.closed (a.last ∷ []) 0 i h)

-- the numbers of a history that closes, as those of the next
kept_number : (a : Timeline) (i : ℕ) → i ≤ interval a → get_or (numbers (moved close a)) i 0 ≡ get_or (numbers a) i 0
kept_number a i h = get_or-append (numbers a) (0 ∷ []) 0 i (omega (arith, length-append a.closed (a.last ∷ [])))

new_number : (a : Timeline) → get_or (numbers (moved close a)) (interval a + 1) 0 ≡ 0
new_number a = ap (λ i. get_or (numbers (moved close a)) i 0) (let e : interval a + 1 ≡ length (numbers a) = omega (arith, length-append a.closed (a.last ∷ [])) in e) ∙ get_or-append_seam (numbers a) 0 [] 0

closed_length : (a : Timeline) → interval (moved close a) ≡ interval a + 1
closed_length a = omega (arith, length-append a.closed (a.last ∷ []))

at_or_below : (i n : ℕ) → i ≤ n → (i < n) ⊎ (i ≡ n)
at_or_below i n h = grind arith

module _ (i n : ℕ) where
  pub fallen-moved : (m : Move) (a : Timeline) → IsFallen (moved m a) i n → IsFallen a i n ⊎ ((m ≡ fall) × IsOwn a i n)
  fallen-moved keep a p = inl p
  fallen-moved stabilize a p = inl (record { within = p.within; below_number = p.below_number })
  fallen-moved fall a p = ⊎_elim below here (at_or_below i (interval a) p.within) where
    below : i < interval a → IsFallen a i n ⊎ ((fall ≡ fall) × IsOwn a i n)
    below l = inl (record { within = p.within; below_number = omega (arith, p.below_number, closed_number a (a.last + 1) i l) })

    split : i ≡ interval a → (n < a.last) ⊎ (n ≡ a.last) → IsFallen a i n ⊎ ((fall ≡ fall) × IsOwn a i n)
    split e (inl l) = inl (record { within = p.within; below_number = omega (arith, l, ap (λ k. get_or (numbers a) k 0) e, own_number a) })
    split e (inr l) = inr (refl, record { interval_is = e; incarnation_is = l })

    here : i ≡ interval a → IsFallen a i n ⊎ ((fall ≡ fall) × IsOwn a i n)
    here e = split e (at_or_below n a.last (omega (arith, p.below_number, ap (λ k. get_or (numbers (moved fall a)) k 0) e, own_number (moved fall a))))
  fallen-moved close a p = ⊎_elim below here (at_or_below i (interval a + 1) (omega (arith, p.within, closed_length a))) where
    below : i < interval a + 1 → IsFallen a i n ⊎ ((close ≡ fall) × IsOwn a i n)
    below l = inl (record { within = omega arith; below_number = omega (arith, p.below_number, kept_number a i (omega arith)) })

    here : i ≡ interval a + 1 → IsFallen a i n ⊎ ((close ≡ fall) × IsOwn a i n)
    here e = absurd (omega (arith, p.below_number, ap (λ k. get_or (numbers (moved close a)) k 0) e, new_number a))

  pub fallen-keeps : (m : Move) (a : Timeline) → IsFallen a i n → IsFallen (moved m a) i n
  fallen-keeps keep a p = p
  fallen-keeps stabilize a p = record { within = p.within; below_number = p.below_number }
  fallen-keeps fall a p = ⊎_elim below here (at_or_below i (interval a) p.within) where
    below : i < interval a → IsFallen (moved fall a) i n
    below l = record { within = p.within; below_number = omega (arith, p.below_number, closed_number a (a.last + 1) i l) }

    here : i ≡ interval a → IsFallen (moved fall a) i n
    here e = record { within = p.within; below_number = omega (arith, p.below_number, ap (λ k. get_or (numbers a) k 0) e, ap (λ k. get_or (numbers (moved fall a)) k 0) e, own_number a, own_number (moved fall a)) }
  fallen-keeps close a p = record { within = omega (arith, p.within, closed_length a); below_number = omega (arith, p.below_number, kept_number a i p.within) }

  pub fallen-makes : (a : Timeline) → IsOwn a i n → IsFallen (moved fall a) i n
  fallen-makes a o = record {
    within = omega (arith, o.interval_is);
    below_number = omega (arith, o.incarnation_is, ap (λ k. get_or (numbers (moved fall a)) k 0) o.interval_is, own_number (moved fall a));
  }

  pub closed-moved : (m : Move) (a : Timeline) → IsClosed (moved m a) i n → IsClosed a i n ⊎ ((m ≡ close) × IsOwn a i n)
  closed-moved keep a p = inl p
  closed-moved stabilize a p = inl (record { below = p.below; number = p.number })
  closed-moved fall a p = inl (record { below = p.below; number = p.number ∙ closed_number a (a.last + 1) i p.below })
  closed-moved close a p = ⊎_elim below here (at_or_below i (interval a) (omega (arith, p.below, closed_length a))) where
    below : i < interval a → IsClosed a i n ⊎ ((close ≡ close) × IsOwn a i n)
    below l = inl (record { below = l; number = p.number ∙ kept_number a i (omega arith) })

    here : i ≡ interval a → IsClosed a i n ⊎ ((close ≡ close) × IsOwn a i n)
    here e = inr (refl, record { interval_is = e; incarnation_is = p.number ∙ kept_number a i (omega arith) ∙ ap (λ k. get_or (numbers a) k 0) e ∙ own_number a })

  pub closed-keeps : (m : Move) (a : Timeline) → IsClosed a i n → IsClosed (moved m a) i n
  closed-keeps keep a p = p
  closed-keeps stabilize a p = record { below = p.below; number = p.number }
  closed-keeps fall a p = record { below = p.below; number = p.number ∙ sym (closed_number a (a.last + 1) i p.below) }
  closed-keeps close a p = record { below = omega (arith, p.below, closed_length a); number = p.number ∙ sym (kept_number a i (omega (arith, p.below))) }

  pub closed-makes : (a : Timeline) → IsOwn a i n → IsClosed (moved close a) i n
  closed-makes a o = record {
    below = omega (arith, o.interval_is, closed_length a);
    number = o.incarnation_is ∙ sym (own_number a) ∙ ap (λ k. get_or (numbers a) k 0) (sym o.interval_is) ∙ sym (kept_number a i (omega (arith, o.interval_is)));
  }

  pub stable-moved : (m : Move) (a : Timeline) → IsStable (moved m a) i n → IsStable a i n ⊎ ((m ≡ stabilize) × IsOwn a i n)
  stable-moved keep a p = inl p
  stable-moved stabilize a p = inr (refl, record { interval_is = p.own.interval_is; incarnation_is = p.own.incarnation_is })
  stable-moved close a p = absurd (let e = p.mode in cc)
  stable-moved fall a p = absurd (let e = p.mode in cc)

  -- where a Stabilize was made: stable, closed or fallen
  abbrev pub IsSettled : Timeline → Type 0
  IsSettled a = (IsStable a i n ⊎ IsClosed a i n) ⊎ IsFallen a i n

  stable-keeps : (m : Move) (a : Timeline) → IsStable a i n → IsSettled (moved m a)
  stable-keeps keep a p = inl (inl p)
  stable-keeps stabilize a p = inl (inl (record { own = record { interval_is = p.own.interval_is; incarnation_is = p.own.incarnation_is }; mode = refl }))
  stable-keeps close a p = inl (inr (closed-makes a p.own))
  stable-keeps fall a p = inr (fallen-makes a p.own)

  pub settled-keeps : (m : Move) (a : Timeline) → IsSettled a → IsSettled (moved m a)
  settled-keeps m a p = ⊎_elim (λ x. ⊎_elim (λ s. stable-keeps m a s) (λ c. inl (inr (closed-keeps m a c))) x) (λ f. inr (fallen-keeps m a f)) p

  pub settled-makes : (a : Timeline) → IsOwn a i n → IsSettled (moved stabilize a)
  settled-makes a o = inl (inl (record { own = record { interval_is = o.interval_is; incarnation_is = o.incarnation_is }; mode = refl }))

  -- the history has come to the point
  pub record IsReached (a : Timeline) : Type 0 where
    pub within : i ≤ interval a
    pub number : n ≤ get_or (numbers a) i 0

  pub reached-keeps : (m : Move) (a : Timeline) → IsReached a → IsReached (moved m a)
  reached-keeps keep a p = p
  reached-keeps stabilize a p = record { within = p.within; number = p.number }
  reached-keeps close a p = record { within = omega (arith, p.within, closed_length a); number = omega (arith, p.number, kept_number a i p.within) }
  reached-keeps fall a p = ⊎_elim below here (at_or_below i (interval a) p.within) where
    below : i < interval a → IsReached (moved fall a)
    below l = record { within = p.within; number = omega (arith, p.number, closed_number a (a.last + 1) i l) }

    here : i ≡ interval a → IsReached (moved fall a)
    here e = record { within = p.within; number = omega (arith, p.number, ap (λ k. get_or (numbers a) k 0) e, ap (λ k. get_or (numbers (moved fall a)) k 0) e, own_number a, own_number (moved fall a)) }

  pub reached-own : (a : Timeline) → IsOwn a i n → IsReached a
  reached-own a o = record { within = omega (arith, o.interval_is); number = omega (arith, o.incarnation_is, ap (λ k. get_or (numbers a) k 0) o.interval_is, own_number a) }

  pub reached-not_ahead : (a : Timeline) → IsReached a → ¬ IsAhead a i n
  reached-not_ahead a r ahead = by (at_or_below n (get_or (numbers a) i 0) r.number) where
    own : i ≡ interval a → n ≡ get_or (numbers a) i 0 → IsOwn a i n
    own e l = record { interval_is = e; incarnation_is = l ∙ ap (λ k. get_or (numbers a) k 0) e ∙ own_number a }

    by_mode : (b : Bool) → a.stable ≡ b → IsOwn a i n → ⊥
    by_mode true e o = ahead.not_stable (record { own = o; mode = e })
    by_mode false e o = ahead.not_open (record { own = o; mode = e })

    by : (n < get_or (numbers a) i 0) ⊎ (n ≡ get_or (numbers a) i 0) → ⊥
    by (inl l) = ahead.not_fallen (record { within = r.within; below_number = l })
    by (inr l) = ⊎_elim (λ b. ahead.not_closed (record { below = b; number = l })) (λ e. by_mode a.stable refl (own e l)) (at_or_below i (interval a) r.within)

-- at a place below k of which P holds the history stood at the point
pub record Stood (P : ℕ → Type 0) (h : ℕ → Timeline) (i n k : ℕ) : Type 0 where
  pub place : ℕ
  pub before : place < k
  pub holds : P place
  pub own : IsOwn (h place) i n

module _ {h : ℕ → Timeline} {f : ℕ → Move} (goes : Goes h f) (F : Timeline → Type 0) where
  -- what each move keeps is kept from each place on
  pub kept : ((m : Move) (a : Timeline) → F a → F (moved m a)) → (j k : ℕ) → j ≤ k → F (h j) → F (h k)
  kept keeps j zero l p = subst (λ i. F (h i)) (let e : j ≡ zero = omega arith in e) p
  kept keeps j (suc k) l p =
      ⊎_elim (λ e. subst (λ i. F (h i)) e p) (λ b. subst F (sym (goes.step k)) (keeps (f k) (h k) (kept keeps j k b p))) (last_or_below j k l)

  -- what only the move w makes, at the own point, was there first or was made by a move w
  pub gathered : (w : Move) (i n : ℕ) → ((m : Move) (a : Timeline) → F (moved m a) → F a ⊎ ((m ≡ w) × IsOwn a i n)) → (k : ℕ) → F (h k) → F (h 0) ⊎ Stood (λ j. f j ≡ w) h i n k
  gathered w i n made zero p = inl p
  gathered w i n made (suc k) p =
      ⊎_elim
      (λ q. ⊎_elim (λ z. inl z) (λ s. inr (record { place = s.place; before = omega (arith, s.before); holds = s.holds; own = s.own })) (gathered w i n made k q))
      (λ q. inr (record { place = k; before = omega arith; holds = q.0; own = q.1 }))
      (made (f k) (h k) (subst F (goes.step k) p))

  -- and what the move w makes and each move keeps is there after a move w
  pub spread : (w : Move) (i n : ℕ) → ((a : Timeline) → IsOwn a i n → F (moved w a)) → ((m : Move) (a : Timeline) → F a → F (moved m a)) → (k : ℕ) → Stood (λ j. f j ≡ w) h i n k → F (h k)
  spread w i n makes keeps k s =
      kept keeps (suc s.place) k s.before (subst F (sym (goes.step s.place ∙ ap (λ m. moved m (h s.place)) s.holds)) (makes (h s.place) s.own))

module _ {h : ℕ → Timeline} {f : ℕ → Move} (goes : Goes h f) where
  below_later : (j k : ℕ) → j ≤ k → IsBelow (h j) (h k)
  below_later j k l = kept goes (IsBelow (h j)) (λ m a p. below_moved (h j) a m p) j k l (same_point refl refl (λ s. s))

  pub precedes_later : (j k : ℕ) → j ≤ k → Precedes (h j) (h k)
  precedes_later j k l = precedes_of (h j) (h k) (below_later j k l)

  up_to_of : (a b : Timeline) → RanksBelow a b → (interval a < interval b) ⊎ ((interval a ≡ interval b) × (a.last ≤ b.last))
  up_to_of a b (by_interval l) = inl l
  up_to_of a b (by_incarnation e l) = inr (e, omega arith)
  up_to_of a b (by_mode e l s) = inr (e, omega arith)

  pub up_to : (j k : ℕ) → j ≤ k → (interval (h j) < interval (h k)) ⊎ ((interval (h j) ≡ interval (h k)) × ((h j).last ≤ (h k).last))
  up_to j k l = up_to_of (h j) (h k) (rank_of (h j) (h k) (below_later j k l))

  pub earlier : (k : ℕ) → (f k ≡ close) ⊎ (f k ≡ fall) → (interval (h k) < interval (h (suc k))) ⊎ ((interval (h k) ≡ interval (h (suc k))) × ((h k).last < (h (suc k)).last))
  earlier k (inl e) = inl (omega (arith, ap interval (goes.step k ∙ ap (λ m. moved m (h k)) e), closed_length (h k)))
  earlier k (inr e) =
      let step = goes.step k ∙ ap (λ m. moved m (h k)) e in
      inr (sym (ap interval step), omega (arith, ap (λ a. a.last) step))

  pub no_return : (j k l : ℕ) → j ≤ l → l < k → interval (h j) ≡ interval (h k) → (h j).last ≡ (h k).last → ¬ ((f l ≡ close) ⊎ (f l ≡ fall))
  no_return j k l p q e d c =
      let one = up_to j l p in
      let two = earlier l c in
      let three = up_to (suc l) k q in
      grind arith

  pub stable_stands : (h 0).stable ≡ false → (k i n : ℕ) → IsStable (h k) i n → Stood (λ j. f j ≡ stabilize) h i n k
  stable_stands first k i n s = ⊎_elim (λ z. absurd (let e = z.mode in cc)) (λ m. m) (gathered goes (λ a. IsStable a i n) stabilize i n (stable-moved i n) k s)

  pub settled_later : (k i n : ℕ) → Stood (λ j. f j ≡ stabilize) h i n k → IsSettled i n (h k)
  settled_later k i n s = spread goes (IsSettled i n) stabilize i n (settled-makes i n) (settled-keeps i n) k s

  -- where a Stabilize was made at the present point
  pub stands_stable : (k : ℕ) → Stood (λ j. f j ≡ stabilize) h (interval (h k)) (h k).last k → IsTrue (h k).stable
  stands_stable k s =
      ⊎_elim
      (λ x. ⊎_elim (λ p. p.mode) (λ c. absurd (omega (arith, c.below))) x)
      (λ g. absurd (omega (arith, g.below_number, own_number (h k))))
      (settled_later k (interval (h k)) (h k).last s)
