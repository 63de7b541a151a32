-- Lists of histories by ascending transactor.
use Rattle.std.proofs.Common.{◌≡◌, ℕ, zero, suc, ◌+◌, ◌-◌, ◌<◌, ◌≤◌, ◌⊎◌, ⊎_elim, true, false, Option, Some, None, List, [], ◌∷◌, ◌++◌, length, ◌≢◌, get_or, take, drop, set, refl, sym, ap, ◌∙◌, take-append-drop, arith, eqb, cond}
use Rattle.std.proofs.lemmas.Bool.Decides.{nat_tests}
use Rattle.std.proofs.lemmas.Bool.{cases_eq}
use Rattle.tau_history.specs.Timeline.{Timeline}
use Rattle.tau_history.specs.Order.{later_of}
use Rattle.tau_view.specs.Stored.{AscendsFrom, history_in}
use Rattle.tau_view.specs.Inner.Places.{Between, IsAt, IsGap, blank}
use Rattle.tau_view.specs.Rules.{later_history}

abbrev pub Entries : Type 0
Entries = List (ℕ × Timeline)

abbrev pub or_else : Option Timeline → Option Timeline → Option Timeline
or_else None o = o
or_else (Some h) o = Some h

between_order : (n m : ℕ) (es : Entries) → Between n m es → n ≤ m
between_order n m [] b = b
between_order n m (e ∷ es) b = let r = between_order (e.0 + 1) m es b.1 in omega (arith, b.0)

pub ascends_lower : (n m : ℕ) (es : Entries) → n ≤ m → AscendsFrom m es → AscendsFrom n es
ascends_lower n m [] h a = tt
ascends_lower n m (e ∷ es) h a = (omega (arith, a.0), a.1)

-- a transactor below all has no history
pub none_below : (n u : ℕ) (es : Entries) → AscendsFrom n es → u < n → history_in es u ≡ None
none_below n u [] a h = refl
none_below n u (e ∷ es) a h =
    let t : eqb u e.0 ≡ false = grind (arith, nat_tests, a.0) in
    rw t (none_below (e.0 + 1) u es a.1 (omega (arith, a.0)))

-- nor has one past all
pub none_past : (n m u : ℕ) (es : Entries) → Between n m es → m ≤ u → history_in es u ≡ None
none_past n m u [] b h = refl
none_past n m u (e ∷ es) b h =
    let o = between_order (e.0 + 1) m es b.1 in
    let t : eqb u e.0 ≡ false = grind (arith, nat_tests) in
    rw t (none_past (e.0 + 1) m u es b.1 h)

-- the history of a transactor in a list that begins with this entry
pub history_in-here : (e : ℕ × Timeline) (es : Entries) (u : ℕ) → u ≡ e.0 → history_in (e ∷ es) u ≡ Some e.1
history_in-here e es u h = let t : eqb u e.0 ≡ true = grind (arith, nat_tests) in rw t refl

pub history_in-past : (e : ℕ × Timeline) (es : Entries) (u : ℕ) → u ≢ e.0 → history_in (e ∷ es) u ≡ history_in es u
history_in-past e es u h = let t : eqb u e.0 ≡ false = grind (arith, nat_tests) in rw t refl

-- the same transactor or another
pub history_in-append : (xs ys : Entries) (u : ℕ) → history_in (xs ++ ys) u ≡ or_else (history_in xs u) (history_in ys u)
history_in-append [] ys u = refl
history_in-append (e ∷ es) ys u =
    let rest = history_in-append es ys u in
    ⊎_elim (λ h. let a = history_in-here e (es ++ ys) u h in let b = history_in-here e es u h in rw (a, b) refl)
    (λ h. let a = history_in-past e (es ++ ys) u h in let b = history_in-past e es u h in rw (a, b) rest)
    (cases_eq u e.0)

pub between_append : (n k m : ℕ) (xs ys : Entries) → Between n k xs → Between k m ys → Between n m (xs ++ ys)
between_append n k m [] [] b c = omega arith
between_append n k m [] (y ∷ ys) b c = (omega (arith, c.0), c.1)
between_append n k m (e ∷ es) ys b c = (b.0, between_append (e.0 + 1) k m es ys b.1 c)

pub ascends_append : (n k : ℕ) (xs ys : Entries) → Between n k xs → AscendsFrom k ys → AscendsFrom n (xs ++ ys)
ascends_append n k [] ys b c = ascends_lower n k ys b c
ascends_append n k (e ∷ es) ys b c = (b.0, ascends_append (e.0 + 1) k es ys b.1 c)

module _ (d : ℕ × Timeline) where
  -- all up to an entry of a transactor below w are below w
  pub below_at : (n w m : ℕ) (es : Entries) → AscendsFrom n es → m < length es → (get_or es m d).0 < w → Between n w (take (suc m) es)
  below_at n w m [] a h l = absurd (omega arith)
  below_at n w zero (e ∷ es) a h l = (a.0, omega arith)
  below_at n w (suc m) (e ∷ es) a h l = (a.0, below_at (e.0 + 1) w m es a.1 (omega arith) l)

  -- all from an entry of a transactor above w on are above w
  pub above_at : (n w m : ℕ) (es : Entries) → AscendsFrom n es → m < length es → w < (get_or es m d).0 → AscendsFrom (w + 1) (drop m es)
  above_at n w m [] a h l = absurd (omega arith)
  above_at n w zero (e ∷ es) a h l = (omega arith, a.1)
  above_at n w (suc m) (e ∷ es) a h l = above_at (e.0 + 1) w m es a.1 (omega arith) l

  -- the history of the transactor at an entry
  -- entries from a place on are of transactors from the lower bound on
  pub from_lower : (n m : ℕ) (es : Entries) → AscendsFrom n es → m < length es → n ≤ (get_or es m d).0
  from_lower n m [] a h = absurd (omega arith)
  from_lower n zero (e ∷ es) a h = a.0
  from_lower n (suc m) (e ∷ es) a h = let r = from_lower (e.0 + 1) m es a.1 (omega arith) in omega (arith, a.0)

  -- the history of the transactor at an entry
  pub history_in-at : (n m : ℕ) (es : Entries) → AscendsFrom n es → m < length es → history_in es (get_or es m d).0 ≡ Some (get_or es m d).1
  history_in-at n m [] a h = absurd (omega arith)
  history_in-at n zero (e ∷ es) a h = history_in-here e es e.0 refl
  history_in-at n (suc m) (e ∷ es) a h =
      let low = from_lower (e.0 + 1) m es a.1 (omega arith) in
      history_in-past e es _ (λ same. absurd (omega arith)) ∙ history_in-at (e.0 + 1) m es a.1 (omega arith)

  -- one entry replaced by another of the same transactor
  pub ascends_set : (n m : ℕ) (es : Entries) (h : Timeline) → AscendsFrom n es → m < length es → AscendsFrom n (set es m ((get_or es m d).0, h))
  ascends_set n m [] h a l = absurd (omega arith)
  ascends_set n zero (e ∷ es) h a l = a
  ascends_set n (suc m) (e ∷ es) h a l = (a.0, ascends_set (e.0 + 1) m es h a.1 (omega arith))

  pub history_in-set : (n m : ℕ) (es : Entries) (h : Timeline) (u : ℕ) → AscendsFrom n es → m < length es → history_in (set es m ((get_or es m d).0, h)) u ≡ cond (eqb u (get_or es m d).0) (Some h) (history_in es u)
  history_in-set n m [] h u a l = absurd (omega arith)
  history_in-set n zero (e ∷ es) h u a l =
      ⊎_elim (λ s. let t : eqb u e.0 ≡ true = grind (arith, nat_tests) in rw t refl) (λ s. let t : eqb u e.0 ≡ false = grind (arith, nat_tests) in rw t refl) (cases_eq u e.0)
  history_in-set n (suc m) (e ∷ es) h u a l =
      let low = from_lower (e.0 + 1) m es a.1 (omega arith) in
      let rest = history_in-set (e.0 + 1) m es h u a.1 (omega arith) in
      ⊎_elim
      (λ s. let t : eqb u e.0 ≡ true = grind (arith, nat_tests) in let f : eqb u (get_or es m d).0 ≡ false = grind (arith, nat_tests) in rw (t, f) refl)
      (λ s. let t : eqb u e.0 ≡ false = grind (arith, nat_tests) in rw t rest) (cases_eq u e.0)

-- an entry put between those of lower and those of higher transactors
pub ascends_between : (n w : ℕ) (xs ys : Entries) (h : Timeline) → Between n w xs → AscendsFrom (w + 1) ys → AscendsFrom n (xs ++ (w, h) ∷ ys)
ascends_between n w xs ys h b a = ascends_append n w xs ((w, h) ∷ ys) b (omega arith, a)

pub history_in-between : (n w : ℕ) (xs ys : Entries) (h : Timeline) (u : ℕ) → Between n w xs → AscendsFrom (w + 1) ys → history_in (xs ++ (w, h) ∷ ys) u ≡ cond (eqb u w) (Some h) (history_in (xs ++ ys) u)
history_in-between n w xs ys h u b a =
    ⊎_elim
    (λ s. let t : eqb u w ≡ true = grind (arith, nat_tests) in
    let none = none_past n w u xs b (omega arith) in
    rw (history_in-append xs ((w, h) ∷ ys) u, none, history_in-here (w, h) ys u s, t) refl)
    (λ s. let t : eqb u w ≡ false = grind (arith, nat_tests) in
    rw (history_in-append xs ((w, h) ∷ ys) u, history_in-past (w, h) ys u s, history_in-append xs ys u, t) refl)
    (cases_eq u w)

-- a transactor whose entry would stand in a gap has no history
pub gap_none : (who k : ℕ) (es : Entries) → IsGap who es k → history_in es who ≡ None
gap_none who k es g =
    let none = none_past 0 who who (take k es) g.below (omega arith) in
    let past = none_below (who + 1) who (drop k es) g.above (omega arith) in
    ap (λ xs. history_in xs who) (sym (take-append-drop k es)) ∙ history_in-append (take k es) (drop k es) who ∙ rw (none, past) refl

pub place_history : (who k : ℕ) (es : Entries) → AscendsFrom 0 es → IsAt who es k → history_in es who ≡ Some (get_or es k blank).1
place_history who k es a p = ap (history_in es) (sym p.is) ∙ history_in-at blank 0 k es a p.within

-- what a merge has made so far, and what is left of both lists
abbrev pub with_rest : Entries → Entries → Entries → ℕ → Option Timeline
with_rest out xs ys u = or_else (history_in out u) (later_history (history_in xs u) (history_in ys u))

or_else-some : (o r : Option Timeline) (h : Timeline) → or_else (or_else o (Some h)) r ≡ or_else o (Some h)
or_else-some None r h = refl
or_else-some (Some k) r h = refl

or_else-none : (o r : Option Timeline) → or_else (or_else o None) r ≡ or_else o r
or_else-none None r = refl
or_else-none (Some k) r = refl

later_history-none : (h : Timeline) (o : Option Timeline) → o ≡ None → later_history (Some h) o ≡ Some h
later_history-none h o e = rw e refl

none_later : (h : Timeline) (o : Option Timeline) → o ≡ None → later_history o (Some h) ≡ Some h
none_later h o e = rw e refl

pub takes_ours : (out xs ys : Entries) (e : ℕ × Timeline) (u : ℕ) → AscendsFrom (e.0 + 1) ys → with_rest (out ++ e ∷ []) xs ys u ≡ with_rest out (e ∷ xs) ys u
takes_ours out xs ys e u a =
    ⊎_elim
    (λ s. let none = none_below (e.0 + 1) u ys a (omega arith) in
    rw (history_in-append out (e ∷ []) u, history_in-here e [] u s, history_in-here e xs u s, or_else-some, later_history-none e.1 (history_in ys u) none) refl)
    (λ s. rw (history_in-append out (e ∷ []) u, history_in-past e [] u s, history_in-past e xs u s, or_else-none) refl)
    (cases_eq u e.0)

pub takes_theirs : (out xs ys : Entries) (e : ℕ × Timeline) (u : ℕ) → AscendsFrom (e.0 + 1) xs → with_rest (out ++ e ∷ []) xs ys u ≡ with_rest out xs (e ∷ ys) u
takes_theirs out xs ys e u a =
    ⊎_elim
    (λ s. let none = none_below (e.0 + 1) u xs a (omega arith) in
    rw (history_in-append out (e ∷ []) u, history_in-here e [] u s, history_in-here e ys u s, or_else-some, none_later e.1 (history_in xs u) none) refl)
    (λ s. rw (history_in-append out (e ∷ []) u, history_in-past e [] u s, history_in-past e ys u s, or_else-none) refl)
    (cases_eq u e.0)

pub takes_later : (out xs ys : Entries) (w : ℕ) (h k : Timeline) (u : ℕ) → with_rest (out ++ (w, later_of h k) ∷ []) xs ys u ≡ with_rest out ((w, h) ∷ xs) ((w, k) ∷ ys) u
takes_later out xs ys w h k u =
    ⊎_elim
    (λ s. rw (history_in-append out ((w, later_of h k) ∷ []) u, history_in-here (w, later_of h k) [] u s, history_in-here (w, h) xs u s, history_in-here (w, k) ys u s, or_else-some) refl)
    (λ s. rw (history_in-append out ((w, later_of h k) ∷ []) u, history_in-past (w, later_of h k) [] u s, history_in-past (w, h) xs u s, history_in-past (w, k) ys u s, or_else-none) refl)
    (cases_eq u w)
