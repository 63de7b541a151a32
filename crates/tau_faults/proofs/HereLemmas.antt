-- The faults at one place, listed one after another.
use Rattle.std.proofs.Common.{◌≡◌, ◌⊎◌, inl, inr, ⊎_elim, ℕ, ◌+◌, ◌%◌, ◌<◌, ◌≤◌, List, [], ◌∷◌, ◌++◌, length, get_or, refl, sym, ap, subst, arith}
use Rattle.std.specs.List.{All, Contains}
use Rattle.std.proofs.lemmas.List.Elements.{Contains-get_or, Contains-append_left, Contains-push, Contains-push_cases}
use Rattle.std.proofs.lemmas.List.Quantifiers.{all_pairs_push}
use Rattle.tau_tree.specs.declared.entries.Failure.{Failure}
use Rattle.tau_tree.specs.declared.entries.Failure.TheVariants.{Fail, Lose, Repeat}
use Rattle.tau_tree.specs.declared.programs.Program.{Program}
use Rattle.tau_trace.specs.Run.{Run, len}
use Rattle.tau_trace.specs.Numbering.{sent, InFlight}
use Rattle.tau_trace.specs.Nodes.{LivesAt}
use Rattle.tau_tree.specs.Sound.{IsSoundFailure}
use Rattle.tau_value.specs.declared.limits.TheConstants.{ENTRY_LIMIT}
use Rattle.tau_script.specs.declared.cursor.Cursor.{Cursor}
use Rattle.tau_script.specs.Cursors.{CursorAt}
use Rattle.tau_script.specs.Scripts.{NoneDue}
use Rattle.tau_faults.specs.declared.setting.FaultCounts.{FaultCounts}
use Rattle.tau_faults.specs.Faults.{IsEffective, fails, loses, repeats, left_of, rank_of, object_of, ComesFirst}
use Rattle.tau_faults.specs.Inner.Here.{IsBefore, AreThoseBefore, AreEffective, CanCome, AreFaultsHere, CanBePlaced}

pub contains_none : (f : Failure) → Contains [] f → ⊥
contains_none f c = omega (arith, c.1)

-- a fault is told by its kind and its number
same_fault : (f g : Failure) → rank_of f ≡ rank_of g → object_of f ≡ object_of g → f ≡ g
same_fault (Fail n) (Fail m) r e = ap Fail e
same_fault (Lose n) (Lose m) r e = ap Lose e
same_fault (Repeat n) (Repeat m) r e = ap Repeat e
same_fault f g r e = absurd (omega (arith, r))

later : (r n : ℕ) (f : Failure) → IsBefore r n f → IsBefore r (n + 1) f
later r n f b = ⊎_elim (λ l. inl l) (λ e. inr (e.0, omega (arith, e.1))) b

below_or_at : (m n : ℕ) → m < n + 1 → (m < n) ⊎ (m ≡ n)
below_or_at m n l = grind arith

module _ (left : FaultCounts) (P : Program) (T : Run) where
  abbrev Comes : Failure → Type 0
  Comes f = (0 < left_of left f) × IsEffective P T (len T) f

  pub none_first : AreThoseBefore left P T 0 0 []
  none_first = record {
    ordered = λ i j d l h. absurd (omega (arith, h));
    all = λ f. (λ c. absurd (contains_none f c), λ h. ⊎_elim (λ l. absurd (omega (arith, l))) (λ e. absurd (omega (arith, e.1))) h.0);
  }

  with_one-there : (f : Failure) (fs : List Failure) → AreThoseBefore left P T (rank_of f) (object_of f) fs → (g : Failure)
      → IsBefore (rank_of f) (object_of f + 1) g × (0 < left_of left g) × IsEffective P T (len T) g → Contains (fs ++ f ∷ []) g
  with_one-there f fs b g h =
      ⊎_elim (λ l. Contains-append_left fs (f ∷ []) g ((b.all g).1 (inl l, h.1, h.2)))
      (λ e. ⊎_elim (λ l. Contains-append_left fs (f ∷ []) g ((b.all g).1 (inr (e.0, l), h.1, h.2)))
      (λ s. subst (λ (x : Failure). Contains (fs ++ f ∷ []) x) (same_fault f g (sym e.0) (sym s)) (Contains-push fs f))
      (below_or_at (object_of g) (object_of f) e.1))
      h.0

  pub with_one : (f : Failure) (fs : List Failure) → 0 < left_of left f → IsEffective P T (len T) f → AreThoseBefore left P T (rank_of f) (object_of f) fs
      → AreThoseBefore left P T (rank_of f) (object_of f + 1) (fs ++ f ∷ [])
  with_one f fs l e b = record {
    ordered = all_pairs_push ComesFirst fs f b.ordered (λ k d h. ((b.all (get_or fs k d)).0 (Contains-get_or fs k d h)).0);
    all = λ g. (
      λ c. ⊎_elim (λ h. let a = (b.all g).0 h in (later (rank_of f) (object_of f) g a.0, a.1, a.2))
          (λ s. subst (λ (x : Failure). IsBefore (rank_of f) (object_of f + 1) x × (0 < left_of left x) × IsEffective P T (len T) x) s (inr (refl, omega arith), l, e))
          (Contains-push_cases fs f g c),
      λ h. with_one-there f fs b g h,
    );
  }

  pub without_one : (r n : ℕ) (fs : List Failure) → ((f : Failure) → rank_of f ≡ r → object_of f ≡ n → ¬ IsEffective P T (len T) f) → AreThoseBefore left P T r n fs
      → AreThoseBefore left P T r (n + 1) fs
  without_one r n fs never b = record {
    ordered = b.ordered;
    all = λ g. (
      λ c. let a = (b.all g).0 c in (later r n g a.0, a.1, a.2),
      λ h. ⊎_elim (λ l. (b.all g).1 (inl l, h.1, h.2))
          (λ e. ⊎_elim (λ l. (b.all g).1 (inr (e.0, l), h.1, h.2)) (λ s. absurd (never g e.0 s h.2)) (below_or_at (object_of g) n e.1)) h.0,
    );
  }

  -- all of one kind are there
  pub kind_done : (r s n : ℕ) (fs : List Failure) → s ≡ r + 1 → ((f : Failure) → rank_of f ≡ r → 0 < left_of left f → IsEffective P T (len T) f → object_of f < n)
      → AreThoseBefore left P T r n fs → AreThoseBefore left P T s 0 fs
  kind_done r s n fs is all b = record {
    ordered = b.ordered;
    all = λ g. (
      λ c. let a = (b.all g).0 c in (inl (⊎_elim (λ l. omega (arith, l, is)) (λ e. omega (arith, e.0, is)) a.0), a.1, a.2),
      λ h. (b.all g).1 (⊎_elim (λ l. ⊎_elim (λ m. inl m) (λ e. inr (e, all g e h.1 h.2)) (below_or_at (rank_of g) r (omega (arith, l, is)))) (λ e. absurd (omega (arith, e.1))) h.0, h.1, h.2),
    );
  }

  rank_few : (f : Failure) → rank_of f < 3
  rank_few (Fail n) = omega arith
  rank_few (Lose m) = omega arith
  rank_few (Repeat m) = omega arith

  pub all_done : (fs : List Failure) → AreThoseBefore left P T 3 0 fs → AreEffective left P T fs
  all_done fs b = record {
    ordered = b.ordered;
    all = λ f. (λ c. let a = (b.all f).0 c in (a.1, a.2), λ h. (b.all f).1 (inl (rank_few f), h.0, h.1));
  }

module _ (left : FaultCounts) (P : Program) (T : Run) where
  lives_at : (n : ℕ) (f : Failure) → rank_of f ≡ 0 → object_of f ≡ n → IsEffective P T (len T) f → (t : ℕ) × LivesAt T n t (len T)
  lives_at n (Fail m) r e (fails {t = t} l h) = subst (λ (x : ℕ). (t : ℕ) × LivesAt T x t (len T)) e (t, h)
  lives_at n (Lose m) r e h = absurd (omega (arith, r))
  lives_at n (Repeat m) r e h = absurd (omega (arith, r))

  flies_at : (r n : ℕ) (f : Failure) → 1 ≤ r → rank_of f ≡ r → object_of f ≡ n → IsEffective P T (len T) f → InFlight T n (len T)
  flies_at r n (Fail m) some k e h = absurd (omega (arith, some, k))
  flies_at r n (Lose m) some k e (loses h) = subst (λ (x : ℕ). InFlight T x (len T)) e h
  flies_at r n (Repeat m) some k e (repeats v h) = subst (λ (x : ℕ). InFlight T x (len T)) e h

  -- no such node has a living transactor, or no such message is in flight
  pub without_node : (n : ℕ) (fs : List Failure) → (¬ ((t : ℕ) × LivesAt T n t (len T))) → AreThoseBefore left P T 0 n fs → AreThoseBefore left P T 0 (n + 1) fs
  without_node n fs none b = without_one left P T 0 n fs (λ f r e h. none (lives_at n f r e h)) b

  pub without_message : (r m : ℕ) (fs : List Failure) → 1 ≤ r → (¬ InFlight T m (len T)) → AreThoseBefore left P T r m fs → AreThoseBefore left P T r (m + 1) fs
  without_message r m fs some none b = without_one left P T r m fs (λ f k e h. none (flies_at r m f some k e h)) b

  node_below : (f : Failure) → rank_of f ≡ 0 → IsEffective P T (len T) f → object_of f < P.nodes
  node_below (Fail m) r (fails l h) = l
  node_below (Lose m) r h = absurd (omega (arith, r))
  node_below (Repeat m) r h = absurd (omega (arith, r))

  pub nodes_done : (fs : List Failure) → AreThoseBefore left P T 0 P.nodes fs → AreThoseBefore left P T 1 0 fs
  nodes_done fs b = kind_done left P T 0 1 P.nodes fs (omega arith) (λ f r l h. node_below f r h) b

  pub messages_done : (r s : ℕ) (fs : List Failure) → 1 ≤ r → s ≡ r + 1 → AreThoseBefore left P T r (sent T (len T)) fs → AreThoseBefore left P T s 0 fs
  messages_done r s fs some is b = kind_done left P T r s (sent T (len T)) fs is (λ f k l h. (flies_at r (object_of f) f some k refl h).exists) b

  -- none of a kind can come
  pub kind_skipped : (r s : ℕ) (fs : List Failure) → s ≡ r + 1 → ((f : Failure) → rank_of f ≡ r → 0 < left_of left f → ¬ IsEffective P T (len T) f) → AreThoseBefore left P T r 0 fs
      → AreThoseBefore left P T s 0 fs
  kind_skipped r s fs is never b = kind_done left P T r s 0 fs is (λ f k l h. absurd (never f k l h)) b

  pub no_fails : left.fails ≡ 0 → (f : Failure) → rank_of f ≡ 0 → 0 < left_of left f → ¬ IsEffective P T (len T) f
  no_fails e (Fail n) r l h = omega (arith, e, l)
  no_fails e (Lose n) r l h = omega (arith, r)
  no_fails e (Repeat n) r l h = omega (arith, r)

  pub no_losses : left.losses ≡ 0 → (f : Failure) → rank_of f ≡ 1 → 0 < left_of left f → ¬ IsEffective P T (len T) f
  no_losses e (Fail n) r l h = omega (arith, r)
  no_losses e (Lose n) r l h = omega (arith, e, l)
  no_losses e (Repeat n) r l h = omega (arith, r)

  pub no_repeats : (left.repeats ≡ 0) ⊎ (¬ (P.version ≡ 2)) → (f : Failure) → rank_of f ≡ 2 → 0 < left_of left f → ¬ IsEffective P T (len T) f
  no_repeats e (Fail n) r l h = omega (arith, r)
  no_repeats e (Lose n) r l h = omega (arith, r)
  no_repeats e (Repeat n) r l (repeats v h) = ⊎_elim (λ z. omega (arith, z, l)) (λ w. w v) e

  sound_one : (f : Failure) → IsEffective P T (len T) f → IsSoundFailure P.nodes P.version f
  sound_one (Fail n) (fails l h) = l
  sound_one (Lose m) h = tt
  sound_one (Repeat m) (repeats v h) = v

  pub can_be_placed : (fs : List Failure) → AreEffective left P T fs → All (CanBePlaced left P) fs
  can_be_placed fs e = λ k d l. let a = (e.all (get_or fs k d)).0 (Contains-get_or fs k d l) in record { some = a.0; sound = sound_one (get_or fs k d) a.1 }

  pub listed : (every : ℕ) (c : Cursor) (fs : List Failure) → NoneDue P.script T (len T) × CursorAt P.script T (len T) c → len T % every ≡ 0 → length P.script < ENTRY_LIMIT
      → AreEffective left P T fs → AreFaultsHere every left P T (len T) c fs
  listed every c fs none multiple room e = record {
    ordered = e.ordered;
    can = λ f h. let a = (e.all f).0 h in (a.0, record { none_due = none.0; multiple = multiple; effective = a.1; room = room }, none.1);
    all = λ f l h. (e.all f).1 (l, h.effective);
  }

  pub none_listed : (every : ℕ) (c : Cursor) → ((f : Failure) → ¬ CanCome every P T (len T) f) → AreFaultsHere every left P T (len T) c []
  none_listed every c never = record {
    ordered = λ i j d l h. absurd (omega (arith, h));
    can = λ f h. absurd (contains_none f h);
    all = λ f l h. absurd (never f h);
  }
