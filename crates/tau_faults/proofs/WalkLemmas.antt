-- The ends that a walk shows, place by place and fault by fault.
use Rattle.std.proofs.Common.{◌≡◌, ◌⊎◌, ⊎_elim, ℕ, zero, suc, ◌+◌, ◌<◌, ◌≤◌, List, [], ◌∷◌, ◌++◌, length, get_or, take, refl, sym, ap, ◌∙◌, subst, arith, add-one, append_assoc, append-nil}
use Rattle.std.specs.List.{All}
use Rattle.std.proofs.lemmas.Bool.{cases_lt}
use Rattle.std.proofs.lemmas.List.{take_more}
use Rattle.std.proofs.lemmas.List.Elements.{Contains-get_or, All-nil}
use Rattle.tau_value.specs.declared.limits.TheConstants.{ENTRY_LIMIT}
use Rattle.tau_tree.specs.declared.entries.Entry.{Entry}
use Rattle.tau_tree.specs.declared.entries.Failure.{Failure}
use Rattle.tau_tree.specs.declared.programs.Program.{Program}
use Rattle.tau_trace.specs.Run.{Run, Agree, len}
use Rattle.tau_trace.specs.Nodes.{LivesAt}
use Rattle.tau_trace.specs.Laws.{LocalByAgreement}
use Rattle.tau_trace.proofs.Prefix.{prefix, agree_prefix, len-prefix}
use Rattle.tau_trace.proofs.Agreement.{agree_sym}
use Rattle.tau_script.specs.declared.cursor.Cursor.{Cursor}
use Rattle.tau_script.specs.Cursors.{CursorAt}
use Rattle.tau_script.specs.Laws.{ScriptsAreLocal}
use Rattle.tau_book.specs.SerialRun.{IsSerialRun}
use Rattle.tau_faults.specs.declared.setting.FaultCounts.{FaultCounts}
use Rattle.tau_faults.specs.declared.setting.Setting.{Setting}
use Rattle.tau_faults.specs.Faults.{IsEffective, fails, loses, repeats, IsFaulted, left_of, fewer, with_entry, AreFaultsAt}
use Rattle.tau_faults.specs.Ends.{End, EndsFrom, run, EndsBelow, none, early, at, EndsWith, no_fault, more}
use Rattle.tau_faults.specs.Inner.Here.{CanCome, AreFaultsHere}
use Rattle.tau_faults.specs.Inner.Walking.{sum_of, IsFaultAt, HasSeen}
use Rattle.tau_faults.proofs.HereLemmas.{contains_none}
use Rattle.tau_faults.proofs.PlacingLemmas.{none_left}
use Rattle.tau_faults.proofs.SeenLemmas.{seen_first, seen_then}

module _ (S : Setting) (seed : ℕ) (left : FaultCounts) (faults : List Entry) (P : Program) (T : Run) where
  none_at : (k : ℕ) → ((f : Failure) (Q : Program) → 0 < left_of left f → ¬ IsFaulted S.every P T k f Q) → AreFaultsAt S.every left P T k []
  none_at k never = record {
    ordered = λ i j d l h. absurd (omega (arith, h));
    all = λ f. (λ c. absurd (contains_none f c), λ h. absurd (never f h.1.0 h.0 h.1.1));
  }

  -- nothing more can come
  pub none_below : (from : ℕ) → ((k : ℕ) (f : Failure) (Q : Program) → 0 < left_of left f → ¬ IsFaulted S.every P T k f Q) → (k : ℕ) → EndsBelow S seed left from faults P T k []
  none_below from never zero = none
  none_below from never (suc k) = ⊎_elim (λ l. early l (none_below from never k)) (λ l. at l (none_below from never k) (none_at k (never k)) no_fault) (cases_lt k from)

  pub never_over : (sum_of left ≡ 0) ⊎ (ENTRY_LIMIT ≤ length P.script) → (k : ℕ) (f : Failure) (Q : Program) → 0 < left_of left f → ¬ IsFaulted S.every P T k f Q
  never_over over k f Q l h = ⊎_elim (λ z. none_left left f z l) (λ full. omega (arith, full, h.room)) over

  with_nothing : (k : ℕ) (ys : List End) → EndsWith S seed left faults P T k [] ys → ys ≡ []
  with_nothing k ys no_fault = refl

  below_early : (from k : ℕ) (fs : List Failure) → fs ≡ [] → (xs ys : List End) → k < from
      → EndsBelow S seed left from faults P T k xs → EndsWith S seed left faults P T k fs ys → EndsBelow S seed left from faults P T (suc k) (xs ++ ys)
  below_early from k fs is xs ys l a b =
      let nothing = with_nothing k ys (subst (λ (gs : List Failure). EndsWith S seed left faults P T k gs ys) is b) in
      subst (λ (zs : List End). EndsBelow S seed left from faults P T (suc k) zs) (sym (append-nil xs) ∙ ap (λ (zs : List End). xs ++ zs) (sym nothing)) (early l a)

  -- one place more
  pub below_next : (from k : ℕ) (fs : List Failure) → (k < from → fs ≡ []) → (from ≤ k → AreFaultsAt S.every left P T k fs) → (xs ys : List End)
      → EndsBelow S seed left from faults P T k xs → EndsWith S seed left faults P T k fs ys → EndsBelow S seed left from faults P T (k + 1) (xs ++ ys)
  below_next from k fs before there xs ys a b =
      subst (λ (n : ℕ). EndsBelow S seed left from faults P T n (xs ++ ys)) (sym (add-one k))
      (⊎_elim (λ l. below_early from k fs (before l) xs ys l a b) (λ l. at l a (there l) b) (cases_lt k from))

  -- one fault more
  pub with_next : (k : ℕ) (f : Failure) (Q : Program) → IsFaulted S.every P T k f Q → (fs : List Failure) (xs ys : List End) → EndsWith S seed left faults P T k fs xs
      → EndsFrom S seed (fewer left f) (suc k) (faults ++ record { at = k; failure = f } ∷ []) Q ys → EndsWith S seed left faults P T k (fs ++ f ∷ []) (xs ++ ys)
  with_next k f Q is fs xs ys no_fault b = subst (λ (zs : List End). EndsWith S seed left faults P T k (f ∷ []) zs) (append-nil ys) (more is b no_fault)
  with_next k f Q is fs xs ys (more {f = g} {others = gs} {ends = es} {later = bs} h a c) b =
      subst (λ (zs : List End). EndsWith S seed left faults P T k (g ∷ (gs ++ f ∷ [])) zs) (sym (append_assoc es bs ys)) (more h a (with_next k f Q is gs bs ys c b))

module _ (law : LocalByAgreement) (scripts : ScriptsAreLocal) where
  lives_same : (T U : Run) (n t k : ℕ) → Agree T U k → LivesAt T n t k → LivesAt U n t k
  lives_same T U n t k a l =
      let same = law T U k a in
      record {
        exists = omega (arith, l.exists, same.born_is);
        home = (same.home t n l.exists).0 l.home;
        living = λ j b e. let ended = (same.ended t).1 (record { place = j; before = b; ends = e }) in l.living ended.place ended.before ended.ends;
      }

  effective_same : (P : Program) (T U : Run) (k : ℕ) (f : Failure) → Agree T U k → IsEffective P T k f → IsEffective P U k f
  effective_same P T U k f a (fails {n = n} {t = t} l h) = fails l (lives_same T U n t k a h)
  effective_same P T U k f a (loses {m = m} h) = loses (((law T U k a).in_flight m).0 h)
  effective_same P T U k f a (repeats {m = m} v h) = repeats v (((law T U k a).in_flight m).0 h)

  can_come_same : (every : ℕ) (P : Program) (T U : Run) (k : ℕ) (f : Failure) → Agree T U k → CanCome every P T k f → CanCome every P U k f
  can_come_same every P T U k f a h = record {
    none_due = ((scripts P.script T U k a).step _).0 h.none_due;
    multiple = h.multiple;
    effective = effective_same P T U k f a h.effective;
    room = h.room;
  }

  -- the faults that can come after the first steps are those that can come at that place of the run
  here_whole : (every : ℕ) (left : FaultCounts) (P : Program) (T : Run) (k : ℕ) (c : Cursor) (fs : List Failure) → AreFaultsHere every left P (prefix T k) k c fs → AreFaultsHere every left P T k c fs
  here_whole every left P T k c fs b =
      let there = agree_prefix T k in
      let back = agree_sym there in
      record {
        ordered = b.ordered;
        can = λ f h. let a = b.can f h in (a.0, can_come_same every P (prefix T k) T k f back a.1, ((scripts P.script (prefix T k) T k back).cursor c).0 a.2);
        all = λ f l h. b.all f l (can_come_same every P T (prefix T k) k f there h);
      }

module _ (every : ℕ) (left : FaultCounts) (P : Program) (T : Run) (k : ℕ) (c : Cursor) (fs : List Failure) (within : k < len T) (here : AreFaultsHere every left P T k c fs) where
  faulted_of : (f : Failure) → CanCome every P T k f → CursorAt P.script T k c → IsFaultAt every P T k c.entry f
  faulted_of f h stands = record {
    step = within;
    none_due = h.none_due;
    multiple = h.multiple;
    effective = h.effective;
    room = h.room;
    cursor = c;
    stands = stands;
    faulted = refl;
  }

  faults_at : AreFaultsAt every left P T k fs
  faults_at = record {
    ordered = here.ordered;
    all = λ f. (
      λ h. let a = here.can f h in (a.0, (with_entry P c.entry (record { at = k; failure = f }), faulted_of f a.1 a.2)),
      λ h. let is = h.1.1 in here.all f h.0 (record { none_due = is.none_due; multiple = is.multiple; effective = is.effective; room = is.room }),
    );
  }

  all_at : All (IsFaultAt every P T k c.entry) fs
  all_at = λ i d l. let a = here.can (get_or fs i d) (Contains-get_or fs i d l) in faulted_of (get_or fs i d) a.1 a.2

-- what was listed at a place: nothing before the first place that counts, and otherwise the faults that can come there
pub record AreListed (every from : ℕ) (left : FaultCounts) (P : Program) (T : Run) (k c : ℕ) (fs : List Failure) : Type 0 where
  pub each : All (IsFaultAt every P T k c) fs
  pub before : k < from → fs ≡ []
  pub there : from ≤ k → AreFaultsAt every left P T k fs

pub are_listed : LocalByAgreement → ScriptsAreLocal → (every from : ℕ) (left : FaultCounts) (P : Program) (T U : Run) (k : ℕ) (c : Cursor) (fs : List Failure) → U ≡ prefix T k → k < len T
    → (len U < from → fs ≡ []) → (from ≤ len U → AreFaultsHere every left P U (len U) c fs) → AreListed every from left P T k c.entry fs
are_listed law scripts every from left P T U k c fs is within before there =
    let long : len U ≡ k = ap len is ∙ len-prefix T k (omega (arith, within)) in
    let early : k < from → fs ≡ [] = λ l. before (omega (arith, l, long)) in
    let whole : from ≤ k → AreFaultsHere every left P T k c fs = λ l.
    here_whole law scripts every left P T k c fs (subst (λ (V : Run). AreFaultsHere every left P V k c fs) is (subst (λ (n : ℕ). AreFaultsHere every left P U n c fs) long (there (omega (arith, l, long))))) in
    record {
      each = ⊎_elim (λ l. subst (λ (gs : List Failure). All (IsFaultAt every P T k c.entry) gs) (sym (early l)) (All-nil (IsFaultAt every P T k c.entry)))
          (λ l. all_at every left P T k c fs within (whole l)) (cases_lt k from);
      before = early;
      there = λ l. faults_at every left P T k c fs within (whole l);
    }

module _ {V : Type 0} (visits : V → End → V → Type 0) (S : Setting) (seed : ℕ) (left : FaultCounts) (faults : List Entry) where
  -- the ends of a program are that of its own run and those with a next fault
  pub seen_from : (from : ℕ) (P : Program) (T : Run) (u v w : V) → IsSerialRun P S.jobs seed S.steps T → visits u (record { seed = seed; program = P; faults = faults; run = T }) v
      → HasSeen visits (EndsBelow S seed left from faults P T (len T)) v w → HasSeen visits (EndsFrom S seed left from faults P) u w
  seen_from from P T u v w serial s b =
      seen_first visits (EndsBelow S seed left from faults P T (len T)) (EndsFrom S seed left from faults P) (record { seed = seed; program = P; faults = faults; run = T }) u v w s b
      (λ ys below. run serial below)

  pub seen_place : (from : ℕ) (P A : Program) (T : Run) (k c : ℕ) (fs : List Failure) (u v w : V) → A ≡ P → AreListed S.every from left A T k c fs
      → HasSeen visits (EndsBelow S seed left from faults P T k) u v → HasSeen visits (EndsWith S seed left faults A T k fs) v w → HasSeen visits (EndsBelow S seed left from faults P T (k + 1)) u w
  seen_place from P A T k c fs u v w same listed a b =
      let here : AreListed S.every from left P T k c fs = subst (λ (X : Program). AreListed S.every from left X T k c fs) same listed in
      seen_then visits (EndsBelow S seed left from faults P T k) (EndsWith S seed left faults P T k fs) (EndsBelow S seed left from faults P T (k + 1)) u v w a
      (subst (λ (X : Program). HasSeen visits (EndsWith S seed left faults X T k fs) v w) same b)
      (λ xs ys before now. below_next S seed left faults P T from k fs here.before here.there xs ys before now)

  pub seen_fault : (P A : Program) (T : Run) (k c : ℕ) (fs : List Failure) (i : ℕ) (d : Failure) (u v w : V) → A ≡ P → i < length fs → All (IsFaultAt S.every P T k c) fs
      → HasSeen visits (EndsWith S seed left faults P T k (take i fs)) u v
      → HasSeen visits (EndsFrom S seed (fewer left (get_or fs i d)) (k + 1) (faults ++ record { at = k; failure = get_or fs i d } ∷ []) (with_entry A c (record { at = k; failure = get_or fs i d }))) v w
      → HasSeen visits (EndsWith S seed left faults P T k (take (i + 1) fs)) u w
  seen_fault P A T k c fs i d u v w same below all a b =
      let f = get_or fs i d in
      let e : Entry = record { at = k; failure = f } in
      let one : take (i + 1) fs ≡ take i fs ++ f ∷ [] = take_more fs i d below in
      let faulted : IsFaultAt S.every P T k c f = all i d below in
      let next : HasSeen visits (EndsFrom S seed (fewer left f) (suc k) (faults ++ e ∷ []) (with_entry P c e)) v w =
      subst (λ (n : ℕ). HasSeen visits (EndsFrom S seed (fewer left f) n (faults ++ e ∷ []) (with_entry P c e)) v w) (add-one k)
      (subst (λ (X : Program). HasSeen visits (EndsFrom S seed (fewer left f) (k + 1) (faults ++ e ∷ []) (with_entry X c e)) v w) same b) in
      subst (λ (gs : List Failure). HasSeen visits (EndsWith S seed left faults P T k gs) u w) (sym one)
      (seen_then visits (EndsWith S seed left faults P T k (take i fs)) (EndsFrom S seed (fewer left f) (suc k) (faults ++ e ∷ []) (with_entry P c e)) (EndsWith S seed left faults P T k (take i fs ++ f ∷ [])) u v w a next
      (λ xs ys before now. with_next S seed left faults P T k f (with_entry P c e) faulted (take i fs) xs ys before now))
