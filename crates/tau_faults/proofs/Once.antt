-- There is one list of ends.
use Rattle.std.proofs.Common.{◌≡◌, ℕ, suc, List, [], ◌∷◌, ◌++◌, refl, sym, ap, ◌∙◌, subst, arith}
use Rattle.tau_tree.specs.declared.entries.Entry.{Entry}
use Rattle.tau_tree.specs.declared.entries.Failure.{Failure}
use Rattle.tau_tree.specs.declared.programs.Program.{Program}
use Rattle.tau_trace.specs.Run.{Run, len}
use Rattle.tau_script.specs.declared.cursor.Cursor.{Cursor}
use Rattle.tau_script.specs.Laws.{ScriptsAreDetermined}
use Rattle.tau_book.specs.Laws.{SerialRunIsUnique}
pub use Rattle.tau_book.proofs.OneRun.{one_serial_run}
use Rattle.tau_faults.specs.declared.setting.FaultCounts.{FaultCounts}
use Rattle.tau_faults.specs.declared.setting.Setting.{Setting}
use Rattle.tau_faults.specs.Faults.{IsFaulted, AreFaultsAt, ComesFirst, with_entry, fewer}
use Rattle.tau_faults.specs.Ends.{End, EndsFrom, run, EndsBelow, none, early, at, EndsWith, no_fault, more}
use Rattle.tau_faults.proofs.Ordered.{same_ordered, comes_once}

-- the faults of a place are one list
pub same_faults : (every : ℕ) (left : FaultCounts) (P : Program) (T : Run) (k : ℕ) (fs gs : List Failure) → AreFaultsAt every left P T k fs → AreFaultsAt every left P T k gs → fs ≡ gs
same_faults every left P T k fs gs a b =
    same_ordered ComesFirst comes_once fs gs a.ordered b.ordered (λ f. (λ c. (b.all f).1 ((a.all f).0 c), λ c. (a.all f).1 ((b.all f).0 c)))

-- and with each there is one program
pub same_faulted : ScriptsAreDetermined → (every : ℕ) (P : Program) (T : Run) (k : ℕ) (f : Failure) (Q R : Program) → IsFaulted every P T k f Q → IsFaulted every P T k f R → Q ≡ R
same_faulted law every P T k f Q R a b =
    let there = law P.script T k in
    let same : a.cursor ≡ b.cursor = (there.cursor_is a.cursor).0 a.stands ∙ sym ((there.cursor_is b.cursor).0 b.stands) in
    a.faulted ∙ ap (λ (c : Cursor). with_entry P c.entry (record { at = k; failure = f })) same ∙ sym b.faulted

module _ (unique : SerialRunIsUnique) (determined : ScriptsAreDetermined) (S : Setting) (seed : ℕ) where
  mutual
    pub from_once : (left : FaultCounts) (from : ℕ) (faults : List Entry) (P : Program) (xs ys : List End) → EndsFrom S seed left from faults P xs → EndsFrom S seed left from faults P ys → xs ≡ ys
    from_once left from faults P xs ys (run {T = T} {later = us} s b) (run {T = U} {later = bs} t c) =
        let same : T ≡ U = unique P S.jobs seed S.steps T U s t in
        let rest : us ≡ bs = below_once left from faults P T (len T) us bs b (subst (λ (X : Run). EndsBelow S seed left from faults P X (len X) bs) (sym same) c) in
        λ i. record { seed = seed; program = P; faults = faults; run = same i } ∷ rest i

    below_once : (left : FaultCounts) (from : ℕ) (faults : List Entry) (P : Program) (T : Run) (k : ℕ) (xs ys : List End) → EndsBelow S seed left from faults P T k xs → EndsBelow S seed left from faults P T k ys → xs ≡ ys
    below_once left from faults P T k xs ys none none = refl
    below_once left from faults P T k xs ys (early {k = j} l a) (early m b) = below_once left from faults P T j xs ys a b
    below_once left from faults P T k xs ys (early {k = j} l a) (at m b g w) = absurd (omega (arith, l, m))
    below_once left from faults P T k xs ys (at {k = j} l a h v) (early m b) = absurd (omega (arith, l, m))
    below_once left from faults P T k xs ys (at {k = j} {here = fs} {before = us} {ends = cs} l a h v) (at {here = gs} {before = bs} {ends = ds} m b g w) =
        let same : fs ≡ gs = same_faults S.every left P T j fs gs h g in
        let first : us ≡ bs = below_once left from faults P T j us bs a b in
        let then : cs ≡ ds = with_once left faults P T j fs cs ds v (subst (λ (hs : List Failure). EndsWith S seed left faults P T j hs ds) (sym same) w) in
        λ i. first i ++ then i

    with_once : (left : FaultCounts) (faults : List Entry) (P : Program) (T : Run) (k : ℕ) (fs : List Failure) (xs ys : List End) → EndsWith S seed left faults P T k fs xs → EndsWith S seed left faults P T k fs ys → xs ≡ ys
    with_once left faults P T k fs xs ys no_fault no_fault = refl
    with_once left faults P T k fs xs ys (more {Q = Q} {f = f} {others = hs} {ends = us} {later = cs} q a v) (more {Q = R} {ends = bs} {later = ds} r b w) =
        let same : Q ≡ R = same_faulted determined S.every P T k f Q R q r in
        let first : us ≡ bs = from_once (fewer left f) (suc k) (faults ++ record { at = k; failure = f } ∷ []) Q us bs a (subst (λ (X : Program). EndsFrom S seed (fewer left f) (suc k) (faults ++ record { at = k; failure = f } ∷ []) X bs) (sym same) b) in
        let then : cs ≡ ds = with_once left faults P T k hs cs ds v w in
        λ i. first i ++ then i
