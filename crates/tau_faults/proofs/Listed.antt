-- The listed ends are all that there are.
use Rattle.std.proofs.Common.{◌≡◌, ⊎_elim, ℕ, suc, ◌<◌, ◌≤◌, List, [], ◌∷◌, ◌++◌, All, refl, sym, subst, arith}
use Rattle.std.specs.Prelude.{Contains}
use Rattle.std.proofs.lemmas.List.Elements.{All-append, All-cons, All-nil, Contains-append_left, Contains-append_right}
use Rattle.tau_points.proofs.Membership.{Contains-head, Contains-later, Contains-none, Contains-cons_cases}
use Rattle.tau_trace.proofs.Sequences.{cases_last}
use Rattle.tau_tree.specs.declared.entries.Entry.{Entry}
use Rattle.tau_tree.specs.declared.entries.Failure.{Failure}
use Rattle.tau_tree.specs.declared.programs.Program.{Program}
use Rattle.tau_trace.specs.Run.{Run, len}
use Rattle.tau_script.specs.Laws.{ScriptsAreDetermined}
use Rattle.tau_book.specs.SerialRun.{IsSerialRun}
use Rattle.tau_book.specs.Laws.{SerialRunIsUnique}
use Rattle.tau_faults.specs.declared.setting.FaultCounts.{FaultCounts}
use Rattle.tau_faults.specs.declared.setting.Setting.{Setting}
use Rattle.tau_faults.specs.Faults.{IsFaulted, AreFaultsAt, left_of, fewer}
use Rattle.tau_faults.specs.Ends.{End, Storms, itself, further, IsEnd, IsWithin, EndsFrom, run, EndsBelow, none, early, at, EndsWith, no_fault, more}
use Rattle.tau_faults.proofs.Once.{same_faulted}
use Rattle.tau_faults.proofs.Left.{IsLeft, left_first, left_more, left_some, within_left, within_front}

-- the faults with one more
abbrev pub then_fault : List Entry → ℕ → Failure → List Entry
then_fault faults k f = faults ++ record { at = k; failure = f } ∷ []

-- an end of the storm with this seed
abbrev pub IsOf : Program → Setting → ℕ → End → Type 0
IsOf O S seed e = (e.seed ≡ seed) × IsEnd O S e

module _ (O : Program) (S : Setting) (seed : ℕ) where
  -- each listed end is one
  mutual
    pub from_ends : (left : FaultCounts) (from : ℕ) (faults : List Entry) (P : Program) (xs : List End) → EndsFrom S seed left from faults P xs → Storms O S seed from faults P → IsLeft S.faults left faults → All (IsOf O S seed) xs
    from_ends left from faults P xs (run {T = T} {later = later} s b) comes is =
        All-cons (IsOf O S seed) (record { seed = seed; program = P; faults = faults; run = T }) later
        (refl, record { from = from; comes = comes; few = within_left S.faults left faults is; serial = s })
        (below_ends left from faults P T (len T) later b s comes is)

    below_ends : (left : FaultCounts) (from : ℕ) (faults : List Entry) (P : Program) (T : Run) (k : ℕ) (xs : List End) → EndsBelow S seed left from faults P T k xs → IsSerialRun P S.jobs seed S.steps T → Storms O S seed from faults P → IsLeft S.faults left faults
        → All (IsOf O S seed) xs
    below_ends left from faults P T k xs none s comes is = All-nil (IsOf O S seed)
    below_ends left from faults P T k xs (early {k = j} l a) s comes is = below_ends left from faults P T j xs a s comes is
    below_ends left from faults P T k xs (at {k = j} {here = fs} {before = before} {ends = ends} l a h v) s comes is =
        All-append (IsOf O S seed) before ends (below_ends left from faults P T j before a s comes is)
        (with_ends left from faults P T j fs ends v l s comes is (λ f c. ((h.all f).0 c).0))

    with_ends : (left : FaultCounts) (from : ℕ) (faults : List Entry) (P : Program) (T : Run) (k : ℕ) (fs : List Failure) (xs : List End) → EndsWith S seed left faults P T k fs xs → from ≤ k → IsSerialRun P S.jobs seed S.steps T → Storms O S seed from faults P
        → IsLeft S.faults left faults → ((f : Failure) → Contains fs f → 0 < left_of left f) → All (IsOf O S seed) xs
    with_ends left from faults P T k fs xs no_fault l s comes is some = All-nil (IsOf O S seed)
    with_ends left from faults P T k fs xs (more {Q = Q} {f = f} {others = others} {ends = ends} {later = later} q a v) l s comes is some =
        All-append (IsOf O S seed) ends later
        (from_ends (fewer left f) (suc k) (then_fault faults k f) Q ends a (further comes s l q) (left_more S.faults left faults k f is (some f (Contains-head f others))))
        (with_ends left from faults P T k others later v l s comes is (λ g c. some g (Contains-later f others g c)))

-- the ends at a place, within the ends below a later one
record EndsAtPlace (S : Setting) (seed : ℕ) (left : FaultCounts) (faults : List Entry) (P : Program) (T : Run) (k : ℕ) (xs : List End) : Type 0 where
  here : List Failure
  ends : List End
  faults_are : AreFaultsAt S.every left P T k here
  ends_are : EndsWith S seed left faults P T k here ends
  among : (e : End) → Contains ends e → Contains xs e

-- the ends with a fault, within those at its place
record EndsWithFault (S : Setting) (seed : ℕ) (left : FaultCounts) (faults : List Entry) (P : Program) (T : Run) (k : ℕ) (f : Failure) (xs : List End) : Type 0 where
  program : Program
  ends : List End
  faulted : IsFaulted S.every P T k f program
  ends_are : EndsFrom S seed (fewer left f) (suc k) (then_fault faults k f) program ends
  among : (e : End) → Contains ends e → Contains xs e

-- the ends of a program of the storm, within all
record EndsOfProgram (S : Setting) (seed from : ℕ) (faults : List Entry) (P : Program) (xs : List End) : Type 0 where
  left : FaultCounts
  ends : List End
  left_is : IsLeft S.faults left faults
  ends_are : EndsFrom S seed left from faults P ends
  among : (e : End) → Contains ends e → Contains xs e

module _ (S : Setting) (seed : ℕ) where
  at_place : (left : FaultCounts) (from : ℕ) (faults : List Entry) (P : Program) (T : Run) (j k : ℕ) (xs : List End) → EndsBelow S seed left from faults P T j xs → from ≤ k → k < j → EndsAtPlace S seed left faults P T k xs
  at_place left from faults P T j k xs none low high = absurd (omega (arith, high))
  at_place left from faults P T j k xs (early {k = i} l a) low high =
      ⊎_elim (λ (e : k ≡ i). absurd (omega (arith, e, l, low))) (λ (m : k < i). at_place left from faults P T i k xs a low m) (cases_last k i high)
  at_place left from faults P T j k xs (at {k = i} {here = here} {before = before} {ends = ends} l a h v) low high =
      ⊎_elim
      (λ (e : k ≡ i). record {
        here = here;
        ends = ends;
        faults_are = subst (λ (n : ℕ). AreFaultsAt S.every left P T n here) (sym e) h;
        ends_are = subst (λ (n : ℕ). EndsWith S seed left faults P T n here ends) (sym e) v;
        among = λ x c. Contains-append_right before ends x c;
      })
      (λ (m : k < i).
      let r = at_place left from faults P T i k before a low m in
      record { here = r.here; ends = r.ends; faults_are = r.faults_are; ends_are = r.ends_are; among = λ x c. Contains-append_left before ends x (r.among x c) })
      (cases_last k i high)

  with_fault : (left : FaultCounts) (faults : List Entry) (P : Program) (T : Run) (k : ℕ) (fs : List Failure) (f : Failure) (xs : List End) → EndsWith S seed left faults P T k fs xs → Contains fs f → EndsWithFault S seed left faults P T k f xs
  with_fault left faults P T k fs f xs no_fault c = absurd (Contains-none f c)
  with_fault left faults P T k fs f xs (more {Q = Q} {f = g} {others = others} {ends = ends} {later = later} q a v) c =
      ⊎_elim
      (λ (e : f ≡ g). record {
        program = Q;
        ends = ends;
        faulted = subst (λ (h : Failure). IsFaulted S.every P T k h Q) (sym e) q;
        ends_are = subst (λ (h : Failure). EndsFrom S seed (fewer left h) (suc k) (then_fault faults k h) Q ends) (sym e) a;
        among = λ x d. Contains-append_left ends later x d;
      })
      (λ (d : Contains others f).
      let r = with_fault left faults P T k others f later v d in
      record { program = r.program; ends = r.ends; faulted = r.faulted; ends_are = r.ends_are; among = λ x m. Contains-append_right ends later x (r.among x m) })
      (Contains-cons_cases g others f c)

  below_of : (left : FaultCounts) (from : ℕ) (faults : List Entry) (P : Program) (T : Run) (k : ℕ) (xs : List End) → SerialRunIsUnique → EndsFrom S seed left from faults P xs → IsSerialRun P S.jobs seed S.steps T → from ≤ k → k < len T → EndsAtPlace S seed left faults P T k xs
  below_of left from faults P T k xs unique (run {T = U} {later = later} s b) t low high =
      let same : U ≡ T = unique P S.jobs seed S.steps U T s t in
      let r = at_place left from faults P T (len T) k later (subst (λ (X : Run). EndsBelow S seed left from faults P X (len X) later) same b) low high in
      record { here = r.here; ends = r.ends; faults_are = r.faults_are; ends_are = r.ends_are; among = λ x c. Contains-later (record { seed = seed; program = P; faults = faults; run = U }) later x (r.among x c) }

  first_of_ends : (left : FaultCounts) (from : ℕ) (faults : List Entry) (P : Program) (T : Run) (xs : List End) → SerialRunIsUnique → EndsFrom S seed left from faults P xs → IsSerialRun P S.jobs seed S.steps T → Contains xs (record { seed = seed; program = P; faults = faults; run = T })
  first_of_ends left from faults P T xs unique (run {T = U} {later = later} s b) t =
      let same : U ≡ T = unique P S.jobs seed S.steps U T s t in
      subst (λ (X : Run). Contains (record { seed = seed; program = P; faults = faults; run = U } ∷ later) (record { seed = seed; program = P; faults = faults; run = X })) same
      (Contains-head (record { seed = seed; program = P; faults = faults; run = U }) later)

  -- each program of the storm within the bounds has its ends there
  of_program : SerialRunIsUnique → ScriptsAreDetermined → (O : Program) (xs : List End) → EndsFrom S seed S.faults 0 [] O xs → (from : ℕ) (faults : List Entry) (P : Program) → Storms O S seed from faults P → IsWithin S.faults faults → EndsOfProgram S seed from faults P xs
  of_program unique law O xs tree from faults P itself few = record { left = S.faults; ends = xs; left_is = left_first S.faults; ends_are = tree; among = λ e c. c }
  of_program unique law O xs tree from faults P (further {from = start} {k = k} {faults = before} {P = R} {T = T} {f = f} comes s low q) few =
      let r = of_program unique law O xs tree start before R comes (within_front S.faults before (record { at = k; failure = f }) few) in
      let here = below_of r.left start before R T k r.ends unique r.ends_are s low q.step in
      let some : 0 < left_of r.left f = left_some S.faults r.left before k f r.left_is few in
      let new = with_fault r.left before R T k here.here f here.ends here.ends_are ((here.faults_are.all f).1 (some, (P, q))) in
      let same : new.program ≡ P = same_faulted law S.every R T k f new.program P new.faulted q in
      record {
        left = fewer r.left f;
        ends = new.ends;
        left_is = left_more S.faults r.left before k f r.left_is some;
        ends_are = subst (λ (X : Program). EndsFrom S seed (fewer r.left f) (suc k) (then_fault before k f) X new.ends) same new.ends_are;
        among = λ e c. r.among e (here.among e (new.among e c));
      }

  pub listed : SerialRunIsUnique → ScriptsAreDetermined → (O : Program) (xs : List End) → EndsFrom S seed S.faults 0 [] O xs → (e : End) → IsOf O S seed e → Contains xs e
  listed unique law O xs tree e is =
      let end = is.1 in
      let comes : Storms O S seed end.from e.faults e.program = subst (λ (n : ℕ). Storms O S n end.from e.faults e.program) is.0 end.comes in
      let serial : IsSerialRun e.program S.jobs seed S.steps e.run = subst (λ (n : ℕ). IsSerialRun e.program S.jobs n S.steps e.run) is.0 end.serial in
      let r = of_program unique law O xs tree end.from e.faults e.program comes end.few in
      subst (λ (n : ℕ). Contains xs (record { seed = n; program = e.program; faults = e.faults; run = e.run })) (sym is.0)
      (r.among (record { seed = seed; program = e.program; faults = e.faults; run = e.run }) (first_of_ends r.left end.from e.faults e.program e.run r.ends unique r.ends_are serial))
