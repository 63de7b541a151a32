-- What a log tells stays right, and goes on with each version.
use Rattle.std.proofs.Common.{◌≡◌, ◌⊎◌, ⊎_elim, ℕ, suc, ◌<◌, ◌≤◌, List, [], ◌∷◌, ◌++◌, length, Some, refl, sym, ap, ◌∙◌, subst, arith, Bool, true, false, cond, ltb, ltb-true, lt-ltb}
use Rattle.std.specs.Prelude.{slice_get}
use Rattle.std.specs.Prelude.{take}
use Rattle.std.proofs.lemmas.List.{length-take}
use Rattle.std.proofs.lemmas.Option.{slice_get_within}
use Rattle.tau_history.specs.Timeline.{Timeline, opening, newborn}
use Rattle.tau_history.specs.Closed.{IsFront}
use Rattle.tau_history.proofs.Chain.{closed_front}
use Rattle.tau_trace.proofs.PointLemmas.{chain}
use Rattle.tau_trace.specs.Run.{Run, starts}
use Rattle.tau_trace.proofs.Counted.{history-zero}
use Rattle.tau_trace.proofs.Quiet.{IsQuiet, quiet_history}
use Rattle.tau_trace.specs.Histories.{history}
use Rattle.tau_trace.proofs.Lists.{slice_get-push_cases}
use Rattle.tau_trace.proofs.Agreement.{agree_below, same_at}
use Rattle.tau_versions.specs.declared.logs.version.Version.{Version}
use Rattle.tau_versions.specs.Logs.Versions.{IsVersionOf, IsLatest}
use Rattle.tau_versions.specs.Logs.Told.{Told, TellsAt, TellsHistories}
use Rattle.tau_versions.specs.Logs.Laws.{LogsStay, LogsAreLocal}
use Rattle.tau_versions.proofs.Latest.{latest_is_unique, latest_stays_latest, newest_is_latest}

tells_same : (v : Version) (g h : Timeline) → g ≡ h → IsVersionOf v g → IsVersionOf v h
tells_same v g h e x = subst (IsVersionOf v) e x

last_place : (a n : ℕ) → a ≤ suc n → (a ≤ n) ⊎ (a ≡ suc n)
last_place a n le = grind (arith, le)

tells_at : (T U : Run) (u a b : ℕ) (vs : List Version) → history T u a ≡ history U u b → a ≡ b → TellsAt T u a vs → TellsAt U u b vs
tells_at T U u a b vs e same x = record {
  number = x.number;
  version = x.version;
  latest = let F : ℕ → Type 0 = λ n. IsLatest vs n x.number x.version in subst F same x.latest;
  tells = tells_same x.version (history T u a) (history U u b) e x.tells;
}

pub logs_are_local : LogsAreLocal
logs_are_local T U u n log agree x = record {
  begun = x.begun;
  told = λ a le. tells_at T U u a a log.versions ((same_at T U a (agree_below a le agree)).history_is u) refl (x.told a le);
  closed_is = x.closed_is ∙ ap (λ h. h.closed) ((same_at T U n agree).history_is u);
}

pub logs_stay : LogsStay
logs_stay T u n log e x = record {
  begun = λ i v s. omega (arith, x.begun i v s);
  told = λ a le. ⊎_elim (x.told a) (now a) (last_place a n le);
  closed_is = x.closed_is ∙ ap (λ h. h.closed) (sym e);
} where
  now : (a : ℕ) → a ≡ suc n → TellsAt T u a log.versions
  now a same =
      let y = x.told n (omega arith) in record {
        number = y.number;
        version = y.version;
        latest = record { stands = y.latest.stands; begun = omega (arith, y.latest.begun, same); none_later = λ j w lt s. absurd (omega (arith, y.latest.none_later j w lt s, x.begun j w s)) };
        tells = tells_same y.version (history T u n) (history T u a) (sym e ∙ ap (history T u) (sym same)) y.tells;
      }

-- with a new version the log goes on
pub log_goes_on : (T : Run) (u n : ℕ) (old new : Told) (v : Version) → new.versions ≡ old.versions ++ v ∷ [] → v.from ≡ suc n → IsVersionOf v (history T u (suc n)) → new.closed ≡ (history T u (suc n)).closed → TellsHistories T u n old → TellsHistories T u (suc n) new
log_goes_on T u n old new v pushed from tells closed x = record {
  begun = λ i w s. begun i w (ap (λ vs. slice_get vs i) (sym pushed) ∙ s);
  told = λ a le. let F : List Version → Type 0 = TellsAt T u a in subst F (sym pushed) (⊎_elim (before a) (now a) (last_place a n le));
  closed_is = closed;
} where
  begun : (i : ℕ) (w : Version) → slice_get (old.versions ++ v ∷ []) i ≡ Some w → w.from ≤ suc n
  begun i w s = ⊎_elim (λ f. omega (arith, x.begun i w f)) (λ p. let same : v.from ≡ w.from = ap (λ z. z.from) p.1 in omega (arith, same, from)) (slice_get-push_cases old.versions v w i s)

  before : (a : ℕ) → a ≤ n → TellsAt T u a (old.versions ++ v ∷ [])
  before a le =
      let y = x.told a le in record { number = y.number; version = y.version; latest = latest_stays_latest old.versions a y.number y.version v (omega (arith, from)) y.latest; tells = y.tells }

  now : (a : ℕ) → a ≡ suc n → TellsAt T u a (old.versions ++ v ∷ [])
  now a same = record { number = length old.versions; version = v; latest = newest_is_latest old.versions v a (omega (arith, same, from)); tells = tells_same v (history T u (suc n)) (history T u a) (ap (history T u) (sym same)) tells }

-- what a log says by the latest version at a place
pub record SaysAt (T : Run) (u a : ℕ) (log : Told) (v : Version) : Type 0 where
  pub tells : IsVersionOf v (history T u a)
  pub front : IsFront (history T u a).closed log.closed

front_of : (xs ys : List ℕ) → xs ≡ take (length xs) ys → IsFront xs ys
front_of xs ys e = record { is = e; shorter = omega (arith, ap length e, length-take (length xs) ys) }

pub says_at : (T : Run) (u n a i : ℕ) (log : Told) (v : Version) → TellsHistories T u n log → a ≤ n → IsLatest log.versions a i v → SaysAt T u a log v
says_at T u n a i log v x le latest =
    let y = x.told a le in
    let same : y.version ≡ v = (latest_is_unique log.versions a y.number i y.version v y.latest latest).1 in
    let F : Version → Type 0 = λ w. IsVersionOf w (history T u a) in
    let G : List ℕ → Type 0 = IsFront (history T u a).closed in record { tells = subst F same y.tells; front = subst G (sym x.closed_is) (front_of (history T u a).closed (history T u n).closed (closed_front (chain T u a n le))) }

-- a log with one version from the opening on
pub one_version : (T : Run) (u n : ℕ) (log : Told) (v : Version) → log.versions ≡ v ∷ [] → v.from ≡ 0 → ((a : ℕ) → a ≤ n → IsVersionOf v (history T u a)) → log.closed ≡ (history T u n).closed → TellsHistories T u n log
one_version T u n log v is from tells closed = record {
  begun = λ i w s. ⊎_elim (λ f. absurd (omega (arith, slice_get_within [] i w f))) (λ p. let same : v.from ≡ w.from = ap (λ z. z.from) p.1 in omega (arith, same, from)) (slice_get-push_cases [] v w i (ap (λ vs. slice_get vs i) (sym is) ∙ s));
  told = λ a le. let F : List Version → Type 0 = TellsAt T u a in subst F (sym is) (record { number = 0; version = v; latest = newest_is_latest [] v a (omega (arith, from)); tells = tells a le });
  closed_is = closed;
}

le-ltb : (m n : ℕ) → n ≤ m → ltb m n ≡ false
le-ltb m n le = by (ltb m n) refl where
  by : (b : Bool) → ltb m n ≡ b → b ≡ false
  by true e = absurd (omega (arith, ltb-true m n e, le))
  by false e = refl

started : (T : Run) (u : ℕ) → u < starts T → history T u 0 ≡ opening
started T u h = history-zero T u ∙ ap (λ b. cond b opening newborn) (lt-ltb u (starts T) h)

pub starts_tell : (T : Run) (u : ℕ) (log : Told) (v : Version) → log.versions ≡ v ∷ [] → v.from ≡ 0 → IsVersionOf v opening → log.closed ≡ 0 ∷ [] → u < starts T → TellsHistories T u 0 log
starts_tell T u log v is from tells closed start =
    one_version T u 0 log v is from (λ a le. tells_same v opening (history T u a) (sym (started T u start) ∙ ap (history T u) (omega (arith, le))) tells) (closed ∙ ap (λ h. h.closed) (sym (started T u start)))

pub created : (T : Run) (u n : ℕ) → starts T ≤ u → IsQuiet T u n → history T u n ≡ newborn
created T u n late quiet = quiet_history T u n quiet ∙ history-zero T u ∙ ap (λ b. cond b opening newborn) (le-ltb u (starts T) late)

pub newborns_tell : (T : Run) (u n : ℕ) (log : Told) (v : Version) → log.versions ≡ v ∷ [] → v.from ≡ 0 → IsVersionOf v newborn → log.closed ≡ [] → starts T ≤ u → IsQuiet T u n → TellsHistories T u n log
newborns_tell T u n log v is from tells closed late quiet =
    one_version T u n log v is from (λ a le. tells_same v newborn (history T u a) (sym (created T u a late (λ j l. quiet j (omega (arith, l, le))))) tells) (closed ∙ ap (λ h. h.closed) (sym (created T u n late quiet)))
