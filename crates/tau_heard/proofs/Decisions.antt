-- What is kept as what a decision rests on.
use Rattle.std.proofs.Common.{◌≡◌, ◌↔◌, inl, inr, ⊎_elim, ℕ, ◌-◌, ◌<◌, ◌≤◌, Bool, true, false, not, IsTrue, List, [], ◌∷◌, ◌++◌, length, get_or, Option, Some, None, refl, sym, ap, ap₂, ◌∙◌, subst, arith}
use Rattle.std.specs.Prelude.{slice_get, Contains}
use Rattle.std.specs.Option.{option_map_or}
use Rattle.std.proofs.lemmas.Bool.{cases_lt}
use Rattle.std.proofs.lemmas.List.{get_or_past}
use Rattle.std.proofs.lemmas.Option.{slice_get_within, slice_get_cases}
use Rattle.tau_history.specs.declared.fate.Fate.{Fate}
use Rattle.tau_points.specs.declared.point.Point.{Point}
use Rattle.tau_trace.specs.Run.{Run, len}
use Rattle.tau_trace.specs.Histories.{history, Falls}
use Rattle.tau_trace.specs.Numbering.{born, InFlight}
use Rattle.tau_trace.specs.Points.{point_at}
use Rattle.tau_trace.specs.Known.{WellFormed}
use Rattle.tau_trace.proofs.Lists.{same_some}
use Rattle.tau_past.specs.Heard.{Heard, HeardBy, HeardTogether}
use Rattle.tau_past.specs.Safety.{KeepsRules}
use Rattle.tau_past.specs.Decisions.{take, FallsBy, DropsBy, Free}
use Rattle.tau_versions.specs.declared.logs.version.Version.{Version}
use Rattle.tau_versions.specs.Logs.Versions.{IsVersionOf}
use Rattle.tau_versions.specs.Logs.Told.{Told}
use Rattle.tau_versions.specs.Search.Logs as search
use Rattle.tau_versions.specs.Search.Logs.{AreLogs}
use Rattle.tau_versions.specs.Search.Numbered.{with_version, later}
use Rattle.tau_versions.specs.Search.Searching.{Finds, is_fallen, is_not_firm}
use Rattle.tau_versions.proofs.Deciding.{listed_numbers_tell, numbers_together, own_search_tells_falls, root_search_tells_drops, own_search_tells_freedom, searches_join}
use Rattle.tau_heard.specs.declared.own.Own.{Own}
use Rattle.tau_heard.specs.declared.letter.Letter.{Letter}
use Rattle.tau_heard.specs.declared.letter.Sender.{Sender}
use Rattle.tau_heard.specs.declared.hearing.Hearing.{Hearing}
use Rattle.tau_heard.specs.Bounds.{TellsNumber, TellsBounds, TellsHeardBy, last_number}
use Rattle.tau_heard.specs.Falls.{falling_steps}
use Rattle.tau_heard.specs.Hears.{Knows}
use Rattle.tau_heard.specs.Laws.{NoneCountedAllIsTaken}
use Rattle.tau_heard.proofs.Bounds.{last_tells}
use Rattle.tau_heard.proofs.Counting.{none_counted_nothing_falls}
use Rattle.tau_heard.proofs.Turns.{leaves_ends}

-- where no falling step was counted, no step of the run falls
nothing_falls : (T : Run) → falling_steps T (len T) ≡ 0 → (u k : ℕ) → ¬ Falls T u k
nothing_falls T none u k f = ⊎_elim
    (λ lt. none_counted_nothing_falls T (len T) none u k lt f)
    (λ late. let d = leaves_ends T u k (inr f) in omega (arith, late, slice_get_within T.steps k d.step d.stands))
    (cases_lt k (len T))

-- then every message is taken
pub none_counted_all_is_taken : NoneCountedAllIsTaken
none_counted_all_is_taken T t m none = take (λ x. nothing_falls T none x.cause.who x.fallen.place x.fallen.falls) (λ x. nothing_falls T none x.cause.who x.fallen.place x.fallen.falls)

-- What is kept as the search asks for it.

search_bound : (T : Run) (H : ℕ → Type 0) (n : ℕ) (logs : List Told) (u i : ℕ) (log : Told) → slice_get logs u ≡ Some log → TellsNumber T H n logs u i → search.TellsBound T H n u log i
search_bound T H n logs u i log e x =
    let F : Told → Type 0 = λ l. search.TellsBound T H n u l i in subst F (same_some (sym x.stands ∙ e)) x.tells

pub search_bounds : (T : Run) (H : ℕ → Type 0) (n who version : ℕ) (logs : List Told) (numbers : List ℕ) → TellsBounds T H n logs who version numbers → search.TellBounds T H n logs (with_version who version numbers)
search_bounds T H n who version logs numbers x = listed_numbers_tell H T n who version logs numbers (λ log e. search_bound T H n logs who version log e x.own)
    (λ u log ne e. search_bound T H n logs u (get_or numbers u 0) log e (x.others u (slice_get_within logs u log e) ne))

-- what a message has heard: a post nothing, any other message what its sender had heard
pub post_bounds : (T : Run) (m n : ℕ) (logs : List Told) → TellsHeardBy T m n logs None → search.TellBounds T (HeardBy T m) n logs (with_version 0 0 [])
post_bounds T m n logs x = listed_numbers_tell (HeardBy T m) T n 0 0 logs [] (λ log e. search_bound T (HeardBy T m) n logs 0 0 log e (x 0 (slice_get_within logs 0 log e)))
    (λ u log ne e. let F : ℕ → Type 0 = search.TellsBound T (HeardBy T m) n u log in subst F (sym (get_or_past {X = ℕ} [] u 0 (omega arith))) (search_bound T (HeardBy T m) n logs u 0 log e (x u (slice_get_within logs u log e))))

pub sender_bounds : (T : Run) (m n : ℕ) (logs : List Told) (s : Sender) (who version : ℕ) (numbers : List ℕ) → who ≡ s.who → version ≡ s.version → numbers ≡ s.numbers.value.items
    → TellsHeardBy T m n logs (Some s) → search.TellBounds T (HeardBy T m) n logs (with_version who version numbers)
sender_bounds T m n logs s who version numbers a b d x =
    let F : ℕ → Type 0 = λ w. search.TellBounds T (HeardBy T m) n logs (with_version w version numbers) in
    let G : ℕ → Type 0 = λ v. search.TellBounds T (HeardBy T m) n logs (with_version s.who v numbers) in
    let H : List ℕ → Type 0 = λ xs. search.TellBounds T (HeardBy T m) n logs (with_version s.who s.version xs) in
    subst F (sym a) (subst G (sym b) (subst H (sym d) (search_bounds T (HeardBy T m) n s.who s.version logs s.numbers.value.items x.1)))

-- there are no more numbers than steps
pub few_numbers : (T : Run) (n : ℕ) (logs : List Told) (u : ℕ) → AreLogs T n logs → last_number logs u ≤ n
few_numbers T n logs u x = ⊎_elim
    (λ s. let F : Option Told → ℕ = λ o. option_map_or (λ (l : Told). length l.versions - 1) o 0 in omega (arith, ap F s.2, (x.each u s.0 s.2).few))
    (λ p. let F : Option Told → ℕ = λ o. option_map_or (λ (l : Told). length l.versions - 1) o 0 in omega (arith, ap F p.1))
    (slice_get_cases logs u).1

turned : (b : Bool) (X F : Type 0) → (IsTrue b ↔ X) → ((¬ X) ↔ F) → IsTrue (not b) ↔ F
turned true X F found free = (λ e. absurd (cc), λ f. absurd (free.1 f (found.0 refl)))
turned false X F found free = (λ e. free.0 (λ x. absurd (let clash = found.1 x in cc)), λ f. refl)

module _ (T : Run) (h : Hearing) (knows : Knows h T) (t : ℕ) (exists : t < born T (len T)) where
  -- what is kept of a transactor that exists
  pub own_kept : (x : Own) × (slice_get h.own.items t ≡ Some x)
  own_kept = ⊎_elim (λ s. (s.0, s.2)) (λ p. absurd (omega (arith, p.0, knows.transactors, exists))) (slice_get_cases h.own.items t).1

  pub log_kept : (log : Told) × (slice_get h.logs.items t ≡ Some log)
  log_kept = ⊎_elim (λ s. (s.0, s.2)) (λ p. absurd (omega (arith, p.0, knows.logs_are.count, exists))) (slice_get_cases h.logs.items t).1

  pub own_bounds : (x : Own) → slice_get h.own.items t ≡ Some x → search.TellBounds T (Heard T t (len T)) (len T) h.logs.items (with_version t (last_number h.logs.items t) x.numbers.numbers)
  own_bounds x e = search_bounds T (Heard T t (len T)) (len T) t (last_number h.logs.items t) h.logs.items x.numbers.numbers (knows.each t x e).heard

  -- its last version has its point
  pub last_point : (log : Told) (p : Point) → slice_get h.logs.items t ≡ Some log → ((v : Version) → slice_get log.versions (length log.versions - 1) ≡ Some v → p ≡ record { who = t; interval = v.interval; incarnation = v.incarnation }) → p ≡ point_at T t (len T)
  last_point log p e is = is v.0 v.1 ∙ ap₂ F tells.interval_is tells.incarnation_is where
    v : (v : Version) × (slice_get log.versions (length log.versions - 1) ≡ Some v)
    v =
        let x = (knows.logs_are.each t log e).opens in
        ⊎_elim (λ s. (s.0, s.2)) (λ p. absurd (omega (arith, p.0, slice_get_within log.versions 0 x.0 x.1.stands))) (slice_get_cases log.versions (length log.versions - 1)).1

    tells : IsVersionOf v.0 (history T t (len T))
    tells = (last_tells T t (len T) log v.0 (knows.logs_are.each t log e).histories v.1).tells

    F : ℕ → ℕ → Point
    F = λ i k. record { who = t; interval = i; incarnation = k }

  module _ (known : WellFormed T) (rules : KeepsRules T) (own : ℕ → ℕ) (heard : search.TellBounds T (Heard T t (len T)) (len T) h.logs.items own) (p : Point) (me : p ≡ point_at T t (len T)) where
    pub freedom : (found : Bool) → (IsTrue found ↔ Finds is_not_firm h.logs.items own (Contains (p ∷ []))) → IsTrue (not found) ↔ Free T t (len T)
    freedom found finds =
        let F : Point → Type 0 = λ q. (¬ Finds is_not_firm h.logs.items own (Contains (q ∷ []))) ↔ Free T t (len T) in
        let law = own_search_tells_freedom T t (len T) h.logs.items own exists (record { well_formed = known; rules = rules; logs_are = knows.logs_are; numbers_tell = heard }) in
        turned found (Finds is_not_firm h.logs.items own (Contains (p ∷ []))) (Free T t (len T)) finds (subst F (sym me) law)

    module _ (m : ℕ) (flies : InFlight T m (len T)) (l : Letter) (stands : slice_get h.letters.items m ≡ Some (Some l)) (theirs : ℕ → ℕ) (tell : search.TellBounds T (HeardBy T m) (len T) h.logs.items theirs) where
      told : search.IsTold T (HeardTogether T t (len T) m) (len T) h.logs.items (later own theirs)
      told = record { well_formed = known; rules = rules; logs_are = knows.logs_are; numbers_tell = numbers_together T t (len T) m h.logs.items own theirs heard tell }

      pub falls_found : (b : Bool) → (IsTrue b ↔ Finds is_fallen h.logs.items (later own theirs) (Contains (p ∷ []))) → IsTrue b ↔ FallsBy T t (len T) m
      falls_found b finds =
          let F : Point → Type 0 = λ q. Finds is_fallen h.logs.items (later own theirs) (Contains (q ∷ [])) ↔ FallsBy T t (len T) m in
          let law = subst F (sym me) (own_search_tells_falls T t (len T) m h.logs.items (later own theirs) exists flies.exists told) in (λ e. law.0 (finds.0 e), λ f. finds.1 (law.1 f))

      pub drops_found : (b : Bool) → (IsTrue b ↔ Finds is_fallen h.logs.items (later own theirs) (Contains l.roots)) → IsTrue b ↔ DropsBy T t (len T) m
      drops_found b finds =
          let law = root_search_tells_drops T t (len T) m h.logs.items (later own theirs) l.roots exists flies.exists told (knows.letter m l stands).roots in (λ e. law.0 (finds.0 e), λ f. finds.1 (law.1 f))

-- A search from a list and from one point more.

module _ (wanted : Fate → Bool) (logs : List Told) (numbers : ℕ → ℕ) (many more roots : List Point) (is : roots ≡ many ++ more) where
  abbrev finds : List Point → Type 0
  finds xs = Finds wanted logs numbers (Contains xs)

  joined : finds roots → (¬ finds many) → finds more
  joined f none = ⊎_elim (λ x. absurd (none x)) (λ y. y) ((searches_join wanted logs numbers many more).0 (subst finds is f))

  pub found_first : (a : Bool) → a ≡ true → (IsTrue a ↔ finds many) → IsTrue true ↔ finds roots
  found_first a e x = (λ t. subst finds (sym is) ((searches_join wanted logs numbers many more).1 (inl (x.0 e))), λ f. refl)

  pub found_next : (a b : Bool) → a ≡ false → (IsTrue a ↔ finds many) → (IsTrue b ↔ finds more) → IsTrue b ↔ finds roots
  found_next a b e x y = (
    λ t. subst finds (sym is) ((searches_join wanted logs numbers many more).1 (inr (y.0 t))),
    λ f. y.1 (joined f (λ z. let both = sym e ∙ x.1 z in cc)),
  )
