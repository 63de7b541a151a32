-- What is kept before the first step.
use Rattle.std.proofs.Common.{◌≡◌, inl, ⊎_elim, ℕ, zero, suc, ◌+◌, ◌-◌, ◌<◌, ◌≤◌, false, List, [], ◌∷◌, ◌++◌, length, Option, Some, refl, sym, ap, ◌∙◌, subst, arith, length-append}
use Rattle.std.specs.Prelude.{slice_get, All}
use Rattle.std.specs.Option.{option_map_or}
use Rattle.std.proofs.lemmas.List.Elements.{All-contains, All-push}
use Rattle.std.proofs.lemmas.Option.{slice_get_within, get_or_from_slice_get}
use Rattle.tau_points.specs.declared.point.Point.{Point}
use Rattle.tau_points.proofs.Membership.{Contains-none}
use Rattle.tau_trace.specs.declared.opening.Opening.{Opening}
use Rattle.tau_trace.specs.Steps.{is_new, makes_message}
use Rattle.tau_trace.specs.Run.{Run, step_at, starts}
use Rattle.tau_trace.specs.Numbering.{born, sent}
use Rattle.tau_trace.specs.Known.{IsSound, WellFormed}
use Rattle.tau_trace.proofs.Counts.{count-zero}
use Rattle.tau_trace.proofs.Lists.{same_some, slice_get-push_cases}
use Rattle.tau_past.specs.Carried.{Pending}
use Rattle.tau_past.specs.Heard.{Own, own_step, own_birth, Heard, HeardBy}
use Rattle.tau_past.proofs.Expected.{posts_carry_nothing}
use Rattle.tau_past.proofs.HeardLemmas.{stands_before}
use Rattle.tau_past.proofs.Known.{heard_before}
use Rattle.tau_past.proofs.PendingLemmas.{pending_turn}
use Rattle.tau_knowledge.specs.Knowing.{opened}
use Rattle.tau_versions.specs.declared.logs.version.Version.{Version}
use Rattle.tau_versions.specs.Logs.Versions.{IsLatest}
use Rattle.tau_versions.specs.Logs.Told.{Told}
use Rattle.tau_versions.specs.Logs.Takes.{taken, TellsTaken}
use Rattle.tau_versions.proofs.Latest.{newest_is_latest}
use Rattle.tau_heard.specs.declared.own.Own as kept
use Rattle.tau_heard.specs.declared.letter.Letter.{Letter}
use Rattle.tau_heard.specs.Bounds.{TellsNumber, TellsBounds, last_number}
use Rattle.tau_versions.specs.Search.Logs.{TellsLog, AreLogs}
use Rattle.tau_heard.specs.Turns.{TellsTurn}
use Rattle.tau_heard.specs.Falls.{falls_at}
use Rattle.tau_heard.specs.Hears.{TellsOwn, TellsLetter, Hears}
use Rattle.tau_heard.specs.Opened.{IsStartLog, AreStartLogs, IsUnheard, AreStartOwn, IsPost, IsPostThere, ArePosts}
use Rattle.tau_heard.proofs.Bounds.{IsNumberAt, number_told}
use Rattle.tau_heard.proofs.Turns.{nothing_along}

-- what is said of all items is said of each
each_of : {A : Type 0} (P : A → Type 0) (xs : List A) (i : ℕ) (x : A) → All P xs → slice_get xs i ≡ Some x → P x
each_of P xs i x all e = All-contains P xs x all (i, slice_get_within xs i x e, get_or_from_slice_get xs i x x e)

element : {A : Type 0} (xs : List A) (i : ℕ) → i < length xs → (x : A) × (slice_get xs i ≡ Some x)
element [] i l = absurd (omega arith)
element (x ∷ xs) zero l = (x, refl)
element (x ∷ xs) (suc i) l = element xs i (omega arith)

-- the first version
abbrev first_version : Version
first_version = record { interval = 1; incarnation = 0; stable = false; first = 0; last = 0; from = 0 }

module _ (o : Opening) (sound : IsSound o) (logs : List Told) (own : List kept.Own) (letters : List (Option Letter)) (told : AreStartLogs logs (length o.names)) (unheard : AreStartOwn own (length o.names)) (posts : ArePosts letters (length o.targets)) where
  abbrev pub T : Run
  T = opened o

  known : WellFormed T
  known = record { opening = sound; known = λ k s e. absurd (cc); versions = λ k s e. absurd (cc); few_steps = omega arith }

  born_first : born T 0 ≡ length o.names
  born_first = omega (arith, count-zero (λ j. option_map_or is_new (step_at T j) false))

  sent_first : sent T 0 ≡ length o.targets
  sent_first = omega (arith, count-zero (λ j. option_map_or makes_message (step_at T j) false))

  latest : (log : Told) (a : ℕ) → IsStartLog log → IsLatest log.versions a 0 first_version
  latest log a x = let F : List Version → Type 0 = λ vs. IsLatest vs a 0 first_version in subst F (sym x.versions) (newest_is_latest [] first_version a (omega arith))

  -- no point has taken anything
  nothing_taken : (u a : ℕ) → a ≤ 0 → TellsTaken T u a []
  nothing_taken u a le = record { took = λ q c. absurd (Contains-none q c); covers = λ j q own t. absurd (none j own) } where
    none : (j : ℕ) → ¬ Own T u a j
    none j (own_step b lt) = omega (arith, lt, le)
    none j (own_birth b) = let e = b.stands in absurd (cc)

  tells_log : (u : ℕ) (log : Told) → slice_get logs u ≡ Some log → TellsLog T u 0 log
  tells_log u log e =
      let x = each_of IsStartLog logs u log told.1 e in record {
        opens = (first_version, latest log 0 x);
        few = omega (arith, ap length x.versions);
        histories = x.tells T u (omega (arith, slice_get_within logs u log e, told.0));
        takes = record { within = within x; told = taken_at x };
      } where
        only : (x : IsStartLog log) (i : ℕ) (v : Version) → slice_get log.versions i ≡ Some v → first_version ≡ v
        only x i v s = ⊎_elim (λ f. absurd (omega (arith, slice_get_within [] i v f))) (λ p. p.1) (slice_get-push_cases [] first_version v i (ap (λ vs. slice_get vs i) (sym x.versions) ∙ s))

        within : (x : IsStartLog log) (i : ℕ) (v : Version) → slice_get log.versions i ≡ Some v → (v.first ≤ v.last) × (v.last ≤ length log.takes)
        within x i v s = let e = only x i v s in (omega (arith, ap (λ z. z.first) e), omega (arith, ap (λ z. z.last) e))

        taken_at : (x : IsStartLog log) (a i : ℕ) (v : Version) → a ≤ 0 → IsLatest log.versions a i v → TellsTaken T u a (taken log.takes v)
        taken_at x a i v le l =
            let F : Version → Type 0 = λ w. TellsTaken T u a (taken log.takes w) in
            let G : List Point → Type 0 = λ ps. TellsTaken T u a (taken ps first_version) in
            subst F (only x i v l.stands) (subst G (sym x.takes) (nothing_taken u a le))

  are_logs : AreLogs T 0 logs
  are_logs = record { count = told.0 ∙ sym born_first; each = tells_log }

  number : (u : ℕ) → u < length logs → IsNumberAt logs u 0 0
  number u lt =
      let x = element logs u lt in record { log = x.0; stands = x.1; version = first_version; latest = latest x.0 0 (each_of IsStartLog logs u x.0 told.1 x.1) }

  nothing_told : (H : ℕ → Type 0) → ((j : ℕ) → ¬ H j) → (u : ℕ) → u < length logs → TellsNumber T H 0 logs u 0
  nothing_told H none u lt = number_told 0 (omega arith) (record { steps = λ j acts. (λ h. absurd (none j h), λ l. absurd (omega (arith, l))); last = inl refl }) (number u lt)

  last_is_first : (u : ℕ) → u < length logs → last_number logs u ≡ 0
  last_is_first u lt =
      let x = element logs u lt in
      ap (λ o. option_map_or (λ (l : Told). length l.versions - 1) o 0) x.1 ∙ ap (λ vs. length vs - 1) (each_of IsStartLog logs u x.0 told.1 x.1).versions

  tells_own : (t : ℕ) (x : kept.Own) → slice_get own t ≡ Some x → TellsOwn T t 0 logs x
  tells_own t x e = record { heard = heard; turn = turn } where
    is : IsUnheard x
    is = each_of IsUnheard own t x unheard.1 e

    there : t < length logs
    there = omega (arith, slice_get_within own t x e, unheard.0, told.0)

    none : (j : ℕ) → ¬ Heard T t 0 j
    none j h = omega (arith, heard_before T t 0 j known (omega (arith, there, told.0, born_first)) h)

    heard : TellsBounds T (Heard T t 0) 0 logs t (last_number logs t) x.numbers.numbers
    heard =
        let F : ℕ → Type 0 = λ n. TellsBounds T (Heard T t 0) 0 logs t n x.numbers.numbers in
        let G : List ℕ → Type 0 = λ xs. TellsBounds T (Heard T t 0) 0 logs t 0 xs in
        subst F (sym (last_is_first t there)) (subst G (sym is.numbers) (record {
          own = nothing_told (Heard T t 0) none t there;
          others = λ u lt ne. nothing_told (Heard T t 0) none u lt;
          not_later = omega arith;
          few = omega arith;
        }))

    no_turn : (q : Point) → ¬ Pending T t 0 q
    no_turn q p = let turn = pending_turn T t 0 q p in omega (arith, turn.1.1.before)

    turn : TellsTurn T t 0 x.roots x.touched x.depended
    turn = rw (is.roots, is.touched, is.depended) (nothing_along T t 0 no_turn)

  tells_post : (m : ℕ) (l : Letter) → m < length o.targets → IsPost l → TellsLetter T m 0 logs l
  tells_post m l there post = record {
    heard = rw post.sender (λ u lt. nothing_told (HeardBy T m) (λ j. (stands_before T known).post m j there) u lt);
    roots = rw post.roots (record { sent = λ q c. absurd (Contains-none q c); covers = λ q s. absurd (posts_carry_nothing T m q there s) });
  }

  pub opens : Hears T 0 logs own letters 0
  opens = record {
    logs_are = are_logs;
    transactors = unheard.0 ∙ sym born_first;
    each = tells_own;
    messages = posts.0 ∙ sym sent_first;
    letter = λ m l e.
        let p = each_of IsPostThere letters m (Some l) posts.1 e in
        let F : Letter → Type 0 = IsPost in
        tells_post m l (omega (arith, slice_get_within letters m (Some l) e, posts.0)) (subst F (sym (same_some p.there)) p.is_post);
    in_flight = λ m f.
        let x = element letters m (omega (arith, f.exists, posts.0, sent_first)) in
        let p = each_of IsPostThere letters m x.0 posts.1 x.1 in
        (p.post, x.1 ∙ ap Some p.there);
    falls_is = sym (count-zero (falls_at T));
  }

pub opens_with : (o : Opening) → IsSound o → (starts posts : ℕ) → length o.names ≡ starts → length o.targets ≡ posts → {logs : List Told} {own : List kept.Own} {letters : List (Option Letter)}
    → AreStartLogs logs starts → AreStartOwn own starts → ArePosts letters posts → Hears (opened o) 0 logs own letters 0
opens_with o sound starts posts names targets {logs} {own} {letters} a b c =
    let F : ℕ → Type 0 = AreStartLogs logs in
    let G : ℕ → Type 0 = AreStartOwn own in
    let H : ℕ → Type 0 = ArePosts letters in
    opens o sound logs own letters (subst F (sym names) a) (subst G (sym names) b) (subst H (sym targets) c)

-- the log of one start more
pub starts_more : (logs : List Told) (n : ℕ) (log : Told) → IsStartLog log → AreStartLogs logs n → AreStartLogs (logs ++ log ∷ []) (n + 1)
starts_more logs n log is given = (omega (arith, length-append logs (log ∷ []), given.0), All-push IsStartLog logs log given.1 is)
