-- The fate by a version is that by the history that the version tells.
use Rattle.std.proofs.Common.{◌≡◌, ⊎_elim, ℕ, ◌<◌, ◌≤◌, List, [], ◌∷◌, length, get_or, Some, refl, sym, ap, ◌∙◌, arith, lt-ltb}
use Rattle.std.specs.Prelude.{slice_get, ◌==◌}
use Rattle.std.proofs.lemmas.Bool.{le-ltb, eq-eqb, ne_eqb, cases_order}
use Rattle.std.proofs.lemmas.List.{get_or-take}
use Rattle.std.proofs.lemmas.Option.{slice_get-get_or, slice_get_past}
use Rattle.tau_history.specs.Timeline.{Timeline, numbers}
use Rattle.tau_history.specs.Closed.{IsFront}
use Rattle.tau_history.specs.Fates.{fate, fate_at}
use Rattle.tau_history.proofs.Gets.{slice_get-append, slice_get-seam}
use Rattle.tau_history.proofs.Table.{length-numbers}
use Rattle.tau_trace.specs.Run.{Run}
use Rattle.tau_trace.specs.Histories.{history}
use Rattle.tau_versions.specs.declared.logs.version.Version.{Version}
use Rattle.tau_versions.specs.Logs.Versions.{IsVersionOf, IsLatest}
use Rattle.tau_versions.specs.Logs.Told.{Told, TellsHistories}
use Rattle.tau_versions.specs.Logs.Takes.{taken}
use Rattle.tau_versions.specs.Logs.Reading.{number_by, fate_by, fate_told, takes_told}
use Rattle.tau_versions.proofs.Telling.{says_at}

-- below the length of a front both lists have the same numbers
same_in_front : (xs ys : List ℕ) (i : ℕ) → IsFront xs ys → i < length xs → slice_get ys i ≡ slice_get xs i
same_in_front xs ys i f lt =
    let shorter = f.shorter in
    let here : get_or xs i 0 ≡ get_or ys i 0 = ap (λ zs. get_or zs i 0) f.is ∙ get_or-take (length xs) ys i 0 lt in
    slice_get-get_or ys i 0 (omega (arith, lt, shorter)) ∙ ap Some (sym here) ∙ sym (slice_get-get_or xs i 0 lt)

number_is : (v : Version) (h : Timeline) (closed : List ℕ) (i : ℕ) → IsVersionOf v h → IsFront h.closed closed → number_by v closed i ≡ slice_get (numbers h) i
number_is v h closed i x f = ⊎_elim here (λ c. ⊎_elim before after c) (cases_order i v.interval) where
  before : i < v.interval → number_by v closed i ≡ slice_get (numbers h) i
  before lt =
      let within : i < length h.closed = omega (arith, lt, x.interval_is) in
      rw (lt-ltb i v.interval lt) (same_in_front h.closed closed i f within ∙ sym (slice_get-append h.closed (h.last ∷ []) i within))

  here : i ≡ v.interval → number_by v closed i ≡ slice_get (numbers h) i
  here e =
      let le : v.interval ≤ i = omega (arith, e) in
      let at : i ≡ length h.closed = e ∙ x.interval_is in
      rw (le-ltb i v.interval le, eq-eqb i v.interval e) (ap Some x.incarnation_is ∙ sym (slice_get-seam h.closed h.last []) ∙ ap (slice_get (numbers h)) (sym at))

  after : v.interval < i → number_by v closed i ≡ slice_get (numbers h) i
  after lt =
      let le : v.interval ≤ i = omega (arith, lt) in
      rw (le-ltb i v.interval le, ne_eqb i v.interval (λ e. omega (arith, e, lt))) (sym (slice_get_past (numbers h) i (omega (arith, lt, x.interval_is, length-numbers h))))

pub fate_by_history : (v : Version) (h : Timeline) (closed : List ℕ) (i m : ℕ) → IsVersionOf v h → IsFront h.closed closed → fate_by v closed i m ≡ fate h i m
fate_by_history v h closed i m x f = λ k. fate_at (i == x.interval_is k) (x.stable_is k) m (number_is v h closed i x f k)

-- by the number of the version that is the latest at a place
pub fate_told_is : (T : Run) (u n a number i m : ℕ) (log : Told) (v : Version) → TellsHistories T u n log → a ≤ n → IsLatest log.versions a number v → fate_told log number i m ≡ fate (history T u a) i m
fate_told_is T u n a number i m log v x le latest =
    let says = says_at T u n a number log v x le latest in
    rw latest.stands (fate_by_history v (history T u a) log.closed i m says.tells says.front)

pub takes_told_are : (a number : ℕ) (log : Told) (v : Version) → IsLatest log.versions a number v → takes_told log number ≡ taken log.takes v
takes_told_are a number log v latest = rw latest.stands refl
