-- The log of a created transactor.
use Rattle.std.proofs.Common.{◌≡◌, ⊎_elim, ℕ, suc, ◌-◌, ◌<◌, ◌≤◌, false, List, [], ◌∷◌, length, Some, sym, ap, ◌∙◌, subst, arith}
use Rattle.std.specs.Prelude.{slice_get}
use Rattle.std.proofs.lemmas.List.{take_all}
use Rattle.std.proofs.lemmas.Option.{slice_get_within}
use Rattle.tau_history.specs.Timeline.{Timeline, interval}
use Rattle.tau_points.specs.declared.point.Point.{Point}
use Rattle.tau_points.proofs.Reach.{monotone}
use Rattle.tau_trace.specs.Run.{Run, ActsAt, starts}
use Rattle.tau_trace.specs.Numbering.{IsNew}
use Rattle.tau_trace.specs.Points.{point_at}
use Rattle.tau_trace.specs.Known.{WellFormed}
use Rattle.tau_trace.proofs.Agreement.{born-grows}
use Rattle.tau_trace.proofs.Lists.{slice_get-push_cases}
use Rattle.tau_trace.proofs.Quiet.{quiet_history}
use Rattle.tau_past.specs.Carried.{TakesBy}
use Rattle.tau_past.specs.Heard.{Needs, Own, own_step, own_birth, Heard}
use Rattle.tau_past.proofs.Known.{acts_known}
use Rattle.tau_versions.specs.declared.logs.version.Version.{Version}
use Rattle.tau_versions.specs.Logs.Versions.{IsLatest}
use Rattle.tau_versions.specs.Logs.Told.{Told, TellsHistories}
use Rattle.tau_versions.specs.Logs.Takes.{taken, TellsTaken}
use Rattle.tau_versions.proofs.Latest.{newest_is_latest}
use Rattle.tau_versions.proofs.Taking.{cover_on}
use Rattle.tau_versions.specs.Search.Logs.{TellsLog}

-- before its first step, at each place what its point has taken is the same
module _ (T : Run) (u n a : ℕ) (le : a ≤ suc n) (quiet : (j : ℕ) → j < suc n → ¬ ActsAt T u j) where
  point : point_at T u (suc n) ≡ point_at T u a
  point =
      let F : Timeline → Point = λ h. record { who = u; interval = interval h; incarnation = h.last } in
      ap F (quiet_history T u (suc n) quiet ∙ sym (quiet_history T u a (λ j lt. quiet j (omega (arith, lt, le)))))

  earlier : (j : ℕ) → Own T u (suc n) j → Own T u a j
  earlier j (own_step b lt) = absurd (quiet j lt b)
  earlier j (own_birth b) = own_birth b

  later : (j : ℕ) → Own T u a j → Own T u (suc n) j
  later j (own_step b lt) = own_step b (omega (arith, lt, le))
  later j (own_birth b) = own_birth b

  pub taken_before : (listed : List Point) → TellsTaken T u (suc n) listed → TellsTaken T u a listed
  taken_before listed x = record {
    took = λ q c.
        let y = x.took q c in
        let F : Point → Type 0 = λ p. TakesBy T y.0 p q in
        (y.0, earlier y.0 y.1, subst F point y.2);
    covers = λ j q own t.
        let F : Point → Type 0 = λ p. TakesBy T j p q in
        cover_on T (Heard T u (suc n)) (Heard T u a) listed listed j j q (monotone (Needs T) (Needs T) (Own T u (suc n)) (Own T u a) (λ x y r. r) earlier) (λ r c. c) (omega arith) (x.covers j q (later j own) (subst F (sym point) t));
  }

-- the first version of a created transactor
abbrev pub first_of : ℕ → Version
first_of count = record { interval = 0; incarnation = 0; stable = false; first = 0; last = count; from = 0 }

pub newborn_tells : (T : Run) (u n by : ℕ) (log : Told) (points : List Point) → WellFormed T → IsNew T n by u → log.versions ≡ first_of (length points) ∷ [] → log.takes ≡ points
    → (starts T ≤ u → ((j : ℕ) → j < suc n → ¬ ActsAt T u j) → TellsHistories T u (suc n) log) → TellsTaken T u (suc n) points → TellsLog T u (suc n) log
newborn_tells T u n by log points known b versions takes tells told = record {
  opens = (first_of (length points), latest);
  few = omega (arith, ap length versions);
  histories = tells (omega (arith, b.made)) quiet;
  takes = record { within = within; told = taken_at };
} where
  quiet : (j : ℕ) → j < suc n → ¬ ActsAt T u j
  quiet j lt acts = omega (arith, acts_known T u j known acts, b.made, born-grows T j n (omega (arith, lt)))

  latest : IsLatest log.versions 0 0 (first_of (length points))
  latest = let F : List Version → Type 0 = λ vs. IsLatest vs 0 0 (first_of (length points)) in subst F (sym versions) (newest_is_latest [] (first_of (length points)) 0 (omega arith))

  only : (i : ℕ) (v : Version) → slice_get log.versions i ≡ Some v → first_of (length points) ≡ v
  only i v s = ⊎_elim (λ f. absurd (omega (arith, slice_get_within [] i v f))) (λ p. p.1) (slice_get-push_cases [] (first_of (length points)) v i (ap (λ vs. slice_get vs i) (sym versions) ∙ s))

  within : (i : ℕ) (v : Version) → slice_get log.versions i ≡ Some v → (v.first ≤ v.last) × (v.last ≤ length log.takes)
  within i v s = let e = only i v s in (omega (arith, ap (λ z. z.first) e), omega (arith, ap (λ z. z.last) e, ap length takes))

  taken_at : (a i : ℕ) (v : Version) → a ≤ suc n → IsLatest log.versions a i v → TellsTaken T u a (taken log.takes v)
  taken_at a i v le l =
      let F : Version → Type 0 = λ w. TellsTaken T u a (taken log.takes w) in
      let G : List Point → Type 0 = λ ps. TellsTaken T u a (taken ps (first_of (length points))) in
      let H : List Point → Type 0 = TellsTaken T u a in
      subst F (only i v l.stands) (subst G (sym takes) (subst H (sym (take_all (length points - 0) points (omega arith))) (taken_before T u n a le quiet points told)))
