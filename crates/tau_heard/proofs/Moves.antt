-- Logs, step by step.
use Rattle.std.proofs.Common.{◌≡◌, ◌⊎◌, ⊎_elim, ℕ, suc, ◌<◌, ◌≤◌, List, [], ◌∷◌, length, sym, ap, ◌∙◌, subst, arith, length-append}
use Rattle.tau_history.specs.Timeline.{Timeline, interval, keep, moved}
use Rattle.tau_points.specs.declared.point.Point.{Point}
use Rattle.tau_trace.specs.Run.{Run, step_at, ActsAt, Does}
use Rattle.tau_trace.specs.Numbering.{born}
use Rattle.tau_trace.specs.Histories.{history, move_at}
use Rattle.tau_trace.specs.Points.{point_at}
use Rattle.tau_trace.specs.Known.{WellFormed}
use Rattle.tau_trace.proofs.Counted.{history-suc}
use Rattle.tau_trace.proofs.Moves.{move_by-other}
use Rattle.tau_trace.proofs.Quiet.{acts}
use Rattle.tau_past.specs.Carried.{TakesBy, by_set, by_new, is_set}
use Rattle.tau_versions.specs.declared.logs.version.Version.{Version}
use Rattle.tau_versions.specs.Logs.Versions.{IsLatest}
use Rattle.tau_versions.specs.Logs.Told.{Told, TellsHistories}
use Rattle.tau_versions.specs.Logs.Takes.{taken, TellsTaken}
use Rattle.tau_versions.proofs.Latest.{latest_stays_latest}
use Rattle.tau_versions.proofs.Taking.{taken_stays, takes_go_on}
use Rattle.tau_versions.proofs.Telling.{logs_stay}
use Rattle.tau_versions.specs.Search.Logs.{TellsLog}
use Rattle.tau_heard.specs.Logs.{KeepsLatest}
use Rattle.tau_heard.specs.Moves.{IsAdded, LogAfterStep, LogsStepByStep}

-- by a step that isn't a Set of it, the point of a transactor that exists takes nothing
pub takes_nothing : (T : Run) (u n : ℕ) → ¬ Does is_set T u n → u < born T n → (q : Point) → ¬ TakesBy T n (point_at T u n) q
takes_nothing T u n none there q (by_set {t = t} d e c ne) = let F : ℕ → Type 0 = λ w. Does is_set T w n in none (subst F (sym (ap (λ p. p.who) e)) d)
takes_nothing T u n none there q (by_new {by = by} {u = w} b e c ne) = omega (arith, ap (λ p. p.who) e, b.made, there)

module _ (T : Run) (u n : ℕ) (old : Told) (known : WellFormed T) (x : TellsLog T u n old) where
  -- without a version more
  same : history T u (suc n) ≡ history T u n → ((i : ℕ) (v : Version) → IsLatest old.versions n i v → TellsTaken T u n (taken old.takes v) → TellsTaken T u (suc n) (taken old.takes v)) → TellsLog T u (suc n) old
  same stays taken_on = record { opens = x.opens; few = omega (arith, x.few); histories = logs_stay T u n old stays x.histories; takes = record { within = x.takes.within; told = told } } where
    last : (a : ℕ) → a ≤ suc n → (a ≤ n) ⊎ (a ≡ suc n)
    last a le = grind (arith, le)

    told : (a i : ℕ) (v : Version) → a ≤ suc n → IsLatest old.versions a i v → TellsTaken T u a (taken old.takes v)
    told a i v le latest = ⊎_elim (λ before. x.takes.told a i v before latest) now (last a le) where
      now : a ≡ suc n → TellsTaken T u a (taken old.takes v)
      now e =
          let F : ℕ → Type 0 = λ b. TellsTaken T u b (taken old.takes v) in
          let here : IsLatest old.versions n i v = record { stands = latest.stands; begun = x.histories.begun i v latest.stands; none_later = λ j w lt s. omega (arith, latest.none_later j w lt s, e) } in
          subst F (sym e) (taken_on i v here (x.takes.told n i v (omega arith) here))

  point_same : history T u (suc n) ≡ history T u n → point_at T u (suc n) ≡ point_at T u n
  point_same e = let F : Timeline → Point = λ h. record { who = u; interval = interval h; incarnation = h.last } in ap F e

  quiet : ¬ Does is_set T u n → history T u (suc n) ≡ history T u n → u < born T n → TellsLog T u (suc n) old
  quiet none stays there = same stays (λ i v l. taken_stays T u n (taken old.takes v) (point_same stays) (takes_nothing T u n none there))

  other : ¬ ActsAt T u n → u < born T n → TellsLog T u (suc n) old
  other none there = quiet (λ d. none (acts T u n d.step d.stands d.by)) (history-suc T u n ∙ ap (λ m. moved m (history T u n)) still) there where
    still : move_at T u n ≡ keep
    still = move_by-other u (history T u n).stable (step_at T n) (λ s e by. none (acts T u n s e by))

  added : (new : Told) (v : Version) (more : List Point) → IsAdded old new v more → v.from ≡ suc n → TellsHistories T u (suc n) new → TellsTaken T u (suc n) (taken new.takes v) → TellsLog T u (suc n) new × KeepsLatest n old new
  added new v more a from histories tells = (
    record {
      opens = (x.opens.0, keeps 0 0 x.opens.0 (omega arith) x.opens.1);
      few = omega (arith, x.few, ap length a.versions, length-append old.versions (v ∷ []));
      histories = histories;
      takes = takes_go_on T u n old new v more a.versions a.takes from a.ordered a.within tells x.takes;
    },
    keeps,
  ) where
    keeps : KeepsLatest n old new
    keeps a_place i w le latest =
        let F : List Version → Type 0 = λ vs. IsLatest vs a_place i w in
        subst F (sym a.versions) (latest_stays_latest old.versions a_place i w v (omega (arith, from, le)) latest)

  pub after_step : LogAfterStep T u n old
  after_step = record { other = other; quiet = quiet; same = same; added = added }

pub logs_step_by_step : LogsStepByStep
logs_step_by_step T u n old known x = after_step T u n old known x
