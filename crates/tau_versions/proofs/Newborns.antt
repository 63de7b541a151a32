-- What the first points of created transactors take.
use Rattle.std.proofs.Common.{◌≡◌, ◌≢◌, inl, ℕ, suc, ◌<◌, sym, ap, ◌∙◌, subst, arith}
use Rattle.std.specs.Prelude.{Contains}
use Rattle.tau_history.specs.Timeline.{Timeline, interval}
use Rattle.tau_points.specs.declared.point.Point.{Point}
use Rattle.tau_trace.specs.Run.{ActsAt}
use Rattle.tau_trace.specs.Points.{point_at}
use Rattle.tau_trace.specs.Numbering.{born}
use Rattle.tau_trace.proofs.Agreement.{born-grows}
use Rattle.tau_trace.proofs.Once.{new_once}
use Rattle.tau_trace.proofs.Quiet.{acts}
use Rattle.tau_past.specs.Carried.{Pending, TakesBy, by_new, first_point}
use Rattle.tau_past.specs.Heard.{Own, own_step, own_birth, Heard}
use Rattle.tau_past.proofs.HeardLemmas.{new_acts, pending_touched, heard_after_step}
use Rattle.tau_past.proofs.Known.{acts_known, heard_before}
use Rattle.tau_versions.specs.Logs.Takes.{Covered, NewbornsTakeWhatIsCarried}
use Rattle.tau_versions.proofs.Taking.{cover_on, takes_pending}
use Rattle.tau_versions.proofs.Telling.{created}

pub newborns_take_what_is_carried : NewbornsTakeWhatIsCarried
newborns_take_what_is_carried T by u n roots known b tells = record { took = took; covers = covers } where
  quiet : (j : ℕ) → j < suc n → ¬ ActsAt T u j
  quiet j lt a = omega (arith, acts_known T u j known a, b.made, born-grows T j n (omega (arith, lt)))

  first : point_at T u (suc n) ≡ first_point u
  first = let F : Timeline → Point = λ h. record { who = u; interval = interval h; incarnation = h.last } in ap F (created T u (suc n) (omega (arith, b.made)) quiet)

  other : (q : Point) → Pending T by n q → q ≢ first_point u
  other q p e =
      let t = pending_touched T by n q p in
      let who : q.who ≡ u = ap (λ x. x.who) e in
      let early : t.place < n = heard_before T by n t.place known (acts_known T by n known (new_acts T n by u b)) t.held in
      let exists : q.who < born T t.place = acts_known T q.who t.place known (acts T q.who t.place t.touching.step t.touching.stands t.touching.by) in
      omega (arith, who, exists, b.made, born-grows T t.place n (omega (arith, early)))

  took : (q : Point) → Contains roots q → (j : ℕ) × Own T u (suc n) j × TakesBy T j (point_at T u (suc n)) q
  took q c =
      let p = tells.pending q c in (n, own_birth b, by_new b first (record { by = by; acts = new_acts T n by u b; pending = p }) (λ e. other q p (e ∙ first)))

  made : (j : ℕ) → Own T u (suc n) j → j ≡ n
  made j (own_step a lt) = absurd (quiet j lt a)
  made j (own_birth {by = maker} x) = new_once T j n maker by u x b

  grows : (j : ℕ) → Heard T by n j → Heard T u (suc n) j
  grows j h = ((heard_after_step T u n known).created by b j).1 (inl h)

  now : (q : Point) → TakesBy T n (point_at T u (suc n)) q → Covered T (Heard T u (suc n)) roots n q
  now q t =
      let p = takes_pending T by n (point_at T u (suc n)) q (new_acts T n by u b) t in
      cover_on T (Heard T by n) (Heard T u (suc n)) roots roots n n q grows (λ r c. c) (omega arith) (tells.covers q p.0)

  covers : (j : ℕ) (q : Point) → Own T u (suc n) j → TakesBy T j (point_at T u (suc n)) q → Covered T (Heard T u (suc n)) roots j q
  covers j q own t =
      let F : ℕ → Type 0 = λ k. Covered T (Heard T u (suc n)) roots k q in
      let G : ℕ → Type 0 = λ k. TakesBy T k (point_at T u (suc n)) q in
      subst F (sym (made j own)) (now q (subst G (made j own) t))
