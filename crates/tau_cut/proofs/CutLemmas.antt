-- The greatest consistent set of Checkpoints, by chains to points that can't be kept.
use Rattle.std.proofs.Common.{◌≡◌, ◌⊎◌, inl, inr, ⊎_elim, ℕ, zero, suc, ◌<◌, List, [], ◌∷◌, length, length-append, Option, refl, sym, ap, ◌∙◌, subst, arith}
use Rattle.std.specs.Prelude.{Contains}
use Rattle.std.specs.List.Sorted.{IsStrictlySortedBy}
use Rattle.std.specs.Ordering.{nat_cmp}
use Rattle.std.proofs.lemmas.Bool.{cases_lt}
use Rattle.std.proofs.lemmas.List.{take_all}
use Rattle.tau_history.specs.Timeline.{interval, Move, keep, stabilize, close, fall, moved}
use Rattle.tau_points.specs.declared.point.Point.{Point}
use Rattle.tau_points.specs.Members.{SameMembers}
use Rattle.tau_points.specs.Reach.{start, next}
use Rattle.tau_points.proofs.Reach.{nested, path_of, reach_of}
use Rattle.tau_explain.specs.declared.chains.chained.Chained.{Chained}
use Rattle.tau_explain.specs.Chains.Chains.{IsChain, HasNoChain}
use Rattle.tau_trace.specs.Run.{Run, len}
use Rattle.tau_trace.specs.Histories.{history, move_at, Closes, Falls}
use Rattle.tau_trace.specs.Points.{point_at, IsOpeningPoint}
use Rattle.tau_trace.proofs.Counted.{history-suc, closes_move, move_closes}
use Rattle.tau_trace.proofs.PointLemmas.{no_return}
use Rattle.tau_past.specs.Audits.{ChecksAt}
use Rattle.tau_past.specs.Heard.{IsCausallyClosed}
use Rattle.tau_past.specs.Pasts.{Link, takes, closing, ClosesAt, checkpoint, opening, Is, Everywhere, Past}
use Rattle.tau_past.specs.Safety.{RolledBack}
use Rattle.tau_past.proofs.HeardLemmas.{carried_touched}
use Rattle.tau_past.proofs.Safety.{nothing_at_opening}
use Rattle.tau_explain.specs.Links.Links.{IsFirstTold, IsMade, IsChainFrom, AreChainsFrom, points_of}
use Rattle.tau_explain.proofs.PushLemmas.{takes_of, acts_within, checks_who}
use Rattle.tau_explain.proofs.ChainLemmas.{stood_touched}
use Rattle.tau_explain.proofs.HearingLemmas.{ascending_of}
use Rattle.tau_cut.specs.declared.cut.Marked.{Marked}
use Rattle.tau_cut.specs.declared.cut.Marked.TheVariants.{In, Out}
use Rattle.tau_cut.specs.Consistent.{KeptAble, checkpoint as kept_checkpoint, opening as kept_opening, MadeBy, IsConsistent}
use Rattle.tau_cut.specs.Cuts.{place_of, places_of, places_in, IsCut}
use Rattle.tau_cut.specs.Inner.Checkpoints.{AreCheckpoints, AreUnkept}
use Rattle.tau_cut.specs.Inner.Marking.{chain_of, AreMarks}
use Rattle.tau_cut.proofs.KeepLemmas.{one_point, check_point, check_made, point_of_place, point_checked, checked_point, unkept_all}
use Rattle.tau_cut.proofs.MarkLemmas.{in_place, in_mark, mark_at}

-- any trace

-- what a link leads to is an opening point, or a step was made there
linked_made : (T : Run) (x z : Point) → Link T Everywhere x z → IsOpeningPoint T z ⊎ IsMade T z
linked_made T x z (takes {j = j} h t) =
    let closed : IsCausallyClosed T Everywhere = record { closed = λ k i e n. tt } in
    let s = stood_touched T Everywhere z (carried_touched Everywhere T j z closed h (takes_of T x z j t).1) in
    inr (record { place = s.place; acts = s.acts; at_point = s.at_point })
linked_made T x z (closing {i = i} e c) = by c where
  by : ClosesAt T Everywhere x.who i z → IsOpeningPoint T z ⊎ IsMade T z
  by (checkpoint {j = j} h k at f) = inr (check_made T j z (record { by = x.who; closes = k; at_point = at }))
  by (opening w f o) = inl o

-- what is in the past of a point at which a step was made is an opening point, or a step was made there
past_made : (T : Run) (p q : Point) → IsMade T p → Past T p q → IsOpeningPoint T q ⊎ IsMade T q
past_made T p q m (start e) = inr (subst (IsMade T) (sym e) m)
past_made T p q m (next {x = x} r l) = linked_made T x q l

-- pasts nest
past_on : (T : Run) (p q x : Point) → Past T p q → Past T q x → Past T p x
past_on T p q x r = nested (Link T Everywhere) (Is p) (Is q) (λ z e. subst (Past T p) (sym e) r) x

-- a chain from a point ends in its past
chain_past : (T : Run) (C : Point → Type 0) (p : Point) (points : List Point) (c : IsChain (Link T Everywhere) (Is p) C points) → Past T p c.last
chain_past T C p points c = reach_of (Link T Everywhere) (Is p) c.last (record { first = c.first; rest = c.rest; begins = c.begins; leads = c.leads })

-- and where there is no chain nothing in the past is in the set
none_past : (T : Run) (C : Point → Type 0) (p q : Point) → HasNoChain (Link T Everywhere) (Is p) C → Past T p q → ¬ C q
none_past T C p q none r c =
    let path = path_of (Link T Everywhere) (Is p) q r in
    none (path.first ∷ path.rest) (record { first = path.first; rest = path.rest; last = q; is = refl; begins = path.begins; leads = path.leads; ends = c })

-- a point at which a Checkpoint was made is never rolled back
checked_stays : (T : Run) (q : Point) (j : ℕ) → ChecksAt T j q → ¬ RolledBack T q
checked_stays T q j c r = ⊎_elim
    (λ lt. no_return T q.who j r.place j (omega arith) lt here (inl by.0))
    (λ le. ⊎_elim
    (λ lt. no_return T q.who r.place j r.place (omega arith) lt (sym here) (inr r.falls))
    (λ ge. let e : r.place ≡ j = omega (arith, le, ge) in
    let falls : Falls T q.who j = subst (Falls T q.who) e r.falls in
    let both = sym (closes_move T q.who j by.0) ∙ falls in
    cc)
    (cases_lt r.place j))
    (cases_lt j r.place) where
      by : Closes T q.who j × (q ≡ point_at T q.who j)
      by = checks_who T j q c

      here : point_at T q.who j ≡ point_at T q.who r.place
      here = sym by.1 ∙ r.at_point

-- one Checkpoint was made at a point
checked_once : (T : Run) (q : Point) (i j : ℕ) → ChecksAt T i q → ChecksAt T j q → i ≡ j
checked_once T q i j a b = ⊎_elim
    (λ lt. absurd (no_return T q.who i j i (omega arith) lt same (inl x.0)))
    (λ le. ⊎_elim
    (λ lt. absurd (no_return T q.who j i j (omega arith) lt (sym same) (inl y.0)))
    (λ ge. omega (arith, le, ge))
    (cases_lt j i))
    (cases_lt i j) where
      x : Closes T q.who i × (q ≡ point_at T q.who i)
      x = checks_who T i q a

      y : Closes T q.who j × (q ≡ point_at T q.who j)
      y = checks_who T j q b

      same : point_at T q.who i ≡ point_at T q.who j
      same = sym x.1 ∙ y.1

-- intervals, step by step
moved_interval : (T : Run) (t k : ℕ) (m : Move) → move_at T t k ≡ m → ¬ (m ≡ close) → interval (history T t (suc k)) ≡ interval (history T t k)
moved_interval T t k keep e ne = ap interval (history-suc T t k ∙ ap (λ m. moved m (history T t k)) e)
moved_interval T t k stabilize e ne = ap interval (history-suc T t k ∙ ap (λ m. moved m (history T t k)) e)
moved_interval T t k fall e ne = ap interval (history-suc T t k ∙ ap (λ m. moved m (history T t k)) e)
moved_interval T t k close e ne = absurd (ne refl)

closed_interval : (T : Run) (t k : ℕ) → move_at T t k ≡ close → interval (history T t (suc k)) ≡ suc (interval (history T t k))
closed_interval T t k e =
    let more : history T t (suc k) ≡ moved close (history T t k) = history-suc T t k ∙ ap (λ m. moved m (history T t k)) e in
    omega (arith, ap interval more, length-append (history T t k).closed ((history T t k).last ∷ []))

-- the closing link to a Checkpoint's point
closing_past : (T : Run) (t k : ℕ) (p : Point) → Closes T t k → p.who ≡ t → p.interval ≡ suc (interval (history T t k)) → Past T p (point_at T t k)
closing_past T t k p c who e = next (start refl) (closing {i = interval (history T t k)} e (subst (λ u. ClosesAt T Everywhere u (interval (history T t k)) (point_at T t k)) (sym who) (checkpoint {j = k} tt c refl refl)))

-- one step further: the point of each earlier Checkpoint is in the past
earlier_step : (T : Run) (t j : ℕ) → Closes T t j → (k : ℕ) → j < suc k → (p : Point) → p.who ≡ t → p.interval ≡ interval (history T t (suc k)) → ((r : Point) → j < k → r.who ≡ t → r.interval ≡ interval (history T t k) → Past T r (point_at T t j)) → Past T p (point_at T t j)
earlier_step T t j c k lt p who e before = by (move_at T t k) refl where
  -- a Checkpoint at k, the one at j or a later one
  at_close : move_at T t k ≡ close → Past T p (point_at T t j)
  at_close m =
      let here = closing_past T t k p (move_closes T t k m) who (e ∙ closed_interval T t k m) in
      ⊎_elim
      (λ less. past_on T p (point_at T t k) (point_at T t j) here (before (point_at T t k) less refl refl))
      (λ le. let same : k ≡ j = omega (arith, le, lt) in subst (λ i. Past T p (point_at T t i)) same here)
      (cases_lt j k)

  -- another step, which is not at j
  other : (m : Move) → move_at T t k ≡ m → ¬ (m ≡ close) → Past T p (point_at T t j)
  other m is ne = ⊎_elim
      (λ less. before p less who (e ∙ moved_interval T t k m is ne))
      (λ le. let same : j ≡ k = omega (arith, le, lt) in absurd (ne (sym is ∙ closes_move T t k (subst (Closes T t) same c))))
      (cases_lt j k)

  by : (m : Move) → move_at T t k ≡ m → Past T p (point_at T t j)
  by close is = at_close is
  by keep is = other keep is (λ f. cc)
  by stabilize is = other stabilize is (λ f. cc)
  by fall is = other fall is (λ f. cc)

earlier_past : (T : Run) (t j : ℕ) → Closes T t j → (k : ℕ) → j < k → (p : Point) → p.who ≡ t → p.interval ≡ interval (history T t k) → Past T p (point_at T t j)
earlier_past T t j c zero lt p who e = absurd (omega arith)
earlier_past T t j c (suc k) lt p who e = earlier_step T t j c k lt p who e (λ r less w i. earlier_past T t j c k less r w i)

-- the marks of a trace

module _ (T : Run) (places : List ℕ) (points kept unkept : List Point) (checkpoints : AreCheckpoints T (len T) places points) (kept_is : SameMembers points kept) (unkept_are : AreUnkept T kept (len T) unkept) where
  -- what can't be kept

  unkept_not_able : (q : Point) → Contains unkept q → ¬ KeptAble T q
  unkept_not_able q h a = by a where
    u : IsMade T q × ¬ Contains kept q
    u = unkept_are.unkept q h

    by : KeptAble T q → ⊥
    by (kept_checkpoint {k = k} c) = u.1 ((kept_is q).0 (checked_point T places points checkpoints k q c))
    by (kept_opening o) = nothing_at_opening T q u.0.place o u.0.at_point

  not_able_unkept : (q : Point) → IsOpeningPoint T q ⊎ IsMade T q → ¬ KeptAble T q → Contains unkept q
  not_able_unkept q c a = ⊎_elim
      (λ o. absurd (a (kept_opening o)))
      (λ m. ⊎_elim
      (λ h. h)
      (λ k. let at = point_checked T places points checkpoints q ((kept_is q).1 k) in absurd (a (kept_checkpoint at.1)))
      (unkept_all T kept unkept q unkept_are m))
      c

  -- chains to both are the same
  to_not_able : (p : Point) (xs : List Point) → IsChain (Link T Everywhere) (Is p) (Contains unkept) xs → IsChain (Link T Everywhere) (Is p) (λ q. ¬ KeptAble T q) xs
  to_not_able p xs c = record { first = c.first; rest = c.rest; last = c.last; is = c.is; begins = c.begins; leads = c.leads; ends = unkept_not_able c.last c.ends }

  to_unkept : (p : Point) (xs : List Point) → IsMade T p → IsChain (Link T Everywhere) (Is p) (λ q. ¬ KeptAble T q) xs → IsChain (Link T Everywhere) (Is p) (Contains unkept) xs
  to_unkept p xs m c = record {
    first = c.first;
    rest = c.rest;
    last = c.last;
    is = c.is;
    begins = c.begins;
    leads = c.leads;
    ends = not_able_unkept c.last (past_made T p c.last m (chain_past T (λ q. ¬ KeptAble T q) p xs c)) c.ends;
  }

  told_not_able : (p : Point) (chain : List Chained) → IsMade T p → IsFirstTold T Everywhere (Is p) (Contains unkept) chain → IsFirstTold T Everywhere (Is p) (λ q. ¬ KeptAble T q) chain
  told_not_able p chain m f = record {
    told = f.told;
    first = record {
      chain = to_not_able p (points_of chain) f.first.chain;
      shortest = λ other c. f.first.shortest other (to_unkept p other m c);
      first = λ other c s. f.first.first other (to_unkept p other m c) s;
    };
  }

  module _ (chains : List (Option (List Chained))) (chains_are : AreChainsFrom T points (Contains unkept) chains) (marks : List Marked) (left : List (Option (List Chained))) (marks_are : AreMarks places chains (length places) marks left) where
    places_same : places_of marks ≡ places
    places_same = marks_are.places_are ∙ take_all (length places) places (omega arith)

    -- each mark by its Checkpoint's point, and what is told of that
    mark_told : (m : Marked) → Contains marks m → (p : Point) × ChecksAt T (place_of m) p × IsChainFrom T (Contains unkept) p (chain_of m)
    mark_told m h =
        let at = marks_are.marks_are m h in
        let p = point_of_place T places points checkpoints at.0 (place_of m) at.1.place_is in
        (p.0, p.2, chains_are.each at.0 p.0 (chain_of m) p.1 at.1.chain_is)

    all_marked : (k : ℕ) (p : Point) → ChecksAt T k p → Contains (places_of marks) k
    all_marked k p c = subst (λ (l : List ℕ). Contains l k) (sym places_same) ((checkpoints.all k).1 (acts_within T k p.who (check_point T k p c).acts, (p, c)))

    -- by In
    in_told : (k : ℕ) (p : Point) → Contains (places_in marks) k → ChecksAt T k p → HasNoChain (Link T Everywhere) (Is p) (Contains unkept)
    in_told k p h c =
        let m = mark_told (In k) (in_mark marks k h) in
        subst (λ (z : Point). HasNoChain (Link T Everywhere) (Is z) (Contains unkept)) (one_point T k m.0 p m.1 c) m.2

    -- by Out
    out_told : (k : ℕ) (p : Point) (chain : List Chained) → Contains marks (Out k chain) → ChecksAt T k p → IsFirstTold T Everywhere (Is p) (Contains unkept) chain
    out_told k p chain h c =
        let m = mark_told (Out k chain) h in
        subst (λ (z : Point). IsFirstTold T Everywhere (Is z) (Contains unkept) chain) (one_point T k m.0 p m.1 c) m.2

    -- what is in the past of In is an opening point, or In
    past_in : (k : ℕ) (p q : Point) → Contains (places_in marks) k → ChecksAt T k p → Past T p q → IsOpeningPoint T q ⊎ MadeBy T (places_in marks) q
    past_in k p q h c r = ⊎_elim (λ o. inl o) (λ m. inr (made_in m)) (past_made T p q (check_made T k p c) r) where
      none : HasNoChain (Link T Everywhere) (Is p) (Contains unkept)
      none = in_told k p h c

      mark_in : (j : ℕ) → ChecksAt T j q → (m : Marked) → Contains marks m → place_of m ≡ j → MadeBy T (places_in marks) q
      mark_in j cj (In i) hm e = record { place = i; held = in_place marks i hm; checks = subst (λ n. ChecksAt T n q) (sym e) cj }
      mark_in j cj (Out i chain) hm e =
          let f = out_told i q chain hm (subst (λ n. ChecksAt T n q) (sym e) cj) in
          let y = f.first.chain in
          absurd (none_past T (Contains unkept) p y.last none (past_on T p q y.last r (chain_past T (Contains unkept) q (points_of chain) y)) y.ends)

      made_in : IsMade T q → MadeBy T (places_in marks) q
      made_in m = ⊎_elim
          (λ u. absurd (none_past T (Contains unkept) p q none r u))
          (λ x.
          let at = point_checked T places points checkpoints q ((kept_is q).1 x) in
          let mark = mark_at marks at.0 (all_marked at.0 q at.1) in
          mark_in at.0 at.1 mark.0 mark.1 mark.2)
          (unkept_all T kept unkept q unkept_are m)

    consistent : IsConsistent T (places_in marks)
    consistent = record {
      checkpoints = λ k h. let m = mark_told (In k) (in_mark marks k h) in (m.0, m.1);
      keeps = past_in;
    }

    -- no consistent set holds a step that is Out
    out_nowhere : (k : ℕ) (chain : List Chained) → Contains marks (Out k chain) → (steps : List ℕ) → IsConsistent T steps → ¬ Contains steps k
    out_nowhere k chain h steps s c =
        let at = s.checkpoints k c in
        let y = (out_told k at.0 chain h at.1).first.chain in
        let u = unkept_are.unkept y.last y.ends in
        ⊎_elim
        (λ o. nothing_at_opening T y.last u.0.place o u.0.at_point)
        (λ m. u.1 ((kept_is y.last).0 (checked_point T places points checkpoints m.place y.last m.checks)))
        (s.keeps k at.0 y.last c at.1 (chain_past T (Contains unkept) at.0 (points_of chain) y))

    in_greatest : (steps : List ℕ) → IsConsistent T steps → (k : ℕ) → Contains steps k → Contains (places_in marks) k
    in_greatest steps s k c = by mark.0 mark.1 mark.2 where
      mark : (m : Marked) × Contains marks m × (place_of m ≡ k)
      mark = let at = s.checkpoints k c in mark_at marks k (all_marked k at.0 at.1)

      by : (m : Marked) → Contains marks m → place_of m ≡ k → Contains (places_in marks) k
      by (In j) h e = subst (Contains (places_in marks)) e (in_place marks j h)
      by (Out j chain) h e = absurd (out_nowhere j chain h steps s (subst (Contains steps) (sym e) c))

    -- what an earlier Checkpoint was made at is in the past of a later one's point
    in_earlier : (t j k : ℕ) → Closes T t j → Closes T t k → j < k → Contains (places_in marks) k → Contains (places_in marks) j
    in_earlier t j k cj ck lt h =
        let q = point_at T t j in
        ⊎_elim
        (λ o. absurd (nothing_at_opening T q j o refl))
        (λ m. subst (Contains (places_in marks)) (checked_once T q m.place j m.checks (record { by = t; closes = cj; at_point = refl })) m.held)
        (past_in k (point_at T t k) q h (record { by = t; closes = ck; at_point = refl }) (earlier_past T t j cj k lt (point_at T t k) refl refl))

    pub is_cut : IsCut T marks
    is_cut = record {
      ascending = subst (λ (l : List ℕ). IsStrictlySortedBy nat_cmp l) (sym places_same) (ascending_of places checkpoints.ascending);
      all = λ k. (
        λ h. ((checkpoints.all k).0 (subst (λ (l : List ℕ). Contains l k) places_same h)).1,
        λ h. all_marked k h.0 h.1,
      );
      consistent = consistent;
      greatest = in_greatest;
      out = λ k p chain h c. told_not_able p chain (check_made T k p c) (out_told k p chain h c);
      exact = out_nowhere;
      kept = λ k p q h c r. ⊎_elim (λ o f. nothing_at_opening T q f.place o f.at_point) (λ m. checked_stays T q m.place m.checks) (past_in k p q h c r);
      earlier = in_earlier;
    }
