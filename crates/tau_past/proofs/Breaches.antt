-- What an audit keeps and finds.
use Rattle.std.proofs.Common.{◌≡◌, ◌⊎◌, ◌↔◌, inl, inr, ⊎_elim, ℕ, ◌+◌, ◌<◌, ◌≤◌, Bool, true, false, List, ◌++◌, Option, Some, None, length, get_or, take, drop, append-nil, refl, sym, ap, ◌∙◌, subst, arith}
use Rattle.std.specs.Prelude.{option_and_then, Contains}
use Rattle.std.specs.Bool.{OnTrue, OnFalse, then_some}
use Rattle.std.specs.Option.{option_map_or}
use Rattle.std.specs.declared.cmp.Ordering.TheVariants.{Less}
use Rattle.std.proofs.lemmas.Bool.{cases_lt}
use Rattle.std.proofs.lemmas.List.{get_or_default, take_all}
use Rattle.std.proofs.Math.ListN.{drop_of_length-le}
use Rattle.std.proofs.lemmas.Map.Keys.{Less-from_sorted}
use Rattle.std.proofs.lemmas.Option.{slice_get_within}
use Rattle.tau_points.specs.declared.point.Point.{Point}
use Rattle.tau_points.specs.Order.{point_cmp, IsAscending}
use Rattle.tau_trace.specs.declared.step.Step.{Step}
use Rattle.tau_trace.specs.declared.step.Step.TheVariants.{Checkpoint}
use Rattle.tau_trace.specs.Steps.{actor, is_checkpoint}
use Rattle.tau_trace.specs.Run.{Run, len, step_at, ActsAt}
use Rattle.tau_trace.specs.Places.{IsFirst}
use Rattle.tau_trace.specs.Histories.{Closes}
use Rattle.tau_trace.specs.Points.{point_at}
use Rattle.tau_trace.proofs.Lists.{same_some}
use Rattle.tau_trace.proofs.Quiet.{acts}
use Rattle.tau_trace.proofs.Sequences.{cases_last}
use Rattle.tau_past.specs.declared.made.Made.{Made}
use Rattle.tau_past.specs.declared.findings.Audit.{Audit}
use Rattle.tau_past.specs.declared.findings.Audit.TheVariants as audits
use Rattle.tau_past.specs.declared.findings.Breach.{Breach}
use Rattle.tau_past.specs.Pasts.{Past}
use Rattle.tau_past.specs.Safety.{RolledBack, Safe}
use Rattle.tau_past.specs.Tables.{TellsMade}
use Rattle.tau_past.specs.TableSteps.{checked_point}
use Rattle.tau_past.specs.Inner.Searching.{AddsPast, PastHasFallen, FoundNoFallen}
use Rattle.tau_past.specs.Audits.{ChecksAt, Breaks, IsBrokenAt, IsNotAfter, RollsBackAt, IsBroken, IsAudit, IsFirstBreach, AddsSafely, Checked, IsLeastFallen}
use Rattle.tau_past.proofs.Endings.{falls_within}

-- the point of a Checkpoint

checks_within : (T : Run) (k : ℕ) (p : Point) → ChecksAt T k p → k < len T
checks_within T k p c = slice_get_within T.steps k (Checkpoint c.by) c.closes

same_checkpoint : {a b : ℕ} → Checkpoint a ≡ Checkpoint b → a ≡ b
same_checkpoint e = cc

one_point : (T : Run) (k : ℕ) (p q : Point) → ChecksAt T k p → ChecksAt T k q → p ≡ q
one_point T k p q a b =
    let same : a.by ≡ b.by = same_checkpoint (same_some (sym a.closes ∙ b.closes)) in
    a.at_point ∙ ap (λ t. point_at T t k) same ∙ sym b.at_point

checks_test : (T : Run) (k : ℕ) (p : Point) → ChecksAt T k p → option_map_or is_checkpoint (step_at T k) false ≡ true
checks_test T k p c = ap (λ o. option_map_or is_checkpoint o false) c.closes

closes_by : (T : Run) (k t : ℕ) → option_map_or is_checkpoint (step_at T k) false ≡ true → ActsAt T t k → Closes T t k
closes_by T k t e a = by (step_at T k) refl where
  by_step : (s : Step) → step_at T k ≡ Some s → is_checkpoint s ≡ true → Closes T t k
  by_step (Checkpoint u) f g =
      let same : u ≡ t = same_some (sym (ap (option_and_then actor) f) ∙ a) in
      f ∙ ap (λ w. Some (Checkpoint w)) same
  by_step s f g = absurd (cc)

  by : (o : Option Step) → step_at T k ≡ o → Closes T t k
  by None f = absurd (let x = sym (ap (λ o. option_map_or is_checkpoint o false) f) ∙ e in cc)
  by (Some s) f = by_step s f (sym (ap (λ o. option_map_or is_checkpoint o false) f) ∙ e)

pub checkpoint_told : (T : Run) (k : ℕ) (test : Bool) (made : Option Made) (o : Option Point) → test ≡ option_map_or is_checkpoint (step_at T k) false → TellsMade T k made → o ≡ checked_point test made → (p : Point) → ChecksAt T k p ↔ (o ≡ Some p)
checkpoint_told T k test made o is told e p = by test made (sym is) told e where
  by : (b : Bool) (m : Option Made) → option_map_or is_checkpoint (step_at T k) false ≡ b → TellsMade T k m → o ≡ checked_point b m → ChecksAt T k p ↔ (o ≡ Some p)
  by true (Some m) f t g = (
    λ c. let acting = acts T c.by k (Checkpoint c.by) c.closes refl in
        let who : m.point.who ≡ c.by = same_some (sym t.0 ∙ acting) in
        g ∙ ap (λ (x : Point). Some x) (t.1 ∙ ap (λ u. point_at T u k) who ∙ sym c.at_point),
    λ h. let same : m.point ≡ p = same_some (sym g ∙ h) in
        record { by = m.point.who; closes = closes_by T k m.point.who f t.0; at_point = sym same ∙ t.1 },
  )
  by true None f t g = (λ c. absurd (t c.by (acts T c.by k (Checkpoint c.by) c.closes refl)), λ h. let x = sym g ∙ h in absurd (cc))
  by false m f t g = (λ c. let x = sym f ∙ checks_test T k p c in absurd (cc), λ h. let x = sym g ∙ h in absurd (cc))

-- one Checkpoint after the other

pub checked_some : (T : Run) (k : ℕ) (point : Point) (o : Option Point) (found0 found : List Point) (fallen : Bool) → ((p : Point) → ChecksAt T k p ↔ (o ≡ Some p)) → o ≡ Some point → AddsPast T point found0 found → OnTrue fallen (PastHasFallen T point) → OnFalse fallen (FoundNoFallen T found0 found) → (r : Option Point) → r ≡ then_some fallen point → Checked T k found0 found r
checked_some T k point o found0 found true told e adds f s r is = subst (Checked T k found0 found) (sym is) ((told point).1 e, f)
checked_some T k point o found0 found false told e adds f s r is = subst (Checked T k found0 found) (sym is) (record {
  kept = λ q h. (adds q).1 (inl h);
  covered = λ p q c h. let same : point ≡ p = same_some (sym e ∙ (told p).0 c) in (adds q).1 (inr (subst (λ x. Past T x q) (sym same) h));
  safe = s;
})

pub checked_none : (T : Run) (k : ℕ) (o : Option Point) (found : List Point) → ((p : Point) → ChecksAt T k p ↔ (o ≡ Some p)) → o ≡ None → Checked T k found found None
checked_none T k o found told e = record {
  kept = λ q h. h;
  covered = λ p q c h. let x = sym e ∙ (told p).0 c in absurd (cc);
  safe = λ q h r. h;
}

-- the pasts of all Checkpoints before place k are found, and none holds a rolled-back point
pub record Checking (T : Run) (k : ℕ) (found : List Point) : Type 0 where
  pub covered : (j : ℕ) (p q : Point) → j < k → ChecksAt T j p → Past T p q → Contains found q
  pub safe : (q : Point) → Contains found q → ¬ RolledBack T q

pub checking_on : (T : Run) (k : ℕ) (found0 found : List Point) → AddsSafely T k found0 found → Checking T k found0 → Checking T (k + 1) found
checking_on T k found0 found a c = record {
  covered = λ j p q l x h. ⊎_elim (λ (e : j ≡ k). a.covered p q (subst (λ i. ChecksAt T i p) e x) h) (λ b. a.kept q (c.covered j p q b x h)) (cases_last j k (omega (arith, l)));
  safe = λ q h r. c.safe q (a.safe q h r) r;
}

not_broken : (T : Run) (k : ℕ) (found : List Point) → Checking T k found → (j : ℕ) → j < k → ¬ IsBrokenAt T j
not_broken T k found c j l b = c.safe b.root (c.covered j b.breaks.point b.root l b.breaks.checks b.breaks.in_past) b.breaks.rolled_back

pub breach_found : (T : Run) (k : ℕ) (p : Point) (found0 found1 found : List Point) → Checking T k found → Checked T k found0 found1 (Some p) → IsFirstBreach T (Some (record { place = k; point = p }))
breach_found T k p found0 found1 found c h = (h.0, h.1, not_broken T k found c)

pub breach_none : (T : Run) (k : ℕ) (found : List Point) → len T ≤ k → Checking T k found → IsFirstBreach T None
breach_none T k found le c = λ j b. not_broken T k found c j (omega (arith, checks_within T j b.breaks.point b.breaks.checks, le)) b

-- the least rolled-back point of a list

pub least_found : (T : Run) (points : List Point) (i : ℕ) (p : Point) → IsAscending points → i < length points → p ≡ get_or points i p → RolledBack T p → ((k : ℕ) (d : Point) → k < i → ¬ RolledBack T (get_or points k d)) → IsLeastFallen T points (Some p)
least_found T points i p up lt is back none = ((i, lt, sym is), back, least) where
  least : (q : Point) → Contains points q → RolledBack T q → IsNotAfter p q
  least q c r = ⊎_elim
      (λ (low : c.0 < i). absurd (none c.0 q low (subst (RolledBack T) (sym c.2) r)))
      (λ (high : i ≤ c.0). ⊎_elim
      (λ (less : i < c.0). inr (subst (λ (x : Point). point_cmp p x ≡ Less) c.2 (subst (λ (x : Point). point_cmp x (get_or points c.0 q) ≡ Less) (get_or_default points i q p lt ∙ sym is) (Less-from_sorted point_cmp points i c.0 q up less c.1))))
      (λ (le : c.0 ≤ i). let same : i ≡ c.0 = omega arith in inl (is ∙ ap (λ n. get_or points n p) same ∙ get_or_default points c.0 p q c.1 ∙ c.2))
      (cases_lt i c.0))
      (cases_lt c.0 i)

-- falls

pub fall_exists : (T : Run) (p : Point) → RolledBack T p → IsFirst (RollsBackAt T p) (len T) None → ⊥
fall_exists T p r none = none r.place (falls_within T p.who r.place r.falls).0 (r.falls, r.at_point)

-- the answer

pub least_exists : (T : Run) (b : Breach) (points : List Point) → IsFirstBreach T (Some b) → ((q : Point) → Contains points q ↔ Past T b.point q) → IsLeastFallen T points None → ⊥
least_exists T b points h all none = none h.1.root ((all h.1.root).1 h.1.in_past) h.1.rolled_back

pub is_broken : (T : Run) (b : Breach) (points : List Point) (q : Point) (f : ℕ) → IsFirstBreach T (Some b) → ((x : Point) → Contains points x ↔ Past T b.point x) → IsLeastFallen T points (Some q) → IsFirst (RollsBackAt T q) (len T) (Some f) → IsBroken T b.place q f
is_broken T b points q f h all least fall = record {
  checkpoint = (checks_within T b.place b.point h.0, record { root = q; breaks = breaks }, h.2);
  point = record {
    breaks = breaks;
    least = λ r x. least.2 r ((all r).1 (subst (λ p. Past T p r) (one_point T b.place x.point b.point x.checks h.0) x.in_past)) x.rolled_back;
  };
  fall = fall;
} where
  breaks : Breaks T b.place q
  breaks = record { point = b.point; checks = h.0; in_past = (all q).0 least.0; rolled_back = least.1 }

pub safe_from_none : (T : Run) → IsFirstBreach T None → Safe T
safe_from_none T none t c q closes past back =
    none c (record { root = q; breaks = record { point = point_at T t c; checks = record { by = t; closes = closes; at_point = refl }; in_past = past; rolled_back = back } })

not_safe : (T : Run) (c : ℕ) (q : Point) (f : ℕ) → IsBroken T c q f → ¬ Safe T
not_safe T c q f b safe =
    let x = b.point.breaks in
    safe x.checks.by c q x.checks.closes (subst (λ p. Past T p q) x.checks.at_point x.in_past) x.rolled_back

pub safe_iff : (T : Run) (a : Audit) → IsAudit T a → (a ≡ audits.Safe) ↔ Safe T
safe_iff T audits.Safe s = (λ e. s, λ h. refl)
safe_iff T (audits.Broken c q f) b = (λ e. absurd (cc), λ s. absurd (not_safe T c q f b s))

-- a vector after a call that wrote to the slice of its items
pub slice_back : (xs ys : List Bool) (n : ℕ) → n ≡ length ys → length xs ≡ length ys → take n (xs ++ drop (length xs) ys) ≡ xs
slice_back xs ys n e f =
    ap (λ zs. take n (xs ++ zs)) (drop_of_length-le ys {i = length xs} (omega (arith, f))) ∙ ap (take n) (append-nil xs) ∙ take_all n xs (omega (arith, e, f))

pub checking_first : (T : Run) (k : ℕ) (o : Option Point) (found0 found : List Point) → o ≡ None → Checked T k found0 found o → Checking T k found0 → Checking T (k + 1) found
checking_first T k o found0 found e a c = checking_on T k found0 found (subst (Checked T k found0 found) e a) c
