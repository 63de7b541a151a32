-- What is closed by what was heard may be left out.
use Rattle.std.proofs.Common.{◌≡◌, inl, inr, ⊎_elim, ℕ, suc, Bool, true, false, List, ◌++◌, filter, Option, Some, None, refl, sym, ap, ◌∙◌, subst, arith}
use Rattle.std.specs.Prelude.{slice_get}
use Rattle.std.specs.Option.{option_map_or}
use Rattle.std.proofs.lemmas.List.Elements.{Contains-append_left, Contains-append_right, Contains-append_cases}
use Rattle.tau_history.specs.Fates.{fate}
use Rattle.tau_history.specs.declared.fate.Fate.{Fate}
use Rattle.tau_history.specs.declared.fate.Fate.TheVariants.{Ahead, Closed}
use Rattle.tau_points.specs.declared.point.Point.{Point}
use Rattle.tau_trace.specs.Run.{Run, ActsAt}
use Rattle.tau_trace.specs.Histories.{history}
use Rattle.tau_trace.specs.Known.{WellFormed}
use Rattle.tau_past.specs.Heard.{Heard, HeardTogether}
use Rattle.tau_past.specs.KnownLaws.{HearsOf}
use Rattle.tau_past.specs.Pasts.{ClosesAt, checkpoint, opening}
use Rattle.tau_past.proofs.HeardLemmas.{heard_after_step, heard_grows}
use Rattle.tau_versions.specs.Logs.Told.{Told}
use Rattle.tau_versions.specs.Logs.Takes.{ClosedIn, Covered, is_listed, is_closed, through, TellsTaken}
use Rattle.tau_versions.specs.Logs.Reading.{fate_told}
use Rattle.tau_versions.proofs.ByNumber.{fate_told_is}
use Rattle.tau_versions.proofs.Known.{fates_at_bounds_tell_the_known}
use Rattle.tau_versions.specs.Search.Logs as search
use Rattle.tau_versions.specs.Search.Logs.{AreLogs}
use Rattle.tau_versions.specs.Roots.Closing.{not_closed, is_unclosed, IsKept}
use Rattle.tau_versions.proofs.Filters.{filter_among, filter_left}
use Rattle.tau_heard.specs.Laws.{WithoutClosed}

-- What is closed.

closed_fate : (f : Fate) → not_closed f ≡ false → f ≡ Closed
closed_fate Closed e = refl
closed_fate f e = absurd (cc)

pub closed_on : (T : Run) (H G : ℕ → Type 0) (t i : ℕ) (q : Point) → ((j : ℕ) → H j → G j) → ClosesAt T H t i q → ClosesAt T G t i q
closed_on T H G t i q grows (checkpoint {j = j} h c e f) = checkpoint (grows j h) c e f
closed_on T H G t i q grows (opening a b c) = opening a b c

module _ (T : Run) (H : ℕ → Type 0) (n : ℕ) (logs : List Told) (numbers : ℕ → ℕ) (are : AreLogs T n logs) (tell : search.TellBounds T H n logs numbers) where
  -- a point whose fate is Closed is closed in H
  closed_told : (q : Point) → is_unclosed logs numbers q ≡ false → ClosedIn T H q
  closed_told q e = by (slice_get logs q.who) refl where
    F : Option Told → Bool
    F = λ o. not_closed (option_map_or (λ (l : Told). fate_told l (numbers q.who) q.interval q.incarnation) o Ahead)

    by : (o : Option Told) → slice_get logs q.who ≡ o → ClosedIn T H q
    by None s = let clash : true ≡ false = sym (ap F s) ∙ e in absurd (cc)
    by (Some log) s =
        let b = tell q.who log s in
        let told = fate_told_is T q.who n b.place (numbers q.who) q.interval q.incarnation log b.version (are.each q.who log s).histories b.within b.latest in
        let h = fate (history T q.who b.place) q.interval q.incarnation in
        (fates_at_bounds_tell_the_known H T q b.place b.bound).closed.0 (closed_fate h (ap not_closed (sym told) ∙ sym (ap F s) ∙ e))

  -- without the closed ones
  pub unclosed_without : (points : List Point) → WithoutClosed T H points (filter (is_unclosed logs numbers) points)
  unclosed_without points = record {
    among = λ q c. filter_among (is_unclosed logs numbers) points q c;
    closed = λ q c. ⊎_elim (λ l. inl l) (λ e. inr (closed_told q e)) (filter_left (is_unclosed logs numbers) points q c);
  }

  pub kept_without : (before kept : List Point) → IsKept (is_unclosed logs numbers) before kept → WithoutClosed T H before kept
  kept_without before kept is =
      let F : List Point → Type 0 = WithoutClosed T H before in
      ⊎_elim (λ e. subst F (sym e) (record { among = λ q c. c; closed = λ q c. inl c })) (λ e. subst F (sym e) (unclosed_without before)) is.cases

-- in a greater set, and with more at the end
pub without_on : (T : Run) (H G : ℕ → Type 0) (xs ys : List Point) → ((j : ℕ) → H j → G j) → WithoutClosed T H xs ys → WithoutClosed T G xs ys
without_on T H G xs ys grows x = record {
  among = x.among;
  closed = λ q c. ⊎_elim (λ l. inl l) (λ d. inr (closed_on T H G q.who q.interval q grows d)) (x.closed q c);
}

pub without_more : (T : Run) (H : ℕ → Type 0) (xs ys more : List Point) → WithoutClosed T H xs ys → WithoutClosed T H (xs ++ more) (ys ++ more)
without_more T H xs ys more x = record {
  among = λ q c. ⊎_elim (λ l. Contains-append_left xs more q (x.among q l)) (λ r. Contains-append_right xs more q r) (Contains-append_cases ys more q c);
  closed = λ q c. ⊎_elim (λ l. ⊎_elim (λ k. inl (Contains-append_left ys more q k)) (λ d. inr d) (x.closed q l)) (λ r. inl (Contains-append_right ys more q r)) (Contains-append_cases xs more q c);
}

-- what t and message m have heard together t has heard after the step that hears of m
pub together_on : (T : Run) (t n m : ℕ) (xs ys : List Point) → WellFormed T → ActsAt T t n → HearsOf T n m → WithoutClosed T (HeardTogether T t n m) xs ys → WithoutClosed T (Heard T t (suc n)) xs ys
together_on T t n m xs ys known acts hears x =
    without_on T (HeardTogether T t n m) (Heard T t (suc n)) xs ys (λ j h. ((heard_after_step T t n known).hearing m acts hears j).1 (inl h)) x

-- what a point has taken is told without what is closed
pub taken_without : (T : Run) (u a : ℕ) (listed left : List Point) → WithoutClosed T (Heard T u a) listed left → TellsTaken T u a listed → TellsTaken T u a left
taken_without T u a listed left x told = record {
  took = λ q c. told.took q (x.among q c);
  covers = λ j q own t. covered j q (told.covers j q own t);
} where
  covered : (j : ℕ) (q : Point) → Covered T (Heard T u a) listed j q → Covered T (Heard T u a) left j q
  covered j q (is_listed l) = ⊎_elim (λ c. is_listed c) (λ d. is_closed d) (x.closed q l)
  covered j q (is_closed d) = is_closed d
  covered j q (through {r = r} {i = i} l lt h t) = through (⊎_elim (λ c. x.closed r c) (λ d. inr d) l) lt h t

-- by a Set a point that keeps what isn't closed takes the fresh points
pub taken_then_without : (T : Run) (u n : ℕ) (before kept fresh : List Point) → WithoutClosed T (Heard T u n) before kept → TellsTaken T u (suc n) (before ++ fresh) → TellsTaken T u (suc n) (kept ++ fresh)
taken_then_without T u n before kept fresh x told =
    taken_without T u (suc n) (before ++ fresh) (kept ++ fresh)
    (without_more T (Heard T u (suc n)) before kept fresh (without_on T (Heard T u n) (Heard T u (suc n)) before kept (heard_grows T u n (suc n) (omega arith)) x)) told
