-- What calls in a row make of trimmed views, whatever whole ones these were trimmed from.
use Rattle.std.proofs.Common.{◌≡◌, ℕ, sym, ap, ap₂, ◌∙◌}
use Rattle.tau_history.specs.Timeline.{Timeline, newborn}
use Rattle.tau_points.specs.declared.point.Point.{Point}
use Rattle.tau_view.specs.Held.{Held, AllComparable}
use Rattle.tau_view.specs.Rules.{noted, touched, depended, merged, with_roots, with_no_roots}
use Rattle.tau_view.specs.Trim.{EdgeTest, RootTest, trim, DropsClosedRoots, DropsForGood}
use Rattle.tau_view.specs.Laws.{MayNote}
use Rattle.tau_view.proofs.Later.{right_precedes}
use Rattle.tau_view.proofs.Trimming.{note_ignores_trim, touch_ignores_trim, depend_ignores_trim, merge_ignores_trim, taking_roots_ignores_trim, clearing_roots_ignores_trim}
use Rattle.tau_past.specs.Carried.{first_point}
use Rattle.tau_views.specs.Laws.{with_newborn}

module _ (de : EdgeTest) (dr : RootTest) where
  -- a trimmed view has the histories of the whole one
  pub same_history : (h x : Held) (u : ℕ) → h ≡ trim de dr x → h.history u ≡ x.history u
  same_history h x u e = ap (λ v. v.history u) e

  pub may_note_whole : (h x : Held) (u : ℕ) (k : Timeline) → h ≡ trim de dr x → MayNote u k h.history → MayNote u k x.history
  may_note_whole h x u k e may j f = may j (same_history h x u e ∙ f)

  pub comparable_whole : (h l x y : Held) → h ≡ trim de dr x → l ≡ trim de dr y → AllComparable h.history l.history → AllComparable x.history y.history
  comparable_whole h l x y e f c u a b g i = c u a b (same_history h x u e ∙ g) (same_history l y u f ∙ i)

  pub comparable_trimmed : (h l x y : Held) → h ≡ trim de dr x → l ≡ trim de dr y → AllComparable x.history y.history → AllComparable h.history l.history
  comparable_trimmed h l x y e f c u a b g i = c u a b (sym (same_history h x u e) ∙ g) (sym (same_history l y u f) ∙ i)

  pub after_set : DropsClosedRoots de dr → (p : Point) (h c d n x : Held) → h ≡ trim de dr x → c ≡ h → d ≡ trim de dr (depended p c) → n ≡ trim de dr (touched p d) → n ≡ trim de dr (touched p (depended p x))
  after_set closed p h c d n x e copied first second =
      let then : d ≡ trim de dr (depended p x) = first ∙ ap (λ v. trim de dr (depended p v)) (copied ∙ e) ∙ depend_ignores_trim de dr closed p x in
      second ∙ ap (λ v. trim de dr (touched p v)) then ∙ touch_ignores_trim de dr p (depended p x)

  noted_whole : DropsForGood de dr → (u : ℕ) (k : Timeline) (h c d x : Held) → MayNote u k h.history → h ≡ trim de dr x → c ≡ h → d ≡ trim de dr (noted u k c) → d ≡ trim de dr (noted u k x)
  noted_whole good u k h c d x may e copied first =
      first ∙ ap (λ v. trim de dr (noted u k v)) (copied ∙ e) ∙ note_ignores_trim de dr good u k x (may_note_whole h x u k e may)

  pub after_stabilize : DropsForGood de dr → (u : ℕ) (k : Timeline) (p : Point) (h c d n x : Held) → MayNote u k h.history → h ≡ trim de dr x → c ≡ h → d ≡ trim de dr (noted u k c) → n ≡ trim de dr (touched p d) → n ≡ trim de dr (touched p (noted u k x))
  after_stabilize good u k p h c d n x may e copied first second =
      second ∙ ap (λ v. trim de dr (touched p v)) (noted_whole good u k h c d x may e copied first) ∙ touch_ignores_trim de dr p (noted u k x)

  pub after_leaving : DropsForGood de dr → (u : ℕ) (k : Timeline) (h c d n x : Held) → MayNote u k h.history → h ≡ trim de dr x → c ≡ h → d ≡ trim de dr (noted u k c) → n ≡ trim de dr (with_no_roots d) → n ≡ trim de dr (with_no_roots (noted u k x))
  after_leaving good u k h c d n x may e copied first second =
      second ∙ ap (λ v. trim de dr (with_no_roots v)) (noted_whole good u k h c d x may e copied first) ∙ clearing_roots_ignores_trim de dr (noted u k x)

  pub after_merge : DropsForGood de dr → (h l c d x y : Held) → AllComparable h.history l.history → h ≡ trim de dr x → l ≡ trim de dr y → c ≡ h → d ≡ trim de dr (merged c l) → d ≡ trim de dr (merged x y)
  after_merge good h l c d x y all e f copied first =
      first ∙ ap₂ (λ v w. trim de dr (merged v w)) (copied ∙ e) f ∙ merge_ignores_trim de dr good x y (comparable_whole h l x y e f all)

  pub after_take : DropsForGood de dr → (h l c d n x y : Held) → AllComparable h.history l.history → h ≡ trim de dr x → l ≡ trim de dr y → c ≡ h → d ≡ trim de dr (merged c l) → n ≡ trim de dr (with_roots l.root d) → n ≡ trim de dr (with_roots y.root (merged x y))
  after_take good h l c d n x y all e f copied first second =
      second
      ∙ ap₂ (λ v w. trim de dr (with_roots w.root v)) (after_merge good h l c d x y all e f copied first) f
      ∙ taking_roots_ignores_trim de dr good (merged x y) y (right_precedes x.history y.history (comparable_whole h l x y e f all))

  pub after_new : DropsClosedRoots de dr → DropsForGood de dr → (u : ℕ) (h c d n x : Held) → MayNote u newborn h.history → h ≡ trim de dr x → c ≡ h → d ≡ trim de dr (depended (first_point u) c) → n ≡ trim de dr (noted u newborn d) → n ≡ trim de dr (with_newborn u x)
  after_new closed good u h c d n x may e copied first second =
      let then : d ≡ trim de dr (depended (first_point u) x) = first ∙ ap (λ v. trim de dr (depended (first_point u) v)) (copied ∙ e) ∙ depend_ignores_trim de dr closed (first_point u) x in
      second ∙ ap (λ v. trim de dr (noted u newborn v)) then ∙ note_ignores_trim de dr good u newborn (depended (first_point u) x) (may_note_whole h x u newborn e may)
