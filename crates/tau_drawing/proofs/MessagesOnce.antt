-- Message lines are told once.
use Rattle.std.proofs.Common.{◌≡◌, ℕ, ◌<◌, ◌≤◌, List, [], ◌∷◌, Option, Some, None, length, sym, ap, ◌∙◌, subst, arith}
use Rattle.std.proofs.lemmas.List.{length-map}
use Rattle.std.proofs.lemmas.Option.{slice_get_within}
use Rattle.tau_svg.specs.Markup.Lines.{Line}
use Rattle.tau_value.specs.Val as val
use Rattle.tau_value.specs.Val.{Val}
use Rattle.tau_value.specs.Value.{val_of}
use Rattle.tau_tree.specs.declared.programs.Program.{Program}
use Rattle.tau_script.specs.Openings.{program_opening}
use Rattle.tau_trace.specs.declared.step.Step.{Step}
use Rattle.tau_trace.specs.declared.step.Step.TheVariants.{Send, New, Echo, Repeat}
use Rattle.tau_trace.specs.Run.{Run, len, step_at}
use Rattle.tau_trace.specs.Known.{IsSound}
use Rattle.tau_trace.specs.Numbering.{sent, IsNew, Removes}
use Rattle.tau_trace.proofs.Lists.{same_some}
use Rattle.tau_trace.proofs.Once.{IsMaker, sent_maker, echoed_maker, repeated_maker, maker_once, receives_once}
use Rattle.tau_legal.specs.Turns as legal
use Rattle.tau_legal.specs.Turns.{HasValue}
use Rattle.tau_layout.specs.Lanes.{AreLanes}
use Rattle.tau_layout.specs.Plans.{Plan, HasX, grid, row_y}
use Rattle.tau_layout.proofs.LaneLemmas.{one_lane}
use Rattle.tau_layout.specs.Paths.Senders.{met_by}
use Rattle.tau_layout.specs.Paths.Spots.{IsSource}
use Rattle.tau_layout.proofs.Once.{each_once, same_bool, x_once, spot_once, source_once}
use Rattle.tau_drawing.specs.Messages.Arrows.{receipt_line, sent_line, new_line}
use Rattle.tau_drawing.specs.Messages.Messages.{IsReceiptLine, receipt_leads, receipt_nowhere, IsSentLine, sent_leads, sent_met, sent_nowhere, IsNewLine, new_leads, new_nowhere, IsLineTo, IsLineOf, IsMessageLine, AreMessageLines}

-- a message has one value

same_step : (T : Run) (i j m : ℕ) (a : IsMaker T i m) (b : IsMaker T j m) → a.step ≡ b.step
same_step T i j m a b = same_some (sym a.stands ∙ ap (step_at T) (maker_once T i j m a b) ∙ b.stands)

abbrev pub ValueMade : Program → Run → Step → Val → Type 0
ValueMade P T (Send t w x) v = val_of x ≡ v
ValueMade P T (Echo t n) v = val.unit ≡ v
ValueMade P T (Repeat n) v = HasValue P T n v
ValueMade P T s v = ⊥

module _ (P : Program) (T : Run) (o : T.opening ≡ program_opening P) where
  few : length T.opening.targets ≡ length P.posts
  few = ap (λ x. length x.targets) o ∙ length-map P.posts (λ q. q.to)

  value_made : (k m : ℕ) (v : Val) (a : IsMaker T k m) → HasValue P T m v → ValueMade P T a.step v
  value_made k m v a (legal.post e f) = absurd (omega (arith, slice_get_within P.posts m _ e, few, a.made))
  value_made k m v a (legal.message {j = j} {by = by} s e) = subst (λ (x : Step). ValueMade P T x v) (same_step T j k m (sent_maker T j by m s) a) e
  value_made k m v a (legal.notice {j = j} {by = by} {n = n} s e) = subst (λ (x : Step). ValueMade P T x v) (same_step T j k m (echoed_maker T j by n m s) a) e
  value_made k m v a (legal.copy {k = i} {n = n} r h) = subst (λ (x : Step). ValueMade P T x v) (same_step T i k m (repeated_maker T i n m r) a) h

  pub value_once : (m : ℕ) (v w : Val) → HasValue P T m v → HasValue P T m w → v ≡ w
  value_once m v w (legal.post e f) (legal.post g h) = sym f ∙ ap (λ q. val_of q.value) (same_some (sym e ∙ g)) ∙ h
  value_once m v w (legal.post e f) (legal.message s g) = absurd (omega (arith, slice_get_within P.posts m _ e, few, s.made))
  value_once m v w (legal.post e f) (legal.notice s g) = absurd (omega (arith, slice_get_within P.posts m _ e, few, s.made))
  value_once m v w (legal.post e f) (legal.copy r h) = absurd (omega (arith, slice_get_within P.posts m _ e, few, r.made))
  value_once m v w (legal.message {j = j} {by = by} s e) h = sym e ∙ value_made j m w (sent_maker T j by m s) h
  value_once m v w (legal.notice {j = j} {by = by} {n = n} s e) h = sym e ∙ value_made j m w (echoed_maker T j by n m s) h
  value_once m v w (legal.copy {k = k} {n = n} r a) h = value_once n v w a (value_made k m w (repeated_maker T k n m r) h)

new_same : (T : Run) (k t u w : ℕ) → IsNew T k t u → IsNew T k t w → u ≡ w
new_same T k t u w a b = a.made ∙ sym b.made

module _ (P : Program) (T : Run) (o : T.opening ≡ program_opening P) (sound : IsSound T.opening) (plan : Plan) (is : AreLanes T plan.window plan.lanes) where
  receipt_once : (k m : ℕ) (s : Step) (ls ks : List Line) → IsReceiptLine P T plan k s m ls → IsReceiptLine P T plan k s m ks → ls ≡ ks
  receipt_once k m s ls ks (receipt_leads {t = t} {x = x} {v = v} a h p q r e) (receipt_leads {t = u} {x = y} {v = w} b i f g l d) =
      let who : t ≡ u = one_lane T k t u h i in
      let middle : x ≡ y = x_once T sound plan is u x y (subst (λ (z : ℕ). HasX plan z x) who p) f in
      let value : v ≡ w = value_once P T o m v w q g in
      let source : a ≡ b = source_once T sound plan is m u a b (subst (λ (z : ℕ). IsSource T plan m z a) who r) l in
      e ∙ (λ n. receipt_line T.opening.names (grid plan) k s m (who n) (value n) (source n) (record { x = middle n; y = row_y plan k }) ∷ []) ∙ sym d
  receipt_once k m s ls ks (receipt_leads {t = t} {x = x} a h p q r e) (receipt_nowhere none d) = absurd (none t x h p)
  receipt_once k m s ls ks (receipt_nowhere none e) (receipt_leads {t = t} {x = x} a h p q r d) = absurd (none t x h p)
  receipt_once k m s ls ks (receipt_nowhere none e) (receipt_nowhere other d) = e ∙ sym d

  made_once : (k m : ℕ) (s : Step) (ls ks : List Line) → step_at T k ≡ Some s → IsSentLine P T plan k s m ls → IsSentLine P T plan k s m ks → ls ≡ ks
  made_once k m s ls ks stands (sent_leads {t = t} {v = v} {flies = a} {p = p} n r h f i e) (sent_leads {t = u} {v = w} {flies = b} {p = q} l g c y j d) =
      let who : t ≡ u = receives_once T m t u r g in
      let value : v ≡ w = value_once P T o m v w h c in
      let flight : a ≡ b = same_bool a b ((j : ℕ) → ¬ Removes T m j) f y in
      let at : p ≡ q = spot_once T sound plan is k s p q stands i j in
      e ∙ (λ n. sent_line T.opening.names k s m (who n) (value n) (flight n) (at n) ∷ []) ∙ sym d
  made_once k m s ls ks stands (sent_leads n r h f i e) (sent_met c d) = absurd (n c)
  made_once k m s ls ks stands (sent_leads {t = t} n r h f i e) (sent_nowhere none d) = absurd (none t r)
  made_once k m s ls ks stands (sent_met c e) (sent_leads n r h f i d) = absurd (n c)
  made_once k m s ls ks stands (sent_nowhere none e) (sent_leads {t = t} n r h f i d) = absurd (none t r)
  made_once k m s ls ks stands (sent_met c e) (sent_met b d) = e ∙ sym d
  made_once k m s ls ks stands (sent_met c e) (sent_nowhere none d) = e ∙ sym d
  made_once k m s ls ks stands (sent_nowhere none e) (sent_met b d) = e ∙ sym d
  made_once k m s ls ks stands (sent_nowhere none e) (sent_nowhere other d) = e ∙ sym d

  new_once : (k t : ℕ) (s : Step) (ls ks : List Line) → step_at T k ≡ Some s → IsNewLine T plan k t ls → IsNewLine T plan k t ks → ls ≡ ks
  new_once k t s ls ks stands (new_leads {u = u} {x = x} {p = p} n h i e) (new_leads {u = w} {x = y} {p = q} m g j d) =
      let who : u ≡ w = new_same T k t u w n m in
      let middle : x ≡ y = x_once T sound plan is w x y (subst (λ (z : ℕ). HasX plan z x) who h) g in
      let at : p ≡ q = spot_once T sound plan is k s p q stands i j in
      e ∙ (λ n. new_line T.opening.names k t (who n) (at n) (middle n) ∷ []) ∙ sym d
  new_once k t s ls ks stands (new_leads {u = u} {x = x} n h i e) (new_nowhere {u = w} m none d) = absurd (none x (subst (λ (z : ℕ). HasX plan z x) (new_same T k t u w n m) h))
  new_once k t s ls ks stands (new_nowhere {u = w} m none e) (new_leads {u = u} {x = x} n h i d) = absurd (none x (subst (λ (z : ℕ). HasX plan z x) (new_same T k t u w n m) h))
  new_once k t s ls ks stands (new_nowhere m none e) (new_nowhere n other d) = e ∙ sym d

  line_to_once : (k : ℕ) (s : Step) (m : Option ℕ) (ls ks : List Line) → IsLineTo P T plan k s m ls → IsLineTo P T plan k s m ks → ls ≡ ks
  line_to_once k s None ls ks a b = a ∙ sym b
  line_to_once k s (Some m) ls ks a b = receipt_once k m s ls ks a b

  line_once : (k : ℕ) (s : Step) (ls ks : List Line) → step_at T k ≡ Some s → IsLineOf P T plan k s ls → IsLineOf P T plan k s ks → ls ≡ ks
  line_once k (Send t u v) ls ks e a b = made_once k (sent T k) (Send t u v) ls ks e a b
  line_once k (Repeat m) ls ks e a b = made_once k (sent T k) (Repeat m) ls ks e a b
  line_once k (New t c n v) ls ks e a b = new_once k t (New t c n v) ls ks e a b
  line_once k s ls ks e a b = line_to_once k s (met_by s) ls ks a b

  -- the lines of a picture are told once
  pub messages_once : plan.window.to ≤ len T → ((k : ℕ) → k < len T → (s : Step) × (step_at T k ≡ Some s)) → (ls ks : List Line) → AreMessageLines P T plan ls → AreMessageLines P T plan ks → ls ≡ ks
  messages_once within there ls ks x y = each_once (IsMessageLine P T plan) plan.window.from plan.window.to (λ k g lt l m p q.
      let s = there k (omega (arith, lt, within)) in
      line_once k s.0 l m s.1 (p s.0 s.1) (q s.0 s.1)) ls ks x y
