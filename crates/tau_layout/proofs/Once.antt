-- Spots, sources and guides are told once.
use Rattle.std.proofs.Common.{◌≡◌, ◌↔◌, ℕ, ◌==◌, ◌<◌, ◌≤◌, Bool, true, false, List, [], ◌∷◌, Option, Some, None, refl, sym, ap, ◌∙◌, subst, arith}
use Rattle.std.specs.Prelude.{IsTrue, slice_get, option_and_then}
use Rattle.tau_svg.specs.Markup.Lines.{Line}
use Rattle.tau_trace.specs.declared.step.Step.{Step}
use Rattle.tau_trace.specs.declared.step.Step.TheVariants.{Lose, Repeat}
use Rattle.tau_trace.specs.Steps.{actor}
use Rattle.tau_trace.specs.Run.{Run, len, step_at, ActsAt}
use Rattle.tau_trace.specs.Known.{IsSound}
use Rattle.tau_trace.specs.Numbering.{IsOrigin}
use Rattle.tau_trace.proofs.Lists.{same_some}
use Rattle.tau_trace.proofs.Once.{origin_is_one, origin_acts}
use Rattle.tau_svg.specs.Shapes.Shapes.{beside}
use Rattle.tau_svg.specs.Shapes.Windows.{IsDrawn}
use Rattle.tau_svg.specs.Shapes.Each.{EachPlace, no_place, next_place}
use Rattle.tau_layout.specs.Lanes.{AreLanes}
use Rattle.tau_layout.specs.Plans.{Plan, lane_x, HasX}
use Rattle.tau_layout.proofs.LaneLemmas.{one_lane}
use Rattle.tau_layout.specs.declared.paths.senders.Origin.{Origin}
use Rattle.tau_layout.specs.declared.paths.sources.Sender.{Sender}
use Rattle.tau_layout.specs.declared.paths.sources.Source.{Source}
use Rattle.tau_layout.specs.declared.paths.sources.Source.TheVariants.{Post, Earlier, Drawn}
use Rattle.tau_layout.specs.declared.paths.spots.Spot.{Spot}
use Rattle.tau_layout.specs.Paths.Senders.{ComesFromRight}
use Rattle.tau_layout.specs.Paths.Spots.{StandsBeside, IsSpotX, in_lane, in_none, IsSpot, IsSender, IsSource}
use Rattle.tau_layout.specs.Paths.Guides.{guide_line, IsGuide, AreGuides}
use Rattle.tau_layout.proofs.Ranks.{has_one_rank}

-- lines that are told once at each place are told once in all

above : (P : ℕ → List Line → Type 0) (a b : ℕ) (ls : List Line) → EachPlace P a b ls → a ≤ b
above P a b ls no_place = omega arith
above P a b ls (next_place {b = c} {ls = l} x p) = omega (arith, above P a c l x)

each_same : (P : ℕ → List Line → Type 0) (a b c : ℕ) → ((k : ℕ) → a ≤ k → k < b → (ls ks : List Line) → P k ls → P k ks → ls ≡ ks) → (ls ks : List Line) → b ≡ c → EachPlace P a b ls → EachPlace P a c ks → ls ≡ ks
each_same P a b c once ls ks e no_place no_place = refl
each_same P a b c once ls ks e no_place (next_place {b = d} {ls = l} y q) = absurd (omega (arith, above P a d l y, e))
each_same P a b c once ls ks e (next_place {b = d} {ls = l} x p) no_place = absurd (omega (arith, above P a d l x, e))
each_same P a b c once ls ks e (next_place {b = d} {ls = l} {ks = m} x p) (next_place {b = f} {ls = n} {ks = o} y q) =
    let same : d ≡ f = omega (arith, e) in
    let first = each_same P a d f (λ k g lt. once k g (omega (arith, lt))) l n same x y in
    let last = once d (above P a d l x) (omega arith) m o p (subst (λ (k : ℕ). P k o) (sym same) q) in
    cc

pub each_once : (P : ℕ → List Line → Type 0) (a b : ℕ) → ((k : ℕ) → a ≤ k → k < b → (ls ks : List Line) → P k ls → P k ks → ls ≡ ks) → (ls ks : List Line) → EachPlace P a b ls → EachPlace P a b ks → ls ≡ ks
each_once P a b once ls ks x y = each_same P a b b once ls ks refl x y

-- a step stands where one acts
acted_by : (T : Run) (t k : ℕ) (o : Option Step) → step_at T k ≡ o → option_and_then actor o ≡ Some t → (s : Step) × (step_at T k ≡ Some s)
acted_by T t k None e a = absurd (cc)
acted_by T t k (Some s) e a = (s, e)

acting : (T : Run) (t k : ℕ) → ActsAt T t k → (s : Step) × (step_at T k ≡ Some s)
acting T t k a = acted_by T t k (step_at T k) refl a

pub same_bool : (a b : Bool) (P : Type 0) → (IsTrue a ↔ P) → (IsTrue b ↔ P) → a ≡ b
same_bool true true P f g = refl
same_bool false false P f g = refl
same_bool true false P f g = absurd (let e = g.1 (f.0 refl) in cc)
same_bool false true P f g = absurd (let e = f.1 (g.0 refl) in cc)

module _ (T : Run) (sound : IsSound T.opening) (plan : Plan) (is : AreLanes T plan.window plan.lanes) where
  pub x_once : (t x y : ℕ) → HasX plan t x → HasX plan t y → x ≡ y
  x_once t x y a b =
      let r : a.rank ≡ b.rank = has_one_rank T sound plan is t a.rank b.rank a.ranked b.ranked in
      let lane : a.ranked.lane ≡ b.ranked.lane = same_some (sym a.ranked.at_rank ∙ ap (slice_get plan.lanes) r ∙ b.ranked.at_rank) in
      a.is ∙ ap (λ q. lane_x plan q a.ranked.lane) r ∙ ap (lane_x plan b.rank) lane ∙ sym b.is

  beside_once : (s : Step) (t c x y : ℕ) → StandsBeside T plan s t c x → StandsBeside T plan s t c y → x ≡ y
  beside_once (Lose m) t c x y a b =
      let side : a.0 ≡ b.0 = same_bool a.0 b.0 (ComesFromRight T plan m t) a.1 b.1 in
      a.2 ∙ ap (λ r. beside r c 16) side ∙ sym b.2
  beside_once (Repeat m) t c x y a b = a ∙ sym b
  beside_once s t c x y a b = a ∙ sym b

  spot_x_once : (s : Step) (k x y : ℕ) → IsSpotX T plan s k x → IsSpotX T plan s k y → x ≡ y
  spot_x_once s k x y (in_lane {t = t} {c = c} h a p) (in_lane {t = u} {c = d} i b q) =
      let who : t ≡ u = one_lane T k t u h i in
      let middle : c ≡ d = x_once u c d (subst (λ (w : ℕ). HasX plan w c) who a) b in
      beside_once s u d x y (subst (λ (z : ℕ). StandsBeside T plan s u z x) middle (subst (λ (w : ℕ). StandsBeside T plan s w c x) who p)) q
  spot_x_once s k x y (in_lane {t = t} {c = c} h a p) (in_none none e) = absurd (none t c h a)
  spot_x_once s k x y (in_none none e) (in_lane {t = t} {c = c} h a p) = absurd (none t c h a)
  spot_x_once s k x y (in_none none e) (in_none other f) = e ∙ sym f

  spot_of : (p q : Spot) → p.x ≡ q.x → p.y ≡ q.y → p ≡ q
  spot_of p q a b = λ i. record { x = a i; y = b i }

  pub spot_once : (k : ℕ) (s : Step) (p q : Spot) → step_at T k ≡ Some s → IsSpot T plan k p → IsSpot T plan k q → p ≡ q
  spot_once k s p q e a b =
      let x = a s e in
      let y = b s e in
      spot_of p q (spot_x_once s k p.x q.x x.0 y.0) (x.1 ∙ sym y.1)

  -- a guide is told once
  pub guides_once : plan.window.to ≤ len T → ((k : ℕ) → k < len T → (s : Step) × (step_at T k ≡ Some s)) → (ls ks : List Line) → AreGuides T plan ls → AreGuides T plan ks → ls ≡ ks
  guides_once within there ls ks x y = each_once (IsGuide T plan) plan.window.from plan.window.to (λ k g lt l m p q.
      let s = there k (omega (arith, lt, within)) in
      p.2 ∙ ap (λ z. guide_line z ∷ []) (spot_once k s.0 p.0 q.0 s.1 p.1 q.1) ∙ sym q.2) ls ks x y

  sender_of : (a b : Sender) → a.origin ≡ b.origin → a.spot ≡ b.spot → a.right ≡ b.right → a.own ≡ b.own → a ≡ b
  sender_of a b e f g h = λ i. record { origin = e i; spot = f i; right = g i; own = h i }

  origin_of : (o p : Origin) (m : ℕ) → IsOrigin T o.place o.who m → IsOrigin T p.place p.who m → o ≡ p
  origin_of o p m a b =
      let same = origin_is_one T o.place p.place o.who p.who m a b in
      λ i. record { place = same.0 i; who = same.1 i }

  sender_once : (m t : ℕ) (a b : Sender) → IsSender T plan m t a → IsSender T plan m t b → a ≡ b
  sender_once m t a b p q =
      let origin = origin_of a.origin b.origin m p.origin q.origin in
      let step = acting T b.origin.who b.origin.place (origin_acts T b.origin.place b.origin.who m q.origin) in
      sender_of a b origin
      (spot_once b.origin.place step.0 a.spot b.spot step.1 (subst (λ (o : Origin). IsSpot T plan o.place a.spot) origin p.spot) q.spot)
      (same_bool a.right b.right (ComesFromRight T plan m t) p.right q.right)
      (p.own ∙ ap (λ o. o.who == t) origin ∙ sym q.own)

  -- where a line begins is told once
  pub source_once : (m t : ℕ) (a b : Source) → IsSource T plan m t a → IsSource T plan m t b → a ≡ b
  source_once m t Post Post p q = refl
  source_once m t Post (Earlier o) p q = absurd (p o.place o.who q.0)
  source_once m t Post (Drawn s) p q = absurd (p s.origin.place s.origin.who q.origin)
  source_once m t (Earlier o) Post p q = absurd (q o.place o.who p.0)
  source_once m t (Earlier o) (Earlier n) p q = ap Earlier (origin_of o n m p.0 q.0)
  source_once m t (Earlier o) (Drawn s) p q = absurd (p.1 (subst (λ (n : Origin). IsDrawn plan.window n.place) (origin_of s.origin o m q.origin p.0) q.drawn))
  source_once m t (Drawn s) Post p q = absurd (q s.origin.place s.origin.who p.origin)
  source_once m t (Drawn s) (Earlier o) p q = absurd (q.1 (subst (λ (n : Origin). IsDrawn plan.window n.place) (origin_of s.origin o m p.origin q.0) p.drawn))
  source_once m t (Drawn s) (Drawn r) p q = ap Drawn (sender_once m t s r p q)
