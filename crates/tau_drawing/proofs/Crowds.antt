-- What stands beside a lane in the row where a state begins.
use Rattle.std.proofs.Common.{◌≡◌, ◌⊎◌, inl, inr, ⊎_elim, ◌↔◌, ℕ, ◌<◌, Bool, true, false, Option, Some, None, refl, sym, ap, ◌∙◌, subst}
use Rattle.std.specs.Prelude.{IsTrue}
use Rattle.tau_value.specs.declared.shared.Value.{Value}
use Rattle.tau_trace.specs.declared.step.Step.{Step}
use Rattle.tau_trace.specs.declared.step.Step.TheVariants.{Send}
use Rattle.tau_trace.specs.Run.{Run, step_at}
use Rattle.tau_trace.specs.Numbering.{sent, Removes}
use Rattle.tau_trace.specs.Stored.{IsMadeAt}
use Rattle.tau_trace.proofs.Lists.{same_some}
use Rattle.tau_layout.specs.Lanes.{StandsIn, IsLaneAt}
use Rattle.tau_layout.specs.Plans.{Plan}
use Rattle.tau_layout.proofs.LaneLemmas.{one_lane}
use Rattle.tau_scene.specs.declared.timelines.states.State.{State}
use Rattle.tau_layout.specs.Paths.Senders.{met_by, ComesFromRight}
use Rattle.tau_drawing.specs.States.StateLines.{MeetsIn, HasHead, HasCircle, IsCrowded}
use Rattle.tau_drawing.specs.States.Inner.Meetings.{IsMetIn, sender_in}

-- a step of a lane receives or loses one message
pub meets_once : (T : Run) (t k m n : ℕ) → MeetsIn T t k m → MeetsIn T t k n → m ≡ n
meets_once T t k m n a b =
    let same : a.stands.step ≡ b.stands.step = same_some (sym a.stands.stands ∙ b.stands.stands) in
    same_some (sym a.meets ∙ ap met_by same ∙ b.meets)

pub lane_told : (T : Run) (k t : ℕ) (o : Option ℕ) → IsLaneAt T k o → StandsIn T k t → o ≡ Some t
lane_told T k t None none h = absurd (none t h)
lane_told T k t (Some u) at h = ap Some (one_lane T k u t at h)

pub met_told : (T : Run) (t k : ℕ) (s : Step) (o : Option ℕ) → StandsIn T k t → step_at T k ≡ Some s → o ≡ met_by s → IsMetIn T t k o
met_told T t k s None h e f = λ m a. let same : a.stands.step ≡ s = same_some (sym a.stands.stands ∙ e) in let none : None ≡ Some m = f ∙ ap met_by (sym same) ∙ a.meets in absurd (cc)
met_told T t k s (Some m) h e f = record { stands = h; meets = ap met_by (same_some (sym h.stands ∙ e)) ∙ sym f }

pub never : (P : Type 0) → ¬ P → IsTrue false ↔ P
never P none = (λ e. absurd (cc), λ p. absurd (none p))

-- the head of a line
pub head_by : (T : Run) (plan : Plan) (t k m : ℕ) (b : Bool) → MeetsIn T t k m → (IsTrue b ↔ ComesFromRight T plan m t) → IsTrue b ↔ HasHead T plan t k
head_by T plan t k m b meets right = (
  λ e. record { message = m; meets = meets; right = right.0 e },
  λ h. right.1 (subst (λ (n : ℕ). ComesFromRight T plan n t) (meets_once T t k h.message m h.meets meets) h.right),
)

-- the circle of a Send
sends_by : (s : Step) (t : ℕ) → sender_in s ≡ Some t → (to : ℕ) × (v : Value) × (s ≡ Send t to v)
sends_by (Send u to v) t e = (to, v, ap (λ (n : ℕ). Send n to v) (same_some e))
sends_by s t e = absurd (cc)

pub circle_by : (T : Run) (t k m : ℕ) (s : Step) (b : Bool) → step_at T k ≡ Some s → sender_in s ≡ Some t → IsMadeAt T k m → (IsTrue b ↔ ((j : ℕ) → ¬ Removes T m j)) → IsTrue b ↔ HasCircle T t k
circle_by T t k m s b at by made flies =
    let is = sends_by s t by in
    let stands : step_at T k ≡ Some (Send t is.0 is.1) = at ∙ ap Some is.2 in
    let number : m ≡ sent T k = made (Send t is.0 is.1) stands in (
      λ e. record { message = m; sends = record { to = is.0; value = is.1; stands = stands; made = number }; flies = flies.0 e },
      λ h. flies.1 (λ j r. h.flies j (subst (λ (n : ℕ). Removes T n j) (number ∙ sym h.sends.made) r)),
    )

pub no_circle : (T : Run) (t k : ℕ) (s : Step) → step_at T k ≡ Some s → ¬ (sender_in s ≡ Some t) → ¬ HasCircle T t k
no_circle T t k s at none = λ h. none (ap sender_in (same_some (sym at ∙ h.sends.stands)))

-- one of them stands where a state begins
module _ (T : Run) (plan : Plan) (s : State) (later : plan.window.from < s.begin) (drawn : s.begin < plan.window.to) where
  pub by_head : HasHead T plan s.point.who s.begin → IsTrue true ↔ IsCrowded T plan s
  by_head h = (λ e. record { later = later; drawn = drawn; crowds = inl h }, λ c. refl)

  pub by_circle : (b : Bool) → ¬ HasHead T plan s.point.who s.begin → (IsTrue b ↔ HasCircle T s.point.who s.begin) → IsTrue b ↔ IsCrowded T plan s
  by_circle b none told = (
    λ e. record { later = later; drawn = drawn; crowds = inr (told.0 e) },
    λ c. ⊎_elim (λ h. absurd (none h)) (λ h. told.1 h) c.crowds,
  )
