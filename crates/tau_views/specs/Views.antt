-- The view of what was heard, from the whole list of steps (docs/definitions.md, "View of what was heard").
use Rattle.std.specs.Prelude.{◌≡◌, ◌↔◌, ℕ, IsTrue, Option, Some, None}
use Rattle.tau_history.specs.Timeline.{Timeline}
use Rattle.tau_points.specs.declared.point.Point.{Point}
use Rattle.tau_view.specs.Held.{Held}
use Rattle.tau_trace.specs.Run.{Run, ActsAt}
use Rattle.tau_trace.specs.Numbering.{IsNew}
use Rattle.tau_trace.specs.Histories.{history}
use Rattle.tau_past.specs.Carried.{TakesBy, Pending, SentWith}
use Rattle.tau_past.specs.Heard.{Heard, HeardBy, Bound}

-- u is present in the set of places H for an owner: it is the owner, or a step of u, or the New that made u, is in H
pub data IsPresent (T : Run) (H : ℕ → Type 0) (owner : Option ℕ) (u : ℕ) : Type 0 where
  is_owner : owner ≡ Some u → IsPresent T H owner u
  by_step : {j : ℕ} → H j → ActsAt T u j → IsPresent T H owner u
  by_birth : {j by : ℕ} → H j → IsNew T j by u → IsPresent T H owner u

-- h is the history of u after its last step in H, and u is present
pub record IsKnownHistory (T : Run) (H : ℕ → Type 0) (owner : Option ℕ) (u : ℕ) (h : Timeline) : Type 0 where
  pub present : IsPresent T H owner u
  pub bound : ℕ
  pub is_bound : Bound T H u bound
  pub is : h ≡ history T u bound

-- by a step in H, point p takes point q
pub record TakesIn (T : Run) (H : ℕ → Type 0) (p q : Point) : Type 0 where
  pub place : ℕ
  pub held : H place
  pub takes : TakesBy T place p q

-- histories, edges and roots are those of the set of places H, for an owner, with these roots
pub record IsView (T : Run) (H : ℕ → Type 0) (owner : Option ℕ) (roots : Point → Type 0) (x : Held) : Type 0 where
  pub history : (u : ℕ) (h : Timeline) → (x.history u ≡ Some h) ↔ IsKnownHistory T H owner u h
  pub edge : (p q : Point) → IsTrue (x.edge p q) ↔ TakesIn T H p q
  pub root : (q : Point) → IsTrue (x.root q) ↔ roots q

-- the view of what transactor t has heard at place k; its roots are the points that a step of t there would carry
abbrev pub IsViewOf : Run → ℕ → ℕ → Held → Type 0
IsViewOf T t k = IsView T (Heard T t k) (Some t) (Pending T t k)

-- the view of what message m has heard; its roots are the points that it carries
abbrev pub IsMessageView : Run → ℕ → Held → Type 0
IsMessageView T m = IsView T (HeardBy T m) None (SentWith T m)
