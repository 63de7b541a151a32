-- The lines of the chain of a step are told once.
use Rattle.std.proofs.Common.{◌≡◌, ℕ, ◌<◌, ◌≤◌, List, [], ◌∷◌, ◌++◌, Option, Some, None, refl, sym, ap, ◌∙◌, subst, arith}
use Rattle.std.specs.Prelude.{Contains}
use Rattle.tau_svg.specs.Markup.Lines.{Line}
use Rattle.tau_points.specs.declared.point.Point.{Point}
use Rattle.tau_explain.specs.declared.chains.chained.Chained.{Chained}
use Rattle.tau_trace.specs.declared.step.Step.{Step}
use Rattle.tau_trace.specs.Run.{Run, len, step_at}
use Rattle.tau_trace.specs.Known.{WellFormed}
use Rattle.tau_trace.proofs.Lists.{same_some}
use Rattle.tau_svg.specs.Shapes.Windows.{IsDrawn}
use Rattle.tau_layout.specs.Lanes.{AreLanes}
use Rattle.tau_layout.specs.Plans.{Plan, row_y}
use Rattle.tau_scene.specs.declared.timelines.states.State.{State}
use Rattle.tau_scene.specs.Timelines.States.{IsState}
use Rattle.tau_cut.specs.declared.cut.Marked.{Marked}
use Rattle.tau_scene.specs.declared.looks.looks.Seen.{Seen}
use Rattle.tau_scene.specs.declared.looks.looks.Looks.{Looks}
use Rattle.tau_scene.specs.Causes.Looks.{AreLaneSeen}
use Rattle.tau_layout.specs.declared.paths.spots.Spot.{Spot}
use Rattle.tau_layout.specs.Paths.Spots.{IsSpot}
use Rattle.tau_layout.proofs.Once.{x_once, spot_once}
use Rattle.tau_drawing.specs.States.Names.{seen_at}
use Rattle.tau_picture.specs.Chains.{ShowsState, FrameLines, framed, unframed, frame_line, no_later, link_line, ShowsLink, LinkLines, link_drawn, link_undrawn, head_lines, AreLinkLines, RingLines, ring_drawn, ring_undrawn, ring_line, AreChainLines}
use Rattle.tau_picture.specs.Pictures.{AreCauseLines}
use Rattle.tau_picture.proofs.EachOnce.{items_as, items_once}
use Rattle.tau_picture.proofs.OneState.{state_of_point, looked}

-- by the states that are seen alone

shown_as : (plan : Plan) (looks others : Looks) → ((rank : ℕ) → seen_at looks rank ≡ seen_at others rank) → (p : Point) (s : State) (x : ℕ) → ShowsState plan looks p s x → ShowsState plan others p s x
shown_as plan looks others same p s x a = record {
  rank = a.rank;
  ranked = a.ranked;
  x_is = a.x_is;
  seen = a.seen;
  held = subst (λ (l : List Seen). Contains l a.seen) (same a.rank) a.held;
  state_is = a.state_is;
  of = a.of;
}

module _ (T : Run) (plan : Plan) (looks others : Looks) (same : (rank : ℕ) → seen_at looks rank ≡ seen_at others rank) where
  frame_as : (c : Chained) (ls : List Line) → FrameLines plan looks c ls → FrameLines plan others c ls
  frame_as c ls (framed {s = s} {x = x} a) = framed (shown_as plan looks others same c.point s x a)
  frame_as c ls (unframed none) = unframed (λ s x a. none s x (shown_as plan others looks (λ rank. sym (same rank)) c.point s x a))

  link_shown_as : (c : Chained) (j x : ℕ) (spot : Spot) (s : State) → ShowsLink T plan looks c j spot s x → ShowsLink T plan others c j spot s x
  link_shown_as c j x spot s a = record { by = a.by; drawn = a.drawn; apart = a.apart; at = a.at; to = shown_as plan looks others same c.point s x a.to }

  link_shown_back : (c : Chained) (j x : ℕ) (spot : Spot) (s : State) → ShowsLink T plan others c j spot s x → ShowsLink T plan looks c j spot s x
  link_shown_back c j x spot s a = record { by = a.by; drawn = a.drawn; apart = a.apart; at = a.at; to = shown_as plan others looks (λ rank. sym (same rank)) c.point s x a.to }

  link_as : (c : Chained) (ls : List Line) → LinkLines T plan looks c ls → LinkLines T plan others c ls
  link_as c ls (link_drawn {j = j} {x = x} {spot = spot} {s = s} a) = link_drawn (link_shown_as c j x spot s a)
  link_as c ls (link_undrawn none) = link_undrawn (λ j x spot s a. none j x spot s (link_shown_back c j x spot s a))

  links_as : (chain : List Chained) (ls : List Line) → AreLinkLines T plan looks chain ls → AreLinkLines T plan others chain ls
  links_as chain ls a = record { links = a.links; links_are = items_as (LinkLines T plan looks) (LinkLines T plan others) link_as chain a.links a.links_are; are = a.are }

  chain_as : (k : ℕ) (chain : List Chained) (ls : List Line) → AreChainLines T plan looks k chain ls → AreChainLines T plan others k chain ls
  chain_as k chain ls a = record {
    frames = a.frames;
    frames_are = items_as (FrameLines plan looks) (FrameLines plan others) frame_as chain a.frames a.frames_are;
    links = a.links;
    links_are = links_as chain a.links a.links_are;
    ring = a.ring;
    ring_is = a.ring_is;
    is = a.is;
  }

  pub cause_lines_as : (ask : Option ℕ) (cause : Option (List Chained)) (ls : List Line) → AreCauseLines T plan looks ask cause ls → AreCauseLines T plan others ask cause ls
  cause_lines_as None cause ls a = a
  cause_lines_as (Some k) None ls a = a
  cause_lines_as (Some k) (Some chain) ls a = chain_as k chain ls a

module _ (T : Run) (w : WellFormed T) (plan : Plan) (is : AreLanes T plan.window plan.lanes) (within : plan.window.to ≤ len T) (there : (k : ℕ) → k < len T → (s : Step) × (step_at T k ≡ Some s)) where
  -- a drawn step has one spot
  drawn_spot : (k : ℕ) (p q : Spot) → IsDrawn plan.window k → IsSpot T plan k p → IsSpot T plan k q → p ≡ q
  drawn_spot k p q d a b =
      let s = there k (omega (arith, d.1, within)) in
      spot_once T w.opening plan is k s.0 p q s.1 a b

  ring_once : (k : ℕ) (ls ks : List Line) → RingLines T plan k ls → RingLines T plan k ks → ls ≡ ks
  ring_once k ls ks (ring_drawn p d a) (ring_drawn q e b) = ap (λ (z : Spot). ring_line z ∷ []) (drawn_spot k p q d a b)
  ring_once k ls ks (ring_drawn p d a) (ring_undrawn none) = absurd (none d)
  ring_once k ls ks (ring_undrawn none) (ring_drawn p d a) = absurd (none d)
  ring_once k ls ks (ring_undrawn none) (ring_undrawn other) = refl

  module _ (cut : List Marked) (looks : Looks) (are : AreLaneSeen T plan cut looks.states.items) where
    -- the state of a point is one, in one lane
    state_shown : (p : Point) (s : State) (x : ℕ) → ShowsState plan looks p s x → IsState T s
    state_shown p s x a = subst (IsState T) a.state_is (looked T plan cut looks.states.items are a.rank a.seen a.held).state_is

    one_state : (p : Point) (s r : State) (x y : ℕ) → ShowsState plan looks p s x → ShowsState plan looks p r y → s ≡ r
    one_state p s r x y a b = state_of_point T w s r (state_shown p s x a) (state_shown p r y b) (a.of ∙ sym b.of)

    one_middle : (p : Point) (s r : State) (x y : ℕ) → ShowsState plan looks p s x → ShowsState plan looks p r y → x ≡ y
    one_middle p s r x y a b = x_once T w.opening plan is p.who x y (record { rank = a.rank; ranked = a.ranked; is = a.x_is }) (record { rank = b.rank; ranked = b.ranked; is = b.x_is })

    frame_once : (c : Chained) (ls ks : List Line) → FrameLines plan looks c ls → FrameLines plan looks c ks → ls ≡ ks
    frame_once c ls ks (framed {s = s} {x = x} a) (framed {s = r} {x = y} b) =
        let state : s ≡ r = one_state c.point s r x y a b in
        let middle : x ≡ y = one_middle c.point s r x y a b in
        λ i. frame_line plan (state i) (middle i) ∷ []
    frame_once c ls ks (framed {s = s} {x = x} a) (unframed none) = absurd (none s x a)
    frame_once c ls ks (unframed none) (framed {s = s} {x = x} a) = absurd (none s x a)
    frame_once c ls ks (unframed none) (unframed other) = refl

    link_once : (c : Chained) (ls ks : List Line) → LinkLines T plan looks c ls → LinkLines T plan looks c ks → ls ≡ ks
    link_once c ls ks (link_drawn {j = j} {x = x} {spot = p} {s = s} a) (link_drawn {j = i} {x = y} {spot = q} {s = r} b) =
        let place : j ≡ i = same_some (sym a.by ∙ b.by) in
        let state : s ≡ r = one_state c.point s r x y a.to b.to in
        let middle : x ≡ y = one_middle c.point s r x y a.to b.to in
        let at : p ≡ q = drawn_spot i p q b.drawn (subst (λ (n : ℕ). IsSpot T plan n p) place a.at) b.at in
        λ n. link_line (at n).x (at n).y (middle n) (row_y plan (no_later (place n) (state n).end)) ∷ []
    link_once c ls ks (link_drawn {j = j} {x = x} {spot = p} {s = s} a) (link_undrawn none) = absurd (none j x p s a)
    link_once c ls ks (link_undrawn none) (link_drawn {j = j} {x = x} {spot = p} {s = s} a) = absurd (none j x p s a)
    link_once c ls ks (link_undrawn none) (link_undrawn other) = refl

    links_once : (chain : List Chained) (ls ks : List Line) → AreLinkLines T plan looks chain ls → AreLinkLines T plan looks chain ks → ls ≡ ks
    links_once chain ls ks a b =
        let links : a.links ≡ b.links = items_once (LinkLines T plan looks) link_once chain a.links b.links a.links_are b.links_are in
        a.are ∙ ap (λ x. x ++ head_lines x) links ∙ sym b.are

    chain_once : (k : ℕ) (chain : List Chained) (ls ks : List Line) → AreChainLines T plan looks k chain ls → AreChainLines T plan looks k chain ks → ls ≡ ks
    chain_once k chain ls ks a b =
        let frames : a.frames ≡ b.frames = items_once (FrameLines plan looks) frame_once chain a.frames b.frames a.frames_are b.frames_are in
        let links : a.links ≡ b.links = links_once chain a.links b.links a.links_are b.links_are in
        let ring : a.ring ≡ b.ring = ring_once k a.ring b.ring a.ring_is b.ring_is in
        a.is ∙ (λ i. frames i ++ (links i ++ ring i)) ∙ sym b.is

    pub cause_lines_once : (ask : Option ℕ) (cause : Option (List Chained)) (ls ks : List Line) → AreCauseLines T plan looks ask cause ls → AreCauseLines T plan looks ask cause ks → ls ≡ ks
    cause_lines_once None cause ls ks a b = a ∙ sym b
    cause_lines_once (Some k) None ls ks a b = a ∙ sym b
    cause_lines_once (Some k) (Some chain) ls ks a b = chain_once k chain ls ks a b
