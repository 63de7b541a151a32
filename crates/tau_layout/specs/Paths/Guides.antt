-- The guides, which lead from the texts of steps to their spots (docs/formats.md, "Pictures").
use Rattle.std.specs.Prelude.{◌≡◌, ℕ, ◌-◌, List, [], ◌∷◌, codes}
use Rattle.tau_svg.specs.Markup.Lines.{Line, plain, number, empty}
use Rattle.tau_svg.specs.Shapes.Shapes.{path}
use Rattle.tau_svg.specs.Shapes.Each.{EachPlace}
use Rattle.tau_trace.specs.Run.{Run}
use Rattle.tau_layout.specs.Plans.{Plan}
use Rattle.tau_layout.specs.declared.paths.spots.Spot.{Spot}
use Rattle.tau_layout.specs.Paths.Spots.{IsSpot}

-- the guide to a spot ends 9 in front of it
abbrev pub guide_line : Spot → Line
guide_line p = path (plain (codes "guide") ∷ []) (plain (codes "M366 ") ∷ number p.y ∷ plain (codes "H") ∷ number (p.x - 9) ∷ []) empty

-- the guide of the step at place k
abbrev pub IsGuide : Run → Plan → ℕ → List Line → Type 0
IsGuide T plan k lines = (p : Spot) × IsSpot T plan k p × (lines ≡ guide_line p ∷ [])

-- one for each step that is drawn, by place
abbrev pub AreGuides : Run → Plan → List Line → Type 0
AreGuides T plan lines = EachPlace (IsGuide T plan) plan.window.from plan.window.to lines
