-- What can be said of the next effect whatever the body is: its values are in bounds, and it names only what exists.
use Rattle.std.specs.Prelude.{ℕ, ◌<◌, ◌≤◌, List, [], ◌∷◌}
use Rattle.tau_value.specs.Val.{Val}
use Rattle.tau_value.specs.Sizes.{IsInBounds, NamesBelow}
use Rattle.tau_tree.specs.Code.{Code}
use Rattle.tau_tree.specs.Parts.{Throughout, NamesStart, NamesBehaviour, HasShortText}
use Rattle.tau_eval.specs.Eff.{Eff, get, set, send, new, stabilize, checkpoint, rollback, ask, done, trap}
use Rattle.tau_eval.specs.Meaning.{Setting, next}

-- a value in bounds that names only the first so many transactors
abbrev pub IsKnown : ℕ → Val → Type 0
IsKnown transactors v = IsInBounds v × NamesBelow transactors v

abbrev pub AreKnown : ℕ → List Val → Type 0
AreKnown transactors [] = Unit {0}
AreKnown transactors (v ∷ vs) = IsKnown transactors v × AreKnown transactors vs

-- the effect names transactors, behaviours and nodes of which there are so many, and has such values; a trap has a code
abbrev pub IsKnownEffect : ℕ → ℕ → ℕ → Eff → Type 0
IsKnownEffect transactors behaviours nodes (set v) = IsKnown transactors v
IsKnownEffect transactors behaviours nodes (send to v) = (to < transactors) × IsKnown transactors v
IsKnownEffect transactors behaviours nodes (new b n v) = (b < behaviours) × (n < nodes) × IsKnown transactors v
IsKnownEffect transactors behaviours nodes (trap code) = (1 ≤ code) × (code ≤ 8)
IsKnownEffect transactors behaviours nodes e = Unit {0}

-- the body names starts and behaviours of which there are so many, and its texts are in bounds
pub record KeepsNames (starts behaviours : ℕ) (body : Code) : Type 0 where
  pub starts_named : Throughout (NamesStart starts) body
  pub behaviours_named : Throughout (NamesBehaviour behaviours) body
  pub short_texts : Throughout HasShortText body

-- where the setting and the replies are known, so is the next effect
abbrev pub EffectsAreKnown : Type 0
EffectsAreKnown = (transactors starts behaviours : ℕ) (body : Code) (s : Setting) (replies : List Val)
    → starts ≤ transactors → KeepsNames starts behaviours body → s.own < transactors → IsKnown transactors s.message → AreKnown transactors replies
    → IsKnownEffect transactors behaviours s.nodes (next body s replies)
