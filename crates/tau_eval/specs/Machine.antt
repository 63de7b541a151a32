-- What a machine that evaluates an expression still makes of the replies to come.
use Rattle.std.specs.Prelude.{◌≡◌, ℕ, ◌+◌, ◌-◌, ◌*◌, ◌<◌, List, length, Result, Ok, Err}
use Rattle.tau_value.specs.Val.{Val}
use Rattle.tau_value.specs.Value.{val_of}
use Rattle.tau_eval.specs.Eff.{Eff}
use Rattle.tau_eval.specs.Effect.{eff_of}
use Rattle.tau_eval.specs.Outcome.{Outcome, After, and_then, effect_of}
use Rattle.tau_eval.specs.Meaning.{Setting, Scope}
use Rattle.tau_eval.specs.Frames.{meaning_of, scope_under, made_of, unwound, whole, answers}
use Rattle.tau_eval.specs.declared.frames.Frame.{Frame}
use Rattle.tau_eval.specs.declared.machine.Machine.{Machine}
use Rattle.tau_eval.specs.declared.machine.Focus.{Focus}
use Rattle.tau_eval.specs.declared.machine.Focus.TheVariants as focus
use Rattle.tau_eval.specs.declared.machine.Move.{Move}
use Rattle.tau_eval.specs.declared.machine.Move.TheVariants as move

-- what the frames make of a value in a scope
abbrev pub rest_of : Machine → Setting → Scope → Val → After
rest_of m = unwound m.frames.items whole

-- what comes of a machine at a focus
abbrev pub running : Machine → Setting → Focus → List Val → Outcome
running m s (focus.Eval e) rs = and_then (meaning_of e.now s m.scope m.count rs) (rest_of m s m.scope)
running m s (focus.Give v) rs = rest_of m s m.scope (val_of v) m.count rs

-- what comes of a machine whose frame meets a value
abbrev pub meeting : Machine → Setting → Frame → Val → List Val → Outcome
meeting m s frame v rs =
    and_then (made_of frame s (scope_under frame m.scope) v m.count rs) (rest_of m s (scope_under frame m.scope))

-- what comes of a machine that has reached an effect
abbrev pub reached : Machine → Setting → Eff → List Val → Outcome
reached m s e rs = and_then (answers e m.count rs) (rest_of m s m.scope)

-- what comes of a machine after a move
abbrev pub moved : Machine → Setting → Move → List Val → Outcome
moved m s (move.On f) rs = running m s f rs
moved m s (move.At e) rs = reached m s (eff_of e) rs

-- what comes of a machine after a step, which may have failed for want of memory
abbrev pub left : Machine → Setting → Result Move Focus → List Val → Outcome
left m s (Ok move) rs = moved m s move rs
left m s (Err f) rs = running m s f rs

-- two outcomes tell the same effect
abbrev pub SameEffect : (List Val → Outcome) → (List Val → Outcome) → Type 0
SameEffect before after = (rs : List Val) → effect_of (before rs) ≡ effect_of (after rs)

-- the steps that are left at most: an evaluation, of which there are 100,000, is three, and each frame one
abbrev pub work : Machine → Focus → ℕ
work m (focus.Eval e) = 3 * (100000 - m.count) + length m.frames.items
work m (focus.Give v) = 3 * (100000 - m.count) + length m.frames.items + 1

-- a step that goes on leaves less work
abbrev pub Falls : ℕ → Machine → Result Move Focus → Type 0
Falls before m (Ok (move.On f)) = work m f < before
Falls before m (Ok (move.At e)) = Unit {0}
Falls before m (Err f) = Unit {0}
