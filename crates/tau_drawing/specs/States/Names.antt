-- The classes of looks, and what is said of them (docs/formats.md, "Pictures").
use Rattle.std.specs.Prelude.{ℕ, List, [], Option, Some, None, codes, slice_get}
use Rattle.std.specs.Option.{option_map_or}
use Rattle.tau_scene.specs.declared.looks.kinds.StateLook.{StateLook}
use Rattle.tau_scene.specs.declared.looks.kinds.StateLook.TheVariants as states
use Rattle.tau_scene.specs.declared.looks.kinds.MarkLook.{MarkLook}
use Rattle.tau_scene.specs.declared.looks.kinds.MarkLook.TheVariants as marks
use Rattle.tau_scene.specs.declared.looks.kinds.EndLook.{EndLook}
use Rattle.tau_scene.specs.declared.looks.kinds.EndLook.TheVariants as ends
use Rattle.tau_scene.specs.declared.looks.looks.Seen.{Seen}
use Rattle.tau_scene.specs.declared.looks.looks.Looks.{Looks}

-- the class of a state
abbrev pub state_class : StateLook → List ℕ
state_class states.Fallen = codes "fallen"
state_class states.Kept = codes "kept"
state_class states.Broken = codes "broken"
state_class states.Unkept = codes "unkept"
state_class states.Doomed = codes "doomed"
state_class states.Open = codes "open"

-- what its title says of it
abbrev pub state_words : StateLook → List ℕ
state_words states.Fallen = codes "rolled back"
state_words states.Kept = codes "saved, may be kept"
state_words states.Broken = codes "saved, not safe"
state_words states.Unkept = codes "saved, can't be kept"
state_words states.Doomed = codes "rests on a state that was rolled back"
state_words states.Open = codes "not saved"

-- the class of the tick of a Checkpoint, a Hold or a falling step; other steps have none
abbrev pub tick_class : MarkLook → Option (List ℕ)
tick_class marks.Kept = Some (codes "tau-ok")
tick_class marks.Unkept = Some (codes "tau-amber")
tick_class marks.Hold = Some (codes "tau-pause")
tick_class marks.Broken = Some (codes "tau-red")
tick_class marks.Fall = Some (codes "tau-red")
tick_class marks.Rollback = Some (codes "tau-red")
tick_class marks.Trap = Some (codes "tau-red")
tick_class marks.Fail = Some (codes "tau-red")
tick_class mark = None

-- the symbol of what may be kept, and the class of its text
abbrev pub end_symbol : EndLook → List ℕ
end_symbol ends.Kept = codes "kept"
end_symbol ends.First = codes "first"
end_symbol ends.None = codes "none"

abbrev pub end_class : EndLook → List ℕ
end_class ends.Kept = codes "good"
end_class ends.First = codes "row"
end_class ends.None = codes "minor"

-- the states that are seen of the lane with so many lanes before it
abbrev pub seen_at : Looks → ℕ → List Seen
seen_at looks rank = option_map_or (λ v. v.items) (slice_get looks.states.items rank) []
