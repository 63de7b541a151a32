-- The looks of the marks and rows of steps, by their kinds (docs/formats.md, "Pictures").
use Rattle.std.specs.Prelude.{Bool, if◌then◌else◌}
use Rattle.tau_trace.specs.declared.step.Step.{Step}
use Rattle.tau_trace.specs.declared.step.Step.TheVariants.{Take, Drop, Fall, Void, Get, Set, Skip, Send, New, Stabilize, Ask, Checkpoint, Hold, Rollback, Stay, Done, Trap, Fail, Lose, Echo, Heed, Repeat}
use Rattle.tau_scene.specs.declared.looks.kinds.MarkLook.{MarkLook}
use Rattle.tau_scene.specs.declared.looks.kinds.MarkLook.TheVariants as marks
use Rattle.tau_scene.specs.declared.looks.kinds.RowLook.{RowLook}
use Rattle.tau_scene.specs.declared.looks.kinds.RowLook.TheVariants as rows

-- a Trap or a Fail that is no falling step has a mark of its own
abbrev pub trap_mark : Bool → MarkLook
trap_mark falls = if falls then marks.Trap else marks.TrapStable

abbrev pub fail_mark : Bool → MarkLook
fail_mark falls = if falls then marks.Fail else marks.FailStable

-- the look of the mark of a step: its kind, but an Echo has that of a Void, a Heed that of a Take, and a Repeat that of a Send; a
-- Checkpoint has the one that is given
abbrev pub mark_look : Step → Bool → MarkLook → MarkLook
mark_look (Take t m) falls saved = marks.Take
mark_look (Drop t m) falls saved = marks.Drop
mark_look (Fall t m) falls saved = marks.Fall
mark_look (Void t m) falls saved = marks.Void
mark_look (Get t) falls saved = marks.Get
mark_look (Set t v) falls saved = marks.Set
mark_look (Skip t) falls saved = marks.Skip
mark_look (Send t u v) falls saved = marks.Send
mark_look (New t b n v) falls saved = marks.New
mark_look (Stabilize t) falls saved = marks.Stabilize
mark_look (Ask t a) falls saved = marks.Ask
mark_look (Checkpoint t) falls saved = saved
mark_look (Hold t) falls saved = marks.Hold
mark_look (Rollback t) falls saved = marks.Rollback
mark_look (Stay t) falls saved = marks.Stay
mark_look (Done t) falls saved = marks.Done
mark_look (Trap t c) falls saved = trap_mark falls
mark_look (Fail t) falls saved = fail_mark falls
mark_look (Lose m) falls saved = marks.Lose
mark_look (Echo t m) falls saved = marks.Void
mark_look (Heed t m) falls saved = marks.Take
mark_look (Repeat m) falls saved = marks.Send

-- the look of the row of a Checkpoint with this mark
abbrev pub saved_row : MarkLook → RowLook
saved_row marks.Kept = rows.Good
saved_row marks.Unkept = rows.Warn
saved_row mark = rows.Bad

-- the row of a Trap or a Fail, of a Set, and of a Take, a Send, a New or a Stabilize
abbrev pub failing_row : Bool → RowLook
failing_row falls = if falls then rows.Bad else rows.Minor

abbrev pub set_row : Bool → RowLook
set_row undone = if undone then rows.Gone else rows.Row

abbrev pub plain_row : Bool → RowLook
plain_row undone = if undone then rows.Minor else rows.Row

-- the look of the row of a step, by its mark, whether it falls, and whether it is undone
abbrev pub row_look : Step → MarkLook → Bool → Bool → RowLook
row_look (Checkpoint t) mark falls undone = saved_row mark
row_look (Hold t) mark falls undone = rows.Warn
row_look (Drop t m) mark falls undone = rows.Bad
row_look (Void t m) mark falls undone = rows.Bad
row_look (Lose m) mark falls undone = rows.Bad
row_look (Fall t m) mark falls undone = rows.Bad
row_look (Rollback t) mark falls undone = rows.Bad
row_look (Trap t c) mark falls undone = failing_row falls
row_look (Fail t) mark falls undone = failing_row falls
row_look (Set t v) mark falls undone = set_row undone
row_look (Take t m) mark falls undone = plain_row undone
row_look (Send t u v) mark falls undone = plain_row undone
row_look (New t b n v) mark falls undone = plain_row undone
row_look (Stabilize t) mark falls undone = plain_row undone
row_look (Done t) mark falls undone = rows.Minor
row_look (Get t) mark falls undone = rows.Minor
row_look (Ask t a) mark falls undone = rows.Minor
row_look (Skip t) mark falls undone = rows.Minor
row_look (Stay t) mark falls undone = rows.Minor
row_look (Echo t m) mark falls undone = rows.Minor
row_look (Heed t m) mark falls undone = rows.Minor
row_look (Repeat m) mark falls undone = rows.Minor
