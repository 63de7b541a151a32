-- A place at a seat of the step book may be handed to a thread.
use denote.Param.Send.{IsSend, IsSync, AllSend, sendable, struct_send, recorded_send, view_send}
use denote.Struct.Declared.{fields, shape}
use Rattle.std.proofs.Crossing.{crosses}
use Rattle.std.specs.contracts.option.Option as option
use Rattle.tau_verdicts.specs.contracts.marked.MarkedHearing as hearing
use Rattle.tau_verdicts.specs.contracts.change.MarkedChange as change
use Rattle.tau_verdicts.specs.contracts.knowing.MarkedHearingKnowledge.TheImpl as hearing_knowledge
use Rattle.tau_book.specs.contracts.book.Book as book
use Rattle.atomic_table.proofs.shared.Seat.TheSendSync as seat_crosses
use Rattle.tau_seat.proofs.table.SeatTable.TheSendSync as table_crosses
use Rattle.tau_seat.specs.contracts.bell.Bell as bell
use Rattle.tau_seat.specs.contracts.boxed_book.BoxedBook as boxed_book
use Rattle.tau_seat.specs.contracts.boxed_book.BoxedBook.TheInside as inside
use Rattle.tau_seat.specs.contracts.seat_book.SeatBook as seat_book
use Rattle.tau_seat.specs.contracts.place.SeatPlace as place
use Rattle.tau_workers.proofs.Sends.{trace_send, job_send, states_send, record_send, hearing_send, index_send, cursor_send, value_send, program_sync}

bell_sync : IsSync (bell.the_field).row
bell_sync = search (crosses, sendable) depth 60

-- whatever is known, and how it changes
boxed_send : (l : _) (K : _) (C : _) (g : _) → IsSend (book.the_row l K C g) → IsSend (boxed_book.the_row l K C g)
boxed_send l K C g s =
    let T = inside.the_type l K C g in
    let all : AllSend (fields T) = (search (crosses, sendable, s) depth 60, tt) in
    view_send (inside.the_row l K C g) _ _ _ _ (recorded_send _ T.D T.to T.to_one (struct_send (shape T) all))

seat_book_sync : (l : _) (K : _) (C : _) (g : _) → IsSend (boxed_book.the_row l K C g) → IsSync (seat_book.the_row l K C g)
seat_book_sync l K C g s = search (crosses, sendable, table_crosses.the_field_sync, s, bell_sync) depth 60

-- at what is heard
book_send : (l : _) → IsSend (book.the_row l hearing.the_row change.the_row hearing_knowledge.ghosts)
book_send l = search (crosses, sendable, trace_send, job_send, states_send, record_send, hearing_send, index_send, cursor_send, value_send, program_sync) depth 200 fits 100000

boxed_book_send : (l : _) → IsSend (boxed_book.the_row l hearing.the_row change.the_row hearing_knowledge.ghosts)
boxed_book_send l = boxed_send l hearing.the_row change.the_row hearing_knowledge.ghosts (book_send l)

-- what lies in the slot of the table
slot_send : (l : _) → IsSend (option.the_row (boxed_book.the_row l hearing.the_row change.the_row hearing_knowledge.ghosts))
slot_send l = search (crosses, sendable, boxed_book_send) depth 60

table_sync : (l : _) → IsSync (seat_book.the_row l hearing.the_row change.the_row hearing_knowledge.ghosts)
table_sync l = seat_book_sync l hearing.the_row change.the_row hearing_knowledge.ghosts (boxed_book_send l)

pub place_send : (l m : _) → IsSend (place.the_row l m hearing.the_row change.the_row hearing_knowledge.ghosts)
place_send l m = search (crosses, sendable, seat_crosses.the_send, table_sync, slot_send, program_sync) depth 60
