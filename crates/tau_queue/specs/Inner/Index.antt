-- What the index of messages and open turns becomes.
use Rattle.std.specs.Prelude.{◌≡◌, ◌<◌, ℕ, List, [], ◌∷◌, ◌++◌, Option, Some, None, filter}
use Rattle.tau_mailbox.specs.declared.letter.Letter.{Letter}
use Rattle.tau_mailbox.specs.Letters.{is_other}
use Rattle.tau_mailbox.specs.MailState.{is_not}
use Rattle.tau_trace.specs.Run.{Run, len}
use Rattle.tau_trace.specs.Numbering.{born, sent, HasSender, IsHome}
use Rattle.tau_trace.specs.Histories.{Ended}
use Rattle.tau_eval.specs.declared.effects.Effect.{Effect}
use Rattle.tau_eval.specs.declared.effects.Effect.TheVariants.{Send}
use Rattle.tau_rules.specs.declared.answers.Delivered.{Delivered}
use Rattle.tau_rules.specs.declared.answers.Delivered.TheVariants.{Began, Dropped, Fell, Voided, Echoed, Heeded}
use Rattle.tau_rules.specs.declared.answers.Acted.{Acted}
use Rattle.tau_rules.specs.declared.answers.Acted.TheVariants.{Reply, TurnOver, Redo}
use Rattle.tau_queue.specs.declared.index.Index.{Index}
use Rattle.tau_queue.specs.ScriptedRun.{IsIndexed}

-- the same nodes, letters, receivers in a turn, and open turns
pub record IsSame (old new : Index) : Type 0 where
  pub nodes : new.mailboxes.nodes ≡ old.mailboxes.nodes
  pub letters : new.mailboxes.letters ≡ old.mailboxes.letters
  pub busy : new.mailboxes.busy ≡ old.mailboxes.busy
  pub turns : new.turns.items ≡ old.turns.items

-- the index is that of the run
abbrev pub IsIndexOf : Run → Index → Type 0
IsIndexOf T index = IsIndexed T index.mailboxes.nodes index.mailboxes.letters index.mailboxes.busy index.turns.items

-- the receiver of the message that an effect sends
abbrev pub receiver_of : Effect → Option ℕ
receiver_of (Send to v) = Some to
receiver_of e = None

-- n is the node of the receiver of the message that an effect sends, where there is such a transactor
abbrev pub IsNodeOf : Run → Effect → ℕ → Type 0
IsNodeOf T e n = (u : ℕ) → receiver_of e ≡ Some u → u < born T (len T) → IsHome T u n

-- the letters with one for this receiver, at the node n
abbrev pub with_letter : ℕ → ℕ → List Letter → Option ℕ → List Letter
with_letter m n ls None = ls
with_letter m n ls (Some u) = ls ++ record { message = m; who = u; node = n } ∷ []

-- the letter of the notice that an Echo of message m by its receiver t makes; None where t hasn't ended or m has no sender
abbrev pub IsNoticeLetter : Run → ℕ → ℕ → Option Letter → Type 0
IsNoticeLetter T t m None = Ended T t (len T) → (u : ℕ) → ¬ HasSender T m u
IsNoticeLetter T t m (Some l) = (l.message ≡ sent T (len T)) × HasSender T m l.who × IsHome T l.who l.node

-- the letters with that of a notice, if there is one
abbrev pub with_notice : List Letter → Option Letter → List Letter
with_notice ls None = ls
with_notice ls (Some l) = ls ++ l ∷ []

-- the letters, the receivers in a turn and the open turns after a receipt: each but a Fall takes the message out of flight, a
-- Take opens a turn, and an Echo makes a notice
abbrev pub letters_received : ℕ → Option Letter → List Letter → Delivered → List Letter
letters_received m notice ls (Began job) = filter (is_other m) ls
letters_received m notice ls Dropped = filter (is_other m) ls
letters_received m notice ls Fell = ls
letters_received m notice ls Voided = filter (is_other m) ls
letters_received m notice ls Echoed = with_notice (filter (is_other m) ls) notice
letters_received m notice ls Heeded = filter (is_other m) ls

abbrev pub busy_received : ℕ → List ℕ → Delivered → List ℕ
busy_received t busy (Began job) = busy ++ t ∷ []
busy_received t busy d = busy

abbrev pub turns_received : ℕ → List ℕ → Delivered → List ℕ
turns_received place turns (Began job) = turns ++ place ∷ []
turns_received place turns d = turns

-- the receivers in a turn and the open turns after the turn of t from a place has ended, if one was open
abbrev pub busy_ended : ℕ → List ℕ → Option ℕ → List ℕ
busy_ended t busy None = busy
busy_ended t busy (Some place) = filter (is_not t) busy

abbrev pub turns_ended : List ℕ → Option ℕ → List ℕ
turns_ended turns None = turns
turns_ended turns (Some place) = filter (is_not place) turns

-- the letters, the receivers in a turn and the open turns after the step of an effect of t's turn from a place
abbrev pub letters_acted : ℕ → ℕ → List Letter → Effect → Acted → List Letter
letters_acted m n ls e (Reply r) = with_letter m n ls (receiver_of e)
letters_acted m n ls e TurnOver = ls
letters_acted m n ls e (Redo job) = ls

abbrev pub busy_acted : ℕ → List ℕ → Acted → List ℕ
busy_acted t busy (Reply r) = busy
busy_acted t busy TurnOver = filter (is_not t) busy
busy_acted t busy (Redo job) = busy

abbrev pub turns_acted : ℕ → List ℕ → Acted → List ℕ
turns_acted place turns (Reply r) = turns
turns_acted place turns TurnOver = filter (is_not place) turns
turns_acted place turns (Redo job) = turns
