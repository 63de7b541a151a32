-- What `keep` and `resume` do, by what was made and what was written; and what a call does for words.
use Rattle.std.proofs.Common.{◌≡◌, ◌⊎◌, inl, inr, ℕ, List, Option, Some, None, IfOk, Result, Ok, Err, refl, sym, subst}
use Rattle.std.specs.Io.KnownBytes.{Appends}
use Rattle.tau_io.specs.Put.{AppendsFront}
use Rattle.tau_command.specs.declared.commands.Command.{Command}
use Rattle.tau_command.specs.declared.commands.Command.TheVariants.{Keep, Resume, Text}
use Rattle.tau_command.specs.declared.commands.WordsError.{WordsError}
use Rattle.tau_command.specs.declared.commands.WordsError.TheVariants as errors
use Rattle.tau_command.specs.Commands.{command_of}
use Rattle.tau_output.specs.declared.outputs.End.{End}
use Rattle.tau_output.specs.declared.outputs.Output.{Output}
use Rattle.tau_cli.specs.declared.statuses.Status.{Status}
use Rattle.tau_cli.specs.declared.statuses.Status.TheVariants.{Words, Input, ReadFault, WriteFault, NoMemory, Journal, DiskFault}
use Rattle.tau_cli.specs.Status.{of_end, of_words_error, IsResult}
use Rattle.tau_cli.specs.Output.{Writing}
use Rattle.tau_cli.specs.Effects.{Effect, DiskEffect, IsUnwritten}
use Rattle.tau_cli.specs.Texts.{IsKeptText, IsResumedText, WritesText}
use Rattle.tau_cli.specs.Ends.{IsTextStatus, IsKeepRefusal, IsUnlessFailed, KeepRefusals, ResumeRefusals, KeepEnds, ResumeEnds, EndsBy, Ends}
use Rattle.tau_cli.specs.Inner.{Keeps, Resumes, Finishes}
use Rattle.tau_cli.proofs.StatusLemmas.{text_status, end_unrefused, end_is_not, never_unread, never_failed, resume_keeps}
use Rattle.tau_cli.proofs.TextLemmas.{text_stopped}
use Rattle.tau_cli.proofs.KeepLemmas as keeping
use Rattle.tau_cli.proofs.ResumeLemmas as resuming

-- a status that comes before anything is written is no other
unfinished : (s : Status) → IsKeepRefusal s → ¬ IsResult s
unfinished (Input fault at) h r = r
unfinished ReadFault h r = r
unfinished NoMemory h r = r
unfinished (Journal fault at) h r = r
unfinished DiskFault h r = r
unfinished s h r = absurd h

no_write : (s : Status) → IsKeepRefusal s → s ≡ WriteFault → ⊥
no_write s h e = subst IsKeepRefusal e h

module _ (IsText : End → List ℕ → Type 0) (sink : Effect) where
  pub writes_nothing : (s : Status) → IsKeepRefusal s → sink.Stayed → WritesText IsText sink s
  writes_nothing s is stayed = record {
    unwritten = λ r. stayed;
    written = λ r. absurd (unfinished s is r);
    write_fault = λ e. absurd (no_write s is e);
    front = λ e. absurd (no_write s is e);
    no_memory = λ e. inl stayed;
  }

  module _ (o : Output) (text : IsText o.end o.text.items) where
    whole : Appends sink.before sink.after o.text.items → WritesText IsText sink (of_end o.end)
    whole appended = record {
      unwritten = λ r. absurd (end_unrefused o.end r);
      written = λ r. (o.end, o.text.items, refl, text, appended);
      write_fault = λ e. absurd (end_is_not o.end WriteFault (λ x. x) e);
      front = λ e. absurd (end_is_not o.end WriteFault (λ x. x) e);
      no_memory = λ e. absurd (end_is_not o.end NoMemory (λ x. x) e);
    }

    failed : sink.Failed → AppendsFront sink.before sink.after o.text.items → WritesText IsText sink WriteFault
    failed fails front_is = record {
      unwritten = λ r. absurd r;
      written = λ r. absurd r;
      write_fault = λ e. fails;
      front = λ e. (o.end, o.text.items, text, front_is);
      no_memory = λ e. absurd (cc);
    }

    short : AppendsFront sink.before sink.after o.text.items → WritesText IsText sink NoMemory
    short front_is = record {
      unwritten = λ r. absurd r;
      written = λ r. absurd r;
      write_fault = λ e. absurd (cc);
      front = λ e. absurd (cc);
      no_memory = λ e. inr (o.end, o.text.items, text, front_is);
    }

    -- what holds of the status with which it ends that is written whole holds of each with which it may end
    pub told : (C : Status → Type 0) → C (of_end o.end) → C WriteFault → C NoMemory → (status : Status) → Finishes (Ok o) sink status → C status × WritesText IsText sink status
    told C done fault memory status (inl t) = subst (λ s. C s × WritesText IsText sink s) (sym t.0) (done, whole t.1)
    told C done fault memory status (inr (inl t)) = subst (λ s. C s × WritesText IsText sink s) (sym t.0) (fault, failed t.1 t.2)
    told C done fault memory status (inr (inr t)) = subst (λ s. C s × WritesText IsText sink s) (sym t.0) (memory, short t.1)

-- ---- keep

module _ (jobs seed steps : ℕ) (source sink : Effect) (disk : DiskEffect) where
  abbrev Refuses : Status → Type 0
  Refuses s = KeepRefusals jobs seed steps source disk s

  keep_failed : (o : Output) → Refuses (of_end o.end) → Refuses WriteFault
  keep_failed o refuses = keeping.quiet jobs seed steps source disk WriteFault tt
      (λ bytes fault at told h. absurd (never_unread o.end fault at (refuses.faulty bytes fault at told h)))
      (λ bytes file P fault at told few is before h. absurd (never fault at (refuses.unkept bytes file P fault at told few is before h))) where
        never : (fault at : ℕ) → ¬ ((of_end o.end ≡ ReadFault) ⊎ IsUnlessFailed (of_end o.end) (Journal fault at))
        never fault at (inl e) = end_is_not o.end ReadFault (λ x. x) e
        never fault at (inr e) = never_failed o.end fault at e

  pub keep_finished : (made : Result Output Status) (status : Status) → Keeps jobs seed steps source disk made → Finishes made sink status → KeepEnds jobs seed steps source sink disk status
  keep_finished (Ok o) status k t =
      let runs = k.text.runs.runs in
      let both = told (IsKeptText jobs seed steps source.before disk) sink o k.text (λ s. IsTextStatus s × Refuses s)
      (text_status steps runs.program runs.run o.end runs.ends, k.refusals) (tt, keep_failed o k.refusals) (tt, keeping.no_memory jobs seed steps source disk) status t in
      record { is_status = inr both.0.0; refusals = both.0.1; any_moment = k.any_moment; held = k.held; text = both.1 }
  keep_finished (Err s) status k t =
      subst (KeepEnds jobs seed steps source sink disk) (sym t.0) (record {
        is_status = inl k.is_status;
        refusals = k.refusals;
        any_moment = k.any_moment;
        held = k.held;
        text = writes_nothing (IsKeptText jobs seed steps source.before disk) sink s k.is_status t.1;
      })

-- ---- resume

module _ (jobs seed steps : ℕ) (sink : Effect) (disk : DiskEffect) where
  resume_failed : (o : Output) → ResumeRefusals jobs seed steps disk (of_end o.end) → ResumeRefusals jobs seed steps disk WriteFault
  resume_failed o refuses = resuming.quiet disk jobs seed steps WriteFault tt
      (λ file fault at told h. absurd (never_failed o.end fault at (refuses.faulty file fault at told h)))
      (λ file fault at told few h. absurd (never_failed o.end fault at (refuses.unrevived file fault at told few h)))

  pub resume_finished : (made : Result Output Status) (status : Status) → Resumes jobs seed steps disk made → Finishes made sink status → ResumeEnds jobs seed steps sink disk status
  resume_finished (Ok o) status k t =
      let runs = k.text.runs in
      let both = told (IsResumedText jobs seed steps disk) sink o k.text (λ s. IsTextStatus s × ResumeRefusals jobs seed steps disk s)
      (text_status _ runs.program runs.run o.end runs.ends, k.refusals) (tt, resume_failed o k.refusals) (tt, resuming.no_memory disk jobs seed steps) status t in
      record { is_status = inr both.0.0; refusals = both.0.1; stays = k.stays; any_moment = k.any_moment; text = both.1 }
  resume_finished (Err s) status k t =
      subst (ResumeEnds jobs seed steps sink disk) (sym t.0) (record {
        is_status = inl k.is_status;
        refusals = k.refusals;
        stays = k.stays;
        any_moment = k.any_moment;
        text = writes_nothing (IsResumedText jobs seed steps disk) sink s (resume_keeps s k.is_status) t.1;
      })

-- ---- all commands

-- what a call does for words, by the command that they name
pub by_command : (W : Writing) (line : List (List ℕ)) (source sink : Effect) (disk : DiskEffect) (status : Status) (command : Option Command) → command_of line ≡ command → EndsBy W command source sink disk status
    → Ends W line source sink disk status
by_command W line source sink disk status command is ends = subst (λ c. EndsBy W c source sink disk status) (sym is) ends

-- nothing was begun: the words name no command, or memory ran out
module _ (W : Writing) (source sink : Effect) (disk : DiskEffect) (unread : source.Stayed) (unwritten : sink.Stayed) (untouched : disk.Stayed)
    (left : keeping.LeavesKept 0 0 0 source disk) (held : keeping.HeldStays 0 0 0 source disk) (nothing : IsUnwritten disk) (left_resumed : resuming.LeavesResumed disk) where
  no_memory : (command : Option Command) → EndsBy W command source sink disk NoMemory
  no_memory None = (inr refl, unread, unwritten, untouched)
  no_memory (Some (Text command)) = (text_stopped W command source sink unread unwritten, untouched)
  no_memory (Some (Keep jobs seed steps)) = record {
    is_status = inr tt;
    refusals = keeping.no_memory jobs seed steps source disk;
    any_moment = left;
    held = held;
    text = writes_nothing (IsKeptText jobs seed steps source.before disk) sink NoMemory tt unwritten;
  }
  no_memory (Some (Resume jobs seed steps)) = (
    unread,
    record {
      is_status = inr tt;
      refusals = resuming.no_memory disk jobs seed steps;
      stays = record { faulty = λ file fault at told h. nothing; unrevived = λ file fault at told few h. nothing; complete = λ file P T told stands legal whole. nothing };
      any_moment = left_resumed;
      text = writes_nothing (IsResumedText jobs seed steps disk) sink NoMemory tt unwritten;
    },
  )

  ended : (line : List (List ℕ)) (error : WordsError) → (error ≡ errors.Words → command_of line ≡ None) → Ends W line source sink disk (of_words_error error)
  ended line errors.Words none = by_command W line source sink disk Words None (none refl) (inl refl, unread, unwritten, untouched)
  ended line errors.NoMemory none = no_memory (command_of line)

  pub none_begun : (line : List (List ℕ)) (error : WordsError) (status : Status) → status ≡ of_words_error error → (error ≡ errors.Words → command_of line ≡ None) → Ends W line source sink disk status
  none_begun line error status is none = subst (Ends W line source sink disk) (sym is) (ended line error none)

-- what an answer has that is told
pub named_by : (line : List (List ℕ)) (E : Type 0) (command : Command) (r : Result Command E) → r ≡ Ok command → IfOk r (λ c. command_of line ≡ Some c) → command_of line ≡ Some command
named_by line E command r is told = subst (λ q. IfOk q (λ c. command_of line ≡ Some c)) is told
