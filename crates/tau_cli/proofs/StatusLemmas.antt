-- The statuses that tell why nothing is written, and those of a text.
use Rattle.std.proofs.Common.{◌≡◌, ◌≢◌, inl, inr, ℕ, Option, Some, IfSome, Err, refl, ap, subst}
use Rattle.tau_tree.specs.declared.programs.Program.{Program}
use Rattle.tau_trace.specs.Run.{Run}
use Rattle.tau_journal.specs.Room.{IsFaultOrFailure}
use Rattle.tau_journal.specs.declared.errors.JournalError.{JournalError}
use Rattle.tau_journal.specs.declared.errors.JournalError.TheVariants as journals
use Rattle.tau_output.specs.declared.outputs.End.{End}
use Rattle.tau_output.specs.declared.outputs.End.TheVariants as ends
use Rattle.tau_output.specs.Runs.{EndsAs}
use Rattle.tau_cli.specs.declared.statuses.Status.{Status}
use Rattle.tau_cli.specs.declared.statuses.Status.TheVariants.{Input, ReadFault, NoMemory, Journal, DiskFault}
use Rattle.tau_cli.specs.Status.{of_end, of_journal_error, IsRefusal, IsResult, TellsOfDisk}
use Rattle.tau_cli.specs.Output.{IsUnlessUnread}
use Rattle.tau_cli.specs.Ends.{IsTextStatus, IsKeepRefusal, IsResumeRefusal, IsUnlessFailed}

-- what an option has
pub if_some_at : {X : Type 0} (o : Option X) (P : X → Type 0) (x : X) → o ≡ Some x → IfSome o P → P x
if_some_at o P x is told = subst (λ q. IfSome q P) is told

-- a status of a text is none of the others
pub another : (s t : Status) → IsTextStatus s → ¬ IsTextStatus t → s ≢ t
another s t is none same = none (subst IsTextStatus same is)

-- a run text ends with one of them
pub text_status : (limit : ℕ) (P : Program) (T : Run) (end : End) → EndsAs limit P T end → IsTextStatus (of_end end)
text_status limit P T ends.Done h = tt
text_status limit P T ends.Stopped h = tt
text_status limit P T (ends.Bad place) h = absurd h
text_status limit P T (ends.Broken checkpoint point fall) h = absurd h
text_status limit P T ends.Claimed h = absurd h

-- an end is no refusal, and stands for no failure
pub end_is_result : (end : End) → IsResult (of_end end)
end_is_result ends.Done = tt
end_is_result ends.Stopped = tt
end_is_result (ends.Bad place) = tt
end_is_result (ends.Broken checkpoint point fall) = tt
end_is_result ends.Claimed = tt

pub end_unrefused : (end : End) → ¬ IsRefusal (of_end end)
end_unrefused ends.Done h = absurd h
end_unrefused ends.Stopped h = absurd h
end_unrefused (ends.Bad place) h = absurd h
end_unrefused (ends.Broken checkpoint point fall) h = absurd h
end_unrefused ends.Claimed h = absurd h

pub end_no_disk : (end : End) → ¬ TellsOfDisk (of_end end)
end_no_disk ends.Done h = absurd h
end_no_disk ends.Stopped h = absurd h
end_no_disk (ends.Bad place) h = absurd h
end_no_disk (ends.Broken checkpoint point fall) h = absurd h
end_no_disk ends.Claimed h = absurd h

pub end_is_not : (end : End) (t : Status) → ¬ IsResult t → of_end end ≢ t
end_is_not end t none same = none (subst IsResult same (end_is_result end))

pub never_unread : (end : End) (fault at : ℕ) → ¬ IsUnlessUnread (of_end end) (Input fault at)
never_unread end fault at (inl e) = end_is_not end (Input fault at) (λ x. x) e
never_unread end fault at (inr (inl e)) = end_is_not end ReadFault (λ x. x) e
never_unread end fault at (inr (inr e)) = end_is_not end NoMemory (λ x. x) e

pub never_failed : (end : End) (fault at : ℕ) → ¬ IsUnlessFailed (of_end end) (Journal fault at)
never_failed end fault at (inl e) = end_is_not end (Journal fault at) (λ x. x) e
never_failed end fault at (inr (inl e)) = end_is_not end DiskFault (λ x. x) e
never_failed end fault at (inr (inr e)) = end_is_not end NoMemory (λ x. x) e

-- the status for an error of a journal
pub journal_refuses : (e : JournalError) → IsResumeRefusal (of_journal_error e)
journal_refuses (journals.Fault fault at) = tt
journal_refuses journals.DiskFault = tt
journal_refuses journals.NoMemory = tt

pub resume_keeps : (s : Status) → IsResumeRefusal s → IsKeepRefusal s
resume_keeps NoMemory h = tt
resume_keeps (Journal fault at) h = tt
resume_keeps DiskFault h = tt
resume_keeps s h = absurd h

pub failure_told : {X : Type 0} (e : JournalError) (fault at : ℕ) → IsFaultOrFailure {X = X} fault at (Err e) → IsUnlessFailed (of_journal_error e) (Journal fault at)
failure_told {X = X} e fault at (inl h) = let same : e ≡ journals.Fault fault at = cc in inl (ap of_journal_error same)
failure_told {X = X} e fault at (inr (inl h)) = let same : e ≡ journals.DiskFault = cc in inr (inl (ap of_journal_error same))
failure_told {X = X} e fault at (inr (inr h)) = let same : e ≡ journals.NoMemory = cc in inr (inr (ap of_journal_error same))

-- and the error for the status
pub fault_of_status : (e : JournalError) (fault at : ℕ) → of_journal_error e ≡ Journal fault at → e ≡ journals.Fault fault at
fault_of_status (journals.Fault f a) fault at h = cc
fault_of_status journals.DiskFault fault at h = absurd (cc)
fault_of_status journals.NoMemory fault at h = absurd (cc)

pub failure_of_status : (e : JournalError) → of_journal_error e ≡ DiskFault → e ≡ journals.DiskFault
failure_of_status (journals.Fault f a) h = absurd (cc)
failure_of_status journals.DiskFault h = refl
failure_of_status journals.NoMemory h = absurd (cc)

pub journal_never : (e : JournalError) (t : Status) → ¬ IsResumeRefusal t → of_journal_error e ≢ t
journal_never e t none same = none (subst IsResumeRefusal same (journal_refuses e))
