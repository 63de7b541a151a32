-- What a command with one text does, by what it was found to write and what was written.
use Rattle.std.proofs.Common.{◌≡◌, ◌⊎◌, inl, inr, ℕ, List, Some, false, Result, Ok, Err, IfOk, IfErr, IsTrue, refl, sym, ap, subst}
use Rattle.std.specs.Io.KnownBytes.{Appends}
use Rattle.std.specs.Result.{IsErrAnd}
use Rattle.tau_io.specs.Put.{AppendsFront}
use Rattle.tau_io.specs.declared.reading.ReadError.{ReadError}
use Rattle.tau_io.specs.declared.reading.ReadError.TheVariants as reads
use Rattle.tau_text.specs.FaultNumbers.{fault_number}
use Rattle.tau_text.specs.declared.faults.InputFault.TheVariants as faults
use Rattle.tau_command.specs.declared.commands.TextCommand.{TextCommand}
use Rattle.tau_command.specs.declared.commands.TextCommand.TheVariants.{Run, Check, Audit, Report, Print, Gen, Drill, Migrate, Why, Cut, Draw, Storm}
use Rattle.tau_output.specs.declared.outputs.End.{End}
use Rattle.tau_output.specs.declared.outputs.Output.{Output}
use Rattle.tau_output.specs.declared.refusals.Refusal.{Refusal}
use Rattle.tau_output.specs.declared.refusals.Refusal.TheVariants as refusals
use Rattle.tau_output.specs.Faults.{input_limit, reads_input, IsInputFault, too_long, within}
use Rattle.tau_output.specs.declared.refusals.Wanted.{Wanted}
use Rattle.tau_output.specs.declared.refusals.Wanted.TheVariants as wants
use Rattle.tau_output.specs.Refusals.{TellsFault, TellsLacking}
use Rattle.tau_output.specs.Asking.{AsksInVain}
use Rattle.tau_cli.specs.declared.statuses.Status.{Status}
use Rattle.tau_cli.specs.declared.statuses.Status.TheVariants.{Words, Input, ReadFault, WriteFault, NoMemory}
use Rattle.tau_cli.specs.Status.{of_end, of_read_error, of_refusal, of_wanted}
use Rattle.tau_cli.specs.Output.{Writing, AreLeft, IsEndOf, IsTooLong, Stops, IsUnlessUnread}
use Rattle.tau_cli.specs.Effects.{Effect}
use Rattle.tau_cli.specs.Ends.{TextEnds}
use Rattle.tau_cli.specs.Inner.{Makes, Finishes}
use Rattle.tau_cli.proofs.StatusLemmas.{end_is_not, end_no_disk, end_unrefused}
use Rattle.tau_cli.proofs.OutputLemmas.{Refuses, asked_reads, left_told, never_told, not_too_long, wanted_told, wanted_other, wanted_no_result, stops_lacking, stops_without_fault, stops_no_disk, stops_no_result}

-- a command whose input has a fault reads it
faulty_reads : (command : TextCommand) (bytes : List ℕ) (fault at : ℕ) → IsInputFault command bytes fault at → IsTrue (reads_input command)
faulty_reads command bytes fault at (too_long reads l f a) = reads
faulty_reads (Run workers jobs seed steps) bytes fault at (within l h) = refl
faulty_reads Check bytes fault at (within l h) = refl
faulty_reads Audit bytes fault at (within l h) = refl
faulty_reads Report bytes fault at (within l h) = refl
faulty_reads Print bytes fault at (within l h) = refl
faulty_reads (Gen number) bytes fault at (within l h) = absurd h
faulty_reads (Drill number) bytes fault at (within l h) = absurd h
faulty_reads Migrate bytes fault at (within l h) = refl
faulty_reads (Why place) bytes fault at (within l h) = refl
faulty_reads Cut bytes fault at (within l h) = refl
faulty_reads (Draw from to ask) bytes fault at (within l h) = refl
faulty_reads (Storm workers numbers question) bytes fault at (within l h) = refl

-- that a call refuses with this fault, or wants memory
abbrev pub TellsOf : Result Output Refusal → ℕ → ℕ → Type 0
TellsOf r fault at = (r ≡ Err (refusals.Fault fault at)) ⊎ (r ≡ Err refusals.NoMemory)

fault_told : (e : Refusal) (fault at : ℕ) → TellsOf (Err e) fault at → IsUnlessUnread (of_refusal e) (Input fault at)
fault_told e fault at (inl h) = let same : e ≡ refusals.Fault fault at = cc in inl (ap of_refusal same)
fault_told e fault at (inr h) = let same : e ≡ refusals.NoMemory = cc in inr (inr (ap of_refusal same))

never_faulty : (o : Output) (fault at : ℕ) → TellsOf (Ok o) fault at → ⊥
never_faulty o fault at (inl h) = cc
never_faulty o fault at (inr h) = cc

-- what a command was found to write for the bytes of its input, or why it writes nothing
pub record Finds (W : Writing) (command : TextCommand) (bytes : List ℕ) (r : Result Output Refusal) : Type 0 where
  pub output : IfOk r (λ o. W command bytes o.end o.text.items)
  pub fault : IfErr r (TellsFault (IsInputFault command bytes))
  pub faulty : (fault at : ℕ) → IsInputFault command bytes fault at → TellsOf r fault at
  pub lacking : IfErr r (TellsLacking (AsksInVain command bytes))
  pub in_vain : (wanted : Wanted) → AsksInVain command bytes wanted → Refuses r wanted

module _ (W : Writing) (command : TextCommand) (source : Effect) where
  -- a status with which an input that has a fault is told, and one that lacks what is wanted
  abbrev TellsFaulty : Status → Type 0
  TellsFaulty s = (bytes : List ℕ) (fault at : ℕ) → source.before ≡ Some bytes → IsInputFault command bytes fault at → IsUnlessUnread s (Input fault at)

  abbrev TellsUnasked : Status → Type 0
  TellsUnasked s = (bytes : List ℕ) (wanted : Wanted) → source.before ≡ Some bytes → AsksInVain command bytes wanted → IsUnlessUnread s (of_wanted wanted)

  -- there is no text
  no_text : (made : Result Output Status) (s : Status) → IsErrAnd made (λ x. x ≡ s) → (reads_input command ≡ false → source.Stayed) → Stops command source.before source.Failed s → TellsFaulty s → TellsUnasked s
      → Makes W command source made
  no_text (Ok o) s h stayed is faulty unasked = absurd h
  no_text (Err x) s h stayed is faulty unasked =
      subst (λ y. Makes W command source (Err y)) (sym h) (record { output = tt; stops = is; untouched = stayed; faulty = faulty; unasked = unasked })

  -- since too many bytes were left, or a read failed
  pub unread : (made : Result Output Status) (e : ReadError) → IsErrAnd made (λ x. x ≡ of_read_error e) → IsTrue (reads_input command) → (reads_input command ≡ false → source.Stayed)
      → (e ≡ reads.ReadFault → source.Failed) → (e ≡ reads.TooLong → IsTooLong source.before) → Makes W command source made
  unread made reads.ReadFault h reading stayed failed long =
      no_text made ReadFault h stayed (reading, failed refl) (λ bytes fault at told is. inr (inl refl)) (λ bytes wanted told is. inr (inl refl))
  unread made reads.TooLong h reading stayed failed long =
      let left = long refl in
      no_text made (Input (fault_number faults.TooLong) input_limit) h stayed (record { bytes = left.bytes; are_left = left.are_left; has_fault = too_long reading left.many refl refl })
      told (λ bytes wanted is asks. absurd (not_too_long source.before bytes is asks.few left)) where
        told : TellsFaulty (Input (fault_number faults.TooLong) input_limit)
        told bytes fault at is (too_long reads many number place) = let same : Input (fault_number faults.TooLong) input_limit ≡ Input fault at = cc in inl same
        told bytes fault at is (within few h) = absurd (not_too_long source.before bytes is few (long refl))
  unread made reads.NoMemory h reading stayed failed long =
      no_text made NoMemory h stayed tt (λ bytes fault at told is. inr (inr refl)) (λ bytes wanted told is. inr (inr refl))

  -- the bytes that were read
  module _ (bytes : List ℕ) (left : IsTrue (reads_input command) → AreLeft source.before bytes) (stayed : reads_input command ≡ false → source.Stayed) where
    fault_read : (other : List ℕ) (fault at : ℕ) → source.before ≡ Some other → IsInputFault command other fault at → IsInputFault command bytes fault at
    fault_read other fault at told h =
        subst (λ b. IsInputFault command b fault at) (sym (left_told source.before bytes other (left (faulty_reads command other fault at h)) told)) h

    unasked_read : (other : List ℕ) (wanted : Wanted) → source.before ≡ Some other → AsksInVain command other wanted → AsksInVain command bytes wanted
    unasked_read other wanted told h =
        subst (λ b. AsksInVain command b wanted) (sym (left_told source.before bytes other (left (asked_reads command wanted h.wants)) told)) h

    -- for which there is a text
    pub makes : (o : Output) → Finds W command bytes (Ok o) → Makes W command source (Ok o)
    makes o f = record {
      output = record { bytes = bytes; are_left = left; end = o.end; writes = f.output; is_status = refl };
      stops = tt;
      untouched = stayed;
      faulty = λ other fault at told h. never_faulty o fault at (f.faulty fault at (fault_read other fault at told h));
      unasked = λ other wanted told h. never_told o wanted (f.in_vain wanted (unasked_read other wanted told h));
    }

    -- or none
    refusal_stops : (e : Refusal) → TellsFault (IsInputFault command bytes) e → TellsLacking (AsksInVain command bytes) e → Stops command source.before source.Failed (of_refusal e)
    refusal_stops (refusals.Fault fault at) h n = record { bytes = bytes; are_left = left (faulty_reads command bytes fault at h); has_fault = h }
    refusal_stops (refusals.Lacking (wants.Step place)) h n = record { bytes = bytes; are_left = left (asked_reads command (wants.Step place) n.wants); in_vain = n }
    refusal_stops (refusals.Lacking wants.Behaviour) h n = record { bytes = bytes; are_left = left (asked_reads command wants.Behaviour n.wants); in_vain = n }
    refusal_stops (refusals.Lacking wants.Outcome) h n = record { bytes = bytes; are_left = left (asked_reads command wants.Outcome n.wants); in_vain = n }
    refusal_stops refusals.NoMemory h n = tt

    pub refuses : (made : Result Output Status) (e : Refusal) → IsErrAnd made (λ x. x ≡ of_refusal e) → Finds W command bytes (Err e) → Makes W command source made
    refuses made e h f =
        no_text made (of_refusal e) h stayed (refusal_stops e f.fault f.lacking)
        (λ other fault at told is. fault_told e fault at (f.faulty fault at (fault_read other fault at told is)))
        (λ other wanted told is. wanted_told e (of_refusal e) wanted refl (f.in_vain wanted (unasked_read other wanted told is)))

  -- what was made is written, or nothing is
  module _ (sink : Effect) where
    stopped : (s : Status) → Makes W command source (Err s) → sink.Stayed → TextEnds W command source sink s
    stopped s m unwritten =
        let is_stop : (t : Status) → s ≡ t → Stops command source.before source.Failed t = λ t e. subst (Stops command source.before source.Failed) e m.stops in
        record {
          words = λ e. is_stop Words e;
          no_disk = stops_no_disk s command source.before source.Failed m.stops;
          read_fault = λ e. (is_stop ReadFault e).1;
          untouched = λ r. (m.untouched r, λ e. let reading = (is_stop ReadFault e).0 in cc);
          input = λ fault at e. is_stop (Input fault at) e;
          faulty = m.faulty;
          lacking = λ wanted e. stops_lacking s command source.before source.Failed wanted m.stops e;
          unasked = m.unasked;
          unwritten = λ r. unwritten;
          written = λ r. absurd (stops_no_result s command source.before source.Failed m.stops r);
          write_fault = λ e. absurd (is_stop WriteFault e);
          front = λ e. absurd (is_stop WriteFault e);
          no_memory = λ e. inl unwritten;
          complete = λ bytes l f r w. stops_without_fault s command source.before source.Failed bytes m.stops l f r;
        }

    module _ (o : Output) (m : Makes W command source (Ok o)) where
      whole : IsEndOf command (of_end o.end) → Appends sink.before sink.after o.text.items → TextEnds W command source sink (of_end o.end)
      whole ends appended = record {
        words = λ e. end_is_not o.end Words (λ x. x) e;
        no_disk = end_no_disk o.end;
        read_fault = λ e. absurd (end_is_not o.end ReadFault (λ x. x) e);
        untouched = λ r. (m.untouched r, end_is_not o.end ReadFault (λ x. x));
        input = λ fault at e. absurd (end_is_not o.end (Input fault at) (λ x. x) e);
        faulty = λ bytes fault at told h. absurd (m.faulty bytes fault at told h);
        lacking = λ wanted e. absurd (end_is_not o.end (of_wanted wanted) (wanted_no_result wanted) e);
        unasked = λ bytes wanted told h. absurd (m.unasked bytes wanted told h);
        unwritten = λ is. absurd (end_unrefused o.end is);
        written = λ is. (o.text.items, m.output, appended);
        write_fault = λ e. absurd (end_is_not o.end WriteFault (λ x. x) e);
        front = λ e. absurd (end_is_not o.end WriteFault (λ x. x) e);
        no_memory = λ e. absurd (end_is_not o.end NoMemory (λ x. x) e);
        complete = λ bytes l f r k. inl ends;
      }

      failed : sink.Failed → AppendsFront sink.before sink.after o.text.items → TextEnds W command source sink WriteFault
      failed fails front_is = record {
        words = λ e. absurd (cc);
        no_disk = λ told. told;
        read_fault = λ e. absurd (cc);
        untouched = λ r. (m.untouched r, λ x. absurd (cc));
        input = λ fault at e. absurd (cc);
        faulty = λ bytes fault at told h. absurd (m.faulty bytes fault at told h);
        lacking = λ wanted e. absurd (wanted_other wanted WriteFault (λ x. x) (sym e));
        unasked = λ bytes wanted told h. absurd (m.unasked bytes wanted told h);
        unwritten = λ is. absurd is;
        written = λ is. absurd is;
        write_fault = λ e. fails;
        front = λ e. (of_end o.end, o.text.items, m.output, front_is);
        no_memory = λ e. absurd (cc);
        complete = λ bytes l f r k. absurd (k fails);
      }

      short : AppendsFront sink.before sink.after o.text.items → TextEnds W command source sink NoMemory
      short front_is = record {
        words = λ e. absurd (cc);
        no_disk = λ told. told;
        read_fault = λ e. absurd (cc);
        untouched = λ r. (m.untouched r, λ x. absurd (cc));
        input = λ fault at e. absurd (cc);
        faulty = λ bytes fault at told h. inr (inr refl);
        lacking = λ wanted e. absurd (wanted_other wanted NoMemory (λ x. x) (sym e));
        unasked = λ bytes wanted told h. inr (inr refl);
        unwritten = λ is. absurd is;
        written = λ is. absurd is;
        write_fault = λ e. absurd (cc);
        front = λ e. absurd (cc);
        no_memory = λ e. inr (of_end o.end, o.text.items, m.output, front_is);
        complete = λ bytes l f r k. inr refl;
      }

    pub text_finished : (made : Result Output Status) (status : Status) → ((bytes : List ℕ) (end : End) (text : List ℕ) → W command bytes end text → IsEndOf command (of_end end))
        → Makes W command source made → Finishes made sink status → TextEnds W command source sink status
    text_finished (Ok o) status ends m (inl t) =
        let end_is : IsEndOf command (of_end o.end) = subst (IsEndOf command) (sym m.output.is_status) (ends m.output.bytes m.output.end o.text.items m.output.writes) in
        subst (TextEnds W command source sink) (sym t.0) (whole o m end_is t.1)
    text_finished (Ok o) status ends m (inr (inl t)) = subst (TextEnds W command source sink) (sym t.0) (failed o m t.1 t.2)
    text_finished (Ok o) status ends m (inr (inr t)) = subst (TextEnds W command source sink) (sym t.0) (short o m t.1)
    text_finished (Err s) status ends m t = subst (TextEnds W command source sink) (sym t.0) (stopped s m t.1)

-- nothing was begun, since memory ran out
pub text_stopped : (W : Writing) (command : TextCommand) (source sink : Effect) → source.Stayed → sink.Stayed → TextEnds W command source sink NoMemory
text_stopped W command source sink unread unwritten =
    stopped W command source sink NoMemory (record {
      output = tt;
      stops = tt;
      untouched = λ reads. unread;
      faulty = λ bytes fault at told h. inr (inr refl);
      unasked = λ bytes wanted told h. inr (inr refl);
    }) unwritten
