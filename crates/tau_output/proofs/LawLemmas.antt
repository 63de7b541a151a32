-- What is written for an input is determined, and comes only where the input has no fault.
use Rattle.std.proofs.Common.{◌≡◌, ◌⊎◌, inl, inr, ℕ, ◌<◌, ◌≤◌, List, length, Option, Some, None, Result, Ok, Err, IfOk, IfErr, IsTrue, refl, sym, ap, subst, ◌∙◌, arith}
use Rattle.tau_sexpr.specs.Printing.{printed}
use Rattle.tau_points.specs.declared.point.Point.{Point}
use Rattle.tau_points.proofs.PointOrder.{point_cmp-total}
use Rattle.tau_tree.specs.declared.programs.Program.{Program}
use Rattle.tau_forms.specs.Printed as forms
use Rattle.tau_trace.specs.Run.{Run, len, second}
use Rattle.tau_trace.specs.Places.{IsFirst}
use Rattle.tau_past.specs.Audits.{IsBrokenAt, IsLeastBreak, RollsBackAt, IsBroken}
use Rattle.tau_check.specs.Legality.{IsFirstIllegal}
use Rattle.tau_report.specs.Report.{IsReportText}
use Rattle.tau_report.proofs.Uniqueness.{report_once}
use Rattle.tau_explain.specs.Decisions.{IsWhy}
use Rattle.tau_explain.specs.Texts.{why_forms}
use Rattle.tau_explain.proofs.OneAnswer.{one_answer}
use Rattle.tau_cut.specs.Texts.{IsCutText}
use Rattle.tau_cut.proofs.OneCut.{cut_text_once}
use Rattle.tau_picture.specs.Pictures.{IsPictureText}
use Rattle.tau_picture.proofs.OnePicture.{picture_text_once}
use Rattle.tau_command.specs.declared.commands.TextCommand.{TextCommand}
use Rattle.tau_command.specs.declared.commands.TextCommand.TheVariants.{Run as RunCommand, Check, Audit, Report, Print, Gen, Drill, Migrate, Why, Cut, Draw, Storm}
use Rattle.tau_text.specs.declared.errors.InputError.{InputError}
use Rattle.tau_text.specs.declared.errors.InputError.TheVariants as inputs
use Rattle.tau_text.specs.Errors.{TellsInputFault}
use Rattle.tau_text.specs.Meaning.{IsRunInput}
use Rattle.tau_text.proofs.FaultLemmas.{program_unique, run_unique, print_unique}
use Rattle.tau_output.specs.declared.outputs.End.{End}
use Rattle.tau_output.specs.declared.outputs.Output.{Output}
use Rattle.tau_output.specs.declared.outputs.End.TheVariants.{Done, Stopped, Bad, Broken, Claimed}
use Rattle.tau_output.specs.declared.refusals.Refusal.{Refusal}
use Rattle.tau_output.specs.declared.refusals.Refusal.TheVariants.{Fault, Lacking, NoMemory}
use Rattle.tau_output.specs.declared.refusals.Wanted.{Wanted}
use Rattle.tau_command.specs.declared.storms.Question.TheVariants.{Outcomes, Claim, Show}
use Rattle.tau_output.specs.Refusals.{of_input_error, TellsFault, TellsLacking}
use Rattle.tau_output.specs.Faults.{input_limit, reads_input, IsFaultOf, IsInputFault, too_long, within}
use Rattle.tau_explain.specs.Decisions.{IsDecision}
use Rattle.tau_picture.specs.Asking.{Allows}
use Rattle.tau_output.specs.Asking.{wanted_by, Lacks, IsRunWithout, AsksInVain}
use Rattle.tau_output.proofs.StormLaws.{claim_is_there, outcome_is_there, storms_once}
use Rattle.tau_output.specs.Explaining.{ExplainsAs}
use Rattle.tau_output.specs.Cutting.{CutsAs}
use Rattle.tau_output.specs.Drawing.{DrawsAs}
use Rattle.tau_output.specs.Migrating.{second_program, IsRewritten, MigratesAs}
use Rattle.tau_output.specs.Inner.Ends.{refused_by}
use Rattle.tau_output.specs.Checks.{IsChecked, bad_line, ChecksAs}
use Rattle.tau_output.specs.Audits.{IsAudited, broken_line, AuditsAs}
use Rattle.tau_output.specs.Writing.{Answers, Writes, by_one_worker, WritesSerially}
use Rattle.tau_output.specs.Reports.{ReportsAs}
use Rattle.tau_output.specs.Printing.{PrintsAs}
use Rattle.tau_output.proofs.SerialLemmas.{text_once, runs_once, drills_once}
use Rattle.tau_output.specs.Laws.{WritesOnce, WritesWithoutFault, WritesWhereAsked, StormsAlike, FailsOnce}

-- bytes have one fault as a command takes them
one_fault_of : (command : TextCommand) (bytes : List ℕ) (a b c d : ℕ) → IsFaultOf command bytes a b → IsFaultOf command bytes c d → (a ≡ c) × (b ≡ d)
one_fault_of (RunCommand workers jobs seed steps) bytes a b c d f g = (program_unique bytes).one_fault a b c d f g
one_fault_of Check bytes a b c d f g = (run_unique bytes).one_fault a b c d f g
one_fault_of Audit bytes a b c d f g = (run_unique bytes).one_fault a b c d f g
one_fault_of Report bytes a b c d f g = (run_unique bytes).one_fault a b c d f g
one_fault_of Print bytes a b c d f g = (print_unique bytes).one_fault a b c d f g
one_fault_of (Gen number) bytes a b c d f g = absurd f
one_fault_of (Drill number) bytes a b c d f g = absurd f
one_fault_of Migrate bytes a b c d f g = (run_unique bytes).one_fault a b c d f g
one_fault_of (Why place) bytes a b c d f g = (run_unique bytes).one_fault a b c d f g
one_fault_of Cut bytes a b c d f g = (run_unique bytes).one_fault a b c d f g
one_fault_of (Draw from to ask) bytes a b c d f g = (run_unique bytes).one_fault a b c d f g
one_fault_of (Storm workers numbers question) bytes a b c d f g = (program_unique bytes).one_fault a b c d f g

pub fails_once : (bytes : List ℕ) → FailsOnce bytes
fails_once bytes command a b c d (too_long r l p q) (too_long s m v w) = (p ∙ sym v, q ∙ sym w)
fails_once bytes command a b c d (too_long r l p q) (within m g) = absurd (omega arith)
fails_once bytes command a b c d (within m g) (too_long r l p q) = absurd (omega arith)
fails_once bytes command a b c d (within m g) (within n h) = one_fault_of command bytes a b c d g h

-- nothing is answered for bytes with a fault
clean : (command : TextCommand) (bytes : List ℕ) (end : End) (text : List ℕ) (a b : ℕ) → Answers command bytes end text → IsFaultOf command bytes a b → ⊥
clean (RunCommand workers jobs seed steps) bytes end text a b w f = (program_unique bytes).not_both w.runs.program a b w.runs.spelled f
clean Check bytes end text a b w f = (run_unique bytes).not_both (w.program, w.run) a b w.read f
clean Audit bytes end text a b w f = (run_unique bytes).not_both (w.program, w.run) a b w.read f
clean Report bytes end text a b w f = (run_unique bytes).not_both (w.0.program, w.0.run) a b w.0.read f
clean Print bytes end text a b w f = (print_unique bytes).not_both w.0.program a b w.0.read f
clean (Gen number) bytes end text a b w f = absurd f
clean (Drill number) bytes end text a b w f = absurd f
clean Migrate bytes end text a b w f = (run_unique bytes).not_both (w.program, w.run) a b w.read f
clean (Why place) bytes end text a b w f = (run_unique bytes).not_both (w.0.program, w.0.run) a b w.0.read f
clean Cut bytes end text a b w f = (run_unique bytes).not_both (w.0.program, w.0.run) a b w.0.read f
clean (Draw from to ask) bytes end text a b w f = (run_unique bytes).not_both (w.0.program, w.0.run) a b w.0.read f
clean (Storm workers numbers Outcomes) bytes end text a b w f = (program_unique bytes).not_both w.has.storm.program a b w.has.storm.spelled f
clean (Storm workers numbers (Claim name)) bytes end text a b w f = (program_unique bytes).not_both w.has.storm.program a b w.has.storm.spelled f
clean (Storm workers numbers (Show outcome)) bytes end text a b w f = (program_unique bytes).not_both w.has.storm.program a b w.has.storm.spelled f

pub writes_without_fault : (bytes : List ℕ) → WritesWithoutFault bytes
writes_without_fault bytes command end text a b w (too_long r l p q) = let few : length bytes ≤ input_limit = w.few r in omega arith
writes_without_fault bytes command end text a b w (within l f) = clean command bytes end text a b w.answers f

-- nor where a command asks in vain
not_without : (Allowed : Run → Type 0) (bytes : List ℕ) (P : Program) (T : Run) → IsRunInput bytes P T → Allowed T → IsRunWithout Allowed bytes → ⊥
not_without Allowed bytes P T read allowed n =
    let same = (run_unique bytes).one_meaning (P, T) (n.program, n.run) read n.read in
    n.in_vain (subst (λ (x : Program × Run). Allowed x.1) same allowed)

answers_where_asked : (command : TextCommand) (bytes : List ℕ) (end : End) (text : List ℕ) → Answers command bytes end text → Lacks command bytes → ⊥
answers_where_asked (Why asked) bytes end text w n = not_without (λ T. IsDecision T asked) bytes w.0.program w.0.run w.0.read w.0.asked n
answers_where_asked (Draw from to ask) bytes end text w n = not_without (λ T. Allows T ask) bytes w.0.program w.0.run w.0.read w.0.asked n
answers_where_asked (Storm workers numbers Outcomes) bytes end text w n = absurd n
answers_where_asked (Storm workers numbers (Claim name)) bytes end text w n = claim_is_there numbers name bytes end text w n
answers_where_asked (Storm workers numbers (Show outcome)) bytes end text w n = outcome_is_there numbers outcome bytes end text w n
answers_where_asked command bytes end text w n = absurd n

pub writes_where_asked : (bytes : List ℕ) → WritesWhereAsked bytes
writes_where_asked bytes command end text wanted w n = answers_where_asked command bytes end text w.answers n.lacks

-- and a command that wants nothing doesn't
pub asks_none : (command kind : TextCommand) (bytes : List ℕ) (wanted : Wanted) → command ≡ kind → wanted_by kind ≡ None → AsksInVain command bytes wanted → ⊥
asks_none command kind bytes wanted same none asked =
    let never : None ≡ Some wanted = sym none ∙ (ap wanted_by (sym same) ∙ asked.wants) in
    absurd (cc)

-- and an input of which a command asks in vain has no fault
lacks_without_fault : (command : TextCommand) (bytes : List ℕ) (a b : ℕ) → Lacks command bytes → IsFaultOf command bytes a b → ⊥
lacks_without_fault (Why asked) bytes a b n f = (run_unique bytes).not_both (n.program, n.run) a b n.read f
lacks_without_fault (Draw from to ask) bytes a b n f = (run_unique bytes).not_both (n.program, n.run) a b n.read f
lacks_without_fault (Storm workers numbers Outcomes) bytes a b n f = absurd n
lacks_without_fault (Storm workers numbers (Claim name)) bytes a b n f = (program_unique bytes).not_both n.program a b n.spelled f
lacks_without_fault (Storm workers numbers (Show outcome)) bytes a b n f = (program_unique bytes).not_both n.has.storm.program a b n.has.storm.spelled f
lacks_without_fault command bytes a b n f = absurd n

asked_in_vain : (command : TextCommand) (bytes : List ℕ) (wanted : Wanted) (a b : ℕ) → AsksInVain command bytes wanted → IsInputFault command bytes a b → ⊥
asked_in_vain command bytes wanted a b n (too_long r l p q) = let few : length bytes ≤ input_limit = n.few in omega arith
asked_in_vain command bytes wanted a b n (within l f) = lacks_without_fault command bytes a b n.lacks f

-- a refusal of an input with a fault tells the fault, or want of memory
pub told_once : (command : TextCommand) (bytes : List ℕ) (e : Refusal) (a b : ℕ) → TellsFault (IsInputFault command bytes) e → TellsLacking (AsksInVain command bytes) e → IsInputFault command bytes a b
    → (e ≡ Fault a b) ⊎ (e ≡ NoMemory)
told_once command bytes (Fault c d) a b t n f = let same = fails_once bytes command c d a b t f in inl (ap (λ x. Fault x d) same.0 ∙ ap (λ x. Fault a x) same.1)
told_once command bytes (Lacking wanted) a b t n f = absurd (asked_in_vain command bytes wanted a b n f)
told_once command bytes NoMemory a b t n f = inr refl

-- and one of a command that asks in vain tells what is lacking, or want of memory
told_wanted : (command : TextCommand) (bytes : List ℕ) (e : Refusal) (wanted : Wanted) → TellsFault (IsInputFault command bytes) e → TellsLacking (AsksInVain command bytes) e → AsksInVain command bytes wanted
    → (e ≡ Lacking wanted) ⊎ (e ≡ NoMemory)
told_wanted command bytes (Fault c d) wanted t n asked = absurd (asked_in_vain command bytes wanted c d asked t)
told_wanted command bytes (Lacking k) wanted t n asked =
    let both : Some k ≡ Some wanted = sym n.wants ∙ asked.wants in
    let k_is : k ≡ wanted = cc in
    inl (ap Lacking k_is)
told_wanted command bytes NoMemory wanted t n asked = inr refl

-- what a command gives for bytes: its text and end, or a refusal that tells exactly what is wrong
pub record Gives (command : TextCommand) (bytes : List ℕ) (found : Result Output Refusal) : Type 0 where
  pub fault : IfErr found (TellsFault (IsInputFault command bytes))
  pub faulty : (a b : ℕ) → IsInputFault command bytes a b → (found ≡ Err (Fault a b)) ⊎ (found ≡ Err NoMemory)
  pub lacking : IfErr found (TellsLacking (AsksInVain command bytes))
  pub in_vain : (wanted : Wanted) → AsksInVain command bytes wanted → (found ≡ Err (Lacking wanted)) ⊎ (found ≡ Err NoMemory)

pub gives : (command : TextCommand) (bytes : List ℕ) (found : Result Output Refusal) → IfOk found (λ o. Writes command bytes o.end o.text.items) → IfErr found (TellsFault (IsInputFault command bytes))
    → IfErr found (TellsLacking (AsksInVain command bytes)) → Gives command bytes found
gives command bytes (Ok o) w t n = record {
  fault = tt;
  faulty = λ a b f. absurd (writes_without_fault bytes command o.end o.text.items a b w f);
  lacking = tt;
  in_vain = λ wanted asked. absurd (writes_where_asked bytes command o.end o.text.items wanted w asked);
}
gives command bytes (Err e) w t n = record {
  fault = t;
  faulty = λ a b f. elim (told_once command bytes e a b t n f) [ inl same ↦ inl (ap Err same) | inr same ↦ inr (ap Err same) ];
  lacking = n;
  in_vain = λ wanted asked. elim (told_wanted command bytes e wanted t n asked) [ inl is ↦ inl (ap Err is) | inr is ↦ inr (ap Err is) ];
}

-- the refusal for an error tells the fault that the error tells, and no place
pub tells_within : (command : TextCommand) (bytes : List ℕ) (e : InputError) → length bytes ≤ input_limit → TellsInputFault (IsFaultOf command bytes) e → TellsFault (IsInputFault command bytes) (of_input_error e)
tells_within command bytes (inputs.Fault a b) l t = within l t
tells_within command bytes inputs.NoMemory l t = tt

pub tells_no_lack : (U : Wanted → Type 0) (e : InputError) → TellsLacking U (of_input_error e)
tells_no_lack U (inputs.Fault a b) = tt
tells_no_lack U inputs.NoMemory = tt

pub fault_within : (command : TextCommand) (bytes : List ℕ) (r : Result Output InputError) → length bytes ≤ input_limit → IfErr r (TellsInputFault (IsFaultOf command bytes))
    → IfErr (refused_by r) (TellsFault (IsInputFault command bytes))
fault_within command bytes (Ok o) l t = tt
fault_within command bytes (Err e) l t = tells_within command bytes e l t

pub no_lack : (U : Wanted → Type 0) (r : Result Output InputError) → IfErr (refused_by r) (TellsLacking U)
no_lack U (Ok o) = tt
no_lack U (Err e) = tells_no_lack U e

pub ok_refused : (P : Output → Type 0) (r : Result Output InputError) → IfOk r P → IfOk (refused_by r) P
ok_refused P (Ok o) h = h
ok_refused P (Err e) h = tt

-- what one worker alone writes, or one of the other commands, is what the command writes with as many workers as it is told
serially_answered : (command : TextCommand) (bytes : List ℕ) (end : End) (text : List ℕ) → Answers (by_one_worker command) bytes end text → Answers command bytes end text
serially_answered (RunCommand workers jobs seed steps) bytes end text w = record { runs = w.runs; serial = λ l. w.serial (omega arith) }
serially_answered Check bytes end text w = w
serially_answered Audit bytes end text w = w
serially_answered Report bytes end text w = w
serially_answered Print bytes end text w = w
serially_answered (Gen number) bytes end text w = w
serially_answered (Drill number) bytes end text w = w
serially_answered Migrate bytes end text w = w
serially_answered (Why place) bytes end text w = w
serially_answered Cut bytes end text w = w
serially_answered (Draw from to ask) bytes end text w = w
serially_answered (Storm workers numbers question) bytes end text w = w

-- a command on one thread reads an input where the command reads one
same_reading : (command : TextCommand) → IsTrue (reads_input command) → IsTrue (reads_input (by_one_worker command))
same_reading (RunCommand workers jobs seed steps) reads = reads
same_reading Check reads = reads
same_reading Audit reads = reads
same_reading Report reads = reads
same_reading Print reads = reads
same_reading (Gen number) reads = reads
same_reading (Drill number) reads = reads
same_reading Migrate reads = reads
same_reading (Why place) reads = reads
same_reading Cut reads = reads
same_reading (Draw from to ask) reads = reads
same_reading (Storm workers numbers question) reads = reads

pub serially_written : (command : TextCommand) (bytes : List ℕ) (found : Result Output Refusal) → IfOk found (λ o. WritesSerially command bytes o.end o.text.items) → IfOk found (λ o. Writes command bytes o.end o.text.items)
serially_written command bytes (Ok o) w =
    record { few = λ reads. w.few (same_reading command reads); answers = serially_answered command bytes o.end o.text.items w.answers }
serially_written command bytes (Err e) w = tt

answered : (kind : TextCommand) (bytes : List ℕ) (found : Result Output Refusal) → length bytes ≤ input_limit → IfOk found (λ o. Answers kind bytes o.end o.text.items) → IfOk found (λ o. Writes kind bytes o.end o.text.items)
answered kind bytes (Ok o) l w = record { few = λ reads. l; answers = w }
answered kind bytes (Err e) l w = tt

-- and so of what a command answers on one thread for bytes that aren't too many
pub record GivesSerially (command : TextCommand) (bytes : List ℕ) (found : Result Output Refusal) : Type 0 where
  pub output : IfOk found (λ o. WritesSerially command bytes o.end o.text.items)
  pub gives : Gives command bytes found

pub given : (command kind : TextCommand) (bytes : List ℕ) (found : Result Output Refusal) → command ≡ kind → length bytes ≤ input_limit → IfOk found (λ o. Answers (by_one_worker kind) bytes o.end o.text.items)
    → IfErr found (TellsFault (IsInputFault kind bytes)) → IfErr found (TellsLacking (AsksInVain kind bytes)) → GivesSerially command bytes found
unfolding gives
given command kind bytes found same l w t n =
    let written : IfOk found (λ o. WritesSerially kind bytes o.end o.text.items) = answered (by_one_worker kind) bytes found l w in
    subst (λ x. GivesSerially x bytes found) (sym same)
    (record { output = written; gives = gives kind bytes found (serially_written kind bytes found written) t n })

pub answer_told : (command kind : TextCommand) (bytes : List ℕ) (r : Result Output InputError) (found : Result Output Refusal) → command ≡ kind → found ≡ refused_by r → length bytes ≤ input_limit
    → IfOk r (λ o. Answers (by_one_worker kind) bytes o.end o.text.items) → IfErr r (TellsInputFault (IsFaultOf kind bytes)) → GivesSerially command bytes found
unfolding given
answer_told command kind bytes r found same is l w t = subst (GivesSerially command bytes) (sym is)
    (given command kind bytes (refused_by r) same l (ok_refused (λ o. Answers (by_one_worker kind) bytes o.end o.text.items) r w) (fault_within kind bytes r l t) (no_lack (AsksInVain kind bytes) r))

-- what a command gives that tells itself which step it is asked for in vain
refusal_within : (kind : TextCommand) (bytes : List ℕ) (found : Result Output Refusal) → length bytes ≤ input_limit → IfErr found (TellsFault (IsFaultOf kind bytes)) → IfErr found (TellsFault (IsInputFault kind bytes))
refusal_within kind bytes (Ok o) l t = tt
refusal_within kind bytes (Err (Fault a b)) l t = within l t
refusal_within kind bytes (Err (Lacking k)) l t = tt
refusal_within kind bytes (Err NoMemory) l t = tt

pub refusal_told : (command kind : TextCommand) (bytes : List ℕ) (found : Result Output Refusal) → command ≡ kind → length bytes ≤ input_limit → IfOk found (λ o. Answers (by_one_worker kind) bytes o.end o.text.items)
    → IfErr found (TellsFault (IsFaultOf kind bytes)) → IfErr found (TellsLacking (AsksInVain kind bytes)) → GivesSerially command bytes found
unfolding given
refusal_told command kind bytes found same l w t n = given command kind bytes found same l w (refusal_within kind bytes found l t) n

-- ---- checks

-- of two first illegal steps neither stands before the other
not_before : (P : Program) (T : Run) (j k : ℕ) → IsFirstIllegal P T j → IsFirstIllegal P T k → j < k → ⊥
not_before P T j k one two l = one.illegal (two.earlier j one.step l one.stands)

first_illegal_once : (P : Program) (T : Run) (j k : ℕ) → IsFirstIllegal P T j → IsFirstIllegal P T k → j ≡ k
first_illegal_once P T j k one two = omega (arith, not_before P T j k one two, not_before P T k j two one)

checked_once : (P : Program) (T : Run) (end another : End) (text other : List ℕ) → IsChecked P T end text → IsChecked P T another other → (end ≡ another) × (text ≡ other)
checked_once P T Done Done text other h k = elim h.2 [
  | inl a ↦ elim k.2 [ inl b ↦ (refl, a.1 ∙ sym b.1) | inr b ↦ absurd (b.0 a.0) ]
  | inr a ↦ elim k.2 [ inl b ↦ absurd (a.0 b.0) | inr b ↦ (refl, a.1 ∙ sym b.1) ]
]
checked_once P T Done (Bad k) text other h i = absurd (i.0.illegal (h.0.steps k i.0.step i.0.stands))
checked_once P T (Bad j) Done text other h i = absurd (h.0.illegal (i.0.steps j h.0.step h.0.stands))
checked_once P T (Bad j) (Bad k) text other h i =
    let same = first_illegal_once P T j k h.0 i.0 in
    (ap Bad same, h.1 ∙ ap bad_line same ∙ sym i.1)
checked_once P T Done Stopped text other h i = absurd i
checked_once P T Done (Broken c p f) text other h i = absurd i
checked_once P T Done Claimed text other h i = absurd i
checked_once P T (Bad j) Stopped text other h i = absurd i
checked_once P T (Bad j) (Broken c p f) text other h i = absurd i
checked_once P T (Bad j) Claimed text other h i = absurd i
checked_once P T Stopped another text other h i = absurd h
checked_once P T (Broken c p f) another text other h i = absurd h
checked_once P T Claimed another text other h i = absurd h

-- ---- audits

first_once : (Q : ℕ → Type 0) (n j k : ℕ) → IsFirst Q n (Some j) → IsFirst Q n (Some k) → j ≡ k
first_once Q n j k one two = omega (arith, (λ (l : j < k). two.2 j l one.1), (λ (l : k < j). one.2 k l two.1))

least_once : (T : Run) (c : ℕ) (p q : Point) → IsLeastBreak T c p → IsLeastBreak T c q → p ≡ q
least_once T c p q one two = elim (one.least q two.breaks) [
  | inl same ↦ same
  | inr before ↦ elim (two.least p one.breaks) [ inl same ↦ sym same | inr after ↦ (let reversed = point_cmp-total.antisymm p q in absurd (cc)) ]
]

broken_once : (T : Run) (c d : ℕ) (p q : Point) (f g : ℕ) → IsBroken T c p f → IsBroken T d q g → (c ≡ d) × (p ≡ q) × (f ≡ g)
broken_once T c d p q f g one two =
    let checkpoint = first_once (IsBrokenAt T) (len T) c d one.checkpoint two.checkpoint in
    let point = least_once T c p q one.point (subst (λ x. IsLeastBreak T x q) (sym checkpoint) two.point) in
    (checkpoint, point, first_once (RollsBackAt T p) (len T) f g one.fall (subst (λ x. IsFirst (RollsBackAt T x) (len T) (Some g)) (sym point) two.fall))

audited_once : (T : Run) (end another : End) (text other : List ℕ) → IsAudited T end text → IsAudited T another other → (end ≡ another) × (text ≡ other)
audited_once T Done Done text other h k = (refl, h.1 ∙ sym k.1)
audited_once T Done (Broken c p f) text other h k = absurd (k.0 h.0)
audited_once T (Broken c p f) Done text other h k = absurd (h.0 k.0)
audited_once T (Broken c p f) (Broken d q g) text other h k =
    let same = broken_once T c d p q f g h.1 k.1 in
    let e = same.0 in let i = same.1 in let j = same.2 in
    let names = T.opening.names in (
      ap (λ x. Broken x p f) e ∙ ap (λ x. Broken d x f) i ∙ ap (λ x. Broken d q x) j,
      h.2 ∙ ap (λ x. broken_line names x p f) e ∙ ap (λ x. broken_line names d x f) i ∙ ap (λ x. broken_line names d q x) j ∙ sym k.2,
    )
audited_once T Done Stopped text other h k = absurd k
audited_once T Done (Bad j) text other h k = absurd k
audited_once T Done Claimed text other h k = absurd k
audited_once T (Broken c p f) Stopped text other h k = absurd k
audited_once T (Broken c p f) (Bad j) text other h k = absurd k
audited_once T (Broken c p f) Claimed text other h k = absurd k
audited_once T Stopped another text other h k = absurd h
audited_once T (Bad j) another text other h k = absurd h
audited_once T Claimed another text other h k = absurd h

-- ---- each command

check_once : (bytes : List ℕ) (end another : End) (text other : List ℕ) → ChecksAs bytes end text → ChecksAs bytes another other → (end ≡ another) × (text ≡ other)
check_once bytes end another text other v w =
    let same = (run_unique bytes).one_meaning (v.program, v.run) (w.program, w.run) v.read w.read in
    let there : IsChecked v.program v.run another other = subst (λ (x : Program × Run). IsChecked x.0 x.1 another other) (sym same) w.checked in
    checked_once v.program v.run end another text other v.checked there

audit_once : (bytes : List ℕ) (end another : End) (text other : List ℕ) → AuditsAs bytes end text → AuditsAs bytes another other → (end ≡ another) × (text ≡ other)
audit_once bytes end another text other v w =
    let same = (run_unique bytes).one_meaning (v.program, v.run) (w.program, w.run) v.read w.read in
    let there : IsAudited v.run another other = subst (λ (x : Program × Run). IsAudited x.1 another other) (sym same) w.audited in
    audited_once v.run end another text other v.audited there

report_text_once : (bytes text other : List ℕ) (v : ReportsAs bytes text) (w : ReportsAs bytes other) → text ≡ other
report_text_once bytes text other v w =
    let same = (run_unique bytes).one_meaning (v.program, v.run) (w.program, w.run) v.read w.read in
    let there : IsReportText v.program v.run other = subst (λ (x : Program × Run). IsReportText x.0 x.1 other) (sym same) w.is_text in
    v.is_text.text ∙ ap printed (report_once v.program v.run v.is_text.forms there.forms v.is_text.report there.report) ∙ sym there.text

print_text_once : (bytes text other : List ℕ) → PrintsAs bytes text → PrintsAs bytes other → text ≡ other
print_text_once bytes text other v w =
    v.is_text ∙ ap (λ p. printed (forms.printed p)) ((print_unique bytes).one_meaning v.program w.program v.read w.read) ∙ sym w.is_text

rewritten_once : (P : Program) (T : Run) (end another : End) (text other : List ℕ) → IsRewritten P T end text → IsRewritten P T another other → (end ≡ another) × (text ≡ other)
rewritten_once P T Done Done text other h k = (refl, text_once P T text other h.is_text k.is_text)
rewritten_once P T Done (Bad k) text other h i = absurd (i.0.illegal (h.legal.steps k i.0.step i.0.stands))
rewritten_once P T (Bad j) Done text other h i = absurd (h.0.illegal (i.legal.steps j h.0.step h.0.stands))
rewritten_once P T (Bad j) (Bad k) text other h i =
    let same = first_illegal_once P T j k h.0 i.0 in
    (ap Bad same, h.1 ∙ ap bad_line same ∙ sym i.1)
rewritten_once P T Done Stopped text other h i = absurd i
rewritten_once P T Done (Broken c p f) text other h i = absurd i
rewritten_once P T Done Claimed text other h i = absurd i
rewritten_once P T (Bad j) Stopped text other h i = absurd i
rewritten_once P T (Bad j) (Broken c p f) text other h i = absurd i
rewritten_once P T (Bad j) Claimed text other h i = absurd i
rewritten_once P T Stopped another text other h i = absurd h
rewritten_once P T (Broken c p f) another text other h i = absurd h
rewritten_once P T Claimed another text other h i = absurd h

migrate_once : (bytes : List ℕ) (end another : End) (text other : List ℕ) → MigratesAs bytes end text → MigratesAs bytes another other → (end ≡ another) × (text ≡ other)
migrate_once bytes end another text other v w =
    let same = (run_unique bytes).one_meaning (v.program, v.run) (w.program, w.run) v.read w.read in
    let there : IsRewritten (second_program v.program) (second v.run) another other = subst (λ (x : Program × Run). IsRewritten (second_program x.0) (second x.1) another other) (sym same) w.migrated in
    rewritten_once (second_program v.program) (second v.run) end another text other v.migrated there

explain_once : (place : ℕ) (bytes text other : List ℕ) → ExplainsAs place bytes text → ExplainsAs place bytes other → text ≡ other
explain_once place bytes text other v w =
    let same = (run_unique bytes).one_meaning (v.program, v.run) (w.program, w.run) v.read w.read in
    let explains : IsWhy v.run place w.answer = subst (λ (x : Program × Run). IsWhy x.1 place w.answer) (sym same) w.explains in
    let answer = one_answer v.run place v.answer w.answer v.explains explains in
    v.is_text ∙ ap (λ a. printed (why_forms v.run.opening a)) answer ∙ ap (λ (x : Program × Run). printed (why_forms x.1.opening w.answer)) same ∙ sym w.is_text

cut_once : (bytes text other : List ℕ) → CutsAs bytes text → CutsAs bytes other → text ≡ other
cut_once bytes text other v w =
    let same = (run_unique bytes).one_meaning (v.program, v.run) (w.program, w.run) v.read w.read in
    let there : IsCutText v.program v.run other = subst (λ (x : Program × Run). IsCutText x.0 x.1 other) (sym same) w.is_text in
    cut_text_once v.program v.run text other v.is_text there

draw_once : (from to : ℕ) (ask : Option ℕ) (bytes text other : List ℕ) → DrawsAs from to ask bytes text → DrawsAs from to ask bytes other → text ≡ other
draw_once from to ask bytes text other v w =
    let same = (run_unique bytes).one_meaning (v.program, v.run) (w.program, w.run) v.read w.read in
    let there : IsPictureText v.program v.run from to ask other = subst (λ (x : Program × Run). IsPictureText x.0 x.1 from to ask other) (sym same) w.is_text in
    picture_text_once v.program v.run v.well_formed v.read.means.1.steps.opening from to ask text other v.is_text there

answers_once : (command : TextCommand) (bytes : List ℕ) (end another : End) (text other : List ℕ) → Answers (by_one_worker command) bytes end text → Answers (by_one_worker command) bytes another other → (end ≡ another) × (text ≡ other)
answers_once (RunCommand workers jobs seed steps) bytes end another text other v w = runs_once jobs seed steps bytes end another text other v w
answers_once Check bytes end another text other v w = check_once bytes end another text other v w
answers_once Audit bytes end another text other v w = audit_once bytes end another text other v w
answers_once Report bytes end another text other v w = (v.1 ∙ sym w.1, report_text_once bytes text other v.0 w.0)
answers_once Print bytes end another text other v w = (v.1 ∙ sym w.1, print_text_once bytes text other v.0 w.0)
answers_once (Gen number) bytes end another text other v w = (v.1 ∙ sym w.1, v.0.is_text ∙ sym w.0.is_text)
answers_once (Drill number) bytes end another text other v w = drills_once number end another text other v w
answers_once Migrate bytes end another text other v w = migrate_once bytes end another text other v w
answers_once (Why place) bytes end another text other v w = (v.1 ∙ sym w.1, explain_once place bytes text other v.0 w.0)
answers_once Cut bytes end another text other v w = (v.1 ∙ sym w.1, cut_once bytes text other v.0 w.0)
answers_once (Draw from to ask) bytes end another text other v w = (v.1 ∙ sym w.1, draw_once from to ask bytes text other v.0 w.0)
answers_once (Storm workers numbers question) bytes end another text other v w = storms_once numbers question bytes end another text other v w

pub writes_once : (bytes : List ℕ) → WritesOnce bytes
writes_once bytes command end another text other v w = answers_once command bytes end another text other v.answers w.answers

-- a storm's numbers and question determine what is written, whoever makes the runs
pub storms_alike : (bytes : List ℕ) → StormsAlike bytes
storms_alike bytes workers others numbers question end another text other v w = storms_once numbers question bytes end another text other v.answers w.answers
