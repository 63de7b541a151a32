-- What `run` writes for a program that it could read, and what its text determines.
use Rattle.std.proofs.Common.{◌≡◌, inl, inr, ℕ, Bool, true, false, List, [], ◌∷◌, All, refl, sym, subst}
use Rattle.std.proofs.lemmas.List.Elements.{All-nil, All-cons, All-append}
use Rattle.tau_sexpr.specs.Tree.{Tree}
use Rattle.tau_tree.specs.declared.programs.Program.{Program}
use Rattle.tau_tree.specs.Sound.{Sound}
use Rattle.tau_trace.specs.declared.step.Step.TheVariants.{Take, Drop, Fall, Checkpoint, Hold, Heed}
use Rattle.tau_trace.specs.Run.{Run}
use Rattle.tau_legal.specs.Traces.{Legal}
use Rattle.tau_legal.specs.Ends.{EndsAt}
use Rattle.tau_legal.proofs.TraceLemmas.{legal_safe}
use Rattle.tau_report.specs.Report.{SavedForms, none, without, with_one, counts_form, IsReport}
use Rattle.tau_text.specs.RunText.{IsRunText, IsReadBack}
use Rattle.tau_text.specs.Laws.{TellsRun}
use Rattle.tau_text.proofs.Telling.{texts_tell}
use Rattle.tau_past.specs.Safety.{Safe}
use Rattle.tau_book.specs.SerialRun.{IsSerialRun}
use Rattle.tau_text.specs.Meaning.{IsProgram}
use Rattle.tau_text.proofs.ReadBack.{run_texts_read_back}
use Rattle.tau_output.specs.declared.outputs.End.{End}
use Rattle.tau_output.specs.declared.outputs.End.TheVariants.{Done, Stopped}
use Rattle.tau_output.specs.Inner.Ends.{end_of_run}
use Rattle.tau_output.specs.Runs.{EndsAs, IsDecided, IsReportLine, RunsAs, RunsBy}
use Rattle.tau_output.specs.Checks.{IsChecked}
use Rattle.tau_output.specs.Laws.{TextsTellRuns, RunTextsAreAccepted, line_after}

-- each step of a legal run is decided by what was heard
pub decided : (P : Program) (T : Run) → Legal P T → IsDecided T
decided P T l = record {
  checkpoints = λ t k e. (l.steps k (Checkpoint t) e).fits.1;
  holds = λ t k e. (l.steps k (Hold t) e).fits.1;
  takes = λ t m k e. (l.steps k (Take t m) e).fits.1;
  drops = λ t m k e. (l.steps k (Drop t m) e).fits.1;
  falls = λ t m k e. (l.steps k (Fall t m) e).fits.1;
  heeds = λ t m k e. (l.steps k (Heed t m) e).fits.1;
}

-- each form for a saved state is a line of the report, and so are the counts
saved_lines : (P : Program) (T : Run) (n : ℕ) (forms : List Tree) → SavedForms P T n forms → All (IsReportLine P T) forms
saved_lines P T n forms none = All-nil (IsReportLine P T)
saved_lines P T n forms (without not before) = saved_lines P T _ forms before
saved_lines P T n forms (with_one {t = t} {form = form} {forms = front} one before) =
    All-append (IsReportLine P T) front (form ∷ []) (saved_lines P T t front before) (All-cons (IsReportLine P T) form [] (inr (t, one)) (All-nil (IsReportLine P T)))

report_lines : (P : Program) (T : Run) (forms : List Tree) → IsReport P T forms → All (IsReportLine P T) forms
report_lines P T forms r =
    let L : Tree → Type 0 = IsReportLine P T in
    subst (All L) (sym r.is) (All-append L r.saved (counts_form T ∷ []) (saved_lines P T _ r.saved r.saved_are) (All-cons L (counts_form T) [] (inl refl) (All-nil L)))

-- how the run ends
pub ends : (limit : ℕ) (P : Program) (T : Run) (is_complete : Bool) → EndsAt limit P T is_complete → EndsAs limit P T (end_of_run is_complete)
ends limit P T true e = e.complete refl
ends limit P T false e = e.stopped refl

-- what is written for a program is the text of a legal run of it
pub runs_as : (limit : ℕ) (P : Program) (T : Run) (is_complete : Bool) (bytes text : List ℕ) → IsProgram bytes P → Sound P → EndsAt limit P T is_complete → IsRunText P T text → IsReadBack P T text
    → (r : RunsAs limit bytes (end_of_run is_complete) text) × (r.program ≡ P) × (r.run ≡ T)
runs_as limit P T is_complete bytes text spelled sound e is_text read_back = (
  record {
    program = P;
    spelled = spelled;
    sound = sound;
    run = T;
    well_formed = e.well_formed;
    is_text = is_text;
    read_back = read_back;
    legal = e.legal;
    ends = ends limit P T is_complete e;
    safe = legal_safe P T e.well_formed e.legal;
    decided = decided P T e.legal;
    saved = report_lines P T is_text.are.report is_text.are.report_is;
  },
  refl,
  refl,
)

-- and where the run is the serial one
pub runs_serially : (jobs seed limit : ℕ) (P : Program) (T : Run) (end : End) (bytes text : List ℕ) → IsSerialRun P jobs seed limit T → (r : RunsAs limit bytes end text) → r.program ≡ P → r.run ≡ T
    → RunsBy 1 jobs seed limit bytes end text
runs_serially jobs seed limit P T end bytes text serial r p t = record {
  runs = r;
  serial = λ l. subst (λ X. IsSerialRun X jobs seed limit r.run) (sym p) (subst (λ X. IsSerialRun P jobs seed limit X) (sym t) serial);
}

-- a run ends in one way
pub ends_once : (limit other : ℕ) (P : Program) (T : Run) (end another : End) → EndsAs limit P T end → EndsAs other P T another → end ≡ another
ends_once limit other P T Done Done a b = refl
ends_once limit other P T Done Stopped a b = absurd (b.0 a.0)
ends_once limit other P T Stopped Done a b = absurd (a.0 b.0)
ends_once limit other P T Stopped Stopped a b = refl
ends_once limit other P T Done s a b = absurd b
ends_once limit other P T Stopped s a b = absurd b
ends_once limit other P T s another a b = absurd a

-- the text determines the program, the run and the end
pub texts_tell_runs : TextsTellRuns
texts_tell_runs limit other bytes others end another text one two =
    let a : TellsRun one.program one.run text = record { well_formed = one.well_formed; opening = one.legal.opening; read_back = one.read_back } in
    let b : TellsRun two.program two.run text = record { well_formed = two.well_formed; opening = two.legal.opening; read_back = two.read_back } in
    let same = texts_tell one.program two.program one.run two.run text a b in
    let there : EndsAs other one.program one.run another = subst (λ P. EndsAs other P one.run another) (sym same.0) (subst (λ T. EndsAs other two.program T another) (sym same.1) two.ends) in
    record { program = same.0; run = same.1; ends = ends_once limit other one.program one.run end another one.ends there }

-- ---- what the other commands make of the text

-- what `check` says of it, by how the run ended
checked_after : (limit : ℕ) (P : Program) (T : Run) (end : End) → Legal P T → Safe T → EndsAs limit P T end → IsChecked P T Done (line_after end)
checked_after limit P T Done legal safe h = (legal, safe, inl (h.0, refl))
checked_after limit P T Stopped legal safe h = (legal, safe, inr (h.0, refl))
checked_after limit P T end legal safe h = absurd h

pub run_texts_accepted : RunTextsAreAccepted
run_texts_accepted limit bytes end text one l =
    let P = one.program in
    let T = one.run in
    let tells : TellsRun P T text = record { well_formed = one.well_formed; opening = one.legal.opening; read_back = one.read_back } in
    let back = run_texts_read_back P T text tells in
    record {
      read = back.0;
      check = record {
        few = λ reads. l;
        answers = record { program = P; run = T; read = back.0; checked = checked_after limit P T end one.legal one.safe one.ends };
      };
      audit = record { few = λ reads. l; answers = record { program = P; run = T; read = back.0; audited = (one.safe, refl) } };
      print = record { few = λ reads. l; answers = (record { program = P; read = back.1; is_text = refl }, refl) };
    }
