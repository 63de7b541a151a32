-- Whether anything is left to do after a run.
use Rattle.std.proofs.Common.{◌≡◌, ℕ, List, [], ◌∷◌, refl, subst}
use Rattle.std.specs.List.{Contains}
use Rattle.tau_mailbox.specs.declared.letter.Letter.{Letter}
use Rattle.tau_tree.specs.declared.programs.Program.{Program}
use Rattle.tau_trace.specs.Run.{Run, len}
use Rattle.tau_trace.specs.Known.{WellFormed}
use Rattle.tau_rules.proofs.DeliverLemmas.{receiver_exists}
use Rattle.tau_legal.specs.Traces.{Fitting}
use Rattle.tau_legal.proofs.ReceiverLemmas.{receivers_of_fitting}
use Rattle.tau_failures.specs.LegalRun.{NothingLeft}
use Rattle.tau_queue.specs.OpenTurns.{AreOpenTurns}
use Rattle.tau_queue.specs.Flight.{AreInFlight}
use Rattle.tau_queue.proofs.Members.{contains_nothing, contains_here}
use Rattle.tau_queue.proofs.Homes.{each_homed}

-- without open turns and letters nothing is left
pub nothing_left : (P : Program) (T : Run) (ls : List Letter) (turns : List ℕ) → WellFormed T → Fitting P T → AreInFlight T ls → AreOpenTurns T turns → turns ≡ [] → ls ≡ [] → NothingLeft T
nothing_left P T ls turns w fitting letters are no_turns no_letters = record {
  no_turn = λ t place m u. contains_nothing place (subst (λ (xs : List ℕ). Contains xs place) no_turns ((are.each place).1 (record { who = t; message = m; turn = u })));
  none_in_flight = λ m f.
      let r = receivers_of_fitting P T m fitting f.exists in
      let h = each_homed T w.opening (len T) r.0 (receiver_exists T w m r.0 f.exists r.1) in
      let l : Letter = record { message = m; who = r.0; node = h.0 } in
      contains_nothing l (subst (λ (xs : List Letter). Contains xs l) no_letters ((letters.each l).1 (record { in_flight = f; receiver = r.1; home = h.1 })));
}

-- and where nothing is left, there are none
pub no_turns_left : (T : Run) (turns : List ℕ) → AreOpenTurns T turns → NothingLeft T → turns ≡ []
no_turns_left T [] are left = refl
no_turns_left T (place ∷ turns) are left = let f = (are.each place).0 (contains_here place turns) in absurd (left.no_turn f.who place f.message f.turn)

pub no_letters_left : (T : Run) (ls : List Letter) → AreInFlight T ls → NothingLeft T → ls ≡ []
no_letters_left T [] are left = refl
no_letters_left T (l ∷ ls) are left = absurd (left.none_in_flight l.message ((are.each l).0 (contains_here l ls)).in_flight)
