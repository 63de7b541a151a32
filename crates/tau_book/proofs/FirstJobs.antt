-- The jobs of a hand with which a run begins or goes on.
use Rattle.std.proofs.Common.{◌≡◌, ℕ, not, List, [], ◌++◌, refl, sym, ap, ◌∙◌, subst}
use Rattle.std.specs.List.{Contains, list_any}
use Rattle.std.proofs.lemmas.List.Elements.{All-contains}
use Rattle.tau_trace.specs.Run.{Run}
use Rattle.tau_eval.specs.Turn.{TurnSoFar}
use Rattle.tau_rules.specs.System.{Core}
use Rattle.tau_rules.specs.Answers.{IsOpenJob}
use Rattle.tau_queue.specs.OpenTurns.{AreOpenTurns}
use Rattle.tau_book.specs.Hands.{Held, is_of}
use Rattle.tau_book.specs.Books.{Booked}
use Rattle.tau_book.specs.Offers.{open_jobs}
use Rattle.tau_book.specs.Adopted.{IsAdopted, without_job}
use Rattle.tau_book.specs.Alone.{ComesAfter, begins}
use Rattle.tau_book.specs.Working.{AreJobs}
use Rattle.tau_book.specs.Beginnings.{OpenedIsAtWork, OpenedHasAllJobs, AdoptedIsAtWork, AdoptedHasAllJobs}
use Rattle.tau_book.proofs.Counts.{filter_same}
use Rattle.tau_book.proofs.Own.{places}
use Rattle.tau_book.proofs.Works.{begins_work, no_jobs}

pub opened_at_work : OpenedIsAtWork
opened_at_work seed b h opened hand seeded = begins_work seed b h (ap (λ (T : Run). T.steps) opened.run) opened.store seeded

pub opened_all_jobs : OpenedHasAllJobs
opened_all_jobs b h opened hand = no_jobs b h (ap (λ (T : Run). T.steps) opened.run) opened.store hand.some hand.none

-- with no jobs, each of the turns is missing
all_missing : (turns : List ℕ) → without_job [] turns ≡ turns
all_missing turns = filter_same (λ p. not (list_any (is_of p) [])) turns (λ q c. refl)

-- after adopting, the returned jobs are those that were made
module _ (before b : Booked) (h : Held) (count : ℕ) (none : before.store ≡ []) (a : IsAdopted before b count) where
  same : b.system ≡ before.system
  same = ap (λ (x : Booked). x.system) a.book_is

  store_is : b.store ≡ a.made
  store_is = ap (λ (x : Booked). x.store) a.book_is ∙ ap (λ (js : List TurnSoFar). open_jobs a.turns js ++ a.made) none

  missing_all : without_job before.store a.turns ≡ a.turns
  missing_all = ap (λ (js : List TurnSoFar). without_job js a.turns) none ∙ all_missing a.turns

  waiting_are : AreOpenTurns b.system.run (places b.store)
  waiting_are =
      subst (λ (c : Core). AreOpenTurns c.run (places b.store)) (sym same)
      (subst (λ (js : List TurnSoFar). AreOpenTurns before.system.run (places js)) (sym store_is)
      (subst (λ ns. AreOpenTurns before.system.run ns) (sym (a.made_are.places ∙ missing_all)) a.turns_are))

  made_jobs : AreJobs before.system.program before.system.run b.store
  made_jobs = record {
    one_each = a.one_each;
    records = λ job c f. All-contains (λ (j : TurnSoFar). IsOpenJob before.system.program before.system.run j) a.made job a.made_are.records (subst (λ (js : List TurnSoFar). Contains js job) store_is c);
    each = a.each;
  }

pub adopted_all_jobs : AdoptedHasAllJobs
adopted_all_jobs before b h count none a hand = record {
  some = hand.some;
  jobs_are = subst (λ (js : List TurnSoFar). AreJobs b.system.program b.system.run (js ++ b.store)) (sym hand.none)
      (subst (λ (c : Core). AreJobs c.program c.run b.store) (sym (same before b h count none a)) (made_jobs before b h count none a));
}

pub adopted_at_work : AdoptedIsAtWork
adopted_at_work seed before b h count none a hand seeded =
    subst (λ g. ComesAfter b.system.program h.size seed b.system.run b.system.run (places b.store) g) (sym seeded) (begins (waiting_are before b h count none a))
