-- What a seat knows of jobs, while it sees more.
use Rattle.std.proofs.Common.{◌≡◌, ℕ, List, [], ◌++◌, All, sym, ap, subst}
use Rattle.std.specs.Prelude.{IsTrue, Result, Ok, Err, IfOk, OnErr}
use Rattle.std.proofs.lemmas.List.Elements.{All-same, All-weaker}
use Rattle.tau_tree.specs.declared.programs.Program.{Program}
use Rattle.tau_trace.specs.declared.step.Step.{Step}
use Rattle.tau_eval.specs.Turn.{TurnSoFar}
use Rattle.tau_rules.specs.System.{Core}
use Rattle.tau_rules.specs.KnownJobs.{WasOpenJob}
use Rattle.tau_rules.proofs.KnownJobs.{known_longer}
use Rattle.tau_book.specs.declared.answers.Next.{Next}
use Rattle.tau_book.specs.declared.answers.Next.TheVariants as nexts
use Rattle.tau_book.specs.declared.answers.Told.{Told}
use Rattle.tau_book.specs.Hands.{Held}
use Rattle.tau_book.specs.Books.{Booked}
use Rattle.tau_book.specs.Nexts.{IsNext}
use Rattle.tau_book.specs.Tolds.{IsTold}
use Rattle.tau_book.specs.Places.{IsVouched}
use Rattle.tau_book.specs.Knowing.{IsKnown, NextHandsOnKnown, ActHandsOnKnown}
use Rattle.tau_seat.specs.Lists.{bare, Begins}
use Rattle.tau_seat.specs.Keys.{run_of}
use Rattle.tau_seat.specs.Seated.{Seated, IsBookAt, IsTurn}
use Rattle.tau_seat.specs.Knowing.{IsSeenOpen}
use Rattle.tau_seat.specs.SeatPlaces.{Placed, Vouches}
use Rattle.tau_seat.proofs.Sums.{bare_append}
use Rattle.tau_seat.proofs.SeatTurns.{core_at}

seen_further : (P : Program) (xs ys : List (Step × ℕ)) (job : TurnSoFar) → WasOpenJob P (run_of P (bare xs)) job → WasOpenJob P (run_of P (bare (xs ++ ys))) job
seen_further P xs ys job was = subst (λ (ss : List Step). WasOpenJob P (run_of P ss) job) (sym (bare_append xs ys)) (known_longer P (run_of P (bare xs)) (bare ys) job was)

-- what is known stays so while more is seen
pub open_longer : (o n : Seated) → n.program ≡ o.program → Begins o.seen n.seen → (job : TurnSoFar) → IsSeenOpen o job → IsSeenOpen n job
open_longer o n p b job was =
    subst (λ (P : Program). WasOpenJob P (run_of P (bare n.seen)) job) (sym p)
    (subst (λ (xs : List (Step × ℕ)). WasOpenJob o.program (run_of o.program (bare xs)) job) (sym b.1) (seen_further o.program o.seen b.0 job was))

all_longer : (o n : Seated) → n.program ≡ o.program → Begins o.seen n.seen → (jobs : List TurnSoFar) → All (IsSeenOpen o) jobs → All (IsSeenOpen n) jobs
all_longer o n p b jobs all = All-weaker (IsSeenOpen o) (IsSeenOpen n) (λ job was. open_longer o n p b job was) jobs all

-- it is known of a book in the seat's turn
pub known_then : (s : Seated) (others : List (Step × ℕ)) (b : Booked) → IsBookAt s (s.seen ++ others) b → (job : TurnSoFar) → IsSeenOpen s job → IsKnown b job
known_then s others b at job was =
    let is : b.system ≡ record { program = s.program; run = run_of s.program (bare (s.seen ++ others)) } = λ i. record { program = at.program_is i; run = at.run_is i } in
    subst (λ (c : Core). WasOpenJob c.program c.run job) (sym is) (seen_further s.program s.seen others job was)

-- and what is known of the book after the turn is known of what the seat has seen then
seen_then : (old new : Seated) (b : Booked) → new.program ≡ old.program → IsBookAt old new.seen b → (job : TurnSoFar) → IsKnown b job → IsSeenOpen new job
seen_then old new b p at job was = subst (λ (c : Core). WasOpenJob c.program c.run job) (core_at old new b p at) was

vouched_weaker : (V W : TurnSoFar → Type 0) → ((job : TurnSoFar) → V job → W job) → (answer : Next) → IsVouched V answer → IsVouched W answer
vouched_weaker V W f nexts.Complete v = tt
vouched_weaker V W f nexts.Stopped v = tt
vouched_weaker V W f (nexts.Idle out) v = tt
vouched_weaker V W f (nexts.Work job) v = f job v
vouched_weaker V W f nexts.Stepped v = tt

-- a turn in which `next` was called, of a book to which no job had come back where the seat goes on to know
abbrev pub IsNextTurn : Type 0 → Seated → Seated → Held → Held → Next → Type 0
IsNextTurn Knows old new h k answer = IsTurn old new (λ b c. IsNext b c h k answer × (Knows → b.store ≡ []))

module _ (law : NextHandsOnKnown) (old new : Seated) (h k : Held) (Knows : Type 0) (p : new.program ≡ old.program) where
  next_turn : (answer : Next) → IsNextTurn Knows old new h k answer → Knows → All (IsSeenOpen old) h.jobs → All (IsSeenOpen new) k.jobs × IsVouched (IsSeenOpen new) answer
  next_turn answer t knows all =
      let before : All (IsKnown t.before) h.jobs = All-weaker (IsSeenOpen old) (IsKnown t.before) (λ job was. known_then old t.others t.before t.before_is job was) h.jobs all in
      let after = law t.before t.after h k answer t.called.0 (t.called.1 knows) before in
      let seen : (job : TurnSoFar) → IsKnown t.after job → IsSeenOpen new job = λ job was. seen_then old new t.after p t.after_is job was in
      (All-weaker (IsKnown t.after) (IsSeenOpen new) seen k.jobs after.0, vouched_weaker (IsKnown t.after) (IsSeenOpen new) seen answer after.1)

  -- what a seat knows after `next`, of the jobs of the hand and of the one that is handed out
  pub next_known : {E : Type 0} (r : Result Next E) → Begins old.seen new.seen → IfOk r (IsNextTurn Knows old new h k) → OnErr r (k ≡ h) → Knows → All (IsSeenOpen old) h.jobs → All (IsSeenOpen new) k.jobs × IfOk r (IsVouched (IsSeenOpen new))
  next_known (Ok answer) b ok err knows all = next_turn answer ok knows all
  next_known (Err e) b ok err knows all = (All-same (IsSeenOpen new) k.jobs h.jobs (ap (λ (x : Held). x.jobs) err) (all_longer old new p b h.jobs all), tt)

module _ (law : ActHandsOnKnown) (old new : Seated) (h k : Held) (pending : TurnSoFar) (p : new.program ≡ old.program) where
  told_turn : (answer : Told) → IsTurn old new (λ b c. IsTold b c h k pending answer) → All (IsSeenOpen old) h.jobs → All (IsSeenOpen new) k.jobs
  told_turn answer t all =
      let before : All (IsKnown t.before) h.jobs = All-weaker (IsSeenOpen old) (IsKnown t.before) (λ job was. known_then old t.others t.before t.before_is job was) h.jobs all in
      All-weaker (IsKnown t.after) (IsSeenOpen new) (λ job was. seen_then old new t.after p t.after_is job was) k.jobs (law t.before t.after h k pending answer t.called before)

  -- and after `act`, of the jobs of the hand
  pub told_known : {E : Type 0} (r : Result Told E) → Begins old.seen new.seen → IfOk r (λ a. IsTurn old new (λ b c. IsTold b c h k pending a)) → OnErr r (k ≡ h) → All (IsSeenOpen old) h.jobs → All (IsSeenOpen new) k.jobs
  told_known (Ok answer) b ok err all = told_turn answer ok all
  told_known (Err e) b ok err all = All-same (IsSeenOpen new) k.jobs h.jobs (ap (λ (x : Held). x.jobs) err) (all_longer old new p b h.jobs all)

-- For which jobs a place vouches.

module _ (o n : Placed) (knew : IsTrue n.knows → IsTrue o.knows) where
  pub vouched_longer : n.seat.program ≡ o.seat.program → Begins o.seat.seen n.seat.seen → (job : TurnSoFar) → Vouches o job → Vouches n job
  vouched_longer p b job v = λ knows. open_longer o.seat n.seat p b job (v (knew knows))

  all_seen : (jobs : List TurnSoFar) → IsTrue n.knows → All (Vouches o) jobs → All (IsSeenOpen o.seat) jobs
  all_seen jobs knows all = All-weaker (Vouches o) (IsSeenOpen o.seat) (λ job v. v (knew knows)) jobs all

  pub vouched_jobs : (js ks : List TurnSoFar) → (IsTrue n.knows → All (IsSeenOpen o.seat) js → All (IsSeenOpen n.seat) ks) → All (Vouches o) js → All (Vouches n) ks
  vouched_jobs js ks known all = λ k d l. λ knows. known knows (all_seen js knows all) k d l

  pub vouched_answer : (js : List TurnSoFar) (answer : Next) → (IsTrue n.knows → All (IsSeenOpen o.seat) js → IsVouched (IsSeenOpen n.seat) answer) → All (Vouches o) js → IsVouched (Vouches n) answer
  vouched_answer js nexts.Complete known all = tt
  vouched_answer js nexts.Stopped known all = tt
  vouched_answer js (nexts.Idle out) known all = tt
  vouched_answer js (nexts.Work job) known all = λ knows. known knows (all_seen js knows all)
  vouched_answer js nexts.Stepped known all = tt

  pub vouched_work : {E : Type 0} (js : List TurnSoFar) (r : Result Next E) → (IsTrue n.knows → All (IsSeenOpen o.seat) js → IfOk r (IsVouched (IsSeenOpen n.seat))) → All (Vouches o) js → IfOk r (IsVouched (Vouches n))
  vouched_work js (Ok answer) known all = vouched_answer js answer known all
  vouched_work js (Err e) known all = tt
