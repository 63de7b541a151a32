-- A job that was the record of a turn is it still, where the turn is open and has so many replies.
use Rattle.std.proofs.Common.{◌≡◌, ◌↔◌, ⊎_elim, ℕ, zero, suc, ◌<◌, ◌≤◌, Some, List, [], ◌∷◌, ◌++◌, length, take, refl, sym, ap, ◌∙◌, subst, arith, length-append}
use Rattle.std.proofs.Math.Seq.{take-length}
use Rattle.tau_value.specs.declared.shared.Value.{Value}
use Rattle.tau_value.specs.Val.{Val}
use Rattle.tau_tree.specs.declared.programs.Program.{Program}
use Rattle.tau_trace.specs.declared.step.Step.{Step}
use Rattle.tau_trace.specs.declared.step.Step.TheVariants.{Take}
use Rattle.tau_trace.specs.Run.{Run, Agree, len}
use Rattle.tau_trace.specs.Numbering.{born, sent}
use Rattle.tau_trace.specs.Known.{WellFormed}
use Rattle.tau_trace.specs.Turns.{Turn, IsOpenTurn}
use Rattle.tau_trace.proofs.Lists.{same_some}
use Rattle.tau_trace.proofs.Agreement.{agree_sym, born-grows, sent-grows}
use Rattle.tau_trace.proofs.Prefix.{prefix, agree_prefix, len-prefix}
use Rattle.tau_trace.proofs.Sequences.{cases_last}
use Rattle.tau_states.specs.Opening.{opening_states}
use Rattle.tau_eval.specs.Turn as jobs
use Rattle.tau_legal.specs.Turns.{RepliesOf, before, another, reply}
use Rattle.tau_legal.proofs.LocalLemmas.{body-same, value-same, replies_of-same}
use Rattle.tau_legal.proofs.StateLemmas.{well_formed_prefix}
use Rattle.tau_rules.specs.Answers.{IsOpenJob}
use Rattle.tau_rules.specs.declared.records.Record.{Record}
use Rattle.tau_rules.specs.Records.{IsRecord}
use Rattle.tau_rules.specs.KnownJobs.{WasOpenJob, IsAt}

-- the replies qs still stand at place n, where those there are no more
pub record Stand (T : Run) (opening : List Value) (t a n : ℕ) (qs rs : List Val) : Type 0 where
  pub at_most : length qs ≤ length rs
  pub same : length rs ≡ length qs → RepliesOf T opening t a n qs

module _ (T : Run) (opening : List Value) (t a : ℕ) where
  -- a turn has one number of replies
  as_many : (k : ℕ) (qs rs : List Val) → RepliesOf T opening t a k qs → RepliesOf T opening t a k rs → length qs ≡ length rs
  as_many k qs rs (before l) (before h) = refl
  as_many (suc k) qs rs (before l) (another h n g) = absurd (omega arith)
  as_many (suc k) qs rs (before l) (reply r h acts stands gives g) = absurd (omega arith)
  as_many (suc k) qs rs (another l n f) (before h) = absurd (omega arith)
  as_many (suc k) qs rs (another l n f) (another h o g) = as_many k qs rs f g
  as_many (suc k) qs rs (another l n f) (reply r h acts stands gives g) = absurd (n acts)
  as_many (suc k) qs rs (reply q l acts stands gives f) (before h) = absurd (omega arith)
  as_many (suc k) qs rs (reply q l acts stands gives f) (another h n g) = absurd (n acts)
  as_many (suc k) qs rs (reply {rs = xs} q l acts stands gives f) (reply {rs = ys} r h does there has g) =
      let e = as_many k xs ys f g in
      omega (arith, e, length-append xs (q ∷ []), length-append ys (r ∷ []))

  none_before : (k : ℕ) (qs : List Val) → k ≤ a → RepliesOf T opening t a k qs → qs ≡ []
  none_before k qs l (before h) = refl
  none_before (suc k) qs l (another h n g) = absurd (omega arith)
  none_before (suc k) qs l (reply r h acts stands gives g) = absurd (omega arith)

  at_end : (k : ℕ) (qs rs : List Val) → RepliesOf T opening t a k qs → RepliesOf T opening t a k rs → Stand T opening t a k qs rs
  at_end k qs rs f g =
      let e = as_many k qs rs f g in
      record { at_most = omega (arith, e); same = λ _. f }

  -- replies up to an earlier place, and as many up to a later one, are the same
  pub stand : (k n : ℕ) (qs rs : List Val) → k ≤ n → RepliesOf T opening t a k qs → RepliesOf T opening t a n rs → Stand T opening t a n qs rs
  stand k n qs rs l f (before h) =
      let none = none_before k qs (omega (arith, l, h)) f in
      record { at_most = omega (arith, ap length none); same = λ _. subst (RepliesOf T opening t a n) (sym none) (before h) }
  stand k (suc n) qs rs l f (another h o g) =
      ⊎_elim
      (λ (e : k ≡ suc n). at_end (suc n) qs rs (subst (λ i. RepliesOf T opening t a i qs) e f) (another h o g))
      (λ (b : k < suc n).
      let there = stand k n qs rs (omega (arith, b)) f g in
      record { at_most = there.at_most; same = λ e. another h o (there.same e) })
      (cases_last k (suc n) (omega (arith, l)))
  stand k (suc n) qs rs l f (reply {rs = ys} r h acts stands gives g) =
      ⊎_elim
      (λ (e : k ≡ suc n). at_end (suc n) qs rs (subst (λ i. RepliesOf T opening t a i qs) e f) (reply r h acts stands gives g))
      (λ (b : k < suc n).
      let there = stand k n qs ys (omega (arith, b)) f g in
      let more = length-append ys (r ∷ []) in
      record { at_most = omega (arith, there.at_most, more); same = λ e. absurd (omega (arith, there.at_most, more, e)) })
      (cases_last k (suc n) (omega (arith, l)))

same_taken : (t m n : ℕ) → Take t m ≡ Take t n → m ≡ n
same_taken t m n e = cc

module _ (P : Program) (T : Run) (job : jobs.TurnSoFar) (w : WellFormed T) (was : WasOpenJob P T job) (at : IsAt P T job) where
  abbrev k : ℕ
  k = was.moment

  abbrev F : Run
  F = prefix T k

  h : IsOpenJob P F job
  h = was.was_open

  v : WellFormed F
  v = well_formed_prefix T k w was.within

  long : len F ≡ k
  long = len-prefix T k was.within

  agree : Agree F T k
  agree = agree_sym (agree_prefix T k)

  within : job.place < k
  within = omega (arith, h.turn.before, long)

  taken : h.message ≡ at.message
  taken = same_taken job.who h.message at.message (same_some (sym h.turn.takes ∙ agree.steps job.place within ∙ at.turn.takes))

  exists : job.who < born F k
  exists = let known = v.known job.place (Take job.who h.message) h.turn.takes in omega (arith, known.0, born-grows F job.place k (omega (arith, within)))

  was_sent : h.message < sent F k
  was_sent = let known = v.known job.place (Take job.who h.message) h.turn.takes in omega (arith, known.1, sent-grows F job.place k (omega (arith, within)))

  so_far : RepliesOf T (opening_states P.starts) job.who (suc job.place) k job.replies
  so_far = replies_of-same (opening_states P.starts) job.who (suc job.place) k job.replies v w agree (subst (λ n. RepliesOf F (opening_states P.starts) job.who (suc job.place) n job.replies) long h.replies)

  pub open_still : IsOpenJob P T job
  open_still = record {
    message = h.message;
    turn = subst (Turn T job.who (len T) job.place) (sym taken) at.turn;
    body = body-same P job.who k job.body agree exists h.body;
    nodes = h.nodes;
    value = value-same P h.message k job.message agree was_sent h.value;
    replies = (stand T (opening_states P.starts) job.who (suc job.place) k (len T) job.replies at.replies was.within so_far at.replies_are).same at.as_many;
  }

-- a job that is the record of a turn has as many replies as the turn
pub open_at : (P : Program) (T : Run) (job : jobs.TurnSoFar) → IsOpenJob P T job → IsAt P T job
open_at P T job is = record { message = is.message; turn = is.turn; replies = job.replies; replies_are = is.replies; as_many = refl }

-- where the turn is open, its record tells how many replies it has
module _ (P : Program) (T : Run) (job : jobs.TurnSoFar) (t place : ℕ) (r : Record) (who : t ≡ job.who) (at : place ≡ job.place) (own : IsRecord P T t r) (opened : IsOpenTurn T t (len T) (Some place)) where
  abbrev opening : List Value
  opening = opening_states P.starts

  turn_is : Turn T job.who (len T) job.place opened.0
  turn_is = subst (λ w. Turn T w (len T) job.place opened.0) who (subst (λ p. Turn T t (len T) p opened.0) at opened.1)

  replies_are : RepliesOf T opening job.who (suc job.place) (len T) r.replies
  replies_are = subst (λ w. RepliesOf T opening w (suc job.place) (len T) r.replies) who (subst (λ p. RepliesOf T opening t (suc p) (len T) r.replies) at (own.turn place opened.0 opened.1).replies)

  pub counted : (length r.replies ≡ length job.replies) ↔ IsAt P T job
  counted = (
    λ e. record { message = opened.0; turn = turn_is; replies = r.replies; replies_are = replies_are; as_many = e },
    λ a. as_many T opening job.who (suc job.place) (len T) r.replies a.replies replies_are a.replies_are ∙ a.as_many,
  )

take_front : {A : Type 0} (k : ℕ) (xs ys : List A) → k ≤ length xs → take k (xs ++ ys) ≡ take k xs
take_front zero xs ys l = refl
take_front (suc k) [] ys l = absurd (omega (arith, l))
take_front (suc k) (x ∷ xs) ys l = ap (λ zs. x ∷ zs) (take_front k xs ys (omega (arith, l)))

pub known_longer : (P : Program) (T : Run) (more : List Step) (job : jobs.TurnSoFar) → WasOpenJob P T job → WasOpenJob P (record { opening = T.opening; steps = T.steps ++ more }) job
known_longer P T more job was = record {
  moment = was.moment;
  within = omega (arith, was.within, length-append T.steps more);
  was_open = subst (λ (ss : List Step). IsOpenJob P (record { opening = T.opening; steps = ss }) job) (sym (take_front was.moment T.steps more was.within)) was.was_open;
}

pub open_known : (P : Program) (T : Run) (job : jobs.TurnSoFar) → IsOpenJob P T job → WasOpenJob P T job
open_known P T job is = record {
  moment = len T;
  within = omega arith;
  was_open = subst (λ (ss : List Step). IsOpenJob P (record { opening = T.opening; steps = ss }) job) (sym (take-length T.steps)) is;
}
