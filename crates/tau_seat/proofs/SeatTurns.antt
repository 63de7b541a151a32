-- What turns and joins do to a seat, as contracts see it.
use Rattle.std.proofs.Common.{◌≡◌, ℕ, ◌<◌, ◌≤◌, Bool, true, false, true≢false, List, [], ◌∷◌, ◌++◌, length, Option, Some, append_assoc, arith, refl, sym, ap, ◌∙◌, subst}
use Rattle.std.specs.Prelude.{unwrap_or, Result, Ok, Err, IfOk}
use Rattle.atomic_table.specs.Table.{Me}
use Rattle.atomic_table.specs.Seated.{TableId}
use Rattle.tau_trace.specs.declared.step.Step.{Step}
use Rattle.tau_script.specs.Openings.{program_opening}
use Rattle.tau_legal.specs.Traces.{Complete}
use Rattle.tau_rules.specs.System.{Core}
use Rattle.tau_book.specs.declared.answers.Next.{Next}
use Rattle.tau_book.specs.declared.answers.Next.TheVariants as nexts
use Rattle.tau_book.specs.Hands.{Held}
use Rattle.tau_book.specs.Nexts.{IsNext}
use Rattle.tau_book.specs.Books.{Booked, IsBook, IsComplete, IsAtLimit}
use Rattle.tau_seat.specs.declared.view.SeatView.{SeatView}
use Rattle.tau_seat.specs.declared.view.Named.{Named}
use Rattle.tau_seat.specs.Rule.{first_view}
use Rattle.tau_seat.specs.Lists.{bare, Begins, Behind}
use Rattle.tau_seat.specs.Plays.{waiting, serving, grown, resting, cleared, both_of, IsIdle, HasSeenSound, Takes}
use Rattle.tau_seat.specs.Turns as turns
use Rattle.tau_seat.specs.Keys.{Key, key_of, steps_of, run_of, IsSound}
use Rattle.tau_seat.specs.Seated.{Seated, seated, seen_run, IsSeat, Watches, Makes, Grows, IsBookAt, IsTurn, EndsWith}
use Rattle.tau_seat.proofs.Sums.{length_upto, bare_append, bare_snoc, length_bare, longer_numbers}
use Rattle.tau_seat.proofs.Turns.{watches, makes}
use Rattle.tau_seat.proofs.BookTurns.{Appends, same_key, one_step, no_step, book_sound}

key_named : (k : Key) (m : Option Key) (a b : Key) → m ≡ Some a → m ≡ Some b → a ≡ b
key_named k m a b x y = ap (λ o. unwrap_or o k) (sym x ∙ y)

pub join_keeps : (k : Key) (m w n : Me (Option Booked) (SeatView Key Step)) → IsSeat k m → n ≡ (cleared (both_of m.0 w.0), []) → HasSeenSound key_of steps_of IsSound n.0 → IsSeat k n
join_keeps k m w n s is sound =
    let names : n.0.names ≡ Some k = ap (λ x. x.0.names) is ∙ s.named in
    record {
      idle = (ap (λ x. x.0.tickets) is ∙ s.idle.0, ap (λ x. x.0.turn) is ∙ s.idle.1, ap (λ x. x.1) is);
      some = subst (λ x. 0 < length x.0.numbers) (sym is) (longer_numbers m.0.numbers w.0.numbers s.some);
      named = names;
      sound = subst (λ x. IsSound x (bare n.0.seen)) (key_named k n.0.names sound.0 k sound.1 names) sound.2;
    }

-- the first seat of a book without steps
pub first_seat : (n : Named Key) (k : Key) (b : Booked) (m : Me (Option Booked) (SeatView Key Step)) → m ≡ (first_view n, []) → n.key ≡ k → 1 ≤ n.count → key_of b ≡ k → IsBook b → steps_of b ≡ [] → IsSeat k m
first_seat n k b m is named some key book empty =
    subst (IsSeat k) (sym is) record {
      idle = (refl, refl, refl);
      some = (let l = length_upto 0 n.count in omega (arith, l, some));
      named = ap Some named;
      sound = subst (λ (x : Key). IsSound x []) key (subst (IsSound (key_of b)) empty (book_sound b book));
    }

-- a book of the key with these steps
book_at : (id : TableId) (k : Key) (v : SeatView Key Step) (steps : List (Step × ℕ)) (b : Booked) → IsBook b → key_of b ≡ k → steps_of b ≡ bare steps → IsBookAt (seated id k v) steps b
book_at id k v steps b h key its =
    let program : b.system.program ≡ k.program = ap (λ x. x.program) key in
    record {
      is_book = h;
      program_is = program;
      limit_is = ap (λ x. x.limit) key;
      run_is = λ i. record { opening = (h.legal.opening ∙ ap program_opening program) i; steps = its i };
    }

-- the book behind the address that was taken out is the one that was taken
pub taken_as : (m n : Me (Option Booked) (SeatView Key Step)) (b d : Booked) → b ≡ d → Takes key_of steps_of IsSound m.0 d n → Takes key_of steps_of IsSound m.0 b n
taken_as m n b d is t = subst (λ (x : Booked). Takes key_of steps_of IsSound m.0 x n) (sym is) t

-- the book that is out has in its turn the steps that the seat had seen, and then others'
pub book_taken : (id : TableId) (k : Key) (m n : Me (Option Booked) (SeatView Key Step)) (b : Booked) → IsSeat k m → (t : Takes key_of steps_of IsSound m.0 b n) → IsBook b → IsBookAt (seated id k m.0) (m.0.seen ++ t.3.0) b
book_taken id k m n b s t is_b = book_at id k m.0 (m.0.seen ++ t.3.0) b is_b (key_named k m.0.names (key_of b) k t.4 s.named) (t.5 ∙ ap bare t.3.1)

module _ (id id' : TableId) (k : Key) (m : Me (Option Booked) (SeatView Key Step)) (b c : Booked) (n p : Me (Option Booked) (SeatView Key Step)) where
  -- after the turn the seat has made a step, or none
  pub seat_grows : (g : Bool) → IsSeat k m → Takes key_of steps_of IsSound m.0 b n
      → (g ≡ true → (e : Step) × (steps_of c ≡ bare n.0.seen ++ e ∷ []) × (p ≡ (resting (grown n.0 e), []))) → (g ≡ false → p ≡ (resting n.0, []))
      → Grows g (seated id k m.0) (seated id' k p.0)
  seat_grows true s t grew stayed =
      let r = grew refl in
      let d = makes key_of steps_of IsSound m.0 b n p r.0 s.some t r.2 in
      let q = d.1 in
      record { others = q.0; step = r.0; owner = q.1; seen_is = q.2; owner_is = q.3; mine_is = q.4 }
  seat_grows false s t grew stayed =
      let d = watches key_of steps_of IsSound m.0 b n p t (stayed refl) in
      let q = d.1 in
      record { others = q.0; seen_is = q.1; mine_is = q.2 }

  -- the book may be put back
  pub put_value : (g : Bool) → Takes key_of steps_of IsSound m.0 b n → IsBook c → Appends g b c → (n.0.names ≡ Some (key_of c)) × IsSound (key_of c) (steps_of c)
  put_value g t is_c a = (ap (λ (x : Me (Option Booked) (SeatView Key Step)). x.0.names) t.2 ∙ t.4 ∙ ap Some (sym (same_key g b c a)), book_sound c is_c)

  pub put_grew : (g : Bool) → Takes key_of steps_of IsSound m.0 b n → Appends g b c → g ≡ true → (e : Step) × (steps_of c ≡ bare n.0.seen ++ e ∷ [])
  put_grew g t a made =
      let one = one_step g b c a made in
      (one.0, one.1 ∙ ap (λ l. l ++ one.0 ∷ []) (t.5 ∙ ap (λ (x : Me (Option Booked) (SeatView Key Step)). bare x.0.seen) (sym t.2)))

  its_steps : (g : Bool) → Takes key_of steps_of IsSound m.0 b n → Appends g b c
      → (g ≡ true → (e : Step) × (steps_of c ≡ bare n.0.seen ++ e ∷ []) × (p ≡ (resting (grown n.0 e), []))) → (g ≡ false → p ≡ (resting n.0, []))
      → steps_of c ≡ bare p.0.seen
  its_steps true t a grew stayed =
      let r = grew refl in
      r.1 ∙ sym (bare_snoc n.0.seen r.0 _) ∙ ap (λ (x : Me (Option Booked) (SeatView Key Step)). bare x.0.seen) (sym r.2)
  its_steps false t a grew stayed =
      no_step false b c a refl ∙ t.5 ∙ ap (λ (x : Me (Option Booked) (SeatView Key Step)). bare x.0.seen) (sym t.2) ∙ ap (λ (x : Me (Option Booked) (SeatView Key Step)). bare x.0.seen) (sym (stayed refl))

  -- the call of the turn is one on the book
  pub seat_turn : (g : Bool) (call : Booked → Booked → Type 0) → IsSeat k m → Takes key_of steps_of IsSound m.0 b n → IsBook b → IsBook c → Appends g b c
      → (g ≡ true → (e : Step) × (steps_of c ≡ bare n.0.seen ++ e ∷ []) × (p ≡ (resting (grown n.0 e), []))) → (g ≡ false → p ≡ (resting n.0, []))
      → call b c → IsTurn (seated id k m.0) (seated id' k p.0) call
  seat_turn g call s t is_b is_c a grew stayed called =
      let key : key_of b ≡ k = key_named k m.0.names (key_of b) k t.4 s.named in
      record {
        others = t.3.0;
        before = b;
        after = c;
        before_is = book_taken id k m n b s t is_b;
        after_is = book_at id k m.0 p.0.seen c is_c (same_key g b c a ∙ key) (its_steps g t a grew stayed);
        called = called;
      }

  is_idle : (g : Bool) → (g ≡ true → (e : Step) × (steps_of c ≡ bare n.0.seen ++ e ∷ []) × (p ≡ (resting (grown n.0 e), []))) → (g ≡ false → p ≡ (resting n.0, []))
      → IsIdle p × (p.0.numbers ≡ n.0.numbers) × (p.0.names ≡ n.0.names)
  is_idle true grew stayed =
      let is = (grew refl).2 in
      ((ap (λ x. x.0.tickets) is, ap (λ x. x.0.turn) is, ap (λ x. x.1) is), ap (λ x. x.0.numbers) is, ap (λ x. x.0.names) is)
  is_idle false grew stayed =
      let is = stayed refl in
      ((ap (λ x. x.0.tickets) is, ap (λ x. x.0.turn) is, ap (λ x. x.1) is), ap (λ x. x.0.numbers) is, ap (λ x. x.0.names) is)

  -- it is a seat again
  pub seat_keeps : (g : Bool) → IsSeat k m → Takes key_of steps_of IsSound m.0 b n → IsBook c → Appends g b c
      → (g ≡ true → (e : Step) × (steps_of c ≡ bare n.0.seen ++ e ∷ []) × (p ≡ (resting (grown n.0 e), []))) → (g ≡ false → p ≡ (resting n.0, []))
      → IsSeat k p
  seat_keeps g s t is_c a grew stayed =
      let key : key_of c ≡ k = same_key g b c a ∙ key_named k m.0.names (key_of b) k t.4 s.named in
      let i = is_idle g grew stayed in
      let numbers : p.0.numbers ≡ m.0.numbers = i.1 ∙ ap (λ (x : Me (Option Booked) (SeatView Key Step)). x.0.numbers) t.2 in
      record {
        idle = i.0;
        some = subst (λ (ns : List ℕ). 0 < length ns) (sym numbers) s.some;
        named = i.2 ∙ ap (λ (x : Me (Option Booked) (SeatView Key Step)). x.0.names) t.2 ∙ s.named;
        sound = subst (λ (x : Key). IsSound x (bare p.0.seen)) key (subst (IsSound (key_of c)) (its_steps g t a grew stayed) (book_sound c is_c));
      }

pub each_ok : {A E : Type 0} (r : Result A E) (P Q : A → Type 0) → ((a : A) → P a → Q a) → IfOk r P → IfOk r Q
each_ok (Ok a) P Q f h = f a h
each_ok (Err e) P Q f h = tt

pub core_at : (old new : Seated) (b : Booked) → new.program ≡ old.program → IsBookAt old new.seen b → b.system ≡ record { program = new.program; run = seen_run new }
core_at old new b p at = λ i. record { program = (at.program_is ∙ sym p) i; run = (at.run_is ∙ ap (λ P. run_of P (bare new.seen)) (sym p)) i }

pub grows_begin : (g : Bool) (old new : Seated) → Grows g old new → Begins old.seen new.seen
grows_begin true old new m = (m.others ++ (m.step, m.owner) ∷ [], m.seen_is ∙ append_assoc old.seen m.others ((m.step, m.owner) ∷ []))
grows_begin false old new w = (w.others, w.seen_is)

pub turn_ends : (h k : Held) (old new : Seated) (a : Next) → new.program ≡ old.program → new.limit ≡ old.limit → IsTurn old new (λ b c. IsNext b c h k a) → EndsWith new a
turn_ends h k old new nexts.Complete p l t =
    let at = t.after_is in
    let whole : IsComplete t.after = subst IsComplete (sym t.called.1) t.called.0 in
    subst (λ (x : Core). Complete x.program x.run) (core_at old new t.after p at) whole
turn_ends h k old new nexts.Stopped p l t =
    let at = t.after_is in
    let not : ¬ IsComplete t.after = subst (λ x. ¬ IsComplete x) (sym t.called.2) t.called.0 in
    let full : IsAtLimit t.after = subst IsAtLimit (sym t.called.2) t.called.1 in
    (subst (λ (x : Core). ¬ Complete x.program x.run) (core_at old new t.after p at) not, sym (length_bare new.seen) ∙ ap (λ x. length x.steps) (sym at.run_is) ∙ full ∙ at.limit_is ∙ sym l)
turn_ends h k old new (nexts.Idle out) p l t = tt
turn_ends h k old new (nexts.Work job) p l t = tt
turn_ends h k old new nexts.Stepped p l t = tt
