-- There is one run after a run, and so one serial run: what comes about is determined step by step, and nothing after a complete run.
use Rattle.std.proofs.Common.{◌≡◌, ◌⊎◌, ◌↔◌, inl, inr, ⊎_elim, ℕ, zero, suc, ◌%◌, ◌<◌, ◌≤◌, Bool, true, false, Some, None, List, [], ◌∷◌, length, map, refl, sym, ap, ◌∙◌, subst, arith}
use Rattle.std.specs.List.{Contains}
use Rattle.std.specs.Prelude.{slice_get, nat_lt, if◌then◌else◌}
use Rattle.rand_pcg.specs.Lcg.{Lcg}
use Rattle.rand_pcg.specs.Pcg.{pcg32}
use Rattle.tau_tree.specs.declared.programs.Program.{Program}
use Rattle.tau_trace.specs.declared.step.Step.{Step}
use Rattle.tau_trace.specs.Run.{Run, len, appended}
use Rattle.tau_trace.proofs.Indexing.{len-appended}
use Rattle.tau_trace.proofs.Lists.{same_some}
use Rattle.tau_trace.proofs.Sequences.{cases_last}
use Rattle.tau_script.specs.Openings.{program_opening}
use Rattle.tau_script.specs.Scripts.{DueStep, NoneDue}
use Rattle.tau_script.proofs.Determined.{one_step}
use Rattle.tau_legal.specs.Traces.{Complete}
use Rattle.tau_trace.specs.Steps.{received_by}
use Rattle.tau_check.specs.Families.{turn_of}
use Rattle.tau_check.proofs.FamilyLemmas.{one_receipt, one_turn_step}
use Rattle.tau_check.proofs.Once.{same_taker}
use Rattle.tau_check.proofs.TurnSteps.{acts_in_turn}
use Rattle.tau_queue.proofs.Members.{contains_nothing, contains_here, contains_there, contains_cases}
use Rattle.tau_book.specs.Laws.{SerialRunIsUnique, RunAfterIsUnique}
use Rattle.tau_book.specs.SerialRun.{IsSerialRun, ComesAbout, Choosable, turn, message, AreOptions, IsReceipt, take, drop, fall, void, echo, heed, IsStepOf, of_turn, of_message}
use Rattle.tau_book.specs.SerialRun as serial
use Rattle.tau_book.specs.Alone.{own_of, left_of, AreOwnOptions, ComesAfter, begins, due, chooses, IsRunAfter}
use Rattle.tau_book.proofs.Chosen.{options_of}
use Rattle.tau_book.proofs.Counts.{AreAscending}
use Rattle.tau_book.proofs.Own.{ascending_tail}
use Rattle.tau_book.proofs.Works.{no_turns, none_waits, all_own}

-- ascending numbers with the same members are the same list
ascending_head : (x y : ℕ) (xs : List ℕ) → AreAscending (x ∷ xs) → Contains xs y → x < y
ascending_head x y xs h c = omega (arith, h 0 (suc c.0) y (omega arith) (omega (arith, c.1)), c.2)

first_least : (x y : ℕ) (xs : List ℕ) → AreAscending (x ∷ xs) → Contains (x ∷ xs) y → x ≤ y
first_least x y xs h c = ⊎_elim (λ (e : x ≡ y). omega (arith, e)) (λ (d : Contains xs y). omega (arith, ascending_head x y xs h d)) (contains_cases x y xs c)

member_behind : (x y q : ℕ) (xs ys : List ℕ) → x ≡ y → AreAscending (x ∷ xs) → Contains (y ∷ ys) q → Contains xs q → Contains ys q
member_behind x y q xs ys same h c d =
    ⊎_elim (λ (e : y ≡ q). absurd (omega (arith, ascending_head x q xs h d, same, e))) (λ (k : Contains ys q). k) (contains_cases y q ys c)

same_members : (xs ys : List ℕ) → AreAscending xs → AreAscending ys → ((q : ℕ) → Contains xs q ↔ Contains ys q) → xs ≡ ys
same_members [] [] a b same = refl
same_members [] (y ∷ ys) a b same = absurd (contains_nothing y ((same y).1 (contains_here y ys)))
same_members (x ∷ xs) [] a b same = absurd (contains_nothing x ((same x).0 (contains_here x xs)))
same_members (x ∷ xs) (y ∷ ys) a b same =
    let above : y ≤ x = first_least y x ys b ((same x).0 (contains_here x xs)) in
    let below : x ≤ y = first_least x y xs a ((same y).1 (contains_here y ys)) in
    let head : x ≡ y = omega (arith, above, below) in
    let rest : xs ≡ ys = same_members xs ys (ascending_tail x xs a) (ascending_tail y ys b)
    (λ q. (λ c. member_behind x y q xs ys head a ((same q).0 (contains_there x q xs c)) c, λ c. member_behind y x q ys xs (sym head) b ((same q).1 (contains_there y q ys c)) c)) in
    λ i. head i ∷ rest i

no_members : (xs : List ℕ) → ((q : ℕ) → ¬ Contains xs q) → xs ≡ []
no_members [] none = refl
no_members (x ∷ xs) none = absurd (none x (contains_here x xs))

-- the turns that wait on and the options are one list each, and there are no options after a complete run
module _ (T : Run) (jobs : ℕ) (waiting l r : List ℕ) (os qs : List Choosable) (a : AreOwnOptions T jobs waiting l os) (b : AreOwnOptions T jobs waiting r qs) where
  turns_agree : a.turns ≡ b.turns
  turns_agree = same_members a.turns b.turns a.turns_are.ascending b.turns_are.ascending
      (λ q. (λ c. (b.turns_are.each q).1 ((a.turns_are.each q).0 c), λ c. (a.turns_are.each q).1 ((b.turns_are.each q).0 c)))

  messages_agree : a.messages ≡ b.messages
  messages_agree = same_members a.messages b.messages a.messages_are.ascending b.messages_are.ascending
      (λ q. (λ c. (b.messages_are.each q).1 ((a.messages_are.each q).0 c), λ c. (a.messages_are.each q).1 ((b.messages_are.each q).0 c)))

  left_agree : l ≡ r
  left_agree = a.left_is ∙ (λ i. left_of (turns_agree i) jobs waiting) ∙ sym b.left_is

  options_agree : os ≡ qs
  options_agree = a.options_are ∙ (λ i. options_of (own_of (turns_agree i) (left_agree i)) (messages_agree i) jobs) ∙ sym b.options_are

nothing_either : (b : Bool) → (if b then map message [] else []) ≡ []
nothing_either true = refl
nothing_either false = refl

no_options : (P : Program) (T : Run) (jobs : ℕ) (waiting left : List ℕ) (os : List Choosable) → Complete P T → AreOwnOptions T jobs waiting left os → os ≡ []
no_options P T jobs waiting left os whole a =
    let turns : a.turns ≡ [] = no_members a.turns (λ q c. let f = (a.turns_are.each q).0 c in whole.no_turn f.who q f.message f.turn) in
    let messages : a.messages ≡ [] = no_members a.messages (λ q c. whole.none_in_flight q ((a.messages_are.each q).0 c).in_flight) in
    a.options_are ∙ (λ i. options_of (own_of (turns i) left) (messages i) jobs) ∙ nothing_either (nat_lt 0 jobs)

-- what an option gives is one step
received : (t m : ℕ) (s : Step) → IsReceipt t m s → received_by s ≡ Some m
received t m s take = refl
received t m s drop = refl
received t m s fall = refl
received t m s void = refl
received t m s echo = refl
received t m s heed = refl

same_step : (P : Program) (T : Run) (c : Choosable) (s r : Step) → T.opening ≡ program_opening P → IsStepOf P T c s → IsStepOf P T c r → s ≡ r
same_step P T (turn place) s r opens (of_turn {t = t} {m = m} u h) (of_turn {t = w} {m = n} v k) =
    let who : t ≡ w = same_taker t w m n (same_some (sym u.takes ∙ v.takes)) in
    let own : turn_of s ≡ Some w = subst (λ x. turn_of s ≡ Some x) who (acts_in_turn s t h.by h.of_turn) in
    one_turn_step P T (len T) w s r opens own (acts_in_turn r w k.by k.of_turn) h.fits k.fits
same_step P T (message m) s r opens (of_message {t = t} a f) (of_message {t = w} b g) = one_receipt P T (len T) m s r (received t m s a) (received w m r b) f g

-- the opening stays, and the steps become no fewer
opens_so : (P : Program) (jobs seed : ℕ) (start T : Run) (w : List ℕ) (g : Lcg) → ComesAfter P jobs seed start T w g → T.opening ≡ start.opening
opens_so P jobs seed start T w g (begins are) = refl
opens_so P jobs seed start T w g (due {T = U} {g = h} a d) = opens_so P jobs seed start U w h a
opens_so P jobs seed start T w g (chooses {T = U} {waiting = v} {g = h} a n o k f) = opens_so P jobs seed start U v h a

longer : (P : Program) (jobs seed : ℕ) (start T : Run) (w : List ℕ) (g : Lcg) → ComesAfter P jobs seed start T w g → len start ≤ len T
longer P jobs seed start T w g (begins are) = omega arith
longer P jobs seed start T w g (due {T = U} {g = h} {s = s} a d) = omega (arith, longer P jobs seed start U w h a, len-appended U s)
longer P jobs seed start T w g (chooses {T = U} {waiting = v} {g = h} {s = s} a n o k f) = omega (arith, longer P jobs seed start U v h a, len-appended U s)

module _ (P : Program) (jobs seed : ℕ) (start : Run) (opening : start.opening ≡ program_opening P) where
  -- after equal runs, waiting turns and generators, what comes about is equal
  dues_agree : (S T : Run) (s r : Step) → S ≡ T → DueStep P.script S (len S) s → DueStep P.script T (len T) r → s ≡ r
  dues_agree S T s r same c d = same_some (one_step P.script T (len T) (Some s) (Some r) (subst (λ X. DueStep P.script X (len X) s) same c) d)

  not_either : (S T : Run) (s : Step) → S ≡ T → DueStep P.script S (len S) s → NoneDue P.script T (len T) → ⊥
  not_either S T s same c d =
      let e : Some s ≡ None = one_step P.script T (len T) (Some s) None (subst (λ X. DueStep P.script X (len X) s) same c) d in
      cc

  same_options : (S T : Run) (v w l r : List ℕ) (os qs : List Choosable) → S ≡ T → v ≡ w → AreOwnOptions S jobs v l os → AreOwnOptions T jobs w r qs → (l ≡ r) × (os ≡ qs)
  same_options S T v w l r os qs same waits o p =
      let q : AreOwnOptions T jobs w l os = subst (λ X. AreOwnOptions X jobs w l os) same (subst (λ ns. AreOwnOptions S jobs ns l os) waits o) in
      (left_agree T jobs w l r os qs q p, options_agree T jobs w l r os qs q p)

  choices_agree : (S T : Run) (g h : Lcg) (os qs : List Choosable) (a b : Choosable) (s r : Step) → T.opening ≡ program_opening P → S ≡ T → g ≡ h → os ≡ qs
      → slice_get os ((pcg32 g).0 % length os) ≡ Some a → slice_get qs ((pcg32 h).0 % length qs) ≡ Some b → IsStepOf P S a s → IsStepOf P T b r → s ≡ r
  choices_agree S T g h os qs a b s r opens same words all k l x y =
      let chosen : a ≡ b = same_some (sym k ∙ (λ i. slice_get (all i) ((pcg32 (words i)).0 % length (all i))) ∙ l) in
      same_step P T b s r opens (subst (λ X. IsStepOf P X b s) same (subst (λ c. IsStepOf P S c s) chosen x)) y

  -- so of each length one run comes about
  agree : (S T : Run) (v w : List ℕ) (g h : Lcg) → ComesAfter P jobs seed start S v g → ComesAfter P jobs seed start T w h → len S ≡ len T → (S ≡ T) × (v ≡ w) × (g ≡ h)
  agree S T v w g h (begins are) (begins be) e = (refl, same_members v w are.ascending be.ascending (λ q. (λ c. (be.each q).1 ((are.each q).0 c), λ c. (are.each q).1 ((be.each q).0 c))), refl)
  agree S T v w g h (begins are) (due {T = U} {g = y} {s = r} b d) e = absurd (omega (arith, e, len-appended U r, longer P jobs seed start U w y b))
  agree S T v w g h (begins are) (chooses {T = U} {waiting = before} {g = y} {s = r} b n o k f) e = absurd (omega (arith, e, len-appended U r, longer P jobs seed start U before y b))
  agree S T v w g h (due {T = V} {g = x} {s = s} a c) (begins be) e = absurd (omega (arith, e, len-appended V s, longer P jobs seed start V v x a))
  agree S T v w g h (chooses {T = V} {waiting = before} {g = x} {s = s} a n o k f) (begins be) e = absurd (omega (arith, e, len-appended V s, longer P jobs seed start V before x a))
  agree S T v w g h (due {T = V} {g = x} {s = s} a c) (due {T = U} {g = y} {s = r} b d) e =
      let before = agree V U v w x y a b (omega (arith, e, len-appended V s, len-appended U r)) in
      let step = dues_agree V U s r before.0 c d in
      ((λ i. appended (before.0 i) (step i)), before.1, before.2)
  agree S T v w g h (due {T = V} {g = x} {s = s} a c) (chooses {T = U} {waiting = m} {g = y} {s = r} b n o k f) e =
      let before = agree V U v m x y a b (omega (arith, e, len-appended V s, len-appended U r)) in
      absurd (not_either V U s before.0 c n)
  agree S T v w g h (chooses {T = V} {waiting = m} {g = x} {s = s} a n o k f) (due {T = U} {g = y} {s = r} b d) e =
      let before = agree V U m w x y a b (omega (arith, e, len-appended V s, len-appended U r)) in
      absurd (not_either U V r (sym before.0) d n)
  agree S T v w g h (chooses {T = V} {waiting = m} {g = x} {s = s} {options = os} {chosen = p} a n o k f) (chooses {T = U} {waiting = j} {g = y} {s = r} {options = qs} {chosen = q} b z u l t) e =
      let before = agree V U m j x y a b (omega (arith, e, len-appended V s, len-appended U r)) in
      let same = same_options V U m j v w os qs before.0 before.1 o u in
      let step = choices_agree V U x y os qs p q s r (opens_so P jobs seed start U j y b ∙ opening) before.0 before.2 same.1 k l f t in
      ((λ i. appended (before.0 i) (step i)), same.0, (λ i. (pcg32 (before.2 i)).1))

  -- nothing comes about after a complete run
  none_due_after : (S T : Run) (s : Step) → Complete P S → S ≡ T → DueStep P.script T (len T) s → ⊥
  none_due_after S T s whole same d = not_either T S s (sym same) d whole.none_due

  none_chosen_after : (S T : Run) (w l : List ℕ) (os : List Choosable) (k : ℕ) (c : Choosable) → Complete P S → S ≡ T → AreOwnOptions T jobs w l os → slice_get os k ≡ Some c → ⊥
  none_chosen_after S T w l os k c whole same o got =
      let nothing : os ≡ [] = no_options P T jobs w l os (subst (λ X. Complete P X) same whole) o in
      let e : None ≡ Some c = ap (λ xs. slice_get xs k) (sym nothing) ∙ got in
      cc

  ends_there : (S T : Run) (v w : List ℕ) (g h : Lcg) → ComesAfter P jobs seed start S v g → ComesAfter P jobs seed start T w h → Complete P S → len S < len T → ⊥
  ends_there S T v w g h a (begins be) whole less = omega (arith, less, longer P jobs seed start S v g a)
  ends_there S T v w g h a (due {T = U} {g = y} {s = r} b d) whole less =
      ⊎_elim
      (λ (e : len S ≡ len U). none_due_after S U r whole (agree S U v w g y a b e).0 d)
      (λ (l : len S < len U). ends_there S U v w g y a b whole l)
      (cases_last (len S) (len U) (omega (arith, less, len-appended U r)))
  ends_there S T v w g h a (chooses {T = U} {waiting = m} {g = y} {s = r} {options = os} {chosen = c} b n o k f) whole less =
      ⊎_elim
      (λ (e : len S ≡ len U). none_chosen_after S U m w os ((pcg32 y).0 % length os) c whole (agree S U v m g y a b e).0 o k)
      (λ (l : len S < len U). ends_there S U v m g y a b whole l)
      (cases_last (len S) (len U) (omega (arith, less, len-appended U r)))

  not_shorter : (limit : ℕ) (S T : Run) → IsRunAfter P jobs seed limit start S → IsRunAfter P jobs seed limit start T → len S < len T → ⊥
  not_shorter limit S T a b less =
      ⊎_elim
      (λ (whole : Complete P S). ends_there S T a.waiting b.waiting a.generator b.generator a.comes_after b.comes_after whole less)
      (λ (e : len S ≡ limit). omega (arith, less, e, b.within))
      a.ends

compare : (m n : ℕ) → (m ≡ n) ⊎ ((m < n) ⊎ (n < m))
compare zero zero = inl refl
compare zero (suc n) = inr (inl (omega arith))
compare (suc m) zero = inr (inr (omega arith))
compare (suc m) (suc n) =
    ⊎_elim
    (λ (e : m ≡ n). inl (ap suc e))
    (λ (d : (m < n) ⊎ (n < m)). inr (⊎_elim (λ (l : m < n). inl (omega (arith, l))) (λ (l : n < m). inr (omega (arith, l))) d))
    (compare m n)

-- there is one run after a run
one_after : (P : Program) (jobs seed limit : ℕ) (start S T : Run) → start.opening ≡ program_opening P → IsRunAfter P jobs seed limit start S → IsRunAfter P jobs seed limit start T → S ≡ T
one_after P jobs seed limit start S T opening a b =
    ⊎_elim
    (λ (e : len S ≡ len T). (agree P jobs seed start opening S T a.waiting b.waiting a.generator b.generator a.comes_after b.comes_after e).0)
    (λ (d : (len S < len T) ⊎ (len T < len S)). absurd (⊎_elim
    (λ (l : len S < len T). not_shorter P jobs seed start opening limit S T a b l)
    (λ (l : len T < len S). not_shorter P jobs seed start opening limit T S b a l)
    d))
    (compare (len S) (len T))

pub one_run_after : RunAfterIsUnique
one_run_after P jobs seed limit start S T legal a b = one_after P jobs seed limit start S T legal.opening a b

-- the serial run is that after the run without steps
module _ (P : Program) (jobs seed : ℕ) where
  abbrev no_steps : Run
  no_steps = record { opening = program_opening P; steps = [] }

  own_options : (T : Run) (os : List Choosable) → AreOptions T jobs os → AreOwnOptions T jobs [] [] os
  own_options T os o = record {
    turns = o.turns;
    turns_are = o.turns_are;
    messages = o.messages;
    messages_are = o.messages_are;
    left_is = sym (none_waits o.turns jobs);
    options_are = o.options_are ∙ (λ i. options_of (sym (all_own o.turns) i) o.messages jobs);
  }

  as_after : (T : Run) (g : Lcg) → ComesAbout P jobs seed T g → ComesAfter P jobs seed no_steps T [] g
  as_after T g serial.begins = begins (no_turns no_steps refl)
  as_after T g (serial.due {T = U} {g = h} a d) = due (as_after U h a) d
  as_after T g (serial.chooses {T = U} {g = h} {options = os} a n o k f) = chooses (as_after U h a) n (own_options U os o) k f

  run_after : (limit : ℕ) (T : Run) → IsSerialRun P jobs seed limit T → IsRunAfter P jobs seed limit no_steps T
  run_after limit T a = record { waiting = []; generator = a.generator; comes_after = as_after T a.generator a.comes_about; within = a.within; ends = a.ends }

-- so there is one serial run
pub one_serial_run : SerialRunIsUnique
one_serial_run P jobs seed limit S T a b = one_after P jobs seed limit (no_steps P jobs seed) S T refl (run_after P jobs seed limit S a) (run_after P jobs seed limit T b)
