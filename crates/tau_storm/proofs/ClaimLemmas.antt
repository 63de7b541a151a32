-- What a claim is asked.
use Rattle.std.proofs.Common.{◌≡◌, ◌⊎◌, inl, inr, ⊎_elim, ◌↔◌, ℕ, zero, suc, ◌+◌, ◌<◌, ◌≤◌, Bool, true, false, IsTrue, List, [], ◌∷◌, ◌++◌, length, length-append, Option, Some, None, refl, sym, ap, ◌∙◌, subst, arith}
use Rattle.std.specs.Prelude.{slice_get, slice_index_or, Result, Ok, Err, IfOk}
use Rattle.std.specs.declared.alloc.AllocError.{AllocError}
use Rattle.tau_tree.specs.Sound.{bodies}
use Rattle.std.proofs.lemmas.List.{length-map}
use Rattle.std.proofs.lemmas.Option.{slice_get_within, slice_get-get_or}
use Rattle.tau_history.specs.Timeline.{interval, opening as opened_history}
use Rattle.tau_value.specs.declared.shared.Value.{Value}
use Rattle.tau_value.specs.Val.{Val, list, none, more, inside}
use Rattle.tau_value.specs.Value.{val_of}
use Rattle.tau_value.specs.Sizes.{IsInBounds}
use Rattle.tau_tree.specs.declared.programs.Program.{Program}
use Rattle.tau_trace.specs.Run.{Run, len, starts}
use Rattle.tau_trace.specs.Numbering.{born}
use Rattle.tau_trace.specs.Histories.{history, opened}
use Rattle.tau_trace.specs.Points.{point_at, IsUpTo}
use Rattle.tau_trace.proofs.Agreement.{born-grows}
use Rattle.tau_trace.proofs.Counted.{history-zero}
use Rattle.tau_trace.proofs.Lists.{slice_get-push_cases}
use Rattle.tau_trace.proofs.PointLemmas.{points_grow}
use Rattle.tau_past.specs.States.{SavedWith}
use Rattle.tau_script.specs.Openings.{program_opening}
use Rattle.tau_states.specs.Opening.{opening_states}
use Rattle.tau_states.specs.declared.state_record.StateRecord.{StateRecord}
use Rattle.tau_states.specs.Table.{IsBase, Describes, Holds as HasStates}
use Rattle.tau_states.specs.Answers.{IsSavedAfter}
use Rattle.tau_states.proofs.Uniqueness.{saved_once}
use Rattle.tau_cut.specs.declared.states.Kept.{Kept}
use Rattle.tau_cut.specs.Cuts.{places_in}
use Rattle.tau_cut.specs.KeptStates.{IsKept, AreKeptStates, at_opening}
use Rattle.tau_cut.proofs.OneCut.{cut_once}
use Rattle.tau_faults.specs.Ends.{End}
use Rattle.tau_storm.specs.Claims.{AreSavedValues, AreKeptValues, IsClaimMessage, Holds}
use Rattle.tau_storm.specs.Inner.Claiming.{IsDoneFor}

-- two lists of values whose elements are the same, number by number, are one
pub same_values : (vs ws : List Val) → length vs ≡ length ws → ((t : ℕ) (v w : Val) → slice_get vs t ≡ Some v → slice_get ws t ≡ Some w → v ≡ w) → vs ≡ ws
same_values [] [] long each = refl
same_values [] (w ∷ ws) long each = absurd (omega (arith, long))
same_values (v ∷ vs) [] long each = absurd (omega (arith, long))
same_values (v ∷ vs) (w ∷ ws) long each =
    let head : v ≡ w = each 0 v w refl refl in
    let tail : vs ≡ ws = same_values vs ws (omega (arith, long)) (λ t a b e f. each (suc t) a b e f) in
    λ i. head i ∷ tail i

-- how many starts a run has
pub starts_are : (P : Program) (T : Run) → T.opening ≡ program_opening P → starts T ≡ length P.starts
starts_are P T o = ap (λ x. length x.names) o ∙ length-map P.starts (λ s. s.name)

-- what the starts saved

pub record SavedBelow (T : Run) (opening : List Value) (n : ℕ) (values : List Val) : Type 0 where
  pub count : length values ≡ n
  pub each : (t : ℕ) (v : Val) → slice_get values t ≡ Some v → (saved : Value) × IsSavedAfter T opening t (Some saved) × (val_of saved ≡ v)

pub saved_more : (T : Run) (opening : List Value) (n : ℕ) (before after : List Val) (saved : Value) → after ≡ before ++ val_of saved ∷ [] → IsSavedAfter T opening n (Some saved) → SavedBelow T opening n before → SavedBelow T opening (n + 1) after
saved_more T opening n before after saved e is b = record {
  count = omega (arith, ap (λ (l : List Val). length l) e, length-append before (val_of saved ∷ []), b.count);
  each = λ t v at. ⊎_elim
      (λ old. b.each t v old)
      (λ new. let here : t ≡ n = new.0 ∙ b.count in (saved, subst (λ k. IsSavedAfter T opening k (Some saved)) (sym here) is, new.1))
      (slice_get-push_cases before (val_of saved) v t (ap (λ (l : List Val). slice_get l t) (sym e) ∙ at));
}

-- a start is at interval 1 or later
pub start_closed : (T : Run) (t : ℕ) → t < starts T → 1 ≤ interval (history T t (len T))
start_closed T t lt = from (ap interval (history-zero T t ∙ at_start T t lt)) ((points_grow T t (len T)).grows 0 (omega arith)) where
  at_start : (T : Run) (t : ℕ) → t < starts T → opened T t ≡ opened_history
  at_start T t lt = search arith

  from : interval (history T t 0) ≡ 1 → IsUpTo (point_at T t 0) (point_at T t (len T)) → 1 ≤ interval (history T t (len T))
  from e up = ⊎_elim (λ l. omega (arith, e, l)) (λ s. omega (arith, e, s.0)) up

zero_or_suc : (n : ℕ) → (n ≡ 0) ⊎ ((i : ℕ) × (n ≡ suc i))
zero_or_suc zero = inl refl
zero_or_suc (suc i) = inr (i, refl)

-- the record of a start tells what it saved last
pub record_tells : (T : Run) (opening : List Value) (records : List StateRecord) (t : ℕ) (r : StateRecord) → HasStates T opening records → slice_get records t ≡ Some r → 1 ≤ interval (history T t (len T)) → IsSavedAfter T opening t (Some r.base)
record_tells T opening records t r h e closed =
    let d : Describes T opening t (len T) r = h.each t r e in
    let known : t < born T (len T) = omega (arith, slice_get_within records t r e, h.count) in
    ⊎_elim
    (λ z. absurd (omega (arith, z, closed)))
    (λ x. let P : ℕ → Type 0 = λ n. IsBase T opening t n r.base in (x.0, known, x.1, subst P (d.interval ∙ x.1) d.base))
    (zero_or_suc (interval (history T t (len T))))

pub saved_values : (P : Program) (T : Run) (values : List Val) → SavedBelow T (opening_states P.starts) (length P.starts) values → AreSavedValues P T values
saved_values P T values b = record { count = b.count; each = b.each }

saved_same : (T : Run) (opening : List Value) (t : ℕ) (v w : Value) → IsSavedAfter T opening t (Some v) → IsSavedAfter T opening t (Some w) → v ≡ w
saved_same T opening t v w a b =
    let same : b.0 ≡ a.0 = omega (arith, a.2, b.2) in
    let Q : ℕ → Type 0 = λ n. SavedWith T opening t n w in
    saved_once T opening t a.0 v w a.3 (subst Q same b.3)

pub saved_values_once : (P : Program) (T : Run) (vs ws : List Val) → AreSavedValues P T vs → AreSavedValues P T ws → vs ≡ ws
saved_values_once P T vs ws a b = same_values vs ws (a.count ∙ sym b.count) (λ t v w e f.
    let x = a.each t v e in
    let y = b.each t w f in
    sym x.2 ∙ ap val_of (saved_same T (opening_states P.starts) t x.0 y.0 x.1 y.1) ∙ y.2)

-- what is kept of the starts

pub record KeptBelow (kept : List (Option Kept)) (n : ℕ) (values : List Val) : Type 0 where
  pub count : length values ≡ n
  pub each : (t : ℕ) (v : Val) → slice_get values t ≡ Some v → (k : Kept) × (slice_get kept t ≡ Some (Some k)) × (val_of k.value ≡ v)

pub kept_more : (kept : List (Option Kept)) (n : ℕ) (before after : List Val) (k : Kept) → after ≡ before ++ val_of k.value ∷ [] → slice_get kept n ≡ Some (Some k) → KeptBelow kept n before → KeptBelow kept (n + 1) after
kept_more kept n before after k e is b = record {
  count = omega (arith, ap (λ (l : List Val). length l) e, length-append before (val_of k.value ∷ []), b.count);
  each = λ t v at. ⊎_elim
      (λ old. b.each t v old)
      (λ new. let here : t ≡ n = new.0 ∙ b.count in (k, ap (λ j. slice_get kept j) here ∙ is, new.1))
      (slice_get-push_cases before (val_of k.value) v t (ap (λ (l : List Val). slice_get l t) (sym e) ∙ at));
}

-- something is kept of each start
pub start_kept : (P : Program) (T : Run) (kept : List (Option Kept)) (t : ℕ) (o : Option (Option Kept)) → AreKeptStates P T kept → t < starts T → o ≡ slice_get kept t → (k : Kept) × (o ≡ Some (Some k))
start_kept P T kept t None are lt e =
    absurd (omega (arith, lt, are.are.count, none_above kept t (sym e), born-grows T 0 (len T) (omega arith), starts_born T)) where
      none_above : (l : List (Option Kept)) (j : ℕ) → slice_get l j ≡ None → length l ≤ j
      none_above [] j n = omega arith
      none_above (x ∷ l) zero n = absurd (cc)
      none_above (x ∷ l) (suc j) n = omega (arith, none_above l j n)

      starts_born : (T : Run) → starts T ≤ born T 0
      starts_born T = omega arith
start_kept P T kept t (Some None) are lt e = absurd (are.are.each t None (sym e) 0 (at_opening lt refl))
start_kept P T kept t (Some (Some k)) are lt e = (k, refl)

pub kept_values : (P : Program) (T : Run) (kept : List (Option Kept)) (values : List Val) → AreKeptStates P T kept → KeptBelow kept (length P.starts) values → AreKeptValues P T values
kept_values P T kept values are b = record { kept = kept; kept_are = are; count = b.count; each = b.each }

pub all_kept : (P : Program) (T : Run) (kept : List (Option Kept)) (n : ℕ) (values : List Val) → AreKeptStates P T kept → n ≡ length P.starts → KeptBelow kept n values → AreKeptValues P T values
all_kept P T kept n values are e b = kept_values P T kept values are (subst (λ k. KeptBelow kept k values) e b)

kept_same : (P : Program) (T : Run) (steps : List ℕ) (t : ℕ) (a b : Kept) → IsKept P T steps t a → IsKept P T steps t b → a.value ≡ b.value
kept_same P T steps t a b x y =
    let same : y.last ≡ x.last = omega (arith, x.greatest y.last y.keeps, y.greatest x.last x.keeps) in
    let Q : ℕ → Type 0 = λ n. SavedWith T (opening_states P.starts) t n b.value in
    saved_once T (opening_states P.starts) t x.last a.value b.value x.saved (subst Q same y.saved)

pub kept_values_once : (P : Program) (T : Run) (vs ws : List Val) → AreKeptValues P T vs → AreKeptValues P T ws → vs ≡ ws
kept_values_once P T vs ws a b = same_values vs ws (a.count ∙ sym b.count) (λ t v w e f.
    let x = a.each t v e in
    let y = b.each t w f in
    let one : b.kept_are.marks ≡ a.kept_are.marks = cut_once T b.kept_are.marks a.kept_are.marks b.kept_are.is_cut a.kept_are.is_cut in
    let first : IsKept P T (places_in a.kept_are.marks) t x.0 = a.kept_are.are.each t (Some x.0) x.1 in
    let other : IsKept P T (places_in b.kept_are.marks) t y.0 = b.kept_are.are.each t (Some y.0) y.1 in
    let there : IsKept P T (places_in a.kept_are.marks) t y.0 = subst (λ m. IsKept P T (places_in m) t y.0) one other in
    sym x.2 ∙ ap val_of (kept_same P T (places_in a.kept_are.marks) t x.0 y.0 first there) ∙ y.2)

-- an element that is read by its number
pub element_at : {A : Type 0} (xs ys : List A) (k : ℕ) (x : A) → xs ≡ ys → k < length xs → x ≡ slice_index_or xs k x → slice_get ys k ≡ Some x
element_at xs ys k x same lt is = ap (λ (l : List _). slice_get l k) (sym same) ∙ slice_get-get_or xs k x lt ∙ ap Some (sym is)

-- the message

pub message_of : (P : Program) (T : Run) (saved kept parts : List Val) (message : Val) → AreSavedValues P T saved → AreKeptValues P T kept → parts ≡ ([] ++ list (inside saved) ∷ []) ++ list (inside kept) ∷ [] → message ≡ list (inside parts) → IsClaimMessage P T message
message_of P T saved kept parts message s k p m = record {
  saved = saved;
  saved_are = s;
  kept = kept;
  kept_are = k;
  is = m ∙ ap (λ (l : List Val). list (inside l)) p;
}

pub message_once : (P : Program) (T : Run) (m n : Val) → IsClaimMessage P T m → IsClaimMessage P T n → m ≡ n
message_once P T m n a b =
    let saved : a.saved ≡ b.saved = saved_values_once P T a.saved b.saved a.saved_are b.saved_are in
    let kept : a.kept ≡ b.kept = kept_values_once P T a.kept b.kept a.kept_are b.kept_are in
    a.is ∙ (λ i. list (more (list (inside (saved i))) (more (list (inside (kept i))) none))) ∙ sym b.is

-- the claim

never : {A : Type 0} → ¬ A → IsTrue false ↔ A
never missing = (λ t. absurd (cc), λ a. absurd (missing a))

-- what a test tells
pub told_true : {A : Type 0} (b : Bool) → IsTrue b ↔ A → b ≡ true → A
told_true true told e = told.0 truth where
  truth : IsTrue true
  truth = refl
told_true false told e = absurd (cc)

pub told_false : {A : Type 0} (b : Bool) → IsTrue b ↔ A → b ≡ false → ¬ A
told_false true told e a = absurd (cc)
told_false false told e a = absurd (cc2 (told.1 a)) where
  cc2 : IsTrue false → ⊥
  cc2 t = cc

module _ (P : Program) (T : Run) (behaviour : ℕ) (message : Val) (is : IsClaimMessage P T message) where
  claim_at : (e : End) → e.program ≡ P → e.run ≡ T → IsClaimMessage e.program e.run message
  claim_at e p r = subst (λ (x : Run). IsClaimMessage e.program x message) (sym r) (subst (λ (x : Program). IsClaimMessage x T message) (sym p) is)

  asked : (e : End) (m : Val) → e.program ≡ P → e.run ≡ T → IsClaimMessage e.program e.run m → m ≡ message
  asked e m p r h = message_once e.program e.run m message h (claim_at e p r)

  pub claim_out : (e : End) → e.program ≡ P → e.run ≡ T → ¬ IsInBounds message → ¬ Holds behaviour e
  claim_out e p r out h = out (subst IsInBounds (asked e h.message p r h.is_message) h.within)

  pub claim_done : (e : End) → e.program ≡ P → e.run ≡ T → IsInBounds message → IsDoneFor P behaviour message → Holds behaviour e
  claim_done e p r within d =
      let there : IsDoneFor e.program behaviour message = subst (λ (x : Program). IsDoneFor x behaviour message) (sym p) d in
      record { message = message; is_message = claim_at e p r; within = within; body = there.body; body_is = there.body_is; done = there.done }

  pub done_claim : (e : End) → e.program ≡ P → e.run ≡ T → Holds behaviour e → IsDoneFor P behaviour message
  done_claim e p r h =
      let there : IsDoneFor e.program behaviour h.message = record { body = h.body; body_is = h.body_is; done = h.done } in
      subst (λ (x : Program). IsDoneFor x behaviour message) p (subst (IsDoneFor e.program behaviour) (asked e h.message p r h.is_message) there)

  pub claim_unknown : (e : End) → e.program ≡ P → length P.behaviours ≤ behaviour → ¬ Holds behaviour e
  claim_unknown e p out h =
      let at : slice_get (bodies P) behaviour ≡ Some h.body = subst (λ (x : Program). slice_get (bodies x) behaviour ≡ Some h.body) p h.body_is in
      omega (arith, slice_get_within (bodies P) behaviour h.body at, length-map P.behaviours (λ b. b.body), out)

  pub claimed : IsInBounds message → (found : Result Bool AllocError) → IfOk found (λ b. IsTrue b ↔ IsDoneFor P behaviour message) → IfOk found (λ b. (e : End) → e.program ≡ P → e.run ≡ T → IsTrue b ↔ Holds behaviour e)
  claimed within (Ok b) is = λ e p r. (λ t. claim_done e p r within (is.0 t), λ h. is.1 (done_claim e p r h))
  claimed within (Err x) is = is

  pub out_of_bounds : ¬ IsInBounds message → (e : End) → e.program ≡ P → e.run ≡ T → IsTrue false ↔ Holds behaviour e
  out_of_bounds out = λ e p r. never (claim_out e p r out)

  pub not_there : length P.behaviours ≤ behaviour → (e : End) → e.program ≡ P → e.run ≡ T → IsTrue false ↔ Holds behaviour e
  not_there out = λ e p r. never (claim_unknown e p out)
