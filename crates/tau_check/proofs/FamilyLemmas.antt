-- One step of a family fits: the receipts of a message, by its receiver and the verdict; the steps of a turn, by its effect.
use Rattle.std.proofs.Common.{◌≡◌, ◌⊎◌, ◌↔◌, inl, inr, ℕ, suc, ◌<◌, ◌≤◌, Bool, true, false, IsTrue, Some, List, refl, sym, ap, ◌∙◌, subst, arith}
use Rattle.tau_value.specs.declared.shared.Value.{Value}
use Rattle.tau_value.specs.Value.{val_of}
use Rattle.tau_value.proofs.ValueLemmas.{val_of_inj}
use Rattle.tau_tree.specs.declared.programs.Program.{Program}
use Rattle.tau_trace.specs.declared.step.Step.{Step}
use Rattle.tau_trace.specs.declared.step.Step.TheVariants.{Take, Drop, Fall, Void, Get, Set, Skip, Send, New, Stabilize, Ask, Checkpoint, Hold, Rollback, Stay, Done, Trap, Echo, Heed}
use Rattle.tau_trace.specs.Run.{Run, step_at}
use Rattle.tau_trace.specs.Numbering.{born, Receives, IsNotice}
use Rattle.tau_trace.specs.Histories.{Ended, IsLiving}
use Rattle.tau_trace.proofs.Lists.{same_some}
use Rattle.tau_trace.proofs.Once.{receives_once}
use Rattle.tau_past.specs.Decisions.{Verdict, Judgement, takes, drops, falls, fall, drop, take, Free}
use Rattle.tau_script.specs.Openings.{program_opening}
use Rattle.tau_states.specs.Opening.{opening_states}
use Rattle.tau_eval.specs.Eff.{Eff}
use Rattle.tau_eval.specs.Eff as eff
use Rattle.tau_eval.specs.Meaning.{next}
use Rattle.tau_legal.specs.Turns.{HasValue, RepliesOf, TurnHas}
use Rattle.tau_legal.specs.Fits.{Fits, Echoes, IsStable, IsVolatile, most_transactors}
use Rattle.tau_rules.proofs.ActLemmas.{one_open_turn}
use Rattle.tau_trace.specs.Steps.{received_by}
use Rattle.tau_check.specs.Families.{turn_of, receipts, turn_steps, OneStepOfAFamilyFits}
use Rattle.tau_check.proofs.Once.{body_once, value_once, replies_once, same_taken}

-- the verdict of a message is one
verdict_once : (T : Run) (t k m : ℕ) (i j : Judgement) → Verdict T t k m i → Verdict T t k m j → i ≡ j
verdict_once T t k m falls falls (fall f) (fall g) = refl
verdict_once T t k m falls drops (fall f) (drop n d) = absurd (n f)
verdict_once T t k m falls takes (fall f) (take n o) = absurd (n f)
verdict_once T t k m drops falls (drop n d) (fall f) = absurd (n f)
verdict_once T t k m drops drops (drop n d) (drop o e) = refl
verdict_once T t k m drops takes (drop n d) (take o p) = absurd (p d)
verdict_once T t k m takes falls (take n o) (fall f) = absurd (n f)
verdict_once T t k m takes drops (take n o) (drop p d) = absurd (o d)
verdict_once T t k m takes takes (take n o) (take p q) = refl

-- a receipt of message m by transactor t that takes it, or heeds a notice
abbrev pub IsTaken : Run → ℕ → ℕ → Step → Type 0
IsTaken T t m s = ((s ≡ Take t m) × (¬ IsNotice T m)) ⊎ ((s ≡ Heed t m) × IsNotice T m)

-- a receipt of message m by transactor t, by the verdict
abbrev pub IsReceipt : Run → ℕ → ℕ → ℕ → Judgement → Step → Type 0
IsReceipt T t m k takes s = IsTaken T t m s
IsReceipt T t m k drops s = s ≡ Drop t m
IsReceipt T t m k falls s = s ≡ Fall t m

pub record IsByVerdict (T : Run) (k m : ℕ) (s : Step) : Type 0 where
  pub who : ℕ
  pub kind : Judgement
  pub receiver : Receives T m who
  pub living : IsLiving T who k
  pub verdict : Verdict T who k m kind
  pub is : IsReceipt T who m k kind s

-- a receipt after t's end: a Void, or an Echo where that makes a notice
abbrev pub IsLateBy : Program → Run → ℕ → ℕ → ℕ → Step → Type 0
IsLateBy P T t m k s = ((s ≡ Void t m) × (¬ Echoes P T m k)) ⊎ ((s ≡ Echo t m) × Echoes P T m k)

pub record IsLate (P : Program) (T : Run) (k m : ℕ) (s : Step) : Type 0 where
  pub who : ℕ
  pub receiver : Receives T m who
  pub ended : Ended T who k
  pub is : IsLateBy P T who m k s

-- each receipt that fits is one of the two
receipt : (P : Program) (T : Run) (k m : ℕ) (s : Step) → received_by s ≡ Some m → Fits P T k s → IsByVerdict T k m s ⊎ IsLate P T k m s
receipt P T k m (Take t n) e f =
    let same : n ≡ m = same_some e in
    inl (record { who = t; kind = takes; receiver = subst (λ x. Receives T x t) same f.0.receiver; living = f.0.living; verdict = subst (λ x. Verdict T t k x takes) same f.1; is = inl (ap (Take t) same, subst (λ x. ¬ IsNotice T x) same f.2) })
receipt P T k m (Drop t n) e f =
    let same : n ≡ m = same_some e in
    inl (record { who = t; kind = drops; receiver = subst (λ x. Receives T x t) same f.0.receiver; living = f.0.living; verdict = subst (λ x. Verdict T t k x drops) same f.1; is = ap (Drop t) same })
receipt P T k m (Fall t n) e f =
    let same : n ≡ m = same_some e in
    inl (record { who = t; kind = falls; receiver = subst (λ x. Receives T x t) same f.0.receiver; living = f.0.living; verdict = subst (λ x. Verdict T t k x falls) same f.1; is = ap (Fall t) same })
receipt P T k m (Void t n) e f =
    let same : n ≡ m = same_some e in
    inr (record { who = t; receiver = subst (λ x. Receives T x t) same f.0.receiver; ended = f.0.ended; is = inl (ap (Void t) same, subst (λ x. ¬ Echoes P T x k) same f.1) })
receipt P T k m (Echo t n) e f =
    let same : n ≡ m = same_some e in
    inr (record { who = t; receiver = subst (λ x. Receives T x t) same f.0.receiver; ended = f.0.ended; is = inr (ap (Echo t) same, subst (λ x. Echoes P T x k) same f.1) })
receipt P T k m (Heed t n) e f =
    let same : n ≡ m = same_some e in
    inl (record { who = t; kind = takes; receiver = subst (λ x. Receives T x t) same f.0.receiver; living = f.0.living; verdict = subst (λ x. Verdict T t k x takes) same f.1; is = inr (ap (Heed t) same, subst (λ x. IsNotice T x) same f.2) })
receipt P T k m s e f = absurd (cc)

taken_once : (T : Run) (t m : ℕ) (s r : Step) → IsTaken T t m s → IsTaken T t m r → s ≡ r
taken_once T t m s r (inl a) (inl b) = a.0 ∙ sym b.0
taken_once T t m s r (inl a) (inr b) = absurd (a.1 b.1)
taken_once T t m s r (inr a) (inl b) = absurd (b.1 a.1)
taken_once T t m s r (inr a) (inr b) = a.0 ∙ sym b.0

late_once : (P : Program) (T : Run) (t m k : ℕ) (s r : Step) → IsLateBy P T t m k s → IsLateBy P T t m k r → s ≡ r
late_once P T t m k s r (inl a) (inl b) = a.0 ∙ sym b.0
late_once P T t m k s r (inl a) (inr b) = absurd (a.1 b.1)
late_once P T t m k s r (inr a) (inl b) = absurd (b.1 a.1)
late_once P T t m k s r (inr a) (inr b) = a.0 ∙ sym b.0

receipt_is : (T : Run) (t m k : ℕ) (j : Judgement) (s r : Step) → IsReceipt T t m k j s → IsReceipt T t m k j r → s ≡ r
receipt_is T t m k takes s r e f = taken_once T t m s r e f
receipt_is T t m k drops s r e f = e ∙ sym f
receipt_is T t m k falls s r e f = e ∙ sym f

not_late : (T : Run) (t k : ℕ) → IsLiving T t k → ¬ Ended T t k
not_late T t k living e = living e.place e.before e.ends

-- of two receipts by the verdict, both are the same
by_verdict_once : (T : Run) (k m : ℕ) (s r : Step) → IsByVerdict T k m s → IsByVerdict T k m r → s ≡ r
by_verdict_once T k m s r g h =
    let who : g.who ≡ h.who = receives_once T m g.who h.who g.receiver h.receiver in
    let kind : g.kind ≡ h.kind = verdict_once T h.who k m g.kind h.kind (subst (λ t. Verdict T t k m g.kind) who g.verdict) h.verdict in
    let first : IsReceipt T h.who m k h.kind s = subst (λ t. IsReceipt T t m k h.kind s) who (subst (λ j. IsReceipt T g.who m k j s) kind g.is) in
    receipt_is T h.who m k h.kind s r first h.is

-- one receipt of a message fits
pub one_receipt : (P : Program) (T : Run) (k m : ℕ) (s r : Step) → received_by s ≡ Some m → received_by r ≡ Some m → Fits P T k s → Fits P T k r → s ≡ r
one_receipt P T k m s r e d f g = by (receipt P T k m s e f) (receipt P T k m r d g) where
  by : IsByVerdict T k m s ⊎ IsLate P T k m s → IsByVerdict T k m r ⊎ IsLate P T k m r → s ≡ r
  by (inl a) (inl b) = by_verdict_once T k m s r a b
  by (inl a) (inr b) = absurd (not_late T b.who k (subst (λ t. IsLiving T t k) (receives_once T m a.who b.who a.receiver b.receiver) a.living) b.ended)
  by (inr a) (inl b) = absurd (not_late T a.who k (subst (λ t. IsLiving T t k) (receives_once T m b.who a.who b.receiver a.receiver) b.living) a.ended)
  by (inr a) (inr b) = late_once P T b.who m k s r (subst (λ t. IsLateBy P T t m k s) (receives_once T m a.who b.who a.receiver b.receiver) a.is) b.is

-- an open turn has one next effect
pub effect_once : (P : Program) (T : Run) (t k : ℕ) (e f : Eff) → T.opening ≡ program_opening P → TurnHas P T t k e → TurnHas P T t k f → e ≡ f
effect_once P T t k e f opens g h =
    let opening : List Value = opening_states P.starts in
    let place : g.place ≡ h.place = one_open_turn T t k g.place h.place g.message h.message g.turn h.turn in
    let taken : g.message ≡ h.message = same_taken t t g.message h.message (same_some (sym g.turn.takes ∙ ap (step_at T) place ∙ h.turn.takes)) in
    let body : g.body ≡ h.body = body_once P T opens t g.body h.body g.body_is h.body_is in
    let value : g.value ≡ h.value = value_once P T opens h.message g.value h.value (subst (λ m. HasValue P T m g.value) taken g.value_is) h.value_is in
    let replies : g.replies ≡ h.replies = replies_once T opening t (suc h.place) k g.replies h.replies (subst (λ p. RepliesOf T opening t (suc p) k g.replies) place g.replies_are) h.replies_are in
    sym g.effect_is ∙ (λ i. next (body i) (record { nodes = P.nodes; own = t; message = value i }) (replies i)) ∙ h.effect_is

-- the step of an effect of t at place k
abbrev pub IsRow : Run → ℕ → ℕ → Eff → Step → Type 0
IsRow T t k eff.get s = s ≡ Get t
IsRow T t k (eff.set v) s = ((x : Value) × (s ≡ Set t x) × (val_of x ≡ v) × IsVolatile T t k) ⊎ ((s ≡ Skip t) × IsStable T t k)
IsRow T t k (eff.send u v) s = (x : Value) × (s ≡ Send t u x) × (val_of x ≡ v)
IsRow T t k (eff.new b n v) s = ((x : Value) × (s ≡ New t b n x) × (val_of x ≡ v) × (born T k < most_transactors)) ⊎ ((s ≡ Trap t 7) × (most_transactors ≤ born T k))
IsRow T t k eff.stabilize s = s ≡ Stabilize t
IsRow T t k eff.checkpoint s = ((s ≡ Checkpoint t) × Free T t k) ⊎ ((s ≡ Hold t) × (¬ Free T t k))
IsRow T t k eff.rollback s = ((s ≡ Rollback t) × IsVolatile T t k) ⊎ ((s ≡ Stay t) × IsStable T t k)
IsRow T t k eff.ask s = (a : Bool) × (s ≡ Ask t a) × (IsTrue a ↔ (¬ Free T t k))
IsRow T t k eff.done s = s ≡ Done t
IsRow T t k (eff.trap c) s = s ≡ Trap t c

-- the step is that of the next effect of t's turn
pub record IsOfEffect (P : Program) (T : Run) (t k : ℕ) (s : Step) : Type 0 where
  pub effect : Eff
  pub has : TurnHas P T t k effect
  pub row : IsRow T t k effect s

of_own : (P : Program) (T : Run) (t u k : ℕ) (s : Step) → t ≡ u → IsOfEffect P T t k s → IsOfEffect P T u k s
of_own P T t u k s same h = subst (λ x. IsOfEffect P T x k s) same h

-- each step of an open turn that fits is one of its effect
pub of_effect : (P : Program) (T : Run) (t k : ℕ) (s : Step) → turn_of s ≡ Some t → Fits P T k s → IsOfEffect P T t k s
of_effect P T t k (Get u) e f = of_own P T u t k (Get u) (same_some e) (record { effect = eff.get; has = f; row = refl })
of_effect P T t k (Set u v) e f = of_own P T u t k (Set u v) (same_some e) (record { effect = eff.set (val_of v); has = f.0; row = inl (v, refl, refl, f.1) })
of_effect P T t k (Skip u) e f = of_own P T u t k (Skip u) (same_some e) (record { effect = eff.set f.0; has = f.1; row = inr (refl, f.2) })
of_effect P T t k (Send u w v) e f = of_own P T u t k (Send u w v) (same_some e) (record { effect = eff.send w (val_of v); has = f; row = (v, refl, refl) })
of_effect P T t k (New u b n v) e f = of_own P T u t k (New u b n v) (same_some e) (record { effect = eff.new b n (val_of v); has = f.0; row = inl (v, refl, refl, f.1) })
of_effect P T t k (Stabilize u) e f = of_own P T u t k (Stabilize u) (same_some e) (record { effect = eff.stabilize; has = f; row = refl })
of_effect P T t k (Ask u a) e f = of_own P T u t k (Ask u a) (same_some e) (record { effect = eff.ask; has = f.0; row = (a, refl, f.1) })
of_effect P T t k (Checkpoint u) e f = of_own P T u t k (Checkpoint u) (same_some e) (record { effect = eff.checkpoint; has = f.0; row = inl (refl, f.1) })
of_effect P T t k (Hold u) e f = of_own P T u t k (Hold u) (same_some e) (record { effect = eff.checkpoint; has = f.0; row = inr (refl, f.1) })
of_effect P T t k (Rollback u) e f = of_own P T u t k (Rollback u) (same_some e) (record { effect = eff.rollback; has = f.0; row = inl (refl, f.1) })
of_effect P T t k (Stay u) e f = of_own P T u t k (Stay u) (same_some e) (record { effect = eff.rollback; has = f.0; row = inr (refl, f.1) })
of_effect P T t k (Done u) e f = of_own P T u t k (Done u) (same_some e) (record { effect = eff.done; has = f; row = refl })
of_effect P T t k (Trap u c) e (inl f) = of_own P T u t k (Trap u c) (same_some e) (record { effect = eff.trap c; has = f; row = refl })
of_effect P T t k (Trap u c) e (inr f) = of_own P T u t k (Trap u c) (same_some e) (record { effect = eff.new f.1.behaviour f.1.node f.1.state; has = f.1.effect; row = inr (ap (Trap u) f.0, f.1.full) })
of_effect P T t k s e f = absurd (cc)

not_both : (T : Run) (t k : ℕ) → IsVolatile T t k → ¬ IsStable T t k
not_both T t k v s = let both : false ≡ true = sym v ∙ s in cc

same_answer : (Q : Type 0) (a b : Bool) → (IsTrue a ↔ Q) → (IsTrue b ↔ Q) → a ≡ b
same_answer Q true true f g = refl
same_answer Q true false f g = sym (g.1 (f.0 refl))
same_answer Q false true f g = f.1 (g.0 refl)
same_answer Q false false f g = refl

-- an effect has one step
row_once : (T : Run) (t k : ℕ) (e : Eff) (s r : Step) → IsRow T t k e s → IsRow T t k e r → s ≡ r
row_once T t k eff.get s r f g = f ∙ sym g
row_once T t k (eff.set v) s r (inl f) (inl g) = f.1 ∙ ap (Set t) (val_of_inj f.0 g.0 (f.2 ∙ sym g.2)) ∙ sym g.1
row_once T t k (eff.set v) s r (inl f) (inr g) = absurd (not_both T t k f.3 g.1)
row_once T t k (eff.set v) s r (inr f) (inl g) = absurd (not_both T t k g.3 f.1)
row_once T t k (eff.set v) s r (inr f) (inr g) = f.0 ∙ sym g.0
row_once T t k (eff.send u v) s r f g = f.1 ∙ ap (Send t u) (val_of_inj f.0 g.0 (f.2 ∙ sym g.2)) ∙ sym g.1
row_once T t k (eff.new b n v) s r (inl f) (inl g) = f.1 ∙ ap (New t b n) (val_of_inj f.0 g.0 (f.2 ∙ sym g.2)) ∙ sym g.1
row_once T t k (eff.new b n v) s r (inl f) (inr g) = absurd (omega (arith, f.3, g.1))
row_once T t k (eff.new b n v) s r (inr f) (inl g) = absurd (omega (arith, g.3, f.1))
row_once T t k (eff.new b n v) s r (inr f) (inr g) = f.0 ∙ sym g.0
row_once T t k eff.stabilize s r f g = f ∙ sym g
row_once T t k eff.checkpoint s r (inl f) (inl g) = f.0 ∙ sym g.0
row_once T t k eff.checkpoint s r (inl f) (inr g) = absurd (g.1 f.1)
row_once T t k eff.checkpoint s r (inr f) (inl g) = absurd (f.1 g.1)
row_once T t k eff.checkpoint s r (inr f) (inr g) = f.0 ∙ sym g.0
row_once T t k eff.rollback s r (inl f) (inl g) = f.0 ∙ sym g.0
row_once T t k eff.rollback s r (inl f) (inr g) = absurd (not_both T t k f.1 g.1)
row_once T t k eff.rollback s r (inr f) (inl g) = absurd (not_both T t k g.1 f.1)
row_once T t k eff.rollback s r (inr f) (inr g) = f.0 ∙ sym g.0
row_once T t k eff.ask s r f g = f.1 ∙ ap (Ask t) (same_answer (¬ Free T t k) f.0 g.0 f.2 g.2) ∙ sym g.1
row_once T t k eff.done s r f g = f ∙ sym g
row_once T t k (eff.trap c) s r f g = f ∙ sym g

-- one step of a transactor's open turn fits
pub one_turn_step : (P : Program) (T : Run) (k t : ℕ) (s r : Step) → T.opening ≡ program_opening P → turn_of s ≡ Some t → turn_of r ≡ Some t → Fits P T k s → Fits P T k r → s ≡ r
one_turn_step P T k t s r opens e d f g =
    let one = of_effect P T t k s e f in
    let two = of_effect P T t k r d g in
    let same : one.effect ≡ two.effect = effect_once P T t k one.effect two.effect opens one.has two.has in
    row_once T t k two.effect s r (subst (λ x. IsRow T t k x s) same one.row) two.row

pub one_of_a_family : OneStepOfAFamilyFits
one_of_a_family P T k s r opens (receipts {m = m} e d) f g = one_receipt P T k m s r e d f g
one_of_a_family P T k s r opens (turn_steps {t = t} e d) f g = one_turn_step P T k t s r opens e d f g
