-- Where the values of messages stand, step by step.
use Rattle.std.proofs.Common.{◌≡◌, ◌⊎◌, inl, inr, ⊎_elim, ℕ, zero, suc, ◌+◌, ◌<◌, ◌≤◌, true, false, cond, List, [], ◌∷◌, ◌++◌, Option, Some, None, length, refl, sym, ap, ◌∙◌, subst, arith, length-append}
use Rattle.std.specs.Prelude.{slice_get}
use Rattle.std.specs.Option.{option_map_or}
use Rattle.std.proofs.lemmas.List.{length-map}
use Rattle.std.proofs.lemmas.Option.{slice_get_within}
use Rattle.tau_value.specs.Val as val
use Rattle.tau_value.specs.Val.{Val}
use Rattle.tau_value.specs.Value.{val_of}
use Rattle.tau_tree.specs.declared.posts.Post.{Post}
use Rattle.tau_tree.specs.declared.programs.Program.{Program}
use Rattle.tau_script.specs.Openings.{program_opening}
use Rattle.tau_trace.specs.declared.opening.Opening.{Opening}
use Rattle.tau_trace.specs.declared.step.Step.{Step}
use Rattle.tau_trace.specs.declared.step.Step.TheVariants.{Take, Drop, Fall, Void, Send, Lose, Echo, Heed, Repeat}
use Rattle.tau_trace.specs.Steps.{makes_message}
use Rattle.tau_trace.specs.Run.{Run, len, step_at}
use Rattle.tau_trace.specs.Known.{IsKnown, WellFormed}
use Rattle.tau_trace.specs.Numbering.{sent}
use Rattle.tau_trace.proofs.Lists.{same_some}
use Rattle.tau_trace.proofs.Agreement.{sent-grows}
use Rattle.tau_trace.proofs.Counts.{count-zero}
use Rattle.tau_trace.proofs.Indexing.{sent-next}
use Rattle.tau_trace.proofs.Once.{maker-rises}
use Rattle.tau_legal.specs.Turns as legal
use Rattle.tau_legal.specs.Turns.{HasValue}
use Rattle.tau_layout.specs.Paths.Senders.{met_by}
use Rattle.tau_drawing.specs.declared.messages.bearers.Bearer.{Bearer}
use Rattle.tau_drawing.specs.declared.messages.bearers.Bearer.TheVariants.{Posted, Made}
use Rattle.tau_drawing.specs.Messages.Inner.Bearers.{HasBearer, posted, sends, echoes, copied, AreBearers, ArePosted, bearer_made, with_bearer, value_sent, borne}

-- lists

pub some_at : {A : Type 0} (xs : List A) (k : ℕ) → k < length xs → (x : A) × (slice_get xs k ≡ Some x)
some_at [] k lt = absurd (omega (arith, lt))
some_at (x ∷ xs) zero lt = (x, refl)
some_at (x ∷ xs) (suc k) lt = some_at xs k (omega (arith, lt))

push_at : {A : Type 0} (xs : List A) (x : A) (k : ℕ) (y : A) → slice_get (xs ++ x ∷ []) k ≡ Some y → (slice_get xs k ≡ Some y) ⊎ ((k ≡ length xs) × (x ≡ y))
push_at [] x zero y e = inr (refl, same_some e)
push_at [] x (suc k) y e = absurd (cc)
push_at (z ∷ xs) x zero y e = inl e
push_at (z ∷ xs) x (suc k) y e = ⊎_elim (λ o. inl o) (λ p. inr (ap suc p.0, p.1)) (push_at xs x k y e)

-- the posts

pub posted_none : (bearers : List Bearer) → bearers ≡ [] → ArePosted 0 bearers
posted_none bearers e = subst (ArePosted 0) (sym e) (record { count_is = refl; each = λ m b at. absurd (cc) })

pub posted_next : (n : ℕ) (old new : List Bearer) → new ≡ old ++ Posted n ∷ [] → ArePosted n old → ArePosted (n + 1) new
posted_next n old new e a = subst (ArePosted (n + 1)) (sym e) (record {
  count_is = omega (arith, a.count_is, length-append old (Posted n ∷ []));
  each = λ m b at. ⊎_elim (λ o. a.each m b o) (λ p. sym p.1 ∙ ap Posted (sym a.count_is ∙ sym p.0)) (push_at old (Posted n) m b at);
})

pub bearers_first : (T : Run) (n : ℕ) (bearers : List Bearer) → n ≡ length T.opening.targets → ArePosted n bearers → AreBearers T 0 bearers
bearers_first T n bearers e a = record {
  count_is = omega (arith, a.count_is, e, count-zero (λ j. option_map_or makes_message (step_at T j) false));
  each = λ m b at. subst (HasBearer T m) (sym (a.each m b at)) (posted (omega (arith, slice_get_within bearers m b at, a.count_is, e)));
}

-- one step more

made_next : (T : Run) (k : ℕ) (s : Step) (old : List Bearer) (b : Bearer) → step_at T k ≡ Some s → makes_message s ≡ true → HasBearer T (sent T k) b → AreBearers T k old → AreBearers T (suc k) (old ++ b ∷ [])
made_next T k s old b e makes has a = record {
  count_is = omega (arith, a.count_is, length-append old (b ∷ []), maker-rises T k (sent T k) (record { step = s; stands = e; makes = makes; made = refl }));
  each = λ m c at. ⊎_elim (λ o. a.each m c o) (λ p. subst (HasBearer T m) p.1 (subst (λ (n : ℕ). HasBearer T n b) (sym a.count_is ∙ sym p.0) has)) (push_at old b m c at);
}

same_next : (T : Run) (k : ℕ) (s : Step) (old : List Bearer) → step_at T k ≡ Some s → makes_message s ≡ false → AreBearers T k old → AreBearers T (suc k) old
same_next T k s old e makes a = record { count_is = omega (arith, a.count_is, sent-next T k s e, ap {B = ℕ} (λ t. cond t 1 0) makes); each = a.each }

repeat_next : (T : Run) (k n : ℕ) (old : List Bearer) (o : Option Bearer) → step_at T k ≡ Some (Repeat n) → n < sent T k → slice_get old n ≡ o → AreBearers T k old → AreBearers T (suc k) (with_bearer old o)
repeat_next T k n old None e lt at a =
    let there = some_at old n (omega (arith, lt, a.count_is)) in
    absurd (let f = sym at ∙ there.1 in cc)
repeat_next T k n old (Some b) e lt at a = made_next T k (Repeat n) old b e refl (copied (record { stands = e; made = refl; earlier = lt }) (a.each n b at)) a

pub bearers_next : (T : Run) (k : ℕ) (s : Step) (old : List Bearer) → WellFormed T → step_at T k ≡ Some s → AreBearers T k old → AreBearers T (suc k) (with_bearer old (bearer_made old s k))
bearers_next T k (Send t u v) old w e a = made_next T k (Send t u v) old (Made k) e refl (sends (record { to = u; value = v; stands = e; made = refl })) a
bearers_next T k (Echo t n) old w e a = made_next T k (Echo t n) old (Made k) e refl (echoes (record { stands = e; made = refl; earlier = (w.known k (Echo t n) e).1 })) a
bearers_next T k (Repeat n) old w e a = repeat_next T k n old (slice_get old n) e (w.known k (Repeat n) e) refl a
bearers_next T k s old w e a = same_next T k s old e refl a

-- the value of a message is the one that stands there

pub value_borne : (P : Program) (T : Run) → T.opening ≡ program_opening P → (m : ℕ) (b : Bearer) → HasBearer T m b → HasValue P T m (borne P T b)
value_borne P T o m b (posted lt) =
    let few : length T.opening.targets ≡ length P.posts = ap (λ x. length x.targets) o ∙ length-map P.posts (λ q. q.to) in
    let q = some_at P.posts m (omega (arith, lt, few)) in
    legal.post {q = q.0} q.1 (sym (ap (λ x. option_map_or (λ (y : Post). val_of y.value) x val.unit) q.1))
value_borne P T o m b (sends {j = j} s) = legal.message s (sym (ap (λ x. option_map_or value_sent x val.unit) s.stands))
value_borne P T o m b (echoes {j = j} s) = legal.notice s (sym (ap (λ x. option_map_or value_sent x val.unit) s.stands))
value_borne P T o m b (copied r h) = legal.copy r (value_borne P T o _ b h)

-- a message that a step receives or loses exists

known_met : (o : Opening) (b m x : ℕ) (s : Step) → IsKnown o b m s → met_by s ≡ Some x → x < m
known_met o b m x (Take u y) h e = omega (arith, h.1, same_some e)
known_met o b m x (Drop u y) h e = omega (arith, h.1, same_some e)
known_met o b m x (Fall u y) h e = omega (arith, h.1, same_some e)
known_met o b m x (Void u y) h e = omega (arith, h.1, same_some e)
known_met o b m x (Lose y) h e = omega (arith, h, same_some e)
known_met o b m x (Echo u y) h e = omega (arith, h.1, same_some e)
known_met o b m x (Heed u y) h e = omega (arith, h.1, same_some e)
known_met o b m x s h e = absurd (cc)

pub met_exists : (T : Run) (k m : ℕ) (s : Step) → WellFormed T → step_at T k ≡ Some s → met_by s ≡ Some m → m < sent T (len T)
met_exists T k m s w e h = omega (arith, known_met T.opening _ (sent T k) m s (w.known k s e) h, sent-grows T k (len T) (omega (arith, slice_get_within T.steps k s e)))

-- each message has its bearer
pub bearer_missing : (T : Run) (bearers : List Bearer) (m : ℕ) → AreBearers T (len T) bearers → m < sent T (len T) → slice_get bearers m ≡ None → ⊥
bearer_missing T bearers m a lt e =
    let there = some_at bearers m (omega (arith, lt, a.count_is)) in
    absurd (let f = sym e ∙ there.1 in cc)

-- no step stands from the length on
none_past : {A : Type 0} (xs : List A) (k : ℕ) → None ≡ slice_get xs k → length xs ≤ k
none_past [] k e = omega arith
none_past (x ∷ xs) zero e = absurd (cc)
none_past (x ∷ xs) (suc k) e = omega (arith, none_past xs k e)

pub past_last : (T : Run) (k : ℕ) → None ≡ step_at T k → len T ≤ k
past_last T k e = none_past T.steps k e
