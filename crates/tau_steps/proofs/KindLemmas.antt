-- The words that begin the forms of each kind.
use Rattle.std.proofs.Common.{◌≡◌, ◌≢◌, ℕ, Bool, true, false, cond, eqb, List, [], codes, refl, sym, ap, ◌∙◌, eqb-true, eq-eqb}
use Rattle.std.specs.Str.{bytes_eq}
use Rattle.std.proofs.lemmas.Slice.Eq.{bytes_eq-Decides}
use Rattle.tau_trace.specs.declared.step.Step.{Step}
use Rattle.tau_trace.specs.declared.step.Step.TheVariants.{Take, Echo, Heed, Repeat}
use Rattle.tau_trace.specs.Known.{IsInVersion}
use Rattle.tau_steps.specs.StepForms.{kind_word}
use Rattle.tau_steps.specs.declared.kinds.Kind.{Kind}
use Rattle.tau_steps.specs.declared.kinds.Kind.TheVariants as kinds
use Rattle.tau_steps.specs.declared.kinds.MessageKind.TheVariants as messages
use Rattle.tau_steps.specs.declared.kinds.AloneKind.TheVariants as alone
use Rattle.tau_steps.specs.Kinds.{kind_in, is_later, kind_at, kind_of}

-- the word of a kind
abbrev word_of : Kind → List ℕ
word_of (kinds.OfMessage messages.Take) = codes "take"
word_of (kinds.OfMessage messages.Drop) = codes "drop"
word_of (kinds.OfMessage messages.Fall) = codes "fall"
word_of (kinds.OfMessage messages.Void) = codes "void"
word_of (kinds.Alone alone.Get) = codes "get"
word_of kinds.Set = codes "set"
word_of (kinds.Alone alone.Skip) = codes "skip"
word_of kinds.Send = codes "send"
word_of kinds.New = codes "new"
word_of (kinds.Alone alone.Stabilize) = codes "stabilize"
word_of kinds.Ask = codes "ask"
word_of (kinds.Alone alone.Checkpoint) = codes "checkpoint"
word_of (kinds.Alone alone.Hold) = codes "hold"
word_of (kinds.Alone alone.Rollback) = codes "rollback"
word_of (kinds.Alone alone.Stay) = codes "stay"
word_of (kinds.Alone alone.Done) = codes "done"
word_of kinds.Trap = codes "trap"
word_of (kinds.Alone alone.Fail) = codes "fail"
word_of kinds.Lose = codes "lose"
word_of kinds.Echo = codes "echo"
word_of (kinds.OfMessage messages.Heed) = codes "heed"
word_of kinds.Repeat = codes "repeat"
word_of kinds.Other = []

-- one row of the table
row : (w key : List ℕ) (k rest : Kind) → word_of k ≡ key → (rest ≢ kinds.Other → w ≡ word_of rest) → cond (bytes_eq w key) k rest ≢ kinds.Other → w ≡ word_of (cond (bytes_eq w key) k rest)
row w key k rest e h = by (bytes_eq w key) refl
  where
    by : (b : Bool) → bytes_eq w key ≡ b → cond b k rest ≢ kinds.Other → w ≡ word_of (cond b k rest)
    by true q = λ _. (bytes_eq-Decides w key).0 q ∙ sym e
    by false q = h

-- the whole table
word_in : (w : List ℕ) → kind_in w ≢ kinds.Other → w ≡ word_of (kind_in w)
word_in w =
    row w (codes "take") (kinds.OfMessage messages.Take) _ refl
    (row w (codes "drop") (kinds.OfMessage messages.Drop) _ refl
    (row w (codes "fall") (kinds.OfMessage messages.Fall) _ refl
    (row w (codes "void") (kinds.OfMessage messages.Void) _ refl
    (row w (codes "get") (kinds.Alone alone.Get) _ refl
    (row w (codes "set") kinds.Set _ refl
    (row w (codes "skip") (kinds.Alone alone.Skip) _ refl
    (row w (codes "send") kinds.Send _ refl
    (row w (codes "new") kinds.New _ refl
    (row w (codes "stabilize") (kinds.Alone alone.Stabilize) _ refl
    (row w (codes "ask") kinds.Ask _ refl
    (row w (codes "checkpoint") (kinds.Alone alone.Checkpoint) _ refl
    (row w (codes "hold") (kinds.Alone alone.Hold) _ refl
    (row w (codes "rollback") (kinds.Alone alone.Rollback) _ refl
    (row w (codes "stay") (kinds.Alone alone.Stay) _ refl
    (row w (codes "done") (kinds.Alone alone.Done) _ refl
    (row w (codes "trap") kinds.Trap _ refl
    (row w (codes "fail") (kinds.Alone alone.Fail) _ refl
    (row w (codes "lose") kinds.Lose _ refl
    (row w (codes "echo") kinds.Echo _ refl
    (row w (codes "heed") (kinds.OfMessage messages.Heed) _ refl
    (row w (codes "repeat") kinds.Repeat _ refl
    (λ ne. absurd (ne refl)))))))))))))))))))))))

-- a step begins with the word of its kind
word_of-step : (s : Step) → word_of (kind_of s) ≡ kind_word s
word_of-step (Take t m) = refl
word_of-step s = refl

-- each step is of a kind of steps
not_other : (s : Step) → kind_of s ≢ kinds.Other
not_other (Take t m) e = cc
not_other s e = cc

-- a word that begins the form of a step's kind is the step's word
pub word_of_kind : (w : List ℕ) (s : Step) → kind_of s ≡ kind_in w → w ≡ kind_word s
word_of_kind w s e = word_in w (λ o. not_other s (e ∙ o)) ∙ ap word_of (sym e) ∙ word_of-step s

-- the word of a step tells its kind
pub kind_of-word : (s : Step) → kind_in (kind_word s) ≡ kind_of s
kind_of-word (Take t m) = refl
kind_of-word s = refl

-- a step of its version is of its kind there
pub kind_at-step : (v : ℕ) (s : Step) → IsInVersion v s → kind_at v (kind_of s) ≡ kind_of s
kind_at-step v (Echo t m) e = ap (λ b. cond b kinds.Echo kinds.Other) (eq-eqb v 2 e)
kind_at-step v (Heed t m) e = ap (λ b. cond b (kinds.OfMessage messages.Heed) kinds.Other) (eq-eqb v 2 e)
kind_at-step v (Repeat m) e = ap (λ b. cond b kinds.Repeat kinds.Other) (eq-eqb v 2 e)
kind_at-step v s e = refl

-- a step whose kind is later is of version 2
later_step : (v : ℕ) (s : Step) → (is_later (kind_of s) ≡ true → v ≡ 2) → IsInVersion v s
later_step v (Echo t m) e = e refl
later_step v (Heed t m) e = e refl
later_step v (Repeat m) e = e refl
later_step v s e = tt

-- what a step's kind is in a version tells the kind, and that the step is of the version
pub in_version : (v : ℕ) (k : Kind) (s : Step) → kind_of s ≡ kind_at v k → (kind_of s ≡ k) × IsInVersion v s
in_version v k s e = by (is_later k) refl e where
  by : (b : Bool) → is_later k ≡ b → kind_of s ≡ cond b (cond (eqb v 2) k kinds.Other) k → (kind_of s ≡ k) × IsInVersion v s
  by false q f = (f, later_step v s (λ l. let both : false ≡ true = sym q ∙ ap is_later (sym f) ∙ l in cc))
  by true q f = inner (eqb v 2) refl f where
    inner : (b : Bool) → eqb v 2 ≡ b → kind_of s ≡ cond b k kinds.Other → (kind_of s ≡ k) × IsInVersion v s
    inner true two g = (g, later_step v s (λ l. eqb-true v 2 two))
    inner false not g = absurd (not_other s g)
