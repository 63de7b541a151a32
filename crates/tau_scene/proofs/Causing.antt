-- The causes of steps.
use Rattle.std.proofs.Common.{◌≡◌, ⊎_elim, inr, ℕ, ◌+◌, ◌<◌, ◌≤◌, List, length, get_or, take, Option, Some, None, refl, sym, ap, ◌∙◌, subst, eqb, eqb-true, cond}
use Rattle.std.specs.Prelude.{Contains}
use Rattle.std.proofs.lemmas.Bool.{eq-eqb}
use Rattle.std.proofs.lemmas.List.{take_more, take_all}
use Rattle.std.proofs.lemmas.List.Elements.{Contains-push_cases, Contains-get_or}
use Rattle.std.proofs.lemmas.Option.{cond_some}
use Rattle.tau_points.proofs.Membership.{Contains-none}
use Rattle.tau_explain.specs.declared.chains.chained.Chained.{Chained}
use Rattle.tau_trace.specs.declared.step.Step.{Step}
use Rattle.tau_trace.specs.Run.{Run}
use Rattle.tau_trace.proofs.Lists.{same_some}
use Rattle.tau_explain.specs.Links.Links.{points_of}
use Rattle.tau_explain.specs.declared.answers.Why.{Why}
use Rattle.tau_explain.specs.declared.answers.Why.TheVariants as answers
use Rattle.tau_explain.specs.Decisions.{IsWhy, IsAnswer}
use Rattle.tau_cut.specs.declared.cut.Marked.{Marked}
use Rattle.tau_cut.specs.declared.cut.Marked.TheVariants.{In, Out}
use Rattle.tau_scene.specs.Causes.Causes.{IsCauseAt}
use Rattle.tau_scene.specs.Causes.Inner.Cuts.{chain_for, IsChainAt}

out_chain : (k : ℕ) (m : Marked) (chain : List Chained) → m ≡ Out k chain → chain_for k m ≡ Some chain
out_chain k m chain e = ap (chain_for k) e ∙ ap (λ b. cond b (Some chain) None) (eq-eqb k k refl)

-- none of the first marks is Out at the place
abbrev pub NoneOut : List Marked → ℕ → ℕ → Type 0
NoneOut cut k n = (chain : List Chained) → ¬ Contains (take n cut) (Out k chain)

pub none_first : (cut : List Marked) (k : ℕ) → NoneOut cut k 0
none_first cut k chain c = Contains-none (Out k chain) c

pub none_more : (cut : List Marked) (k n : ℕ) (m : Marked) → n < length cut → m ≡ get_or cut n m → chain_for k m ≡ None → NoneOut cut k n → NoneOut cut k (n + 1)
none_more cut k n m lt is none before chain c = ⊎_elim
    (λ h. before chain h)
    (λ (e : get_or cut n m ≡ Out k chain). let f = sym none ∙ out_chain k m chain (is ∙ e) in cc)
    (Contains-push_cases (take n cut) (get_or cut n m) (Out k chain) (subst (λ (l : List Marked). Contains l (Out k chain)) (take_more cut n m lt) c))

pub none_all : (cut : List Marked) (k n : ℕ) → length cut ≤ n → NoneOut cut k n → IsChainAt cut k None
none_all cut k n le none chain c = none chain (subst (λ (l : List Marked). Contains l (Out k chain)) (sym (take_all n cut le)) c)

-- where there is no chain of `why`
no_why : (T : Run) (k : ℕ) (chain : List Chained) → IsWhy T k answers.NoChain → ¬ IsWhy T k (answers.Chain chain)
no_why T k chain none some =
    let same : some.0 ≡ none.0 = same_some (sym some.1.stands ∙ none.1.stands) in
    none.2 (points_of chain) (subst (λ (s : Step). IsAnswer T k s (points_of chain)) same some.2.first.chain)

not_why : (T : Run) (k : ℕ) (chain : List Chained) → IsWhy T k answers.NotAsked → ¬ IsWhy T k (answers.Chain chain)
not_why T k chain none some = none (some.0, some.1)

by_cut : (T : Run) (cut : List Marked) (k : ℕ) (o : Option (List Chained)) → ((chain : List Chained) → ¬ IsWhy T k (answers.Chain chain)) → IsChainAt cut k o → IsCauseAt T cut k o
by_cut T cut k None none told = λ chain c. ⊎_elim (none chain) (told chain) c
by_cut T cut k (Some chain) none told = inr told

pub cause_by_cut : (T : Run) (cut : List Marked) (k : ℕ) (w : Why) (o : Option (List Chained)) → IsWhy T k w → ((chain : List Chained) → w ≡ answers.Chain chain → ⊥) → IsChainAt cut k o → IsCauseAt T cut k o
cause_by_cut T cut k (answers.Chain chain) o is other told = absurd (other chain refl)
cause_by_cut T cut k answers.NoChain o is other told = by_cut T cut k o (λ chain. no_why T k chain is) told
cause_by_cut T cut k answers.NotAsked o is other told = by_cut T cut k o (λ chain. not_why T k chain is) told
