-- What `value_of` answers, from what the reader does with a form that is in bounds.
use Rattle.std.proofs.Common.{◌≡◌, ℕ, ◌+◌, ◌≤◌, List, length, Result, Ok, Err, Some, None, IfOk, IfErr, sym, subst, refl, arith}
use Rattle.tau_sexpr.specs.Tree.{Tree}
use Rattle.tau_value.specs.Val.{Val}
use Rattle.tau_value.specs.Value.{val_of}
use Rattle.tau_value.specs.Sizes.{IsInBounds, NamesBelow}
use Rattle.tau_value.specs.Numbers.{capped}
use Rattle.tau_value.specs.Meaning.{counted, Means, IsFault, IsFirstFault, Fault, shape, unknown, too_large}
use Rattle.tau_value.specs.Inner.Reading.{scan, Reads}
use Rattle.tau_value.specs.declared.shared.Value.{Value}
use Rattle.tau_value.specs.declared.faults.ValueError.{ValueError}
use Rattle.tau_value.specs.declared.faults.ValueError.TheVariants as errors
use Rattle.tau_value.proofs.MeaningLemmas.{Agrees, IsClean, IsFound, agrees, at_root, counted-names_below}

module _ (names : List (List ℕ)) (bound : ℕ) (t : Tree) where
  clean_from : IsInBounds (counted names bound t) → scan names bound t ≡ None → IsClean names bound t
  clean_from within e = subst (Agrees names bound t) e (agrees names bound t within)

  found_from : (n : ℕ) (f : Fault) → IsInBounds (counted names bound t) → scan names bound t ≡ Some (n, f) → IsFound names bound t n f
  found_from n f within e = subst (Agrees names bound t) e (agrees names bound t within)

  pub value_told : (next : ℕ) (r : Result Value ValueError) → IsInBounds (counted names bound t) → Reads names bound t 0 next r → IfOk r (λ v. Means names bound t (val_of v))
  value_told next (Ok v) within reads = record { value = sym reads.1; faultless = (clean_from within reads.0).faultless }
  value_told next (Err e) within reads = tt

  pub names_told : (next : ℕ) (r : Result Value ValueError) → length names ≤ bound → Reads names bound t 0 next r → IfOk r (λ v. NamesBelow bound (val_of v))
  names_told next (Ok v) le reads = subst (NamesBelow bound) (sym reads.1) (counted-names_below names bound t le)
  names_told next (Err e) le reads = tt

  fault_at : (n node : ℕ) (f : Fault) → IsInBounds (counted names bound t) → scan names bound t ≡ Some (n, f) → node ≡ capped (0 + n) → IsFirstFault names bound t node f
  fault_at n node f within e z =
      let found = found_from n f within e in
      let same : n ≡ node = omega (arith, found.near, within.0) in
      subst (λ k. IsFirstFault names bound t k f) same found.first

  pub fault_told : (next : ℕ) (r : Result Value ValueError) → IsInBounds (counted names bound t) → Reads names bound t 0 next r → IfErr r (IsFault names bound t)
  fault_told next (Ok v) within reads = tt
  fault_told next (Err (errors.Shape node)) within reads = fault_at reads.0 node shape within reads.1 reads.2
  fault_told next (Err (errors.Unknown node)) within reads = fault_at reads.0 node unknown within reads.1 reads.2
  fault_told next (Err errors.NoMemory) within reads = tt

  pub read_told : (next : ℕ) (r : Result Value ValueError) (v : Val) → IsInBounds (counted names bound t) → Reads names bound t 0 next r → Means names bound t v → IfErr r (λ e. e ≡ errors.NoMemory)
  read_told next (Ok w) v within reads means = tt
  read_told next (Err (errors.Shape node)) v within reads means = absurd (means.faultless reads.0 shape (found_from reads.0 shape within reads.1).first.fault)
  read_told next (Err (errors.Unknown node)) v within reads means = absurd (means.faultless reads.0 unknown (found_from reads.0 unknown within reads.1).first.fault)
  read_told next (Err errors.NoMemory) v within reads means = refl

  pub too_large_told : ¬ IsInBounds (counted names bound t) → IsFirstFault names bound t 0 shape
  too_large_told h = at_root names bound t (too_large refl h)

  pub too_large_means : (v : Val) → ¬ IsInBounds (counted names bound t) → ¬ Means names bound t v
  too_large_means v h means = means.faultless 0 shape (too_large refl h)
