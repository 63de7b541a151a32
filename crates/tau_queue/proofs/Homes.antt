-- Each transactor has a node.
use Rattle.std.proofs.Common.{◌≡◌, ◌⊎◌, ⊎_elim, ℕ, zero, suc, ◌+◌, ◌<◌, true, false, cond, Option, Some, None, List, [], ◌∷◌, length, refl, ap, subst, arith}
use Rattle.std.specs.Prelude.{slice_get}
use Rattle.std.specs.Option.{option_map_or}
use Rattle.tau_value.specs.declared.shared.Value.{Value}
use Rattle.tau_trace.specs.declared.step.Step.{Step}
use Rattle.tau_trace.specs.declared.step.Step.TheVariants.{New}
use Rattle.tau_trace.specs.Steps.{is_new}
use Rattle.tau_trace.specs.Run.{Run, step_at}
use Rattle.tau_trace.specs.Numbering.{born, IsHome, start, created}
use Rattle.tau_trace.specs.Known.{IsSound, WellFormed}
use Rattle.tau_legal.proofs.ValueLemmas.{at_all}
use Rattle.tau_trace.proofs.Counts.{count-suc, count-zero}

-- the element at a place within a list
pub at_place : {A : Type 0} (xs : List A) (k : ℕ) → k < length xs → (x : A) × (slice_get xs k ≡ Some x)
at_place [] k l = absurd (omega arith)
at_place (x ∷ xs) zero l = (x, refl)
at_place (x ∷ xs) (suc k) l = at_place xs k (omega (arith, l))

pub below_or_last : (j k : ℕ) → j < k + 1 → (j < k) ⊎ (j ≡ k)
below_or_last j k l = grind arith

-- transactor t stands at some node
abbrev pub HasHome : Run → ℕ → Type 0
HasHome T t = (n : ℕ) × IsHome T t n

module _ (T : Run) (k t : ℕ) where
  one_born : born T (suc k) ≡ born T k + cond (option_map_or is_new (step_at T k) false) 1 0
  one_born = omega (arith, count-suc (λ j. option_map_or is_new (step_at T j) false) k)

  unborn : option_map_or is_new (step_at T k) false ≡ false → t < born T (suc k) → t < born T k
  unborn e l =
      let more : born T (suc k) ≡ born T k + 0 = subst (λ b. born T (suc k) ≡ born T k + cond b 1 0) e one_born in
      omega (arith, more)

  born_now : (by b n : ℕ) (v : Value) → step_at T k ≡ Some (New by b n v) → t < born T (suc k) → (t < born T k → HasHome T t) → HasHome T t
  born_now by b n v e l back =
      let is : option_map_or is_new (step_at T k) false ≡ true = ap (λ o. option_map_or is_new o false) e in
      let more : born T (suc k) ≡ born T k + 1 = subst (λ x. born T (suc k) ≡ born T k + cond x 1 0) is one_born in
      ⊎_elim back (λ same. (n, created (record { behaviour = b; node = n; state = v; stands = e; made = same }) refl)) (below_or_last t (born T k) (omega (arith, more)))

  by_birth : (o : Option Step) → step_at T k ≡ o → t < born T (suc k) → (t < born T k → HasHome T t) → HasHome T t
  by_birth (Some (New by b n v)) e l back = born_now by b n v e l back
  by_birth (Some s) e l back = back (unborn (ap (λ o. option_map_or is_new o false) e) l)
  by_birth None e l back = back (unborn (ap (λ o. option_map_or is_new o false) e) l)

pub each_homed : (T : Run) → IsSound T.opening → (k t : ℕ) → t < born T k → HasHome T t
each_homed T sound zero t l =
    let h = at_place T.opening.homes t (omega (arith, l, sound.a_home_each, count-zero (λ j. option_map_or is_new (step_at T j) false))) in
    (h.0, start h.1)
each_homed T sound (suc k) t l = by_birth T k t (step_at T k) refl l (λ b. each_homed T sound k t b)

-- the node of a transactor is one of the program's
pub home_below : (T : Run) → WellFormed T → (t n : ℕ) → IsHome T t n → n < T.opening.nodes
home_below T w t n (start e) = at_all (λ m. m < T.opening.nodes) T.opening.homes t n w.opening.homes e
home_below T w t n (created {j = j} {by = by} b is) = omega (arith, is, (w.known j (New by b.behaviour b.node b.state) b.stands).2)
