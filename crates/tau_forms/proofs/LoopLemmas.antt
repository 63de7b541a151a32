-- The items of a list, passed one by one.
use Rattle.std.proofs.Common.{◌≡◌, ◌≢◌, ℕ, ◌+◌, ◌-◌, ◌<◌, ◌≤◌, List, ◌∷◌, length, get_or, drop, Some, refl, sym, ap, subst, ◌∙◌, arith}
use Rattle.tau_sexpr.specs.Form.{tree_of}
use Rattle.tau_sexpr.specs.Tree.{Trees, list, more, size_of, size_of_all}
use Rattle.tau_sexpr.specs.declared.trees.Form.{Form}
use Rattle.tau_forms.specs.declared.faults.ProgramError.{ProgramError}
use Rattle.tau_forms.specs.declared.rows.Row.{Row}
use Rattle.tau_forms.specs.declared.tables.Tables.{Tables}
use Rattle.tau_forms.specs.Faults.{FaultAt, FaultIn, IsClean}
use Rattle.tau_forms.specs.Inner.Passing.{TellsFault, roles_along}
use Rattle.tau_forms.specs.Roles.{Role, value, row}
use Rattle.tau_forms.specs.Inner.Wanted.{role_of}
use Rattle.tau_forms.proofs.ListLemmas.{left, left_item, left_all}
use Rattle.tau_forms.proofs.PassLemmas.{Shift, shift_both, shift_clean, shift_tells, item_shift, item_tells, no_items_clean, list_shift}
use Rattle.tau_forms.proofs.RowLemmas.{roles_step}

-- the roles of the items that are left from the k-th on
abbrev pub roles_left : Row → List Form → ℕ → List Role
roles_left w fs k = roles_along (drop k w.leading) w.rest (left fs k)

-- the first k items have no fault; the next node is told
pub record Reached (tb : Tables) (w : Row) (fs : List Form) (first k node : ℕ) : Type 0 where
  pub low : first ≤ node
  pub passed : node + size_of_all (left fs k) ≡ first + size_of_all (left fs 0)
  pub shift : Shift (FaultIn tb (roles_left w fs 0) (left fs 0)) (FaultIn tb (roles_left w fs k) (left fs k)) (node - first)

pub reached_more : (tb : Tables) (w : Row) (fs : List Form) (first k node next : ℕ) (f : Form) (r : Role) → k < length fs → f ≡ get_or fs k f → r ≡ role_of (get_or w.leading k w.rest) → Reached tb w fs first k node → IsClean (FaultAt tb r (tree_of f)) → next ≡ node + size_of (tree_of f) → Reached tb w fs first (k + 1) next
reached_more tb w fs first k node next f r lt is role h clean e =
    let t = tree_of f in
    let F = FaultIn tb (roles_left w fs 0) (left fs 0) in
    let there = left_item fs k f lt is in
    let roles : roles_left w fs k ≡ r ∷ roles_left w fs (k + 1) = ap (roles_along (drop k w.leading) w.rest) there ∙ roles_step w.leading w.rest k t (left fs (k + 1)) ∙ ap (λ q. q ∷ roles_left w fs (k + 1)) (sym role) in
    let here : Shift F (FaultIn tb (r ∷ roles_left w fs (k + 1)) (more t (left fs (k + 1)))) (node - first) = subst (λ ts. Shift F (FaultIn tb (r ∷ roles_left w fs (k + 1)) ts) (node - first)) there (subst (λ rs. Shift F (FaultIn tb rs (left fs k)) (node - first)) roles h.shift) in
    let both = shift_both F (FaultIn tb (r ∷ roles_left w fs (k + 1)) (more t (left fs (k + 1)))) (FaultIn tb (roles_left w fs (k + 1)) (left fs (k + 1))) (node - first) (size_of t) here (item_shift tb r (roles_left w fs (k + 1)) t (left fs (k + 1)) clean) in
    let sum : node - first + size_of t ≡ next - first = omega (arith, h.low) in
    record {
      low = omega (arith, h.low);
      passed = omega (arith, h.passed, ap size_of_all there);
      shift = subst (Shift F (FaultIn tb (roles_left w fs (k + 1)) (left fs (k + 1)))) sum both;
    }

pub reached_tells : (tb : Tables) (w : Row) (fs : List Form) (first k node : ℕ) (f : Form) (r : Role) (e : ProgramError) → k < length fs → f ≡ get_or fs k f → r ≡ role_of (get_or w.leading k w.rest) → Reached tb w fs first k node → TellsFault (FaultAt tb r (tree_of f)) node e → TellsFault (FaultIn tb (roles_left w fs 0) (left fs 0)) first e
reached_tells tb w fs first k node f r e lt is role h told =
    let t = tree_of f in
    let F = FaultIn tb (roles_left w fs 0) (left fs 0) in
    let there = left_item fs k f lt is in
    let roles : roles_left w fs k ≡ r ∷ roles_left w fs (k + 1) = ap (roles_along (drop k w.leading) w.rest) there ∙ roles_step w.leading w.rest k t (left fs (k + 1)) ∙ ap (λ q. q ∷ roles_left w fs (k + 1)) (sym role) in
    let here : Shift F (FaultIn tb (r ∷ roles_left w fs (k + 1)) (more t (left fs (k + 1)))) (node - first) = subst (λ ts. Shift F (FaultIn tb (r ∷ roles_left w fs (k + 1)) ts) (node - first)) there (subst (λ rs. Shift F (FaultIn tb rs (left fs k)) (node - first)) roles h.shift) in
    shift_tells F (FaultIn tb (r ∷ roles_left w fs (k + 1)) (more t (left fs (k + 1)))) (node - first) first node e here (omega (arith, h.low)) (item_tells tb r (roles_left w fs (k + 1)) t (left fs (k + 1)) node e told)

pub reached_end : (tb : Tables) (w : Row) (fs : List Form) (first k node : ℕ) → length fs ≤ k → Reached tb w fs first k node → IsClean (FaultIn tb (roles_left w fs 0) (left fs 0)) × (node ≡ first + size_of_all (left fs 0))
reached_end tb w fs first k node le h =
    let F = FaultIn tb (roles_left w fs 0) (left fs 0) in
    let all = left_all fs k le in
    let clean : IsClean (FaultIn tb (roles_left w fs k) (left fs k)) = subst (λ ts. IsClean (FaultIn tb (roles_left w fs k) ts)) (sym all) (no_items_clean tb (roles_left w fs k)) in (
      shift_clean F (FaultIn tb (roles_left w fs k) (left fs k)) (node - first) h.shift clean,
      omega (arith, h.passed, ap size_of_all all),
    )

-- a list is passed by its own node and then its items
pub list_tells : (tb : Tables) (r : Role) (ts : Trees) (rs : List Role) (at : ℕ) (e : ProgramError) → r ≢ value → row tb r ts ≡ Some rs → TellsFault (FaultIn tb rs ts) (at + 1) e → TellsFault (FaultAt tb r (list ts)) at e
list_tells tb r ts rs at e other is told = shift_tells (FaultAt tb r (list ts)) (FaultIn tb rs ts) 1 at (at + 1) e (list_shift tb r ts rs other is) refl told

pub list_clean : (tb : Tables) (r : Role) (ts : Trees) (rs : List Role) → r ≢ value → row tb r ts ≡ Some rs → IsClean (FaultIn tb rs ts) → IsClean (FaultAt tb r (list ts))
list_clean tb r ts rs other is clean = shift_clean (FaultAt tb r (list ts)) (FaultIn tb rs ts) 1 (list_shift tb r ts rs other is) clean
