-- The two readings of a program's forms, form by form.
use Rattle.std.proofs.Common.{◌≡◌, ℕ, ◌+◌, ◌<◌, ◌≤◌, ◌^◌, List, [], ◌∷◌, ◌++◌, length, get_or, take, drop, map, Some, None, refl, sym, ap, subst, ◌∙◌, arith, append_assoc, append-nil}
use Rattle.std.proofs.lemmas.List.{map_more, map-append, take-append-drop, take_all}
use Rattle.tau_sexpr.specs.Form.{tree_of}
use Rattle.tau_sexpr.specs.declared.trees.Form.{Form}
use Rattle.tau_sexpr.specs.Tree.{Tree, none, inside, size_of, sizes, size_of_all-inside, sizes-append}
use Rattle.tau_forms.specs.declared.builder.ProgramBuilder.{ProgramBuilder}
use Rattle.tau_forms.specs.declared.faults.ProgramError.{ProgramError}
use Rattle.tau_forms.specs.declared.faults.ProgramError.TheVariants as errors
use Rattle.tau_forms.specs.declared.tables.Tables.{Tables}
use Rattle.tau_forms.specs.Faults.{Fault, FaultAt, FaultIn, here, later, tops_after, IsClean, IsFault}
use Rattle.tau_forms.specs.Inner.Building.{HasBuilt}
use Rattle.tau_forms.specs.Inner.Defined.{IsDefined}
use Rattle.tau_forms.specs.Inner.Passing.{TellsFault, AreAdmitted}
use Rattle.tau_forms.specs.Readings.{HasTaken}
use Rattle.tau_forms.specs.Roles.{top}
use Rattle.tau_forms.specs.Tops.{limit_of, tables_of}
use Rattle.tau_forms.proofs.ListLemmas.{drop_item}
use Rattle.tau_forms.proofs.PassLemmas.{Shift, shift_both, shift_clean, shift_tells, item_shift, item_tells, no_items_clean}
use Rattle.tau_forms.proofs.ProgramLemmas.{starts_le, told}
use Rattle.tau_forms.proofs.TopLemmas.{FaultTop, program_tells, program_clean, nodes_missing}

-- the faults of forms at the top, after others
abbrev FaultFrom : Tables → List Tree → List Tree → ℕ → Fault → Type 0
FaultFrom tb before ts = FaultIn tb (tops_after before ts) (inside ts)

same_shift : (F : ℕ → Fault → Type 0) → Shift F F 0
same_shift F = record { to = λ n f h. (n, omega arith, h); from = λ m f h. let z : m ≡ 0 + m = omega arith in subst (λ k. F k f) z h }

-- behind a front without fault come the faults of what is left
front_shift : (tb : Tables) (pre before after : List Tree) → IsClean (FaultFrom tb pre before) → Shift (FaultFrom tb pre (before ++ after)) (FaultFrom tb (pre ++ before) after) (sizes before)
front_shift tb pre [] after clean =
    subst (λ ps. Shift (FaultFrom tb pre after) (FaultFrom tb ps after) 0) (sym (append-nil pre)) (same_shift (FaultFrom tb pre after))
front_shift tb pre (t ∷ ts) after clean =
    let one : IsClean (FaultAt tb (top pre) t) = λ n f h. clean n f (here h) in
    let rest : IsClean (FaultFrom tb (pre ++ t ∷ []) ts) = λ n f h. clean (size_of t + n) f (later refl h) in
    let there = front_shift tb (pre ++ t ∷ []) ts after rest in
    let joined : (pre ++ t ∷ []) ++ ts ≡ pre ++ t ∷ ts = append_assoc pre (t ∷ []) ts in
    subst (λ ps. Shift (FaultFrom tb pre (t ∷ (ts ++ after))) (FaultFrom tb ps after) (size_of t + sizes ts)) joined
    (shift_both (FaultFrom tb pre (t ∷ (ts ++ after))) (FaultFrom tb (pre ++ t ∷ []) (ts ++ after)) (FaultFrom tb ((pre ++ t ∷ []) ++ ts) after) (size_of t) (sizes ts)
    (item_shift tb (top pre) (tops_after (pre ++ t ∷ []) (ts ++ after)) t (inside (ts ++ after)) one) there)

-- one form more without fault
front_clean : (tb : Tables) (pre before : List Tree) (t : Tree) → IsClean (FaultFrom tb pre before) → IsClean (FaultAt tb (top (pre ++ before)) t) → IsClean (FaultFrom tb pre (before ++ t ∷ []))
front_clean tb pre before t clean one =
    let last : IsClean (FaultFrom tb (pre ++ before) (t ∷ [])) = shift_clean _ _ (size_of t) (item_shift tb (top (pre ++ before)) [] t none one) (no_items_clean tb []) in
    shift_clean (FaultFrom tb pre (before ++ t ∷ [])) (FaultFrom tb (pre ++ before) (t ∷ [])) (sizes before) (front_shift tb pre before (t ∷ []) clean) last

-- the first fault of the next form is the first of all
front_tells : (tb : Tables) (before after : List Tree) (t : Tree) (e : ProgramError) → IsClean (FaultFrom tb [] before) → TellsFault (FaultAt tb (top before) t) (sizes before) e → TellsFault (FaultFrom tb [] (before ++ t ∷ after)) 0 e
front_tells tb before after t e clean told =
    shift_tells (FaultFrom tb [] (before ++ t ∷ after)) (FaultFrom tb before (t ∷ after)) (sizes before) 0 (sizes before) e (front_shift tb [] before (t ∷ after) clean) (omega arith)
    (item_tells tb (top before) (tops_after (before ++ t ∷ []) after) t (inside after) (sizes before) e told)

-- the next form is passed: its place fits, and what it is after stands there
pub next_range : (ts before after : List Tree) (t : Tree) (b : ProgramBuilder) → ts ≡ before ++ (t ∷ after) → HasTaken ts before b → b.node + size_of t < 2 ^ 64
next_range ts before after t b is h = omega (arith, h.node, h.range, ap sizes is, sizes-append before (t ∷ after))

pub next_few : (ts before : List Tree) (b : ProgramBuilder) → HasTaken ts before b → length b.tables.starts ≤ 1024
next_few ts before b h = subst (λ tb. length tb.starts ≤ 1024) (sym h.tables) (starts_le ts h.limits)

pub next_fault : (ts before after : List Tree) (t : Tree) (b : ProgramBuilder) (e : ProgramError) → ts ≡ before ++ (t ∷ after) → HasTaken ts before b → TellsFault (FaultAt b.tables (top before) t) b.node e → IsFault ts e
next_fault ts before after t b e is h at_next =
    let tb = tables_of ts in
    let here : TellsFault (FaultAt tb (top before) t) (sizes before) e = subst (λ n. TellsFault (FaultAt tb (top before) t) n e) h.node (subst (λ q. TellsFault (FaultAt q (top before) t) b.node e) h.tables at_next) in
    let all : TellsFault (FaultTop ts) 0 e = subst (λ us. TellsFault (FaultFrom tb [] us) 0 e) (sym is) (front_tells tb before after t e h.clean here) in
    told ts e h.limits (program_tells ts e all)

pub next_clean : (ts before : List Tree) (t : Tree) (b : ProgramBuilder) → HasTaken ts before b → IsClean (FaultAt b.tables (top before) t) → IsClean (FaultIn (tables_of ts) (tops_after [] (before ++ t ∷ [])) (inside (before ++ t ∷ [])))
next_clean ts before t b h clean = front_clean (tables_of ts) [] before t h.clean (subst (λ q. IsClean (FaultAt q (top before) t)) h.tables clean)

-- all forms are taken
pub whole_clean : (ts : List Tree) (b : ProgramBuilder) (n : ℕ) → HasTaken ts ts b → b.earlier.nodes ≡ Some n → AreAdmitted ts b.tables
whole_clean ts b n h told = record { limits = h.limits; faultless = program_clean ts n (sym h.earlier.nodes ∙ told) h.clean; tables = h.tables }

pub whole_missing : (ts : List Tree) (b : ProgramBuilder) → HasTaken ts ts b → b.earlier.nodes ≡ None → IsFault ts (errors.Shape b.node)
whole_missing ts b h missing = told ts (errors.Shape b.node) h.limits (nodes_missing ts b.node (sym h.earlier.nodes ∙ missing) h.clean (h.node ∙ sym (size_of_all-inside ts)))

-- the forms at the top, up to a place and behind it
pub all_taken : (fs : List Form) (k : ℕ) → length fs ≤ k → map tree_of (take k fs) ≡ map tree_of fs
all_taken fs k le = ap (map tree_of) (take_all k fs le)

pub push_taken : (before : List Tree) (fs : List Form) (k : ℕ) (f : Form) → k < length fs → f ≡ get_or fs k f → (before ++ map tree_of (take k fs)) ++ tree_of f ∷ [] ≡ before ++ map tree_of (take (k + 1) fs)
push_taken before fs k f lt is =
    append_assoc before (map tree_of (take k fs)) (tree_of f ∷ [])
    ∙ ap (λ x. before ++ (map tree_of (take k fs) ++ tree_of x ∷ [])) is
    ∙ ap (λ ts. before ++ ts) (sym (map_more tree_of fs k f lt))

pub parted : (before after : List Tree) (fs : List Form) (k : ℕ) (f : Form) → k < length fs → f ≡ get_or fs k f
    → before ++ (map tree_of fs ++ after) ≡ (before ++ map tree_of (take k fs)) ++ (tree_of f ∷ (map tree_of (drop (k + 1) fs) ++ after))
parted before after fs k f lt is =
    let whole : map tree_of fs ≡ map tree_of (take k fs) ++ (tree_of f ∷ map tree_of (drop (k + 1) fs)) =
    ap (map tree_of) (sym (take-append-drop k fs)) ∙ map-append tree_of (take k fs) (drop k fs) ∙ ap (λ gs. map tree_of (take k fs) ++ map tree_of gs) (drop_item fs k f lt is) in
    ap (λ us. before ++ (us ++ after)) whole
    ∙ ap (λ us. before ++ us) (append_assoc (map tree_of (take k fs)) (tree_of f ∷ map tree_of (drop (k + 1) fs)) after)
    ∙ sym (append_assoc before (map tree_of (take k fs)) (tree_of f ∷ (map tree_of (drop (k + 1) fs) ++ after)))

-- nothing is taken of forms that keep the limits
pub none_taken : (ts : List Tree) (b : ProgramBuilder) → limit_of ts ≡ None → sizes ts + 1 < 2 ^ 64 → b.tables ≡ tables_of ts → IsDefined [] b.earlier → b.node ≡ 0 → HasBuilt b.tables [] b.draft → HasTaken ts [] b
none_taken ts b limits range tables earlier node built =
    record { limits = limits; range = range; tables = tables; earlier = earlier; node = node; clean = no_items_clean (tables_of ts) []; built = built }
