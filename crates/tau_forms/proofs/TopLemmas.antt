-- The forms at the top: what is wanted of their items, and their faults one after another.
use Rattle.std.proofs.Common.{◌≡◌, ◌≢◌, ℕ, ◌<◌, ◌≤◌, true, false, List, [], Option, Some, None, Result, Err, is_some, cond, refl, sym, ap, ap₂, subst, ◌∙◌, arith}
use Rattle.tau_sexpr.specs.Form.{tree_of}
use Rattle.tau_sexpr.specs.Tree.{Tree, Trees, word, text, list, none, more, inside, size_of_all, sizes, size_of_all-inside}
use Rattle.tau_sexpr.specs.declared.trees.Form.{Form}
use Rattle.tau_sexpr.specs.declared.trees.Form.TheVariants as forms
use Rattle.tau_forms.specs.declared.faults.ProgramError.{ProgramError}
use Rattle.tau_forms.specs.declared.faults.ProgramError.TheVariants as errors
use Rattle.tau_forms.specs.declared.keywords.Sort.{Sort}
use Rattle.tau_forms.specs.declared.keywords.Sort.TheVariants as sorts
use Rattle.tau_forms.specs.declared.tables.Tables.{Tables}
use Rattle.tau_forms.specs.declared.wanted.FaultKind.TheVariants as kinds
use Rattle.tau_forms.specs.Inner.Defined.{nodes_told, version_items}
use Rattle.tau_forms.specs.Faults.{Fault, shape, unknown, twice, FaultAt, FaultIn, tops_after, ProgramFaultAt, in_top, no_nodes, IsClean, IsFirst}
use Rattle.tau_forms.specs.Keywords.{sort_in}
use Rattle.tau_forms.specs.Inner.Passing.{TellsFault, has_top_items, nodes_first, version_first}
use Rattle.tau_forms.specs.Roles.{Role, top, first, mark, row, top_items, top_first, with_first, count_of}
use Rattle.tau_forms.specs.Tops.{is_nodes, is_version, nodes_of, tables_of}
use Rattle.tau_forms.proofs.DefinedLemmas.{nodes_in_list, version_in_list}
use Rattle.tau_forms.proofs.PassLemmas.{faults_within, word_passes, text_passes}

-- a list with a wrong number of items
pub top_items_none : (tb : Tables) (before : List Tree) (s : Sort) (ts : Trees) → has_top_items s (count_of ts) ≡ false → top_items tb before s ts ≡ None
top_items_none tb before sorts.Nodes none h = refl
top_items_none tb before sorts.Nodes (more t none) h = cc
top_items_none tb before sorts.Nodes (more t (more u ts)) h = refl
top_items_none tb before sorts.Behaviour none h = refl
top_items_none tb before sorts.Behaviour (more t none) h = refl
top_items_none tb before sorts.Behaviour (more t (more u none)) h = cc
top_items_none tb before sorts.Behaviour (more t (more u (more v ts))) h = refl
top_items_none tb before sorts.Start none h = refl
top_items_none tb before sorts.Start (more t none) h = refl
top_items_none tb before sorts.Start (more t (more u none)) h = refl
top_items_none tb before sorts.Start (more t (more u (more v none))) h = refl
top_items_none tb before sorts.Start (more t (more u (more v (more x none)))) h = cc
top_items_none tb before sorts.Start (more t (more u (more v (more x (more y ts))))) h = refl
top_items_none tb before sorts.Post none h = refl
top_items_none tb before sorts.Post (more t none) h = refl
top_items_none tb before sorts.Post (more t (more u none)) h = cc
top_items_none tb before sorts.Post (more t (more u (more v ts))) h = refl
top_items_none tb before sorts.At none h = refl
top_items_none tb before sorts.At (more t none) h = refl
top_items_none tb before sorts.At (more t (more u none)) h = cc
top_items_none tb before sorts.At (more t (more u (more v ts))) h = refl
top_items_none tb before sorts.Version none h = refl
top_items_none tb before sorts.Version (more t none) h = cc
top_items_none tb before sorts.Version (more t (more u ts)) h = refl
top_items_none tb before sorts.Other ts h = refl

pub row_of_top : (tb : Tables) (before : List Tree) (ts us : Trees) (h : List ℕ) (s : Sort) → ts ≡ more (word h) us → s ≡ sort_in h → row tb (top before) ts ≡ with_first (top_first before (list ts)) (top_items tb before s us)
row_of_top tb before ts us h s e d =
    let is : row tb (top before) (more (word h) us) ≡ with_first (top_first before (list (more (word h) us))) (top_items tb before s us) = ap (λ q. with_first (top_first before (list (more (word h) us))) (top_items tb before q us)) (sym d) in
    ap (row tb (top before)) e ∙ is ∙ ap (λ q. with_first (top_first before (list q)) (top_items tb before s us)) (sym e)

pub row_of_top_none : (tb : Tables) (before : List Tree) (ts us : Trees) (h : List ℕ) (s : Sort) (n : ℕ) → ts ≡ more (word h) us → s ≡ sort_in h → count_of us ≡ n → has_top_items s n ≡ false → None ≡ row tb (top before) ts
row_of_top_none tb before ts us h s n e d c f = sym (row_of_top tb before ts us h s e d ∙ ap (with_first (top_first before (list ts))) (top_items_none tb before s us (ap (has_top_items s) c ∙ f)))

-- the first word, by the numbers that the list tells
abbrev first_by : List Tree → Option ℕ → Option ℕ → Role
first_by before nodes version = cond (is_some nodes) (mark (is_some (nodes_of before))) (version_first before version)

pub first_is_mark : (before : List Tree) (ts us : Trees) (h : List ℕ) (s : Sort) → ts ≡ more (word h) us → s ≡ sort_in h → s ≡ sorts.Nodes → nodes_first before (nodes_told us) ≡ top_first before (list ts)
first_is_mark before ts us h s e d f =
    let nodes : is_nodes (sort_in h) ≡ true = ap is_nodes (sym d ∙ f) in
    let version : is_version (sort_in h) ≡ false = ap is_version (sym d ∙ f) in
    sym (ap (λ q. top_first before (list q)) e ∙ ap₂ (first_by before) (nodes_in_list h us true nodes) (version_in_list h us false version))

pub first_is_version : (before : List Tree) (ts us : Trees) (h : List ℕ) (s : Sort) → ts ≡ more (word h) us → s ≡ sort_in h → s ≡ sorts.Version → version_first before (version_items us) ≡ top_first before (list ts)
first_is_version before ts us h s e d f =
    let nodes : is_nodes (sort_in h) ≡ false = ap is_nodes (sym d ∙ f) in
    let version : is_version (sort_in h) ≡ true = ap is_version (sym d ∙ f) in
    sym (ap (λ q. top_first before (list q)) e ∙ ap₂ (first_by before) (nodes_in_list h us false nodes) (version_in_list h us true version))

not_nodes : (s : Sort) → s ≢ sorts.Nodes → is_nodes s ≡ false
not_nodes sorts.Nodes h = absurd (h refl)
not_nodes sorts.Behaviour h = refl
not_nodes sorts.Start h = refl
not_nodes sorts.Post h = refl
not_nodes sorts.At h = refl
not_nodes sorts.Version h = refl
not_nodes sorts.Other h = refl

not_version : (s : Sort) → s ≢ sorts.Version → is_version s ≡ false
not_version sorts.Nodes h = refl
not_version sorts.Behaviour h = refl
not_version sorts.Start h = refl
not_version sorts.Post h = refl
not_version sorts.At h = refl
not_version sorts.Version h = absurd (h refl)
not_version sorts.Other h = refl

pub first_is_word : (before : List Tree) (ts us : Trees) (h : List ℕ) (s : Sort) → ts ≡ more (word h) us → s ≡ sort_in h → s ≢ sorts.Nodes → s ≢ sorts.Version → first ≡ top_first before (list ts)
first_is_word before ts us h s e d f g =
    let nodes : is_nodes (sort_in h) ≡ false = ap is_nodes (sym d) ∙ not_nodes s f in
    let version : is_version (sort_in h) ≡ false = ap is_version (sym d) ∙ not_version s g in
    sym (ap (λ q. top_first before (list q)) e ∙ ap₂ (first_by before) (nodes_in_list h us false nodes) (version_in_list h us false version))

-- the faults of a program's forms are those at the top, and the missing number of nodes
abbrev pub FaultTop : List Tree → ℕ → Fault → Type 0
FaultTop ts = FaultIn (tables_of ts) (tops_after [] ts) (inside ts)

program_first : (ts : List Tree) (n : ℕ) (f : Fault) → IsFirst (FaultTop ts) n f → IsFirst (ProgramFaultAt ts) n f
program_first ts n f i = record { fault = in_top i.fault; least = least; only = λ g. only n g refl }
  where
    within : n < sizes ts
    within = omega (arith, faults_within (tables_of ts) (tops_after [] ts) (inside ts) n f i.fault, size_of_all-inside ts)

    least : (m : ℕ) (g : Fault) → ProgramFaultAt ts m g → n ≤ m
    least m g (in_top h) = i.least m g h
    least m g (no_nodes z h) = omega (arith, within)

    only : (m : ℕ) (g : Fault) → m ≡ n → ProgramFaultAt ts m g → f ≡ g
    only m g e (in_top h) = i.only g (subst (λ k. FaultTop ts k g) e h)
    only m g e (no_nodes z h) = absurd (omega (arith, within))

pub program_tells : (ts : List Tree) (e : ProgramError) → TellsFault (FaultTop ts) 0 e → TellsFault (ProgramFaultAt ts) 0 e
program_tells ts (errors.Shape k) t = (t.0, t.1, program_first ts t.0 shape t.2)
program_tells ts (errors.Unknown k) t = (t.0, t.1, program_first ts t.0 unknown t.2)
program_tells ts (errors.Twice k) t = (t.0, t.1, program_first ts t.0 twice t.2)
program_tells ts (errors.Limit k) t = elim t [ ]
program_tells ts errors.NoMemory t = tt

pub program_clean : (ts : List Tree) (n : ℕ) → nodes_of ts ≡ Some n → IsClean (FaultTop ts) → IsClean (ProgramFaultAt ts)
program_clean ts n e clean m f (in_top h) = clean m f h
program_clean ts n e clean m f (no_nodes z h) = cc

pub nodes_missing : (ts : List Tree) (node : ℕ) → nodes_of ts ≡ None → IsClean (FaultTop ts) → node ≡ size_of_all (inside ts) → TellsFault (ProgramFaultAt ts) 0 (errors.Shape node)
nodes_missing ts node e clean z = (node, omega arith, record { fault = no_nodes there e; least = least; only = only })
  where
    there : node ≡ sizes ts
    there = z ∙ size_of_all-inside ts

    least : (m : ℕ) (g : Fault) → ProgramFaultAt ts m g → node ≤ m
    least m g (in_top h) = absurd (clean m g h)
    least m g (no_nodes y h) = omega (arith, there)

    only : (g : Fault) → ProgramFaultAt ts node g → shape ≡ g
    only g (in_top h) = absurd (clean node g h)
    only g (no_nodes y h) = refl

-- a word or a text at the top
pub top_word_tells : (tb : Tables) (before : List Tree) (w : List ℕ) (at : ℕ) → TellsFault (FaultAt tb (top before) (word w)) at (errors.Shape at)
top_word_tells tb before w at = word_passes tb (top before) w (Some kinds.Shape) at at (let e : Result (Unit {0}) ProgramError = Err (errors.Shape at) in e) (λ e. cc) refl refl

pub top_text_tells : (tb : Tables) (before : List Tree) (w : List ℕ) (at : ℕ) → TellsFault (FaultAt tb (top before) (text w)) at (errors.Shape at)
top_text_tells tb before w at = text_passes tb (top before) w (Some kinds.Shape) at at (let e : Result (Unit {0}) ProgramError = Err (errors.Shape at) in e) (λ e. cc) refl refl

pub top_other_tells : (tb : Tables) (before : List Tree) (f : Form) (at : ℕ) → ((ts : List Tree) → f ≢ forms.List ts) → TellsFault (FaultAt tb (top before) (tree_of f)) at (errors.Shape at)
top_other_tells tb before (forms.Word w) at h = top_word_tells tb before w at
top_other_tells tb before (forms.Text w) at h = top_text_tells tb before w at
top_other_tells tb before (forms.List ts) at h = absurd (h ts refl)
