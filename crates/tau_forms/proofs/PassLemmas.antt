-- The faults of a form are those of its own node and of its items.
use Rattle.std.proofs.Common.{◌≡◌, ◌≢◌, ℕ, ◌+◌, ◌<◌, ◌≤◌, List, [], ◌∷◌, length, Option, Some, None, option_map, is_some, Result, Ok, Err, refl, sym, ap, subst, ◌∙◌, arith}
use Rattle.tau_sexpr.specs.Tree.{Tree, Trees, word, text, list, none, more, size_of, size_of_all}
use Rattle.tau_value.specs.Meaning as values
use Rattle.tau_value.proofs.MeaningLemmas as values_lemmas
use Rattle.tau_forms.specs.declared.faults.ProgramError.{ProgramError}
use Rattle.tau_forms.specs.declared.faults.ProgramError.TheVariants as errors
use Rattle.tau_forms.specs.declared.tables.Tables.{Tables}
use Rattle.tau_forms.specs.declared.wanted.FaultKind.{FaultKind}
use Rattle.tau_forms.specs.declared.wanted.FaultKind.TheVariants as kinds
use Rattle.tau_forms.specs.Faults.{Fault, shape, unknown, twice, of_value, unless, own_fault, list_fault, FaultAt, FaultIn, itself, in_value, in_item, here, later, IsClean, IsFirst}
use Rattle.tau_forms.specs.Inner.Passing.{TellsFault, Passes, PassesNode, error_at}
use Rattle.tau_forms.specs.Roles.{Role, top, first, mark, known, fresh, count, failure, value, expression, two_names, row}
use Rattle.tau_forms.specs.Inner.Wanted.{fault_in}

-- the faults of F are those of G, so many nodes later
pub record Shift (F G : ℕ → Fault → Type 0) (d : ℕ) : Type 0 where
  pub to : (n : ℕ) (f : Fault) → F n f → (m : ℕ) × (n ≡ d + m) × G m f
  pub from : (m : ℕ) (f : Fault) → G m f → F (d + m) f

pub shift_both : (F G H : ℕ → Fault → Type 0) (d e : ℕ) → Shift F G d → Shift G H e → Shift F H (d + e)
shift_both F G H d e one two = record { to = to; from = from }
  where
    to : (n : ℕ) (f : Fault) → F n f → (m : ℕ) × (n ≡ d + e + m) × H m f
    to n f h =
        let i = one.to n f h in
        let j = two.to i.0 f i.2 in
        (j.0, omega (arith, i.1, j.1), j.2)

    from : (m : ℕ) (f : Fault) → H m f → F (d + e + m) f
    from m f h = let z : d + (e + m) ≡ d + e + m = omega arith in subst (λ k. F k f) z (one.from (e + m) f (two.from m f h))

pub shift_clean : (F G : ℕ → Fault → Type 0) (d : ℕ) → Shift F G d → IsClean G → IsClean F
shift_clean F G d s clean = λ n f h. let i = s.to n f h in clean i.0 f i.2

pub shift_first : (F G : ℕ → Fault → Type 0) (d n : ℕ) (f : Fault) → Shift F G d → IsFirst G n f → IsFirst F (d + n) f
shift_first F G d n f s h = record { fault = s.from n f h.fault; least = least; only = only }
  where
    least : (m : ℕ) (g : Fault) → F m g → d + n ≤ m
    least m g k = let i = s.to m g k in omega (arith, i.1, h.least i.0 g i.2)

    only : (g : Fault) → F (d + n) g → f ≡ g
    only g k =
        let i = s.to (d + n) g k in
        let there : i.0 ≡ n = omega (arith, i.1) in
        h.only g (subst (λ m. G m g) there i.2)

pub shift_tells : (F G : ℕ → Fault → Type 0) (d at node : ℕ) (e : ProgramError) → Shift F G d → node ≡ at + d → TellsFault G node e → TellsFault F at e
shift_tells F G d at node (errors.Shape k) s z t = (d + t.0, omega (arith, t.1), shift_first F G d t.0 shape s t.2)
shift_tells F G d at node (errors.Unknown k) s z t = (d + t.0, omega (arith, t.1), shift_first F G d t.0 unknown s t.2)
shift_tells F G d at node (errors.Twice k) s z t = (d + t.0, omega (arith, t.1), shift_first F G d t.0 twice s t.2)
shift_tells F G d at node (errors.Limit k) s z t = elim t [ ]
shift_tells F G d at node errors.NoMemory s z t = tt

-- a faulty node is one of the form's
mutual
  pub fault_within : (tb : Tables) (r : Role) (t : Tree) (n : ℕ) (f : Fault) → FaultAt tb r t n f → n < size_of t
  fault_within tb r t n f (itself z e) = omega (arith, values_lemmas.size_positive t)
  fault_within tb r t n f (in_value {g = g} e d h) = values_lemmas.FaultAt-lt tb.starts (length tb.starts) t n g h
  fault_within tb r t n f (in_item {ts = ts} {rs = rs} {m = m} e d z h) = omega (arith, ap size_of e, faults_within tb rs ts m f h)

  pub faults_within : (tb : Tables) (rs : List Role) (ts : Trees) (n : ℕ) (f : Fault) → FaultIn tb rs ts n f → n < size_of_all ts
  faults_within tb [] ts n f h = elim h [ ]
  faults_within tb (r ∷ rs) none n f h = elim h [ ]
  faults_within tb (r ∷ rs) (more t ts) n f (here h) = omega (arith, fault_within tb r t n f h)
  faults_within tb (r ∷ rs) (more t ts) n f (later {m = m} z h) = omega (arith, faults_within tb rs ts m f h)

-- behind a first item without fault come the faults of the others
pub item_shift : (tb : Tables) (r : Role) (rs : List Role) (t : Tree) (ts : Trees) → IsClean (FaultAt tb r t) → Shift (FaultIn tb (r ∷ rs) (more t ts)) (FaultIn tb rs ts) (size_of t)
item_shift tb r rs t ts clean = record { to = to; from = λ m f h. later refl h }
  where
    to : (n : ℕ) (f : Fault) → FaultIn tb (r ∷ rs) (more t ts) n f → (m : ℕ) × (n ≡ size_of t + m) × FaultIn tb rs ts m f
    to n f (here h) = absurd (clean n f h)
    to n f (later {m = m} z h) = (m, z, h)

-- the first fault of the first item is the first
pub item_first : (tb : Tables) (r : Role) (rs : List Role) (t : Tree) (ts : Trees) (n : ℕ) (f : Fault) → IsFirst (FaultAt tb r t) n f → IsFirst (FaultIn tb (r ∷ rs) (more t ts)) n f
item_first tb r rs t ts n f i = record { fault = here i.fault; least = least; only = λ g. only n g refl }
  where
    least : (m : ℕ) (g : Fault) → FaultIn tb (r ∷ rs) (more t ts) m g → n ≤ m
    least m g (here h) = i.least m g h
    least m g (later z h) = omega (arith, fault_within tb r t n f i.fault)

    only : (m : ℕ) (g : Fault) → m ≡ n → FaultIn tb (r ∷ rs) (more t ts) m g → f ≡ g
    only m g e (here h) = i.only g (subst (λ k. FaultAt tb r t k g) e h)
    only m g e (later z h) = absurd (omega (arith, fault_within tb r t n f i.fault))

pub item_tells : (tb : Tables) (r : Role) (rs : List Role) (t : Tree) (ts : Trees) (at : ℕ) (e : ProgramError) → TellsFault (FaultAt tb r t) at e → TellsFault (FaultIn tb (r ∷ rs) (more t ts)) at e
item_tells tb r rs t ts at (errors.Shape k) h = (h.0, h.1, item_first tb r rs t ts h.0 shape h.2)
item_tells tb r rs t ts at (errors.Unknown k) h = (h.0, h.1, item_first tb r rs t ts h.0 unknown h.2)
item_tells tb r rs t ts at (errors.Twice k) h = (h.0, h.1, item_first tb r rs t ts h.0 twice h.2)
item_tells tb r rs t ts at (errors.Limit k) h = elim h [ ]
item_tells tb r rs t ts at errors.NoMemory h = tt

pub no_items_clean : (tb : Tables) (rs : List Role) → IsClean (FaultIn tb rs none)
no_items_clean tb [] n f h = elim h [ ]
no_items_clean tb (r ∷ rs) n f h = elim h [ ]

-- a word or a text, of which something other than a value is wanted
own_node : (tb : Tables) (r : Role) (t : Tree) (n : ℕ) (f : Fault) → r ≢ value → ((ts : Trees) → t ≢ list ts) → FaultAt tb r t n f → (n ≡ 0) × (own_fault tb r t ≡ Some f)
own_node tb r t n f other single (itself z e) = (z, e)
own_node tb r t n f other single (in_value e d h) = absurd (other e)
own_node tb r t n f other single (in_item {ts = ts} e d z h) = absurd (single ts e)

own_first : (tb : Tables) (r : Role) (t : Tree) (f : Fault) → r ≢ value → ((ts : Trees) → t ≢ list ts) → own_fault tb r t ≡ Some f → IsFirst (FaultAt tb r t) 0 f
own_first tb r t f other single e = record { fault = itself refl e; least = λ m g h. omega arith; only = only }
  where
    only : (g : Fault) → FaultAt tb r t 0 g → f ≡ g
    only g h =
        let own = (own_node tb r t 0 g other single h).1 in
        cc

own_clean : (tb : Tables) (r : Role) (t : Tree) → r ≢ value → ((ts : Trees) → t ≢ list ts) → own_fault tb r t ≡ None → IsClean (FaultAt tb r t)
own_clean tb r t other single e n f h =
    let own = (own_node tb r t n f other single h).1 in
    absurd (cc)

own_tells : (tb : Tables) (r : Role) (t : Tree) (k : FaultKind) (at : ℕ) (e : ProgramError) → r ≢ value → ((ts : Trees) → t ≢ list ts) → own_fault tb r t ≡ Some (fault_in k) → e ≡ error_at k at → TellsFault (FaultAt tb r t) at e
own_tells tb r t kinds.Shape at e other single f is = subst (TellsFault (FaultAt tb r t) at) (sym is) (0, omega arith, own_first tb r t shape other single f)
own_tells tb r t kinds.Unknown at e other single f is = subst (TellsFault (FaultAt tb r t) at) (sym is) (0, omega arith, own_first tb r t unknown other single f)
own_tells tb r t kinds.Twice at e other single f is = subst (TellsFault (FaultAt tb r t) at) (sym is) (0, omega arith, own_first tb r t twice other single f)

single_passes : {A : Type 0} (tb : Tables) (r : Role) (t : Tree) (o : Option FaultKind) (at next : ℕ) (x : Result A ProgramError) → r ≢ value → ((ts : Trees) → t ≢ list ts) → option_map fault_in o ≡ own_fault tb r t → PassesNode o at next x → Passes (FaultAt tb r t) 1 at next x
single_passes tb r t None at next (Ok x) other single e p = (own_clean tb r t other single (sym e), p)
single_passes tb r t None at next (Err x) other single e p = elim p [ ]
single_passes tb r t (Some k) at next (Ok x) other single e p = elim p [ ]
single_passes tb r t (Some k) at next (Err x) other single e p = own_tells tb r t k at x other single (sym e) p

pub word_passes : {A : Type 0} (tb : Tables) (r : Role) (w : List ℕ) (o : Option FaultKind) (at next : ℕ) (x : Result A ProgramError) → r ≢ value → option_map fault_in o ≡ own_fault tb r (word w) → PassesNode o at next x → Passes (FaultAt tb r (word w)) 1 at next x
word_passes tb r w o at next x other e p = single_passes tb r (word w) o at next x other (λ ts z. cc) e p

pub text_passes : {A : Type 0} (tb : Tables) (r : Role) (w : List ℕ) (o : Option FaultKind) (at next : ℕ) (x : Result A ProgramError) → r ≢ value → option_map fault_in o ≡ own_fault tb r (text w) → PassesNode o at next x → Passes (FaultAt tb r (text w)) 1 at next x
text_passes tb r w o at next x other e p = single_passes tb r (text w) o at next x other (λ ts z. cc) e p

-- a list of which something other than a value is wanted
list_fault_is : (tb : Tables) (r : Role) (ts : Trees) → r ≢ value → list_fault tb r ts ≡ unless (is_some (row tb r ts)) shape
list_fault_is tb (top before) ts other = refl
list_fault_is tb first ts other = refl
list_fault_is tb (mark again) ts other = refl
list_fault_is tb (known names) ts other = refl
list_fault_is tb (fresh names) ts other = refl
list_fault_is tb (count low end) ts other = refl
list_fault_is tb failure ts other = refl
list_fault_is tb value ts other = absurd (other refl)
list_fault_is tb (expression scope) ts other = refl
list_fault_is tb two_names ts other = refl

pub no_row_tells : (tb : Tables) (r : Role) (ts : Trees) (at : ℕ) → r ≢ value → row tb r ts ≡ None → TellsFault (FaultAt tb r (list ts)) at (errors.Shape at)
no_row_tells tb r ts at other e = (0, omega arith, record { fault = itself refl fault; least = λ m g h. omega arith; only = λ g. only 0 g refl })
  where
    fault : own_fault tb r (list ts) ≡ Some shape
    fault = list_fault_is tb r ts other ∙ ap (λ o. unless (is_some o) shape) e

    only : (n : ℕ) (g : Fault) → n ≡ 0 → FaultAt tb r (list ts) n g → shape ≡ g
    only n g z (itself y h) = cc fault
    only n g z (in_value is y h) = absurd (other is)
    only n g z (in_item is there y h) = absurd (omega arith)

pub list_shift : (tb : Tables) (r : Role) (ts : Trees) (rs : List Role) → r ≢ value → row tb r ts ≡ Some rs → Shift (FaultAt tb r (list ts)) (FaultIn tb rs ts) 1
list_shift tb r ts rs other e = record { to = to; from = λ m f h. in_item refl e refl h }
  where
    clean : own_fault tb r (list ts) ≡ None
    clean = list_fault_is tb r ts other ∙ ap (λ o. unless (is_some o) shape) e

    to : (n : ℕ) (f : Fault) → FaultAt tb r (list ts) n f → (m : ℕ) × (n ≡ 1 + m) × FaultIn tb rs ts m f
    to n f (itself z h) = absurd (cc clean)
    to n f (in_value is z h) = absurd (other is)
    to n f (in_item {ts = us} {rs = ss} {m = m} is there z h) =
        let same : us ≡ ts = cc in
        let row_is : row tb r ts ≡ Some ss = subst (λ vs. row tb r vs ≡ Some ss) same there in
        let roles : ss ≡ rs = cc in
        (m, z, subst (λ vs. FaultIn tb rs vs m f) same (subst (λ qs. FaultIn tb qs us m f) roles h))

-- a value
value_fault : (tb : Tables) (r : Role) (t : Tree) (n : ℕ) (f : Fault) → r ≡ value → FaultAt tb r t n f → (g : values.Fault) × (f ≡ of_value g) × values.FaultAt tb.starts (length tb.starts) t n g
value_fault tb r t n f is (itself z e) = absurd (none_here t (subst (λ q. own_fault tb q t ≡ Some f) is e))
  where
    none_here : (u : Tree) → own_fault tb value u ≢ Some f
    none_here (word w) h = cc
    none_here (text w) h = cc
    none_here (list us) h = cc
value_fault tb r t n f is (in_value {g = g} e d h) = (g, d, h)
value_fault tb r t n f is (in_item {ts = us} {rs = rs} e there z h) = absurd (no_row us rs (subst (λ q. row tb q us ≡ Some rs) is there))
  where
    no_row : (vs : Trees) (ss : List Role) → row tb value vs ≢ Some ss
    no_row vs ss g = cc

pub value_clean : (tb : Tables) (t : Tree) → ((n : ℕ) (g : values.Fault) → ¬ values.FaultAt tb.starts (length tb.starts) t n g) → IsClean (FaultAt tb value t)
value_clean tb t clean n f h = let i = value_fault tb value t n f refl h in clean n i.0 i.2

pub value_first : (tb : Tables) (t : Tree) (n : ℕ) (g : values.Fault) → values.IsFirstFault tb.starts (length tb.starts) t n g → IsFirst (FaultAt tb value t) n (of_value g)
value_first tb t n g i = record { fault = in_value refl refl i.fault; least = least; only = only }
  where
    least : (m : ℕ) (f : Fault) → FaultAt tb value t m f → n ≤ m
    least m f h = let j = value_fault tb value t m f refl h in i.least m j.0 j.2

    only : (f : Fault) → FaultAt tb value t n f → of_value g ≡ f
    only f h = let j = value_fault tb value t n f refl h in ap of_value (i.only j.0 j.2) ∙ sym j.1

pub value_within : (names : List (List ℕ)) (bound : ℕ) (t : Tree) (n : ℕ) (g : values.Fault) → values.IsFirstFault names bound t n g → n < size_of t
value_within names bound t n g i = values_lemmas.FaultAt-lt names bound t n g i.fault

-- the same, for names and a bound that are those of the tables
pub value_clean_at : (tb : Tables) (names : List (List ℕ)) (bound : ℕ) (t : Tree) → tb.starts ≡ names → bound ≡ length names → ((n : ℕ) (g : values.Fault) → ¬ values.FaultAt names bound t n g) → IsClean (FaultAt tb value t)
value_clean_at tb names bound t e b clean = value_clean tb t (λ n g h. clean n g (subst (λ k. values.FaultAt names k t n g) (sym b) (subst (λ ns. values.FaultAt ns (length ns) t n g) e h)))

pub value_first_at : (tb : Tables) (names : List (List ℕ)) (bound : ℕ) (t : Tree) (n : ℕ) (g : values.Fault) → tb.starts ≡ names → bound ≡ length names → values.IsFirstFault names bound t n g → IsFirst (FaultAt tb value t) n (of_value g)
value_first_at tb names bound t n g e b i = value_first tb t n g (subst (λ ns. values.IsFirstFault ns (length ns) t n g) (sym e) (subst (λ k. values.IsFirstFault names k t n g) b i))
