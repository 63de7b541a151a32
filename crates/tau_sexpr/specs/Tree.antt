-- Forms as plain data, which contracts see in place of the program's own types.
use Rattle.std.specs.Prelude.{◌≡◌, ◌≢◌, ℕ, ◌+◌, max, List, [], ◌∷◌, ◌++◌, refl}
use Rattle.std.specs.Coded.{Coded, coded_ℕ, coded_list}
use Rattle.std.specs.List.{All}
use Rattle.std.proofs.Common.{ap, arith}
use Rattle.std.proofs.lemmas.List.Elements.{All-nil, All-cons, All-head, All-tail}
use base.Stored.{Gv, gnil, gnum, gcons}

-- a form: a word, a text or a list of forms; words and texts by their bytes
mutual
  pub data Tree : Type 0 where
    word : List ℕ → Tree
    text : List ℕ → Tree
    list : Trees → Tree

  pub data Trees : Type 0 where
    none : Trees
    more : Tree → Trees → Trees

-- the forms of a list, as the items of a form
abbrev pub inside : List Tree → Trees
inside [] = none
inside (t ∷ ts) = more t (inside ts)

-- the items of a form, as a list
abbrev pub items_of : Trees → List Tree
items_of none = []
items_of (more t ts) = t ∷ items_of ts

pub items_of-inside : (ts : List Tree) → items_of (inside ts) ≡ ts
items_of-inside [] = refl
items_of-inside (t ∷ ts) = ap (λ us. t ∷ us) (items_of-inside ts)

pub inside-items_of : (ts : Trees) → inside (items_of ts) ≡ ts
inside-items_of none = refl
inside-items_of (more t ts) = ap (more t) (inside-items_of ts)

-- how many nodes a form has: itself and all that it holds
abbrev mutual
  pub size_of : Tree → ℕ
  size_of (word w) = 1
  size_of (text t) = 1
  size_of (list ts) = 1 + size_of_all ts

  pub size_of_all : Trees → ℕ
  size_of_all none = 0
  size_of_all (more t ts) = size_of t + size_of_all ts

-- how many nodes the forms of a list have
abbrev pub sizes : List Tree → ℕ
sizes [] = 0
sizes (t ∷ ts) = size_of t + sizes ts

-- how many lists stand inside one another: 0 for a word or a text
abbrev mutual
  pub depth_of : Tree → ℕ
  depth_of (word w) = 0
  depth_of (text t) = 0
  depth_of (list ts) = 1 + depth_of_all ts

  pub depth_of_all : Trees → ℕ
  depth_of_all none = 0
  depth_of_all (more t ts) = max (depth_of t) (depth_of_all ts)

-- the depth of the deepest form of a list
abbrev pub depths : List Tree → ℕ
depths [] = 0
depths (t ∷ ts) = max (depth_of t) (depths ts)

-- no word in a form is empty
abbrev mutual
  pub HasWords : Tree → Type 0
  HasWords (word w) = w ≢ []
  HasWords (text t) = Unit {0}
  HasWords (list ts) = AllHaveWords ts

  pub AllHaveWords : Trees → Type 0
  AllHaveWords none = Unit {0}
  AllHaveWords (more t ts) = HasWords t × AllHaveWords ts

pub size_of_all-inside : (ts : List Tree) → size_of_all (inside ts) ≡ sizes ts
size_of_all-inside [] = refl
size_of_all-inside (t ∷ ts) = ap (λ n. size_of t + n) (size_of_all-inside ts)

pub sizes-append : (ts us : List Tree) → sizes (ts ++ us) ≡ sizes ts + sizes us
sizes-append [] us = omega arith
sizes-append (t ∷ ts) us = omega (arith, sizes-append ts us)

pub depth_of_all-inside : (ts : List Tree) → depth_of_all (inside ts) ≡ depths ts
depth_of_all-inside [] = refl
depth_of_all-inside (t ∷ ts) = ap (λ n. max (depth_of t) n) (depth_of_all-inside ts)

pub depths-append : (ts us : List Tree) → depths (ts ++ us) ≡ max (depths ts) (depths us)
depths-append [] us = omega arith
depths-append (t ∷ ts) us = omega (arith, depths-append ts us)

pub AllHaveWords-inside : (ts : List Tree) → All HasWords ts → AllHaveWords (inside ts)
AllHaveWords-inside [] h = tt
AllHaveWords-inside (t ∷ ts) h = (All-head HasWords t ts h, AllHaveWords-inside ts (All-tail HasWords t ts h))

pub All-items_of : (ts : Trees) → AllHaveWords ts → All HasWords (items_of ts)
All-items_of none h = All-nil HasWords
All-items_of (more t ts) h = All-cons HasWords t (items_of ts) h.0 (All-items_of ts h.1)

-- the code by which a proof tells forms apart
abbrev mutual
  pub tree_gv : Tree → Gv
  tree_gv (word w) = gcons (gnum 0) ((coded_list coded_ℕ).code w)
  tree_gv (text w) = gcons (gnum 1) ((coded_list coded_ℕ).code w)
  tree_gv (list ts) = gcons (gnum 2) (trees_gv ts)

  pub trees_gv : Trees → Gv
  trees_gv none = gnil
  trees_gv (more t ts) = gcons (tree_gv t) (trees_gv ts)

abbrev head : Gv → Gv
head (gcons a b) = a
head g = gnil

abbrev tail : Gv → Gv
tail (gcons a b) = b
tail g = gnil

mutual
  pub tree_gv_inj : (a b : Tree) → tree_gv a ≡ tree_gv b → a ≡ b
  tree_gv_inj (word v) (word w) e = ap word ((coded_list coded_ℕ).inj v w (ap tail e))
  tree_gv_inj (text v) (text w) e = ap text ((coded_list coded_ℕ).inj v w (ap tail e))
  tree_gv_inj (list v) (list w) e = ap list (trees_gv_inj v w (ap tail e))
  tree_gv_inj a b e = cc

  pub trees_gv_inj : (a b : Trees) → trees_gv a ≡ trees_gv b → a ≡ b
  trees_gv_inj none none e = refl
  trees_gv_inj (more t ts) (more u us) e = λ i. more (tree_gv_inj t u (ap head e) i) (trees_gv_inj ts us (ap tail e) i)
  trees_gv_inj a b e = cc

abbrev pub tree_code : Coded Tree
tree_code = record { code = tree_gv; inj = tree_gv_inj }

-- a list that begins with a word
abbrev pub headed : List ℕ → List Tree → Tree
headed h ts = list (more (word h) (inside ts))
