-- Values as plain data, which contracts see in place of the program's own types.
use Rattle.std.specs.Prelude.{◌≡◌, ℕ, ℤ, Bool, List, [], ◌∷◌, refl}
use Rattle.std.specs.Coded.{Coded, coded_ℕ, coded_ℤ, coded_bool, coded_list}
use Rattle.std.proofs.Common.{ap}
use base.Stored.{Gv, gnil, gnum, gcons}

-- a value; texts by their bytes, names by the transactor's number
mutual
  pub data Val : Type 0 where
    unit : Val
    truth : Bool → Val
    int : ℤ → Val
    text : List ℕ → Val
    name : ℕ → Val
    list : Vals → Val

  pub data Vals : Type 0 where
    none : Vals
    more : Val → Vals → Vals

-- the values of a list, as the items of a value
abbrev pub inside : List Val → Vals
inside [] = none
inside (v ∷ vs) = more v (inside vs)

-- the items of a value, as a list
abbrev pub items_of : Vals → List Val
items_of none = []
items_of (more v vs) = v ∷ items_of vs

pub items_of-inside : (vs : List Val) → items_of (inside vs) ≡ vs
items_of-inside [] = refl
items_of-inside (v ∷ vs) = ap (λ us. v ∷ us) (items_of-inside vs)

pub inside-items_of : (vs : Vals) → inside (items_of vs) ≡ vs
inside-items_of none = refl
inside-items_of (more v vs) = ap (more v) (inside-items_of vs)

-- the code by which a proof tells values apart
abbrev mutual
  pub val_gv : Val → Gv
  val_gv unit = gcons (gnum 0) gnil
  val_gv (truth b) = gcons (gnum 1) (coded_bool.code b)
  val_gv (int z) = gcons (gnum 2) (coded_ℤ.code z)
  val_gv (text t) = gcons (gnum 3) ((coded_list coded_ℕ).code t)
  val_gv (name n) = gcons (gnum 4) (coded_ℕ.code n)
  val_gv (list vs) = gcons (gnum 5) (vals_gv vs)

  pub vals_gv : Vals → Gv
  vals_gv none = gnil
  vals_gv (more v vs) = gcons (val_gv v) (vals_gv vs)

abbrev head : Gv → Gv
head (gcons a b) = a
head g = gnil

abbrev tail : Gv → Gv
tail (gcons a b) = b
tail g = gnil

mutual
  pub val_gv_inj : (a b : Val) → val_gv a ≡ val_gv b → a ≡ b
  val_gv_inj unit unit e = refl
  val_gv_inj (truth v) (truth w) e = ap truth (coded_bool.inj v w (ap tail e))
  val_gv_inj (int v) (int w) e = ap int (coded_ℤ.inj v w (ap tail e))
  val_gv_inj (text v) (text w) e = ap text ((coded_list coded_ℕ).inj v w (ap tail e))
  val_gv_inj (name v) (name w) e = ap name (coded_ℕ.inj v w (ap tail e))
  val_gv_inj (list v) (list w) e = ap list (vals_gv_inj v w (ap tail e))
  val_gv_inj a b e = cc

  pub vals_gv_inj : (a b : Vals) → vals_gv a ≡ vals_gv b → a ≡ b
  vals_gv_inj none none e = refl
  vals_gv_inj (more v vs) (more w ws) e = λ i. more (val_gv_inj v w (ap head e) i) (vals_gv_inj vs ws (ap tail e) i)
  vals_gv_inj a b e = cc

abbrev pub val_code : Coded Val
val_code = record { code = val_gv; inj = val_gv_inj }
