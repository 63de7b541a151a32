-- Expressions as plain data, which contracts see in place of the program's own types.
use Rattle.std.specs.Prelude.{◌≡◌, ℕ, ℤ, Bool, false, ◌==◌, if◌then◌else◌, List, [], ◌∷◌, refl}
use Rattle.std.specs.Coded.{Coded, code_by, coded_ℕ, coded_ℤ, coded_bool, coded_list}
use Rattle.std.proofs.Common.{ap, sym, ◌∙◌, eqb, eq-eqb}
use Rattle.std.proofs.lemmas.Bool.{false≢true}
use base.Stored.{Gv, gnil, gnum, gcons}
use Rattle.tau_tree.specs.declared.expressions.Operation.{Operation}
use Rattle.tau_tree.specs.declared.expressions.Operation.TheVariants as prims

-- an expression; words and texts by their bytes, starts and behaviours by their numbers
mutual
  pub data Code : Type 0 where
    unit : Code
    truth : Bool → Code
    int : ℤ → Code
    text : List ℕ → Code
    msg : Code
    own : Code
    var : List ℕ → Code
    start : ℕ → Code
    list : Codes → Code
    let_in : List ℕ → Code → Code → Code
    if_else : Code → Code → Code → Code
    seq : Codes → Code
    fold : Code → Code → List ℕ → List ℕ → Code → Code
    apply : Operation → Codes → Code
    get : Code
    set : Code → Code
    send : Code → Code → Code
    new : ℕ → Code → Code → Code
    stabilize : Code
    checkpoint : Code
    rollback : Code
    dependent : Code

  pub data Codes : Type 0 where
    none : Codes
    more : Code → Codes → Codes

-- the expressions of a list, as the parts of an expression
abbrev pub inside : List Code → Codes
inside [] = none
inside (c ∷ cs) = more c (inside cs)

-- the parts of an expression, as a list
abbrev pub items_of : Codes → List Code
items_of none = []
items_of (more c cs) = c ∷ items_of cs

pub items_of-inside : (cs : List Code) → items_of (inside cs) ≡ cs
items_of-inside [] = refl
items_of-inside (c ∷ cs) = ap (λ ds. c ∷ ds) (items_of-inside cs)

pub inside-items_of : (cs : Codes) → inside (items_of cs) ≡ cs
inside-items_of none = refl
inside-items_of (more c cs) = ap (more c) (inside-items_of cs)

-- a number for each operation, and back
abbrev pub prim_number : Operation → ℕ
prim_number prims.Add = 0
prim_number prims.Sub = 1
prim_number prims.Mul = 2
prim_number prims.Div = 3
prim_number prims.Rem = 4
prim_number prims.Less = 5
prim_number prims.Same = 6
prim_number prims.Not = 7
prim_number prims.Len = 8
prim_number prims.Item = 9
prim_number prims.Push = 10
prim_number prims.Cat = 11

abbrev pub prim_at : ℕ → Operation
prim_at n =
    if n == 0 then prims.Add else (if n == 1 then prims.Sub else (if n == 2 then prims.Mul else (if n == 3 then prims.Div else (if n == 4 then prims.Rem else (if n == 5 then prims.Less else (if n == 6 then prims.Same else (if n == 7 then prims.Not else (if n == 8 then prims.Len else (if n == 9 then prims.Item else (if n == 10 then prims.Push else prims.Cat))))))))))

pub prim_at-prim_number : (p : Operation) → prim_at (prim_number p) ≡ p
prim_at-prim_number prims.Add = refl
prim_at-prim_number prims.Sub = refl
prim_at-prim_number prims.Mul = refl
prim_at-prim_number prims.Div = refl
prim_at-prim_number prims.Rem = refl
prim_at-prim_number prims.Less = refl
prim_at-prim_number prims.Same = refl
prim_at-prim_number prims.Not = refl
prim_at-prim_number prims.Len = refl
prim_at-prim_number prims.Item = refl
prim_at-prim_number prims.Push = refl
prim_at-prim_number prims.Cat = refl

abbrev pub prim_code : Coded Operation
prim_code = code_by ℕ coded_ℕ prim_number prim_at prim_at-prim_number

abbrev pub word_code : Coded (List ℕ)
word_code = coded_list coded_ℕ

-- the code by which a proof tells expressions apart
abbrev mutual
  pub code_gv : Code → Gv
  code_gv unit = gcons (gnum 0) gnil
  code_gv (truth b) = gcons (gnum 1) (coded_bool.code b)
  code_gv (int z) = gcons (gnum 2) (coded_ℤ.code z)
  code_gv (text t) = gcons (gnum 3) (word_code.code t)
  code_gv msg = gcons (gnum 4) gnil
  code_gv own = gcons (gnum 5) gnil
  code_gv (var x) = gcons (gnum 6) (word_code.code x)
  code_gv (start n) = gcons (gnum 7) (coded_ℕ.code n)
  code_gv (list cs) = gcons (gnum 8) (codes_gv cs)
  code_gv (let_in x v b) = gcons (gnum 9) (gcons (word_code.code x) (gcons (code_gv v) (code_gv b)))
  code_gv (if_else t y n) = gcons (gnum 10) (gcons (code_gv t) (gcons (code_gv y) (code_gv n)))
  code_gv (seq cs) = gcons (gnum 11) (codes_gv cs)
  code_gv (fold l f s i b) =
      gcons (gnum 12) (gcons (gcons (word_code.code s) (word_code.code i)) (gcons (code_gv l) (gcons (code_gv f) (code_gv b))))
  code_gv (apply p cs) = gcons (gnum 13) (gcons (prim_code.code p) (codes_gv cs))
  code_gv get = gcons (gnum 14) gnil
  code_gv (set v) = gcons (gnum 15) (code_gv v)
  code_gv (send t v) = gcons (gnum 16) (gcons (code_gv t) (code_gv v))
  code_gv (new b n s) = gcons (gnum 17) (gcons (coded_ℕ.code b) (gcons (code_gv n) (code_gv s)))
  code_gv stabilize = gcons (gnum 18) gnil
  code_gv checkpoint = gcons (gnum 19) gnil
  code_gv rollback = gcons (gnum 20) gnil
  code_gv dependent = gcons (gnum 21) gnil

  pub codes_gv : Codes → Gv
  codes_gv none = gnil
  codes_gv (more c cs) = gcons (code_gv c) (codes_gv cs)

abbrev head : Gv → Gv
head (gcons a b) = a
head g = gnil

abbrev tail : Gv → Gv
tail (gcons a b) = b
tail g = gnil

abbrev number : Gv → ℕ
number (gnum n) = n
number g = 0

apart : {m n : ℕ} {g h : Gv} {A : Type 0} → gcons (gnum m) g ≡ gcons (gnum n) h → eqb m n ≡ false → A
apart {m = m} {n = n} e f = absurd (false≢true (sym f ∙ eq-eqb m n (ap number (ap head e))))

mutual
  pub code_gv_inj : (a b : Code) → code_gv a ≡ code_gv b → a ≡ b
  code_gv_inj unit unit e = refl
  code_gv_inj (truth v) (truth w) e = ap truth (coded_bool.inj v w (ap tail e))
  code_gv_inj (int v) (int w) e = ap int (coded_ℤ.inj v w (ap tail e))
  code_gv_inj (text v) (text w) e = ap text (word_code.inj v w (ap tail e))
  code_gv_inj msg msg e = refl
  code_gv_inj own own e = refl
  code_gv_inj (var v) (var w) e = ap var (word_code.inj v w (ap tail e))
  code_gv_inj (start v) (start w) e = ap start (coded_ℕ.inj v w (ap tail e))
  code_gv_inj (list v) (list w) e = ap list (codes_gv_inj v w (ap tail e))
  code_gv_inj (let_in x v b) (let_in y w c) e =
      let es = ap tail e in
      λ i. let_in (word_code.inj x y (ap head es) i) (code_gv_inj v w (ap head (ap tail es)) i) (code_gv_inj b c (ap tail (ap tail es)) i)
  code_gv_inj (if_else t y n) (if_else u z m) e =
      let es = ap tail e in
      λ i. if_else (code_gv_inj t u (ap head es) i) (code_gv_inj y z (ap head (ap tail es)) i) (code_gv_inj n m (ap tail (ap tail es)) i)
  code_gv_inj (seq v) (seq w) e = ap seq (codes_gv_inj v w (ap tail e))
  code_gv_inj (fold l f s x b) (fold k g t y c) e =
      let es = ap tail e in
      let names = ap head es in
      let parts = ap tail es in
      λ i. fold (code_gv_inj l k (ap head parts) i) (code_gv_inj f g (ap head (ap tail parts)) i) (word_code.inj s t (ap head names) i) (word_code.inj x y (ap tail names) i) (code_gv_inj b c (ap tail (ap tail parts)) i)
  code_gv_inj (apply p v) (apply q w) e =
      let es = ap tail e in
      λ i. apply (prim_code.inj p q (ap head es) i) (codes_gv_inj v w (ap tail es) i)
  code_gv_inj get get e = refl
  code_gv_inj (set v) (set w) e = ap set (code_gv_inj v w (ap tail e))
  code_gv_inj (send t v) (send u w) e =
      let es = ap tail e in
      λ i. send (code_gv_inj t u (ap head es) i) (code_gv_inj v w (ap tail es) i)
  code_gv_inj (new b n s) (new c m t) e =
      let es = ap tail e in
      λ i. new (coded_ℕ.inj b c (ap head es) i) (code_gv_inj n m (ap head (ap tail es)) i) (code_gv_inj s t (ap tail (ap tail es)) i)
  code_gv_inj stabilize stabilize e = refl
  code_gv_inj checkpoint checkpoint e = refl
  code_gv_inj rollback rollback e = refl
  code_gv_inj dependent dependent e = refl
  code_gv_inj a b e = apart e refl

  pub codes_gv_inj : (a b : Codes) → codes_gv a ≡ codes_gv b → a ≡ b
  codes_gv_inj none none e = refl
  codes_gv_inj (more v vs) (more w ws) e =
      λ i. more (code_gv_inj v w (ap head e) i) (codes_gv_inj vs ws (ap tail e) i)
  codes_gv_inj a b e = cc

abbrev pub code_code : Coded Code
code_code = record { code = code_gv; inj = code_gv_inj }
