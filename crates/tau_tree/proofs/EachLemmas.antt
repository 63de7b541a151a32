-- What is said of each expression of a list, one after another.
use Rattle.std.proofs.Common.{◌≡◌, ℕ, zero, suc, ◌+◌, ◌<◌, ◌≤◌, List, [], ◌∷◌, ◌++◌, length, map, take, get_or, sym, ap, arith}
use Rattle.std.proofs.lemmas.List.{map_more}
use Rattle.tau_tree.specs.Code.{Code, Codes, none, more, inside}
use Rattle.tau_tree.specs.Expr.{code_of}
use Rattle.tau_tree.specs.Parts.{depth_of, depth_of_all, IsBoundIn, AllBoundIn, Throughout, AllThroughout}
use Rattle.tau_tree.specs.declared.expressions.Expr.{Expr}

-- Q says P of each
pub record IsEach (P : Code → Type 0) (Q : Codes → Type 0) : Type 0 where
  pub empty : Q none
  pub cons : (c : Code) (cs : Codes) → P c → Q cs → Q (more c cs)
  pub parts : (c : Code) (cs : Codes) → Q (more c cs) → P c × Q cs

module _ (P : Code → Type 0) (Q : Codes → Type 0) (each : IsEach P Q) where
  pub each-push : (cs : List Code) (c : Code) → Q (inside cs) → P c → Q (inside (cs ++ c ∷ []))
  each-push [] c h p = each.cons c none p each.empty
  each-push (d ∷ ds) c h p =
      let both = each.parts d (inside ds) h in each.cons d (inside (ds ++ c ∷ [])) both.0 (each-push ds c both.1 p)

  -- one expression more
  pub each-more : (es : List Expr) (k : ℕ) (e : Expr) → k < length es → e ≡ get_or es k e → Q (inside (map code_of (take k es))) → P (code_of e) → Q (inside (map code_of (take (k + 1) es)))
  each-more es k e lt is h p =
      let there : code_of (get_or es k e) ≡ code_of e = ap code_of (sym is) in
      rw (map_more code_of es k e lt, there) (each-push (map code_of (take k es)) (code_of e) h p)

  pub each-at : (es : List Expr) (k : ℕ) (e : Expr) → k < length es → e ≡ get_or es k e → Q (inside (map code_of es)) → P (code_of e)
  each-at [] k e lt is h = absurd (omega arith)
  each-at (d ∷ ds) zero e lt is h =
      let there : code_of e ≡ code_of d = ap code_of is in
      rw there ((each.parts (code_of d) (inside (map code_of ds)) h).0)
  each-at (d ∷ ds) (suc k) e lt is h =
      each-at ds k e (omega arith) is ((each.parts (code_of d) (inside (map code_of ds)) h).1)

pub each_shallow : (room : ℕ) → IsEach (λ c. depth_of c ≤ room) (λ cs. depth_of_all cs ≤ room)
each_shallow room =
    record { empty = omega arith; cons = λ c cs p q. omega arith; parts = λ c cs h. (omega arith, omega arith) }

pub each_bound : (scope : List (List ℕ)) → IsEach (IsBoundIn scope) (AllBoundIn scope)
each_bound scope = record { empty = tt; cons = λ c cs p q. (p, q); parts = λ c cs h. h }

pub each_throughout : (P : Code → Type 0) → IsEach (Throughout P) (AllThroughout P)
each_throughout P = record { empty = tt; cons = λ c cs p q. (p, q); parts = λ c cs h. h }
