-- Ends that a visitor was shown, one list after another.
use Rattle.std.proofs.Common.{List, [], ◌∷◌, ◌++◌, sym, subst, append_assoc, append-nil}
use Rattle.tau_faults.specs.Ends.{End}
use Rattle.tau_faults.specs.Visits.{Visited, none, more}
use Rattle.tau_faults.specs.Inner.Walking.{HasSeen}

module _ {V : Type 0} (visits : V → End → V → Type 0) where
  visited_append : {u v w : V} {xs ys : List End} → Visited visits u xs v → Visited visits v ys w → Visited visits u (xs ++ ys) w
  visited_append {u = u} {w = w} {xs = xs} a none = subst (λ (zs : List End). Visited visits u zs w) (sym (append-nil xs)) a
  visited_append {u = u} {w = w} {xs = xs} a (more {e = e} {ends = ends} b s) = subst (λ (zs : List End). Visited visits u zs w) (append_assoc xs ends (e ∷ [])) (more (visited_append a b) s)

  pub seen_none : (A : List End → Type 0) (v : V) → A [] → HasSeen visits A v v
  seen_none A v a = record { ends = []; are = a; visited = none }

  pub seen_then : (A B C : List End → Type 0) (u v w : V) → HasSeen visits A u v → HasSeen visits B v w → ((xs ys : List End) → A xs → B ys → C (xs ++ ys)) → HasSeen visits C u w
  seen_then A B C u v w a b both = record { ends = a.ends ++ b.ends; are = both a.ends b.ends a.are b.are; visited = visited_append a.visited b.visited }

  pub seen_first : (B C : List End → Type 0) (e : End) (u v w : V) → visits u e v → HasSeen visits B v w → ((ys : List End) → B ys → C (e ∷ ys)) → HasSeen visits C u w
  seen_first B C e u v w s b both = record { ends = e ∷ b.ends; are = both b.ends b.are; visited = visited_append {xs = e ∷ []} (more none s) b.visited }
