-- The views after a change.
use Rattle.std.specs.Prelude.{ℕ, ◌<◌, Option, Some, None, List, [], ◌∷◌, ◌++◌, slice_set, vec_len}
use Rattle.std.specs.Vec.{vec_capacity}
use Rattle.tau_views.specs.declared.views.Views.{Views}
use Rattle.tau_views.specs.declared.views.ViewChange.{ViewChange}

-- the list with the item of this number changed, with one item more, and with the item of this number taken out
abbrev pub with_item : {A : Type 0} → Option (ℕ × A) → List A → List A
with_item None xs = xs
with_item (Some e) xs = slice_set xs e.0 e.1

abbrev pub with_last : {A : Type 0} → Option A → List A → List A
with_last None xs = xs
with_last (Some x) xs = xs ++ x ∷ []

abbrev pub without_item : {A : Type 0} → Option ℕ → List (Option A) → List (Option A)
without_item None xs = xs
without_item (Some k) xs = slice_set xs k None

abbrev pub with_letter : {A : Type 0} → Option A → List (Option A) → List (Option A)
with_letter None xs = xs
with_letter (Some x) xs = xs ++ Some x ∷ []

-- the views of transactors and of messages after a change
abbrev pub own_after : {V : Type 0} → ViewChange V → List V → List V
own_after c vs = with_last c.newborn (with_item c.own vs)

abbrev pub letters_after : {V : Type 0} → ViewChange V → List (Option V) → List (Option V)
letters_after c vs = with_letter c.letter (without_item c.gone vs)

-- one view of a transactor and one of a message more fit without memory
pub record HasRoom {V : Type 0} (v : Views V) : Type 0 where
  pub own : vec_len v.own < vec_capacity v.own
  pub letters : vec_len v.letters < vec_capacity v.letters
