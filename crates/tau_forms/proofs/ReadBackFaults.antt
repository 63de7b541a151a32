-- When no node of a form is faulty, node by node.
use Rattle.std.proofs.Common.{◌≡◌, ◌≢◌, ℕ, true, cond, List, [], ◌∷◌, Some, None, is_some, refl, ap, subst, ◌∙◌, length}
use Rattle.tau_sexpr.specs.Tree.{Tree, Trees, word, text, list, none, more}
use Rattle.tau_value.specs.Val.{Val}
use Rattle.tau_value.specs.Meaning as values
use Rattle.tau_forms.specs.declared.keywords.Keyword.{Keyword}
use Rattle.tau_forms.specs.declared.tables.Tables.{Tables}
use Rattle.tau_forms.specs.Keywords.{keyword_in}
use Rattle.tau_forms.specs.Roles.{Role, first, value, expression, with_first, expression_items, has_items, parts_of, count_of, row}
use Rattle.tau_forms.specs.Faults.{shape, unless, word_fault, text_fault, list_fault, own_fault, FaultAt, FaultIn, itself, in_value, in_item, here, later, IsClean}

module _ (tb : Tables) where
  pub clean_word : (r : Role) (w : List ℕ) → r ≢ value → word_fault r w ≡ None → IsClean (FaultAt tb r (word w))
  clean_word r w other e n f (itself z g) = cc
  clean_word r w other e n f (in_value q z h) = other q
  clean_word r w other e n f (in_item is k z h) = cc

  pub clean_text : (r : Role) (t : List ℕ) → r ≢ value → text_fault r t ≡ None → IsClean (FaultAt tb r (text t))
  clean_text r t other e n f (itself z g) = cc
  clean_text r t other e n f (in_value q z h) = other q
  clean_text r t other e n f (in_item is k z h) = cc

  list_other : (r : Role) (ts : Trees) → r ≢ value → list_fault tb r ts ≡ unless (is_some (row tb r ts)) shape
  list_other value ts other = absurd (other refl)
  list_other r ts other = refl

  pub clean_list : (r : Role) (ts : Trees) (rs : List Role) → r ≢ value → row tb r ts ≡ Some rs → IsClean (FaultIn tb rs ts) → IsClean (FaultAt tb r (list ts))
  clean_list r ts rs other e clean n f (itself z g) =
      let own : list_fault tb r ts ≡ None = list_other r ts other ∙ ap (λ o. unless (is_some o) shape) e in
      cc
  clean_list r ts rs other e clean n f (in_value q z h) = other q
  clean_list r ts rs other e clean n f (in_item {ts = us} {rs = qs} {m = m} is k z h) =
      let same : us ≡ ts = cc in
      let there : row tb r ts ≡ Some qs = subst (λ xs. row tb r xs ≡ Some qs) same k in
      let roles : qs ≡ rs = cc in
      clean m f (subst (λ xs. FaultIn tb xs ts m f) roles (subst (λ xs. FaultIn tb qs xs m f) same h))

  pub clean_none : IsClean (FaultIn tb [] none)
  clean_none n f h = elim h [ ]

  pub clean_more : (r : Role) (rs : List Role) (t : Tree) (ts : Trees) → IsClean (FaultAt tb r t) → IsClean (FaultIn tb rs ts) → IsClean (FaultIn tb (r ∷ rs) (more t ts))
  clean_more r rs t ts one rest n f (here h) = one n f h
  clean_more r rs t ts one rest n f (later {m = m} z h) = rest m f h

  value_own : (t : Tree) → own_fault tb value t ≡ None
  value_own (word w) = refl
  value_own (text t) = refl
  value_own (list ts) = refl

  pub clean_value : (t : Tree) (v : Val) → values.Means tb.starts (length tb.starts) t v → IsClean (FaultAt tb value t)
  clean_value t v means n f (itself z g) = let own = value_own t in cc
  clean_value t v means n f (in_value {g = g} q e h) = means.faultless n g h
  clean_value t v means n f (in_item is k z h) = cc

  pub clean_first : (w : List ℕ) → IsClean (FaultAt tb first (word w))
  clean_first w = clean_word first w (λ e. cc) refl

  -- an expression that is a list, by its word
  pub expression_row : (scope : List (List ℕ)) (h : List ℕ) (ts : Trees) (k : Keyword) → keyword_in h ≡ k → has_items k (count_of ts) ≡ true → row tb (expression scope) (more (word h) ts) ≡ Some (first ∷ parts_of tb scope k ts)
  expression_row scope h ts k e f =
      ap (λ j. with_first first (expression_items tb scope j ts)) e ∙ ap (λ b. with_first first (cond b (Some (parts_of tb scope k ts)) None)) f
