-- An expression whose form has no fault keeps the rules of a sound program.
use Rattle.std.proofs.Common.{◌≡◌, ℕ, ℤ, ◌+◌, ◌<◌, ◌≤◌, nat_le, Bool, true, false, cond, ◌||◌, List, [], ◌∷◌, ◌++◌, length, Option, Some, None, is_some, refl, sym, ap, subst, ◌∙◌, arith, codes}
use Rattle.std.specs.Option.{option_map_or}
use Rattle.std.specs.Str.{bytes_eq}
use Rattle.std.proofs.lemmas.Bool.{false≢true, leb-true, eqb-true}
use Rattle.tau_sexpr.specs.Tree.{Tree, Trees, depth_of, depth_of_all}
use Rattle.tau_sexpr.specs.Tree as tree
use Rattle.tau_value.specs.Names.{is_name, IsName}
use Rattle.tau_value.specs.Numbers.{integer_in}
use Rattle.tau_tree.specs.Code.{Code, Codes}
use Rattle.tau_tree.specs.Code as code
use Rattle.tau_tree.specs.Parts.{IsBoundIn, AllBoundIn, Throughout, AllThroughout, arity}
use Rattle.tau_tree.specs.Parts as parts
use Rattle.tau_tree.specs.Checks.{KeepsRules}
use Rattle.tau_tree.specs.declared.expressions.Operation.{Operation}
use Rattle.tau_forms.specs.declared.keywords.Keyword.{Keyword}
use Rattle.tau_forms.specs.declared.keywords.Keyword.TheVariants as keywords
use Rattle.tau_forms.specs.declared.tables.Tables.{Tables}
use Rattle.tau_forms.specs.Keywords.{keyword_in}
use Rattle.tau_forms.specs.Tops.{has}
use Rattle.tau_forms.specs.Roles.{Role, known, fresh, expression, two_names, every, count_of, word_of, names_in}
use Rattle.tau_forms.specs.Faults.{shape, unknown, unless, FaultAt, FaultIn, IsClean}
use Rattle.tau_forms.specs.Meaning.{number_of, list_code, code_in, codes_in}
use Rattle.tau_forms.proofs.SoundFaults.{own_clean, head_clean, tail_clean, passes, IsCleanList, expression_clean, IsKnown, known_clean, IsFresh, fresh_clean, AreTwoNames, two_names_clean, contains_from_has, number_of-lt}

module _ (tb : Tables) where
  abbrev Keeps : Code → Type 0
  Keeps c = KeepsRules (length tb.starts) (length tb.behaviours) c

  -- an expression that stands for a form, in a scope
  pub record IsRegular (scope : List (List ℕ)) (deep : ℕ) (c : Code) : Type 0 where
    pub rules : Throughout (KeepsRules (length tb.starts) (length tb.behaviours)) c
    pub bound : IsBoundIn scope c
    pub depth : parts.depth_of c ≤ deep

  pub record AreRegular (scope : List (List ℕ)) (deep : ℕ) (cs : Codes) : Type 0 where
    pub rules : AllThroughout (KeepsRules (length tb.starts) (length tb.behaviours)) cs
    pub bound : AllBoundIn scope cs
    pub depth : parts.depth_of_all cs ≤ deep

  abbrev Regularly : Tree → Type 0
  Regularly t =
      (scope : List (List ℕ)) → IsClean (FaultAt tb (expression scope) t) → IsRegular scope (depth_of t) (code_in tb t)

  abbrev EachRegularly : Trees → Type 0
  EachRegularly tree.none = Unit {0}
  EachRegularly (tree.more t ts) = Regularly t × EachRegularly ts

  -- a word
  word_regular : (scope : List (List ℕ)) (w : List ℕ) (a b c d e : Bool) (o : Option ℤ) → cond (a || b || c || d || e || is_some o) None (cond (is_name w) (unless (has scope w) unknown) (Some shape)) ≡ None → IsRegular scope 0 (cond a code.unit (cond b (code.truth true) (cond c (code.truth false) (cond d code.msg (cond e code.own (option_map_or code.int o (code.var w)))))))
  word_regular scope w true b c d e o h =
      record { rules = record { names = tt; start = tt; behaviour = tt; arity = tt; item = tt; two_names = tt; short_text = tt }; bound = tt; depth = omega arith }
  word_regular scope w false true c d e o h =
      record { rules = record { names = tt; start = tt; behaviour = tt; arity = tt; item = tt; two_names = tt; short_text = tt }; bound = tt; depth = omega arith }
  word_regular scope w false false true d e o h =
      record { rules = record { names = tt; start = tt; behaviour = tt; arity = tt; item = tt; two_names = tt; short_text = tt }; bound = tt; depth = omega arith }
  word_regular scope w false false false true e o h =
      record { rules = record { names = tt; start = tt; behaviour = tt; arity = tt; item = tt; two_names = tt; short_text = tt }; bound = tt; depth = omega arith }
  word_regular scope w false false false false true o h =
      record { rules = record { names = tt; start = tt; behaviour = tt; arity = tt; item = tt; two_names = tt; short_text = tt }; bound = tt; depth = omega arith }
  word_regular scope w false false false false false (Some z) h =
      record { rules = record { names = tt; start = tt; behaviour = tt; arity = tt; item = tt; two_names = tt; short_text = tt }; bound = tt; depth = omega arith }
  word_regular scope w false false false false false None h = by (is_name w) refl (has scope w) refl h
    where
      by : (m : Bool) → is_name w ≡ m → (n : Bool) → has scope w ≡ n → cond m (unless n unknown) (Some shape) ≡ None → IsRegular scope 0 (code.var w)
      by true named true bound h = record {
        rules = record { names = named; start = tt; behaviour = tt; arity = tt; item = tt; two_names = tt; short_text = tt };
        bound = contains_from_has scope w bound;
        depth = omega arith;
      }
      by true named false bound h = cc
      by false named n bound h = cc

  text_regular : (scope : List (List ℕ)) (t : List ℕ) → IsClean (FaultAt tb (expression scope) (tree.text t)) → IsRegular scope 0 (code.text t)
  text_regular scope t clean =
      let short : length t ≤ 65535 = leb-true (length t) 65535 (passes (nat_le (length t) 65535) shape (own_clean tb (expression scope) (tree.text t) clean)) in
      record {
        rules = record { names = tt; start = tt; behaviour = tt; arity = tt; item = tt; two_names = tt; short_text = (omega arith, omega arith) };
        bound = tt;
        depth = omega arith;
      }

  -- items that all are expressions in one scope
  all_regular : (scope : List (List ℕ)) (ts : Trees) → EachRegularly ts → IsClean (FaultIn tb (every (expression scope) ts) ts) → AreRegular scope (depth_of_all ts) (codes_in tb ts)
  all_regular scope tree.none each clean = record { rules = tt; bound = tt; depth = omega arith }
  all_regular scope (tree.more t ts) each clean =
      let one = each.0 scope (head_clean tb (expression scope) (every (expression scope) ts) t ts clean) in
      let rest = all_regular scope ts each.1 (tail_clean tb (expression scope) (every (expression scope) ts) t ts clean) in
      record { rules = (one.rules, rest.rules); bound = (one.bound, rest.bound); depth = omega (arith, one.depth, rest.depth) }

  count_of-codes : (ts : Trees) → parts.count_of (codes_in tb ts) ≡ count_of ts
  count_of-codes tree.none = refl
  count_of-codes (tree.more t ts) = ap (λ n. 1 + n) (count_of-codes ts)

  abbrev ListRegular : List (List ℕ) → Keyword → Trees → Type 0
  ListRegular scope k ts = IsRegular scope (1 + depth_of_all ts) (list_code tb k ts (codes_in tb ts))

  name_regular : (scope : List (List ℕ)) (ts : Trees) → IsCleanList tb scope keywords.Name ts → ListRegular scope keywords.Name ts
  name_regular scope tree.none h = absurd (false≢true h.number)
  name_regular scope (tree.more (tree.word w) tree.none) h =
      let there = known_clean tb tb.starts (tree.word w) (head_clean tb (known tb.starts) [] (tree.word w) tree.none h.items) in
      let same : there.name ≡ w = let e = there.is in cc in
      let below : number_of tb.starts w < length tb.starts = number_of-lt tb.starts w (rw same at there.has) in
      record {
        rules = record { names = tt; start = below; behaviour = tt; arity = tt; item = tt; two_names = tt; short_text = tt };
        bound = tt;
        depth = omega arith;
      }
  name_regular scope (tree.more (tree.text t) tree.none) h =
      let there = known_clean tb tb.starts (tree.text t) (head_clean tb (known tb.starts) [] (tree.text t) tree.none h.items) in
      let e = there.is in cc
  name_regular scope (tree.more (tree.list us) tree.none) h =
      let there = known_clean tb tb.starts (tree.list us) (head_clean tb (known tb.starts) [] (tree.list us) tree.none h.items) in
      let e = there.is in cc
  name_regular scope (tree.more a (tree.more b ts)) h = absurd (omega (arith, eqb-true (1 + (1 + count_of ts)) 1 h.number))

  list_regular : (scope : List (List ℕ)) (ts : Trees) → EachRegularly ts → IsCleanList tb scope keywords.List ts → ListRegular scope keywords.List ts
  list_regular scope ts each h =
      let all = all_regular scope ts each h.items in
      record {
        rules = (record { names = tt; start = tt; behaviour = tt; arity = tt; item = tt; two_names = tt; short_text = tt }, all.rules);
        bound = all.bound;
        depth = omega (arith, all.depth);
      }

  seq_regular : (scope : List (List ℕ)) (ts : Trees) → EachRegularly ts → IsCleanList tb scope keywords.Seq ts → ListRegular scope keywords.Seq ts
  seq_regular scope ts each h =
      let all = all_regular scope ts each h.items in
      let some : 1 ≤ count_of ts = leb-true 1 (count_of ts) h.number in
      record {
        rules = (record { names = tt; start = tt; behaviour = tt; arity = tt; item = omega (arith, count_of-codes ts); two_names = tt; short_text = tt }, all.rules);
        bound = all.bound;
        depth = omega (arith, all.depth);
      }

  apply_regular : (scope : List (List ℕ)) (p : Operation) (ts : Trees) → EachRegularly ts → IsCleanList tb scope (keywords.Apply p) ts → ListRegular scope (keywords.Apply p) ts
  apply_regular scope p ts each h =
      let all = all_regular scope ts each h.items in
      record {
        rules = (record { names = tt; start = tt; behaviour = tt; arity = count_of-codes ts ∙ eqb-true (count_of ts) (arity p) h.number; item = tt; two_names = tt; short_text = tt }, all.rules);
        bound = all.bound;
        depth = omega (arith, all.depth);
      }

  if_regular : (scope : List (List ℕ)) (ts : Trees) → EachRegularly ts → IsCleanList tb scope keywords.If ts → ListRegular scope keywords.If ts
  if_regular scope tree.none each h = absurd (false≢true h.number)
  if_regular scope (tree.more a tree.none) each h = absurd (false≢true h.number)
  if_regular scope (tree.more a (tree.more b tree.none)) each h = absurd (false≢true h.number)
  if_regular scope (tree.more a (tree.more b (tree.more c tree.none))) each h =
      let all = all_regular scope (tree.more a (tree.more b (tree.more c tree.none))) each h.items in
      record {
        rules = (record { names = tt; start = tt; behaviour = tt; arity = tt; item = tt; two_names = tt; short_text = tt }, all.rules.0, all.rules.1.0, all.rules.1.1.0);
        bound = (all.bound.0, all.bound.1.0, all.bound.1.1.0);
        depth = omega (arith, all.depth);
      }
  if_regular scope (tree.more a (tree.more b (tree.more c (tree.more d ts)))) each h =
      absurd (omega (arith, eqb-true (1 + (1 + (1 + (1 + count_of ts)))) 3 h.number))

  set_regular : (scope : List (List ℕ)) (ts : Trees) → EachRegularly ts → IsCleanList tb scope keywords.Set ts → ListRegular scope keywords.Set ts
  set_regular scope tree.none each h = absurd (false≢true h.number)
  set_regular scope (tree.more a tree.none) each h =
      let all = all_regular scope (tree.more a tree.none) each h.items in
      record {
        rules = (record { names = tt; start = tt; behaviour = tt; arity = tt; item = tt; two_names = tt; short_text = tt }, all.rules.0);
        bound = all.bound.0;
        depth = omega (arith, all.depth);
      }
  set_regular scope (tree.more a (tree.more b ts)) each h = absurd (omega (arith, eqb-true (1 + (1 + count_of ts)) 1 h.number))

  send_regular : (scope : List (List ℕ)) (ts : Trees) → EachRegularly ts → IsCleanList tb scope keywords.Send ts → ListRegular scope keywords.Send ts
  send_regular scope tree.none each h = absurd (false≢true h.number)
  send_regular scope (tree.more a tree.none) each h = absurd (false≢true h.number)
  send_regular scope (tree.more a (tree.more b tree.none)) each h =
      let all = all_regular scope (tree.more a (tree.more b tree.none)) each h.items in
      record {
        rules = (record { names = tt; start = tt; behaviour = tt; arity = tt; item = tt; two_names = tt; short_text = tt }, all.rules.0, all.rules.1.0);
        bound = (all.bound.0, all.bound.1.0);
        depth = omega (arith, all.depth);
      }
  send_regular scope (tree.more a (tree.more b (tree.more c ts))) each h =
      absurd (omega (arith, eqb-true (1 + (1 + (1 + count_of ts))) 2 h.number))

  -- (let NAME e e)
  let_named : (scope : List (List ℕ)) (x v b : Tree) → IsFresh [] x → Regularly v → Regularly b → IsClean (FaultAt tb (expression scope) v) → IsClean (FaultAt tb (expression (scope ++ word_of x)) b) → ListRegular scope keywords.Let (tree.more x (tree.more v (tree.more b tree.none)))
  let_named scope (tree.word w) v b name rv rb cv cb =
      let same : name.name ≡ w = let e = name.is in cc in
      let named : IsName w = rw same at name.named in
      let value = rv scope cv in
      let body = rb (scope ++ w ∷ []) cb in
      record {
        rules = (record { names = named; start = tt; behaviour = tt; arity = tt; item = tt; two_names = tt; short_text = tt }, value.rules, body.rules);
        bound = (value.bound, body.bound);
        depth = omega (arith, value.depth, body.depth);
      }
  let_named scope (tree.text t) v b name rv rb cv cb = let e = name.is in cc
  let_named scope (tree.list us) v b name rv rb cv cb = let e = name.is in cc

  let_regular : (scope : List (List ℕ)) (ts : Trees) → EachRegularly ts → IsCleanList tb scope keywords.Let ts → ListRegular scope keywords.Let ts
  let_regular scope tree.none each h = absurd (false≢true h.number)
  let_regular scope (tree.more a tree.none) each h = absurd (false≢true h.number)
  let_regular scope (tree.more a (tree.more b tree.none)) each h = absurd (false≢true h.number)
  let_regular scope (tree.more x (tree.more v (tree.more b tree.none))) each h =
      let last = expression (scope ++ word_of x) ∷ [] in
      let from_second = tail_clean tb (fresh []) (expression scope ∷ last) x (tree.more v (tree.more b tree.none)) h.items in
      let from_third = tail_clean tb (expression scope) last v (tree.more b tree.none) from_second in
      let_named scope x v b (fresh_clean tb [] x (head_clean tb (fresh []) (expression scope ∷ last) x (tree.more v (tree.more b tree.none)) h.items)) each.1.0 each.1.1.0 (head_clean tb (expression scope) last v (tree.more b tree.none) from_second) (head_clean tb (expression (scope ++ word_of x)) [] b tree.none from_third)
  let_regular scope (tree.more a (tree.more b (tree.more c (tree.more d ts)))) each h =
      absurd (omega (arith, eqb-true (1 + (1 + (1 + (1 + count_of ts)))) 3 h.number))

  -- (fold e e (SUM ITEM) e)
  fold_named : (scope : List (List ℕ)) (l f x b : Tree) → AreTwoNames x → Regularly l → Regularly f → Regularly b → IsClean (FaultAt tb (expression scope) l) → IsClean (FaultAt tb (expression scope) f) → IsClean (FaultAt tb (expression (scope ++ names_in x)) b) → ListRegular scope keywords.Fold (tree.more l (tree.more f (tree.more x (tree.more b tree.none))))
  fold_named scope l f x b two rl rf rb cl cf cb =
      let names : Tree = tree.list (tree.more (tree.word two.sum) (tree.more (tree.word two.item) tree.none)) in
      let clean : IsClean (FaultAt tb (expression (scope ++ names_in names)) b) = subst (λ y. IsClean (FaultAt tb (expression (scope ++ names_in y)) b)) two.is cb in
      let items = rl scope cl in
      let start = rf scope cf in
      let body = rb (scope ++ names_in names) clean in
      let whole : ListRegular scope keywords.Fold (tree.more l (tree.more f (tree.more names (tree.more b tree.none)))) = record {
        rules = (record { names = (two.sum_named, two.item_named); start = tt; behaviour = tt; arity = tt; item = tt; two_names = two.apart; short_text = tt }, items.rules, start.rules, body.rules);
        bound = (items.bound, start.bound, body.bound);
        depth = omega (arith, items.depth, start.depth, body.depth);
      } in
      subst (λ y. ListRegular scope keywords.Fold (tree.more l (tree.more f (tree.more y (tree.more b tree.none))))) (sym two.is) whole

  fold_regular : (scope : List (List ℕ)) (ts : Trees) → EachRegularly ts → IsCleanList tb scope keywords.Fold ts → ListRegular scope keywords.Fold ts
  fold_regular scope tree.none each h = absurd (false≢true h.number)
  fold_regular scope (tree.more a tree.none) each h = absurd (false≢true h.number)
  fold_regular scope (tree.more a (tree.more b tree.none)) each h = absurd (false≢true h.number)
  fold_regular scope (tree.more a (tree.more b (tree.more c tree.none))) each h = absurd (false≢true h.number)
  fold_regular scope (tree.more l (tree.more f (tree.more x (tree.more b tree.none)))) each h =
      let e : Role = expression scope in
      let last = expression (scope ++ names_in x) ∷ [] in
      let third = tree.more x (tree.more b tree.none) in
      let from_second = tail_clean tb e (e ∷ two_names ∷ last) l (tree.more f third) h.items in
      let from_third = tail_clean tb e (two_names ∷ last) f third from_second in
      let from_fourth = tail_clean tb two_names last x (tree.more b tree.none) from_third in
      fold_named scope l f x b (two_names_clean tb x (head_clean tb two_names last x (tree.more b tree.none) from_third)) each.0 each.1.0 each.1.1.1.0 (head_clean tb e (e ∷ two_names ∷ last) l (tree.more f third) h.items) (head_clean tb e (two_names ∷ last) f third from_second) (head_clean tb (expression (scope ++ names_in x)) [] b tree.none from_fourth)
  fold_regular scope (tree.more a (tree.more b (tree.more c (tree.more d (tree.more e ts))))) each h =
      absurd (omega (arith, eqb-true (1 + (1 + (1 + (1 + (1 + count_of ts))))) 4 h.number))

  -- (new BEHAVIOUR e e)
  new_named : (scope : List (List ℕ)) (x n s : Tree) → IsKnown tb.behaviours x → Regularly n → Regularly s → IsClean (FaultAt tb (expression scope) n) → IsClean (FaultAt tb (expression scope) s) → ListRegular scope keywords.New (tree.more x (tree.more n (tree.more s tree.none)))
  new_named scope (tree.word w) n s name rn rs cn cs =
      let same : name.name ≡ w = let e = name.is in cc in
      let below : number_of tb.behaviours w < length tb.behaviours = number_of-lt tb.behaviours w (rw same at name.has) in
      let node = rn scope cn in
      let state = rs scope cs in
      record {
        rules = (record { names = tt; start = tt; behaviour = below; arity = tt; item = tt; two_names = tt; short_text = tt }, node.rules, state.rules);
        bound = (node.bound, state.bound);
        depth = omega (arith, node.depth, state.depth);
      }
  new_named scope (tree.text t) n s name rn rs cn cs = let e = name.is in cc
  new_named scope (tree.list us) n s name rn rs cn cs = let e = name.is in cc

  new_regular : (scope : List (List ℕ)) (ts : Trees) → EachRegularly ts → IsCleanList tb scope keywords.New ts → ListRegular scope keywords.New ts
  new_regular scope tree.none each h = absurd (false≢true h.number)
  new_regular scope (tree.more a tree.none) each h = absurd (false≢true h.number)
  new_regular scope (tree.more a (tree.more b tree.none)) each h = absurd (false≢true h.number)
  new_regular scope (tree.more x (tree.more n (tree.more s tree.none))) each h =
      let e : Role = expression scope in
      let from_second = tail_clean tb (known tb.behaviours) (e ∷ e ∷ []) x (tree.more n (tree.more s tree.none)) h.items in
      let from_third = tail_clean tb e (e ∷ []) n (tree.more s tree.none) from_second in
      new_named scope x n s (known_clean tb tb.behaviours x (head_clean tb (known tb.behaviours) (e ∷ e ∷ []) x (tree.more n (tree.more s tree.none)) h.items)) each.1.0 each.1.1.0 (head_clean tb e (e ∷ []) n (tree.more s tree.none) from_second) (head_clean tb e [] s tree.none from_third)
  new_regular scope (tree.more a (tree.more b (tree.more c (tree.more d ts)))) each h =
      absurd (omega (arith, eqb-true (1 + (1 + (1 + (1 + count_of ts)))) 3 h.number))

  -- a list of one word
  abbrev Alone : Keyword → Type 0
  Alone k =
      (scope : List (List ℕ)) (ts : Trees) → IsCleanList tb scope k ts → ListRegular scope k ts

  get_regular : Alone keywords.Get
  get_regular scope tree.none h =
      record { rules = record { names = tt; start = tt; behaviour = tt; arity = tt; item = tt; two_names = tt; short_text = tt }; bound = tt; depth = omega arith }
  get_regular scope (tree.more a ts) h = absurd (omega (arith, eqb-true (1 + count_of ts) 0 h.number))

  stabilize_regular : Alone keywords.Stabilize
  stabilize_regular scope tree.none h =
      record { rules = record { names = tt; start = tt; behaviour = tt; arity = tt; item = tt; two_names = tt; short_text = tt }; bound = tt; depth = omega arith }
  stabilize_regular scope (tree.more a ts) h = absurd (omega (arith, eqb-true (1 + count_of ts) 0 h.number))

  checkpoint_regular : Alone keywords.Checkpoint
  checkpoint_regular scope tree.none h =
      record { rules = record { names = tt; start = tt; behaviour = tt; arity = tt; item = tt; two_names = tt; short_text = tt }; bound = tt; depth = omega arith }
  checkpoint_regular scope (tree.more a ts) h = absurd (omega (arith, eqb-true (1 + count_of ts) 0 h.number))

  rollback_regular : Alone keywords.Rollback
  rollback_regular scope tree.none h =
      record { rules = record { names = tt; start = tt; behaviour = tt; arity = tt; item = tt; two_names = tt; short_text = tt }; bound = tt; depth = omega arith }
  rollback_regular scope (tree.more a ts) h = absurd (omega (arith, eqb-true (1 + count_of ts) 0 h.number))

  dependent_regular : Alone keywords.Dependent
  dependent_regular scope tree.none h =
      record { rules = record { names = tt; start = tt; behaviour = tt; arity = tt; item = tt; two_names = tt; short_text = tt }; bound = tt; depth = omega arith }
  dependent_regular scope (tree.more a ts) h = absurd (omega (arith, eqb-true (1 + count_of ts) 0 h.number))

  -- a list, by what its first word says
  headed_regular : (scope : List (List ℕ)) (k : Keyword) (ts : Trees) → EachRegularly ts → IsCleanList tb scope k ts → ListRegular scope k ts
  headed_regular scope keywords.Name ts each h = name_regular scope ts h
  headed_regular scope keywords.List ts each h = list_regular scope ts each h
  headed_regular scope keywords.Let ts each h = let_regular scope ts each h
  headed_regular scope keywords.If ts each h = if_regular scope ts each h
  headed_regular scope keywords.Seq ts each h = seq_regular scope ts each h
  headed_regular scope keywords.Fold ts each h = fold_regular scope ts each h
  headed_regular scope (keywords.Apply p) ts each h = apply_regular scope p ts each h
  headed_regular scope keywords.Get ts each h = get_regular scope ts h
  headed_regular scope keywords.Set ts each h = set_regular scope ts each h
  headed_regular scope keywords.Send ts each h = send_regular scope ts each h
  headed_regular scope keywords.New ts each h = new_regular scope ts each h
  headed_regular scope keywords.Stabilize ts each h = stabilize_regular scope ts h
  headed_regular scope keywords.Checkpoint ts each h = checkpoint_regular scope ts h
  headed_regular scope keywords.Rollback ts each h = rollback_regular scope ts h
  headed_regular scope keywords.Dependent ts each h = dependent_regular scope ts h
  headed_regular scope keywords.Other ts each h = absurd (false≢true h.number)

  items_regular : (ts : Trees) → EachRegularly ts → Regularly (tree.list ts)
  items_regular tree.none each scope clean = let e = own_clean tb (expression scope) (tree.list tree.none) clean in cc
  items_regular (tree.more (tree.word h) ts) each scope clean =
      let whole = headed_regular scope (keyword_in h) ts each.1 (expression_clean tb scope h ts clean) in
      record { rules = whole.rules; bound = whole.bound; depth = omega (arith, whole.depth) }
  items_regular (tree.more (tree.text t) ts) each scope clean =
      let e = own_clean tb (expression scope) (tree.list (tree.more (tree.text t) ts)) clean in cc
  items_regular (tree.more (tree.list us) ts) each scope clean =
      let e = own_clean tb (expression scope) (tree.list (tree.more (tree.list us) ts)) clean in cc

  mutual
    pub regular : (t : Tree) (scope : List (List ℕ)) → IsClean (FaultAt tb (expression scope) t) → IsRegular scope (depth_of t) (code_in tb t)
    regular (tree.word w) scope clean =
        word_regular scope w (bytes_eq w (codes "unit")) (bytes_eq w (codes "true")) (bytes_eq w (codes "false")) (bytes_eq w (codes "msg")) (bytes_eq w (codes "self")) (integer_in w) (own_clean tb (expression scope) (tree.word w) clean)
    regular (tree.text t) scope clean = text_regular scope t clean
    regular (tree.list ts) scope clean = items_regular ts (each_regular ts) scope clean

    each_regular : (ts : Trees) → EachRegularly ts
    each_regular tree.none = tt
    each_regular (tree.more t ts) = (regular t, each_regular ts)
