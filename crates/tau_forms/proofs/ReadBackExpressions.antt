-- The form of an expression is read back as the expression; how deep it is, and that none of its words is empty.
use Rattle.std.proofs.Common.{◌≡◌, ◌≢◌, ℕ, ◌+◌, ◌<◌, ◌≤◌, max, ◌||◌, Bool, true, false, cond, List, [], ◌∷◌, ◌++◌, length, Some, None, refl, sym, ap, ap₂, subst, ◌∙◌, arith, codes}
use Rattle.std.specs.List.{Contains}
use Rattle.std.proofs.lemmas.Bool.{le-leb, eq-eqb}
use Rattle.tau_sexpr.specs.Tree.{Tree, Trees, HasWords, AllHaveWords}
use Rattle.tau_sexpr.specs.Tree as tree
use Rattle.tau_value.specs.Names.{is_name, IsName, AreNames}
use Rattle.tau_value.proofs.NameLemmas.{apart_bytes}
use Rattle.tau_value.proofs.WrittenLemmas.{name_nonempty, signed_nonempty}
use Rattle.tau_tree.specs.Code.{Code, Codes}
use Rattle.tau_tree.specs.Code as code
use Rattle.tau_tree.specs.Parts.{IsBoundIn, AllBoundIn, Throughout, AllThroughout, arity}
use Rattle.tau_tree.specs.Parts as parts
use Rattle.tau_tree.specs.Checks.{KeepsRules}
use Rattle.tau_tree.specs.declared.expressions.Operation.{Operation}
use Rattle.tau_tree.specs.declared.expressions.Operation.TheVariants as prims
use Rattle.tau_forms.specs.declared.keywords.Keyword.{Keyword}
use Rattle.tau_forms.specs.declared.keywords.Keyword.TheVariants as keywords
use Rattle.tau_forms.specs.declared.tables.Tables.{Tables}
use Rattle.tau_forms.specs.Inner.Fitting.{HasFittingInteger}
use Rattle.tau_forms.specs.Keywords.{keyword_in}
use Rattle.tau_forms.specs.Tops.{has}
use Rattle.tau_forms.specs.Roles.{Role, first, known, fresh, expression, two_names, every, count_of, has_items, parts_of}
use Rattle.tau_forms.specs.Faults.{shape, twice, unknown, unless, is_constant, FaultAt, FaultIn, IsClean}
use Rattle.tau_forms.specs.Meaning.{word_code, list_code, code_in, codes_in}
use Rattle.tau_forms.specs.Printed.{prim_word, name_of, code_form, code_forms}
use Rattle.tau_forms.proofs.ReadBackFaults.{clean_word, clean_text, clean_list, clean_none, clean_more, clean_first, expression_row}
use Rattle.tau_forms.proofs.ReadBackWords.{word_code-name, word_code-integer, is_constant-integer, name_filled, IsNameAt, name_at}
use Rattle.tau_forms.proofs.SoundNames.{has_at}

keyword_of-prim : (p : Operation) → keyword_in (prim_word p) ≡ keywords.Apply p
keyword_of-prim prims.Add = refl
keyword_of-prim prims.Sub = refl
keyword_of-prim prims.Mul = refl
keyword_of-prim prims.Div = refl
keyword_of-prim prims.Rem = refl
keyword_of-prim prims.Less = refl
keyword_of-prim prims.Same = refl
keyword_of-prim prims.Not = refl
keyword_of-prim prims.Len = refl
keyword_of-prim prims.Item = refl
keyword_of-prim prims.Push = refl
keyword_of-prim prims.Cat = refl

prim_nonempty : (p : Operation) → prim_word p ≢ []
prim_nonempty prims.Add e = cc
prim_nonempty prims.Sub e = cc
prim_nonempty prims.Mul e = cc
prim_nonempty prims.Div e = cc
prim_nonempty prims.Rem e = cc
prim_nonempty prims.Less e = cc
prim_nonempty prims.Same e = cc
prim_nonempty prims.Not e = cc
prim_nonempty prims.Len e = cc
prim_nonempty prims.Item e = cc
prim_nonempty prims.Push e = cc
prim_nonempty prims.Cat e = cc

-- the form is as deep as the expression
mutual
  pub depth_of-form : (bs ss : List (List ℕ)) (c : Code) → tree.depth_of (code_form bs ss c) ≡ parts.depth_of c
  depth_of-form bs ss code.unit = refl
  depth_of-form bs ss (code.truth b) = refl
  depth_of-form bs ss (code.int z) = refl
  depth_of-form bs ss (code.text t) = refl
  depth_of-form bs ss code.msg = refl
  depth_of-form bs ss code.own = refl
  depth_of-form bs ss (code.var x) = refl
  depth_of-form bs ss (code.start n) = refl
  depth_of-form bs ss (code.list cs) = omega (arith, depth_of-forms bs ss cs)
  depth_of-form bs ss (code.let_in x v b) = omega (arith, depth_of-form bs ss v, depth_of-form bs ss b)
  depth_of-form bs ss (code.if_else t y n) = omega (arith, depth_of-form bs ss t, depth_of-form bs ss y, depth_of-form bs ss n)
  depth_of-form bs ss (code.seq cs) = omega (arith, depth_of-forms bs ss cs)
  depth_of-form bs ss (code.fold l f s i b) = omega (arith, depth_of-form bs ss l, depth_of-form bs ss f, depth_of-form bs ss b)
  depth_of-form bs ss (code.apply p cs) = omega (arith, depth_of-forms bs ss cs)
  depth_of-form bs ss code.get = refl
  depth_of-form bs ss (code.set v) = omega (arith, depth_of-form bs ss v)
  depth_of-form bs ss (code.send t v) = omega (arith, depth_of-form bs ss t, depth_of-form bs ss v)
  depth_of-form bs ss (code.new b n s) = omega (arith, depth_of-form bs ss n, depth_of-form bs ss s)
  depth_of-form bs ss code.stabilize = refl
  depth_of-form bs ss code.checkpoint = refl
  depth_of-form bs ss code.rollback = refl
  depth_of-form bs ss code.dependent = refl

  depth_of-forms : (bs ss : List (List ℕ)) (cs : Codes) → tree.depth_of_all (code_forms bs ss cs) ≡ parts.depth_of_all cs
  depth_of-forms bs ss code.none = refl
  depth_of-forms bs ss (code.more c cs) = ap₂ max (depth_of-form bs ss c) (depth_of-forms bs ss cs)

module _ (tb : Tables) (behaviours_are : AreNames tb.behaviours) (starts_are : AreNames tb.starts) where
  -- the rules for one expression of a sound program whose integers fit
  abbrev pub Fits : Code → Type 0
  Fits d = KeepsRules (length tb.starts) (length tb.behaviours) d × HasFittingInteger d

  abbrev form : Code → Tree
  form c = code_form tb.behaviours tb.starts c

  abbrev forms : Codes → Trees
  forms cs = code_forms tb.behaviours tb.starts cs

  mutual
    pub form_words : (c : Code) → Throughout Fits c → HasWords (form c)
    form_words code.unit h = λ e. cc
    form_words (code.truth true) h = λ e. cc
    form_words (code.truth false) h = λ e. cc
    form_words (code.int z) h = signed_nonempty z h.1
    form_words (code.text t) h = tt
    form_words code.msg h = λ e. cc
    form_words code.own h = λ e. cc
    form_words (code.var x) h = name_nonempty x h.0.names
    form_words (code.start n) h = (λ e. cc, (name_filled tb.starts n (name_at tb.starts n starts_are h.0.start), tt))
    form_words (code.list cs) h = (λ e. cc, forms_words cs h.1)
    form_words (code.let_in x v b) h =
        (λ e. cc, (name_nonempty x h.0.0.names, (form_words v h.1, (form_words b h.2, tt))))
    form_words (code.if_else t y n) h = (λ e. cc, (form_words t h.1, (form_words y h.2, (form_words n h.3, tt))))
    form_words (code.seq cs) h = (λ e. cc, forms_words cs h.1)
    form_words (code.fold l f s i b) h =
        (λ e. cc, (form_words l h.1, (form_words f h.2, ((name_nonempty s h.0.0.names.0, (name_nonempty i h.0.0.names.1, tt)), (form_words b h.3, tt)))))
    form_words (code.apply p cs) h = (prim_nonempty p, forms_words cs h.1)
    form_words code.get h = (λ e. cc, tt)
    form_words (code.set v) h = (λ e. cc, (form_words v h.1, tt))
    form_words (code.send t v) h = (λ e. cc, (form_words t h.1, (form_words v h.2, tt)))
    form_words (code.new b n s) h =
        (λ e. cc, (name_filled tb.behaviours b (name_at tb.behaviours b behaviours_are h.0.0.behaviour), (form_words n h.1, (form_words s h.2, tt))))
    form_words code.stabilize h = (λ e. cc, tt)
    form_words code.checkpoint h = (λ e. cc, tt)
    form_words code.rollback h = (λ e. cc, tt)
    form_words code.dependent h = (λ e. cc, tt)

    forms_words : (cs : Codes) → AllThroughout Fits cs → AllHaveWords (forms cs)
    forms_words code.none h = tt
    forms_words (code.more c cs) h = (form_words c h.0, forms_words cs h.1)

  -- a form without a fault, and the expression that it is
  pub record IsRead (scope : List (List ℕ)) (t : Tree) (c : Code) : Type 0 where
    pub clean : IsClean (FaultAt tb (expression scope) t)
    pub is : code_in tb t ≡ c

  record AreRead (scope : List (List ℕ)) (ts : Trees) (cs : Codes) : Type 0 where
    clean : IsClean (FaultIn tb (every (expression scope) ts) ts)
    are : codes_in tb ts ≡ cs
    number : count_of ts ≡ parts.count_of cs

  read_list : (scope : List (List ℕ)) (h : List ℕ) (ts : Trees) (k : Keyword) (c : Code) → keyword_in h ≡ k → has_items k (count_of ts) ≡ true → IsClean (FaultIn tb (parts_of tb scope k ts) ts) → list_code tb k ts (codes_in tb ts) ≡ c → IsRead scope (tree.list (tree.more (tree.word h) ts)) c
  read_list scope h ts k c e f items is = record {
    clean = clean_list tb (expression scope) (tree.more (tree.word h) ts) (first ∷ parts_of tb scope k ts) (λ q. cc) (expression_row tb scope h ts k e f) (clean_more tb first (parts_of tb scope k ts) (tree.word h) ts (clean_first tb h) items);
    is = ap (λ j. list_code tb j ts (codes_in tb ts)) e ∙ is;
  }

  read_word : (scope : List (List ℕ)) (w : List ℕ) (c : Code) → is_constant w ≡ true → word_code w ≡ c → IsRead scope (tree.word w) c
  read_word scope w c e is = record {
    clean = clean_word tb (expression scope) w (λ q. cc) (ap (λ b. cond b None (cond (is_name w) (unless (has scope w) unknown) (Some shape))) e);
    is = is;
  }

  constant_by : (scope : List (List ℕ)) (w : List ℕ) (a b c : Bool) → b ≡ true → c ≡ true → cond a None (cond b (unless c unknown) (Some shape)) ≡ None
  constant_by scope w true b c eb ec = refl
  constant_by scope w false b c eb ec = rw (eb, ec) refl

  contained : (scope : List (List ℕ)) (x : List ℕ) → Contains scope x → has scope x ≡ true
  contained scope x c = has_at scope x c.0 x c.1 c.2

  read_var : (scope : List (List ℕ)) (x : List ℕ) → IsName x → Contains scope x → IsRead scope (tree.word x) (code.var x)
  read_var scope x named bound = record {
    clean = clean_word tb (expression scope) x (λ q. cc) (constant_by scope x (is_constant x) (is_name x) (has scope x) named (contained scope x bound));
    is = word_code-name x named;
  }

  read_text : (scope : List (List ℕ)) (t : List ℕ) → length t ≤ 65535 → IsRead scope (tree.text t) (code.text t)
  read_text scope t short = record {
    clean = clean_text tb (expression scope) t (λ q. cc) (ap (λ b. unless b shape) (le-leb (length t) 65535 short));
    is = refl;
  }

  -- names
  clean_known : (names : List (List ℕ)) (w : List ℕ) → IsName w → has names w ≡ true → IsClean (FaultAt tb (known names) (tree.word w))
  clean_known names w named there =
      clean_word tb (known names) w (λ q. cc) (ap (λ b. cond b (unless (has names w) unknown) (Some shape)) named ∙ ap (λ b. unless b unknown) there)

  pub clean_fresh : (names : List (List ℕ)) (w : List ℕ) → IsName w → has names w ≡ false → IsClean (FaultAt tb (fresh names) (tree.word w))
  clean_fresh names w named new =
      clean_word tb (fresh names) w (λ q. cc) (ap (λ b. cond b (cond (has names w) (Some twice) None) (Some shape)) named ∙ ap (λ b. cond b (Some twice) None) new)

  pub clean_name_of : (names : List (List ℕ)) (n : ℕ) → IsNameAt names n → IsClean (FaultAt tb (known names) (name_of names n))
  clean_name_of names n w = subst (λ x. IsClean (FaultAt tb (known names) (tree.word x))) (sym w.is) (clean_known names w.name w.named w.has)

  read_start : (scope : List (List ℕ)) (n : ℕ) → IsNameAt tb.starts n → IsRead scope (form (code.start n)) (code.start n)
  read_start scope n w =
      let there : IsRead scope (tree.list (tree.more (tree.word (codes "name")) (tree.more (tree.word w.name) tree.none))) (code.start n) = read_list scope (codes "name") (tree.more (tree.word w.name) tree.none) keywords.Name (code.start n) refl refl (clean_more tb (known tb.starts) [] (tree.word w.name) tree.none (clean_known tb.starts w.name w.named w.has) (clean_none tb)) (ap code.start w.number) in
      subst (λ x. IsRead scope (tree.list (tree.more (tree.word (codes "name")) (tree.more (tree.word x) tree.none))) (code.start n)) (sym w.is) there

  read_let : (scope : List (List ℕ)) (x : List ℕ) (v b : Code) → IsName x → IsRead scope (form v) v → IsRead (scope ++ x ∷ []) (form b) b → IsRead scope (form (code.let_in x v b)) (code.let_in x v b)
  read_let scope x v b named value body =
      let e : Role = expression scope in
      let last : Role = expression (scope ++ x ∷ []) in
      read_list scope (codes "let") (tree.more (tree.word x) (tree.more (form v) (tree.more (form b) tree.none))) keywords.Let (code.let_in x v b) refl refl (clean_more tb (fresh []) (e ∷ last ∷ []) (tree.word x) (tree.more (form v) (tree.more (form b) tree.none)) (clean_fresh [] x named refl) (clean_more tb e (last ∷ []) (form v) (tree.more (form b) tree.none) value.clean (clean_more tb last [] (form b) tree.none body.clean (clean_none tb)))) (ap₂ (code.let_in x) value.is body.is)

  read_if : (scope : List (List ℕ)) (t y n : Code) → IsRead scope (form t) t → IsRead scope (form y) y → IsRead scope (form n) n → IsRead scope (form (code.if_else t y n)) (code.if_else t y n)
  read_if scope t y n test first_branch second_branch =
      let e : Role = expression scope in
      read_list scope (codes "if") (tree.more (form t) (tree.more (form y) (tree.more (form n) tree.none))) keywords.If (code.if_else t y n) refl refl (clean_more tb e (e ∷ e ∷ []) (form t) (tree.more (form y) (tree.more (form n) tree.none)) test.clean (clean_more tb e (e ∷ []) (form y) (tree.more (form n) tree.none) first_branch.clean (clean_more tb e [] (form n) tree.none second_branch.clean (clean_none tb)))) (λ i. code.if_else (test.is i) (first_branch.is i) (second_branch.is i))

  two_clean : (s i : List ℕ) → IsName s → IsName i → s ≢ i → IsClean (FaultAt tb two_names (tree.list (tree.more (tree.word s) (tree.more (tree.word i) tree.none))))
  two_clean s i named also apart =
      let new : has (s ∷ []) i ≡ false = ap (λ b. b || false) (apart_bytes i s (λ e. apart (sym e))) in
      clean_list tb two_names (tree.more (tree.word s) (tree.more (tree.word i) tree.none)) (fresh [] ∷ fresh (s ∷ []) ∷ []) (λ q. cc) refl (clean_more tb (fresh []) (fresh (s ∷ []) ∷ []) (tree.word s) (tree.more (tree.word i) tree.none) (clean_fresh [] s named refl) (clean_more tb (fresh (s ∷ [])) [] (tree.word i) tree.none (clean_fresh (s ∷ []) i also new) (clean_none tb)))

  read_fold : (scope : List (List ℕ)) (l f : Code) (s i : List ℕ) (b : Code) → IsName s → IsName i → s ≢ i → IsRead scope (form l) l → IsRead scope (form f) f → IsRead (scope ++ s ∷ i ∷ []) (form b) b → IsRead scope (form (code.fold l f s i b)) (code.fold l f s i b)
  read_fold scope l f s i b named also apart items start body =
      let e : Role = expression scope in
      let last : Role = expression (scope ++ s ∷ i ∷ []) in
      let names : Tree = tree.list (tree.more (tree.word s) (tree.more (tree.word i) tree.none)) in
      let fourth : Trees = tree.more (form b) tree.none in
      read_list scope (codes "fold") (tree.more (form l) (tree.more (form f) (tree.more names fourth))) keywords.Fold (code.fold l f s i b) refl refl (clean_more tb e (e ∷ two_names ∷ last ∷ []) (form l) (tree.more (form f) (tree.more names fourth)) items.clean (clean_more tb e (two_names ∷ last ∷ []) (form f) (tree.more names fourth) start.clean (clean_more tb two_names (last ∷ []) names fourth (two_clean s i named also apart) (clean_more tb last [] (form b) tree.none body.clean (clean_none tb))))) (λ j. code.fold (items.is j) (start.is j) s i (body.is j))

  read_set : (scope : List (List ℕ)) (v : Code) → IsRead scope (form v) v → IsRead scope (form (code.set v)) (code.set v)
  read_set scope v value =
      read_list scope (codes "set") (tree.more (form v) tree.none) keywords.Set (code.set v) refl refl (clean_more tb (expression scope) [] (form v) tree.none value.clean (clean_none tb)) (ap code.set value.is)

  read_send : (scope : List (List ℕ)) (t v : Code) → IsRead scope (form t) t → IsRead scope (form v) v → IsRead scope (form (code.send t v)) (code.send t v)
  read_send scope t v to value =
      let e : Role = expression scope in
      read_list scope (codes "send") (tree.more (form t) (tree.more (form v) tree.none)) keywords.Send (code.send t v) refl refl (clean_more tb e (e ∷ []) (form t) (tree.more (form v) tree.none) to.clean (clean_more tb e [] (form v) tree.none value.clean (clean_none tb))) (ap₂ code.send to.is value.is)

  read_new : (scope : List (List ℕ)) (b : ℕ) (n s : Code) → IsNameAt tb.behaviours b → IsRead scope (form n) n → IsRead scope (form s) s → IsRead scope (form (code.new b n s)) (code.new b n s)
  read_new scope b n s w node state =
      let e : Role = expression scope in
      let rest : Trees = tree.more (form n) (tree.more (form s) tree.none) in
      let there : IsRead scope (tree.list (tree.more (tree.word (codes "new")) (tree.more (tree.word w.name) rest))) (code.new b n s) = read_list scope (codes "new") (tree.more (tree.word w.name) rest) keywords.New (code.new b n s) refl refl (clean_more tb (known tb.behaviours) (e ∷ e ∷ []) (tree.word w.name) rest (clean_known tb.behaviours w.name w.named w.has) (clean_more tb e (e ∷ []) (form n) (tree.more (form s) tree.none) node.clean (clean_more tb e [] (form s) tree.none state.clean (clean_none tb)))) (λ i. code.new (w.number i) (node.is i) (state.is i)) in
      subst (λ x. IsRead scope (tree.list (tree.more (tree.word (codes "new")) (tree.more (tree.word x) rest))) (code.new b n s)) (sym w.is) there

  read_all_list : (scope : List (List ℕ)) (cs : Codes) → AreRead scope (forms cs) cs → IsRead scope (form (code.list cs)) (code.list cs)
  read_all_list scope cs all = read_list scope (codes "list") (forms cs) keywords.List (code.list cs) refl refl all.clean (ap code.list all.are)

  read_seq : (scope : List (List ℕ)) (cs : Codes) → 0 < parts.count_of cs → AreRead scope (forms cs) cs → IsRead scope (form (code.seq cs)) (code.seq cs)
  read_seq scope cs some all =
      let number = all.number in
      read_list scope (codes "seq") (forms cs) keywords.Seq (code.seq cs) refl (le-leb 1 (count_of (forms cs)) (omega arith)) all.clean (ap code.seq all.are)

  read_apply : (scope : List (List ℕ)) (p : Operation) (cs : Codes) → parts.count_of cs ≡ arity p → AreRead scope (forms cs) cs → IsRead scope (form (code.apply p cs)) (code.apply p cs)
  read_apply scope p cs enough all =
      read_list scope (prim_word p) (forms cs) (keywords.Apply p) (code.apply p cs) (keyword_of-prim p) (eq-eqb (count_of (forms cs)) (arity p) (all.number ∙ enough)) all.clean (ap (code.apply p) all.are)

  mutual
    pub read : (c : Code) (scope : List (List ℕ)) → Throughout Fits c → IsBoundIn scope c → IsRead scope (code_form tb.behaviours tb.starts c) c
    read code.unit scope h bound = read_word scope (codes "unit") code.unit refl refl
    read (code.truth true) scope h bound = read_word scope (codes "true") (code.truth true) refl refl
    read (code.truth false) scope h bound = read_word scope (codes "false") (code.truth false) refl refl
    read (code.int z) scope h bound = read_word scope _ (code.int z) (is_constant-integer z h.1) (word_code-integer z h.1)
    read (code.text t) scope h bound = let short = h.0.short_text in read_text scope t (omega (arith, short.0))
    read code.msg scope h bound = read_word scope (codes "msg") code.msg refl refl
    read code.own scope h bound = read_word scope (codes "self") code.own refl refl
    read (code.var x) scope h bound = read_var scope x h.0.names bound
    read (code.start n) scope h bound = read_start scope n (name_at tb.starts n starts_are h.0.start)
    read (code.list cs) scope h bound = read_all_list scope cs (read_each cs scope h.1 bound)
    read (code.let_in x v b) scope h bound =
        read_let scope x v b h.0.0.names (read v scope h.1 bound.0) (read b (scope ++ x ∷ []) h.2 bound.1)
    read (code.if_else t y n) scope h bound =
        read_if scope t y n (read t scope h.1 bound.0) (read y scope h.2 bound.1) (read n scope h.3 bound.2)
    read (code.seq cs) scope h bound = read_seq scope cs h.0.0.item (read_each cs scope h.1 bound)
    read (code.fold l f s i b) scope h bound =
        read_fold scope l f s i b h.0.0.names.0 h.0.0.names.1 h.0.0.two_names (read l scope h.1 bound.0) (read f scope h.2 bound.1) (read b (scope ++ s ∷ i ∷ []) h.3 bound.2)
    read (code.apply p cs) scope h bound = read_apply scope p cs h.0.0.arity (read_each cs scope h.1 bound)
    read code.get scope h bound = read_list scope (codes "get") tree.none keywords.Get code.get refl refl (clean_none tb) refl
    read (code.set v) scope h bound = read_set scope v (read v scope h.1 bound)
    read (code.send t v) scope h bound = read_send scope t v (read t scope h.1 bound.0) (read v scope h.2 bound.1)
    read (code.new b n s) scope h bound =
        read_new scope b n s (name_at tb.behaviours b behaviours_are h.0.0.behaviour) (read n scope h.1 bound.0) (read s scope h.2 bound.1)
    read code.stabilize scope h bound = read_list scope (codes "stabilize") tree.none keywords.Stabilize code.stabilize refl refl (clean_none tb) refl
    read code.checkpoint scope h bound = read_list scope (codes "checkpoint") tree.none keywords.Checkpoint code.checkpoint refl refl (clean_none tb) refl
    read code.rollback scope h bound = read_list scope (codes "rollback") tree.none keywords.Rollback code.rollback refl refl (clean_none tb) refl
    read code.dependent scope h bound = read_list scope (codes "dependent") tree.none keywords.Dependent code.dependent refl refl (clean_none tb) refl

    read_each : (cs : Codes) (scope : List (List ℕ)) → AllThroughout Fits cs → AllBoundIn scope cs → AreRead scope (code_forms tb.behaviours tb.starts cs) cs
    read_each code.none scope h bound = record { clean = clean_none tb; are = refl; number = refl }
    read_each (code.more c cs) scope h bound =
        let one = read c scope h.0 bound.0 in
        let rest = read_each cs scope h.1 bound.1 in
        record {
          clean = clean_more tb (expression scope) (every (expression scope) (forms cs)) (form c) (forms cs) one.clean rest.clean;
          are = ap₂ code.more one.is rest.are;
          number = ap (λ n. 1 + n) rest.number;
        }
