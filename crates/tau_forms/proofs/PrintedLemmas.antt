-- The lines that a program is printed as, put together.
use Rattle.std.proofs.Common.{◌≡◌, ℕ, List, [], ◌∷◌, ◌++◌, map, get_or, refl, sym, ap, subst, append_assoc, codes}
use Rattle.std.specs.List.{All}
use Rattle.std.proofs.lemmas.List.Elements.{All-cons, All-append, All-map}
use Rattle.tau_sexpr.specs.Printing as print
use Rattle.tau_sexpr.specs.Printing.{HasBytes}
use Rattle.tau_sexpr.specs.Tree.{Tree, word, list, more, inside, headed}
use Rattle.tau_tree.specs.Code.{Code}
use Rattle.tau_tree.specs.Code as code
use Rattle.tau_tree.specs.Behaviour.{NamedCode}
use Rattle.tau_tree.specs.Parts.{Throughout}
use Rattle.tau_tree.specs.Sound.{behaviour_names, start_names}
use Rattle.tau_tree.specs.declared.entries.Entry.{Entry}
use Rattle.tau_tree.specs.declared.posts.Post.{Post}
use Rattle.tau_tree.specs.declared.programs.Program.{Program}
use Rattle.tau_tree.specs.declared.starts.Start.{Start}
use Rattle.tau_value.specs.Names.{AreNames}
use Rattle.tau_value.specs.Value.{val_of}
use Rattle.tau_value.specs.Written.{count_form, NumbersFit, IsWritten}
use Rattle.tau_forms.specs.Inner.Fitting.{HasFittingInteger, HasFittingNumbers, IsFitting}
use Rattle.tau_forms.specs.Printed.{code_form, code_forms, version_forms, behaviour_form, start_form, post_form, entry_form, printed}
use Rattle.tau_forms.proofs.LineTexts.{lines_both}
use Rattle.tau_forms.proofs.ValueTexts.{is_written}

pub code_forms-inside : (bs ss : List (List ℕ)) (cs : List Code) → code_forms bs ss (code.inside cs) ≡ inside (map (code_form bs ss) cs)
code_forms-inside bs ss [] = refl
code_forms-inside bs ss (c ∷ cs) = ap (more (code_form bs ss c)) (code_forms-inside bs ss cs)

-- a list of expressions, put as a whole
pub list_text : (bs ss : List (List ℕ)) (cs : List Code) (head old begun now new : List ℕ) → begun ≡ old ++ 40 ∷ head → now ≡ begun ++ print.print_rest (inside (map (code_form bs ss) cs)) → new ≡ now ++ 41 ∷ []
    → new ≡ old ++ print.print_of (list (more (word head) (code_forms bs ss (code.inside cs))))
list_text bs ss cs head old begun now new first items last = rw (last, items, first, code_forms-inside bs ss cs) (simp append_assoc)

pub list_bytes : (bs ss : List (List ℕ)) (cs : List Code) → print.AllHaveBytes (inside (map (code_form bs ss) cs)) → print.AllHaveBytes (code_forms bs ss (code.inside cs))
list_bytes bs ss cs h = subst print.AllHaveBytes (sym (code_forms-inside bs ss cs)) h

-- what is known of the parts of a program is known of the program
module _ (p : Program) (behaviours names : List (List ℕ)) (bs : List NamedCode) (ss : List Start) (qs : List Post) (es : List Entry) (eh : behaviours ≡ behaviour_names p) (en : names ≡ start_names p) (eb : bs ≡ p.behaviours) (es' : ss ≡ p.starts) (eq : qs ≡ p.posts) (ee : es ≡ p.script) where
  abbrev pub nodes_form : Tree
  nodes_form = headed (codes "nodes") (count_form p.nodes ∷ [])

  abbrev pub behaviour_lines : List Tree
  behaviour_lines = map (behaviour_form behaviours names) bs

  abbrev pub start_lines : List Tree
  start_lines = map (start_form behaviours names) ss

  abbrev pub post_lines : List Tree
  post_lines = map (post_form names) qs

  abbrev pub entry_lines : List Tree
  entry_lines = map entry_form es

  abbrev pub lines : List Tree
  lines = version_forms p.version ++ (nodes_form ∷ (behaviour_lines ++ start_lines ++ post_lines ++ entry_lines))

  lines_are : lines ≡ printed p
  lines_are i =
      version_forms p.version
      ++ (nodes_form ∷ (map (behaviour_form (eh i) (en i)) (eb i) ++ map (start_form (eh i) (en i)) (es' i) ++ map (post_form (en i)) (eq i) ++ map entry_form (ee i)))

  pub text_from : (t0 t1 t2 t3 t4 t5 t6 : List ℕ) → t1 ≡ t0 ++ print.printed (version_forms p.version) → t2 ≡ t1 ++ print.printed (nodes_form ∷ []) → t3 ≡ t2 ++ print.printed behaviour_lines → t4 ≡ t3 ++ print.printed start_lines → t5 ≡ t4 ++ print.printed post_lines → t6 ≡ t5 ++ print.printed entry_lines
      → t6 ≡ t0 ++ print.printed (printed p)
  text_from t0 t1 t2 t3 t4 t5 t6 e1 e2 e3 e4 e5 e6 =
      let a = lines_both (behaviour_lines ++ start_lines ++ post_lines) entry_lines t2 t5 t6 (lines_both (behaviour_lines ++ start_lines) post_lines t2 t4 t5 (lines_both behaviour_lines start_lines t2 t3 t4 e3 e4) e5) e6 in
      let b = lines_both (nodes_form ∷ []) (behaviour_lines ++ start_lines ++ post_lines ++ entry_lines) t1 t2 t6 e2 a in
      subst (λ ts. t6 ≡ t0 ++ print.printed ts) lines_are (lines_both (version_forms p.version) (nodes_form ∷ (behaviour_lines ++ start_lines ++ post_lines ++ entry_lines)) t0 t1 t6 e1 b)

  pub bytes_from : All HasBytes (version_forms p.version) → HasBytes nodes_form → All (λ b. HasBytes (behaviour_form behaviours names b)) bs → All (λ s. HasBytes (start_form behaviours names s)) ss → All (λ q. HasBytes (post_form names q)) qs → All (λ e. HasBytes (entry_form e)) es → All HasBytes (printed p)
  bytes_from hv hn hb hs hq he =
      let b = All-map HasBytes (behaviour_form behaviours names) bs hb in
      let s = All-map HasBytes (start_form behaviours names) ss hs in
      let q = All-map HasBytes (post_form names) qs hq in
      let e = All-map HasBytes entry_form es he in
      let rest = All-append HasBytes (behaviour_lines ++ start_lines ++ post_lines) entry_lines (All-append HasBytes (behaviour_lines ++ start_lines) post_lines (All-append HasBytes behaviour_lines start_lines b s) q) e in
      subst (All HasBytes) lines_are (All-append HasBytes (version_forms p.version) (nodes_form ∷ (behaviour_lines ++ start_lines ++ post_lines ++ entry_lines)) hv (All-cons HasBytes nodes_form (behaviour_lines ++ start_lines ++ post_lines ++ entry_lines) hn rest))

  pub fitting_from : AreNames names → All (λ b. Throughout HasFittingInteger b.body) bs → All (λ s. NumbersFit (val_of s.state)) ss → All (λ q. NumbersFit (val_of q.value)) qs → All HasFittingNumbers es → IsFitting p
  fitting_from are hb hs hq he =
      let states : All (λ s. IsWritten names (val_of s.state)) ss = λ k d lt. is_written names (val_of (get_or ss k d).state) are (hs k d lt) in
      let posts : All (λ q. IsWritten names (val_of q.value)) qs = λ k d lt. is_written names (val_of (get_or qs k d).value) are (hq k d lt) in
      record {
        integers = All-map (Throughout HasFittingInteger) (λ b. b.body) p.behaviours (subst (All (λ b. Throughout HasFittingInteger b.body)) eb hb);
        states = subst (λ ns. All (λ s. IsWritten ns (val_of s.state)) p.starts) en (subst (All (λ s. IsWritten names (val_of s.state))) es' states);
        posts = subst (λ ns. All (λ q. IsWritten ns (val_of q.value)) p.posts) en (subst (All (λ q. IsWritten names (val_of q.value))) eq posts);
        entries = subst (All HasFittingNumbers) ee he;
      }
