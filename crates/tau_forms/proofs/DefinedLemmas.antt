-- What the forms at the top define, form by form.
use Rattle.std.proofs.Common.{◌≡◌, ℕ, ◌==◌, Bool, true, false, cond, map, ◌&&◌, ◌||◌, is_some, List, [], ◌∷◌, ◌++◌, length, Option, Some, None, refl, sym, ap, ◌∙◌}
use Rattle.std.specs.List.{list_any}
use Rattle.std.specs.Option.{option_or}
use Rattle.std.proofs.lemmas.List.Folds.{list_any-append}
use Rattle.tau_sexpr.specs.Form.{tree_of}
use Rattle.tau_sexpr.specs.Tree.{Tree, Trees, word, text, list, none, more, inside}
use Rattle.tau_sexpr.specs.declared.trees.Form.{Form}
use Rattle.tau_value.specs.Names.{place_of}
use Rattle.tau_value.specs.Numbers.{count_in}
use Rattle.tau_forms.specs.declared.tables.Defined.{Defined}
use Rattle.tau_forms.specs.declared.tables.Definition.{Definition}
use Rattle.tau_forms.specs.Inner.Defined.{IsDefined, Defines, nodes_told, version_items, behaviour_name, start_name, nodes_number, version_number}
use Rattle.tau_forms.specs.Keywords.{sort_in}
use Rattle.tau_forms.specs.Tops.{is_nodes, is_version, is_behaviour, is_start, with_name, behaviours_of, starts_of, is_count_in, nodes_in, nodes_of, version_in, version_of, is_two, is_second}
use Rattle.tau_forms.proofs.WordLemmas.{placed}
use Rattle.tau_forms.proofs.SoundNames.{defined_after-push}

nodes_after : (a b c : Option ℕ) → option_or a (option_or b c) ≡ option_or (option_or a b) c
nodes_after None b c = refl
nodes_after (Some n) b c = refl

option_or-none : (a : Option ℕ) → option_or a None ≡ option_or None a
option_or-none None = refl
option_or-none (Some n) = refl

pub nodes_push : (ts : List Tree) (t : Tree) → nodes_of (ts ++ t ∷ []) ≡ option_or (nodes_of ts) (nodes_in t)
nodes_push [] t = option_or-none (nodes_in t)
nodes_push (u ∷ us) t = ap (option_or (nodes_in u)) (nodes_push us t) ∙ nodes_after (nodes_in u) (nodes_of us) (nodes_in t)

pub version_push : (ts : List Tree) (t : Tree) → version_of (ts ++ t ∷ []) ≡ option_or (version_of ts) (version_in t)
version_push [] t = option_or-none (version_in t)
version_push (u ∷ us) t = ap (option_or (version_in u)) (version_push us t) ∙ nodes_after (version_in u) (version_of us) (version_in t)

or_false : (b : Bool) → (b || false) ≡ b
or_false true = refl
or_false false = refl

pub second_push : (ts : List Tree) (t : Tree) → list_any is_second (ts ++ t ∷ []) ≡ (list_any is_second ts || is_second t)
second_push ts t = list_any-append is_second ts (t ∷ []) ∙ ap (λ b. list_any is_second ts || b) (or_false (is_second t))

-- nothing is told of a version
pub same_second : (b : Bool) → b ≡ (b || false)
same_second b = sym (or_false b)

pub defined_more : (before : List Tree) (t : Tree) (d e : Defined) (f : Definition) → IsDefined before d → Defines t f → e.behaviours ≡ with_name d.behaviours (behaviour_name f) → e.starts ≡ with_name d.starts (start_name f) → e.nodes ≡ option_or d.nodes (nodes_number f) → e.version ≡ option_or d.version (version_number f) → e.second ≡ (d.second || is_two (version_number f)) → IsDefined (before ++ t ∷ []) e
defined_more before t d e f h g a b c v s = record {
  behaviours = a ∙ ap (λ ws. with_name ws (behaviour_name f)) h.behaviours ∙ ap (with_name (behaviours_of before)) (sym g.behaviour) ∙ sym (defined_after-push is_behaviour [] before t);
  starts = b ∙ ap (λ ws. with_name ws (start_name f)) h.starts ∙ ap (with_name (starts_of before)) (sym g.start) ∙ sym (defined_after-push is_start [] before t);
  nodes = c ∙ ap (λ o. option_or o (nodes_number f)) h.nodes ∙ ap (option_or (nodes_of before)) (sym g.nodes) ∙ sym (nodes_push before t);
  version = v ∙ ap (λ o. option_or o (version_number f)) h.version ∙ ap (option_or (version_of before)) (sym g.version) ∙ sym (version_push before t);
  second = s ∙ ap (λ x. x || is_two (version_number f)) h.second ∙ ap (λ o. list_any is_second before || is_two o) (sym g.version) ∙ sym (second_push before t);
}

nodes_both : (b c : Bool) (o : Option ℕ) → cond (b && c) o None ≡ cond b (cond c o None) None
nodes_both true c o = refl
nodes_both false c o = refl

pub nodes_in_list : (h : List ℕ) (us : Trees) (b : Bool) → is_nodes (sort_in h) ≡ b → nodes_in (list (more (word h) us)) ≡ cond b (nodes_told us) None
nodes_in_list h none true e = refl
nodes_in_list h none false e = refl
nodes_in_list h (more (word k) none) b e = nodes_both (is_nodes (sort_in h)) (is_count_in 1 65 k) (count_in k) ∙ ap (λ c. cond c (cond (is_count_in 1 65 k) (count_in k) None) None) e
nodes_in_list h (more (word k) (more u us)) true e = refl
nodes_in_list h (more (word k) (more u us)) false e = refl
nodes_in_list h (more (text t) us) true e = refl
nodes_in_list h (more (text t) us) false e = refl
nodes_in_list h (more (list t) us) true e = refl
nodes_in_list h (more (list t) us) false e = refl

pub version_in_list : (h : List ℕ) (us : Trees) (b : Bool) → is_version (sort_in h) ≡ b → version_in (list (more (word h) us)) ≡ cond b (version_items us) None
version_in_list h none true e = refl
version_in_list h none false e = refl
version_in_list h (more (word k) none) b e = nodes_both (is_version (sort_in h)) (is_count_in 1 3 k) (count_in k) ∙ ap (λ c. cond c (cond (is_count_in 1 3 k) (count_in k) None) None) e
version_in_list h (more (word k) (more u us)) true e = refl
version_in_list h (more (word k) (more u us)) false e = refl
version_in_list h (more (text t) us) true e = refl
version_in_list h (more (text t) us) false e = refl
version_in_list h (more (list t) us) true e = refl
version_in_list h (more (list t) us) false e = refl

-- a name is added where it isn't there
pub with_known : (ws : List (List ℕ)) (w : List ℕ) (o : Option ℕ) (b : Bool) → o ≡ place_of ws w → b ≡ is_some o → b ≡ true → ws ≡ with_name ws (Some w)
with_known ws w o b p e h = sym (ap (λ c. cond c ws (ws ++ w ∷ [])) (sym (placed ws w) ∙ sym (ap is_some p) ∙ sym e ∙ h))

pub with_new : (ws us : List (List ℕ)) (w : List ℕ) (o : Option ℕ) (b : Bool) → o ≡ place_of ws w → b ≡ is_some o → b ≡ false → us ≡ ws ++ w ∷ [] → us ≡ with_name ws (Some w)
with_new ws us w o b p e h f = f ∙ sym (ap (λ c. cond c ws (ws ++ w ∷ [])) (sym (placed ws w) ∙ sym (ap is_some p) ∙ sym e ∙ h))

pub nodes_told_long : (ts : Trees) (h : List ℕ) (fs : List Form) (b : Bool) → ts ≡ more (word h) (inside (map tree_of fs)) → b ≡ (length fs == 0) → b ≡ false → None ≡ nodes_told ts
nodes_told_long ts h [] b e f g = cc
nodes_told_long ts h (x ∷ fs) b e f g = sym (ap nodes_told e)

pub version_long : (ts : Trees) (h : List ℕ) (fs : List Form) (b : Bool) → ts ≡ more (word h) (inside (map tree_of fs)) → b ≡ (length fs == 0) → b ≡ false → None ≡ version_items ts
version_long ts h [] b e f g = cc
version_long ts h (x ∷ fs) b e f g = sym (ap version_items e)

pub or_none : (o : Option ℕ) → o ≡ option_or o None
or_none None = refl
or_none (Some n) = refl
