-- What forms at the top define, by their first word and their other items.
use Rattle.std.proofs.Common.{◌≡◌, ℕ, Bool, true, false, cond, List, [], ◌∷◌, ◌++◌, map, filter_map, Option, Some, None, refl, sym, ap, ap₂, subst, ◌∙◌}
use Rattle.std.specs.List.{cons_option}
use Rattle.std.specs.Option.{option_to_list}
use Rattle.std.proofs.lemmas.List.Elements.{filter_map-append}
use Rattle.tau_sexpr.specs.Tree.{Tree, Trees, word, text, list, none, more}
use Rattle.tau_forms.specs.Inner.Building.{behaviour_items, start_items, post_items, entry_items, behaviour_told, start_told, post_told, entry_told, IsTopForm, TellsBehaviour, TellsStart, TellsPost, TellsEntry, HasBuilt}
use Rattle.tau_forms.specs.Keywords.{sort_in}
use Rattle.tau_forms.specs.Meaning.{PlainProgram, program_in, plain_start, plain_post, behaviour_in, start_in, post_in, entry_in}
use Rattle.tau_forms.specs.Tops.{is_behaviour, is_start, is_post, is_entry, tables_of}
use Rattle.tau_forms.specs.declared.keywords.Sort.{Sort}
use Rattle.tau_forms.specs.declared.keywords.Sort.TheVariants as sorts
use Rattle.tau_forms.specs.declared.programs.Draft.{Draft}
use Rattle.tau_forms.specs.declared.programs.TopForm.{TopForm}
use Rattle.tau_forms.specs.declared.programs.TopForm.TheVariants as forms
use Rattle.tau_forms.specs.declared.tables.Tables.{Tables}

none_if : {X : Type 0} → (b : Bool) → let n : Option X = None in n ≡ cond b n n
none_if true = refl
none_if false = refl

behaviour_by : (tb : Tables) (h : List ℕ) (us : Trees) → behaviour_in tb (list (more (word h) us)) ≡ cond (is_behaviour (sort_in h)) (behaviour_items tb us) None
behaviour_by tb h (more (word n) (more e none)) = refl
behaviour_by tb h us = none_if (is_behaviour (sort_in h))

start_by : (tb : Tables) (h : List ℕ) (us : Trees) → start_in tb (list (more (word h) us)) ≡ cond (is_start (sort_in h)) (start_items tb us) None
start_by tb h (more (word n) (more (word b) (more (word k) (more v none)))) = refl
start_by tb h us = none_if (is_start (sort_in h))

post_by : (tb : Tables) (h : List ℕ) (us : Trees) → post_in tb (list (more (word h) us)) ≡ cond (is_post (sort_in h)) (post_items tb us) None
post_by tb h (more (word s) (more v none)) = refl
post_by tb h us = none_if (is_post (sort_in h))

entry_by : (h : List ℕ) (us : Trees) → entry_in (list (more (word h) us)) ≡ cond (is_entry (sort_in h)) (entry_items us) None
entry_by h (more (word p) (more (list (more (word g) (more (word n) none))) none)) = refl
entry_by h (more (word p) (more (list none) none)) = none_if (is_entry (sort_in h))
entry_by h (more (word p) (more (list none) (more x xs))) = none_if (is_entry (sort_in h))
entry_by h (more (word p) (more (list (more (word g) none)) none)) = none_if (is_entry (sort_in h))
entry_by h (more (word p) (more (list (more (word g) none)) (more x xs))) = none_if (is_entry (sort_in h))
entry_by h (more (word p) (more (list (more (text t) us)) none)) = none_if (is_entry (sort_in h))
entry_by h (more (word p) (more (list (more (text t) us)) (more x xs))) = none_if (is_entry (sort_in h))
entry_by h (more (word p) (more (list (more (list t) us)) none)) = none_if (is_entry (sort_in h))
entry_by h (more (word p) (more (list (more (list t) us)) (more x xs))) = none_if (is_entry (sort_in h))
entry_by h (more (word p) (more (list (more (word g) (more (text t) us))) none)) = none_if (is_entry (sort_in h))
entry_by h (more (word p) (more (list (more (word g) (more (text t) us))) (more x xs))) = none_if (is_entry (sort_in h))
entry_by h (more (word p) (more (list (more (word g) (more (list t) us))) none)) = none_if (is_entry (sort_in h))
entry_by h (more (word p) (more (list (more (word g) (more (list t) us))) (more x xs))) = none_if (is_entry (sort_in h))
entry_by h (more (word p) (more (list (more (word g) (more (word n) none))) (more x xs))) = none_if (is_entry (sort_in h))
entry_by h (more (word p) (more (list (more (word g) (more (word n) (more u us)))) none)) = none_if (is_entry (sort_in h))
entry_by h (more (word p) (more (list (more (word g) (more (word n) (more u us)))) (more x xs))) = none_if (is_entry (sort_in h))
entry_by h us = none_if (is_entry (sort_in h))

pub top_of_items : (tb : Tables) (t : Tree) (ts us : Trees) (h : List ℕ) (s : Sort) (f : TopForm) → t ≡ list ts → ts ≡ more (word h) us → s ≡ sort_in h → cond (is_behaviour s) (behaviour_items tb us) None ≡ behaviour_told tb f → cond (is_start s) (start_items tb us) None ≡ start_told tb f → cond (is_post s) (post_items tb us) None ≡ post_told tb f → cond (is_entry s) (entry_items us) None ≡ entry_told f → IsTopForm tb t f
top_of_items tb t ts us h s f whole e d a b c g =
    let is : t ≡ list (more (word h) us) = whole ∙ ap list e in
    record {
      behaviour = ap (behaviour_in tb) is ∙ behaviour_by tb h us ∙ ap (λ q. cond (is_behaviour q) (behaviour_items tb us) None) (sym d) ∙ a;
      start = ap (start_in tb) is ∙ start_by tb h us ∙ ap (λ q. cond (is_start q) (start_items tb us) None) (sym d) ∙ b;
      post = ap (post_in tb) is ∙ post_by tb h us ∙ ap (λ q. cond (is_post q) (post_items tb us) None) (sym d) ∙ c;
      entry = ap entry_in is ∙ entry_by h us ∙ ap (λ q. cond (is_entry q) (entry_items us) None) (sym d) ∙ g;
    }

pub top_behaviour : (tb : Tables) (t : Tree) (ts us : Trees) (h : List ℕ) (f : TopForm) → t ≡ list ts → ts ≡ more (word h) us → sorts.Behaviour ≡ sort_in h → TellsBehaviour tb us f → IsTopForm tb t f
top_behaviour tb t ts us h f whole e d k = top_of_items tb t ts us h sorts.Behaviour f whole e d k.behaviour (sym k.no_start) (sym k.no_post) (sym k.no_entry)

pub top_start : (tb : Tables) (t : Tree) (ts us : Trees) (h : List ℕ) (f : TopForm) → t ≡ list ts → ts ≡ more (word h) us → sorts.Start ≡ sort_in h → TellsStart tb us f → IsTopForm tb t f
top_start tb t ts us h f whole e d k = top_of_items tb t ts us h sorts.Start f whole e d (sym k.no_behaviour) k.start (sym k.no_post) (sym k.no_entry)

pub top_post : (tb : Tables) (t : Tree) (ts us : Trees) (h : List ℕ) (f : TopForm) → t ≡ list ts → ts ≡ more (word h) us → sorts.Post ≡ sort_in h → TellsPost tb us f → IsTopForm tb t f
top_post tb t ts us h f whole e d k = top_of_items tb t ts us h sorts.Post f whole e d (sym k.no_behaviour) (sym k.no_start) k.post (sym k.no_entry)

pub no_behaviour : (tb : Tables) (us : Trees) → behaviour_items tb us ≡ None → TellsBehaviour tb us forms.Other
no_behaviour tb us e = record { behaviour = e; no_start = refl; no_post = refl; no_entry = refl }

pub no_start : (tb : Tables) (us : Trees) → start_items tb us ≡ None → TellsStart tb us forms.Other
no_start tb us e = record { start = e; no_behaviour = refl; no_post = refl; no_entry = refl }

pub no_post : (tb : Tables) (us : Trees) → post_items tb us ≡ None → TellsPost tb us forms.Other
no_post tb us e = record { post = e; no_behaviour = refl; no_start = refl; no_entry = refl }

pub no_entry : (us : Trees) → entry_items us ≡ None → TellsEntry us forms.Other
no_entry us e = record { entry = e; no_behaviour = λ tb. refl; no_start = λ tb. refl; no_post = λ tb. refl }

-- one more form
one_more : {X : Type 0} → (o : Option X) → cons_option o [] ≡ option_to_list o
one_more None = refl
one_more (Some x) = refl

pub built_more : (tb : Tables) (before : List Tree) (t : Tree) (d e : Draft) (f : TopForm) → HasBuilt tb before d → IsTopForm tb t f → e.behaviours ≡ d.behaviours ++ option_to_list (behaviour_told tb f) → map plain_start e.starts ≡ map plain_start d.starts ++ option_to_list (start_told tb f) → map plain_post e.posts ≡ map plain_post d.posts ++ option_to_list (post_told tb f) → e.script ≡ d.script ++ option_to_list (entry_told f) → HasBuilt tb (before ++ t ∷ []) e
built_more tb before t d e f h g a b c k = record {
  behaviours = a ∙ ap₂ (λ xs o. xs ++ option_to_list o) h.behaviours (sym g.behaviour) ∙ ap (λ ys. filter_map (behaviour_in tb) before ++ ys) (sym (one_more (behaviour_in tb t))) ∙ sym (filter_map-append (behaviour_in tb) before (t ∷ []));
  starts = b ∙ ap₂ (λ xs o. xs ++ option_to_list o) h.starts (sym g.start) ∙ ap (λ ys. filter_map (start_in tb) before ++ ys) (sym (one_more (start_in tb t))) ∙ sym (filter_map-append (start_in tb) before (t ∷ []));
  posts = c ∙ ap₂ (λ xs o. xs ++ option_to_list o) h.posts (sym g.post) ∙ ap (λ ys. filter_map (post_in tb) before ++ ys) (sym (one_more (post_in tb t))) ∙ sym (filter_map-append (post_in tb) before (t ∷ []));
  script = k ∙ ap₂ (λ xs o. xs ++ option_to_list o) h.script (sym g.entry) ∙ ap (λ ys. filter_map entry_in before ++ ys) (sym (one_more (entry_in t))) ∙ sym (filter_map-append entry_in before (t ∷ []));
}

pub nothing_more : {X : Type 0} → (xs : List X) → xs ≡ xs ++ []
nothing_more [] = refl
nothing_more (x ∷ xs) = ap (λ ys. x ∷ ys) (nothing_more xs)

-- all forms
abbrev pub built : Tables → Draft → PlainProgram
built tb d = record { version = tb.version; nodes = tb.nodes; behaviours = d.behaviours; starts = map plain_start d.starts; posts = map plain_post d.posts; script = d.script }

pub built_all : (tb : Tables) (ts : List Tree) (d : Draft) → tb ≡ tables_of ts → HasBuilt tb ts d → built tb d ≡ program_in ts
built_all tb ts d e h = subst (λ t. HasBuilt t ts d → built t d ≡ program_in ts) (sym e) (λ k i. record { version = (tables_of ts).version; nodes = (tables_of ts).nodes; behaviours = k.behaviours i; starts = k.starts i; posts = k.posts i; script = k.script i }) h
