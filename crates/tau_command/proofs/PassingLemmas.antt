-- What `clap` finds for an argument has passed the argument's parser, where the words have no fault.
use Rattle.std.proofs.Common.{◌≡◌, ◌⊎◌, inl, inr, ◌∙◌, ◌||◌, ◌&&◌, ap, refl, sym, subst, ℕ, zero, suc, Bool, true, false, cond, List, [], ◌∷◌, ◌++◌, length, is_some, Option, Some, None, arith}
use Rattle.std.specs.Prelude.{drop, encode_utf8, find, fold, slice_get, option_map, option_and_then}
use Rattle.std.specs.Option.{option_map_or}
use Rattle.std.specs.Str.{bytes_eq, chars}
use Rattle.std.proofs.lemmas.Bool.{ne_eqb}
use Rattle.std.proofs.lemmas.Slice.Eq.{bytes_eq-Decides}
use Rattle.clap.specs.declared.builder.action.ArgAction.TheVariants.{Set, Help}
use Rattle.clap.specs.declared.builder.value_parser.Reading.{Reading}
use Rattle.clap.specs.declared.builder.value_parser.ValueParser.{ValueParser}
use Rattle.clap.specs.declared.parser.matches.ValueSource.{ValueSource}
use Rattle.clap.specs.declared.parser.matches.ValueSource.TheVariants.{DefaultValue, CommandLine}
use Rattle.clap.specs.Facts.{parser_of_value}
use Rattle.clap.specs.Faults.{bundle_fault, bundle_step_fault, default_fault, defaults_fault, fault_of, flag_word_fault, flags_fault, level_fault, long_fault, option_fault, other_fault, positional_fault, react_fault, set_fault, settle_fault, short_fault, step_fault, stray_fault, turn_fault, use_fault, values_fault, walk_fault, word_fault, action_fault}
use Rattle.clap.specs.Kinds.{Kinds, or_else, request_kinds, value_kinds, values_kinds}
use Rattle.clap.specs.Lexer.{long_of, short_of}
use Rattle.clap.specs.Simple.{App, Shape, argument_words, built, matches_of, names_of}
use Rattle.clap.specs.Values.{read_as}
use Rattle.clap.specs.Walk.{Held, Names, Outcome, Row, Rule, Step, Text, Waiting, Walk, action_of, after_flag, after_step, arg_by_id, arg_by_index, arg_by_long, arg_by_short, at_row, attached_value, bundle, bundle_met, bundle_step, default_rows, done, finished, flag_met, has_row, idle, is_empty, is_pending, long_met, long_or_other, more_values, next, nothing_held, one_of, option, option_met, option_word, plain, plain_word, positional, reacted, reading_by, refused, row_text, settled, settled_rows, short_met, short_or_plain, subcommand, subcommand_met, subcommand_or_other, takes_several, takes_values, to_positional, trailing, used, used_as, used_by_id, value, values_or_missing, waits, walk, walk_from, walked, walked_from, with_default, with_values, without, word_met}

-- the values of an argument pass its parser, and are read as it says
abbrev Passes : Rule → List Text → Reading → Type 0
Passes a values how = (values_fault a values ≡ []) × (how ≡ reading_by a)

abbrev RowPasses : List Rule → Row → Type 0
RowPasses c r = (a : Rule) → arg_by_id c r.id ≡ Some a → Passes a r.values r.reading

-- what was found for each argument passes
abbrev pub RowsPass : List Rule → List Row → Type 0
RowsPass c [] = Unit {0}
RowsPass c (r ∷ rs) = RowPasses c r × RowsPass c rs

-- an argument that is the one of its id, and is set or asks for help
abbrev pub IsOwn : List Rule → Rule → Type 0
IsOwn c a = (arg_by_id c a.id ≡ Some a) × ((action_of a ≡ Set) ⊎ (action_of a ≡ Help))

abbrev pub AllOwn : List Rule → List Rule → Type 0
AllOwn c [] = Unit {0}
AllOwn c (a ∷ more) = IsOwn c a × AllOwn c more

-- each argument that is found is such a one
abbrev Owns : List Rule → Type 0
Owns c = (test : Rule → Bool) (a : Rule) → find test c ≡ Some a → IsOwn c a

own_if : (c : List Rule) (b : Bool) (r a : Rule) (o : Option Rule) → IsOwn c r → (o ≡ Some a → IsOwn c a) → cond b (Some r) o ≡ Some a → IsOwn c a
own_if c true r a o own rest e = let same : r ≡ a = cc in subst (IsOwn c) same own
own_if c false r a o own rest e = rest e

found_own : (c rules : List Rule) → AllOwn c rules → (test : Rule → Bool) (a : Rule) → find test rules ≡ Some a → IsOwn c a
found_own c [] all test a e = absurd (cc)
found_own c (r ∷ rs) all test a e = own_if c (test r) r a (find test rs) all.0 (found_own c rs all.1 test a) e

-- ---- no fault in two steps, and in each

both_none : (a b : Kinds) → or_else a b ≡ [] → (a ≡ []) × (b ≡ [])
both_none [] b e = (refl, e)
both_none (k ∷ ks) b e = absurd (cc)

pass_append : (i : Bool) (p : ValueParser) (xs ys : List Text) → values_kinds i p xs ≡ [] → values_kinds i p ys ≡ [] → values_kinds i p (xs ++ ys) ≡ []
pass_append i p [] ys a b = b
pass_append i p (x ∷ xs) ys a b =
    let parts = both_none (value_kinds i p x) (values_kinds i p xs) a in
    ap (λ ks. or_else ks (values_kinds i p (xs ++ ys))) parts.0 ∙ pass_append i p xs ys parts.1 b

-- ---- changes of rows

rows_append : (c : List Rule) (xs ys : List Row) → RowsPass c xs → RowsPass c ys → RowsPass c (xs ++ ys)
rows_append c [] ys h k = k
rows_append c (x ∷ xs) ys h k = (h.0, rows_append c xs ys h.1 k)

rows_if : (c : List Rule) (b : Bool) (xs ys : List Row) → (b ≡ true → RowsPass c xs) → RowsPass c ys → RowsPass c (cond b xs ys)
rows_if c true xs ys h k = h refl
rows_if c false xs ys h k = k

rows_change : (c : List Rule) (id : Text) (change : Row → List Row) (missing rows : List Row) → RowsPass c missing → ((r : Row) → r.id ≡ id → RowPasses c r → RowsPass c (change r)) → RowsPass c rows
    → RowsPass c (at_row id change missing rows)
rows_change c id change missing [] m f h = m
rows_change c id change missing (r ∷ rs) m f h =
    rows_if c (bytes_eq r.id id) (change r ++ rs) (r ∷ at_row id change missing rs)
    (λ e. rows_append c (change r) rs (f r ((bytes_eq-Decides r.id id).0 e) h.0) h.1)
    (h.0, rows_change c id change missing rs m f h.1)

rows_without : (c : List Rule) (id : Text) (rows : List Row) → RowsPass c rows → RowsPass c (without id rows)
rows_without c id rows h = rows_change c id (λ _. []) [] rows tt (λ r e p. tt) h

rows_with : (c : List Rule) (id : Text) (how : Reading) (s : ValueSource) (values : List Text) (rows : List Row) → ((a : Rule) → arg_by_id c id ≡ Some a → Passes a values how) → RowsPass c rows
    → RowsPass c (with_values id how s values rows)
rows_with c id how s values rows p h =
    rows_change c id (more_values s values) _ rows (p, tt)
    (λ r e q. (
      (λ a found.
          let new = p a (subst (λ x. arg_by_id c x ≡ Some a) e found) in
          let old = q a found in
          (pass_append a.ignore_case (parser_of_value a.parser) r.values values old.0 new.0, old.1)),
      tt,
    )) h

-- an argument of the id of an argument is that argument
passes_own : (c : List Rule) (a : Rule) (values : List Text) → arg_by_id c a.id ≡ Some a → values_fault a values ≡ [] → (b : Rule) → arg_by_id c a.id ≡ Some b → Passes b values (reading_by a)
passes_own c a values own p b found =
    let some : Some a ≡ Some b = sym own ∙ found in
    let same : a ≡ b = cc in
    subst (λ x. Passes x values (reading_by a)) same (p, refl)

rows_used : (c : List Rule) (again : Bool) (a : Rule) (values : List Text) (rows : List Row) → IsOwn c a → use_fault again a values rows ≡ [] → RowsPass c rows → RowsPass c (used a values rows)
rows_used c again a values rows own e h = elim own.1 [
  | inl set ↦
      let fault : set_fault again a (values_or_missing a values) rows ≡ [] = subst (λ x. action_fault x again a (values_or_missing a values) rows ≡ []) set (both_none _ _ e).1 in
      subst (λ x. RowsPass c (used_as x a.id (reading_by a) (values_or_missing a values) rows)) (sym set)
      (rows_with c a.id (reading_by a) CommandLine (values_or_missing a values) (without a.id rows)
      (passes_own c a (values_or_missing a values) own.0 (both_none _ _ fault).1) (rows_without c a.id rows h))
  | inr help ↦ subst (λ x. RowsPass c (used_as x a.id (reading_by a) (values_or_missing a values) rows)) (sym help) h
]

rows_by_id : (c : List Rule) (again : Bool) (o : Option Rule) (values : List Text) (rows : List Row) → ((a : Rule) → o ≡ Some a → IsOwn c a) → option_map_or (λ a. use_fault again a values rows) o [] ≡ []
    → RowsPass c rows → RowsPass c (used_by_id o values rows)
rows_by_id c again None values rows own e h = h
rows_by_id c again (Some a) values rows own e h = rows_used c again a values rows (own a refl) e h

rows_settled_at : (c : List Rule) (again : Bool) (pending : Option (Text × List Text)) (rows : List Row) → Owns c
    → option_map_or (λ p. option_map_or (λ a. use_fault again a p.1 rows) (arg_by_id c p.0) []) pending [] ≡ [] → RowsPass c rows → RowsPass c (settled_rows c pending rows)
rows_settled_at c again None rows own e h = h
rows_settled_at c again (Some p) rows own e h = rows_by_id c again (arg_by_id c p.0) p.1 rows (own (λ a. bytes_eq a.id p.0)) e h

rows_settled : (c : List Rule) (again : Bool) (h : Held) → Owns c → settle_fault c again h ≡ [] → RowsPass c h.rows → RowsPass c (settled c h).rows
rows_settled c again h own e k = rows_settled_at c again h.pending h.rows own e k

rows_reacted : (c : List Rule) (again : Bool) (a : Rule) (values : List Text) (h : Held) → Owns c → IsOwn c a → react_fault c again a values h ≡ [] → RowsPass c h.rows
    → RowsPass c (reacted c a values h).rows
rows_reacted c again a values h owns own e k =
    let parts = both_none (settle_fault c again h) (use_fault again a values (settled c h).rows) e in
    rows_used c again a values (settled c h).rows own parts.1 (rows_settled c again h owns parts.0 k)

-- ---- a word

rows_option : (c : List Rule) (again : Bool) (a : Rule) (v : Option Text) (h : Held) → Owns c → IsOwn c a → option_fault c again a v h ≡ [] → RowsPass c h.rows → RowsPass c (option_met c a v h).0.rows
rows_option c again a (Some v) h owns own e k = rows_reacted c again a (v ∷ []) h owns own e k
rows_option c again a None h owns own e k = rows_settled c again h owns e k

rows_long_at : (c : List Rule) (again b : Bool) (a : Rule) (v : Option Text) (h : Held) (refusal : Kinds) → Owns c → IsOwn c a
    → cond b (option_fault c again a v h) (cond (is_some v) refusal (react_fault c again a [] h)) ≡ [] → RowsPass c h.rows → RowsPass c (cond b (option_met c a v h) (flag_met c a v h)).0.rows
rows_long_at c again true a v h refusal owns own e k = rows_option c again a v h owns own e k
rows_long_at c again false a (Some v) h refusal owns own e k = k
rows_long_at c again false a None h refusal owns own e k = rows_reacted c again a [] h owns own e k

rows_long : (c : List Rule) (again : Bool) (o : Option Rule) (v : Option Text) (h : Held) → Owns c → ((a : Rule) → o ≡ Some a → IsOwn c a) → long_fault c again o v h ≡ [] → RowsPass c h.rows
    → RowsPass c (long_met c o v h).0.rows
rows_long c again None v h owns own e k = k
rows_long c again (Some a) v h owns own e k = rows_long_at c again (takes_values a) a v h _ owns (own a refl) e k

rows_short_at : (c : List Rule) (again b : Bool) (a : Rule) (v : Option Text) (h : Held) (fault : Held → Kinds) (met : Held → Held × Outcome) → Owns c → IsOwn c a
    → ((g : Held) → fault g ≡ [] → RowsPass c g.rows → RowsPass c (met g).0.rows)
    → cond b (option_fault c again a v h) (or_else (react_fault c again a [] h) (fault (reacted c a [] h))) ≡ [] → RowsPass c h.rows
    → RowsPass c (cond b (option_met c a v h) (met (reacted c a [] h))).0.rows
rows_short_at c again true a v h fault met owns own f e k = rows_option c again a v h owns own e k
rows_short_at c again false a v h fault met owns own f e k =
    let parts = both_none (react_fault c again a [] h) (fault (reacted c a [] h)) e in
    f (reacted c a [] h) parts.1 (rows_reacted c again a [] h owns own parts.0 k)

rows_short : (c : List Rule) (again : Bool) (o : Option Rule) (rest : Text) (h : Held) (fault : Held → Kinds) (met : Held → Held × Outcome) → Owns c → ((a : Rule) → o ≡ Some a → IsOwn c a)
    → ((g : Held) → fault g ≡ [] → RowsPass c g.rows → RowsPass c (met g).0.rows) → short_fault c again o rest h fault ≡ [] → RowsPass c h.rows → RowsPass c (short_met c o rest h met).0.rows
rows_short c again None rest h fault met owns own f e k = k
rows_short c again (Some a) rest h fault met owns own f e k = rows_short_at c again (takes_values a) a (attached_value rest) h fault met owns (own a refl) f e k

rows_bundle_step : (c : List Rule) (again : Bool) (o : Option ℕ) (flags : Text) (skip : ℕ) (so_far : Outcome) (h : Held) (fault : Text → ℕ → Held → Kinds)
    (met : Text → ℕ → Outcome → Held → Held × Outcome) → Owns c → ((fs : Text) (k : ℕ) (s : Outcome) (g : Held) → fault fs k g ≡ [] → RowsPass c g.rows → RowsPass c (met fs k s g).0.rows)
    → bundle_step_fault c again o flags skip h fault ≡ [] → RowsPass c h.rows → RowsPass c (bundle_step c o flags skip so_far h met).0.rows
rows_bundle_step c again None flags skip so_far h fault met owns f e k = k
rows_bundle_step c again (Some x) flags zero so_far h fault met owns f e k =
    let rest = drop (length (encode_utf8 x)) flags in
    rows_short c again (arg_by_short c x) rest h (fault rest 0) (met rest 0 done) owns (owns _) (λ g. f rest 0 done g) e k
rows_bundle_step c again (Some x) flags (suc skip) so_far h fault met owns f e k = f (drop (length (encode_utf8 x)) flags) skip so_far h e k

rows_flags : (c : List Rule) (again : Bool) (n : ℕ) (flags : Text) (skip : ℕ) (so_far : Outcome) (h : Held) → Owns c → flags_fault c again n flags skip h ≡ [] → RowsPass c h.rows
    → RowsPass c (bundle_met c n flags skip so_far h).0.rows
unfolding flags_fault bundle_met
rows_flags c again zero flags skip so_far h owns e k = k
rows_flags c again (suc n) flags skip so_far h owns e k =
    rows_bundle_step c again (slice_get (chars flags) 0) flags skip so_far h (flags_fault c again n) (bundle_met c n) owns (λ fs j s g. rows_flags c again n fs j s g owns) e k

rows_bundle : (c : List Rule) (again : Bool) (flags : Text) (h : Held) → Owns c → bundle_fault c again flags h ≡ [] → RowsPass c h.rows → RowsPass c (bundle c flags h).0.rows
rows_bundle c again flags h owns e k = rows_flags c again (length flags) flags h.skip plain (record h { skip = 0 }) owns e k

rows_option_word : (c : List Rule) (o : Option Rule) (id word : Text) (h : Held) → RowsPass c h.rows → RowsPass c (option_word o id word h).0.rows
rows_option_word c None id word h k = k
rows_option_word c (Some a) id word h k = k

rows_plain : (c : List Rule) (waiting : Waiting) (word : Text) (h : Held) → RowsPass c h.rows → RowsPass c (plain_word c waiting word h).0.rows
rows_plain c idle word h k = k
rows_plain c (option id) word h k = rows_option_word c (arg_by_id c id) id word h k
rows_plain c positional word h k = k

rows_after_flag : (c : List Rule) (waiting : Waiting) (word : Text) (h : Held) (o : Outcome) → RowsPass c h.rows → RowsPass c (after_flag c waiting word h o).0.rows
rows_after_flag c waiting word h done k = k
rows_after_flag c waiting word h (waits id) k = k
rows_after_flag c waiting word h plain k = rows_plain c waiting word h k
rows_after_flag c waiting word h refused k = rows_plain c waiting word h k

rows_short_word : (c : List Rule) (again : Bool) (waiting : Waiting) (word : Text) (o : Option Text) (h : Held) → Owns c → option_map_or (λ flags. bundle_fault c again flags h) o [] ≡ []
    → RowsPass c h.rows → RowsPass c (short_or_plain c waiting word o h).0.rows
rows_short_word c again waiting word None h owns e k = rows_plain c waiting word h k
rows_short_word c again waiting word (Some flags) h owns e k =
    rows_after_flag c waiting word (bundle c flags h).0 (bundle c flags h).1 (rows_bundle c again flags h owns e k)

rows_flag_word : (c : List Rule) (again : Bool) (waiting : Waiting) (word : Text) (o : Option (Text × Option Text)) (h : Held) → Owns c → flag_word_fault c again o word h ≡ [] → RowsPass c h.rows
    → RowsPass c (long_or_other c waiting word o h).0.rows
rows_flag_word c again waiting word None h owns e k = rows_short_word c again waiting word (short_of word) h owns e k
rows_flag_word c again waiting word (Some p) h owns e k =
    let met = long_met c (arg_by_long c p.0) p.1 h in
    rows_after_flag c waiting word met.0 met.1 (rows_long c again (arg_by_long c p.0) p.1 h owns (owns _) e k)

rows_other_at : (c : List Rule) (again b : Bool) (waiting : Waiting) (position : ℕ) (word : Text) (h : Held) → Owns c → cond b [] (flag_word_fault c again (long_of word) word h) ≡ []
    → RowsPass c h.rows → RowsPass c (cond b (h, trailing position) (long_or_other c waiting word (long_of word) h)).0.rows
rows_other_at c again true waiting position word h owns e k = k
rows_other_at c again false waiting position word h owns e k = rows_flag_word c again waiting word (long_of word) h owns e k

rows_other : (s : Shape) (name : Option Text) (waiting : Waiting) (position : ℕ) (word : Text) (h : Held) → Owns s.rules → other_fault s name word h ≡ [] → RowsPass s.rules h.rows
    → RowsPass s.rules (subcommand_or_other s.rules name waiting position word h).0.rows
rows_other s (Some name) waiting position word h owns e k = k
rows_other s None waiting position word h owns e k =
    rows_other_at s.rules s.args_override_self (bytes_eq word (45 ∷ 45 ∷ [])) waiting position word h owns e k

rows_word : (s : Shape) (names : Names) (is_trailing : Bool) (waiting : Waiting) (position : ℕ) (word : Text) (h : Held) → Owns s.rules → word_fault s names is_trailing waiting word h ≡ []
    → RowsPass s.rules h.rows → RowsPass s.rules (word_met s.rules names is_trailing waiting position word h).0.rows
rows_word s names true waiting position word h owns e k = k
rows_word s names false waiting position word h owns e k = rows_other s (subcommand_met names waiting word) waiting position word h owns e k

-- ---- the walk over the words

rows_positional_at : (c : List Rule) (again b : Bool) (h : Held) → Owns c → cond b [] (settle_fault c again h) ≡ [] → RowsPass c h.rows → RowsPass c (cond b h (settled c h)).rows
rows_positional_at c again true h owns e k = k
rows_positional_at c again false h owns e k = rows_settled c again h owns e k

rows_positional : (c : List Rule) (again : Bool) (o : Option Rule) (stray : Kinds) (word : Text) (w : Walk) (h : Held) → Owns c → option_map_or (λ a. positional_fault c again a h) o stray ≡ []
    → RowsPass c h.rows → RowsPass c (to_positional c o word w h).held.rows
rows_positional c again None stray word w h owns e k = k
rows_positional c again (Some a) stray word w h owns e k = rows_positional_at c again (is_pending a h.pending && takes_several a) h owns e k

rows_step : (s : Shape) (word : Text) (w : Walk) (h : Held) (step : Step) → Owns s.rules → step_fault s w.position h step ≡ [] → RowsPass s.rules h.rows
    → RowsPass s.rules (after_step s.rules word w h step).held.rows
rows_step s word w h (next waiting) owns e k = k
rows_step s word w h (trailing position) owns e k = k
rows_step s word w h (subcommand name) owns e k = k
rows_step s word w h value owns e k = rows_positional s.rules s.args_override_self (arg_by_index s.rules w.position) (stray_fault s) word w h owns e k

rows_turn : (s : Shape) (names : Names) (w : Walk) (word : Text) (stopped : Option (Text × List Text)) → Owns s.rules
    → (let met = word_met s.rules names w.is_trailing w.waiting w.position word w.held in
    cond (is_some stopped) [] (or_else (word_fault s names w.is_trailing w.waiting word w.held) (step_fault s w.position met.0 met.1))) ≡ []
    → RowsPass s.rules w.held.rows → RowsPass s.rules (walked_from s.rules names stopped w word).held.rows
rows_turn s names w word (Some p) owns e k = k
rows_turn s names w word None owns e k =
    let met = word_met s.rules names w.is_trailing w.waiting w.position word w.held in
    let parts = both_none (word_fault s names w.is_trailing w.waiting word w.held) (step_fault s w.position met.0 met.1) e in
    rows_step s word w met.0 met.1 owns parts.1 (rows_word s names w.is_trailing w.waiting w.position word w.held owns parts.0 k)

rows_walked : (s : Shape) (names : Names) (w : Walk) (word : Text) → Owns s.rules → turn_fault s names w word ≡ [] → RowsPass s.rules w.held.rows → RowsPass s.rules (walked s.rules names w word).held.rows
unfolding walked
rows_walked s names w word owns e k = rows_turn s names w word w.stopped owns e k

rows_walk : (s : Shape) (names : Names) (w : Walk) (words : List Text) → Owns s.rules → walk_fault s names w words ≡ [] → RowsPass s.rules w.held.rows
    → RowsPass s.rules (fold (walked s.rules names) w words).held.rows
unfolding walk_fault
rows_walk s names w [] owns e k = k
rows_walk s names w (word ∷ words) owns e k =
    let parts = both_none (turn_fault s names w word) (walk_fault s names (walked s.rules names w word) words) e in
    rows_walk s names (walked s.rules names w word) words owns parts.1 (rows_walked s names w word owns parts.0 k)

-- ---- the defaults

not_empty : (b : Bool) (kinds : Kinds) → b ≡ false → cond b [] kinds ≡ [] → kinds ≡ []
not_empty true kinds e h = absurd (cc)
not_empty false kinds e h = h

rows_default_at : (c : List Rule) (rows : List Row) (a : Rule) (b : Bool) (values : List Text) → IsOwn c a
    → cond (b || is_empty values) [] (or_else (request_kinds (action_of a)) (values_fault a values)) ≡ [] → RowsPass c rows
    → RowsPass c (cond b rows (default_rows a.id (reading_by a) values rows))
rows_default_at c rows a true values own e k = k
rows_default_at c rows a false [] own e k = k
rows_default_at c rows a false (v ∷ vs) own e k =
    let some = not_empty (is_empty (v ∷ vs)) _ (ne_eqb _ _ (λ z. omega arith)) e in
    rows_with c a.id (reading_by a) DefaultValue (v ∷ vs) rows (passes_own c a (v ∷ vs) own.0 (both_none _ _ some).1) k

rows_defaults : (c rules : List Rule) (rows : List Row) → AllOwn c rules → defaults_fault rows rules ≡ [] → RowsPass c rows → RowsPass c (fold with_default rows rules)
unfolding defaults_fault
rows_defaults c [] rows own e k = k
rows_defaults c (a ∷ more) rows own e k =
    let parts = both_none (default_fault rows a) (defaults_fault (with_default rows a) more) e in
    rows_defaults c more (with_default rows a) own.1 parts.1 (rows_default_at c rows a (has_row a.id rows) a.defaults own.0 parts.0 k)

-- ---- the matches

rows_level : (s : Shape) (names : Names) (words : List Text) (has_subcommand : Bool) (below : Kinds) → AllOwn s.rules s.rules → level_fault s names nothing_held words has_subcommand below ≡ []
    → RowsPass s.rules (finished s.rules (walk s.rules names nothing_held words).held)
rows_level s names words has_subcommand below own e =
    let owns = found_own s.rules s.rules own in
    let end = (walk s.rules names nothing_held words).held in
    let first = both_none (walk_fault s names (walk_from nothing_held) words) _ e in
    let second = both_none below _ first.1 in
    let third = both_none (settle_fault s.rules s.args_override_self end) _ second.1 in
    let fourth = both_none (defaults_fault (settled s.rules end).rows s.rules) _ third.1 in
    let at_end = rows_walk s names (walk_from nothing_held) words owns first.0 tt in
    rows_defaults s.rules s.rules (settled s.rules end).rows own fourth.0 (rows_settled s.rules s.args_override_self end owns third.0 at_end)

pub matches_pass : (a : App) (words : List Text) → AllOwn (built a).top.rules (built a).top.rules → fault_of a words ≡ [] → RowsPass (built a).top.rules (matches_of a words)
matches_pass a words own e = rows_level (built a).top (names_of (built a)) (argument_words a words) _ _ own e

-- ---- one text of the matches

row_if : (c : List Rule) (id : Text) (b : Bool) (x r : Row) (o : Option Row) → bytes_eq x.id id ≡ b → RowPasses c x → (o ≡ Some r → (r.id ≡ id) × RowPasses c r) → cond b (Some x) o ≡ Some r
    → (r.id ≡ id) × RowPasses c r
row_if c id true x r o is h rest e =
    let same : x ≡ r = cc in
    subst (λ y. (y.id ≡ id) × RowPasses c y) same ((bytes_eq-Decides x.id id).0 is, h)
row_if c id false x r o is h rest e = rest e

found_row : (c : List Rule) (id : Text) (rows : List Row) (r : Row) → RowsPass c rows → find (λ x. bytes_eq x.id id) rows ≡ Some r → (r.id ≡ id) × RowPasses c r
found_row c id [] r h e = absurd (cc)
found_row c id (x ∷ xs) r h e = row_if c id (bytes_eq x.id id) x r (find (λ y. bytes_eq y.id id) xs) refl h.0 (found_row c id xs r h.1) e

-- a text that passed the parser of an argument, and how it is read
pub record IsRead (a : Rule) (text : Text) : Type 0 where
  pub written : Text
  pub passes : value_kinds a.ignore_case (parser_of_value a.parser) written ≡ []
  pub is : text ≡ read_as (reading_by a) written

text_read : (a : Rule) (values : List Text) (how : Reading) (text : Text) → Passes a values how → option_map (read_as how) (slice_get values 0) ≡ Some text → IsRead a text
text_read a [] how text p e = absurd (cc)
text_read a (v ∷ vs) how text p e =
    let some : Some (read_as how v) ≡ Some text = e in
    let same : read_as how v ≡ text = cc in
    record { written = v; passes = (both_none _ _ p.0).0; is = sym same ∙ ap (λ h. read_as h v) p.1 }

pub one_read : (c : List Rule) (id : Text) (rows : List Row) (a : Rule) (text : Text) → RowsPass c rows → arg_by_id c id ≡ Some a → one_of id rows ≡ Some text → IsRead a text
one_read c id rows a text h found e = go (find (λ x. bytes_eq x.id id) rows) refl e
  where
    go : (o : Option Row) → find (λ x. bytes_eq x.id id) rows ≡ o → option_and_then row_text o ≡ Some text → IsRead a text
    go None is some = absurd (cc)
    go (Some r) is some =
        let row = found_row c id rows r h is in
        text_read a r.values r.reading text (row.1 a (subst (λ x. arg_by_id c x ≡ Some a) (sym row.0) found)) some
