use Rattle.std.proofs.Common.{◌≡◌, [], ◌∷◌, ◌++◌, None, sym, ap, ◌∙◌}
use Rattle.std.specs.Str.{bytes_eq}
use Rattle.indexmap.proofs.CallerLemmas.{insert_entry-new}
use Rattle.tau_value.specs.Places.{indexed, noted}
use Rattle.tau_value.proofs.NameLemmas.{lookup-push, none_from_test}
use Rattle.tau_value.proofs.name_list.note.Goals as goal

pub returns-clause-ok : goal.returns-clause-ok
returns-clause-ok c =
    λ v. let key = c.in_ok-key.key in
    let old = c.args.places.now in
    let word : key.items ≡ c.args.word.now = c.in_ok-key.ensures.items in
    let absent : indexed old.entries key.items ≡ None = rw word (none_from_test _ (sym c.contains_key.ensures ∙ c.if-contains_key.false)) in
    let entries : c.insert.new.self.entries ≡ old.entries ++ (key, c.args.place) ∷ [] = c.in_ok-insert.ensures.entries ∙ insert_entry-new (λ a b. bytes_eq a.items b.items) old key c.args.place absent in
    ap (λ es. indexed es v) entries ∙ lookup-push (λ k. bytes_eq v k.items) old.entries key c.args.place ∙ ap (λ w. noted (indexed old.entries v) w c.args.place v) word
