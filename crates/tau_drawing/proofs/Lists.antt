-- Lines of the items of a list, one item after another.
use Rattle.std.proofs.Common.{◌≡◌, ◌∙◌, ℕ, ◌+◌, ◌<◌, List, [], length, get_or, take, None, false, sym, ap, subst}
use Rattle.std.specs.List.{flat_map}
use Rattle.std.proofs.lemmas.List.{take_more, flat_map_more}
use Rattle.tau_svg.specs.Markup.Lines.{Line, with_lines}
use Rattle.tau_scene.specs.declared.looks.looks.Seen.{Seen}
use Rattle.tau_scene.specs.declared.looks.kinds.StateLook.TheVariants as states
use Rattle.tau_svg.proofs.LineLemmas.{lines_joined}
use Rattle.tau_svg.specs.Shapes.Each.{EachItem, Writes}
use Rattle.tau_svg.proofs.Writing.{items_next}

pub lines_more : {A : Type 0} (f : A → List Line) (xs : List A) (k : ℕ) (d : A) (out old new : List ℕ) → k < length xs → old ≡ with_lines out (flat_map f (take k xs)) → new ≡ with_lines old (f (get_or xs k d)) → new ≡ with_lines out (flat_map f (take (k + 1) xs))
lines_more f xs k d out old new lt before one =
    one ∙ ap (λ w. with_lines w (f (get_or xs k d))) before
    ∙ sym (lines_joined out (flat_map f (take k xs)) (f (get_or xs k d)))
    ∙ ap (with_lines out) (flat_map_more f [] (take k xs) (get_or xs k d))
    ∙ ap (λ ys. with_lines out (flat_map f ys)) (sym (take_more xs k d lt))

-- with the lines of one more item
pub item_next : {A : Type 0} (P : A → List Line → Type 0) (xs : List A) (k : ℕ) (d : A) (out old new : List ℕ) → k < length xs → Writes (EachItem P (take k xs)) out old → Writes (P (get_or xs k d)) old new → Writes (EachItem P (take (k + 1) xs)) out new
item_next {A = A} P xs k d out old new lt w one = subst (λ (l : List A). Writes (EachItem P l) out new) (sym (take_more xs k d lt)) (items_next P (take k xs) (get_or xs k d) out old new w one)

abbrev pub any_seen : Seen
any_seen = record {
  state = record { point = record { who = 0; interval = 0; incarnation = 0 }; begin = 0; end = None; stable = None; made = false };
  look = states.Fallen;
}
