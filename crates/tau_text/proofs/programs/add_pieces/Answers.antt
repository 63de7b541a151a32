use Rattle.std.proofs.Common.{◌≡◌, ◌++◌, [], ◌∷◌, map, rules, arith, sym, ap, ◌∙◌, subst, append_assoc, append-nil}
use Rattle.std.proofs.lemmas.List.{nil_from_length}
use Rattle.std.proofs.lemmas.Result.{err_from_is_err_and}
use Rattle.tau_sexpr.specs.Form.{tree_of}
use Rattle.tau_sexpr.specs.Tree.{Tree}
use Rattle.tau_forms.specs.Readings.{HasTaken}
use Rattle.tau_text.specs.Inner.Surveyed.{joined}
use Rattle.tau_text.proofs.SurveyLemmas.{joined_more, piece_next}
use Rattle.tau_text.proofs.programs.add_pieces.Goals as goal

pub loop-forms-init : goal.loop-forms-init
loop-forms-init c = record {
  done = [];
  is = search rules;
  taken = λ ts before after is taken. subst (λ us. HasTaken ts us c.args.builder.now) (sym (append-nil before)) taken;
}

pub add-requires : goal.add-requires
add-requires c =
    let i = c.loop-forms.invariant in
    let r = c.requires in
    let rest = c.next.new.self.rest.items in
    let next : i.done ++ map tree_of c.items.result.now ∷ rest ≡ c.args.pieces.items = search rules in
    record {
      ts = r.ts;
      before = r.before ++ joined i.done;
      after = joined rest ++ r.after;
      is = piece_next c.args.pieces.items i.done rest (map tree_of c.items.result.now) r.before r.after r.ts next r.is;
      taken = i.taken r.ts r.before r.after r.is r.taken;
    }

pub returns-in_err-add-clause-fault : goal.returns-in_err-add-clause-fault
returns-in_err-add-clause-fault c =
    let i = c.loop-forms.invariant in
    let rest = c.next.new.self.rest.items in
    let fs = map tree_of c.items.result.now in
    let next : i.done ++ fs ∷ rest ≡ c.args.pieces.items = search rules in
    let p = err_from_is_err_and c.from_residual.result c.from_residual.ensures.1 in
    rw (p.1, p.2)
    (λ ts before after is h.
    c.in_err-add.ensures.fault ts (before ++ joined i.done) (joined rest ++ after) (piece_next c.args.pieces.items i.done rest fs before after ts next is) (i.taken ts before after is h))

pub loop-forms-preserved : goal.loop-forms-preserved
loop-forms-preserved c =
    let i = c.loop-forms.invariant in
    let rest = c.next.new.self.rest.items in
    let fs = map tree_of c.items.result.now in
    let next : i.done ++ fs ∷ rest ≡ c.args.pieces.items = search rules in
    record {
      done = i.done ++ fs ∷ [];
      is = append_assoc i.done (fs ∷ []) rest ∙ next;
      taken = λ ts before after is taken.
          let there = piece_next c.args.pieces.items i.done rest fs before after ts next is in
          let more = c.in_ok-add.ensures.taken ts (before ++ joined i.done) (joined rest ++ after) there (i.taken ts before after is taken) in
          subst (λ us. HasTaken ts us c.add.new.self) (append_assoc before (joined i.done) fs ∙ ap (λ us. before ++ us) (sym (joined_more i.done fs))) more;
    }

pub returns-clause-taken : goal.returns-clause-taken
returns-clause-taken c ts before after is taken =
    let i = c.loop-forms.invariant in
    let rest = c.loop-forms.forms-iterator.rest in
    let none : rest.items ≡ [] = nil_from_length rest.items (omega (arith, c.in-None.ensures.steps.0, rest.ok.0)) in
    let all = sym (append-nil i.done) ∙ ap (λ ps. i.done ++ ps) (sym none) ∙ i.is in
    subst (λ ps. HasTaken ts (before ++ joined ps) c.loop-forms.builder) all (i.taken ts before after is taken)
