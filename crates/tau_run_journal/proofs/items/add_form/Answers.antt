use Rattle.std.proofs.Common.{◌≡◌, ◌++◌, [], ◌∷◌, List, map, ap, ◌∙◌, subst}
use Rattle.tau_sexpr.specs.Form.{tree_of}
use Rattle.tau_sexpr.specs.Tree.{Tree}
use Rattle.tau_trace.specs.Run.{Run}
use Rattle.tau_steps.specs.Meaning.{MeansSteps}
use Rattle.tau_steps.specs.Faults.{IsFault}
use Rattle.tau_run_journal.proofs.Steps.{next_of, none_next}
use Rattle.tau_run_journal.proofs.items.add_form.Goals as goal

pub returns-in-Ok : goal.returns-in-Ok
returns-in-Ok c f one =
    let T : Run = c.args.trace.now.run in
    let fs = c.requires.0 in
    let all : fs ++ map tree_of c.items.result.now ≡ fs ++ f ∷ [] = ap (λ (gs : List Tree). fs ++ gs) (c.items.ensures ∙ one) in
    next_of T fs c.requires.1 f c.add_steps.new.trace.run (subst (λ (gs : List Tree). MeansSteps T.opening gs c.add_steps.new.trace.run) all (c.in-Ok.ensures.steps T.opening fs c.requires.1))

pub returns-in-Err-Shape : goal.returns-in-Err-Shape
returns-in-Err-Shape c f one =
    let T : Run = c.args.trace.now.run in
    let fs = c.requires.0 in
    let is = c.in-Err-Shape.field-0-is in
    let all : fs ++ map tree_of c.items.result.now ≡ fs ++ f ∷ [] = ap (λ (gs : List Tree). fs ++ gs) (c.items.ensures ∙ one) in
    none_next T fs c.requires.1 f c.in-Err-Shape.field-0 (λ none. cc (is, none)) (subst (λ (gs : List Tree). IsFault T.opening gs c.in-Err-Shape.field-0) all (c.in-Err-Shape.ensures.fault T.opening fs c.requires.1))

pub returns-in-Err-Unknown : goal.returns-in-Err-Unknown
returns-in-Err-Unknown c f one =
    let T : Run = c.args.trace.now.run in
    let fs = c.requires.0 in
    let is = c.in-Err-Unknown.field-0-is in
    let all : fs ++ map tree_of c.items.result.now ≡ fs ++ f ∷ [] = ap (λ (gs : List Tree). fs ++ gs) (c.items.ensures ∙ one) in
    none_next T fs c.requires.1 f c.in-Err-Unknown.field-0 (λ none. cc (is, none)) (subst (λ (gs : List Tree). IsFault T.opening gs c.in-Err-Unknown.field-0) all (c.in-Err-Unknown.ensures.fault T.opening fs c.requires.1))
