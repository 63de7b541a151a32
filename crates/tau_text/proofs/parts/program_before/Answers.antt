use Rattle.std.proofs.Common.{◌≡◌, ◌≤◌, map, take, length, codes, sym, ap, ◌∙◌, subst, arith}
use Rattle.std.proofs.lemmas.List.{take-map, length-map, length-take-le}
use Rattle.std.specs.Prelude.{IfOk, IfErr}
use Rattle.tau_sexpr.specs.Form.{tree_of}
use Rattle.tau_sexpr.specs.Tree.{depths}
use Rattle.tau_forms.specs.Meaning.{Means}
use Rattle.tau_text.specs.Errors.{TellsInputFault}
use Rattle.tau_text.specs.Faults.{ProgramFault}
use Rattle.tau_text.specs.Parts.{program_forms}
use Rattle.tau_text.proofs.PartLemmas.{before_le, before_taken, before_depth}
use Rattle.tau_text.proofs.parts.program_before.Goals as goal

pub slice_bounds-program_meant-end : goal.slice_bounds-program_meant-end
slice_bounds-program_meant-end c =
    let within : c.args.mark ≤ length c.items.result.now = omega (arith, c.requires.mark, before_le (codes "trace") c.args.forms.now, ap length c.items.ensures, length-map c.items.result.now tree_of) in
    sym (length-take-le c.args.mark c.items.result.now within)

pub program_meant-requires : goal.program_meant-requires
program_meant-requires c =
    let items = c.items.result.now in
    let front : map tree_of (take c.args.mark items) ≡ program_forms c.args.forms.now =
    sym (take-map tree_of c.args.mark items) ∙ ap (take c.args.mark) c.items.ensures ∙ ap (λ n. take n c.args.forms.now) c.requires.mark ∙ before_taken (codes "trace") c.args.forms.now in
    omega (arith, ap depths front, before_depth (codes "trace") c.args.forms.now, c.requires.depth)

pub returns-clause-program : goal.returns-clause-program
returns-clause-program c =
    let items = c.items.result.now in
    let front : map tree_of (take c.args.mark items) ≡ program_forms c.args.forms.now =
    sym (take-map tree_of c.args.mark items) ∙ ap (take c.args.mark) c.items.ensures ∙ ap (λ n. take n c.args.forms.now) c.requires.mark ∙ before_taken (codes "trace") c.args.forms.now in
    subst (λ ts. IfOk c.program_meant.result (Means ts)) front c.program_meant.ensures.program

pub returns-clause-fault : goal.returns-clause-fault
returns-clause-fault c =
    let items = c.items.result.now in
    let front : map tree_of (take c.args.mark items) ≡ program_forms c.args.forms.now =
    sym (take-map tree_of c.args.mark items) ∙ ap (take c.args.mark) c.items.ensures ∙ ap (λ n. take n c.args.forms.now) c.requires.mark ∙ before_taken (codes "trace") c.args.forms.now in
    subst (λ ts. IfErr c.program_meant.result (TellsInputFault (ProgramFault ts))) front c.program_meant.ensures.fault
