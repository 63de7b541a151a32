use Rattle.std.proofs.Common.{◌≡◌, ◌<◌, length, codes, refl, sym, ap, ◌∙◌, subst, arith}
use Rattle.std.proofs.lemmas.Result.{IfOk-weaker}
use Rattle.tau_text.specs.Errors.{TellsInputFault}
use Rattle.tau_text.specs.Faults.{PartsFault, MarkedFault, no_trace, in_parts}
use Rattle.tau_text.specs.Meaning.{MeansRun, MeansMarkedRun}
use Rattle.tau_text.specs.Parts.{before}
use Rattle.tau_text.proofs.AnswerLemmas.{same_more}
use Rattle.tau_text.proofs.PartLemmas.{before_le, marked_below, unmarked_all}
use Rattle.tau_text.proofs.parts.marked_text.Goals as goal

pub returns-then-mark-len-clause-fault : goal.returns-then-mark-len-clause-fault
returns-then-mark-len-clause-fault c =
    let forms = c.args.forms.now in
    let told : c.place_of_mark-mark.result ≡ length (before (codes "trace") forms) = c.place_of_mark-mark.ensures ∙ ap (λ ts. length (before (codes "trace") ts)) c.items.ensures in
    let all : c.place_of_mark-mark.result ≡ length forms = c.if-mark-len.true ∙ c.len.ensures in
    subst (TellsInputFault (MarkedFault forms)) (sym c.at.ensures) (no_trace (unmarked_all (codes "trace") forms (sym told ∙ all)) refl all)

pub read_parts-requires-clause-marked : goal.read_parts-requires-clause-marked
read_parts-requires-clause-marked c =
    let forms = c.args.forms.now in
    let told : c.place_of_mark-mark.result ≡ length (before (codes "trace") forms) = c.place_of_mark-mark.ensures ∙ ap (λ ts. length (before (codes "trace") ts)) c.items.ensures in
    omega (arith, told, before_le (codes "trace") forms, c.len.ensures, c.if-mark-len.false)

pub returns-clause-means : goal.returns-clause-means
returns-clause-means c =
    let forms = c.args.forms.now in
    let told : c.place_of_mark-mark.result ≡ length (before (codes "trace") forms) = c.place_of_mark-mark.ensures ∙ ap (λ ts. length (before (codes "trace") ts)) c.items.ensures in
    let below : length (before (codes "trace") forms) < length forms = omega (arith, told, before_le (codes "trace") forms, c.len.ensures, c.if-mark-len.false) in
    IfOk-weaker c.read_parts.result (λ r. MeansRun forms r.program r.trace.run) (λ r. MeansMarkedRun forms r.program r.trace.run) (λ r m. (marked_below (codes "trace") forms below, m)) c.read_parts.ensures.means

pub returns-clause-fault : goal.returns-clause-fault
returns-clause-fault c =
    let forms = c.args.forms.now in
    let told : c.place_of_mark-mark.result ≡ length (before (codes "trace") forms) = c.place_of_mark-mark.ensures ∙ ap (λ ts. length (before (codes "trace") ts)) c.items.ensures in
    let below : length (before (codes "trace") forms) < length forms = omega (arith, told, before_le (codes "trace") forms, c.len.ensures, c.if-mark-len.false) in
    same_more (PartsFault forms) (MarkedFault forms) c.read_parts.result (λ a b h. in_parts (marked_below (codes "trace") forms below) h) c.read_parts.ensures.fault
