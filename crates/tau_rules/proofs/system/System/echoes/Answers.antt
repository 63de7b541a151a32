use Rattle.std.proofs.Common.{◌↔◌, ◌∙◌, IsTrue, false, refl, sym, subst}
use Rattle.std.proofs.lemmas.Bool.{false≢true}
use Rattle.tau_tree.specs.declared.programs.Program.{Program}
use Rattle.tau_trace.specs.Run.{Run, len}
use Rattle.tau_legal.specs.Fits.{Echoes}
use Rattle.tau_rules.specs.System.{Core}
use Rattle.tau_rules.proofs.DeliverLemmas.{not_by_version, not_by_notice, not_by_sender, by_sender}
use Rattle.tau_rules.proofs.system.System.echoes.Goals as goal

pub returns-then-self-ne2 : goal.returns-then-self-ne2
returns-then-self-ne2 g c =
    let P : Program = c.self.inside.program.now in
    let T : Run = c.self.inside.trace.run in
    subst (λ (k : Core). IsTrue false ↔ Echoes k.program k.run c.args.message (len k.run)) c.self.view_is (not_by_version P T c.args.message (len T) false refl c.if-self-ne2.true)

pub returns-then-is_notice : goal.returns-then-is_notice
returns-then-is_notice g c =
    let P : Program = c.self.inside.program.now in
    let T : Run = c.self.inside.trace.run in
    subst (λ (k : Core). IsTrue false ↔ Echoes k.program k.run c.args.message (len k.run)) c.self.view_is (not_by_notice P T c.args.message (len T) false refl (c.is_notice.ensures.0 c.if-is_notice.true))

pub returns-in-Some : goal.returns-in-Some
returns-in-Some g c =
    let P : Program = c.self.inside.program.now in
    let T : Run = c.self.inside.trace.run in
    let b = c.is_none.result in
    subst (λ (k : Core). IsTrue b ↔ Echoes k.program k.run c.args.message (len k.run)) c.self.view_is
    (by_sender P T c.args.message c.in-Some.sender c.end_of.result b c.if-self-ne2.false (λ n. false≢true (sym c.if-is_notice.false ∙ c.is_notice.ensures.1 n)) c.in-Some.ensures c.end_of.ensures c.is_none.ensures)

pub returns-in-None : goal.returns-in-None
returns-in-None g c =
    let P : Program = c.self.inside.program.now in
    let T : Run = c.self.inside.trace.run in
    subst (λ (k : Core). IsTrue false ↔ Echoes k.program k.run c.args.message (len k.run)) c.self.view_is (not_by_sender P T c.args.message (len T) false refl c.in-None.ensures)
