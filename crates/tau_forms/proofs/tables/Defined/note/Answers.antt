use Rattle.std.proofs.Common.{refl}
use Rattle.std.proofs.lemmas.Result.{on_ok_weaker}
use Rattle.tau_sexpr.specs.Form.{tree_of}
use Rattle.tau_forms.specs.declared.tables.Definition.TheVariants as definitions
use Rattle.tau_forms.proofs.DefinedLemmas.{defined_more, or_none, same_second}
use Rattle.tau_forms.proofs.tables.Defined.note.Goals as goal

pub returns-in-Behaviour : goal.returns-in-Behaviour
returns-in-Behaviour c =
    let d = c.args.self.now in
    on_ok_weaker c.add.result (λ e before h. defined_more before (tree_of c.args.form.now) d _ (definitions.Behaviour c.in-Behaviour.name) h c.in-Behaviour.ensures e refl (or_none d.nodes) (or_none d.version) (same_second d.second)) c.add.ensures

pub returns-in-Start : goal.returns-in-Start
returns-in-Start c =
    let d = c.args.self.now in
    on_ok_weaker c.add-in-Start.result (λ e before h. defined_more before (tree_of c.args.form.now) d _ (definitions.Start c.in-Start.name) h c.in-Start.ensures refl e (or_none d.nodes) (or_none d.version) (same_second d.second)) c.add-in-Start.ensures

pub returns-in-Nodes : goal.returns-in-Nodes
returns-in-Nodes c =
    let d = c.args.self.now in
    λ before h. defined_more before (tree_of c.args.form.now) d _ (definitions.Nodes c.in-Nodes.nodes) h c.in-Nodes.ensures refl refl c.first_told-self.ensures (or_none d.version) (same_second d.second)

pub returns-in-Version : goal.returns-in-Version
returns-in-Version c =
    let d = c.args.self.now in
    λ before h. defined_more before (tree_of c.args.form.now) d _ (definitions.Version c.in-Version.version) h c.in-Version.ensures refl refl (or_none d.nodes) c.first_told-self-in-Version.ensures c.or_two-self.ensures

pub returns-in-Nothing : goal.returns-in-Nothing
returns-in-Nothing c =
    let d = c.args.self.now in
    λ before h. defined_more before (tree_of c.args.form.now) d _ definitions.Nothing h c.in-Nothing.ensures refl refl (or_none d.nodes) (or_none d.version) (same_second d.second)
