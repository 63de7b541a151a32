use Rattle.std.proofs.lemmas.Result.{on_ok_weaker}
use Rattle.tau_sexpr.specs.Form.{tree_of}
use Rattle.tau_forms.specs.declared.programs.TopForm.TheVariants as forms
use Rattle.tau_forms.proofs.BuildingLemmas.{built_more, nothing_more}
use Rattle.tau_forms.proofs.programs.Draft.add.Goals as goal

pub returns-in-Behaviour : goal.returns-in-Behaviour
returns-in-Behaviour c = on_ok_weaker c.add_behaviour.result (λ e before h. built_more c.args.tables.now before (tree_of c.args.form.now) c.args.self.now _ (forms.Behaviour c.in-Behaviour.name c.in-Behaviour.body) h (c.in-Behaviour.ensures c.args.tables.now) e (nothing_more _) (nothing_more _) (nothing_more _)) c.add_behaviour.ensures

pub returns-in-Start : goal.returns-in-Start
returns-in-Start c = on_ok_weaker c.add_start.result (λ e before h. built_more c.args.tables.now before (tree_of c.args.form.now) c.args.self.now _ (forms.Start c.in-Start.parts) h (c.in-Start.ensures c.args.tables.now) (nothing_more _) e (nothing_more _) (nothing_more _)) c.add_start.ensures

pub returns-in-Post : goal.returns-in-Post
returns-in-Post c = on_ok_weaker c.add_post.result (λ e before h. built_more c.args.tables.now before (tree_of c.args.form.now) c.args.self.now _ (forms.Post c.in-Post.parts) h (c.in-Post.ensures c.args.tables.now) (nothing_more _) (nothing_more _) e (nothing_more _)) c.add_post.ensures

pub returns-in-At : goal.returns-in-At
returns-in-At c = on_ok_weaker c.add_entry.result (λ e before h. built_more c.args.tables.now before (tree_of c.args.form.now) c.args.self.now _ (forms.At c.in-At.parts) h (c.in-At.ensures c.args.tables.now) (nothing_more _) (nothing_more _) (nothing_more _) e) c.add_entry.ensures

pub returns-in-Other : goal.returns-in-Other
returns-in-Other c = λ before h. built_more c.args.tables.now before (tree_of c.args.form.now) c.args.self.now _ forms.Other h (c.in-Other.ensures c.args.tables.now) (nothing_more _) (nothing_more _) (nothing_more _) (nothing_more _)
