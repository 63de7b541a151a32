use Rattle.std.proofs.Common.{Option, sym, subst}
use Rattle.std.specs.Prelude.{slice_get}
use Rattle.std.proofs.lemmas.Result.{IfOk-weaker}
use Rattle.tau_scene.specs.declared.notes.keeping.Kept.{Kept}
use Rattle.tau_scene.specs.Notes.Inner.Keeping.{IsEndingOf}
use Rattle.tau_scene.proofs.notes.endings.ending.Goals as goal

pub returns-in-Some : goal.returns-in-Some
returns-in-Some c =
    let start = slice_get c.args.starts.now c.args.who in
    IfOk-weaker c.kept_ending.result _ _ (λ e told. subst (λ (o : Option Kept). IsEndingOf c.args.names.now o start e) (sym c.in-Some.is) (told start)) c.kept_ending.ensures
