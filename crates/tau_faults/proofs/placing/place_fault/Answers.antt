use Rattle.std.proofs.Common.{◌≡◌, List, sym, subst, rules}
use Rattle.tau_tree.specs.declared.entries.Entry.{Entry}
use Rattle.tau_tree.specs.Sound.{Sound}
use Rattle.tau_faults.specs.Faults.{inserted}
use Rattle.tau_faults.proofs.PlacingLemmas.{sound_placed}
use Rattle.tau_faults.proofs.placing.place_fault.Goals as goal

pub returns-clause-sound : goal.returns-clause-sound
returns-clause-sound c =
    let P = c.args.program.now in
    let e : Entry = record { at = c.args.spot.place; failure = c.args.fault } in
    let is : c.replace.new.dest ≡ inserted P.script c.args.spot.entry e = search rules in
    subst (λ (S : List Entry). Sound (record P { script = S })) (sym is) (sound_placed P c.args.spot.entry e c.requires.sound c.requires.room c.requires.fault)
