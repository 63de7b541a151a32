use Rattle.std.proofs.Common.{◌≡◌, refl, subst, sym}
use Rattle.tau_view.specs.Entries.{entries_of}
use Rattle.tau_view.specs.Inner.Places.{IsAt, IsGap}
use Rattle.tau_view.specs.Stored.{AscendsFrom, history_in}
use Rattle.tau_view.specs.Rules.{noted_in}
use Rattle.tau_view.proofs.Entries.{put_in_place, put_in_gap}
use Rattle.tau_view.proofs.histories.put.Goals as goal

pub returns-in-Ok-clause-ascends : goal.returns-in-Ok-clause-ascends
returns-in-Ok-clause-ascends c =
    let at = subst (λ es. IsAt c.args.who (entries_of es) c.in-Ok.place) c.deref.ensures.value c.in-Ok.ensures.found in
    (put_in_place c.args.entries.now.items c.args.who c.in-Ok.place (record { who = c.args.who; history = c.args.history }) c.requires at refl).0

pub returns-in-Ok-clause-ok : goal.returns-in-Ok-clause-ok
returns-in-Ok-clause-ok c =
    let at = subst (λ es. IsAt c.args.who (entries_of es) c.in-Ok.place) c.deref.ensures.value c.in-Ok.ensures.found in
    (put_in_place c.args.entries.now.items c.args.who c.in-Ok.place (record { who = c.args.who; history = c.args.history }) c.requires at refl).1

pub returns-in_ok-insert-in-Err-clause-ascends : goal.returns-in_ok-insert-in-Err-clause-ascends
returns-in_ok-insert-in-Err-clause-ascends c =
    let gap = subst (λ es. IsGap c.args.who (entries_of es) c.in-Err.place) c.deref.ensures.value c.in-Err.ensures.gap in
    subst (λ es. AscendsFrom 0 (entries_of es)) (sym c.in_ok-insert-in-Err.ensures.items)
    (put_in_gap c.args.entries.now.items c.args.who c.in-Err.place (record { who = c.args.who; history = c.args.history }) c.requires gap refl).0

pub returns-in_ok-insert-in-Err-clause-ok : goal.returns-in_ok-insert-in-Err-clause-ok
returns-in_ok-insert-in-Err-clause-ok c =
    let gap = subst (λ es. IsGap c.args.who (entries_of es) c.in-Err.place) c.deref.ensures.value c.in-Err.ensures.gap in
    subst (λ es. history_in (entries_of es) ≡ noted_in c.args.who c.args.history.history (history_in (entries_of c.args.entries.now.items))) (sym c.in_ok-insert-in-Err.ensures.items)
    (put_in_gap c.args.entries.now.items c.args.who c.in-Err.place (record { who = c.args.who; history = c.args.history }) c.requires gap refl).1
