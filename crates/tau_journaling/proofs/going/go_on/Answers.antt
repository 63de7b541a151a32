use Rattle.std.proofs.Common.{inr, refl, ◌∙◌, arith, rules}
use Rattle.tau_journal.specs.Gates.{gate_of}
use Rattle.tau_journaling.proofs.Onward.{begins_itself, goes_nowhere, goes_further, risen_later}
use Rattle.tau_journaling.proofs.Between.{leaves_itself, leaves_more, stands_more, no_room_more}
use Rattle.tau_journaling.proofs.going.go_on.Goals as goal

pub loop-init : goal.loop-init
loop-init g c =
    let first = c.args.book.now in
    record {
      jobs = c.requires.jobs;
      rest = c.requires.rest;
      grows = goes_nowhere first;
      size = refl;
      works = λ seed start w. w;
      stands = λ at. at;
      within = λ small. small;
      any_moment = λ at.
          leaves_itself g.D.Disk.images g.D.Disk.moment g.D.Disk.left_since first.system.program g.met.D.Disk.only_now first.system.run first.system.run (begins_itself first.system.run) c.args.disk.now (g.D.Disk.bytes c.args.disk.now) (gate_of c.args.journal) at c.requires.rest;
      never_falls = omega arith;
      steps = omega arith;
    }

pub keep_next-requires-clause-jobs : goal.keep_next-requires-clause-jobs
keep_next-requires-clause-jobs g c = c.loop.invariant.jobs

pub keep_next-requires-clause-rest : goal.keep_next-requires-clause-rest
keep_next-requires-clause-rest g c = c.loop.invariant.rest

pub returns-in_err-kept-clause-grows : goal.returns-in_err-kept-clause-grows
returns-in_err-kept-clause-grows g c = goes_further c.args.book.now c.loop.book c.keep_next.new.book c.loop.invariant.grows c.in_err-kept.ensures.grows

pub returns-in_err-kept-clause-size : goal.returns-in_err-kept-clause-size
returns-in_err-kept-clause-size g c = c.in_err-kept.ensures.size ∙ c.loop.invariant.size

pub returns-in_err-kept-clause-any_moment : goal.returns-in_err-kept-clause-any_moment
returns-in_err-kept-clause-any_moment g c =
    let first = c.args.book.now in
    let before = c.loop.book in
    let after = c.keep_next.new.book in
    let so_far = c.loop.invariant in
    leaves_more g.D.Disk.images g.D.Disk.moment g.D.Disk.left_since first.system.program before.system.program so_far.grows.program first.system.run before.system.run after.system.run so_far.grows.begins c.in_err-kept.ensures.grows.begins
    c.args.disk.now c.loop.disk c.keep_next.new.disk (g.D.Disk.bytes c.args.disk.now) (g.D.Disk.bytes c.loop.disk) (gate_of c.args.journal) (gate_of c.loop.journal) so_far.stands so_far.any_moment c.in_err-kept.ensures.any_moment

pub returns-in_err-kept-clause-full : goal.returns-in_err-kept-clause-full
returns-in_err-kept-clause-full g c fault at is =
    let first = c.args.book.now in
    let before = c.loop.book in
    let after = c.keep_next.new.book in
    let so_far = c.loop.invariant in
    no_room_more first.system.program before.system.program so_far.grows.program first.system.run before.system.run after.system.run so_far.grows.begins
    (g.D.Disk.bytes c.args.disk.now) (g.D.Disk.bytes c.loop.disk) (g.D.Disk.bytes c.keep_next.new.disk) (gate_of c.args.journal) (gate_of c.loop.journal) at so_far.stands (c.in_err-kept.ensures.full fault at (search rules))

pub returns-in_err-kept-clause-unkept : goal.returns-in_err-kept-clause-unkept
returns-in_err-kept-clause-unkept g c fault at is seed start w = c.in_err-kept.ensures.unkept fault at (search rules) seed start (c.loop.invariant.works seed start w)

pub returns-in_err-kept-clause-disk_fault : goal.returns-in_err-kept-clause-disk_fault
returns-in_err-kept-clause-disk_fault g c is = risen_later _ _ _ c.loop.invariant.never_falls (c.in_err-kept.ensures.disk_fault (search rules))

pub returns-in_err-kept-clause-never_falls : goal.returns-in_err-kept-clause-never_falls
returns-in_err-kept-clause-never_falls g c = omega (arith, c.loop.invariant.never_falls, c.in_err-kept.ensures.never_falls)

pub returns-then-not-made-clause-grows : goal.returns-then-not-made-clause-grows
returns-then-not-made-clause-grows g c = goes_further c.args.book.now c.loop.book c.keep_next.new.book c.loop.invariant.grows c.in_ok-kept.ensures.grows

pub returns-then-not-made-clause-size : goal.returns-then-not-made-clause-size
returns-then-not-made-clause-size g c = c.in_ok-kept.ensures.size ∙ c.loop.invariant.size

pub returns-then-not-made-clause-works : goal.returns-then-not-made-clause-works
returns-then-not-made-clause-works g c seed start w = c.in_ok-kept.ensures.works seed start (c.loop.invariant.works seed start w)

pub returns-then-not-made-clause-stands : goal.returns-then-not-made-clause-stands
returns-then-not-made-clause-stands g c =
    let first = c.args.book.now in
    let before = c.loop.book in
    let after = c.keep_next.new.book in
    let so_far = c.loop.invariant in
    stands_more first.system.program before.system.program so_far.grows.program first.system.run before.system.run after.system.run
    (g.D.Disk.bytes c.args.disk.now) (g.D.Disk.bytes c.loop.disk) (g.D.Disk.bytes c.keep_next.new.disk) (gate_of c.args.journal) (gate_of c.loop.journal) (gate_of c.in_ok-kept.kept) so_far.stands c.in_ok-kept.ensures.stands

pub returns-then-not-made-clause-within : goal.returns-then-not-made-clause-within
returns-then-not-made-clause-within g c small = c.in_ok-kept.ensures.within (c.loop.invariant.within small)

pub returns-then-not-made-clause-any_moment : goal.returns-then-not-made-clause-any_moment
returns-then-not-made-clause-any_moment g c =
    let first = c.args.book.now in
    let before = c.loop.book in
    let after = c.keep_next.new.book in
    let so_far = c.loop.invariant in
    leaves_more g.D.Disk.images g.D.Disk.moment g.D.Disk.left_since first.system.program before.system.program so_far.grows.program first.system.run before.system.run after.system.run so_far.grows.begins c.in_ok-kept.ensures.grows.begins
    c.args.disk.now c.loop.disk c.keep_next.new.disk (g.D.Disk.bytes c.args.disk.now) (g.D.Disk.bytes c.loop.disk) (gate_of c.args.journal) (gate_of c.loop.journal) so_far.stands so_far.any_moment c.in_ok-kept.ensures.any_moment

pub returns-then-not-made-clause-never_falls : goal.returns-then-not-made-clause-never_falls
returns-then-not-made-clause-never_falls g c = omega (arith, c.loop.invariant.never_falls, c.in_ok-kept.ensures.never_falls)

pub loop-preserved : goal.loop-preserved
loop-preserved g c =
    let first = c.args.book.now in
    let before = c.loop.book in
    let after = c.keep_next.new.book in
    let so_far = c.loop.invariant in
    record {
      jobs = c.in_ok-kept.ensures.jobs;
      rest = c.in_ok-kept.ensures.rest;
      grows = goes_further first before after so_far.grows c.in_ok-kept.ensures.grows;
      size = c.in_ok-kept.ensures.size ∙ so_far.size;
      works = λ seed start w. c.in_ok-kept.ensures.works seed start (so_far.works seed start w);
      stands =
          stands_more first.system.program before.system.program so_far.grows.program first.system.run before.system.run after.system.run
          (g.D.Disk.bytes c.args.disk.now) (g.D.Disk.bytes c.loop.disk) (g.D.Disk.bytes c.keep_next.new.disk) (gate_of c.args.journal) (gate_of c.loop.journal) (gate_of c.in_ok-kept.kept) so_far.stands c.in_ok-kept.ensures.stands;
      within = λ small. c.in_ok-kept.ensures.within (so_far.within small);
      any_moment =
          leaves_more g.D.Disk.images g.D.Disk.moment g.D.Disk.left_since first.system.program before.system.program so_far.grows.program first.system.run before.system.run after.system.run so_far.grows.begins c.in_ok-kept.ensures.grows.begins
          c.args.disk.now c.loop.disk c.keep_next.new.disk (g.D.Disk.bytes c.args.disk.now) (g.D.Disk.bytes c.loop.disk) (gate_of c.args.journal) (gate_of c.loop.journal) so_far.stands so_far.any_moment c.in_ok-kept.ensures.any_moment;
      never_falls = omega (arith, so_far.never_falls, c.in_ok-kept.ensures.never_falls);
      steps = omega (arith, so_far.steps, c.in_ok-kept.ensures.stepped (search rules));
    }

pub returns-clause-grows : goal.returns-clause-grows
returns-clause-grows g c = c.loop.invariant.grows

pub returns-clause-size : goal.returns-clause-size
returns-clause-size g c = c.loop.invariant.size

pub returns-clause-works : goal.returns-clause-works
returns-clause-works g c = c.loop.invariant.works

pub returns-clause-rest : goal.returns-clause-rest
returns-clause-rest g c = c.loop.invariant.rest

pub returns-clause-stands : goal.returns-clause-stands
returns-clause-stands g c = c.loop.invariant.stands

pub returns-clause-within : goal.returns-clause-within
returns-clause-within g c = c.loop.invariant.within

pub returns-clause-any_moment : goal.returns-clause-any_moment
returns-clause-any_moment g c = c.loop.invariant.any_moment

pub returns-clause-never_falls : goal.returns-clause-never_falls
returns-clause-never_falls g c = c.loop.invariant.never_falls

pub returns-clause-finished : goal.returns-clause-finished
returns-clause-finished g c =
    inr (omega (arith, c.loop.invariant.steps, c.loop-test.false, c.system-system.ensures.book.limited, c.loop.invariant.grows.limit, c.limit-end.ensures))
