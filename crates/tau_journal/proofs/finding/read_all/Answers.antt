use Rattle.std.proofs.Common.{◌∙◌}
use Rattle.tau_journal.proofs.Reading.{nothing_yet, nothing_more, only_still}
use Rattle.tau_journal.proofs.finding.read_all.Goals as goal

pub returns-in_err-sync-clause-untouched : goal.returns-in_err-sync-clause-untouched
returns-in_err-sync-clause-untouched g c =
    let start = nothing_yet g.D.Disk.images g.D.Disk.moment g.D.Disk.left_since g.met.D.Disk.only_now c.args.disk.now in
    nothing_more g.D.Disk.images g.D.Disk.moment g.D.Disk.left_since g.met.D.Disk.only_now c.args.disk.now c.args.disk.now c.sync.new.self start c.sync.ensures.time c.sync.ensures.crash

pub returns-in_err-size-clause-untouched : goal.returns-in_err-size-clause-untouched
returns-in_err-size-clause-untouched g c =
    let start = nothing_yet g.D.Disk.images g.D.Disk.moment g.D.Disk.left_since g.met.D.Disk.only_now c.args.disk.now in
    let synced = nothing_more g.D.Disk.images g.D.Disk.moment g.D.Disk.left_since g.met.D.Disk.only_now c.args.disk.now c.args.disk.now c.sync.new.self start c.sync.ensures.time c.sync.ensures.crash in
    nothing_more g.D.Disk.images g.D.Disk.moment g.D.Disk.left_since g.met.D.Disk.only_now c.args.disk.now c.sync.new.self c.size.new.self synced c.size.ensures.time (λ e now. c.sync.ensures.crash e (c.size.ensures.crash e now))

pub returns-then-size-gt-MOST_BYTES-clause-untouched : goal.returns-then-size-gt-MOST_BYTES-clause-untouched
returns-then-size-gt-MOST_BYTES-clause-untouched g c =
    let start = nothing_yet g.D.Disk.images g.D.Disk.moment g.D.Disk.left_since g.met.D.Disk.only_now c.args.disk.now in
    let synced = nothing_more g.D.Disk.images g.D.Disk.moment g.D.Disk.left_since g.met.D.Disk.only_now c.args.disk.now c.args.disk.now c.sync.new.self start c.sync.ensures.time c.sync.ensures.crash in
    nothing_more g.D.Disk.images g.D.Disk.moment g.D.Disk.left_since g.met.D.Disk.only_now c.args.disk.now c.sync.new.self c.size.new.self synced c.size.ensures.time (λ e now. c.sync.ensures.crash e (c.size.ensures.crash e now))

pub returns-in_err-bytes-clause-untouched : goal.returns-in_err-bytes-clause-untouched
returns-in_err-bytes-clause-untouched g c =
    let start = nothing_yet g.D.Disk.images g.D.Disk.moment g.D.Disk.left_since g.met.D.Disk.only_now c.args.disk.now in
    let synced = nothing_more g.D.Disk.images g.D.Disk.moment g.D.Disk.left_since g.met.D.Disk.only_now c.args.disk.now c.args.disk.now c.sync.new.self start c.sync.ensures.time c.sync.ensures.crash in
    nothing_more g.D.Disk.images g.D.Disk.moment g.D.Disk.left_since g.met.D.Disk.only_now c.args.disk.now c.sync.new.self c.size.new.self synced c.size.ensures.time (λ e now. c.sync.ensures.crash e (c.size.ensures.crash e now))

pub returns-in_err-read_at-clause-untouched : goal.returns-in_err-read_at-clause-untouched
returns-in_err-read_at-clause-untouched g c =
    let start = nothing_yet g.D.Disk.images g.D.Disk.moment g.D.Disk.left_since g.met.D.Disk.only_now c.args.disk.now in
    let synced = nothing_more g.D.Disk.images g.D.Disk.moment g.D.Disk.left_since g.met.D.Disk.only_now c.args.disk.now c.args.disk.now c.sync.new.self start c.sync.ensures.time c.sync.ensures.crash in
    let sized = nothing_more g.D.Disk.images g.D.Disk.moment g.D.Disk.left_since g.met.D.Disk.only_now c.args.disk.now c.sync.new.self c.size.new.self synced c.size.ensures.time (λ e now. c.sync.ensures.crash e (c.size.ensures.crash e now)) in
    nothing_more g.D.Disk.images g.D.Disk.moment g.D.Disk.left_since g.met.D.Disk.only_now c.args.disk.now c.size.new.self c.read_at.new.self sized c.read_at.ensures.time (λ e now. c.sync.ensures.crash e (c.size.ensures.crash e (c.read_at.ensures.crash e now)))

pub returns-clause-untouched : goal.returns-clause-untouched
returns-clause-untouched g c =
    let start = nothing_yet g.D.Disk.images g.D.Disk.moment g.D.Disk.left_since g.met.D.Disk.only_now c.args.disk.now in
    let synced = nothing_more g.D.Disk.images g.D.Disk.moment g.D.Disk.left_since g.met.D.Disk.only_now c.args.disk.now c.args.disk.now c.sync.new.self start c.sync.ensures.time c.sync.ensures.crash in
    let sized = nothing_more g.D.Disk.images g.D.Disk.moment g.D.Disk.left_since g.met.D.Disk.only_now c.args.disk.now c.sync.new.self c.size.new.self synced c.size.ensures.time (λ e now. c.sync.ensures.crash e (c.size.ensures.crash e now)) in
    nothing_more g.D.Disk.images g.D.Disk.moment g.D.Disk.left_since g.met.D.Disk.only_now c.args.disk.now c.size.new.self c.read_at.new.self sized c.read_at.ensures.time (λ e now. c.sync.ensures.crash e (c.size.ensures.crash e (c.read_at.ensures.crash e now)))

pub returns-clause-only : goal.returns-clause-only
returns-clause-only g c =
    only_still (g.D.Disk.bytes c.args.disk.now) (g.D.Disk.bytes c.read_at.new.self) (g.D.Disk.images c.sync.new.self) (g.D.Disk.images c.read_at.new.self)
    (c.read_at.ensures.same ∙ (c.size.ensures.same ∙ c.sync.ensures.same)) (λ e now. c.size.ensures.crash e (c.read_at.ensures.crash e now)) c.in_ok-sync.ensures.durable
