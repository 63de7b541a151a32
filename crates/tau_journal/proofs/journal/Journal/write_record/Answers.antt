use Rattle.std.proofs.Common.{◌+◌, ◌<◌, ℕ, List, [], ◌∷◌, ◌++◌, Option, length, refl, sym, ◌∙◌, subst, arith}
use Rattle.std.specs.Prelude.{◌^◌}
use Rattle.tau_journal.specs.Disk.Bytes.{Writes, Only}
use Rattle.tau_journal.proofs.Appending.{begun, behind, after_sync, staged_is, opened, has_one_more, gate_fits, at_rest_after}
use Rattle.tau_journal.proofs.journal.Journal.write_record.Goals as goal

pub returns-in_err-body-clause-any_moment : goal.returns-in_err-body-clause-any_moment
returns-in_err-body-clause-any_moment g c rs told =
    let start = begun g.D.Disk.bytes g.D.Disk.images g.D.Disk.moment g.D.Disk.left_since g.met.D.Disk.only_now c.args.self.gate c.args.entry.now rs c.args.disk.now told c.requires.rest in
    start.0

pub returns-in_err-write_at-clause-any_moment : goal.returns-in_err-write_at-clause-any_moment
returns-in_err-write_at-clause-any_moment g c rs told =
    let few : length c.args.entry.now < 2 ^ 32 = omega (arith, c.requires.small) in
    let start = begun g.D.Disk.bytes g.D.Disk.images g.D.Disk.moment g.D.Disk.left_since g.met.D.Disk.only_now c.args.self.gate c.args.entry.now rs c.args.disk.now told c.requires.rest in
    let wrote = behind g.D.Disk.bytes g.D.Disk.images g.D.Disk.moment g.D.Disk.left_since g.met.D.Disk.only_now c.args.self.gate c.args.entry.now rs c.args.disk.now told c.requires.rest c.args.disk.now c.write_at.new.self (length c.deref.result.now) start c.write_at.ensures.time c.write_at.ensures.crash few in
    wrote.0

pub returns-in_err-sync-clause-any_moment : goal.returns-in_err-sync-clause-any_moment
returns-in_err-sync-clause-any_moment g c rs told =
    let few : length c.args.entry.now < 2 ^ 32 = omega (arith, c.requires.small) in
    let start = begun g.D.Disk.bytes g.D.Disk.images g.D.Disk.moment g.D.Disk.left_since g.met.D.Disk.only_now c.args.self.gate c.args.entry.now rs c.args.disk.now told c.requires.rest in
    let wrote = behind g.D.Disk.bytes g.D.Disk.images g.D.Disk.moment g.D.Disk.left_since g.met.D.Disk.only_now c.args.self.gate c.args.entry.now rs c.args.disk.now told c.requires.rest c.args.disk.now c.write_at.new.self (length c.deref.result.now) start c.write_at.ensures.time c.write_at.ensures.crash few in
    let synced = after_sync g.D.Disk.bytes g.D.Disk.images g.D.Disk.moment g.D.Disk.left_since g.met.D.Disk.only_now c.args.self.gate c.args.entry.now rs c.args.disk.now told c.requires.rest c.write_at.new.self c.sync.new.self wrote c.sync.ensures.time c.sync.ensures.crash in
    synced.0

pub returns-in_err-write_at-2-clause-any_moment : goal.returns-in_err-write_at-2-clause-any_moment
returns-in_err-write_at-2-clause-any_moment g c rs told =
    let few : length c.args.entry.now < 2 ^ 32 = omega (arith, c.requires.small) in
    let start = begun g.D.Disk.bytes g.D.Disk.images g.D.Disk.moment g.D.Disk.left_since g.met.D.Disk.only_now c.args.self.gate c.args.entry.now rs c.args.disk.now told c.requires.rest in
    let wrote = behind g.D.Disk.bytes g.D.Disk.images g.D.Disk.moment g.D.Disk.left_since g.met.D.Disk.only_now c.args.self.gate c.args.entry.now rs c.args.disk.now told c.requires.rest c.args.disk.now c.write_at.new.self (length c.deref.result.now) start c.write_at.ensures.time c.write_at.ensures.crash few in
    let synced = after_sync g.D.Disk.bytes g.D.Disk.images g.D.Disk.moment g.D.Disk.left_since g.met.D.Disk.only_now c.args.self.gate c.args.entry.now rs c.args.disk.now told c.requires.rest c.write_at.new.self c.sync.new.self wrote c.sync.ensures.time c.sync.ensures.crash in
    let is = staged_is g.D.Disk.bytes g.D.Disk.images g.D.Disk.moment g.D.Disk.left_since g.met.D.Disk.only_now c.args.self.gate c.args.entry.now rs c.args.disk.now told c.requires.rest c.args.disk.now c.write_at.new.self refl (subst (λ l. Writes (g.D.Disk.bytes c.args.disk.now) (c.args.self.gate + 1) l (g.D.Disk.bytes c.write_at.new.self)) (c.deref.ensures.value ∙ c.in_ok-body.ensures) c.in_ok-write_at.ensures.written) few in
    let gated = opened g.D.Disk.bytes g.D.Disk.images g.D.Disk.moment g.D.Disk.left_since g.met.D.Disk.only_now c.args.self.gate c.args.entry.now rs c.args.disk.now told c.requires.rest c.write_at.new.self c.sync.new.self c.write_at-2.new.self synced is c.in_ok-sync.ensures.durable c.write_at-2.ensures.time c.write_at-2.ensures.crash few in
    gated.0

pub returns-in_err-sync-2-clause-any_moment : goal.returns-in_err-sync-2-clause-any_moment
returns-in_err-sync-2-clause-any_moment g c rs told =
    let few : length c.args.entry.now < 2 ^ 32 = omega (arith, c.requires.small) in
    let start = begun g.D.Disk.bytes g.D.Disk.images g.D.Disk.moment g.D.Disk.left_since g.met.D.Disk.only_now c.args.self.gate c.args.entry.now rs c.args.disk.now told c.requires.rest in
    let wrote = behind g.D.Disk.bytes g.D.Disk.images g.D.Disk.moment g.D.Disk.left_since g.met.D.Disk.only_now c.args.self.gate c.args.entry.now rs c.args.disk.now told c.requires.rest c.args.disk.now c.write_at.new.self (length c.deref.result.now) start c.write_at.ensures.time c.write_at.ensures.crash few in
    let synced = after_sync g.D.Disk.bytes g.D.Disk.images g.D.Disk.moment g.D.Disk.left_since g.met.D.Disk.only_now c.args.self.gate c.args.entry.now rs c.args.disk.now told c.requires.rest c.write_at.new.self c.sync.new.self wrote c.sync.ensures.time c.sync.ensures.crash in
    let is = staged_is g.D.Disk.bytes g.D.Disk.images g.D.Disk.moment g.D.Disk.left_since g.met.D.Disk.only_now c.args.self.gate c.args.entry.now rs c.args.disk.now told c.requires.rest c.args.disk.now c.write_at.new.self refl (subst (λ l. Writes (g.D.Disk.bytes c.args.disk.now) (c.args.self.gate + 1) l (g.D.Disk.bytes c.write_at.new.self)) (c.deref.ensures.value ∙ c.in_ok-body.ensures) c.in_ok-write_at.ensures.written) few in
    let gated = opened g.D.Disk.bytes g.D.Disk.images g.D.Disk.moment g.D.Disk.left_since g.met.D.Disk.only_now c.args.self.gate c.args.entry.now rs c.args.disk.now told c.requires.rest c.write_at.new.self c.sync.new.self c.write_at-2.new.self synced is c.in_ok-sync.ensures.durable c.write_at-2.ensures.time c.write_at-2.ensures.crash few in
    let done = after_sync g.D.Disk.bytes g.D.Disk.images g.D.Disk.moment g.D.Disk.left_since g.met.D.Disk.only_now c.args.self.gate c.args.entry.now rs c.args.disk.now told c.requires.rest c.write_at-2.new.self c.sync-2.new.self gated c.sync-2.ensures.time c.sync-2.ensures.crash in
    done.0

pub returns-clause-any_moment : goal.returns-clause-any_moment
returns-clause-any_moment g c rs told =
    let few : length c.args.entry.now < 2 ^ 32 = omega (arith, c.requires.small) in
    let start = begun g.D.Disk.bytes g.D.Disk.images g.D.Disk.moment g.D.Disk.left_since g.met.D.Disk.only_now c.args.self.gate c.args.entry.now rs c.args.disk.now told c.requires.rest in
    let wrote = behind g.D.Disk.bytes g.D.Disk.images g.D.Disk.moment g.D.Disk.left_since g.met.D.Disk.only_now c.args.self.gate c.args.entry.now rs c.args.disk.now told c.requires.rest c.args.disk.now c.write_at.new.self (length c.deref.result.now) start c.write_at.ensures.time c.write_at.ensures.crash few in
    let synced = after_sync g.D.Disk.bytes g.D.Disk.images g.D.Disk.moment g.D.Disk.left_since g.met.D.Disk.only_now c.args.self.gate c.args.entry.now rs c.args.disk.now told c.requires.rest c.write_at.new.self c.sync.new.self wrote c.sync.ensures.time c.sync.ensures.crash in
    let is = staged_is g.D.Disk.bytes g.D.Disk.images g.D.Disk.moment g.D.Disk.left_since g.met.D.Disk.only_now c.args.self.gate c.args.entry.now rs c.args.disk.now told c.requires.rest c.args.disk.now c.write_at.new.self refl (subst (λ l. Writes (g.D.Disk.bytes c.args.disk.now) (c.args.self.gate + 1) l (g.D.Disk.bytes c.write_at.new.self)) (c.deref.ensures.value ∙ c.in_ok-body.ensures) c.in_ok-write_at.ensures.written) few in
    let gated = opened g.D.Disk.bytes g.D.Disk.images g.D.Disk.moment g.D.Disk.left_since g.met.D.Disk.only_now c.args.self.gate c.args.entry.now rs c.args.disk.now told c.requires.rest c.write_at.new.self c.sync.new.self c.write_at-2.new.self synced is c.in_ok-sync.ensures.durable c.write_at-2.ensures.time c.write_at-2.ensures.crash few in
    let done = after_sync g.D.Disk.bytes g.D.Disk.images g.D.Disk.moment g.D.Disk.left_since g.met.D.Disk.only_now c.args.self.gate c.args.entry.now rs c.args.disk.now told c.requires.rest c.write_at-2.new.self c.sync-2.new.self gated c.sync-2.ensures.time c.sync-2.ensures.crash in
    done.0

pub returns-clause-appended : goal.returns-clause-appended
returns-clause-appended g c rs told =
    let few : length c.args.entry.now < 2 ^ 32 = omega (arith, c.requires.small) in
    let is = staged_is g.D.Disk.bytes g.D.Disk.images g.D.Disk.moment g.D.Disk.left_since g.met.D.Disk.only_now c.args.self.gate c.args.entry.now rs c.args.disk.now told c.requires.rest c.args.disk.now c.write_at.new.self refl (subst (λ l. Writes (g.D.Disk.bytes c.args.disk.now) (c.args.self.gate + 1) l (g.D.Disk.bytes c.write_at.new.self)) (c.deref.ensures.value ∙ c.in_ok-body.ensures) c.in_ok-write_at.ensures.written) few in
    has_one_more g.D.Disk.bytes g.D.Disk.images g.D.Disk.moment g.D.Disk.left_since g.met.D.Disk.only_now c.args.self.gate c.args.entry.now rs c.args.disk.now told c.requires.rest c.sync.new.self c.write_at-2.new.self c.sync-2.new.self (c.sync.ensures.same ∙ is) c.in_ok-write_at-2.ensures.written c.sync-2.ensures.same few

pub write_at-requires-2 : goal.write_at-requires-2
write_at-requires-2 g c =
    gate_fits (g.D.Disk.bytes c.args.disk.now) (g.D.Disk.bytes c.args.disk.now) (g.D.Disk.bytes c.write_at.new.self) (g.D.Disk.bytes c.sync.new.self) (g.D.Disk.images c.args.disk.now) c.args.self.gate c.deref.result.now c.requires.rest refl c.in_ok-write_at.ensures.written c.sync.ensures.same

pub returns-clause-rest : goal.returns-clause-rest
returns-clause-rest g c =
    let few : length c.args.entry.now < 2 ^ 32 = omega (arith, c.requires.small) in
    at_rest_after (g.D.Disk.bytes c.args.disk.now) (g.D.Disk.bytes c.args.disk.now) (g.D.Disk.bytes c.write_at.new.self) (g.D.Disk.bytes c.sync.new.self) (g.D.Disk.bytes c.write_at-2.new.self) (g.D.Disk.bytes c.sync-2.new.self) (g.D.Disk.images c.args.disk.now) (g.D.Disk.images c.sync-2.new.self) (c.args.self.gate + 1) c.args.self.gate c.args.self.gate _ c.deref.result.now (1 ∷ []) c.requires.rest refl c.in_ok-write_at.ensures.written c.sync.ensures.same c.in_ok-write_at-2.ensures.written c.sync-2.ensures.same
    (subst (λ (o : Option (List ℕ)). Only o (g.D.Disk.images c.sync-2.new.self)) (sym c.sync-2.ensures.same) c.in_ok-sync-2.ensures.durable)
    (λ rs told.
    let is = staged_is g.D.Disk.bytes g.D.Disk.images g.D.Disk.moment g.D.Disk.left_since g.met.D.Disk.only_now c.args.self.gate c.args.entry.now rs c.args.disk.now told c.requires.rest c.args.disk.now c.write_at.new.self refl (subst (λ l. Writes (g.D.Disk.bytes c.args.disk.now) (c.args.self.gate + 1) l (g.D.Disk.bytes c.write_at.new.self)) (c.deref.ensures.value ∙ c.in_ok-body.ensures) c.in_ok-write_at.ensures.written) few in
    (rs ++ c.args.entry.now ∷ [], has_one_more g.D.Disk.bytes g.D.Disk.images g.D.Disk.moment g.D.Disk.left_since g.met.D.Disk.only_now c.args.self.gate c.args.entry.now rs c.args.disk.now told c.requires.rest c.sync.new.self c.write_at-2.new.self c.sync-2.new.self (c.sync.ensures.same ∙ is) c.in_ok-write_at-2.ensures.written c.sync-2.ensures.same few))
