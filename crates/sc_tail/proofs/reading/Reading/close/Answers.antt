use Rattle.sc_tail.proofs.ClosingLemmas.{was_shut, close_writes, close_syncs, close_loses, is_closed}
use Rattle.sc_tail.proofs.reading.Reading.close.Goals as goal

pub returns-then-not-branch-clause-whole : goal.returns-then-not-branch-clause-whole
returns-then-not-branch-clause-whole g c =
    was_shut (g.F.LogFile.state c.args.file.now) c.args.self.now c.requires.reading c.requires.ended c.requires.some c.requires.fresh c.requires.durable (λ x left. g.met.F.LogFile.only_now c.args.file.now x left)
    (g.F.LogFile.state c.is_open.new.file) c.is_open.ensures.stays (c.in_ok-is_open.ensures.shut c.if-not-branch.true)

pub returns-in_err-write-clause-any_moment : goal.returns-in_err-write-clause-any_moment
returns-in_err-write-clause-any_moment g c =
    close_writes (g.F.LogFile.state c.args.file.now) c.args.self.now c.requires.reading c.requires.ended c.requires.some c.requires.fresh c.requires.durable (λ x left. g.met.F.LogFile.only_now c.args.file.now x left)
    (g.F.LogFile.state c.is_open.new.file) c.is_open.ensures.stays (c.in_ok-is_open.ensures.open c.if-not-branch.false) (g.F.LogFile.state c.write.new.self) _ c.in_err-write.ensures.torn

pub returns-in_err-sync-clause-any_moment : goal.returns-in_err-sync-clause-any_moment
returns-in_err-sync-clause-any_moment g c =
    close_loses (g.F.LogFile.state c.args.file.now) c.args.self.now c.requires.reading c.requires.ended c.requires.some c.requires.fresh c.requires.durable (λ x left. g.met.F.LogFile.only_now c.args.file.now x left)
    (g.F.LogFile.state c.is_open.new.file) c.is_open.ensures.stays (c.in_ok-is_open.ensures.open c.if-not-branch.false) (g.F.LogFile.state c.write.new.self) c.in_ok-write.ensures.written (g.F.LogFile.state c.sync.new.self) c.in_err-sync.ensures.failed

pub returns-clause-whole : goal.returns-clause-whole
returns-clause-whole g c =
    is_closed (g.F.LogFile.state c.args.file.now) c.args.self.now c.requires.reading c.requires.ended c.requires.some c.requires.fresh c.requires.durable (λ x left. g.met.F.LogFile.only_now c.args.file.now x left)
    (g.F.LogFile.state c.is_open.new.file) c.is_open.ensures.stays (c.in_ok-is_open.ensures.open c.if-not-branch.false) (g.F.LogFile.state c.write.new.self) c.in_ok-write.ensures.written (g.F.LogFile.state c.sync.new.self) c.in_ok-sync.ensures.durable

pub returns-clause-any_moment : goal.returns-clause-any_moment
returns-clause-any_moment g c =
    close_syncs (g.F.LogFile.state c.args.file.now) c.args.self.now c.requires.reading c.requires.ended c.requires.some c.requires.fresh c.requires.durable (λ x left. g.met.F.LogFile.only_now c.args.file.now x left)
    (g.F.LogFile.state c.is_open.new.file) c.is_open.ensures.stays (c.in_ok-is_open.ensures.open c.if-not-branch.false) (g.F.LogFile.state c.write.new.self) c.in_ok-write.ensures.written (g.F.LogFile.state c.sync.new.self) c.in_ok-sync.ensures.durable
