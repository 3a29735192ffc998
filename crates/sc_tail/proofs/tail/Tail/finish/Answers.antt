use Rattle.std.proofs.Common.{◌+◌, sym, subst, arith}
use Rattle.sc_files.specs.States.{LeavesOnly}
use Rattle.sc_tail.specs.Files.{OpensToEither}
use Rattle.sc_tail.specs.Tails.{bodies_of, staged_of}
use Rattle.sc_tail.proofs.HalfLemmas.{opening_begins, mark_has_room, mark_opens, mark_fails, mark_lost, moments_end, mark_ends}
use Rattle.sc_tail.proofs.TailLemmas.{half_of, tail_of_half, still_half, staged_whole, whole_opens, length-frames}
use Rattle.sc_tail.proofs.tail.Tail.finish.Goals as goal

pub write-requires : goal.write-requires
write-requires g c =
    let tail = c.args.self.now in
    let bodies = bodies_of tail in
    let start = g.F.LogFile.state tail.file in
    let h = half_of start tail.end tail.half bodies (staged_of tail) _ c.unwrap-len.ensures c.requires.sound in
    let o0 = opening_begins bodies h.body start h.fits (omega (arith, h.room, h.len)) h.seen h.crash h.kept (λ x left. g.met.F.LogFile.only_now tail.file x left) in
    mark_has_room bodies h.body start start _ o0 h.end

pub returns-in_err-write-clause-sound : goal.returns-in_err-write-clause-sound
returns-in_err-write-clause-sound g c =
    let tail = c.args.self.now in
    let bodies = bodies_of tail in
    let start = g.F.LogFile.state tail.file in
    let h = half_of start tail.end tail.half bodies (staged_of tail) _ c.unwrap-len.ensures c.requires.sound in
    let o0 = opening_begins bodies h.body start h.fits (omega (arith, h.room, h.len)) h.seen h.crash h.kept (λ x left. g.met.F.LogFile.only_now tail.file x left) in
    let failed = mark_fails bodies h.body start start _ _ o0 h.end c.in_err-write.ensures.torn in
    tail_of_half _ tail.end tail.half bodies (staged_of tail) _ c.unwrap-len.ensures (still_half start _ tail.end _ bodies (staged_of tail) h.body failed h.staged h.len h.room h.end)

pub returns-in_err-write-clause-any_moment : goal.returns-in_err-write-clause-any_moment
returns-in_err-write-clause-any_moment g c =
    let tail = c.args.self.now in
    let bodies = bodies_of tail in
    let start = g.F.LogFile.state tail.file in
    let h = half_of start tail.end tail.half bodies (staged_of tail) _ c.unwrap-len.ensures c.requires.sound in
    let o0 = opening_begins bodies h.body start h.fits (omega (arith, h.room, h.len)) h.seen h.crash h.kept (λ x left. g.met.F.LogFile.only_now tail.file x left) in
    subst (λ all. LeavesOnly start (g.F.LogFile.state c.write.new.self) (OpensToEither bodies all)) (sym h.staged) ((mark_fails bodies h.body start start (g.F.LogFile.state c.write.new.self) _ o0 h.end c.in_err-write.ensures.torn).moments)

pub returns-in_err-sync-clause-sound : goal.returns-in_err-sync-clause-sound
returns-in_err-sync-clause-sound g c =
    let tail = c.args.self.now in
    let bodies = bodies_of tail in
    let start = g.F.LogFile.state tail.file in
    let h = half_of start tail.end tail.half bodies (staged_of tail) _ c.unwrap-len.ensures c.requires.sound in
    let o0 = opening_begins bodies h.body start h.fits (omega (arith, h.room, h.len)) h.seen h.crash h.kept (λ x left. g.met.F.LogFile.only_now tail.file x left) in
    let o1 = mark_opens bodies h.body start start _ _ o0 h.end c.in_ok-write.ensures.written in
    let failed = mark_lost bodies h.body start _ _ o1 c.in_err-sync.ensures.failed in
    tail_of_half _ tail.end tail.half bodies (staged_of tail) _ c.unwrap-len.ensures (still_half start _ tail.end _ bodies (staged_of tail) h.body failed h.staged h.len h.room h.end)

pub returns-in_err-sync-clause-any_moment : goal.returns-in_err-sync-clause-any_moment
returns-in_err-sync-clause-any_moment g c =
    let tail = c.args.self.now in
    let bodies = bodies_of tail in
    let start = g.F.LogFile.state tail.file in
    let h = half_of start tail.end tail.half bodies (staged_of tail) _ c.unwrap-len.ensures c.requires.sound in
    let o0 = opening_begins bodies h.body start h.fits (omega (arith, h.room, h.len)) h.seen h.crash h.kept (λ x left. g.met.F.LogFile.only_now tail.file x left) in
    let o1 = mark_opens bodies h.body start start (g.F.LogFile.state c.write.new.self) _ o0 h.end c.in_ok-write.ensures.written in
    subst (λ all. LeavesOnly start (g.F.LogFile.state c.sync.new.self) (OpensToEither bodies all)) (sym h.staged) ((mark_lost bodies h.body start _ (g.F.LogFile.state c.sync.new.self) o1 c.in_err-sync.ensures.failed).moments)

pub returns-clause-any_moment : goal.returns-clause-any_moment
returns-clause-any_moment g c =
    let tail = c.args.self.now in
    let bodies = bodies_of tail in
    let start = g.F.LogFile.state tail.file in
    let h = half_of start tail.end tail.half bodies (staged_of tail) _ c.unwrap-len.ensures c.requires.sound in
    let o0 = opening_begins bodies h.body start h.fits (omega (arith, h.room, h.len)) h.seen h.crash h.kept (λ x left. g.met.F.LogFile.only_now tail.file x left) in
    let o1 = mark_opens bodies h.body start start (g.F.LogFile.state c.write.new.self) _ o0 h.end c.in_ok-write.ensures.written in
    subst (λ all. LeavesOnly start (g.F.LogFile.state c.sync.new.self) (OpensToEither bodies all)) (sym h.staged) (moments_end bodies h.body start _ (g.F.LogFile.state c.sync.new.self) o1 c.in_ok-sync.ensures.durable)

pub returns-clause-crash : goal.returns-clause-crash
returns-clause-crash g c =
    let tail = c.args.self.now in
    let bodies = bodies_of tail in
    let start = g.F.LogFile.state tail.file in
    let h = half_of start tail.end tail.half bodies (staged_of tail) _ c.unwrap-len.ensures c.requires.sound in
    let o0 = opening_begins bodies h.body start h.fits (omega (arith, h.room, h.len)) h.seen h.crash h.kept (λ x left. g.met.F.LogFile.only_now tail.file x left) in
    let o1 = mark_opens bodies h.body start start (g.F.LogFile.state c.write.new.self) _ o0 h.end c.in_ok-write.ensures.written in
    let file = g.F.LogFile.state c.sync.new.self in
    let whole = staged_whole file (tail.end + (9 + c.unwrap-len.result)) bodies (staged_of tail) h.body h.staged
    (mark_ends bodies h.body start (g.F.LogFile.state c.write.new.self) file (tail.end + (9 + c.unwrap-len.result)) o1 c.in_ok-sync.ensures.durable (omega (arith, h.end, h.len, length-frames bodies h.body))) in
    whole_opens file (tail.end + (9 + c.unwrap-len.result)) (staged_of tail) whole

pub returns-clause-sound : goal.returns-clause-sound
returns-clause-sound g c =
    let tail = c.args.self.now in
    let bodies = bodies_of tail in
    let start = g.F.LogFile.state tail.file in
    let h = half_of start tail.end tail.half bodies (staged_of tail) _ c.unwrap-len.ensures c.requires.sound in
    let o0 = opening_begins bodies h.body start h.fits (omega (arith, h.room, h.len)) h.seen h.crash h.kept (λ x left. g.met.F.LogFile.only_now tail.file x left) in
    let o1 = mark_opens bodies h.body start start (g.F.LogFile.state c.write.new.self) _ o0 h.end c.in_ok-write.ensures.written in
    let file = g.F.LogFile.state c.sync.new.self in
    let whole = staged_whole file (tail.end + (9 + c.unwrap-len.result)) bodies (staged_of tail) h.body h.staged
    (mark_ends bodies h.body start (g.F.LogFile.state c.write.new.self) file (tail.end + (9 + c.unwrap-len.result)) o1 c.in_ok-sync.ensures.durable (omega (arith, h.end, h.len, length-frames bodies h.body))) in
    rw c.replace-self.ensures.value whole
