use Rattle.std.proofs.Common.{ℕ, IfSome, [], subst, arith, length-append}
use Rattle.sc_files.specs.States.{AreAmong}
use Rattle.sc_tail.specs.Files.{Behind, IsShut}
use Rattle.sc_tail.specs.Tails.{bodies_of}
use Rattle.sc_tail.proofs.StagingLemmas.{staging_begins, still_whole, has_room, staging_goes_on, staging_fails, staging_lost, staging_ends, staged_durable, staged_is}
use Rattle.sc_tail.proofs.MomentLemmas.{on_err}
use Rattle.sc_tail.proofs.tail.Tail.stage.Goals as goal

pub write-requires : goal.write-requires
write-requires g c =
    let whole = c.requires.sound in
    let bodies = bodies_of c.args.self.now in
    let start = g.F.LogFile.state c.args.self.now.file in
    let s0 = staging_begins bodies start c.args.self.now.end whole (λ x left. g.met.F.LogFile.only_now c.args.self.now.file x left) in
    has_room bodies start start _ [] s0 (omega (arith, whole.end))

pub returns-in_err-write-clause-refused : goal.returns-in_err-write-clause-refused
returns-in_err-write-clause-refused g c =
    let whole = c.requires.sound in
    let bodies = bodies_of c.args.self.now in
    let start = g.F.LogFile.state c.args.self.now.file in
    let s0 = staging_begins bodies start c.args.self.now.end whole (λ x left. g.met.F.LogFile.only_now c.args.self.now.file x left) in
    on_err _ _ (still_whole bodies start _ _ [] (staging_fails bodies start _ _ _ _ [] s0 (omega (arith, whole.end)) c.in_err-write.ensures.torn) whole.end)

pub returns-in_err-write-clause-any_moment : goal.returns-in_err-write-clause-any_moment
returns-in_err-write-clause-any_moment g c =
    let whole = c.requires.sound in
    let bodies = bodies_of c.args.self.now in
    let start = g.F.LogFile.state c.args.self.now.file in
    let s0 = staging_begins bodies start c.args.self.now.end whole (λ x left. g.met.F.LogFile.only_now c.args.self.now.file x left) in
    (staging_fails bodies start _ _ _ _ [] s0 (omega (arith, whole.end)) c.in_err-write.ensures.torn).moments

pub write-requires-2 : goal.write-requires-2
write-requires-2 g c =
    let whole = c.requires.sound in
    let bodies = bodies_of c.args.self.now in
    let start = g.F.LogFile.state c.args.self.now.file in
    let s0 = staging_begins bodies start c.args.self.now.end whole (λ x left. g.met.F.LogFile.only_now c.args.self.now.file x left) in
    let s1 = staging_goes_on bodies start _ _ _ [] _ s0 (omega (arith, whole.end)) c.in_ok-write.ensures.written in
    has_room bodies start _ _ _ s1 (omega (arith, whole.end))

pub returns-in_err-write-2-clause-refused : goal.returns-in_err-write-2-clause-refused
returns-in_err-write-2-clause-refused g c =
    let whole = c.requires.sound in
    let bodies = bodies_of c.args.self.now in
    let start = g.F.LogFile.state c.args.self.now.file in
    let s0 = staging_begins bodies start c.args.self.now.end whole (λ x left. g.met.F.LogFile.only_now c.args.self.now.file x left) in
    let s1 = staging_goes_on bodies start _ _ _ [] _ s0 (omega (arith, whole.end)) c.in_ok-write.ensures.written in
    on_err _ _ (still_whole bodies start _ _ [] (staging_fails bodies start _ _ _ _ _ s1 (omega (arith, whole.end)) c.in_err-write-2.ensures.torn) whole.end)

pub returns-in_err-write-2-clause-any_moment : goal.returns-in_err-write-2-clause-any_moment
returns-in_err-write-2-clause-any_moment g c =
    let whole = c.requires.sound in
    let bodies = bodies_of c.args.self.now in
    let start = g.F.LogFile.state c.args.self.now.file in
    let s0 = staging_begins bodies start c.args.self.now.end whole (λ x left. g.met.F.LogFile.only_now c.args.self.now.file x left) in
    let s1 = staging_goes_on bodies start _ _ _ [] _ s0 (omega (arith, whole.end)) c.in_ok-write.ensures.written in
    (staging_fails bodies start _ _ _ _ _ s1 (omega (arith, whole.end)) c.in_err-write-2.ensures.torn).moments

pub write-requires-3 : goal.write-requires-3
write-requires-3 g c =
    let whole = c.requires.sound in
    let bodies = bodies_of c.args.self.now in
    let start = g.F.LogFile.state c.args.self.now.file in
    let s0 = staging_begins bodies start c.args.self.now.end whole (λ x left. g.met.F.LogFile.only_now c.args.self.now.file x left) in
    let s1 = staging_goes_on bodies start _ _ _ [] _ s0 (omega (arith, whole.end)) c.in_ok-write.ensures.written in
    let s2 = staging_goes_on bodies start _ _ _ _ _ s1 (omega (arith, whole.end)) c.in_ok-write-2.ensures.written in
    has_room bodies start _ _ _ s2 (omega (arith, whole.end, length-append {A = ℕ}))

pub returns-in_err-write-3-clause-refused : goal.returns-in_err-write-3-clause-refused
returns-in_err-write-3-clause-refused g c =
    let whole = c.requires.sound in
    let bodies = bodies_of c.args.self.now in
    let start = g.F.LogFile.state c.args.self.now.file in
    let s0 = staging_begins bodies start c.args.self.now.end whole (λ x left. g.met.F.LogFile.only_now c.args.self.now.file x left) in
    let s1 = staging_goes_on bodies start _ _ _ [] _ s0 (omega (arith, whole.end)) c.in_ok-write.ensures.written in
    let s2 = staging_goes_on bodies start _ _ _ _ _ s1 (omega (arith, whole.end)) c.in_ok-write-2.ensures.written in
    on_err _ _ (still_whole bodies start _ _ [] (staging_fails bodies start _ _ _ _ _ s2 (omega (arith, whole.end, length-append {A = ℕ})) c.in_err-write-3.ensures.torn) whole.end)

pub returns-in_err-write-3-clause-any_moment : goal.returns-in_err-write-3-clause-any_moment
returns-in_err-write-3-clause-any_moment g c =
    let whole = c.requires.sound in
    let bodies = bodies_of c.args.self.now in
    let start = g.F.LogFile.state c.args.self.now.file in
    let s0 = staging_begins bodies start c.args.self.now.end whole (λ x left. g.met.F.LogFile.only_now c.args.self.now.file x left) in
    let s1 = staging_goes_on bodies start _ _ _ [] _ s0 (omega (arith, whole.end)) c.in_ok-write.ensures.written in
    let s2 = staging_goes_on bodies start _ _ _ _ _ s1 (omega (arith, whole.end)) c.in_ok-write-2.ensures.written in
    (staging_fails bodies start _ _ _ _ _ s2 (omega (arith, whole.end, length-append {A = ℕ})) c.in_err-write-3.ensures.torn).moments

pub returns-in_err-sync-clause-refused : goal.returns-in_err-sync-clause-refused
returns-in_err-sync-clause-refused g c =
    let whole = c.requires.sound in
    let bodies = bodies_of c.args.self.now in
    let start = g.F.LogFile.state c.args.self.now.file in
    let s0 = staging_begins bodies start c.args.self.now.end whole (λ x left. g.met.F.LogFile.only_now c.args.self.now.file x left) in
    let s1 = staging_goes_on bodies start _ _ _ [] _ s0 (omega (arith, whole.end)) c.in_ok-write.ensures.written in
    let s2 = staging_goes_on bodies start _ _ _ _ _ s1 (omega (arith, whole.end)) c.in_ok-write-2.ensures.written in
    let s3 = staging_goes_on bodies start _ _ _ _ _ s2 (omega (arith, whole.end, length-append {A = ℕ})) c.in_ok-write-3.ensures.written in
    on_err _ _ (still_whole bodies start _ _ [] (staging_lost bodies start _ _ _ s3 c.in_err-sync.ensures.failed) whole.end)

pub returns-in_err-sync-clause-any_moment : goal.returns-in_err-sync-clause-any_moment
returns-in_err-sync-clause-any_moment g c =
    let whole = c.requires.sound in
    let bodies = bodies_of c.args.self.now in
    let start = g.F.LogFile.state c.args.self.now.file in
    let s0 = staging_begins bodies start c.args.self.now.end whole (λ x left. g.met.F.LogFile.only_now c.args.self.now.file x left) in
    let s1 = staging_goes_on bodies start _ _ _ [] _ s0 (omega (arith, whole.end)) c.in_ok-write.ensures.written in
    let s2 = staging_goes_on bodies start _ _ _ _ _ s1 (omega (arith, whole.end)) c.in_ok-write-2.ensures.written in
    let s3 = staging_goes_on bodies start _ _ _ _ _ s2 (omega (arith, whole.end, length-append {A = ℕ})) c.in_ok-write-3.ensures.written in
    (staging_lost bodies start _ _ _ s3 c.in_err-sync.ensures.failed).moments

pub returns-clause-any_moment : goal.returns-clause-any_moment
returns-clause-any_moment g c =
    let whole = c.requires.sound in
    let bodies = bodies_of c.args.self.now in
    let start = g.F.LogFile.state c.args.self.now.file in
    let s0 = staging_begins bodies start c.args.self.now.end whole (λ x left. g.met.F.LogFile.only_now c.args.self.now.file x left) in
    let s1 = staging_goes_on bodies start _ _ _ [] _ s0 (omega (arith, whole.end)) c.in_ok-write.ensures.written in
    let s2 = staging_goes_on bodies start _ _ _ _ _ s1 (omega (arith, whole.end)) c.in_ok-write-2.ensures.written in
    let s3 = staging_goes_on bodies start _ _ _ _ _ s2 (omega (arith, whole.end, length-append {A = ℕ})) c.in_ok-write-3.ensures.written in
    (staging_ends bodies start _ _ _ s3 c.in_ok-sync.ensures.durable).moments

pub returns-clause-seen : goal.returns-clause-seen
returns-clause-seen g c =
    let whole = c.requires.sound in
    let bodies = bodies_of c.args.self.now in
    let start = g.F.LogFile.state c.args.self.now.file in
    let s0 = staging_begins bodies start c.args.self.now.end whole (λ x left. g.met.F.LogFile.only_now c.args.self.now.file x left) in
    let s1 = staging_goes_on bodies start _ _ _ [] _ s0 (omega (arith, whole.end)) c.in_ok-write.ensures.written in
    let s2 = staging_goes_on bodies start _ _ _ _ _ s1 (omega (arith, whole.end)) c.in_ok-write-2.ensures.written in
    let s3 = staging_goes_on bodies start _ _ _ _ _ s2 (omega (arith, whole.end, length-append {A = ℕ})) c.in_ok-write-3.ensures.written in
    let file = g.F.LogFile.state c.sync.new.self in
    let is = staged_is c.to_le_bytes.result c.args.body.now c.to_le_bytes.ensures in
    subst (λ l. IfSome file.seen (Behind bodies IsShut l)) is (staging_ends bodies start _ file _ s3 c.in_ok-sync.ensures.durable).seen

pub returns-clause-crash : goal.returns-clause-crash
returns-clause-crash g c =
    let whole = c.requires.sound in
    let bodies = bodies_of c.args.self.now in
    let start = g.F.LogFile.state c.args.self.now.file in
    let s0 = staging_begins bodies start c.args.self.now.end whole (λ x left. g.met.F.LogFile.only_now c.args.self.now.file x left) in
    let s1 = staging_goes_on bodies start _ _ _ [] _ s0 (omega (arith, whole.end)) c.in_ok-write.ensures.written in
    let s2 = staging_goes_on bodies start _ _ _ _ _ s1 (omega (arith, whole.end)) c.in_ok-write-2.ensures.written in
    let s3 = staging_goes_on bodies start _ _ _ _ _ s2 (omega (arith, whole.end, length-append {A = ℕ})) c.in_ok-write-3.ensures.written in
    let file = g.F.LogFile.state c.sync.new.self in
    let is = staged_is c.to_le_bytes.result c.args.body.now c.to_le_bytes.ensures in
    subst (λ l. AreAmong file.may_leave (Behind bodies IsShut l)) is (staged_durable bodies start _ file _ s3 c.in_ok-sync.ensures.durable)

pub returns-clause-kept : goal.returns-clause-kept
returns-clause-kept g c =
    let whole = c.requires.sound in
    let bodies = bodies_of c.args.self.now in
    let start = g.F.LogFile.state c.args.self.now.file in
    let s0 = staging_begins bodies start c.args.self.now.end whole (λ x left. g.met.F.LogFile.only_now c.args.self.now.file x left) in
    let s1 = staging_goes_on bodies start _ _ _ [] _ s0 (omega (arith, whole.end)) c.in_ok-write.ensures.written in
    let s2 = staging_goes_on bodies start _ _ _ _ _ s1 (omega (arith, whole.end)) c.in_ok-write-2.ensures.written in
    let s3 = staging_goes_on bodies start _ _ _ _ _ s2 (omega (arith, whole.end, length-append {A = ℕ})) c.in_ok-write-3.ensures.written in
    let file = g.F.LogFile.state c.sync.new.self in
    let is = staged_is c.to_le_bytes.result c.args.body.now c.to_le_bytes.ensures in
    subst (λ l. AreAmong file.kept (Behind bodies IsShut l)) is (staging_ends bodies start _ file _ s3 c.in_ok-sync.ensures.durable).kept
