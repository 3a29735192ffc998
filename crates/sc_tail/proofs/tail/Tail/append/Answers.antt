use Rattle.std.proofs.Common.{length, ap}
use Rattle.sc_tail.specs.Tails.{bodies_of, staged_of}
use Rattle.sc_tail.proofs.TailLemmas.{whole_of, whole_leaves, half_begins, same_end, same_bodies, noted_then}
use Rattle.sc_tail.proofs.tail.Tail.append.Goals as goal

pub returns-then-self-ge-MOST-clause-any_moment : goal.returns-then-self-ge-MOST-clause-any_moment
returns-then-self-ge-MOST-clause-any_moment g c =
    let tail = c.args.self.now in
    let file = g.F.LogFile.state tail.file in
    whole_leaves file tail.end (bodies_of tail) _ (whole_of file tail.end tail.half (bodies_of tail) (staged_of tail) c.requires.whole c.requires.sound) (λ x left. g.met.F.LogFile.only_now tail.file x left)

pub finish-requires-clause-sound : goal.finish-requires-clause-sound
finish-requires-clause-sound g c =
    let tail = c.args.self.now in
    let start = g.F.LogFile.state tail.file in
    let mid = c.stage.new.self in
    let whole = whole_of start tail.end tail.half (bodies_of tail) (staged_of tail) c.requires.whole c.requires.sound in
    let is = c.as_slice-bytes.ensures in
    half_begins (g.F.LogFile.state mid.file) tail.end mid.end _ (bodies_of tail) (bodies_of mid) _ c.args.body.now c.as_slice-bytes.result.now whole.fits whole.end
    (same_end mid tail c.stage.ensures.rest.0 c.stage.ensures.rest.1) (same_bodies mid tail c.stage.ensures.rest.0 c.stage.ensures.rest.1) is
    (noted_then mid.bodies.items c.and-self.result.items c.args.body.now c.and-self.ensures) (ap length is) (c.in_ok-stage.ensures.room)
    c.in_ok-stage.ensures.seen c.in_ok-stage.ensures.crash c.in_ok-stage.ensures.kept
