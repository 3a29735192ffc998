-- proofs/dropping/drop_all/Answers.antt
-- The slice is dropped from the bucket that comes next; of the others nothing changes.
use Rattle.std.proofs.Common.{◌≡◌, ◌∙◌, ◌<◌, arith}
use Rattle.sc_collection.specs.Known.{known_of}
use Rattle.sc_admin.proofs.DropLoopLemmas.{board_then, may_here, one_more, rest_same}
use Rattle.sc_admin.proofs.dropping.drop_all.Goals as goal

-- src/dropping.rt:69:9
pub drop_in-requires-clause-may : goal.drop_in-requires-clause-may
drop_in-requires-clause-may g c =
    let old = known_of (g.D.Desk.seen c.args.desk.now) (g.D.Desk.keeping c.args.desk.now c.args.keepers.now) in
    let now = known_of (g.D.Desk.seen c.loop-b.desk) (g.D.Desk.keeping c.loop-b.desk c.loop-b.keepers) in
    let count : c.buckets-b-end.result ≡ (g.D.Desk.layout c.args.desk.now).buckets = c.buckets-b-end.ensures.count in
    let below : c.loop-b.b < (g.D.Desk.layout c.args.desk.now).buckets = omega (arith, count) in
    may_here c.args.slice old now c.loop-b.b (g.D.Desk.layout c.args.desk.now).buckets below c.loop-b.invariant.same c.requires.may

-- src/dropping.rt:68:5
pub loop-b-preserved : goal.loop-b-preserved
loop-b-preserved g c =
    let old = known_of (g.D.Desk.seen c.args.desk.now) (g.D.Desk.keeping c.args.desk.now c.args.keepers.now) in
    let now = known_of (g.D.Desk.seen c.loop-b.desk) (g.D.Desk.keeping c.loop-b.desk c.loop-b.keepers) in
    let new = known_of (g.D.Desk.seen c.drop_in.new.desk) (g.D.Desk.keeping c.drop_in.new.desk c.drop_in.new.keepers) in
    let count : c.buckets-b-end.result ≡ (g.D.Desk.layout c.args.desk.now).buckets = c.buckets-b-end.ensures.count in
    let below : c.loop-b.b < (g.D.Desk.layout c.args.desk.now).buckets = omega (arith, count) in
    record {
      layout = c.drop_in.ensures.layout ∙ c.loop-b.invariant.layout;
      out = c.drop_in.ensures.out ∙ c.loop-b.invariant.out;
      legal = c.drop_in.ensures.legal;
      fits = c.drop_in.ensures.fits;
      board = board_then old.seen now.seen new.seen c.loop-b.invariant.board c.drop_in.ensures.board;
      dropped = one_more c.args.slice old now new c.loop-b.b (g.D.Desk.layout c.args.desk.now).buckets below c.drop_in.ensures.others
          c.loop-b.invariant.same c.loop-b.invariant.dropped c.drop_in.ensures.dropped;
      same = rest_same c.args.slice old now new c.loop-b.b (g.D.Desk.layout c.args.desk.now).buckets below c.drop_in.ensures.others
          c.loop-b.invariant.same;
    }
