-- The slice is dropped from the buckets so far, and nothing was done of the others.
use Rattle.std.proofs.Common.{◌≡◌}
use Rattle.sc_seen.specs.Seen.{AreLegal}
use Rattle.sc_collection.specs.Known.{known_of, OfBuckets, IsSameIn, KeepsBoard}
use Rattle.sc_admin.specs.Dropping.{IsDroppedIn}
use Rattle.sc_admin.proofs.dropping.drop_all.Given as goal

abbrev pub invariant-loop-b : goal.invariant-loop-b
invariant-loop-b g l = record {
  layout : g.D.Desk.layout l.desk ≡ g.D.Desk.layout l.fn.desk;
  out : g.D.Desk.out l.desk ≡ g.D.Desk.out l.fn.desk;
  legal : AreLegal (g.D.Desk.layout l.desk) (g.D.Desk.seen l.desk);
  fits : g.D.Desk.fits l.desk l.keepers;
  board : KeepsBoard (g.D.Desk.seen l.fn.desk) (g.D.Desk.seen l.desk);
  dropped : OfBuckets 0 l.b (IsDroppedIn l.slice (known_of (g.D.Desk.seen l.fn.desk) (g.D.Desk.keeping l.fn.desk l.fn.keepers))
      (known_of (g.D.Desk.seen l.desk) (g.D.Desk.keeping l.desk l.keepers)));
  same : OfBuckets l.b (g.D.Desk.layout l.fn.desk).buckets (IsSameIn (known_of (g.D.Desk.seen l.fn.desk) (g.D.Desk.keeping l.fn.desk l.fn.keepers))
      (known_of (g.D.Desk.seen l.desk) (g.D.Desk.keeping l.desk l.keepers)));
}
