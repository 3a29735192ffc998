-- A bucket that its keeper took is out of the desk.
use Rattle.std.proofs.Common.{◌<◌, length, sym, ap, subst}
use Rattle.sc_bucket.specs.declared.bucket.Bucket.{Bucket}
use Rattle.sc_shared.specs.Collections.{layout_of}
use Rattle.sc_shared.specs.Holding.{IsHeldByKeeper}
use Rattle.sc_shared.specs.Sharing.{SharedState, shared_of, Fit}
use Rattle.sc_shared.proofs.KeeperLemmas.{held_is_keeper_hold, has_keeper_at}
use Rattle.sc_shared.proofs.shared.SharedDesk.hold_keeper.Goals as goal

pub hold_by_keeper-full-requires-clause-keeper : goal.hold_by_keeper-full-requires-clause-keeper
hold_by_keeper-full-requires-clause-keeper g c =
    has_keeper_at (shared_of c.self.inside.collection.now c.self.inside.passes c.self.inside.bucket c.self.inside.board)
    c.args.keepers.now.keepers.items c.args.b
    (subst (λ (desk : SharedState). Fit desk c.args.keepers.now.keepers.items) (sym c.self.view_is) c.requires.fits)
    (subst (λ (desk : SharedState). c.args.b < length desk.locks.buckets) (sym c.self.view_is) c.requires.within)

pub invariant_of-self : goal.invariant_of-self
invariant_of-self g c =
    let held =
    subst (λ (bucket : Bucket). IsHeldByKeeper c.self.inside.collection.now c.args.b
    (record { passes = c.self.inside.passes; keepers = c.args.keepers.now.keepers.items })
    (record { passes = c.hold_by_keeper-full.new.passes; keepers = c.hold_by_keeper-full.new.keepers.keepers.items }) bucket
    c.hold_by_keeper-full.result.1)
    (sym c.take-bucket.ensures) c.hold_by_keeper-full.ensures in
    record {
      shared_is = (held_is_keeper_hold c.self.inside.collection.now c.self.inside.passes _ c.self.inside.bucket _ c.self.inside.board c.args.self.now c.args.b
          _ _ c.args.keepers.now.keepers.items _ c.self.view_is c.self.invariant.shared_is c.requires.nothing_out c.requires.within c.requires.fits
          held c.put.ensures.full).leaves.is;
      locks_are = c.self.invariant.locks_are;
    }

pub returns : goal.returns
returns g c =
    let held =
    subst (λ (bucket : Bucket). IsHeldByKeeper c.self.inside.collection.now c.args.b
    (record { passes = c.self.inside.passes; keepers = c.args.keepers.now.keepers.items })
    (record { passes = c.hold_by_keeper-full.new.passes; keepers = c.hold_by_keeper-full.new.keepers.keepers.items }) bucket
    c.hold_by_keeper-full.result.1)
    (sym c.take-bucket.ensures) c.hold_by_keeper-full.ensures in
    let hold =
    held_is_keeper_hold c.self.inside.collection.now c.self.inside.passes _ c.self.inside.bucket _ c.self.inside.board c.args.self.now c.args.b
    _ _ c.args.keepers.now.keepers.items _ c.self.view_is c.self.invariant.shared_is c.requires.nothing_out c.requires.within c.requires.fits
    held c.put.ensures.full in
    record {
      handed = record {
        sound = hold.leaves.sound;
        is_of = hold.leaves.is_of;
        extends = hold.leaves.extends;
        out = hold.leaves.out;
        seen = hold.leaves.seen_is;
        legal = hold.leaves.legal;
        layout = ap layout_of hold.leaves.locks;
      };
      part = hold.part;
      keepers = (hold.fits, hold.keeps);
    }
