-- A bucket that its pass took is out of the desk.
use Rattle.std.proofs.Common.{refl, sym, ap, subst}
use Rattle.sc_bucket.specs.declared.bucket.Bucket.{Bucket}
use Rattle.sc_shared.specs.Collections.{layout_of}
use Rattle.sc_shared.specs.Holding.{IsHeld}
use Rattle.sc_shared.proofs.HoldLemmas.{held_is_hold}
use Rattle.sc_shared.proofs.shared.SharedDesk.hold.Goals as goal

pub invariant_of-self : goal.invariant_of-self
invariant_of-self g c =
    let held =
    subst (λ (bucket : Bucket). IsHeld c.self.inside.collection.now c.args.b c.self.inside.passes c.hold_bucket-full.new.passes bucket c.hold_bucket-full.result.1)
    (sym c.take-bucket.ensures) c.hold_bucket-full.ensures in
    record {
      shared_is = (held_is_hold c.self.inside.collection.now c.self.inside.passes _ c.self.inside.bucket _ c.self.inside.board c.args.self.now c.args.b _ _
          c.self.view_is c.self.invariant.shared_is c.requires.nothing_out c.requires.within held c.put.ensures.full).leaves.is;
      locks_are = c.self.invariant.locks_are;
    }

pub returns : goal.returns
returns g c =
    let held =
    subst (λ (bucket : Bucket). IsHeld c.self.inside.collection.now c.args.b c.self.inside.passes c.hold_bucket-full.new.passes bucket c.hold_bucket-full.result.1)
    (sym c.take-bucket.ensures) c.hold_bucket-full.ensures in
    let hold =
    held_is_hold c.self.inside.collection.now c.self.inside.passes _ c.self.inside.bucket _ c.self.inside.board c.args.self.now c.args.b _ _
    c.self.view_is c.self.invariant.shared_is c.requires.nothing_out c.requires.within held c.put.ensures.full in
    record {
      handed = record {
        sound = hold.leaves.sound;
        is_of = hold.leaves.is_of;
        extends = hold.leaves.extends;
        out = hold.leaves.out;
        seen = hold.leaves.seen_is;
        legal = hold.leaves.legal;
        layout = ap layout_of hold.leaves.locks;
      };
      keepers = λ keepers fits. (hold.keepers keepers.keepers.items fits, record { part = λ number. refl; own = λ number. refl });
    }
