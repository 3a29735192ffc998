-- A bucket that its keeper gave back is out of the desk no more.
use Rattle.std.proofs.Common.{sym, ap, subst}
use Rattle.sc_bucket.specs.declared.bucket.Bucket.{Bucket}
use Rattle.sc_handover.specs.AnyEvent.{IsKeeperEvent}
use Rattle.sc_collection.specs.Desks.{Held, SeesKeeperGiven, KeepsGiven}
use Rattle.sc_shared.specs.Keepers.{keeping_of}
use Rattle.sc_shared.specs.Passes.{seen_of}
use Rattle.sc_shared.specs.Collections.{layout_of}
use Rattle.sc_shared.specs.Holding.{IsGivenByKeeper}
use Rattle.sc_shared.specs.Sharing.{SharedState, shared_of, Fit}
use Rattle.sc_shared.proofs.GiveLemmas.{one_is_out, held_is, out_within}
use Rattle.sc_shared.proofs.KeeperLemmas.{has_keeper_at, out_keeper_turn, given_is_keeper_give}
use Rattle.sc_shared.proofs.shared.SharedDesk.give_keeper.Goals as goal

pub give_by_keeper-requires-clause-keeper : goal.give_by_keeper-requires-clause-keeper
give_by_keeper-requires-clause-keeper g c =
    let out = c.requires.is_out in
    has_keeper_at (shared_of c.self.inside.collection.now c.self.inside.passes c.self.inside.bucket c.self.inside.board)
    c.args.keepers.now.keepers.items c.args.b
    (subst (λ (desk : SharedState). Fit desk c.args.keepers.now.keepers.items) (sym c.self.view_is) c.requires.fits)
    (out_within c.self.inside.collection.now c.self.inside.passes c.self.inside.bucket c.self.inside.board c.args.self.now out.0
    c.take-turn.result c.args.b c.self.view_is c.self.invariant.shared_is out.1 out.2 c.take-turn.ensures.was)

pub give_by_keeper-requires-clause-turn : goal.give_by_keeper-requires-clause-turn
give_by_keeper-requires-clause-turn g c =
    let out = c.requires.is_out in
    out_keeper_turn c.self.inside.collection.now c.self.inside.passes c.self.inside.bucket c.self.inside.board c.args.self.now out.0
    c.take-turn.result c.args.b c.args.keepers.now.keepers.items c.self.view_is c.self.invariant.shared_is out.1 out.2 c.take-turn.ensures.was
    out.3.by_keeper c.requires.fits

pub give_by_keeper-requires-clause-event : goal.give_by_keeper-requires-clause-event
give_by_keeper-requires-clause-event g c =
    let out = c.requires.is_out in
    subst (λ (held : Held). IsKeeperEvent held.bucket c.put-full.result)
    (sym (held_is c.self.inside.collection.now c.self.inside.passes c.self.inside.bucket c.self.inside.board c.args.self.now out.0
    c.take-turn.result c.args.b c.self.view_is c.self.invariant.shared_is out.1 out.2 c.take-turn.ensures.was))
    (subst (λ (bucket : Bucket). IsKeeperEvent out.0.bucket bucket) (sym c.put-full.ensures) out.3.event)

pub invariant_of-self : goal.invariant_of-self
invariant_of-self g c =
    let out = c.requires.is_out in
    let given =
    subst (λ (bucket : Bucket). IsGivenByKeeper c.self.inside.collection.now c.args.b
    (record { passes = c.self.inside.passes; keepers = c.args.keepers.now.keepers.items })
    (record { passes = c.give_by_keeper.new.passes; keepers = c.give_by_keeper.new.keepers.keepers.items }) c.take-turn.result.turn bucket)
    c.put-full.ensures c.give_by_keeper.ensures in
    record {
      shared_is = (given_is_keeper_give c.self.inside.collection.now c.self.inside.passes c.self.inside.bucket c.self.inside.board c.args.self.now out.0
          c.take-turn.result c.args.b c.args.keepers.now.keepers.items c.self.view_is c.self.invariant.shared_is out.1 out.2 c.take-turn.ensures.was
          out.3.by_keeper c.requires.fits _ _ c.args.bucket _ out.3 c.take-turn.ensures.empty given).is;
      locks_are = c.self.invariant.locks_are;
    }

pub returns : goal.returns
returns g c =
    let out = c.requires.is_out in
    let given =
    subst (λ (bucket : Bucket). IsGivenByKeeper c.self.inside.collection.now c.args.b
    (record { passes = c.self.inside.passes; keepers = c.args.keepers.now.keepers.items })
    (record { passes = c.give_by_keeper.new.passes; keepers = c.give_by_keeper.new.keepers.keepers.items }) c.take-turn.result.turn bucket)
    c.put-full.ensures c.give_by_keeper.ensures in
    let give =
    given_is_keeper_give c.self.inside.collection.now c.self.inside.passes c.self.inside.bucket c.self.inside.board c.args.self.now out.0
    c.take-turn.result c.args.b c.args.keepers.now.keepers.items c.self.view_is c.self.invariant.shared_is out.1 out.2 c.take-turn.ensures.was
    out.3.by_keeper c.requires.fits _ _ c.args.bucket _ out.3 c.take-turn.ensures.empty given in
    record {
      seen = λ other is_other. subst (λ (held : Held). SeesKeeperGiven held c.args.bucket (seen_of c.args.self.now.passes) (seen_of c.give_by_keeper.new.passes))
          (one_is_out c.args.self.now out.0 other out.1 is_other) give.sees;
      keeping = λ other is_other. subst (λ (held : Held). KeepsGiven held c.args.bucket (keeping_of c.args.keepers.now.keepers.items)
          (keeping_of c.give_by_keeper.new.keepers.keepers.items)) (one_is_out c.args.self.now out.0 other out.1 is_other) give.keeping;
      fits = give.fits;
      out = give.out;
      legal = give.legal;
      layout = ap layout_of give.locks;
    }
