-- The passes of two threads, joined.
use Rattle.std.proofs.Common.{sym, subst}
use Rattle.sc_shared.specs.declared.passes.Passes.{Passes}
use Rattle.sc_shared.specs.Collections.{Locks}
use Rattle.sc_shared.specs.Sharing.{ArePasses}
use Rattle.sc_shared.proofs.JoinPassLemmas.{joined_are, joined_sees}
use Rattle.sc_shared.proofs.collection.Collection.join_passes.Goals as goal

pub returns-clause-passes : goal.returns-clause-passes
returns-clause-passes c =
    let locks : Locks = record { buckets = c.self.inside.locks.items; board = c.self.inside.board; nodes = c.self.inside.nodes } in
    let joined : Passes = record { buckets = c.join_each.new.into; board = c.join_pass.new.into } in
    subst (λ (now : Locks). ArePasses now joined) c.self.view_is (joined_are locks c.args.into.now c.args.from joined
    (subst (λ (now : Locks). ArePasses now c.args.into.now) (sym c.self.view_is) c.requires.into)
    (subst (λ (now : Locks). ArePasses now c.args.from) (sym c.self.view_is) c.requires.from) c.join_each.ensures
    c.join_pass.ensures.seen c.join_pass.ensures.pass.0 c.join_pass.ensures.pass.1)

pub returns-clause-joined : goal.returns-clause-joined
returns-clause-joined c =
    let locks : Locks = record { buckets = c.self.inside.locks.items; board = c.self.inside.board; nodes = c.self.inside.nodes } in
    let joined : Passes = record { buckets = c.join_each.new.into; board = c.join_pass.new.into } in
    joined_sees locks c.args.into.now c.args.from joined
    (subst (λ (now : Locks). ArePasses now c.args.into.now) (sym c.self.view_is) c.requires.into)
    (subst (λ (now : Locks). ArePasses now c.args.from) (sym c.self.view_is) c.requires.from) c.join_each.ensures
    c.join_pass.ensures.seen c.join_pass.ensures.disjoint c.join_pass.ensures.places
