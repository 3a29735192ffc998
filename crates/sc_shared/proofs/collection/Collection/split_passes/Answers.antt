-- The passes of a thread once those of another were split off them.
use Rattle.std.proofs.Common.{sym, subst}
use Rattle.sc_shared.specs.declared.passes.Passes.{Passes}
use Rattle.sc_shared.specs.Collections.{Locks}
use Rattle.sc_shared.specs.Sharing.{ArePasses}
use Rattle.sc_shared.proofs.SplitPassLemmas.{now_are, now_same, now_splits, other_are, other_sees}
use Rattle.sc_shared.proofs.collection.Collection.split_passes.Goals as goal

pub returns-clause-passes : goal.returns-clause-passes
returns-clause-passes c =
    let locks : Locks = record { buckets = c.self.inside.locks.items; board = c.self.inside.board; nodes = c.self.inside.nodes } in
    let left : Passes = record { buckets = c.split_each.new.passes; board = c.split_pass.new.pass } in
    let other : Passes = record { buckets = c.in_ok-buckets.buckets; board = c.split_pass.result } in
    let are : ArePasses locks c.args.passes.now = subst (λ (now : Locks). ArePasses now c.args.passes.now) (sym c.self.view_is) c.requires.passes in
    subst (λ (now : Locks). ArePasses now left) c.self.view_is (now_are locks c.args.passes.now left other are c.in_ok-buckets.ensures.split
    c.split_pass.ensures.seen c.split_pass.ensures.pass.0 c.split_pass.ensures.pass.1)

pub returns-clause-same : goal.returns-clause-same
returns-clause-same c =
    let locks : Locks = record { buckets = c.self.inside.locks.items; board = c.self.inside.board; nodes = c.self.inside.nodes } in
    let left : Passes = record { buckets = c.split_each.new.passes; board = c.split_pass.new.pass } in
    let other : Passes = record { buckets = c.in_ok-buckets.buckets; board = c.split_pass.result } in
    let are : ArePasses locks c.args.passes.now = subst (λ (now : Locks). ArePasses now c.args.passes.now) (sym c.self.view_is) c.requires.passes in
    now_same locks c.args.passes.now left other are c.in_ok-buckets.ensures.split c.split_pass.ensures.seen c.split_pass.ensures.places

pub returns-clause-splits : goal.returns-clause-splits
returns-clause-splits c =
    let locks : Locks = record { buckets = c.self.inside.locks.items; board = c.self.inside.board; nodes = c.self.inside.nodes } in
    let left : Passes = record { buckets = c.split_each.new.passes; board = c.split_pass.new.pass } in
    let other : Passes = record { buckets = c.in_ok-buckets.buckets; board = c.split_pass.result } in
    let are : ArePasses locks c.args.passes.now = subst (λ (now : Locks). ArePasses now c.args.passes.now) (sym c.self.view_is) c.requires.passes in
    now_splits locks c.args.passes.now left other are c.in_ok-buckets.ensures.split c.split_pass.ensures.splits

pub returns-clause-new : goal.returns-clause-new
returns-clause-new c =
    let locks : Locks = record { buckets = c.self.inside.locks.items; board = c.self.inside.board; nodes = c.self.inside.nodes } in
    let left : Passes = record { buckets = c.split_each.new.passes; board = c.split_pass.new.pass } in
    let other : Passes = record { buckets = c.in_ok-buckets.buckets; board = c.split_pass.result } in
    let are : ArePasses locks c.args.passes.now = subst (λ (now : Locks). ArePasses now c.args.passes.now) (sym c.self.view_is) c.requires.passes in (
      subst (λ (now : Locks). ArePasses now other) c.self.view_is (other_are locks c.args.passes.now left other are
          c.in_ok-buckets.ensures.split c.split_pass.ensures.new),
      other_sees locks c.args.passes.now left other are c.in_ok-buckets.ensures.split c.split_pass.ensures.new,
    )
