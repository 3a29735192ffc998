-- The keys of the index compare equal to those that were carried.
use Rattle.std.proofs.Common.{List, ℕ, ◌++◌, subst}
use Rattle.sc_segment.proofs.StoringLemmas.{carried-alike}
use Rattle.sc_segment.specs.Carrying.{IsCarried}
use Rattle.sc_segment.specs.Storing.{entries_of_places}
use Rattle.sc_segment.proofs.segment.Segment.carried_by.Goals as goal

pub new-requires-2 : goal.new-requires-2
new-requires-2 g c =
    let old = c.self.inside.index in
    let added = c.added.inside.index in
    (carried-alike g.met.K.Key.total c.args.moved.now old.entries added.entries (entries_of_places (old.stored ++ added.stored) c.carry_all.new.index.entries) c.in_ok-kept.kept.entries c.in_ok-kept.ensures
    c.in_ok-carry_all.ensures.so_far.carried).in_order

pub returns : goal.returns
returns g c =
    let old = c.self.inside.index in
    let added = c.added.inside.index in
    let new = c.in_ok-kept.kept.entries in
    subst (λ (es : List (_ × List ℕ)). IsCarried g.K.Key.order c.args.moved.now es c.args.added.now c.new-2.result) c.self.view_is
    (subst (λ (es : List (_ × List ℕ)). IsCarried g.K.Key.order c.args.moved.now old.entries es c.new-2.result) c.added.view_is
    (rw c.new-2.ensures (carried-alike g.met.K.Key.total c.args.moved.now old.entries added.entries (entries_of_places (old.stored ++ added.stored) c.carry_all.new.index.entries) new c.in_ok-kept.ensures
    c.in_ok-carry_all.ensures.so_far.carried)))
