-- The map and the leaders are those after the entry.
use Rattle.std.proofs.Common.{◌∙◌, List, take, ap, subst}
use Rattle.sc_cluster.specs.declared.slice.Slice.{Slice}
use Rattle.sc_cluster.specs.Changes.{Change, MayChange}
use Rattle.sc_seen.specs.Board.{MayNote}
use Rattle.sc_board.proofs.FollowLemmas.{after_same, few_leaders, follow_begun, follow_recovering, follow_done, follow_failed, follow_dropped, follow_led, place_there, place_is, leader_there, so_of_map}
use Rattle.sc_board.proofs.restored.Board+unit.change.Goals as goal

pub recovering-requires : goal.recovering-requires
recovering-requires c =
    let it = c.args.self.now in
    so_of_map it (λ (slices : List Slice). MayChange slices (Change.Recovering c.in-Recovering.parent)) c.requires.follows
    (subst (MayNote it.first it.journal.entries) c.in-Recovering.is c.requires.may)

pub switched-requires : goal.switched-requires
switched-requires c =
    let it = c.args.self.now in
    so_of_map it (λ (slices : List Slice). MayChange slices (Change.Switched c.in-Done.parent)) c.requires.follows
    (subst (MayNote it.first it.journal.entries) c.in-Done.is c.requires.may).0

pub failed-requires : goal.failed-requires
failed-requires c =
    let it = c.args.self.now in
    so_of_map it (λ (slices : List Slice). MayChange slices (Change.Failed c.in-Failed.parent)) c.requires.follows
    (subst (MayNote it.first it.journal.entries) c.in-Failed.is c.requires.may)

pub dropped-requires : goal.dropped-requires
dropped-requires c =
    let it = c.args.self.now in
    so_of_map it (λ (slices : List Slice). MayChange slices (Change.Dropped c.in-Dropped.slice)) c.requires.follows
    (subst (MayNote it.first it.journal.entries) c.in-Dropped.is c.requires.may)

pub returns-in-Recovering-clause-leaders : goal.returns-in-Recovering-clause-leaders
returns-in-Recovering-clause-leaders c =
    after_same c.args.self.now _ _ c.args.one.now c.in-Recovering.is
    (follow_recovering c.args.self.now c.in-Recovering.parent c.requires.follows)

pub returns-in-Done-clause-leaders : goal.returns-in-Done-clause-leaders
returns-in-Done-clause-leaders c =
    after_same c.args.self.now _ _ c.args.one.now c.in-Done.is (follow_done c.args.self.now c.in-Done.parent c.requires.follows)

pub with_first-requires : goal.with_first-requires
with_first-requires c =
    let it = c.args.self.now in
    few_leaders it c.in-Begun.plan c.len.result c.requires.follows (subst (MayNote it.first it.journal.entries) c.in-Begun.is c.requires.may)
    c.len.ensures

pub unwrap-at-requires : goal.unwrap-at-requires
unwrap-at-requires c =
    let it = c.args.self.now in
    let may = subst (MayNote it.first it.journal.entries) c.in-Dropped.is c.requires.may in
    let (slice, there, named, inactive) = may.1 in
    place_there it c.place_of.result c.in-Dropped.slice slice c.requires.follows c.place_of.ensures there named

pub remove-requires : goal.remove-requires
remove-requires c =
    leader_there c.args.self.now c.unwrap-at.result c.in-Dropped.slice c.requires.follows
    (place_is c.args.self.now c.place_of.result c.unwrap-at.result c.in-Dropped.slice c.place_of.ensures c.unwrap-at.ensures)

pub unwrap-at-requires-in-Led : goal.unwrap-at-requires-in-Led
unwrap-at-requires-in-Led c =
    let it = c.args.self.now in
    let may = subst (MayNote it.first it.journal.entries) c.in-Led.is c.requires.may in
    place_there it c.place_of-in-Led.result c.in-Led.slice may.slice c.requires.follows c.place_of-in-Led.ensures may.there may.named

pub set-requires : goal.set-requires
set-requires c =
    leader_there c.args.self.now c.unwrap-at-in-Led.result c.in-Led.slice c.requires.follows
    (place_is c.args.self.now c.place_of-in-Led.result c.unwrap-at-in-Led.result c.in-Led.slice c.place_of-in-Led.ensures c.unwrap-at-in-Led.ensures)

pub returns-in-Failed-clause-leaders : goal.returns-in-Failed-clause-leaders
returns-in-Failed-clause-leaders c =
    let it = c.args.self.now in
    after_same it _ _ c.args.one.now c.in-Failed.is (follow_failed it c.in-Failed.parent c.failed.new.self c.cut.new.self c.requires.follows
    (subst (MayNote it.first it.journal.entries) c.in-Failed.is c.requires.may) c.failed.ensures.change
    (c.cut.ensures ∙ ap (λ n. take n it.leaders) c.len-in-Failed.ensures))

pub returns-in-Dropped-clause-leaders : goal.returns-in-Dropped-clause-leaders
returns-in-Dropped-clause-leaders c =
    let it = c.args.self.now in
    after_same it _ _ c.args.one.now c.in-Dropped.is
    (follow_dropped it c.in-Dropped.slice c.unwrap-at.result c.remove.new.self c.requires.follows
    (place_is it c.place_of.result c.unwrap-at.result c.in-Dropped.slice c.place_of.ensures c.unwrap-at.ensures) c.remove.ensures)

pub returns-in-Led-clause-leaders : goal.returns-in-Led-clause-leaders
returns-in-Led-clause-leaders c =
    let it = c.args.self.now in
    after_same it _ _ c.args.one.now c.in-Led.is
    (follow_led it c.in-Led.slice c.in-Led.replica c.unwrap-at-in-Led.result c.set.new.self c.requires.follows
    (place_is it c.place_of-in-Led.result c.unwrap-at-in-Led.result c.in-Led.slice c.place_of-in-Led.ensures c.unwrap-at-in-Led.ensures) c.set.ensures)

pub returns-in_ok-begin-in-Begun-clause-leaders : goal.returns-in_ok-begin-in-Begun-clause-leaders
returns-in_ok-begin-in-Begun-clause-leaders c =
    let it = c.args.self.now in
    after_same it _ _ c.args.one.now c.in-Begun.is
    (follow_begun it c.in-Begun.plan c.in_ok-self-in-Begun.field-0 c.len.result c.requires.follows
    (subst (MayNote it.first it.journal.entries) c.in-Begun.is c.requires.may) c.in_ok-self-in-Begun.ensures c.len.ensures)
