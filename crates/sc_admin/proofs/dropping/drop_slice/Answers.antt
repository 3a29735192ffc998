-- proofs/dropping/drop_slice/Answers.antt
-- The slice of the name is dropped from each bucket and from the board.
use Rattle.std.proofs.Common.{◌≡◌, ◌∙◌, sym, subst}
use Rattle.std.specs.Prelude.{Contains}
use Rattle.std.proofs.lemmas.Option.{same_Some}
use Rattle.sc_seen.specs.Seen.{Layout}
use Rattle.sc_cluster.proofs.FindLemmas.{found_is}
use Rattle.sc_collection.specs.Desks.{AreAtRest}
use Rattle.sc_collection.specs.Known.{known_of}
use Rattle.sc_admin.proofs.DropBoardLemmas.{idle_at_drop, may_at_rest, rest_dropped, drops_slice}
use Rattle.sc_admin.proofs.dropping.drop_slice.Goals as goal

pub keepers-requires-clause-idle : goal.keepers-requires-clause-idle
keepers-requires-clause-idle g c = idle_at_drop c.args.board.now c.in_ok-slice.slice c.requires.sound c.in_ok-slice.ensures.may

pub drop_all-requires-clause-may : goal.drop_all-requires-clause-may
drop_all-requires-clause-may g c =
    may_at_rest (g.D.Desk.layout c.args.desk.now) c.args.board.now.first c.args.board.now.journal.entries
    (g.D.Desk.keeping c.args.desk.now c.keepers.result.now) c.in_ok-slice.slice c.requires.is_of.first_is c.in_ok-slice.ensures.may
    (c.requires.rest c.keepers.result.now c.keepers.ensures.keepers).1

pub returns-clause-rest : goal.returns-clause-rest
returns-clause-rest g c keepers has =
    let same : keepers ≡ c.drop_all.new.keepers = same_Some keepers c.drop_all.new.keepers (sym has ∙ c.dropped.ensures.keepers) in
    let old = known_of (g.D.Desk.seen c.args.desk.now) (g.D.Desk.keeping c.args.desk.now c.keepers.result.now) in
    let new = known_of (g.D.Desk.seen c.drop_all.new.desk) (g.D.Desk.keeping c.drop_all.new.desk c.drop_all.new.keepers) in
    let at : AreAtRest (g.D.Desk.layout c.args.desk.now) c.dropped.new.self.journal.entries new.keeping =
    rest_dropped (g.D.Desk.layout c.args.desk.now) c.args.board.now.journal.entries c.dropped.new.self.journal.entries old new c.in_ok-slice.slice
    c.dropped.ensures.noted.entries (c.requires.rest c.keepers.result.now c.keepers.ensures.keepers).1 c.drop_all.ensures.dropped in
    subst (λ (k : g.row.D-Keepers.Denot). g.D.Desk.fits c.drop_all.new.desk k
    × AreAtRest (g.D.Desk.layout c.drop_all.new.desk) c.dropped.new.self.journal.entries (g.D.Desk.keeping c.drop_all.new.desk k)) (sym same) (
      c.drop_all.ensures.fits,
      subst (λ (layout : Layout). AreAtRest layout c.dropped.new.self.journal.entries new.keeping) (sym c.drop_all.ensures.layout) at,
    )

pub returns-clause-dropped : goal.returns-clause-dropped
returns-clause-dropped g c =
    drops_slice (g.D.Desk.layout c.args.desk.now) c.args.shard.now c.args.board.now c.in_ok-slice.slice c.unwrap.result.now
    (known_of (g.D.Desk.seen c.args.desk.now) (g.D.Desk.keeping c.args.desk.now c.keepers.result.now))
    (known_of (g.D.Desk.seen c.drop_all.new.desk) (g.D.Desk.keeping c.drop_all.new.desk c.drop_all.new.keepers))
    c.dropped.new.self.journal.entries c.nodes.result c.in_ok-cores.cores c.requires.sound c.requires.is_of.first_is
    c.in_ok-slice.ensures.slice c.in_ok-slice.ensures.may
    (subst (λ slices. Contains slices c.unwrap.result.now × (c.unwrap.result.now.id ≡ c.in_ok-slice.slice)) c.map.ensures
    (found_is c.map.result.now c.in_ok-slice.slice c.by_id.result c.unwrap.result c.by_id.ensures.slice c.unwrap.ensures))
    c.dropped.ensures.noted.entries c.drop_all.ensures.dropped c.nodes.ensures.count c.in_ok-cores.ensures
