-- Each kind of entry makes its change, or none.
use Rattle.std.proofs.Common.{◌∙◌, ap}
use Rattle.sc_cluster.specs.Changes.{Change}
use Rattle.sc_journal.specs.Splits.{map_change_of}
use Rattle.sc_restored.proofs.MapLemmas.{changed_where, changes_nothing, where_ok}
use Rattle.sc_restored.proofs.map.change.Goals as goal

pub begin-requires : goal.begin-requires
begin-requires c = c.requires (Change.Begun c.in-Begun.parent c.in-Begun.subs) (ap map_change_of c.in-Begun.is)

pub switched-requires : goal.switched-requires
switched-requires c = c.requires (Change.Switched c.in-Switched.parent) (ap map_change_of c.in-Switched.is)

pub failed-requires : goal.failed-requires
failed-requires c = c.requires (Change.Failed c.in-Failed.parent) (ap map_change_of c.in-Failed.is)

pub dropped-requires : goal.dropped-requires
dropped-requires c = c.requires (Change.Dropped c.in-Dropped.slice) (ap map_change_of c.in-Dropped.is)

pub returns-in-Begun : goal.returns-in-Begun
returns-in-Begun c =
    where_ok c.begin.result
    (λ same. same ∙ changed_where c.args.entry.now (Change.Begun c.in-Begun.parent c.in-Begun.subs) c.args.map.now (ap map_change_of c.in-Begun.is))
    c.begin.ensures

pub returns-in-Switched : goal.returns-in-Switched
returns-in-Switched c =
    c.switched.ensures.change
    ∙ changed_where c.args.entry.now (Change.Switched c.in-Switched.parent) c.args.map.now (ap map_change_of c.in-Switched.is)

pub returns-in-Failed : goal.returns-in-Failed
returns-in-Failed c =
    c.failed.ensures.change ∙ changed_where c.args.entry.now (Change.Failed c.in-Failed.parent) c.args.map.now (ap map_change_of c.in-Failed.is)

pub returns-in-Dropped : goal.returns-in-Dropped
returns-in-Dropped c =
    c.dropped.ensures.change ∙ changed_where c.args.entry.now (Change.Dropped c.in-Dropped.slice) c.args.map.now (ap map_change_of c.in-Dropped.is)

pub returns-in_default : goal.returns-in_default
returns-in_default c =
    changes_nothing c.args.entry.now c.args.map.now c.in_default.not-Begun c.in_default.not-Switched c.in_default.not-Failed c.in_default.not-Dropped
