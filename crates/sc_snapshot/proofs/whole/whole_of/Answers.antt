-- Each row is found by its own id alone.
use Rattle.std.proofs.Common.{sym, ◌∙◌}
use Rattle.std.proofs.lemmas.List.Folds.{list_all-map}
use Rattle.std.specs.Arc.{arc_value}
use Rattle.sc_snapshot.specs.Postings.{has_id_alone}
use Rattle.sc_snapshot.proofs.whole.whole_of.Goals as goal

pub returns-then-have_ids_alone : goal.returns-then-have_ids_alone
returns-then-have_ids_alone c =
    list_all-map has_id_alone arc_value c.args.rows.now ∙ sym c.have_ids_alone.ensures ∙ c.if-have_ids_alone.true
