-- So far the rows up to the first edits are made.
use Rattle.std.proofs.Common.{◌≡◌, ◌++◌, map, take, drop, length}
use Rattle.std.specs.List.{list_all, AllByRecursion}
use Rattle.sc_snapshot.specs.Change.{IsChange}
use Rattle.sc_snapshot.specs.Edits.{edited, put_in, IsRest}
use Rattle.sc_snapshot.specs.Postings.{has_id_alone}
use Rattle.sc_snapshot.specs.Surveying.{AreSurveyed, BoundsHashOf, HasBoundsOf}
use Rattle.sc_snapshot.specs.declared.edits.Edit.{Edit}
use Rattle.sc_snapshot.proofs.made.Told.put_all.Given as goal

abbrev pub invariant-loop-edit : goal.invariant-loop-edit
invariant-loop-edit l = record {
  rest : IsRest l.old (edited l.old 0 l.edits) l.from l.number (drop l.edit-index l.edits);
  rows : l.cutting ++ edited l.old l.from (drop l.edit-index l.edits) ≡ edited l.old 0 l.edits;
  change : IsChange l.old (edited l.old 0 l.edits) l.from l.number l.self.change;
  alone : l.self.change.alone ≡ list_all (λ (edit : Edit). has_id_alone (put_in edit)) (take l.edit-index l.edits);
  surveyed : AreSurveyed (edited l.old 0 l.edits) l.number l.self.survey;
  size : length l.self.survey.live_bits ≡ length (edited l.old 0 l.edits);
  bounds : HasBoundsOf l.last l.self.survey;
  hashes : AllByRecursion (BoundsHashOf l.self.survey) (map put_in (take l.edit-index l.edits));
}
