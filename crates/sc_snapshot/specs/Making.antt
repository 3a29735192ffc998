-- What is told of rows while edits are put in.
use Rattle.std.specs.Prelude.{◌≡◌, true, List, length}
use Rattle.std.specs.List.{list_all}
use Rattle.sc_record.specs.Writes.{Write}
use Rattle.sc_snapshot.specs.Change.{IsChange}
use Rattle.sc_snapshot.specs.Edits.{edited, put_in}
use Rattle.sc_snapshot.specs.Postings.{has_id_alone, IsSurvey}
use Rattle.sc_snapshot.specs.Surveying.{AreSurveyed, HasBoundsOf}
use Rattle.sc_snapshot.specs.declared.edits.Edit.{Edit}
use Rattle.sc_snapshot.specs.declared.made.Told.{Told}
use Rattle.sc_snapshot.specs.declared.survey.Survey.{Survey}

-- no edit is told yet
pub record IsBegun (old : List Write) (last : Survey) (edits : List Edit) (told : Told) : Type 0 where
  pub change : IsChange old (edited old 0 edits) 0 0 told.change
  pub alone : told.change.alone ≡ true
  pub surveyed : AreSurveyed (edited old 0 edits) 0 told.survey
  pub size : length told.survey.live_bits ≡ length (edited old 0 edits)
  pub bounds : HasBoundsOf last told.survey

-- all edits are told: what becomes of each old row, whether of the terms of the field of ids each row that is put in has that of its own id
-- alone, and the survey of the new rows
pub record IsTold (old : List Write) (edits : List Edit) (told : Told) : Type 0 where
  pub change : IsChange old (edited old 0 edits) (length old) (length (edited old 0 edits)) told.change
  pub alone : told.change.alone ≡ list_all (λ (edit : Edit). has_id_alone (put_in edit)) edits
  pub survey : IsSurvey (edited old 0 edits) told.survey
