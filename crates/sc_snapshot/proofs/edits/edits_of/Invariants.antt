-- So far the first changes have their edits.
use Rattle.std.proofs.Common.{◌≡◌, ℕ, ◌≤◌, map, take, length, slice_get, Some}
use Rattle.std.specs.List.{AllByRecursion}
use Rattle.sc_record.specs.Writes.{Write}
use Rattle.sc_snapshot.specs.declared.edits.Edit.{Edit}
use Rattle.sc_snapshot.specs.Edits.{put_in, next_of, AreInOrder, AreBelow, IsPlace}
use Rattle.sc_snapshot.specs.Rows.{lent}
use Rattle.sc_snapshot.proofs.EditedLemmas.{end_of}
use Rattle.sc_snapshot.proofs.edits.edits_of.Given as goal

abbrev pub invariant-loop-change : goal.invariant-loop-change
invariant-loop-change l = record {
  changes : map put_in l.edits.items ≡ map lent (take l.change-index l.changes);
  in_order : AreInOrder (length l.rows) 0 l.edits.items;
  end : end_of 0 l.edits.items ≡ l.from;
  places : AllByRecursion (λ (edit : Edit). IsPlace l.rows edit.at (next_of edit) (put_in edit).id) l.edits.items;
  below : (k : ℕ) (row : Write) → l.change-index ≤ k → slice_get (map lent l.changes) k ≡ Some row → AreBelow row.id (take l.from l.rows);
}
