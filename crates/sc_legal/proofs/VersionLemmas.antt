-- The version of the last write of each id, once one entry more came.
use Rattle.std.proofs.Common.{◌≡◌, ℕ, Bool, true, false, cond, List, [], ◌∷◌, ◌++◌, Some, None, refl, sym, ap, ◌∙◌}
use Rattle.std.specs.Arc.{arc_value}
use Rattle.std.specs.Option.{option_map}
use Rattle.std.specs.Str.{bytes_eq}
use Rattle.sc_record.specs.Writes.{is_of, Write}
use Rattle.sc_record.specs.declared.entry.Entry.{Entry}
use Rattle.sc_record.specs.declared.entry.Entry.TheVariants as entry
use Rattle.sc_journal.specs.Journal.{as_write}
use Rattle.sc_journal.proofs.JournalLemmas.{last_write-push_write, last_write-push_write_other, last_write-push_other}
use Rattle.sc_legal.specs.Kept.{last_version}

-- an entry that is no write leaves them
pub last_version-left : (journal : List Entry) (one : Entry) (id : List ℕ) → as_write one ≡ None
    → last_version (journal ++ one ∷ []) id ≡ last_version journal id
last_version-left journal one id none =
    ap (option_map (λ (write : Write). write.version)) (last_write-push_other journal one id none)

-- a write changes that of its id
pub last_version-write : (journal : List Entry) (cell : _) (id : List ℕ)
    → last_version (journal ++ entry.Write cell ∷ []) id
    ≡ cond (bytes_eq cell.value.id id) (Some cell.value.version) (last_version journal id)
last_version-write journal cell id = by (is_of id (arc_value cell)) refl where
  by : (own : Bool) → is_of id (arc_value cell) ≡ own → last_version (journal ++ entry.Write cell ∷ []) id
      ≡ cond (bytes_eq cell.value.id id) (Some cell.value.version) (last_version journal id)
  by true own =
      ap (option_map (λ (write : Write). write.version)) (last_write-push_write journal cell id own)
      ∙ sym (ap (λ b. cond b (Some cell.value.version) (last_version journal id)) own)
  by false other =
      ap (option_map (λ (write : Write). write.version)) (last_write-push_write_other journal cell id other)
      ∙ sym (ap (λ b. cond b (Some cell.value.version) (last_version journal id)) other)
