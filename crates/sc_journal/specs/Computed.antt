-- What a write and an entry have besides what a reader of their bytes is given.
use Rattle.std.specs.Prelude.{◌≡◌, ⊤}
use Rattle.std.specs.Arc.{arc_value}
use Rattle.sc_record.specs.Writes.{Write}
use Rattle.sc_record.specs.declared.entry.Entry.{Entry}
use Rattle.sc_record.specs.declared.entry.Entry.TheVariants as entry
use Rattle.sc_router.specs.Route.{route_hash}
use Rattle.sc_journal.specs.Legal.{HasTerms}

-- the write has the hash of its id and the terms of its document
pub record IsComputed (write : Write) : Type 0 where
  pub hash : write.hash ≡ route_hash write.id
  pub terms : HasTerms write.id write.doc write.terms

-- what an entry has besides its values is computed
abbrev pub HasComputed : Entry → Type 0
HasComputed (entry.Write cell) = IsComputed (arc_value cell)
HasComputed other = ⊤
