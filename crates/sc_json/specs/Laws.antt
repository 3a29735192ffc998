-- The law that a document which is shown and sent back stays the same (Solr Reference Guide, "Optimistic Concurrency").
use Rattle.std.specs.Prelude.{◌≡◌, ℕ, ◌<◌, ◌≤◌, ℤ, List, length, Some, option_map, Ok, IsTrue}
use Rattle.sc_values.specs.Fields.{IsDocument}
use Rattle.sc_record.specs.Ids.{id_limit}
use Rattle.sc_record.specs.Orders.{is_long}
use Rattle.sc_values.specs.declared.field.Field.{Field}
use Rattle.sc_record.specs.declared.order.Change.TheVariants.{Whole}
use Rattle.sc_schema.specs.Documents.{document_order}
use Rattle.sc_json.specs.Documents.{document_data}
use Rattle.sc_json.specs.RawDocs.{raw_fields_of}

-- a document as it is kept, with its id, which may be so long, and its version of 64 bits
pub record IsStoredDocument (id : List ℕ) (version : ℤ) (fields : List Field) : Type 0 where
  pub named : 0 < length id
  pub short : length id ≤ id_limit
  pub long : IsTrue (is_long version)
  pub document : IsDocument fields

-- what is shown of the document, sent as one to add, asks for the same document of the same id, where its version is still that
abbrev pub AsksForItself : List ℕ → ℤ → List Field → Type 0
AsksForItself id version fields =
    option_map document_order (raw_fields_of (document_data id version (Some fields)))
    ≡ Some (Ok (record { id = id; condition = version; change = Whole fields }))

-- each document that is kept does
abbrev pub ReadsBack : Type 0
ReadsBack = (id : List ℕ) (version : ℤ) (fields : List Field) → IsStoredDocument id version fields → AsksForItself id version fields
