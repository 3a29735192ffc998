-- What reading a document's fields answers is what was to be read.
use Rattle.std.proofs.Common.{◌≡◌, ℕ, true, List, ◌++◌, Option, Some, None, refl, ap, ◌∙◌}
use Rattle.sc_values.specs.declared.field.Field.{Field}
use Rattle.sc_spelling.specs.Spellings.{spelling}
use Rattle.sc_values.specs.Fields.{IsDocument}
use Rattle.sc_spelling.specs.Reading.{document_at}
use Rattle.sc_spelling.proofs.NumberLemmas.{IsBytes}
use Rattle.sc_spelling.proofs.DocumentLemmas.{document_takes}
use Rattle.sc_frames.specs.Reading.{doc_at}
use Rattle.sc_frames.proofs.PartLemmas.{doc_again}

-- fields that are spelled in front are read
pub doc_found : (bytes : List ℕ) (fields : List Field) (rest : List ℕ) → IsDocument fields → bytes ≡ spelling fields ++ rest → doc_at true bytes ≡ Some (Some fields, rest)
doc_found bytes fields rest has spelt = ap (doc_at true) spelt ∙ doc_again fields rest has

doc_none_of : (bytes : List ℕ) (o : Option (List Field × List ℕ)) → IsBytes bytes → ((fields : List Field) (more : List ℕ) → IsDocument fields → bytes ≡ spelling fields ++ more → ⊥)
    → document_at bytes ≡ o → doc_at true bytes ≡ None
unfolding doc_at
doc_none_of bytes None fits refused e = rw e refl
doc_none_of bytes (Some x) fits refused e = let t = document_takes bytes x fits e in absurd (refused x.0 x.1 t.0 t.1)

-- where none are spelled none are read
pub doc_refused : (bytes : List ℕ) → IsBytes bytes → ((fields : List Field) (more : List ℕ) → IsDocument fields → bytes ≡ spelling fields ++ more → ⊥) → doc_at true bytes ≡ None
doc_refused bytes fits refused = doc_none_of bytes (document_at bytes) fits refused refl
