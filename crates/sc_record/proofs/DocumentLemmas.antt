-- Of the bytes that are kept of a document.
use Rattle.std.proofs.Common.{◌≡◌, ℕ, ◌-◌, ◌<◌, List, [], ◌∷◌, ◌++◌, length, take, drop, Option, Some, None, refl, sym, ap, ◌∙◌, append-nil, arith}
use Rattle.std.proofs.lemmas.List.{take_at, drop_at, length-append}
use Rattle.std.specs.Prelude.{IsSome}
use Rattle.sc_values.specs.declared.field.Field.{Field}
use Rattle.sc_values.specs.Fields.{IsDocument}
use Rattle.sc_spelling.specs.Reading.{document_at, read_of, rest_of}
use Rattle.sc_spelling.specs.Spellings.{spelling}
use Rattle.sc_spelling.proofs.NumberLemmas.{IsBytes, some_is}
use Rattle.sc_spelling.proofs.DocumentLemmas.{document_takes, document_again}
use Rattle.sc_record.specs.Documents.{IsWhole}

-- what is read to its end
pub read_whole : {A : Type 0} (o : Option (List A × List ℕ)) (rest : List ℕ) → rest_of o ≡ Some rest → o ≡ Some (read_of o, rest)
read_whole None rest e = absurd cc
read_whole (Some x) rest e = ap (λ (r : List ℕ). Some (x.0, r)) (some_is x.1 rest e)

-- what has a rest was read
pub read_some : {A : Type 0} (o : Option (List A × List ℕ)) (rest : List ℕ) → rest_of o ≡ Some rest → IsSome o
read_some None rest e = absurd cc
read_some (Some x) rest e = refl

-- the bytes that are kept are the spelling of the document
pub is_spelling : (bytes : List ℕ) → IsBytes bytes → IsWhole bytes → bytes ≡ spelling (read_of (document_at bytes))
is_spelling bytes fits whole =
    (document_takes bytes (read_of (document_at bytes), []) fits (read_whole (document_at bytes) [] whole.whole)).1 ∙ append-nil (spelling (read_of (document_at bytes)))

-- and it is a document
pub is_document : (bytes : List ℕ) → IsBytes bytes → IsWhole bytes → IsDocument (read_of (document_at bytes))
is_document bytes fits whole = (document_takes bytes (read_of (document_at bytes), []) fits (read_whole (document_at bytes) [] whole.whole)).0

-- the spelling of a document is read to its end
pub spelling_read : (fields : List Field) → IsDocument fields → document_at (spelling fields) ≡ Some (fields, [])
spelling_read fields document = ap document_at (sym (append-nil (spelling fields))) ∙ document_again fields [] document

-- a document has bytes
pub is_long : (bytes : List ℕ) → IsWhole bytes → 0 < length bytes
unfolding document_at
is_long [] whole = let none : None ≡ Some [] = whole.whole in absurd cc
is_long (b ∷ bytes) whole = omega arith

-- the first part of bytes, and what comes after it
pub front_is : (bytes text rest front : List ℕ) → bytes ≡ text ++ rest → front ≡ take (length bytes - length rest) bytes → front ≡ text
front_is bytes text rest front is cut =
    let long : length text ≡ length bytes - length rest = omega (arith, ap length is, length-append text rest) in
    cut ∙ ap (take (length bytes - length rest)) is ∙ take_at text rest (length bytes - length rest) long

pub back_is : (bytes text rest back : List ℕ) → bytes ≡ text ++ rest → back ≡ drop (length bytes - length rest) bytes → back ≡ rest
back_is bytes text rest back is cut =
    let long : length text ≡ length bytes - length rest = omega (arith, ap length is, length-append text rest) in
    cut ∙ ap (drop (length bytes - length rest)) is ∙ drop_at text rest (length bytes - length rest) long
