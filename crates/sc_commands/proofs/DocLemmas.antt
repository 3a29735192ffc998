-- An array of documents asks for the commands that add them.
use Rattle.std.proofs.Common.{◌≡◌, ℕ, ◌<◌, Bool, true, false, ◌||◌, List, [], ◌∷◌, length, map, Option, Some, None, option_map, option_and_then, Ok, Err, nat_lt, refl, ap, ◌∙◌, arith}
use Rattle.std.proofs.Math.Path.{ap₂}
use Rattle.std.proofs.lemmas.Bool.{lt-ltb}
use Rattle.std.proofs.lemmas.List.{length-map}
use Rattle.serde_json.specs.Data.{Data, null, boolean, number, string, array, object, Items, no_items, item}
use Rattle.sc_record.specs.Orders.{order_limit}
use Rattle.sc_schema.specs.declared.raw.RawDoc.{RawDoc}
use Rattle.sc_schema.specs.declared.raw.RawField.{RawField}
use Rattle.sc_json.specs.Bodies.{json_of}
use Rattle.sc_json.specs.Flat.{doc_fields, first_doc, docs_in, docs_of}
use Rattle.sc_json.specs.RawDocs.{raw_fields_of}
use Rattle.sc_commands.specs.Commands.{add, one, followed_by, each, added, asks_commit, reading}
use Rattle.sc_commands.specs.Listed.{added_docs}
use Rattle.sc_commands.specs.Updates.{asked_by_update, with_commit, read_commands, read_value}
use Rattle.sc_commands.specs.declared.batch.Flags.{Flags}
use Rattle.sc_commands.specs.declared.fault.CommandFault.TheVariants as faults

-- an object is a document to add
added_object : (value : Data) (fields : List RawField) → raw_fields_of value ≡ Some fields → added value ≡ Some (add fields)
added_object null fields e = absurd (cc)
added_object (boolean b) fields e = absurd (cc)
added_object (number n) fields e = absurd (cc)
added_object (string s) fields e = absurd (cc)
added_object (array items) fields e = absurd (cc)
added_object (object members) fields e = ap (λ found. option_map add found) e

first_added : (value : Data) (items : Items) (found : Option (List RawField)) (rest : Option (List (List RawField))) (docs : List (List RawField)) → raw_fields_of value ≡ found
    → ((more : List (List RawField)) → rest ≡ Some more → each added items ≡ Ok (map add more)) → first_doc found rest ≡ Some docs → each added (item value items) ≡ Ok (map add docs)
first_added value items None rest docs is later e = absurd (cc)
first_added value items (Some fields) None docs is later e = absurd (cc)
first_added value items (Some fields) (Some more) docs is later e =
    let same : fields ∷ more ≡ docs = cc in
    ap₂ (λ command commands. followed_by (one command) commands) (added_object value fields is) (later more refl) ∙ ap (λ all. Ok (map add all)) same

-- so is each of the items
each_added : (items : Items) (docs : List (List RawField)) → docs_in items ≡ Some docs → each added items ≡ Ok (map add docs)
each_added no_items docs e =
    let same : [] ≡ docs = cc in
    ap (λ all. Ok (map add all)) same
each_added (item value items) docs e = first_added value items (raw_fields_of value) (docs_in items) docs refl (λ more rest. each_added items more rest) e

reading_docs : (value : Data) (docs : List (List RawField)) → docs_of value ≡ Some docs → reading value ≡ Ok (map add docs)
reading_docs null docs e = absurd (cc)
reading_docs (boolean b) docs e = absurd (cc)
reading_docs (number n) docs e = absurd (cc)
reading_docs (string s) docs e = absurd (cc)
reading_docs (array items) docs e = each_added items docs e
reading_docs (object members) docs e = absurd (cc)

no_commit : (value : Data) (docs : List (List RawField)) → docs_of value ≡ Some docs → asks_commit value ≡ false
no_commit null docs e = refl
no_commit (boolean b) docs e = refl
no_commit (number n) docs e = refl
no_commit (string s) docs e = refl
no_commit (array items) docs e = refl
no_commit (object members) docs e = absurd (cc)

or_false : (b c : Bool) → c ≡ false → b || c ≡ b
or_false true c none = refl
or_false false c none = none

same_flags : (flags : Flags) (value : Data) → asks_commit value ≡ false → with_commit flags value ≡ flags
same_flags flags value none = ap (λ b. record flags { commit = b }) (or_false flags.commit (asks_commit value) none)

same_docs : (docs : List RawDoc) → map add (map doc_fields docs) ≡ added_docs docs
same_docs [] = refl
same_docs (doc ∷ docs) = ap (λ more. add doc.fields ∷ more) (same_docs docs)

read_fields : (flags : Flags) (found : Option Data) (docs : List (List RawField)) → option_and_then docs_of found ≡ Some docs → read_value flags found ≡ read_commands flags (Ok (map add docs))
read_fields flags None docs e = absurd (cc)
read_fields flags (Some value) docs e = ap₂ read_commands (same_flags flags value (no_commit value docs e)) (reading_docs value docs e)

read_found : (flags : Flags) (found : Option Data) (docs : List RawDoc) → option_and_then docs_of found ≡ Some (map doc_fields docs) → read_value flags found ≡ read_commands flags (Ok (added_docs docs))
read_found flags found docs e = read_fields flags found (map doc_fields docs) e ∙ ap (λ commands. read_commands flags (Ok commands)) (same_docs docs)

-- a body that is an array of these documents asks to add them
pub asks_for_docs : (flags : Flags) (body : List ℕ) (docs : List RawDoc) → 0 < length body → option_and_then docs_of (json_of body) ≡ Some (map doc_fields docs)
    → asked_by_update flags body ≡ read_commands flags (Ok (added_docs docs))
asks_for_docs flags [] docs some e = absurd (omega arith)
asks_for_docs flags (byte ∷ body) docs some e = read_found flags (json_of (byte ∷ body)) docs e

more_docs : (flags : Flags) (docs : List (List RawField)) → order_limit < length docs → read_commands flags (Ok (map add docs)) ≡ Err faults.TooMany
more_docs flags docs more = let counted : nat_lt order_limit (length (map add docs)) ≡ true = lt-ltb order_limit (length (map add docs)) (omega (arith, more, length-map docs add)) in rw counted

docs_counted : (flags : Flags) (found : Option Data) (docs : Option (List (List RawField))) (count : ℕ) → option_and_then docs_of found ≡ docs → option_map length docs ≡ Some count → order_limit < count
    → read_value flags found ≡ Err faults.TooMany
docs_counted flags found None count is e more = absurd (cc)
docs_counted flags found (Some docs) count is e more =
    let same : length docs ≡ count = cc in
    read_fields flags found docs is ∙ more_docs flags docs (rw same more)

-- an array of so many documents asks for too much
pub too_many_docs : (flags : Flags) (found : Option Data) (count : ℕ) → option_map length (option_and_then docs_of found) ≡ Some count → order_limit < count → read_value flags found ≡ Err faults.TooMany
too_many_docs flags found count e more = docs_counted flags found (option_and_then docs_of found) count refl e more
