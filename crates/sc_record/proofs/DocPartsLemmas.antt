-- Of the bytes that a builder of a document has.
use Rattle.std.proofs.Common.{◌≡◌, ℕ, ◌≤◌, ◌<◌, ◌^◌, Some, refl, List, [], ◌++◌, length, drop, sym, ap, ◌∙◌, append_assoc, append-nil, arith}
use Rattle.std.specs.Prelude.{OnOk, OnErr, Result, Ok, Err}
use Rattle.std.proofs.lemmas.List.{length-append, length-drop}
use Rattle.std.specs.Int.{w16, w32, to_le_bytes}
use Rattle.std.specs.List.{flat_map}
use Rattle.sc_values.specs.declared.value.Value.{Value}
use Rattle.sc_spelling.specs.Spellings.{spelling_of_value, spelling_of_field, Extends}
use Rattle.sc_spelling.specs.Reading.{document_at, rest_of}
use Rattle.sc_record.specs.Documents.{IsWhole}
use Rattle.sc_record.specs.DocParts.{spelling_before_values}

-- bytes that were put at the end leave room for the number of the fields
pub still_long : {T E : Type 0} (r : Result T E) (old more new : List ℕ) → 4 ≤ length old → OnOk r (new ≡ old ++ more) → OnErr r (Extends old new) → 4 ≤ length new
still_long (Ok x) old more new long ok err = omega (arith, long, ap length ok, length-append old more)
still_long (Err e) old more new long ok err = omega (arith, long, ap length err.whole, length-append old err.more)

-- what stands before the values and the spellings of these are the spelling of the field
pub spelled_field : (name : List ℕ) (values : List Value) (old : List ℕ)
    → (old ++ spelling_before_values name (length values)) ++ flat_map spelling_of_value values
    ≡ old ++ (spelling_of_field (record { name = name; values = values }) ++ [])
spelled_field name values old =
    let a : List ℕ = to_le_bytes w16 (length name) in
    let b : List ℕ = to_le_bytes w32 (length values) in
    let each : List ℕ = flat_map spelling_of_value values in
    append_assoc old (a ++ (name ++ b)) each
    ∙ ap (λ (l : List ℕ). old ++ l) (append_assoc a (name ++ b) each ∙ ap (λ (l : List ℕ). a ++ l) (append_assoc name b each)
    ∙ sym (append-nil (a ++ (name ++ (b ++ each)))))

-- the number of the fields and their spellings are the spelling of a document, whole
pub whole_counted : (count : ℕ) (bytes items : List ℕ) → items ≡ to_le_bytes w32 count ++ drop 4 bytes → 4 ≤ length bytes → length bytes < 2 ^ 32
    → rest_of (document_at (to_le_bytes w32 count ++ drop 4 bytes)) ≡ Some [] → IsWhole items
whole_counted count bytes items is long few read =
    let four : length (to_le_bytes w32 count) ≡ 4 = refl in
    record {
      whole = ap (λ (b : List ℕ). rest_of (document_at b)) is ∙ read;
      few = omega (arith, ap length is, length-append (to_le_bytes w32 count) (drop 4 bytes), length-drop 4 bytes, four, few, long);
    }
