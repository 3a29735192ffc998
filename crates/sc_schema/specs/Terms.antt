-- The terms by which a document is found.
use Rattle.std.specs.Prelude.{◌↔◌, ℕ, Bool, true, false, List, [], ◌∷◌, map, flat_map, chars, encode_utf8_all, codes, Contains, Option, Some, None, option_map, option_and_then, if◌then◌else◌, ℤ}
use Rattle.std.specs.Fmt.{signed_decimal}
use Rattle.std.specs.List.Sorted.{IsStrictlySortedBy}
use Rattle.unicode_segmentation.specs.Word.{words}
use Rattle.caseless.specs.Caseless.{default_case_fold}
use Rattle.sc_values.specs.Fields.{kind_of}
use Rattle.sc_record.specs.Orders.{is_int}
use Rattle.sc_record.specs.Terms.{term_cmp}
use Rattle.sc_values.specs.declared.value.Kind.{Kind}
use Rattle.sc_values.specs.declared.value.Kind.TheVariants as kinds
use Rattle.sc_values.specs.declared.value.Value.{Value}
use Rattle.sc_values.specs.declared.value.Value.TheVariants as values
use Rattle.sc_values.specs.declared.field.Field.{Field}
use Rattle.sc_record.specs.declared.term.Term.{Term}
use Rattle.sc_schema.specs.Values.{flag_text, flag_named, number_text}

-- a text under default case folding (The Unicode Standard, section 3.13)
abbrev pub folded : List ℕ → List ℕ
folded text = encode_utf8_all (default_case_fold (chars text))

-- the one word of a text, folded; None where it has no word or several (Unicode Standard Annex 29)
abbrev pub only_word : List (List ℕ) → Option (List ℕ)
only_word [] = None
only_word (word ∷ []) = Some (folded word)
only_word (word ∷ (next ∷ others)) = None

-- the fields of this kind are found word by word
abbrev pub by_words : Option (Kind × Bool) → Bool
by_words None = false
by_words (Some (kinds.Str, many)) = false
by_words (Some (kinds.Int, many)) = false
by_words (Some (kinds.Long, many)) = false
by_words (Some (kinds.Flag, many)) = false
by_words (Some (kinds.Words, many)) = true

-- the keys of a text: each of its words, folded, or the text whole
abbrev pub text_keys : Bool → List ℕ → List (List ℕ)
text_keys true text = map folded (words text)
text_keys false text = text ∷ []

-- the keys of a value; that of a number is its decimal text, and that of a truth value its name
abbrev pub keys_of : Bool → Value → List (List ℕ)
keys_of split (values.Text text) = text_keys split text
keys_of split (values.Int n) = signed_decimal n ∷ []
keys_of split (values.Long n) = signed_decimal n ∷ []
keys_of split (values.Flag flag) = flag_text flag ∷ []

-- the number of 32 bits that a text writes
abbrev pub int_of : List ℕ → Option ℤ
int_of text = option_and_then (λ (n : ℤ). if is_int n then Some n else None) (number_text text)

-- the key that a query's text asks for in a field of this kind; None where it can be none
abbrev pub key_of : Kind → List ℕ → Option (List ℕ)
key_of kinds.Str text = Some text
key_of kinds.Int text = option_map signed_decimal (int_of text)
key_of kinds.Long text = option_map signed_decimal (number_text text)
key_of kinds.Flag text = option_map flag_text (flag_named text)
key_of kinds.Words text = only_word (words text)

-- a key in a field
abbrev pub term : List ℕ → List ℕ → Term
term field key = record { field = field; key = key }

-- the terms of a field
abbrev pub field_terms : Field → List Term
field_terms field = map (term field.name) (flat_map (keys_of (by_words (kind_of field.name))) field.values)

-- what a document is found by: its id, and the keys of its fields
abbrev pub found_by : List ℕ → List Field → List Term
found_by id fields = term (codes "id") id ∷ flat_map field_terms fields

-- the terms of a document: they ascend by field, then key, each once, and are just those that it is found by
pub record AreTerms (id : List ℕ) (fields : List Field) (terms : List Term) : Type 0 where
  pub ascend : IsStrictlySortedBy term_cmp terms
  pub same : (t : Term) → Contains terms t ↔ Contains (found_by id fields) t
