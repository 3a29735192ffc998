-- The documents of an array, and what the next tokens of a text are to the reading of documents.
use Rattle.std.specs.Prelude.{◌≡◌, ℕ, List, [], ◌∷◌, length, take, drop, Option, Some, None, option_map, option_and_then}
use Rattle.std.specs.Cmp.Lexicographic.{slice_cmp}
use Rattle.std.specs.List.{AllByRecursion}
use Rattle.std.specs.Ordering.{nat_cmp}
use Rattle.std.specs.declared.cmp.Ordering.TheVariants.{Less}
use Rattle.json.specs.Token.{Token}
use Rattle.json.specs.Json.{parse_map, items, members, value}
use Rattle.serde_json.specs.Data.{Data, null, boolean, number, string, array, object, Items, no_items, item, Members, no_members}
use Rattle.serde_json.specs.Read.{of_json, of_items, of_members, converted, number_of}
use Rattle.sc_schema.specs.declared.raw.RawDoc.{RawDoc}
use Rattle.sc_schema.specs.declared.raw.RawField.{RawField}
use Rattle.sc_schema.specs.declared.raw.RawOne.{RawOne}
use Rattle.sc_schema.specs.declared.raw.RawOne.TheVariants as ones
use Rattle.sc_json.specs.RawDocs.{raw_number, raw_fields, raw_fields_of}

-- the most fields of a document of an array that is read as it comes
abbrev pub most_flat_fields : ℕ
most_flat_fields = 64

-- the fields of a document
abbrev pub doc_fields : RawDoc → List RawField
doc_fields doc = doc.fields

-- a document and those after it
abbrev pub first_doc : Option (List RawField) → Option (List (List RawField)) → Option (List (List RawField))
first_doc doc docs = option_and_then (λ fields. option_map (λ more. fields ∷ more) docs) doc

-- the fields of each item, where all are objects
abbrev pub docs_in : Items → Option (List (List RawField))
docs_in no_items = Some []
docs_in (item value items) = first_doc (raw_fields_of value) (docs_in items)

-- the fields of each document of an array of objects
abbrev pub docs_of : Data → Option (List (List RawField))
docs_of (array items) = docs_in items
docs_of null = None
docs_of (boolean b) = None
docs_of (number n) = None
docs_of (string text) = None
docs_of (object _) = None

-- how deep arrays and objects may be in one another: in a body, in a document, in its member and in an item of this
abbrev pub body_depth : ℕ
body_depth = 127

abbrev pub doc_depth : ℕ
doc_depth = 126

abbrev pub member_depth : ℕ
member_depth = 125

abbrev pub item_depth : ℕ
item_depth = 124

-- what f says of the value that comes next, and the tokens after it
abbrev pub next_by : {A : Type 0} → (Data → A) → ℕ → List Token → Option (A × List Token)
next_by f depth tokens = parse_map f (converted of_json (value depth tokens))

-- so many documents were read, and these are the tokens after them
abbrev pub HasCount : ℕ → List Token → Option (Option (List (List RawField)) × List Token) → Type 0
HasCount count rest read = (docs : List (List RawField)) × (read ≡ Some (Some docs, rest)) × (length docs ≡ count)

-- what f says of the items up to the end of an array that has begun, and the tokens after it
abbrev pub items_by : {A : Type 0} → (Items → A) → ℕ → List Token → Option (A × List Token)
items_by f depth tokens = parse_map f (converted of_items (items (value depth) (length tokens) tokens))

-- the fields of the first members of an object and of at most n members up to its end, and the tokens after it
abbrev pub fields_left : ℕ → ℕ → Members → List Token → Option (List RawField × List Token)
fields_left depth n first tokens = parse_map raw_fields (converted (λ ms. of_members ms first) (members (value depth) n tokens))

-- the fields up to the end of an object that has begun, and the tokens after it
abbrev pub fields_by : ℕ → List Token → Option (List RawField × List Token)
fields_by depth tokens = fields_left depth (length tokens) no_members tokens

-- the value that one token is
abbrev pub one_of : Token → Option RawOne
one_of Token.begin_object = None
one_of Token.end_object = None
one_of Token.begin_array = None
one_of Token.end_array = None
one_of (Token.key text) = None
one_of (Token.string text) = Some (ones.Text text)
one_of (Token.number text) = option_map raw_number (number_of text)
one_of (Token.boolean b) = Some (ones.Flag b)
one_of Token.null = Some ones.Null
one_of Token.bad = None

-- the names before the place come before this name, and those from there on after it
abbrev pub IsNamePlace : List ℕ → List (List ℕ) → ℕ → Type 0
IsNamePlace name names at =
    AllByRecursion (λ other. slice_cmp nat_cmp other name ≡ Less) (take at names) × AllByRecursion (λ other. slice_cmp nat_cmp name other ≡ Less) (drop at names)
