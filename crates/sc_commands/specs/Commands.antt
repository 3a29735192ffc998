-- The commands of an update's body (Solr Reference Guide, "Indexing with Update Handlers", "JSON Formatted Index Updates").
use Rattle.std.specs.Prelude.{ℕ, ◌+◌, Bool, true, false, ◌&&◌, ◌||◌, List, [], ◌∷◌, ◌++◌, length, codes, if◌then◌else◌, Option, Some, None, is_some, unwrap_or, option_and_then, Result, Ok, Err}
use Rattle.std.specs.List.{list_any}
use Rattle.std.specs.Option.{option_map_or}
use Rattle.std.specs.Str.{bytes_eq}
use Rattle.serde_json.specs.Data.{Data, array, object, Items, no_items, item, Members, no_members, member}
use Rattle.serde_json.specs.Find.{get, as_bool, as_str, as_number, as_i64, as_object}
use Rattle.sc_schema.specs.declared.raw.RawField.{RawField}
use Rattle.sc_schema.specs.declared.raw.RawFlat.TheVariants.{One}
use Rattle.sc_schema.specs.declared.raw.RawValue.TheVariants.{Plain}
use Rattle.sc_json.specs.RawDocs.{raw_one, raw_fields}

-- a document to add, or the id and the version of one to delete, as they came
pub data Command : Type 0 where
  add : List RawField → Command
  delete : List RawField → Command

-- the commands that were read, or how many were read before what has none of the forms
abbrev pub Reading : Type 0
Reading = Result (List Command) ℕ

-- commands and those after them
abbrev pub followed_by : Reading → Reading → Reading
followed_by (Ok first) (Ok later) = Ok (first ++ later)
followed_by (Ok first) (Err at) = Err (length first + at)
followed_by (Err at) later = Err at

-- one command, where a value is one
abbrev pub one : Option Command → Reading
one (Some command) = Ok (command ∷ [])
one None = Err 0

-- a command for each item, in order
abbrev pub each : (Data → Option Command) → Items → Reading
each form no_items = Ok []
each form (item value items) = followed_by (one (form value)) (each form items)

-- the fields of an object; a text or a number stands for the object that has it as its id
abbrev pub order_members : Data → List RawField
order_members (object members) = raw_fields members
order_members value = record { name = codes "id"; value = Plain (One (raw_one value)) } ∷ []

-- the value is an object
abbrev pub is_json_object : Data → Bool
is_json_object value = is_some (as_object value)

-- the value is a text or a whole number of 64 signed bits
abbrev pub can_be_id : Data → Bool
can_be_id value = is_some (as_str value) || is_some (option_and_then as_i64 (as_number value))

-- each key of the members is one of these
abbrev pub has_only : List (List ℕ) → Members → Bool
has_only keys no_members = true
has_only keys (member key value members) = list_any (bytes_eq key) keys && has_only keys members

-- the value is an object with no other keys than these
abbrev pub has_keys : List (List ℕ) → Data → Bool
has_keys keys (object members) = has_only keys members
has_keys keys value = false

-- a document to add is an object
abbrev pub added : Data → Option Command
added value = if is_json_object value then Some (add (order_members value)) else None

-- the object may have documents in the place of older ones: `overwrite` may be left out, or true
abbrev pub overwrites : Data → Bool
overwrites value = option_map_or (λ flag. unwrap_or (as_bool flag) false) (get (codes "overwrite") value) true

-- the document of an object that adds the one of its key `doc`; `commitWithin` is ignored
abbrev pub added_doc : Data → Option Command
added_doc value =
    if has_keys (codes "doc" ∷ codes "commitWithin" ∷ codes "overwrite" ∷ []) value && overwrites value
    then option_and_then added (get (codes "doc") value)
    else None

-- what the key `add` has: documents, or an object that adds one
abbrev pub orders_of_add : Data → Reading
orders_of_add (array items) = each added items
orders_of_add value = one (added_doc value)

-- an id in an array of ids to delete
abbrev pub deleted : Data → Option Command
deleted value = if can_be_id value then Some (delete (order_members value)) else None

-- the value names one document to delete: it is its id, or an object that has the id and may have a version as the condition
abbrev pub names_one : Data → Bool
names_one (object members) =
    has_only (codes "id" ∷ codes "_version_" ∷ []) members && option_map_or can_be_id (get (codes "id") (object members)) false
names_one value = can_be_id value

-- what the key `delete` has: ids, or what names one document
abbrev pub orders_of_delete : Data → Reading
orders_of_delete (array items) = each deleted items
orders_of_delete value = if names_one value then Ok (delete (order_members value) ∷ []) else Err 0

-- what the key `commit` has: an object, whose content is ignored
abbrev pub commit_of : Data → Reading
commit_of value = if is_json_object value then Ok [] else Err 0

-- what a key has; nothing, where it is not there
abbrev pub where_there : (Data → Reading) → Option Data → Reading
where_there reads None = Ok []
where_there reads (Some value) = reads value

-- an object of commands: what is added comes first, then what is deleted, then the commit, however the keys stand
abbrev pub commands_of : Data → Reading
commands_of value =
    if has_keys (codes "add" ∷ codes "delete" ∷ codes "commit" ∷ []) value
    then followed_by (where_there orders_of_add (get (codes "add") value))
    (followed_by (where_there orders_of_delete (get (codes "delete") value)) (where_there commit_of (get (codes "commit") value)))
    else Err 0

-- what a body's value asks for: an array of documents to add, or an object of commands
abbrev pub reading : Data → Reading
reading (array items) = each added items
reading value = commands_of value

-- the value asks for a commit
abbrev pub asks_commit : Data → Bool
asks_commit value = is_some (get (codes "commit") value)
