-- A document that is shown has no number but whole ones.
use Rattle.std.proofs.Common.{◌≡◌, ℕ, ℤ, pos, negsuc, List, [], ◌∷◌, map, Bool, true, false, ◌||◌, Option, Some, None, Ordering, Less, Equal, Greater, nat_cmp, codes, refl}
use Rattle.std.specs.List.{AllByRecursion}
use Rattle.std.specs.Ordering.{match_ordering}
use Rattle.std.specs.Cmp.Lexicographic.{slice_cmp}
use Rattle.serde_json.specs.Data.{Data, string, Members, no_members, member, put}
use Rattle.serde_json.specs.View.{items_of}
use Rattle.serde_json.specs.Written.{has_float, items_have_float, members_have_float}
use Rattle.sc_values.specs.Fields.{kind_of}
use Rattle.sc_values.specs.declared.field.Field.{Field}
use Rattle.sc_values.specs.declared.value.Kind.{Kind}
use Rattle.sc_values.specs.declared.value.Value.{Value}
use Rattle.sc_values.specs.declared.value.Value.TheVariants as values
use Rattle.sc_json.specs.Documents.{put_all, members_of, whole_number, value_data, field_data, field_member, document_data}

put_at : (o : Ordering) (k l : List ℕ) (d e : Data) (ms : Members) → has_float d ≡ false → has_float e ≡ false → members_have_float ms ≡ false
    → members_have_float (put k d ms) ≡ false
    → members_have_float (match_ordering o (member k d (member l e ms)) (member l d ms) (member l e (put k d ms))) ≡ false
put_at Less k l d e ms here there rest later = rw (here, there, rest)
put_at Equal k l d e ms here there rest later = rw (here, rest)
put_at Greater k l d e ms here there rest later = rw (there, later)

first_part : (a b : Bool) → a || b ≡ false → a ≡ false
first_part true b h = cc
first_part false b h = refl

second_part : (a b : Bool) → a || b ≡ false → b ≡ false
second_part true b h = cc
second_part false b h = h

-- one more member
pub no_float-put : (k : List ℕ) (d : Data) (ms : Members) → has_float d ≡ false → members_have_float ms ≡ false → members_have_float (put k d ms) ≡ false
no_float-put k d no_members here rest = rw here
no_float-put k d (member l e ms) here rest =
    let there = first_part (has_float e) (members_have_float ms) rest in
    let others = second_part (has_float e) (members_have_float ms) rest in
    put_at (slice_cmp nat_cmp k l) k l d e ms here there others (no_float-put k d ms here others)

-- more members
pub no_float-put_all : (members : List (List ℕ × Data)) (ms : Members) → AllByRecursion (λ member. has_float member.1 ≡ false) members → members_have_float ms ≡ false
    → members_have_float (put_all members ms) ≡ false
no_float-put_all [] ms each rest = rest
no_float-put_all (m ∷ members) ms each rest = no_float-put m.0 m.1 (put_all members ms) each.0 (no_float-put_all members ms each.1 rest)

-- a whole number
pub no_float-number : (z : ℤ) → has_float (whole_number z) ≡ false
no_float-number (pos n) = refl
no_float-number (negsuc n) = refl

-- a list of values none of which has such a number
pub no_float-list : (A : Type 0) (shows : A → Data) → ((x : A) → has_float (shows x) ≡ false) → (xs : List A) → items_have_float (items_of (map shows xs)) ≡ false
no_float-list A shows each [] = refl
no_float-list A shows each (x ∷ xs) = rw (each x) (no_float-list A shows each xs)

no_float-value : (value : Value) → has_float (value_data value) ≡ false
no_float-value (values.Text text) = refl
no_float-value (values.Int n) = no_float-number n
no_float-value (values.Long n) = no_float-number n
no_float-value (values.Flag b) = refl

no_float-field : (kind : Option (Kind × Bool)) (all : List Value) → has_float (field_data kind all) ≡ false
no_float-field (Some (kind, false)) (value ∷ []) = no_float-value value
no_float-field (Some (kind, false)) [] = refl
no_float-field (Some (kind, false)) (first ∷ second ∷ more) = no_float-list Value value_data no_float-value (first ∷ second ∷ more)
no_float-field (Some (kind, true)) all = no_float-list Value value_data no_float-value all
no_float-field None all = no_float-list Value value_data no_float-value all

no_float-fields : (fields : List Field) → members_have_float (members_of (map field_member fields)) ≡ false
no_float-fields [] = refl
no_float-fields (field ∷ fields) =
    no_float-put field.name (field_data (kind_of field.name) field.values) (members_of (map field_member fields)) (no_float-field (kind_of field.name) field.values) (no_float-fields fields)

-- a document with its id and its version
pub no_float-document : (id : List ℕ) (version : ℤ) (document : Option (List Field)) → has_float (document_data id version document) ≡ false
no_float-document id version None = refl
no_float-document id version (Some fields) =
    let members = members_of (map field_member fields) in
    no_float-put (codes "_version_") (whole_number version) (put (codes "id") (string id) members) (no_float-number version) (no_float-put (codes "id") (string id) members refl (no_float-fields fields))
