-- What is shown of a document is read as that document.
use Rattle.std.proofs.Common.{◌≡◌, ℕ, ◌<◌, ◌≤◌, ℤ, pos, negsuc, Bool, true, false, ◌||◌, cond, List, [], ◌∷◌, length, map, codes, Option, Some, None, Ok, Ordering, Less, Equal, Greater, nat_cmp, refl, sym, ap, subst, ◌∙◌, ◌^◌, arith}
use Rattle.std.proofs.Math.Path.{ap₂}
use Rattle.std.specs.Prelude.{FitsSigned, IsTrue, ⊤}
use Rattle.std.specs.Int.{w32, w64}
use Rattle.std.specs.Bool.{nat_lt}
use Rattle.std.specs.Str.{bytes_eq}
use Rattle.std.specs.List.{list_any, list_all, filter_map, cons_option, AllByRecursion}
use Rattle.std.specs.Ordering.{match_ordering, is_eq}
use Rattle.std.specs.Cmp.Lexicographic.{slice_cmp, texts_ties}
use Rattle.std.proofs.lemmas.Bool.{and_parts}
use Rattle.std.proofs.lemmas.Bool.Decides.{nat_tests}
use Rattle.std.proofs.lemmas.Cmp.{nat_list_eq_equiv}
use Rattle.std.proofs.lemmas.Int.{ints}
use Rattle.std.proofs.lemmas.Slice.Eq.{bytes_eq-Decides}
use Rattle.serde_json.specs.Data.{Data, string, Members, no_members, member, put}
use Rattle.serde_json.specs.Find.{of_integer}
use Rattle.serde_json.specs.View.{items_of}
use Rattle.sc_values.specs.Fields.{kind_of, fits_kind, fits_count, fits_name, FitsValue, FitsField, IsField, Ascends}
use Rattle.sc_record.specs.Orders.{is_int, is_long}
use Rattle.sc_values.specs.declared.field.Field.{Field}
use Rattle.sc_record.specs.declared.order.Change.{Change}
use Rattle.sc_record.specs.declared.order.Change.TheVariants.{Whole}
use Rattle.sc_record.specs.declared.order.FieldChange.{FieldChange}
use Rattle.sc_record.specs.declared.order.How.TheVariants.{Set}
use Rattle.sc_values.specs.declared.value.Kind.{Kind}
use Rattle.sc_values.specs.declared.value.Kind.TheVariants as kinds
use Rattle.sc_values.specs.declared.value.Value.{Value}
use Rattle.sc_values.specs.declared.value.Value.TheVariants as values
use Rattle.sc_schema.specs.Documents.{member as found, id_of, id_text, version_condition, is_field_name, is_object, member_changes, member_change, and_then, found_map, change_of_members, set_field, field_of, document_order}
use Rattle.sc_schema.specs.Values.{value_of, values_in, how_of_value}
use Rattle.sc_schema.specs.declared.raw.RawField.{RawField}
use Rattle.sc_schema.specs.declared.raw.RawOne.TheVariants as ones
use Rattle.sc_json.specs.Documents.{members_of, whole_number, value_data, field_data, field_member}
use Rattle.sc_json.specs.RawDocs.{raw_number, raw_one, raw_items, raw_value, raw_fields}
use Rattle.sc_json.specs.Laws.{ReadsBack}

-- a number has as many bits as its kind has
abbrev pub HasItsBits : Value → Type 0
HasItsBits (values.Text text) = ⊤
HasItsBits (values.Int n) = IsTrue (is_int n)
HasItsBits (values.Long n) = IsTrue (is_long n)
HasItsBits (values.Flag b) = ⊤

-- so has each number of a field
abbrev pub IsFieldInRange : Field → Type 0
IsFieldInRange field = AllByRecursion HasItsBits field.values

is_int-fits : (n : ℤ) → FitsSigned w32 n → is_int n ≡ true
is_int-fits (pos n) fits = grind (arith, ints, nat_tests)
is_int-fits (negsuc n) fits = grind (arith, ints, nat_tests)

is_long-fits : (n : ℤ) → FitsSigned w64 n → is_long n ≡ true
is_long-fits (pos n) fits = grind (arith, ints, nat_tests)
is_long-fits (negsuc n) fits = grind (arith, ints, nat_tests)

-- the numbers of a document have
value_bits : (v : Value) → FitsValue v → HasItsBits v
value_bits (values.Text text) fits = tt
value_bits (values.Int n) fits = is_int-fits n fits
value_bits (values.Long n) fits = is_long-fits n fits
value_bits (values.Flag b) fits = tt

values_bits : (vs : List Value) → AllByRecursion FitsValue vs → AllByRecursion HasItsBits vs
values_bits [] each = tt
values_bits (v ∷ vs) each = (value_bits v each.0, values_bits vs each.1)

fields_bits : (fields : List Field) → AllByRecursion FitsField fields → AllByRecursion IsFieldInRange fields
fields_bits [] each = tt
fields_bits (f ∷ fields) each = (values_bits f.values each.0.each, fields_bits fields each.1)

-- names are one just where they compare equal
pub name_from : (k l : List ℕ) (o : Ordering) → slice_cmp nat_cmp k l ≡ o → bytes_eq l k ≡ is_eq o
name_from k l o h = nat_list_eq_equiv.symm l k ∙ texts_ties k l ∙ ap is_eq h

one_name : (k l : List ℕ) → slice_cmp nat_cmp k l ≡ Equal → l ≡ k
one_name k l h = (bytes_eq-Decides l k).0 (name_from k l Equal h)

-- a member that is put among others is found
found_at : (o : Ordering) (k l : List ℕ) (d e : Data) (ms : Members) → slice_cmp nat_cmp k l ≡ o
    → found (raw_fields (put k d ms)) k ≡ Some (raw_value d)
    → found (raw_fields (match_ordering o (member k d (member l e ms)) (member l d ms) (member l e (put k d ms)))) k ≡ Some (raw_value d)
found_at Less k l d e ms h later = rw (nat_list_eq_equiv.refl k) refl
found_at Equal k l d e ms h later = rw (name_from k l Equal h) refl
found_at Greater k l d e ms h later = rw (name_from k l Greater h) later

found-put : (k : List ℕ) (d : Data) (ms : Members) → found (raw_fields (put k d ms)) k ≡ Some (raw_value d)
found-put k d no_members = rw (nat_list_eq_equiv.refl k) refl
found-put k d (member l e ms) = found_at (slice_cmp nat_cmp k l) k l d e ms refl (found-put k d ms)

-- and what is found by other names stays
kept_at : (o : Ordering) (j k l : List ℕ) (d e : Data) (ms : Members) → slice_cmp nat_cmp k l ≡ o → bytes_eq k j ≡ false
    → found (raw_fields (put k d ms)) j ≡ found (raw_fields ms) j
    → found (raw_fields (match_ordering o (member k d (member l e ms)) (member l d ms) (member l e (put k d ms)))) j ≡ found (raw_fields (member l e ms)) j
kept_at Less j k l d e ms h other later = rw other refl
kept_at Equal j k l d e ms h other later =
    rw (subst (λ (n : List ℕ). bytes_eq n j ≡ false) (sym (one_name k l h)) other) refl
kept_at Greater j k l d e ms h other later = ap (λ o. cond (bytes_eq l j) (Some (raw_value e)) o) later

kept-put : (j k : List ℕ) (d : Data) (ms : Members) → bytes_eq k j ≡ false → found (raw_fields (put k d ms)) j ≡ found (raw_fields ms) j
kept-put j k d no_members other = rw other refl
kept-put j k d (member l e ms) other = kept_at (slice_cmp nat_cmp k l) j k l d e ms refl other (kept-put j k d ms other)

-- what is put under a name that is no field's changes no field
parts_at : (o : Ordering) (k l : List ℕ) (d e : Data) (ms : Members) → slice_cmp nat_cmp k l ≡ o → is_field_name k ≡ false
    → member_changes (raw_fields (put k d ms)) ≡ member_changes (raw_fields ms)
    → member_changes (raw_fields (match_ordering o (member k d (member l e ms)) (member l d ms) (member l e (put k d ms)))) ≡ member_changes (raw_fields (member l e ms))
parts_at Less k l d e ms h apart later = rw apart refl
parts_at Equal k l d e ms h apart later =
    rw (subst (λ (n : List ℕ). is_field_name n ≡ false) (sym (one_name k l h)) apart) refl
parts_at Greater k l d e ms h apart later =
    ap (λ rest. cond (is_field_name l) (and_then (λ part. found_map (λ parts. part ∷ parts) rest) (member_change (record { name = l; value = raw_value e }))) rest) later

parts-put : (k : List ℕ) (d : Data) (ms : Members) → is_field_name k ≡ false → member_changes (raw_fields (put k d ms)) ≡ member_changes (raw_fields ms)
parts-put k d no_members apart = rw apart refl
parts-put k d (member l e ms) apart = parts_at (slice_cmp nat_cmp k l) k l d e ms refl apart (parts-put k d ms apart)

-- a member's value is an object
has_object : List RawField → Bool
has_object fields = list_any (λ (field : RawField). is_object field.value) fields

first_part : (a b : Bool) → a || b ≡ false → a ≡ false
first_part true b h = cc
first_part false b h = refl

second_part : (a b : Bool) → a || b ≡ false → b ≡ false
second_part true b h = cc
second_part false b h = h

plain_at : (o : Ordering) (k l : List ℕ) (d e : Data) (ms : Members) → is_object (raw_value d) ≡ false → is_object (raw_value e) ≡ false
    → has_object (raw_fields ms) ≡ false → has_object (raw_fields (put k d ms)) ≡ false
    → has_object (raw_fields (match_ordering o (member k d (member l e ms)) (member l d ms) (member l e (put k d ms)))) ≡ false
unfolding has_object
plain_at Less k l d e ms here there rest later = rw (here, there, rest)
plain_at Equal k l d e ms here there rest later = rw (here, rest)
plain_at Greater k l d e ms here there rest later = rw (there, later)

plain-put : (k : List ℕ) (d : Data) (ms : Members) → is_object (raw_value d) ≡ false → has_object (raw_fields ms) ≡ false
    → has_object (raw_fields (put k d ms)) ≡ false
unfolding has_object
plain-put k d no_members here rest = rw here
plain-put k d (member l e ms) here rest =
    let there = first_part (is_object (raw_value e)) (has_object (raw_fields ms)) rest in
    let others = second_part (is_object (raw_value e)) (has_object (raw_fields ms)) rest in
    plain_at (slice_cmp nat_cmp k l) k l d e ms here there others (plain-put k d ms here others)

plain_value : (value : Value) → is_object (raw_value (value_data value)) ≡ false
plain_value (values.Text text) = refl
plain_value (values.Int n) = refl
plain_value (values.Long n) = refl
plain_value (values.Flag b) = refl

plain_field : (kind : Option (Kind × Bool)) (all : List Value) → is_object (raw_value (field_data kind all)) ≡ false
plain_field (Some (kind, false)) (value ∷ []) = plain_value value
plain_field (Some (kind, false)) [] = refl
plain_field (Some (kind, false)) (first ∷ second ∷ more) = refl
plain_field (Some (kind, true)) all = refl
plain_field None all = refl

plain_fields : (fields : List Field) → has_object (raw_fields (members_of (map field_member fields))) ≡ false
unfolding has_object
plain_fields [] = refl
plain_fields (field ∷ fields) =
    plain-put field.name (field_data (kind_of field.name) field.values) (members_of (map field_member fields))
    (plain_field (kind_of field.name) field.values) (plain_fields fields)

-- a member whose name comes before the first one is put before it
put_below : (k l : List ℕ) (d e : Data) (ms : Members) → slice_cmp nat_cmp k l ≡ Less → put k d (member l e ms) ≡ member k d (member l e ms)
put_below k l d e ms h = ap (λ o. match_ordering o (member k d (member l e ms)) (member l d ms) (member l e (put k d ms))) h

data_of : Field → Data
data_of field = field_data (kind_of field.name) field.values

pub shown_first : (f : Field) (fields : List Field) → Ascends (f ∷ fields)
    → members_of (map field_member (f ∷ fields)) ≡ member f.name (field_data (kind_of f.name) f.values) (members_of (map field_member fields))
unfolding data_of
shown_first f [] a = refl
shown_first f (g ∷ fields) a =
    let next = shown_first g fields a.1 in
    ap (put f.name (data_of f)) next
    ∙ put_below f.name g.name (data_of f) (data_of g) (members_of (map field_member fields)) a.0
    ∙ ap (member f.name (data_of f)) (sym next)

-- a whole number of 64 bits is read as it was
as_long : (n : ℤ) → is_long n ≡ true → raw_number (of_integer n) ≡ ones.Number n
as_long (pos n) h =
    let small : nat_lt n (2 ^ 63) ≡ true = grind (arith, ints, nat_tests) in
    rw small refl
as_long (negsuc n) h = refl

int-long : (n : ℤ) → is_int n ≡ true → is_long n ≡ true
int-long (pos n) h = grind (arith, ints, nat_tests)
int-long (negsuc n) h = grind (arith, ints, nat_tests)

-- a value is read as the value that is shown
value_back : (kind : Kind) (v : Value) → fits_kind kind v ≡ true → HasItsBits v → value_of kind (raw_one (value_data v)) ≡ Some v
value_back kinds.Str (values.Text text) fits range = refl
value_back kinds.Words (values.Text text) fits range = refl
value_back kinds.Int (values.Int n) fits range = rw (as_long n (int-long n range), range) refl
value_back kinds.Long (values.Long n) fits range = rw (as_long n range) refl
value_back kinds.Flag (values.Flag b) fits range = refl
value_back kinds.Str (values.Int n) fits range = cc
value_back kinds.Str (values.Long n) fits range = cc
value_back kinds.Str (values.Flag b) fits range = cc
value_back kinds.Words (values.Int n) fits range = cc
value_back kinds.Words (values.Long n) fits range = cc
value_back kinds.Words (values.Flag b) fits range = cc
value_back kinds.Int (values.Text text) fits range = cc
value_back kinds.Int (values.Long n) fits range = cc
value_back kinds.Int (values.Flag b) fits range = cc
value_back kinds.Long (values.Text text) fits range = cc
value_back kinds.Long (values.Int n) fits range = cc
value_back kinds.Long (values.Flag b) fits range = cc
value_back kinds.Flag (values.Text text) fits range = cc
value_back kinds.Flag (values.Int n) fits range = cc
value_back kinds.Flag (values.Long n) fits range = cc

values_back : (kind : Kind) (vs : List Value) → list_all (fits_kind kind) vs ≡ true → AllByRecursion HasItsBits vs
    → values_in kind (raw_items (items_of (map value_data vs))) ≡ Some vs
values_back kind [] fits range = refl
values_back kind (v ∷ vs) fits range =
    let (here, others) = and_parts (fits_kind kind v) (list_all (fits_kind kind) vs) fits in
    rw (value_back kind v here range.0, values_back kind vs others range.1) refl

-- a value alone sets the field to it
one_back : (kind : Kind) (v : Value) → value_of kind (raw_one (value_data v)) ≡ Some v → HasItsBits v
    → how_of_value kind false (raw_value (value_data v)) ≡ Some (Set (v ∷ []))
one_back kind (values.Text text) back range = rw back refl
one_back kind (values.Int n) back range =
    let read = as_long n (int-long n range) in
    let plain : value_of kind (ones.Number n) ≡ Some (values.Int n) = sym (ap (value_of kind) read) ∙ back in
    rw read (rw plain refl)
one_back kind (values.Long n) back range =
    let read = as_long n range in
    let plain : value_of kind (ones.Number n) ≡ Some (values.Long n) = sym (ap (value_of kind) read) ∙ back in
    rw read (rw plain refl)
one_back kind (values.Flag b) back range = rw back refl

-- the values that are shown of a field set it to them
field_back : (kind : Kind) (many : Bool) (vs : List Value) → list_all (fits_kind kind) vs ≡ true → fits_count many (length vs) ≡ true
    → AllByRecursion HasItsBits vs → how_of_value kind many (raw_value (field_data (Some (kind, many)) vs)) ≡ Some (Set vs)
field_back kind true vs fits count range = rw (values_back kind vs fits range) refl
field_back kind false [] fits count range = cc
field_back kind false (v ∷ []) fits count range =
    one_back kind v (value_back kind v (and_parts (fits_kind kind v) true fits).0 range.0) range.0
field_back kind false (v ∷ w ∷ vs) fits count range = grind (arith, nat_tests)

-- a member is the change that sets its field
set_to : Field → FieldChange
set_to field = record { name = field.name; how = Set field.values }

part_back : (name : List ℕ) (vs : List Value) (kind : Option (Kind × Bool)) → kind_of name ≡ kind → fits_name kind vs ≡ true
    → AllByRecursion HasItsBits vs
    → member_change (record { name = name; value = raw_value (field_data (kind_of name) vs) }) ≡ Ok (record { name = name; how = Set vs })
part_back name vs None is fits range = cc
part_back name vs (Some (kind, many)) is fits range =
    let (each, count) = and_parts (list_all (fits_kind kind) vs) (fits_count many (length vs)) fits in
    rw (is, field_back kind many vs each count range) refl

-- the name of a field is neither that of the id nor that of the version
pub other_name : (name other : List ℕ) (vs : List Value) (b : Bool) → bytes_eq name other ≡ b → kind_of other ≡ None
    → fits_name (kind_of name) vs ≡ true → b ≡ false
other_name name other vs false h none fits = refl
other_name name other vs true h none fits =
    let same : fits_name (kind_of other) vs ≡ true = subst (λ (n : List ℕ). fits_name (kind_of n) vs ≡ true) ((bytes_eq-Decides name other).0 h) fits in
    let nothing : fits_name None vs ≡ true = sym (ap (λ kind. fits_name kind vs) none) ∙ same in
    cc

pub id-no_kind : kind_of (codes "id") ≡ None
unfolding kind_of
id-no_kind = refl

pub version-no_kind : kind_of (codes "_version_") ≡ None
unfolding kind_of
version-no_kind = refl

field_named : (name : List ℕ) (vs : List Value) → fits_name (kind_of name) vs ≡ true → is_field_name name ≡ true
field_named name vs fits =
    rw (other_name name (codes "id") vs (bytes_eq name (codes "id")) refl id-no_kind fits, other_name name (codes "_version_") vs (bytes_eq name (codes "_version_")) refl version-no_kind fits) refl

-- the members of fields set them
parts_back : (fields : List Field) → Ascends fields → AllByRecursion IsField fields → AllByRecursion IsFieldInRange fields
    → member_changes (raw_fields (members_of (map field_member fields))) ≡ Ok (map set_to fields)
unfolding data_of set_to
parts_back [] a each range = refl
parts_back (f ∷ fields) a each range =
    ap (λ ms. member_changes (raw_fields ms)) (shown_first f fields a)
    ∙ rw (field_named f.name f.values each.0, part_back f.name f.values (kind_of f.name) refl each.0 range.0, parts_back fields a.1 each.1 range.1) refl

-- and a document of what they set has these fields
set_back : (name : List ℕ) (kind : Option (Kind × Bool)) (vs : List Value) → fits_name kind vs ≡ true
    → set_field name (Set vs) ≡ Some (record { name = name; values = vs })
set_back name None [] fits = cc
set_back name (Some (kind, true)) [] fits = cc
set_back name (Some (kind, false)) [] fits = cc
set_back name kind (v ∷ vs) fits = refl

fields_back : (fields : List Field) → AllByRecursion IsField fields → filter_map field_of (map set_to fields) ≡ fields
unfolding set_to
fields_back [] each = refl
fields_back (f ∷ fields) each = ap₂ cons_option (set_back f.name (kind_of f.name) f.values each.0) (fields_back fields each.1)

-- the order of a document by its parts
ordered : (raws : List RawField) (id : List ℕ) (condition : ℤ) (parts : List FieldChange) (change : Change)
    → id_of (found raws (codes "id")) ≡ Ok id → version_condition (found raws (codes "_version_")) ≡ Ok condition
    → member_changes raws ≡ Ok parts → change_of_members raws parts ≡ change
    → document_order raws ≡ Ok (record { id = id; condition = condition; change = change })
ordered raws id condition parts change named asked read is = rw (named, asked, read, is) refl

whole_change : (raws : List RawField) (parts : List FieldChange) (fields : List Field) → has_object raws ≡ false
    → filter_map field_of parts ≡ fields → change_of_members raws parts ≡ Whole fields
unfolding has_object
whole_change raws parts fields plain same = rw plain (ap Whole same)

-- an id of 1 to 512 bytes is one
id_back : (id : List ℕ) → 0 < length id → length id ≤ 512 → id_text id ≡ Ok id
id_back id named short = grind (arith, nat_tests)

pub reads_back : ReadsBack
reads_back id version fields kept =
    let shown = members_of (map field_member fields) in
    let with_id = put (codes "id") (string id) shown in
    let raws = raw_fields (put (codes "_version_") (whole_number version) with_id) in
    let named : id_of (found raws (codes "id")) ≡ Ok id =
    ap id_of (kept-put (codes "id") (codes "_version_") (whole_number version) with_id refl ∙ found-put (codes "id") (string id) shown)
    ∙ id_back id kept.named kept.short in
    let asked : version_condition (found raws (codes "_version_")) ≡ Ok version =
    ap version_condition (found-put (codes "_version_") (whole_number version) with_id) ∙ rw (as_long version kept.long) refl in
    let read : member_changes raws ≡ Ok (map set_to fields) =
    parts-put (codes "_version_") (whole_number version) with_id refl ∙ parts-put (codes "id") (string id) shown refl
    ∙ parts_back fields kept.document.ascends kept.document.each (fields_bits fields kept.document.fits.each) in
    let plain = plain-put (codes "_version_") (whole_number version) with_id refl (plain-put (codes "id") (string id) shown refl (plain_fields fields)) in
    ap Some (ordered raws id version (map set_to fields) (Whole fields) named asked read
    (whole_change raws (map set_to fields) fields plain (fields_back fields kept.document.each)))
