-- The fields that an object's members are, read one after another, and the values of an array's items.
use Rattle.std.proofs.Common.{◌≡◌, List, [], ◌∷◌, ◌++◌, length, map, Some, arith, refl, sym, ap, ◌∙◌, subst, string_bytes, nat_cmp, String, Global, Vec}
use Rattle.std.specs.Prelude.{slice_get}
use Rattle.std.specs.List.{AllByRecursion}
use Rattle.std.specs.List.Sorted.{IsStrictlySortedBy}
use Rattle.std.specs.Map.{keys_of}
use Rattle.std.specs.String.{string_cmp}
use Rattle.std.specs.Cmp.Lexicographic.{slice_cmp}
use Rattle.std.specs.declared.cmp.Ordering.TheVariants.{Less}
use Rattle.std.proofs.lemmas.List.{append-nil}
use Rattle.serde_json.specs.View.{view, items_view, members_view}
use Rattle.serde_json.specs.declared.value.Value.{Value, Array}
use Rattle.serde_json.proofs.Views.{Entry, view-Array}
use Rattle.sc_schema.specs.Raw.{raw_names, AscendByName}
use Rattle.sc_schema.specs.declared.raw.RawField.{RawField}
use Rattle.sc_schema.specs.declared.raw.RawFlat.TheVariants.{One, Many}
use Rattle.sc_schema.specs.declared.raw.RawOne.TheVariants.{Other}
use Rattle.sc_schema.specs.declared.raw.RawValue.TheVariants.{Plain, Change}
use Rattle.sc_json.specs.RawDocs.{raw_one, raw_items, raw_flat, raw_change, raw_fields}

items_each : (vs : List Value) → raw_items (items_view vs) ≡ map raw_one (map view vs)
items_each [] = refl
items_each (v ∷ vs) = ap (λ rest. raw_one (view v) ∷ rest) (items_each vs)

-- the values of an array
pub flat_of_array : (value : Value) (items : Vec Value Global) → value ≡ Array items → raw_flat (view value) ≡ Many (map raw_one (map view items.items))
flat_of_array value items is = ap raw_flat (ap view is ∙ view-Array items) ∙ ap Many (items_each items.items)

-- an object of no or several members
pub no_change : (es : List Entry) → (length es ≡ 1 → ⊥) → raw_change (members_view es) ≡ Plain (One Other)
no_change [] several = refl
no_change (e ∷ []) several = absurd (several refl)
no_change (e ∷ f ∷ es) several = refl

-- an object of one member
pub one_change : (es : List Entry) (op : String Global) (value : Value) → length es ≡ 1 → slice_get es 0 ≡ Some (op, value)
    → raw_change (members_view es) ≡ Change (string_bytes op) (raw_flat (view value))
one_change [] op value one first = cc
one_change (e ∷ []) op value one first =
    let same : e ≡ (op, value) = cc in
    ap (λ (entry : Entry). Change (string_bytes entry.0) (raw_flat (view entry.1))) same
one_change (e ∷ f ∷ es) op value one first = absurd (omega arith)

below_names : (key : String Global) (es : List Entry) → AllByRecursion (λ y. string_cmp key y ≡ Less) (keys_of es)
    → AllByRecursion (λ name. slice_cmp nat_cmp (string_bytes key) name ≡ Less) (raw_names (raw_fields (members_view es)))
below_names key [] below = tt
below_names key (e ∷ es) below = (below.0, below_names key es below.1)

-- the names ascend as the keys do
names_ascend : (es : List Entry) → IsStrictlySortedBy string_cmp (keys_of es) → AscendByName (raw_fields (members_view es))
unfolding IsStrictlySortedBy
names_ascend [] sorted = tt
names_ascend (e ∷ es) sorted = (below_names e.0 es sorted.0, names_ascend es sorted.1)

-- once every member was read, the fields ascend
pub all_read : (fields : List RawField) (es left : List Entry) → left ≡ [] → IsStrictlySortedBy string_cmp (keys_of es)
    → fields ++ raw_fields (members_view left) ≡ raw_fields (members_view es) → AscendByName fields
all_read fields es left none sorted read =
    let whole : raw_fields (members_view es) ≡ fields =
    sym read ∙ ap (λ (rest : List Entry). fields ++ raw_fields (members_view rest)) none ∙ append-nil fields in
    subst AscendByName whole (names_ascend es sorted)
