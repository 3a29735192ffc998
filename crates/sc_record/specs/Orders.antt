-- Which changes an order may ask for (Solr Reference Guide, "Atomic Updates"), and how many orders an update may have.
use Rattle.std.specs.Prelude.{ℕ, ◌-◌, ◌^◌, Bool, true, false, ◌&&◌, ℤ, pos, negsuc, int_le, List, map, IsTrue, Option, Some, None, ⊤}
use mathlib.Core.Bool.{Bool-set}
use Rattle.std.specs.Coded.{×_prop, Unit-prop}
use Rattle.std.specs.List.{list_all, AllByRecursion, AllByRecursion-prop}
use Rattle.std.specs.List.Sorted.{IsStrictlySortedBy, IsStrictlySortedBy-prop}
use Rattle.std.specs.Ordering.{nat_cmp}
use Rattle.std.specs.Cmp.Lexicographic.{slice_cmp}
use Rattle.sc_values.specs.Fields.{fits_kind, kind_of}
use Rattle.sc_values.specs.declared.value.Kind.{Kind}
use Rattle.sc_values.specs.declared.value.Kind.TheVariants as kinds
use Rattle.sc_record.specs.declared.order.How.{How}
use Rattle.sc_record.specs.declared.order.How.TheVariants as hows
use Rattle.sc_record.specs.declared.order.FieldChange.{FieldChange}
use Rattle.sc_record.specs.declared.order.Change.{Change}
use Rattle.sc_record.specs.declared.order.Change.TheVariants as changes

-- the most orders of an update
abbrev pub order_limit : ℕ
order_limit = 4096

-- the number has 32 bits
abbrev pub is_int : ℤ → Bool
is_int n = int_le (negsuc (2 ^ 31 - 1)) n && int_le n (pos (2 ^ 31 - 1))

-- the number has 64 bits
abbrev pub is_long : ℤ → Bool
is_long n = int_le (negsuc (2 ^ 63 - 1)) n && int_le n (pos (2 ^ 63 - 1))

-- a number may be added to the value of a field of this kind, which has one value
abbrev pub fits_amount : Kind → Bool → ℤ → Bool
fits_amount kinds.Int false amount = is_int amount
fits_amount kinds.Long false amount = true
fits_amount kind many amount = false

-- the change's values are of the kind that the name stands for
abbrev pub fits_change : Option (Kind × Bool) → How → Bool
fits_change None how = false
fits_change (Some (kind, many)) (hows.Set values) = list_all (fits_kind kind) values
fits_change (Some (kind, many)) (hows.Add values) = list_all (fits_kind kind) values
fits_change (Some (kind, many)) (hows.AddDistinct values) = list_all (fits_kind kind) values
fits_change (Some (kind, many)) (hows.Remove values) = list_all (fits_kind kind) values
fits_change (Some (kind, many)) (hows.Inc amount) = fits_amount kind many amount

-- the change fits its field's name
abbrev pub IsFieldChange : FieldChange → Type 0
IsFieldChange change = IsTrue (fits_change (kind_of change.name) change.how)

-- the changes of an atomic update: each fits its field, and their names ascend by their bytes, so that each stands once
abbrev pub AreFieldChanges : List FieldChange → Type 0
AreFieldChanges parts =
    AllByRecursion IsFieldChange parts × IsStrictlySortedBy (slice_cmp nat_cmp) (map (λ (part : FieldChange). part.name) parts)

-- an order may ask for the change
abbrev pub IsChangeOfOrder : Change → Type 0
IsChangeOfOrder (changes.Whole doc) = ⊤
IsChangeOfOrder (changes.Parts parts) = AreFieldChanges parts
IsChangeOfOrder changes.Delete = ⊤

-- which has at most one proof
pub IsChange-prop : (change : Change) → IsProp (IsChangeOfOrder change)
IsChange-prop (changes.Whole doc) = Unit-prop
IsChange-prop (changes.Parts parts) =
    ×_prop (AllByRecursion-prop IsFieldChange (λ part. Bool-set _ _) parts) (IsStrictlySortedBy-prop (slice_cmp nat_cmp) (map (λ (part : FieldChange). part.name) parts))
IsChange-prop changes.Delete = Unit-prop
