-- What follows of the names of fields, and what makes a document one field longer.
use Rattle.std.proofs.Common.{◌≡◌, ℕ, ◌≤◌, Bool, true, false, List, [], ◌∷◌, ◌++◌, length, Some, codes, refl, arith, subst, sym}
use Rattle.std.specs.Str.{bytes_eq}
use Rattle.std.specs.List.{IsDistinct, AllByRecursion}
use Rattle.std.specs.List.Sorted.{IsStrictlySortedBy}
use Rattle.std.specs.Ordering.{nat_cmp}
use Rattle.std.specs.Cmp.Lexicographic.{slice_cmp, texts_ties}
use Rattle.std.specs.declared.cmp.Ordering.TheVariants.{Less}
use Rattle.std.proofs.lemmas.Bool.Decides.{nat_tests}
use Rattle.std.proofs.lemmas.Cmp.{nat_list_cmp_total}
use Rattle.std.proofs.lemmas.Map.Keys.{IsDistinct-from_sorted}
use Rattle.sc_values.specs.Fields.{kind_of, has_ending, IsField, IsBelowFirst, Ascends, AreFields, IsDocument}
use Rattle.sc_values.specs.declared.field.Field.{Field}
use Rattle.sc_values.specs.declared.value.Kind.TheVariants as kinds
use Rattle.sc_values.specs.declared.value.Value.TheVariants as values

-- the names of the fields, in their order
abbrev pub names_of : List Field → List (List ℕ)
names_of [] = []
names_of (f ∷ fields) = f.name ∷ names_of fields

-- the names of all fields come before this one
abbrev pub AreBelow : List Field → List ℕ → Type 0
AreBelow [] name = Unit {0}
AreBelow (f ∷ fields) name = (slice_cmp nat_cmp f.name name ≡ Less) × AreBelow fields name

-- a name that ends in `_s` is that of one text
pub kind_of-text : (name : List ℕ) → length name ≤ 256 → has_ending name (codes "_s") ≡ true → kind_of name ≡ Some (kinds.Str, false)
unfolding kind_of
kind_of-text name short ending = grind (arith, nat_tests)

-- one text fits the field of a single text
pub IsField-text : (name text : List ℕ) → kind_of name ≡ Some (kinds.Str, false) → IsField (record { name = name; values = values.Text text ∷ [] })
IsField-text name text h = rw h refl

-- what is below a name is below what comes after it
pub below_next : (name next : List ℕ) (fields : List Field) → slice_cmp nat_cmp name next ≡ Less → IsBelowFirst next fields → IsBelowFirst name fields
below_next name next [] h b = tt
below_next name next (f ∷ fields) h b = nat_list_cmp_total.trans name next f.name h b

-- what is below the first name is below all
below_all : (name : List ℕ) (fields : List Field) → IsBelowFirst name fields → Ascends fields → AllByRecursion (λ n. slice_cmp nat_cmp name n ≡ Less) (names_of fields)
below_all name [] h a = tt
below_all name (f ∷ fields) h a = (h, below_all name fields (below_next name f.name fields h a.0) a.1)

-- each name is below all that come after it
pub names-sorted : (fields : List Field) → Ascends fields → IsStrictlySortedBy (slice_cmp nat_cmp) (names_of fields)
unfolding IsStrictlySortedBy
names-sorted [] a = tt
names-sorted (f ∷ fields) a = (below_all f.name fields a.0 a.1, names-sorted fields a.1)

-- no name stands twice
pub names-distinct : (fields : List Field) → Ascends fields → IsDistinct bytes_eq (names_of fields)
names-distinct fields a =
    let IsDistinctBy : (List ℕ → List ℕ → Bool) → Type 0 = λ e. IsDistinct e (names_of fields) in
    subst IsDistinctBy (λ i xs ys. sym (texts_ties xs ys) i) (IsDistinct-from_sorted (slice_cmp nat_cmp) (names_of fields) (names-sorted fields a))

-- what comes after the last name comes after the first
above_first : (name : List ℕ) (fields : List Field) (g : Field) → IsBelowFirst name fields → slice_cmp nat_cmp name g.name ≡ Less → IsBelowFirst name (fields ++ g ∷ [])
above_first name [] g b h = h
above_first name (f ∷ fields) g b h = b

-- a field whose name comes after all names keeps them ascending
Ascends-push : (fields : List Field) (g : Field) → Ascends fields → AreBelow fields g.name → Ascends (fields ++ g ∷ [])
Ascends-push [] g a h = (tt, tt)
Ascends-push (f ∷ fields) g a h = (above_first f.name fields g a.0 h.0, Ascends-push fields g a.1 h.1)

-- one more field that fits its name
each-push : (fields : List Field) (g : Field) → AllByRecursion IsField fields → IsField g → AllByRecursion IsField (fields ++ g ∷ [])
each-push [] g all h = (h, tt)
each-push (f ∷ fields) g all h = (all.0, each-push fields g all.1 h)

-- one more field that fits its name, which comes after all names
pub AreFields-push : (fields : List Field) (g : Field) → AreFields fields → AreBelow fields g.name → IsField g → AreFields (fields ++ g ∷ [])
AreFields-push fields g d after h = record { each = each-push fields g d.each h; ascends = Ascends-push fields g d.ascends after }

-- the fields of a document fit their names, which ascend
pub fields_of_document : (fields : List Field) → IsDocument fields → AreFields fields
fields_of_document fields d = record { each = d.each; ascends = d.ascends }

-- with one field more, a later name comes after all names
pub AreBelow-push : (fields : List Field) (g : Field) (name : List ℕ) → AreBelow fields g.name → slice_cmp nat_cmp g.name name ≡ Less → AreBelow (fields ++ g ∷ []) name
AreBelow-push [] g name b h = (h, tt)
AreBelow-push (f ∷ fields) g name b h = (nat_list_cmp_total.trans f.name g.name name b.0 h, AreBelow-push fields g name b.1 h)
