-- The changes that a document asks for: their names, their order, and that they fit their fields.
use Rattle.std.proofs.Common.{◌≡◌, ℕ, Bool, true, false, cond, List, [], ◌∷◌, map, Option, Some, None, Result, Ok, Err, refl, sym, ap, subst, ◌∙◌, nat_cmp}
use Rattle.std.specs.Bool.{IsTrue}
use Rattle.std.specs.Option.{IfSome, ok_or}
use Rattle.std.specs.List.{filter, filter_map, cons_option, AllByRecursion}
use Rattle.std.specs.List.Sorted.{IsStrictlySortedBy}
use Rattle.std.specs.Cmp.Lexicographic.{slice_cmp}
use Rattle.std.specs.declared.cmp.Ordering.TheVariants.{Less}
use Rattle.std.proofs.lemmas.List.Kept.{IsStrictlySortedBy-filter}
use Rattle.std.proofs.lemmas.Map.Keys.{sorted_head, sorted_tail}
use Rattle.sc_values.specs.Fields.{kind_of, IsField, IsBelowFirst, Ascends, AreFields}
use Rattle.sc_record.specs.Orders.{fits_change, IsFieldChange, AreFieldChanges}
use Rattle.sc_values.specs.declared.value.Kind.{Kind}
use Rattle.sc_values.specs.declared.field.Field.{Field}
use Rattle.sc_record.specs.declared.order.How.{How}
use Rattle.sc_record.specs.declared.order.How.TheVariants as hows
use Rattle.sc_record.specs.declared.order.FieldChange.{FieldChange}
use Rattle.sc_record.specs.declared.order.Change.TheVariants as changes
use Rattle.sc_schema.specs.Raw.{raw_names, AscendByName}
use Rattle.sc_schema.specs.Values.{how_of_value}
use Rattle.sc_schema.specs.Documents.{and_then, found_map, how_of_member, member_change, is_field_name, member_changes, set_field, field_of, NamesFields}
use Rattle.sc_schema.specs.declared.raw.RawField.{RawField}
use Rattle.sc_schema.specs.declared.fault.DocFault.{DocFault}
use Rattle.sc_schema.specs.declared.fault.DocFault.TheVariants as faults
use Rattle.sc_schema.proofs.FitLemmas.{FitsKind, how-fits}

-- the names of changes, in order
abbrev pub names_of : List FieldChange → List (List ℕ)
names_of parts = map (λ (part : FieldChange). part.name) parts

-- a list of changes that is found has a first one and others
first_part : {P : Type 0} (made : Result FieldChange DocFault) (rest : Result (List FieldChange) DocFault)
    (parts : List FieldChange)
    → and_then (λ part. found_map (λ more. part ∷ more) rest) made ≡ Ok parts
    → ((part : FieldChange) (more : List FieldChange) → made ≡ Ok part → rest ≡ Ok more → part ∷ more ≡ parts → P) → P
first_part (Err fault) rest parts h then = cc
first_part (Ok part) (Err fault) parts h then = cc
first_part (Ok part) (Ok more) parts h then = then part more refl refl cc

-- a change that is found of a member has its name
part-found : (field : RawField) (made : Result How DocFault) (part : FieldChange)
    → found_map (λ how. record { name = field.name; how = how }) made ≡ Ok part
    → (how : How) × (made ≡ Ok how) × (part.name ≡ field.name) × (part.how ≡ how)
part-found field (Err fault) part h = cc
part-found field (Ok how) part h =
    let e : record { name = field.name; how = how } ≡ part = cc in
    (how, refl, sym (ap (λ (p : FieldChange). p.name) e), sym (ap (λ (p : FieldChange). p.how) e))

-- what is taken of one member and of those that follow
taken : Bool → Result FieldChange DocFault → Result (List FieldChange) DocFault → Result (List FieldChange) DocFault
taken b made rest = cond b (and_then (λ part. found_map (λ more. part ∷ more) rest) made) rest

each_step : (P : FieldChange → Type 0) (b : Bool) (made : Result FieldChange DocFault)
    (rest : Result (List FieldChange) DocFault) (parts : List FieldChange)
    → ((part : FieldChange) → made ≡ Ok part → P part)
    → ((more : List FieldChange) → rest ≡ Ok more → AllByRecursion P more)
    → taken b made rest ≡ Ok parts → AllByRecursion P parts
unfolding taken
each_step P true made rest parts first others h =
    first_part made rest parts h
    (λ part more was read same. subst (AllByRecursion P) same (first part was, others more read))
each_step P false made rest parts first others h = others parts h

-- what holds of each change that is found of a member holds of all
each_part : (P : FieldChange → Type 0) → ((field : RawField) (part : FieldChange) → member_change field ≡ Ok part → P part)
    → (fields : List RawField) (parts : List FieldChange) → member_changes fields ≡ Ok parts → AllByRecursion P parts
unfolding taken
each_part P holds [] parts h = let e : [] ≡ parts = cc in subst (AllByRecursion P) e tt
each_part P holds (field ∷ fields) parts h =
    each_step P (is_field_name field.name) (member_change field) (member_changes fields) parts (holds field)
    (each_part P holds fields) h

names_step : (name : List ℕ) (names : List (List ℕ)) (b : Bool) (made : Result FieldChange DocFault)
    (rest : Result (List FieldChange) DocFault) (parts : List FieldChange)
    → ((part : FieldChange) → made ≡ Ok part → part.name ≡ name)
    → ((more : List FieldChange) → rest ≡ Ok more → names_of more ≡ names)
    → taken b made rest ≡ Ok parts → names_of parts ≡ cond b (name ∷ names) names
unfolding taken
names_step name names true made rest parts first others h =
    first_part made rest parts h
    (λ part more was read same. ap names_of (sym same) ∙ ap (λ n. n ∷ names_of more) (first part was)
    ∙ ap (λ ns. name ∷ ns) (others more read))
names_step name names false made rest parts first others h = others parts h

-- the changes have the names of the members, in order
pub parts-names : (fields : List RawField) (parts : List FieldChange) → member_changes fields ≡ Ok parts
    → names_of parts ≡ filter is_field_name (raw_names fields)
unfolding taken
parts-names [] parts h = let e : [] ≡ parts = cc in sym (ap names_of e)
parts-names (field ∷ fields) parts h =
    names_step field.name (filter is_field_name (raw_names fields)) (is_field_name field.name) (member_change field)
    (member_changes fields) parts
    (λ part made. (part-found field _ part made).2) (parts-names fields) h

-- a change that fits its field, and the field that it makes
pub Fits : FieldChange → Type 0
Fits part = IsFieldChange part × IfSome (field_of part) IsField

kind-fits : (field : RawField) (kind : Option (Kind × Bool)) (how : How) → kind_of field.name ≡ kind
    → how_of_member kind field ≡ Ok how
    → IsTrue (fits_change (kind_of field.name) how) × IfSome (set_field field.name how) IsField
kind-fits field None how e h = cc
kind-fits field (Some (kind, many)) how e h = by_value (how_of_value kind many field.value) refl h
  where
    by_value : (read : Option How) → how_of_value kind many field.value ≡ read
        → ok_or read (faults.WrongValue field.name) ≡ Ok how
        → IsTrue (fits_change (kind_of field.name) how) × IfSome (set_field field.name how) IsField
    by_value None was ok = cc
    by_value (Some other) was ok =
        let same : other ≡ how = cc in
        let fits = subst (FitsKind kind many) same (how-fits kind many field.value other was) in
        (rw e fits.change, fits.field field.name e)

part-fits : (field : RawField) (part : FieldChange) → member_change field ≡ Ok part → Fits part
unfolding Fits
part-fits field part h =
    let (how, made, name_is, how_is) = part-found field _ part h in
    let fits = kind-fits field (kind_of field.name) how refl made in
    let Together : List ℕ → How → Type 0 = λ name how.
    IsTrue (fits_change (kind_of name) how) × IfSome (set_field name how) IsField in
    subst (λ name. Together name part.how) (sym name_is) (subst (λ how. Together field.name how) (sym how_is) fits)

each_change : (parts : List FieldChange) → AllByRecursion Fits parts → AllByRecursion IsFieldChange parts
unfolding Fits
each_change [] all = tt
each_change (part ∷ parts) all = (all.0.0, each_change parts all.1)

-- the changes that are found may be those of an order
pub parts-lawful : (fields : List RawField) (parts : List FieldChange) → AscendByName fields
    → member_changes fields ≡ Ok parts → AreFieldChanges parts
parts-lawful fields parts ascend h = (
  each_change parts (each_part Fits part-fits fields parts h),
  subst (IsStrictlySortedBy (slice_cmp nat_cmp)) (sym (parts-names fields parts h))
      (IsStrictlySortedBy-filter (slice_cmp nat_cmp) is_field_name (raw_names fields) ascend),
)

-- a field that is made has its change's name
below_set : (name other : List ℕ) (how : How) (rest : List Field) → slice_cmp nat_cmp name other ≡ Less
    → IsBelowFirst name rest → IsBelowFirst name (cons_option (set_field other how) rest)
below_set name other (hows.Set []) rest h below = below
below_set name other (hows.Set (v ∷ vs)) rest h below = h
below_set name other (hows.Add vs) rest h below = below
below_set name other (hows.AddDistinct vs) rest h below = below
below_set name other (hows.Remove vs) rest h below = below
below_set name other (hows.Inc n) rest h below = below

below_made : (name : List ℕ) (parts : List FieldChange)
    → AllByRecursion (λ other. slice_cmp nat_cmp name other ≡ Less) (names_of parts)
    → IsBelowFirst name (filter_map field_of parts)
below_made name [] all = tt
below_made name (part ∷ parts) all =
    below_set name part.name part.how (filter_map field_of parts) all.0 (below_made name parts all.1)

ascend_set : (name : List ℕ) (how : How) (rest : List Field) → IsBelowFirst name rest → Ascends rest
    → Ascends (cons_option (set_field name how) rest)
ascend_set name (hows.Set []) rest below ascend = ascend
ascend_set name (hows.Set (v ∷ vs)) rest below ascend = (below, ascend)
ascend_set name (hows.Add vs) rest below ascend = ascend
ascend_set name (hows.AddDistinct vs) rest below ascend = ascend
ascend_set name (hows.Remove vs) rest below ascend = ascend
ascend_set name (hows.Inc n) rest below ascend = ascend

made_ascend : (parts : List FieldChange) → IsStrictlySortedBy (slice_cmp nat_cmp) (names_of parts)
    → Ascends (filter_map field_of parts)
made_ascend [] sorted = tt
made_ascend (part ∷ parts) sorted =
    ascend_set part.name part.how (filter_map field_of parts)
    (below_made part.name parts (sorted_head (slice_cmp nat_cmp) part.name (names_of parts) sorted))
    (made_ascend parts (sorted_tail (slice_cmp nat_cmp) part.name (names_of parts) sorted))

each_made : (made : Option Field) (rest : List Field) → IfSome made IsField → AllByRecursion IsField rest
    → AllByRecursion IsField (cons_option made rest)
each_made None rest fits all = all
each_made (Some field) rest fits all = (fits, all)

each_field : (parts : List FieldChange) → AllByRecursion Fits parts → AllByRecursion IsField (filter_map field_of parts)
unfolding Fits
each_field [] all = tt
each_field (part ∷ parts) all = each_made (field_of part) (filter_map field_of parts) all.0.1 (each_field parts all.1)

-- the fields that the changes make fit their names, which ascend
pub made-fields : (fields : List RawField) (parts : List FieldChange) → AscendByName fields
    → member_changes fields ≡ Ok parts → AreFields (filter_map field_of parts)
made-fields fields parts ascend h =
    record {
      each = each_field parts (each_part Fits part-fits fields parts h);
      ascends = made_ascend parts (parts-lawful fields parts ascend h).1;
    }

-- an atomic update names each field
pub update-names : (fields : List RawField) (parts : List FieldChange) → member_changes fields ≡ Ok parts → (update : Bool)
    → NamesFields fields (cond update (changes.Parts parts) (changes.Whole (filter_map field_of parts)))
update-names fields parts h true = parts-names fields parts h
update-names fields parts h false = tt
