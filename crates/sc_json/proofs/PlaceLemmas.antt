-- A field that is put at its place among fields whose names ascend.
use Rattle.std.proofs.Common.{◌≡◌, ℕ, zero, suc, ◌<◌, List, [], ◌∷◌, length, get_or, take, drop, refl, ap, ◌∙◌, subst, sym, arith}
use Rattle.std.specs.Cmp.Lexicographic.{slice_cmp, nat_list_cmp_total}
use Rattle.std.specs.List.{AllByRecursion, insert}
use Rattle.std.specs.List.Sorted.{IsStrictlySortedBy}
use Rattle.std.specs.Ordering.{nat_cmp, match_ordering, ordering_reverse}
use Rattle.std.specs.declared.cmp.Ordering.TheVariants.{Less, Greater}
use Rattle.serde_json.specs.Data.{Data, Members, no_members, member, put}
use Rattle.sc_schema.specs.Raw.{AscendByName, raw_names}
use Rattle.sc_schema.specs.declared.raw.RawField.{RawField}
use Rattle.sc_schema.specs.declared.raw.RawValue.{RawValue}
use Rattle.sc_json.specs.Flat.{IsNamePlace}
use Rattle.sc_json.specs.RawDocs.{raw_fields, raw_value}

-- one name comes before another just where that comes after it
pub flipped : (j k : List ℕ) → slice_cmp nat_cmp j k ≡ Greater → slice_cmp nat_cmp k j ≡ Less
flipped j k h = nat_list_cmp_total.antisymm k j ∙ ap ordering_reverse h

pub after : (j k : List ℕ) → slice_cmp nat_cmp j k ≡ Less → slice_cmp nat_cmp k j ≡ Greater
after j k h = nat_list_cmp_total.antisymm k j ∙ ap ordering_reverse h

holds_at : (P : List ℕ → Type 0) (fields : List RawField) (at : ℕ) (f : RawField) → AllByRecursion P (raw_names fields) → at < length fields → f ≡ get_or fields at f → P f.name
holds_at P [] at f all within is = absurd (omega arith)
holds_at P (g ∷ fields) zero f all within is = subst (λ (x : RawField). P x.name) (sym is) all.0
holds_at P (g ∷ fields) (suc at) f all within is = holds_at P fields at f all.1 (omega arith) is

-- where a name comes before this one, so do all names before it
pub all_before : (fields : List RawField) (at : ℕ) (f : RawField) (name : List ℕ) → AscendByName fields → at < length fields → f ≡ get_or fields at f → slice_cmp nat_cmp f.name name ≡ Less
    → AllByRecursion (λ other. slice_cmp nat_cmp other name ≡ Less) (take (suc at) (raw_names fields))
unfolding IsStrictlySortedBy
all_before [] at f name ascend within is less = absurd (omega arith)
all_before (g ∷ fields) zero f name ascend within is less = (subst (λ (x : RawField). slice_cmp nat_cmp x.name name ≡ Less) is less, tt)
all_before (g ∷ fields) (suc at) f name ascend within is less =
    let first : slice_cmp nat_cmp g.name f.name ≡ Less = holds_at (λ other. slice_cmp nat_cmp g.name other ≡ Less) fields at f ascend.0 (omega arith) is in
    (nat_list_cmp_total.trans g.name f.name name first less, all_before fields at f name ascend.1 (omega arith) is less)

-- one more name comes after this one
pub one_more_after : (fields : List RawField) (at : ℕ) (f : RawField) (name : List ℕ) → at < length fields → f ≡ get_or fields at f → slice_cmp nat_cmp name f.name ≡ Less
    → AllByRecursion (λ other. slice_cmp nat_cmp name other ≡ Less) (drop (suc at) (raw_names fields))
    → AllByRecursion (λ other. slice_cmp nat_cmp name other ≡ Less) (drop at (raw_names fields))
one_more_after [] at f name within is less rest = absurd (omega arith)
one_more_after (g ∷ fields) zero f name within is less rest = (subst (λ (x : RawField). slice_cmp nat_cmp name x.name ≡ Less) is less, rest)
one_more_after (g ∷ fields) (suc at) f name within is less rest = one_more_after fields at f name (omega arith) is less rest

all_insert : (P : List ℕ → Type 0) (fields : List RawField) (at : ℕ) (x : RawField) → AllByRecursion P (raw_names fields) → P x.name → AllByRecursion P (raw_names (insert fields at x))
all_insert P [] zero x all here = (here, tt)
all_insert P [] (suc at) x all here = (here, tt)
all_insert P (f ∷ fields) zero x all here = (here, all)
all_insert P (f ∷ fields) (suc at) x all here = (all.0, all_insert P fields at x all.1 here)

-- the names still ascend
pub ascend_at : (fields : List RawField) (at : ℕ) (x : RawField) → AscendByName fields → IsNamePlace x.name (raw_names fields) at → AscendByName (insert fields at x)
unfolding IsStrictlySortedBy
ascend_at [] zero x ascend place = (tt, tt)
ascend_at [] (suc at) x ascend place = (tt, tt)
ascend_at (f ∷ fields) zero x ascend place = (place.1, ascend)
ascend_at (f ∷ fields) (suc at) x ascend place = (all_insert (λ other. slice_cmp nat_cmp f.name other ≡ Less) fields at x ascend.0 place.0.0, ascend_at fields at x ascend.1 (place.0.1, place.1))

-- a member is put at its place
pub put_at : (k : List ℕ) (d : Data) (ms : Members) (at : ℕ) → IsNamePlace k (raw_names (raw_fields ms)) at
    → raw_fields (put k d ms) ≡ insert (raw_fields ms) at (record { name = k; value = raw_value d })
put_at k d no_members zero place = refl
put_at k d no_members (suc at) place = refl
put_at k d (member l e ms) zero place =
    ap (λ o. raw_fields (match_ordering o (member k d (member l e ms)) (member l d ms) (member l e (put k d ms)))) place.1.0
put_at k d (member l e ms) (suc at) place =
    ap (λ o. raw_fields (match_ordering o (member k d (member l e ms)) (member l d ms) (member l e (put k d ms)))) (after l k place.0.0)
    ∙ ap (λ (rest : List RawField). record { name = l; value = raw_value e } ∷ rest) (put_at k d ms at (place.0.1, place.1))

-- the fields with one more at its place are the members with it
pub put_field : (k : List ℕ) (d : Data) (ms : Members) (at : ℕ) (old new : List RawField) (name : List ℕ) (shown : RawValue)
    → raw_fields ms ≡ old → raw_value d ≡ shown → name ≡ k → IsNamePlace k (raw_names old) at → new ≡ insert old at (record { name = name; value = shown }) → raw_fields (put k d ms) ≡ new
put_field k d ms at old new name shown are is named place more =
    put_at k d ms at (subst (λ fields. IsNamePlace k (raw_names fields) at) (sym are) place)
    ∙ ap (λ (fields : List RawField). insert fields at (record { name = k; value = raw_value d })) are
    ∙ ap (λ (other : List ℕ). insert old at (record { name = other; value = raw_value d })) (sym named)
    ∙ ap (λ (found : RawValue). insert old at (record { name = name; value = found })) is
    ∙ sym more

-- and they ascend
pub ascend_field : (k : List ℕ) (at : ℕ) (old new : List RawField) (name : List ℕ) (shown : RawValue)
    → AscendByName old → name ≡ k → IsNamePlace k (raw_names old) at → new ≡ insert old at (record { name = name; value = shown }) → AscendByName new
ascend_field k at old new name shown ascend named place more =
    let here = subst (λ (other : List ℕ). IsNamePlace other (raw_names old) at) (sym named) place in
    subst AscendByName (sym more) (ascend_at old at (record { name = name; value = shown }) ascend here)

-- no fields ascend
pub none_ascend : (fields : List RawField) → fields ≡ [] → AscendByName fields
unfolding IsStrictlySortedBy
none_ascend [] none = tt
none_ascend (f ∷ fields) none = absurd (cc)
