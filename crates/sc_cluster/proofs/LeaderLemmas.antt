-- Which slice of a map leads a hash.
use Rattle.std.proofs.Common.{◌≡◌, ℤ, ◌&&◌, Bool, true, false, List, find, count_by, Option, Some, None, IsSome, Bor, Contains, subst, sym, ◌∙◌, refl, ap, arith}
use Rattle.std.specs.Int.{w32}
use Rattle.std.specs.Int.RustNames.{FitsSigned}
use Rattle.std.specs.Option.{option_copied}
use Rattle.std.proofs.lemmas.Int.{ints}
use Rattle.std.proofs.lemmas.Option.{none-some, same_Some}
use Rattle.sc_record.specs.declared.slice.SliceId.{SliceId}
use Rattle.sc_hash.specs.Range.{IsWithin}
use Rattle.sc_cluster.specs.declared.slice.State.{State}
use Rattle.sc_cluster.specs.declared.slice.State.TheVariants as states
use Rattle.sc_cluster.specs.declared.slice.Slice.{Slice}
use Rattle.sc_cluster.specs.Slices.{is_active_state, is_active}
use Rattle.sc_cluster.specs.Map.{least_hash, greatest_hash, IsMap, Leads}
use Rattle.sc_cluster.proofs.ItemLemmas.{Found, find_from_count, same_from_count}
use Rattle.sc_cluster.proofs.OrderLemmas.{same_from_rising_key}
use Rattle.sc_cluster.proofs.IdLemmas.{id_of}
use Rattle.sc_hash.proofs.BoundsLemmas.{contains-Decides}
use Rattle.sc_cluster.proofs.TileLemmas.{with_number, holders-filter}

-- the slice is active and has the hash
abbrev pub is_leader : ℤ → Slice → Bool
is_leader h = with_number h is_active

-- of a map's slices one leads a hash
count_by-is_leader : (slices : List Slice) (h : ℤ) → IsMap slices → IsWithin least_hash greatest_hash h → count_by (is_leader h) slices ≡ 1
count_by-is_leader slices h is_map within = sym (holders-filter h is_active slices) ∙ is_map.tile.inside h within

pub active_from_test : (state : State) → is_active_state state ≡ true → state ≡ states.Active
active_from_test states.Active test = refl
active_from_test states.Inactive test = cc
active_from_test states.Construction test = cc
active_from_test states.Recovery test = cc

and_parts : (a b : Bool) → (a && b) ≡ true → (a ≡ true) × (b ≡ true)
and_parts true true both = (refl, refl)
and_parts true false both = cc
and_parts false b both = cc

-- a slice of the list that passes leads
leads_from_test : (slices : List Slice) (h : ℤ) (slice : Slice) → Contains slices slice → is_leader h slice ≡ true → Leads slices h slice
leads_from_test slices h slice there passes =
    let both = and_parts _ _ passes in
    record {
      there = there;
      active = active_from_test slice.state both.0;
      within = (contains-Decides h slice.range.min slice.range.max).0 both.1;
    }

-- and one that leads passes
test_from_leads : (slices : List Slice) (h : ℤ) (slice : Slice) → Leads slices h slice → is_leader h slice ≡ true
test_from_leads slices h slice leads = rw (leads.active, (contains-Decides h slice.range.min slice.range.max).1 leads.within) refl

-- the search for a leader finds one
leader_is_found : (slices : List Slice) (h : ℤ) → IsMap slices → IsWithin least_hash greatest_hash h
    → (slice : Slice) × (find (is_leader h) slices ≡ Some slice) × Leads slices h slice
leader_is_found slices h is_map within =
    let found : Found (is_leader h) slices = find_from_count (is_leader h) slices (omega (arith, count_by-is_leader slices h is_map within)) in
    (found.0, found.1, leads_from_test slices h found.0 found.2 found.3)

pub found_is_some : (slices : List Slice) (h : ℤ) (found : Option (Bor Slice)) → option_copied found ≡ find (is_leader h) slices
    → IsMap slices → IsWithin least_hash greatest_hash h → IsSome found
found_is_some slices h (Some leader) is is_map within = refl
found_is_some slices h None is is_map within = absurd (none-some _ (is ∙ (leader_is_found slices h is_map within).1))

-- and what it finds leads
pub found_leads : (slices : List Slice) (h : ℤ) (leader : Slice) → Some leader ≡ find (is_leader h) slices
    → IsMap slices → IsWithin least_hash greatest_hash h → Leads slices h leader
found_leads slices h leader is is_map within =
    let found = leader_is_found slices h is_map within in
    subst (Leads slices h) (sym (same_Some leader found.0 (is ∙ found.1))) found.2

-- a signed number of 32 bits is a hash
pub fits_is_within : (h : ℤ) → FitsSigned w32 h → IsWithin least_hash greatest_hash h
fits_is_within h fits = (grind (arith, ints), grind (arith, ints))

-- and no other slice leads the hash
pub leads_alone : (slices : List Slice) (h : ℤ) (one other : Slice) → IsMap slices → IsWithin least_hash greatest_hash h
    → Leads slices h one → Leads slices h other → one ≡ other
leads_alone slices h one other is_map within one_leads other_leads =
    same_from_count (is_leader h) slices one other (count_by-is_leader slices h is_map within)
    one_leads.there (test_from_leads slices h one one_leads) other_leads.there (test_from_leads slices h other other_leads)

-- slices of a map that have the same id are the same
pub same_from_id : (slices : List Slice) (one other : Slice) → IsMap slices → Contains slices one → Contains slices other
    → one.id ≡ other.id → one ≡ other
same_from_id slices one other is_map one_in other_in same =
    same_from_rising_key id_of slices one other is_map.ids one_in other_in (ap (λ (id : SliceId). id.0) same)
