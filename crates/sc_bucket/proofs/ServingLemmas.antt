-- The cells of the leaders of the active slices are the last writes of all ids, and a walk over the slices counts them.
use Rattle.std.proofs.Common.{◌≡◌, ◌∙◌, ◌+◌, ◌-◌, ◌<◌, ◌≤◌, ℕ, zero, suc, Bool, true, false, cond, ◌&&◌, eqb, List, [], ◌∷◌, ◌++◌, length, map, take, drop, slice_get, find, Some, None, All, Contains, w32, refl, sym, ap, subst, length-append, arith}
use Rattle.std.specs.List.{flat_map, filter}
use Rattle.std.specs.List.Sorted.{IsStrictlySortedBy}
use Rattle.std.specs.Option.{option_to_list}
use Rattle.std.proofs.lemmas.Bool.{eqb-true, eq-eqb, and_parts}
use Rattle.std.proofs.lemmas.Grind.{flat_map-append}
use Rattle.std.proofs.lemmas.List.{append-nil, take_all, take-append-drop}
use Rattle.std.proofs.lemmas.List.Elements.{All-head, All-tail, All-weaker, All-contains, All-contains_itself, filter-append}
use Rattle.std.proofs.lemmas.List.Sums.{length-filter}
use Rattle.std.proofs.lemmas.Option.{none-some, same_Some, slice_get-get_or, slice_get_past}
use Rattle.std.proofs.Math.Facts.{sfits_to_z}
use Rattle.sc_hash.specs.Range.{IsWithin}
use Rattle.sc_hash.specs.Bounds.{contains}
use Rattle.sc_hash.proofs.BoundsLemmas.{contains-Decides}
use Rattle.sc_router.specs.Route.{route_hash}
use Rattle.sc_router.proofs.ShareLemmas.{route_bits-lt}
use Rattle.sc_record.specs.Names.{is_key}
use Rattle.sc_record.specs.Writes.{is_of, write_of, AscendById, Write}
use Rattle.sc_cluster.specs.declared.slice.State.TheVariants as states
use Rattle.sc_cluster.specs.declared.slice.Slice.{Slice}
use Rattle.sc_cluster.specs.Map.{least_hash, greatest_hash}
use Rattle.sc_cluster.specs.Slices.{is_active, is_active_state, slice_bounds}
use Rattle.sc_cluster.proofs.CountLemmas.{count_by-map}
use Rattle.sc_cluster.proofs.LeaderLemmas.{fits_is_within, active_from_test}
use Rattle.sc_cluster.proofs.ListLemmas.{filter-none, Contains-from_filter}
use Rattle.sc_replica.specs.Core.{Core}
use Rattle.sc_replica.proofs.PlaceLemmas.{write_of-below}
use Rattle.sc_journal.specs.Journal.{last_write}
use Rattle.sc_journal.proofs.JournalLemmas.{id_from_is_of}
use Rattle.sc_replicas.specs.Cores.{core_key}
use Rattle.sc_replicas.proofs.CoreLemmas.{AreApart, AreApart-from_ascending, core_alone, element_from_map, same_name_by, IsLeaderOf-from_key}
use Rattle.sc_replicas.proofs.FindLemmas.{filter_take-next}
use Rattle.sc_bucket.specs.Serving.{cells_of_leader, served, AreLastWrites}
use Rattle.sc_bucket.specs.Sound.{IsSound}
use Rattle.sc_bucket.specs.declared.bucket.Bucket.{Bucket}
use Rattle.sc_bucket.proofs.AcceptLemmas.{bucket_has_map}
use Rattle.sc_bucket.proofs.AskedLemmas.{active_there}
use Rattle.sc_bucket.proofs.NextLemmas.{its_leader, find-outside}
use Rattle.sc_bucket.proofs.TakenLemmas.{Contains-slice_get}

-- ---- lists
-- where a search finds none, none passes
filter-missing : {A : Type 0} (p : A → Bool) (xs : List A) → find p xs ≡ None → filter p xs ≡ []
filter-missing p [] none = refl
filter-missing {A} p (x ∷ xs) none = by (p x) none (filter-missing p xs) where
  by : (b : Bool) → cond b (Some x) (find p xs) ≡ None → (find p xs ≡ None → filter p xs ≡ [])
      → cond b (x ∷ filter p xs) (filter p xs) ≡ []
  by true found rest = absurd (none-some x (sym found))
  by false missing rest = rest missing

-- where one alone passes, it is all that pass
filter-alone : {A : Type 0} (p : A → Bool) (xs : List A) (at : ℕ) (x : A) → slice_get xs at ≡ Some x → p x ≡ true
    → ((k : ℕ) (y : A) → slice_get xs k ≡ Some y → p y ≡ true → k ≡ at) → filter p xs ≡ x ∷ []
filter-alone p [] at x there passes alone = absurd (none-some x there)
filter-alone {A} p (y ∷ ys) zero x there passes alone =
    let same : y ≡ x = same_Some y x there in
    ap (λ b. cond b (y ∷ filter p ys) (filter p ys)) (ap p same ∙ passes)
    ∙ ap (λ (rest : List A). y ∷ rest) (filter-none p ys (λ k d below. fails k _ (slice_get-get_or ys k d below)))
    ∙ ap (λ (z : A). z ∷ []) same
  where
    fails : (k : ℕ) (z : A) → slice_get ys k ≡ Some z → p z ≡ false
    fails k z at_k = by (p z) refl where
      by : (b : Bool) → p z ≡ b → p z ≡ false
      by false is = is
      by true is = absurd (omega (arith, alone (suc k) z at_k is))
filter-alone {A} p (y ∷ ys) (suc at) x there passes alone =
    by (p y) refl (filter-alone p ys at x there passes (λ k z at_k is. omega (arith, alone (suc k) z at_k is))) where
      by : (b : Bool) → p y ≡ b → filter p ys ≡ x ∷ [] → cond b (y ∷ filter p ys) (filter p ys) ≡ x ∷ []
      by false is rest = rest
      by true is rest = absurd (omega (arith, alone zero y refl is))

-- what passes of joined lists
filter-joined : {A B : Type 0} (q : B → Bool) (f : A → List B) (xs : List A)
    → filter q (flat_map f xs) ≡ flat_map (λ x. filter q (f x)) xs
filter-joined q f [] = refl
filter-joined q f (x ∷ xs) =
    filter-append q (f x) (flat_map f xs) ∙ ap (λ rest. filter q (f x) ++ rest) (filter-joined q f xs)

-- what is joined of those that give this list, where the others give none
joined-where : {A B : Type 0} (f : A → List B) (p : A → Bool) (ys : List B) (xs : List A) → All (λ x. f x ≡ cond (p x) ys []) xs
    → flat_map f xs ≡ flat_map (λ x. ys) (filter p xs)
joined-where f p ys [] are = refl
joined-where {A} {B} f p ys (x ∷ xs) are =
    by (p x) (All-head (λ y. f y ≡ cond (p y) ys []) x xs are)
    (joined-where f p ys xs (All-tail (λ y. f y ≡ cond (p y) ys []) x xs are)) where
      by : (b : Bool) → f x ≡ cond b ys [] → flat_map f xs ≡ flat_map (λ y. ys) (filter p xs)
          → f x ++ flat_map f xs ≡ flat_map (λ y. ys) (cond b (x ∷ filter p xs) (filter p xs))
      by true is rest = ap (λ (l : List B). l ++ flat_map f xs) is ∙ ap (λ (l : List B). ys ++ l) rest
      by false is rest = ap (λ (l : List B). l ++ flat_map f xs) is ∙ rest

-- where it is one
joined-one : {A B : Type 0} (ys : List B) (xs : List A) → length xs ≡ 1 → flat_map (λ (x : A). ys) xs ≡ ys
joined-one ys [] one = absurd (omega (arith, one))
joined-one ys (x ∷ []) one = append-nil ys
joined-one ys (x ∷ y ∷ xs) one = absurd (omega (arith, one))

-- an element of the first of two lists, and one of the second
slice_get-first : {A : Type 0} (xs ys : List A) (n : ℕ) → n < length xs → slice_get (xs ++ ys) n ≡ slice_get xs n
slice_get-first [] ys n within = absurd (omega (arith, within))
slice_get-first (x ∷ xs) ys zero within = refl
slice_get-first (x ∷ xs) ys (suc n) within = slice_get-first xs ys n (omega (arith, within))

slice_get-second : {A : Type 0} (xs ys : List A) (n i : ℕ) → length xs + n ≡ i → slice_get (xs ++ ys) i ≡ slice_get ys n
slice_get-second [] ys n i is = ap (slice_get ys) (omega (arith, is))
slice_get-second (x ∷ xs) ys n zero is = absurd (omega (arith, is))
slice_get-second (x ∷ xs) ys n (suc i) is = slice_get-second xs ys n i (omega (arith, is))

-- ---- the cells of a leader
-- the core that has the name of the slice's leader has them
pub cells_are : (cores : List Core) (slice : Slice) (at : ℕ) (core : Core) → AreApart cores → slice_get cores at ≡ Some core
    → is_key (slice.id.0, 1) (core_key core) ≡ true → cells_of_leader cores slice ≡ core.cells
cells_are cores slice at core apart there named =
    ap (flat_map (λ (one : Core). one.cells))
    (filter-alone (λ (one : Core). is_key (slice.id.0, 1) (core_key one)) cores at core there named
    (λ k other at_k is. core_alone cores k at other core apart at_k there (alike other is)))
    ∙ append-nil core.cells
  where
    alike : (other : Core) → is_key (slice.id.0, 1) (core_key other) ≡ true → other.core ≡ core.core
    alike other is =
        let own = and_parts (eqb slice.id.0 core.core.slice.0) (eqb 1 core.core.replica) named in
        let others = and_parts (eqb slice.id.0 other.core.slice.0) (eqb 1 other.core.replica) is in
        same_name_by other.core core.core
        (sym (eqb-true slice.id.0 other.core.slice.0 others.0) ∙ eqb-true slice.id.0 core.core.slice.0 own.0)
        (sym (eqb-true 1 other.core.replica others.1) ∙ eqb-true 1 core.core.replica own.1)

-- in cells whose ids ascend each id has one write at most
one_of_id : (cells : List Write) (id : List ℕ) → AscendById cells → filter (is_of id) cells ≡ option_to_list (write_of cells id)
unfolding IsStrictlySortedBy
one_of_id [] id ascend = refl
one_of_id (cell ∷ cells) id ascend = by (is_of id cell) refl (one_of_id cells id ascend.1) where
  by : (b : Bool) → is_of id cell ≡ b → filter (is_of id) cells ≡ option_to_list (write_of cells id)
      → cond b (cell ∷ filter (is_of id) cells) (filter (is_of id) cells) ≡ option_to_list (cond b (Some cell) (find (is_of id) cells))
  by false is rest = rest
  by true is rest =
      let none : write_of cells id ≡ None =
      subst (λ (one : List ℕ). write_of cells one ≡ None) (id_from_is_of id cell is) (write_of-below cells cell.id ascend.0) in
      ap (λ (others : List Write). cell ∷ others) (filter-missing (is_of id) cells none)

-- ---- all of them
-- the leader of an active slice has an id's last write where the slice has its hash, and else none of it
of_one_slice : (b : Bucket) (id : List ℕ) (slice : Slice) → IsSound b → Contains b.map slice → is_active slice ≡ true
    → filter (is_of id) (cells_of_leader b.replicas slice)
    ≡ cond (contains (route_hash id) (slice_bounds slice)) (option_to_list (last_write b.journal.entries id)) []
of_one_slice b id slice sound there passes =
    let active : slice.state ≡ states.Active = active_from_test slice.state passes in
    let (at, core, found, key) = element_from_map core_key b.replicas (slice.id.0, 1)
    (All-contains (λ (one : Slice). Contains (map core_key b.replicas) (one.id.0, 1)) b.map slice sound.cores.leaders there) in
    let its = its_leader b slice core sound there active (Contains-slice_get b.replicas at core found) (IsLeaderOf-from_key slice.id core key) in
    let by : (t : Bool) → contains (route_hash id) (slice_bounds slice) ≡ t
    → option_to_list (write_of core.cells id) ≡ cond t (option_to_list (last_write b.journal.entries id)) [] = λ t.
    elim t as (λ t. contains (route_hash id) (slice_bounds slice) ≡ t
    → option_to_list (write_of core.cells id) ≡ cond t (option_to_list (last_write b.journal.entries id)) []) [
      | true ↦ λ inside. ap option_to_list (its.has id ((contains-Decides (route_hash id) slice.range.min slice.range.max).0 inside))
      | false ↦ λ out. ap option_to_list (find-outside b.first b.journal.entries slice core.cells id sound.journal.legal its.written its.within out)
    ] in
    ap (filter (is_of id)) (cells_are b.replicas slice at core (AreApart-from_ascending b.replicas sound.cores.ascend) found (is_named core key))
    ∙ one_of_id core.cells id its.ascends
    ∙ by (contains (route_hash id) (slice_bounds slice)) refl
  where
    is_named : (core : Core) → core_key core ≡ (slice.id.0, 1) → is_key (slice.id.0, 1) (core_key core) ≡ true
    is_named core key =
        ap (is_key (slice.id.0, 1)) key ∙ ap (λ t. t && eqb 1 1) (eq-eqb slice.id.0 slice.id.0 refl)

-- so together they have the last write of each id
pub are_last_writes : (b : Bucket) → IsSound b → AreLastWrites b.journal.entries (served b)
are_last_writes b sound id =
    let active : List Slice = filter is_active b.map in
    let has : Slice → Bool = λ slice. contains (route_hash id) (slice_bounds slice) in
    let last : List Write = option_to_list (last_write b.journal.entries id) in
    let within : IsWithin least_hash greatest_hash (route_hash id) =
    fits_is_within (route_hash id) (sfits_to_z {w = w32} (record { fits = route_bits-lt id })) in
    let one : length (filter has active) ≡ 1 =
    length-filter has active ∙ sym (count_by-map slice_bounds (contains (route_hash id)) active)
    ∙ (bucket_has_map b sound.journal).tile.inside (route_hash id) within in
    filter-joined (is_of id) (cells_of_leader b.replicas) active
    ∙ joined-where (λ (slice : Slice). filter (is_of id) (cells_of_leader b.replicas slice)) has last active
    (All-weaker (Contains active) (λ (slice : Slice). filter (is_of id) (cells_of_leader b.replicas slice) ≡ cond (has slice) last [])
    (λ slice among. let kept = Contains-from_filter is_active b.map slice among in of_one_slice b id slice sound kept.0 kept.1)
    active (All-contains_itself active))
    ∙ joined-one last (filter has active) one

-- ---- counting them
-- so many cells come between those of the slices before a place and the one that is looked for
abbrev pub IsLeft : Bucket → (at left i : ℕ) → Type 0
IsLeft b at left i = length (flat_map (cells_of_leader b.replicas) (filter is_active (take at b.map))) + left ≡ i

-- the cells of the first slices and of the next
joined-next : (b : Bucket) (at : ℕ) (slice : Slice) → slice_get b.map at ≡ Some slice
    → flat_map (cells_of_leader b.replicas) (filter is_active (take (at + 1) b.map))
    ≡ flat_map (cells_of_leader b.replicas) (filter is_active (take at b.map))
    ++ flat_map (cells_of_leader b.replicas) (filter is_active (slice ∷ []))
joined-next b at slice there =
    ap (flat_map (cells_of_leader b.replicas)) (sym (filter_take-next is_active b.map at slice there))
    ∙ flat_map-append (cells_of_leader b.replicas) (filter is_active (take at b.map)) (filter is_active (slice ∷ []))

-- fewer come after the next slice, where it is active
pub left_after : (b : Bucket) (at left i : ℕ) (slice : Slice) → slice_get b.map at ≡ Some slice → slice.state ≡ states.Active
    → length (cells_of_leader b.replicas slice) ≤ left → IsLeft b at left i
    → IsLeft b (at + 1) (left - length (cells_of_leader b.replicas slice)) i
left_after b at left i slice there active enough so_far =
    let cells : List Write = cells_of_leader b.replicas slice in
    let before : List Write = flat_map (cells_of_leader b.replicas) (filter is_active (take at b.map)) in
    let one : flat_map (cells_of_leader b.replicas) (filter is_active (slice ∷ [])) ≡ cells =
    ap (λ t. flat_map (cells_of_leader b.replicas) (cond t (slice ∷ []) [])) (ap is_active_state active) ∙ append-nil cells in
    let longer = joined-next b at slice there ∙ ap (λ (rest : List Write). before ++ rest) one in
    omega (arith, ap (λ (these : List Write). length these) longer, length-append before cells, so_far, enough)

-- and as many where it is not
pub left_same : (b : Bucket) (at left i : ℕ) (slice : Slice) → slice_get b.map at ≡ Some slice → is_active slice ≡ false
    → IsLeft b at left i → IsLeft b (at + 1) left i
left_same b at left i slice there inactive so_far =
    let before : List Write = flat_map (cells_of_leader b.replicas) (filter is_active (take at b.map)) in
    let longer = joined-next b at slice there
    ∙ ap (λ t. before ++ flat_map (cells_of_leader b.replicas) (cond t (slice ∷ []) [])) inactive ∙ append-nil before in
    omega (arith, ap (λ (these : List Write). length these) longer, so_far)

-- the cell is one of the next slice's, where they are enough
pub left_inside : (b : Bucket) (at left i : ℕ) (slice : Slice) → slice_get b.map at ≡ Some slice → slice.state ≡ states.Active
    → left < length (cells_of_leader b.replicas slice) → IsLeft b at left i
    → slice_get (cells_of_leader b.replicas slice) left ≡ slice_get (served b) i
left_inside b at left i slice there active within so_far =
    let f : Slice → List Write = cells_of_leader b.replicas in
    let before : List Slice = filter is_active (take at b.map) in
    let after : List Slice = filter is_active (drop (at + 1) b.map) in
    let parts : filter is_active b.map ≡ before ++ slice ∷ after =
    ap (filter is_active) (sym (take-append-drop at b.map)) ∙ filter-append is_active (take at b.map) (drop at b.map)
    ∙ ap (λ (rest : List Slice). before ++ rest) (active_there b.map at slice true there (ap is_active_state active)) in
    let all : served b ≡ flat_map f before ++ (f slice ++ flat_map f after) =
    ap (flat_map f) parts ∙ flat_map-append f before (slice ∷ after) in
    sym (ap (λ (these : List Write). slice_get these i) all
    ∙ slice_get-second (flat_map f before) (f slice ++ flat_map f after) left i so_far
    ∙ slice_get-first (f slice) (flat_map f after) left within)

-- past the last slice there is none
pub left_past : (b : Bucket) (at left i : ℕ) → length b.map ≤ at → IsLeft b at left i → None ≡ slice_get (served b) i
left_past b at left i long so_far =
    let all : flat_map (cells_of_leader b.replicas) (filter is_active (take at b.map)) ≡ served b =
    ap (λ (slices : List Slice). flat_map (cells_of_leader b.replicas) (filter is_active slices)) (take_all at b.map long) in
    sym (slice_get_past (served b) i (omega (arith, ap (λ (these : List Write). length these) all, so_far)))
