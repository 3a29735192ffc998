-- In which seat the core of a number sits.
use Rattle.std.proofs.Common.{◌≡◌, ◌≢◌, ◌∙◌, ◌↔◌, ◌≤◌, ◌<◌, ℕ, ◌+◌, Bool, true, false, ◌&&◌, eqb, List, [], map, Option, Some, None, MatchOption, All, Contains, IsPermutation, refl, sym, ap, subst, arith}
use Rattle.std.specs.List.{range_with_len}
use Rattle.std.specs.Option.{unwrap_or}
use Rattle.std.proofs.lemmas.Bool.{eq-eqb, eqb-true, and_parts, false≢true}
use Rattle.std.proofs.lemmas.List.Elements.{All-contains, All-weaker, All-contains_itself}
use Rattle.std.proofs.lemmas.List.FromFn.{length-range_with_len, get_or-range_with_len}
use Rattle.std.proofs.lemmas.List.Sorted.{IsPermutation-sym, Contains-permutation}
use Rattle.sc_record.specs.declared.slice.SliceId.{SliceId}
use Rattle.sc_cluster.specs.declared.slice.State.TheVariants as states
use Rattle.sc_cluster.specs.declared.slice.Slice.{Slice}
use Rattle.sc_cluster.specs.Map.{IsMap}
use Rattle.sc_cluster.specs.Slices.{is_forming, forming}
use Rattle.sc_cluster.proofs.LeaderLemmas.{same_from_id}
use Rattle.sc_cluster.proofs.ListLemmas.{filter-none, Contains-map}
use Rattle.sc_cluster.proofs.PairLemmas.{Contains-from_map}
use Rattle.sc_cluster.proofs.StateLemmas.{active_settled}
use Rattle.sc_replica.specs.Core.{Core}
use Rattle.sc_journal.specs.Seats.{seats}
use Rattle.sc_journal.proofs.SeatLemmas.{seats_are_exchanged, seats_begin_in_order}
use Rattle.sc_journal.proofs.SumLemmas.{All-joined}
use Rattle.sc_bucket.specs.declared.bucket.Bucket.{Bucket}
use Rattle.sc_replicas.specs.Cores.{core_key, core_keys, slice_keys, is_numbered, HasCore}
use Rattle.sc_bucket.specs.Sound.{HasJournal, IsMarked, IsSound}
use Rattle.sc_bucket.proofs.DownLemmas.{slice_key}
use Rattle.sc_bucket.proofs.AcceptLemmas.{bucket_has_map}

-- the id of this number
same_id : (one other : SliceId) → one.0 ≡ other.0 → one ≡ other
same_id one other same = let make : ℕ → SliceId = λ n. record { 0 = n } in ap make same

-- a name of a map is that of a core of a slice of it
pub named_core : (slices : List Slice) (key : ℕ × ℕ) (id : SliceId) → Contains (core_keys slices) key → key.0 ≡ id.0 → HasCore slices id key.1
named_core slices key id there of_slice =
    let IsOfOne : ℕ × ℕ → Type 0 = λ other. (slice : Slice) × Contains slices slice × Contains (slice_keys slice) other in
    let each : All IsOfOne (core_keys slices) =
    All-joined IsOfOne slice_keys slices (λ slice inside.
    All-weaker (Contains (slice_keys slice)) IsOfOne (λ other among. (slice, inside, among)) (slice_keys slice)
    (All-contains_itself (slice_keys slice))) in
    let (slice, inside, among) = All-contains IsOfOne (core_keys slices) key each there in
    let (replica, (k, below, is), same) =
    Contains-from_map (λ (number : ℕ). (slice.id.0, number)) (range_with_len 1 slice.replicas) key among in
    let low : k < slice.replicas = omega (arith, below, length-range_with_len 1 slice.replicas) in
    let counted : 1 + k ≡ replica = sym (get_or-range_with_len 1 slice.replicas k replica low) ∙ is in
    let number : replica ≡ key.1 = ap (λ (pair : ℕ × ℕ). pair.1) same in (
      slice,
      inside,
      same_id slice.id id (ap (λ (pair : ℕ × ℕ). pair.0) same ∙ of_slice),
      omega (arith, counted, number),
      omega (arith, counted, number, low),
    )

-- each core has the number that the journal gives its seat
number_of : (b : Bucket) (core : Core) (id : SliceId) (seat : ℕ) → IsSound b → Contains b.replicas core
    → core.core.slice.0 ≡ id.0 → core.core.replica ≡ seat → core.number ≡ seats b.journal.entries id seat
number_of b core id seat sound there of_slice in_seat =
    let marked = All-contains (IsMarked b.journal.entries) b.replicas core sound.cores.marked there in
    marked.number ∙ ap (seats b.journal.entries core.core.slice) in_seat
    ∙ ap (λ (slice : SliceId). seats b.journal.entries slice seat) (same_id core.core.slice id of_slice)

-- a core of the number is in this seat
abbrev pub IsSeatOf : Bucket → SliceId → ℕ → ℕ → Type 0
IsSeatOf b id number seat = (core : Core) × Contains b.replicas core × (core.core.replica ≡ seat) × (is_numbered id number core ≡ true)

-- then it sits there by the journal too
seat_is : (b : Bucket) (id : SliceId) (number seat : ℕ) → IsSound b → IsSeatOf b id number seat
    → HasCore b.map id seat × (seats b.journal.entries id seat ≡ number)
seat_is b id number seat sound (core, there, in_seat, named) =
    let parts = and_parts (eqb id.0 core.core.slice.0) (eqb number core.number) named in
    let of_slice : id.0 ≡ core.core.slice.0 = eqb-true id.0 core.core.slice.0 parts.0 in
    let of_number : number ≡ core.number = eqb-true number core.number parts.1 in
    let key = All-contains (Contains (core_keys b.map)) (map core_key b.replicas) (core_key core) sound.cores.of_map
    (Contains-map core_key b.replicas core there) in (
      subst (HasCore b.map id) in_seat (named_core b.map (core_key core) id key (sym of_slice)),
      sym (number_of b core id seat sound there (sym of_slice) in_seat) ∙ sym of_number,
    )

-- no slice is being made as a bucket begins
pub first_idle : (b : Bucket) → HasJournal b → forming b.first ≡ []
first_idle b journal =
    filter-none is_forming b.first
    (All-weaker (λ (slice : Slice). slice.state ≡ states.Active) (λ slice. is_forming slice ≡ false) active_settled b.first journal.begins)

-- of a slice that no split is making the core of each number is there
number_there : (b : Bucket) (slice : Slice) (number : ℕ) → IsSound b → Contains b.map slice → is_forming slice ≡ false
    → 0 < number → number ≤ slice.replicas → (core : Core) × Contains b.replicas core × (is_numbered slice.id number core ≡ true)
number_there b slice number sound inside settled low high =
    let numbers : List ℕ = range_with_len 1 slice.replicas in
    let core_in : ℕ → ℕ = seats b.journal.entries slice.id in
    let exchanged : IsPermutation (map core_in numbers) numbers =
    seats_are_exchanged b.first b.journal.entries slice sound.journal.first (first_idle b sound.journal)
    sound.journal.legal (subst (λ (slices : List Slice). Contains slices slice) sound.journal.map_is inside) in
    let (replica, replica_there, alike) = Contains-from_map (λ (one : ℕ). (slice.id.0, one)) numbers (slice.id.0, number)
    (slice_key slice number low high) in
    let number_is : Contains numbers number =
    subst (Contains numbers) (ap (λ (pair : ℕ × ℕ). pair.1) alike) replica_there in
    let (seat, seat_there, is) = Contains-from_map core_in numbers number
    (Contains-permutation numbers (map core_in numbers) number (IsPermutation-sym (map core_in numbers) numbers exchanged)
    number_is) in
    let all = All-contains
    (λ (one : Slice). is_forming one ≡ false → All (Contains (map core_key b.replicas)) (slice_keys one)) b.map slice sound.cores.whole inside settled in
    let key : Contains (map core_key b.replicas) (slice.id.0, seat) =
    All-contains (Contains (map core_key b.replicas)) (slice_keys slice) (slice.id.0, seat) all
    (Contains-map (λ (replica : ℕ). (slice.id.0, replica)) numbers seat seat_there) in
    let (core, there, same) = Contains-from_map core_key b.replicas (slice.id.0, seat) key in
    let of_slice : core.core.slice.0 ≡ slice.id.0 = ap (λ (pair : ℕ × ℕ). pair.0) same in
    let of_number : core.number ≡ number =
    number_of b core slice.id seat sound there of_slice (ap (λ (pair : ℕ × ℕ). pair.1) same) ∙ is in (
      core,
      there,
      ap (λ b. b && eqb number core.number) (eq-eqb slice.id.0 core.core.slice.0 (sym of_slice)) ∙ eq-eqb number core.number (sym of_number),
    )

-- of a slice that a split is making each core sits in the seat of its number
forming_seat : (b : Bucket) (slice : Slice) (seat : ℕ) → IsSound b → Contains b.map slice → is_forming slice ≡ true
    → seats b.journal.entries slice.id seat ≡ seat
forming_seat b slice seat sound inside forms =
    seats_begin_in_order b.first b.journal.entries slice.id sound.journal.first (first_idle b sound.journal) sound.journal.legal
    (λ other among own.
    let there : Contains b.map other = subst (λ (slices : List Slice). Contains slices other) (sym sound.journal.map_is) among in
    ap is_forming (same_from_id b.map other slice (bucket_has_map b sound.journal) there inside own) ∙ forms) seat

-- so what is found by the number is its seat, and where none is found the core sits in the seat of its number
pub seat_found : (b : Bucket) (id : SliceId) (number : ℕ) (found : Option ℕ) → IsSound b → HasCore b.map id number
    → MatchOption found (All (λ (core : Core). is_numbered id number core ≡ false) b.replicas) (IsSeatOf b id number)
    → HasCore b.map id (unwrap_or found number) × (seats b.journal.entries id (unwrap_or found number) ≡ number)
seat_found b id number (Some seat) sound has is = seat_is b id number seat sound is
seat_found b id number None sound (slice, inside, own, low, high) none = by (is_forming slice) refl where
  by : (t : Bool) → is_forming slice ≡ t → HasCore b.map id number × (seats b.journal.entries id number ≡ number)
  by true forms = (
    (slice, inside, own, low, high),
    subst (λ (one : SliceId). seats b.journal.entries one number ≡ number) own (forming_seat b slice number sound inside forms),
  )
  by false settled =
      let (core, there, is) = number_there b slice number sound inside settled low high in
      let no : is_numbered id number core ≡ false =
      All-contains (λ (other : Core). is_numbered id number other ≡ false) b.replicas core none there in
      absurd (false≢true (sym no ∙ subst (λ (one : SliceId). is_numbered one number core ≡ true) own is))

-- a slice of the map has the cores of these numbers
pub has_core : (slices : List Slice) (slice : Slice) (id : SliceId) (number : ℕ) → IsMap slices → Contains slices slice → slice.id ≡ id
    → HasCore slices id number ↔ ((0 < number) × (number ≤ slice.replicas))
has_core slices slice id number is_map inside own = (
  λ (other, there, other_own, low, high).
      let same : other ≡ slice = same_from_id slices other slice is_map there inside (other_own ∙ sym own) in
      (low, subst (λ (one : Slice). number ≤ one.replicas) same high),
  λ (low, high). (slice, inside, own, low, high),
)

-- and a slice that is not there has none
pub has_no_core : (slices : List Slice) (id : SliceId) (number : ℕ) → All (λ (slice : Slice). slice.id ≢ id) slices
    → HasCore slices id number → ⊥
has_no_core slices id number none (slice, inside, own, low, high) =
    All-contains (λ (one : Slice). one.id ≢ id) slices slice none inside own
