-- The messages that send a write, as a loop over the cores of a slice and one over the slices of a map make them.
use Rattle.std.proofs.Common.{◌≡◌, ℕ, ℤ, ◌+◌, Bool, true, false, cond, not, ◌&&◌, List, [], ◌∷◌, ◌++◌, map, filter, take, slice_get, Some, refl, sym, ap, ◌∙◌}
use Rattle.std.specs.List.{flat_map}
use Rattle.std.specs.Arc.{arc_value}
use Rattle.std.proofs.lemmas.List.{map-id, append-nil, append_assoc, map-append, take_more}
use Rattle.std.proofs.lemmas.List.Elements.{filter-append}
use Rattle.std.proofs.lemmas.List.Concat.{flat_map-append}
use Rattle.std.proofs.lemmas.Simd.{map-map}
use Rattle.std.proofs.lemmas.Option.{slice_get_within, get_or_from_slice_get}
use Rattle.sc_record.specs.declared.slice.CoreId.{CoreId}
use Rattle.sc_record.specs.Writes.{Write}
use Rattle.sc_cluster.specs.declared.slice.Slice.{Slice}
use Rattle.sc_cluster.specs.Slices.{is_inactive}
use Rattle.sc_replica.specs.Core.{Core}
use Rattle.sc_bucket.specs.Kept.{Sent}
use Rattle.sc_bucket.specs.declared.message.Message.{Message}
use Rattle.sc_replicas.specs.Cores.{has_hash, follows, followers}
use Rattle.sc_bucket.specs.Flight.{sent_of, sent_to}
use Rattle.sc_replicas.proofs.CoreLemmas.{name_of}

-- the first items of a list, and the next
first_more : {X : Type 0} (xs : List X) (at : ℕ) (x : X) → slice_get xs at ≡ Some x → take (at + 1) xs ≡ take at xs ++ x ∷ []
first_more xs at x there =
    take_more xs at x (slice_get_within xs at x there) ∙ ap (λ y. take at xs ++ y ∷ []) (get_or_from_slice_get xs at x x there)

-- what one item more leaves of a filter
filter-one : {X : Type 0} (p : X → Bool) (x : X) (b : Bool) → p x ≡ b → filter p (x ∷ []) ≡ cond b (x ∷ []) []
filter-one p x true passes = rw passes refl
filter-one p x false fails = rw fails refl

-- a message as contracts see it, by its parts
pub sent_of-is : (message : Message) (place : ℕ) (core : CoreId) (write : Write) → message.place ≡ place → message.core ≡ core
    → arc_value message.write ≡ write → sent_of message ≡ record { place = place; core = core; write = write }
sent_of-is message place core write same_place same_core same_write = λ i. record {
  place = same_place i;
  core = same_core i;
  write = same_write i;
}

-- the messages to the first cores that pass, where the next passes too
pub sent_to-more : (p : Core → Bool) (place : ℕ) (write : Write) (cores : List Core) (at : ℕ) (core : Core) (before : List Sent)
    (items more : List Message) (message : Message) → slice_get cores at ≡ Some core → p core ≡ true
    → map sent_of items ≡ before ++ sent_to place write (map name_of (filter p (take at cores)))
    → more ≡ items ++ message ∷ [] → sent_of message ≡ record { place = place; core = core.core; write = write }
    → map sent_of more ≡ before ++ sent_to place write (map name_of (filter p (take (at + 1) cores)))
sent_to-more p place write cores at core before items more message there passes so_far is says =
    let first : List CoreId = map name_of (filter p (take at cores)) in
    let names : map name_of (filter p (take (at + 1) cores)) ≡ first ++ core.core ∷ [] =
    ap (λ (cs : List Core). map name_of (filter p cs)) (first_more cores at core there)
    ∙ ap (map name_of) (filter-append p (take at cores) (core ∷ []))
    ∙ ap (λ (cs : List Core). map name_of (filter p (take at cores) ++ cs)) (filter-one p core true passes)
    ∙ map-append name_of (filter p (take at cores)) (core ∷ []) in
    let one : Sent = record { place = place; core = core.core; write = write } in
    ap (map sent_of) is ∙ map-append sent_of items (message ∷ [])
    ∙ ap (λ (ms : List Sent). ms ++ sent_of message ∷ []) so_far
    ∙ ap (λ (m : Sent). (before ++ sent_to place write first) ++ m ∷ []) says
    ∙ append_assoc before (sent_to place write first) (one ∷ [])
    ∙ ap (λ (ms : List Sent). before ++ ms) (sym (map-append (λ (c : CoreId). record { place = place; core = c; write = write }) first (core.core ∷ [])))
    ∙ ap (λ (cs : List CoreId). before ++ sent_to place write cs) (sym names)

-- and where it doesn't
pub sent_to-same : (p : Core → Bool) (place : ℕ) (write : Write) (cores : List Core) (at : ℕ) (core : Core) (before all : List Sent)
    → slice_get cores at ≡ Some core → p core ≡ false
    → all ≡ before ++ sent_to place write (map name_of (filter p (take at cores)))
    → all ≡ before ++ sent_to place write (map name_of (filter p (take (at + 1) cores)))
sent_to-same p place write cores at core before all there fails so_far =
    let first : List Core = filter p (take at cores) in
    let names : map name_of (filter p (take (at + 1) cores)) ≡ map name_of first =
    ap (λ (cs : List Core). map name_of (filter p cs)) (first_more cores at core there)
    ∙ ap (map name_of) (filter-append p (take at cores) (core ∷ []))
    ∙ ap (λ (cs : List Core). map name_of (first ++ cs)) (filter-one p core false fails) ∙ ap (map name_of) (append-nil first) in
    so_far ∙ ap (λ (cs : List CoreId). before ++ sent_to place write cs) (sym names)

-- the slice's cores are sent a write of the hash
abbrev pub takes : ℤ → Slice → Bool
takes hash slice = not (is_inactive slice) && has_hash hash slice

-- the cores that follow in one slice
abbrev pub followers_in : List Core → CoreId → Slice → List CoreId
followers_in cores leader slice = map name_of (filter (follows leader slice) cores)

-- the messages to the followers of the first slices, where the next takes the write
pub followers-more : (place : ℕ) (write : Write) (slices : List Slice) (cores : List Core) (hash : ℤ) (leader : CoreId) (at : ℕ) (slice : Slice)
    (items more : List Message) → slice_get slices at ≡ Some slice → takes hash slice ≡ true
    → map sent_of items ≡ sent_to place write (followers (take at slices) cores hash leader)
    → map sent_of more ≡ map sent_of items ++ sent_to place write (followers_in cores leader slice)
    → map sent_of more ≡ sent_to place write (followers (take (at + 1) slices) cores hash leader)
followers-more place write slices cores hash leader at slice items more there passes so_far is =
    let each : Slice → List CoreId = followers_in cores leader in
    let first : List Slice = filter (takes hash) (take at slices) in
    let names : followers (take (at + 1) slices) cores hash leader ≡ followers (take at slices) cores hash leader ++ each slice =
    ap (λ (ss : List Slice). flat_map each (filter (takes hash) ss)) (first_more slices at slice there)
    ∙ ap (flat_map each) (filter-append (takes hash) (take at slices) (slice ∷ []))
    ∙ ap (λ (ss : List Slice). flat_map each (first ++ ss)) (filter-one (takes hash) slice true passes)
    ∙ flat_map-append each first (slice ∷ []) ∙ ap (λ (cs : List CoreId). flat_map each first ++ cs) (append-nil (each slice)) in
    is ∙ ap (λ (ms : List Sent). ms ++ sent_to place write (each slice)) so_far
    ∙ sym (map-append (λ (c : CoreId). record { place = place; core = c; write = write }) (followers (take at slices) cores hash leader) (each slice))
    ∙ ap (sent_to place write) (sym names)

-- and where it doesn't
pub followers-same : (place : ℕ) (write : Write) (slices : List Slice) (cores : List Core) (hash : ℤ) (leader : CoreId) (at : ℕ) (slice : Slice)
    (all : List Sent) → slice_get slices at ≡ Some slice → takes hash slice ≡ false
    → all ≡ sent_to place write (followers (take at slices) cores hash leader)
    → all ≡ sent_to place write (followers (take (at + 1) slices) cores hash leader)
followers-same place write slices cores hash leader at slice all there fails so_far =
    let each : Slice → List CoreId = followers_in cores leader in
    let first : List Slice = filter (takes hash) (take at slices) in
    let names : followers (take (at + 1) slices) cores hash leader ≡ followers (take at slices) cores hash leader =
    ap (λ (ss : List Slice). flat_map each (filter (takes hash) ss)) (first_more slices at slice there)
    ∙ ap (flat_map each) (filter-append (takes hash) (take at slices) (slice ∷ []))
    ∙ ap (λ (ss : List Slice). flat_map each (first ++ ss)) (filter-one (takes hash) slice false fails)
    ∙ ap (flat_map each) (append-nil first) in
    so_far ∙ ap (sent_to place write) (sym names)

-- whom the messages go to
pub names-sent : (place : ℕ) (write : Write) (names : List CoreId) (items : List Message) → map sent_of items ≡ sent_to place write names
    → map (λ (message : Message). message.core) items ≡ names
names-sent place write names items is =
    sym (map-map (λ (message : Sent). message.core) sent_of items) ∙ ap (map (λ (message : Sent). message.core)) is
    ∙ map-map (λ (message : Sent). message.core) (λ (core : CoreId). record { place = place; core = core; write = write }) names
    ∙ map-id names
